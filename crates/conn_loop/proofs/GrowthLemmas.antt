-- The answers grow with the bytes and with the moments.
use Rattle.std.proofs.Common.{◌≡◌, ◌≢◌, ℕ, zero, suc, ◌+◌, ◌≤◌, Bool, true, false, List, [], ◌∷◌, ◌++◌}
use Rattle.std.proofs.Common.{length, drop, refl, sym, ap, ◌∙◌, subst, append_assoc, append-nil, arith}
use Rattle.std.proofs.Common.{length-drop}
use Rattle.std.specs.Prelude.{if◌then◌else◌}
use Rattle.std.proofs.lemmas.List.{drop-append-le}
use Rattle.warp_request.specs.Body.{BodyVerdict, body_of}
use Rattle.warp_request.specs.Body as body
use Rattle.warp_request.specs.Next.{next_of}
use Rattle.warp_request.specs.Verdict.{Verdict, more, Asked}
use Rattle.warp_request.specs.Verdict as head
use Rattle.warp_request.specs.BodyGrowthLaws.{body_stays, body_within}
use Rattle.warp_request.specs.GrowthLaws.{next_stays}
use Rattle.warp_response.specs.Text.{answer_text, refusal_text}
use Rattle.conn_loop.specs.Answers.{BeginsWith, closes, last_word, answers_at, answers_within, closed_at}
use Rattle.conn_loop.specs.Answers.{closed_within, finals_at, finals_within}
use Rattle.conn_loop.specs.Replying.{Replying}
use Rattle.conn_loop.specs.FirstRequest.{FirstRequest, unfinished, refused, whole, first_request}
use Rattle.conn_loop.specs.FirstRequest.{first_by_body, interim_of}
use Rattle.conn_loop.proofs.AnswerLemmas.{first_request_is, first_request_asked, first_request_more}
use Rattle.conn_loop.proofs.AnswerLemmas.{interim_is}
use Rattle.conn_loop.proofs.VerdictLemmas.{within_of}

-- ---- what bytes begin with stays, whatever follows

-- a body that is settled, after a head
body_first_request : (s t : List ℕ) (a : Asked) (v : BodyVerdict) → next_of s ≡ head.asked a
    → body_of a.framing (drop a.len s) ≡ v → v ≢ body.more
    → first_request (s ++ t) ≡ first_by_body a v
body_first_request s t a v is says settled =
    first_request_asked (s ++ t) a v (next_stays s t (head.asked a) is (λ e. cc))
    (ap (λ (u : List ℕ). body_of a.framing u) (drop-append-le a.len s t (within_of s a is))
    ∙ body_stays a.framing (drop a.len s) t v says settled)

first_request_behind : (s t : List ℕ) (a : Asked) (v : BodyVerdict) → next_of s ≡ head.asked a
    → body_of a.framing (drop a.len s) ≡ v → first_by_body a v ≢ unfinished
    → first_request (s ++ t) ≡ first_request s
first_request_behind s t a body.more is says settled = absurd (settled refl)
first_request_behind s t a (body.refused code) is says settled =
    body_first_request s t a (body.refused code) is says (λ e. cc)
    ∙ sym (first_request_asked s a (body.refused code) is says)
first_request_behind s t a (body.whole n) is says settled =
    body_first_request s t a (body.whole n) is says (λ e. cc)
    ∙ sym (first_request_asked s a (body.whole n) is says)

first_request_by : (s t : List ℕ) (v : Verdict) → next_of s ≡ v → first_request s ≢ unfinished
    → first_request (s ++ t) ≡ first_request s
first_request_by s t head.more is settled = absurd (settled (first_request_more s is))
first_request_by s t (head.refused code) is settled =
    first_request_is (s ++ t) (head.refused code) (next_stays s t (head.refused code) is (λ e. cc))
    ∙ sym (first_request_is s (head.refused code) is)
first_request_by s t (head.asked a) is settled =
    first_request_behind s t a (body_of a.framing (drop a.len s)) is refl
    (λ e. settled (first_request_asked s a (body_of a.framing (drop a.len s)) is refl ∙ e))

-- what is settled of a request stays, whatever bytes follow
pub first_request_stays : (s t : List ℕ) → first_request s ≢ unfinished
    → first_request (s ++ t) ≡ first_request s
first_request_stays s t settled = first_request_by s t (next_of s) refl settled

-- ---- a whole request lies in the bytes

body_long : (s : List ℕ) (a b : Asked) (len : ℕ) (v : BodyVerdict) → next_of s ≡ head.asked a
    → body_of a.framing (drop a.len s) ≡ v
    → first_by_body a v ≡ whole b len → len ≤ length s
body_long s a b len body.more is says same = cc
body_long s a b len (body.refused code) is says same = cc
body_long s a b len (body.whole n) is says same =
    let long : a.len + n ≡ len = cc in
    omega (arith, long, body_within a.framing (drop a.len s) n says, length-drop a.len s, within_of s a is)

long_by : (s : List ℕ) (b : Asked) (len : ℕ) (v : Verdict) → next_of s ≡ v
    → first_request s ≡ whole b len → len ≤ length s
long_by s b len head.more is same = let none = sym (first_request_more s is) ∙ same in cc
long_by s b len (head.refused code) is same =
    let none = sym (first_request_is s (head.refused code) is) ∙ same in
    cc
long_by s b len (head.asked a) is same =
    let v = body_of a.framing (drop a.len s) in
    body_long s a b len v is refl (sym (first_request_asked s a v is refl) ∙ same)

pub first_request_long : (s : List ℕ) (b : Asked) (len : ℕ) → first_request s ≡ whole b len → len ≤ length s
first_request_long s b len same = long_by s b len (next_of s) refl same

-- ---- the answers

begins_behind : (text a b : List ℕ) → BeginsWith a b → BeginsWith (text ++ a) (text ++ b)
begins_behind text a b x = (x.0, ap (λ (t : List ℕ). text ++ t) x.1 ∙ sym (append_assoc text b x.0))

begins_unless : (closed : Bool) (a b : List ℕ) → BeginsWith a b
    → BeginsWith (if closed then [] else a) (if closed then [] else b)
begins_unless true a b x = ([], refl)
begins_unless false a b x = x

begins_same : (a : List ℕ) → BeginsWith a a
begins_same a = ([], sym (append-nil a))

at_first_request : (reply : Replying) (k : ℕ) (s t ms ks : List ℕ) (v : FirstRequest) → first_request s ≡ v
    → ((len : ℕ) (m : ℕ) (later : List ℕ)
    → BeginsWith (answers_within reply k (drop len s ++ t) (later ++ ks))
    (answers_within reply k (drop len s) later))
    → BeginsWith (answers_at reply (first_request (s ++ t)) k (ms ++ ks)
    (λ len later. answers_within reply k (drop len (s ++ t)) later))
    (answers_at reply v k ms (λ len later. answers_within reply k (drop len s) later))
unfolding answers_at
at_first_request reply k s t ms ks unfinished is again = (_, refl)
at_first_request reply k s t [] ks (refused code) is again = (_, refl)
at_first_request reply k s t (m ∷ ms) ks (refused code) is again =
    rw (first_request_stays s t (λ e. let not = sym is ∙ e in cc), is) (begins_same (refusal_text code m))
at_first_request reply k s t [] ks (whole a len) is again = (_, refl)
at_first_request reply k s t (m ∷ ms) ks (whole a len) is again =
    rw (
      first_request_stays s t (λ e. let not = sym is ∙ e in cc),
      is,
      drop-append-le len s t (first_request_long s a len is),
    )
    (begins_behind (answer_text (reply a) m (last_word a k)) _ _
    (begins_unless (closes a k) _ _ (again len m ms)))

-- the interim answer stays
interim_stays : (s t : List ℕ) (v : Verdict) → next_of s ≡ v → v ≢ more → interim_of (s ++ t) ≡ interim_of s
interim_stays s t v is settled = interim_is (s ++ t) v (next_stays s t v is settled) ∙ sym (interim_is s v is)

begins_first_request : (a b c d : List ℕ) → a ≡ b → BeginsWith c d → BeginsWith (a ++ c) (b ++ d)
begins_first_request a b c d same x =
    subst (λ (t : List ℕ). BeginsWith (t ++ c) (b ++ d)) (sym same) (begins_behind b c d x)

at_head : (reply : Replying) (k : ℕ) (s t ms ks : List ℕ) (v : Verdict) → next_of s ≡ v
    → ((len : ℕ) (m : ℕ) (later : List ℕ)
    → BeginsWith (answers_within reply k (drop len s ++ t) (later ++ ks))
    (answers_within reply k (drop len s) later))
    → BeginsWith (interim_of (s ++ t) ++ answers_at reply (first_request (s ++ t)) k (ms ++ ks)
    (λ len later. answers_within reply k (drop len (s ++ t)) later))
    (interim_of s ++ answers_at reply (first_request s) k ms
    (λ len later. answers_within reply k (drop len s) later))
unfolding answers_at
at_head reply k s t ms ks head.more is again = rw (interim_is s more is, first_request_more s is) (_, refl)
at_head reply k s t ms ks (head.refused code) is again =
    begins_first_request _ _ _ _ (interim_stays s t (head.refused code) is (λ e. cc))
    (at_first_request reply k s t ms ks (first_request s) refl again)
at_head reply k s t ms ks (head.asked a) is again =
    begins_first_request _ _ _ _ (interim_stays s t (head.asked a) is (λ e. cc))
    (at_first_request reply k s t ms ks (first_request s) refl again)

-- where the bytes and the moments go on, so do the answers
pub answers_grow : (reply : Replying) (k : ℕ) (s t ms ks : List ℕ)
    → BeginsWith (answers_within reply k (s ++ t) (ms ++ ks)) (answers_within reply k s ms)
unfolding answers_within
answers_grow reply zero s t ms ks = ([], refl)
answers_grow reply (suc k) s t ms ks =
    at_head reply k s t ms ks (next_of s) refl (λ len m later. answers_grow reply k (drop len s) t later ks)

-- ---- moments enough

enough_unless : (b : Bool) (n : ℕ) (ms x y : List ℕ) → (if b then 0 else n) ≤ length ms
    → (n ≤ length ms → x ≡ y) → (if b then [] else x) ≡ (if b then [] else y)
enough_unless true n ms x y few again = refl
enough_unless false n ms x y few again = again few

enough_at : (reply : Replying) (k : ℕ) (s ms ks : List ℕ) (v : FirstRequest)
    → finals_at v k (λ len. finals_within k (drop len s)) ≤ length ms
    → ((len : ℕ) (later : List ℕ) → finals_within k (drop len s) ≤ length later
    → answers_within reply k (drop len s) (later ++ ks) ≡ answers_within reply k (drop len s) later)
    → answers_at reply v k (ms ++ ks) (λ len later. answers_within reply k (drop len s) later)
    ≡ answers_at reply v k ms (λ len later. answers_within reply k (drop len s) later)
unfolding answers_at finals_at
enough_at reply k s ms ks unfinished few again = refl
enough_at reply k s [] ks (refused code) few again = absurd (omega (arith, few))
enough_at reply k s (m ∷ ms) ks (refused code) few again = refl
enough_at reply k s [] ks (whole a len) few again = absurd (omega (arith, few))
enough_at reply k s (m ∷ ms) ks (whole a len) few again =
    ap (λ (t : List ℕ). answer_text (reply a) m (last_word a k) ++ t)
    (enough_unless (closes a k) (finals_within k (drop len s)) ms _ _ (omega (arith, few)) (again len ms))

-- moments beyond those that the bytes call for change nothing
pub moments_enough : (reply : Replying) (k : ℕ) (s ms ks : List ℕ) → finals_within k s ≤ length ms
    → answers_within reply k s (ms ++ ks) ≡ answers_within reply k s ms
unfolding answers_within finals_within
moments_enough reply zero s ms ks few = refl
moments_enough reply (suc k) s ms ks few =
    ap (λ (t : List ℕ). interim_of s ++ t)
    (enough_at reply k s ms ks (first_request s) few
    (λ len later fewer. moments_enough reply k (drop len s) later ks fewer))

-- ---- after an answer that closes

closed_settles : (k : ℕ) (f : ℕ → Bool) (v : FirstRequest) → closed_at v k f ≡ true → v ≢ unfinished
unfolding closed_at
closed_settles k f unfinished closed = cc
closed_settles k f (refused code) closed = λ e. cc
closed_settles k f (whole a len) closed = λ e. cc

interim_settled : (s t : List ℕ) (v : Verdict) → next_of s ≡ v → first_request s ≢ unfinished
    → interim_of (s ++ t) ≡ interim_of s
interim_settled s t head.more is settled = absurd (settled (first_request_more s is))
interim_settled s t (head.refused code) is settled = interim_stays s t (head.refused code) is (λ e. cc)
interim_settled s t (head.asked a) is settled = interim_stays s t (head.asked a) is (λ e. cc)

stays_unless : {A : Type 0} (b c : Bool) (x y z : A) → (if b then true else c) ≡ true
    → (c ≡ true → y ≡ z) → (if b then x else y) ≡ (if b then x else z)
stays_unless true c x y z closed again = refl
stays_unless false c x y z closed again = again closed

finals_stay_at : (k : ℕ) (s t : List ℕ) (v : FirstRequest) → first_request s ≡ v
    → closed_at v k (λ len. closed_within k (drop len s)) ≡ true
    → ((len : ℕ) → closed_within k (drop len s) ≡ true
    → finals_within k (drop len s ++ t) ≡ finals_within k (drop len s))
    → finals_at (first_request (s ++ t)) k (λ len. finals_within k (drop len (s ++ t)))
    ≡ finals_at v k (λ len. finals_within k (drop len s))
unfolding finals_at closed_at
finals_stay_at k s t unfinished is closed again = cc
finals_stay_at k s t (refused code) is closed again =
    rw (first_request_stays s t (λ e. let not = sym is ∙ e in cc), is) refl
finals_stay_at k s t (whole a len) is closed again =
    rw (
      first_request_stays s t (λ e. let not = sym is ∙ e in cc),
      is,
      drop-append-le len s t (first_request_long s a len is),
    )
    (ap (λ (n : ℕ). 1 + n)
    (stays_unless (closes a k) (closed_within k (drop len s)) 0 _ _ closed (again len)))

-- after an answer that closes no further one is called for
pub finals_stay : (k : ℕ) (s t : List ℕ) → closed_within k s ≡ true
    → finals_within k (s ++ t) ≡ finals_within k s
unfolding finals_within closed_within
finals_stay zero s t closed = refl
finals_stay (suc k) s t closed =
    finals_stay_at k s t (first_request s) refl closed (λ len more. finals_stay k (drop len s) t more)

closed_stay_at : (k : ℕ) (s t : List ℕ) (v : FirstRequest) → first_request s ≡ v
    → closed_at v k (λ len. closed_within k (drop len s)) ≡ true
    → ((len : ℕ) → closed_within k (drop len s) ≡ true
    → closed_within k (drop len s ++ t) ≡ closed_within k (drop len s))
    → closed_at (first_request (s ++ t)) k (λ len. closed_within k (drop len (s ++ t)))
    ≡ closed_at v k (λ len. closed_within k (drop len s))
unfolding closed_at
closed_stay_at k s t unfinished is closed again = cc
closed_stay_at k s t (refused code) is closed again =
    rw (first_request_stays s t (λ e. let not = sym is ∙ e in cc), is) refl
closed_stay_at k s t (whole a len) is closed again =
    rw (
      first_request_stays s t (λ e. let not = sym is ∙ e in cc),
      is,
      drop-append-le len s t (first_request_long s a len is),
    )
    (stays_unless (closes a k) (closed_within k (drop len s)) true _ _ closed (again len))

-- and it still closes
pub closed_stay : (k : ℕ) (s t : List ℕ) → closed_within k s ≡ true
    → closed_within k (s ++ t) ≡ closed_within k s
unfolding closed_within
closed_stay zero s t closed = refl
closed_stay (suc k) s t closed =
    closed_stay_at k s t (first_request s) refl closed (λ len more. closed_stay k (drop len s) t more)

answers_stay_at : (reply : Replying) (k : ℕ) (s t ms : List ℕ) (v : FirstRequest) → first_request s ≡ v
    → closed_at v k (λ len. closed_within k (drop len s)) ≡ true
    → ((len : ℕ) (later : List ℕ) → closed_within k (drop len s) ≡ true
    → answers_within reply k (drop len s ++ t) later ≡ answers_within reply k (drop len s) later)
    → answers_at reply (first_request (s ++ t)) k ms
    (λ len later. answers_within reply k (drop len (s ++ t)) later)
    ≡ answers_at reply v k ms (λ len later. answers_within reply k (drop len s) later)
unfolding answers_at closed_at
answers_stay_at reply k s t ms unfinished is closed again = cc
answers_stay_at reply k s t [] (refused code) is closed again =
    rw (first_request_stays s t (λ e. let not = sym is ∙ e in cc), is) refl
answers_stay_at reply k s t (m ∷ ms) (refused code) is closed again =
    rw (first_request_stays s t (λ e. let not = sym is ∙ e in cc), is) refl
answers_stay_at reply k s t [] (whole a len) is closed again =
    rw (first_request_stays s t (λ e. let not = sym is ∙ e in cc), is) refl
answers_stay_at reply k s t (m ∷ ms) (whole a len) is closed again =
    rw (
      first_request_stays s t (λ e. let not = sym is ∙ e in cc),
      is,
      drop-append-le len s t (first_request_long s a len is),
    )
    (ap (λ (u : List ℕ). answer_text (reply a) m (last_word a k) ++ u)
    (stays_unless (closes a k) (closed_within k (drop len s)) [] _ _ closed (again len ms)))

-- the answers up to one that closes are all, whatever bytes follow
pub answers_stay : (reply : Replying) (k : ℕ) (s t ms : List ℕ) → closed_within k s ≡ true
    → answers_within reply k (s ++ t) ms ≡ answers_within reply k s ms
unfolding answers_within closed_within
answers_stay reply zero s t ms closed = refl
answers_stay reply (suc k) s t ms closed =
    ap (λ (u : List ℕ). u ++ answers_at reply (first_request (s ++ t)) k ms
    (λ len later. answers_within reply k (drop len (s ++ t)) later))
    (interim_settled s t (next_of s) refl (closed_settles k _ (first_request s) closed))
    ∙ ap (λ (u : List ℕ). interim_of s ++ u)
    (answers_stay_at reply k s t ms (first_request s) refl closed
    (λ len later more. answers_stay reply k (drop len s) t later more))
