-- One step of the answers, and of what goes with them.
use Rattle.std.proofs.Common.{◌≡◌, ℕ, zero, suc, ◌+◌, ◌<◌, Bool, true, false, List, [], ◌∷◌, ◌++◌, drop, refl}
use Rattle.std.proofs.Common.{ap, ◌∙◌, arith, inl, inr, append-nil}
use Rattle.std.specs.Prelude.{if◌then◌else◌, ◌⊎◌}
use Rattle.warp_request.specs.Body.{BodyVerdict, body_of}
use Rattle.warp_request.specs.Lines.{has_line, skip_empty}
use Rattle.warp_request.specs.Next.{next_of, waits}
use Rattle.warp_request.specs.Verdict.{Verdict, more, Asked}
use Rattle.warp_request.specs.Verdict as head
use Rattle.warp_response.specs.Text.{answer_text, interim_text, refusal_text}
use Rattle.conn_loop.specs.Answers.{IsOpen, limit, closes, last_word, answers_at, answers_within}
use Rattle.conn_loop.specs.Answers.{answers_behind, finals_at, finals_within, closed_at, closed_within}
use Rattle.conn_loop.specs.Answers.{rest_at, rest_within}
use Rattle.conn_loop.specs.Replying.{Replying}
use Rattle.conn_loop.specs.FirstRequest.{FirstRequest, unfinished, refused, whole, first_request}
use Rattle.conn_loop.specs.FirstRequest.{first_by_head, first_by_body, interim_of, interim_by}

-- ---- what bytes begin with

-- by the verdict on the head
pub first_request_is : (s : List ℕ) (v : Verdict) → next_of s ≡ v → first_request s ≡ first_by_head s v
unfolding first_request
first_request_is s v is = ap (λ (w : Verdict). first_by_head s w) is

-- and by that on the body after it
pub first_request_asked : (s : List ℕ) (a : Asked) (v : BodyVerdict) → next_of s ≡ head.asked a
    → body_of a.framing (drop a.len s) ≡ v → first_request s ≡ first_by_body a v
first_request_asked s a v is says =
    first_request_is s (head.asked a) is ∙ ap (λ (w : BodyVerdict). first_by_body a w) says

pub interim_is : (s : List ℕ) (v : Verdict) → next_of s ≡ v → interim_of s ≡ interim_by v
unfolding interim_of
interim_is s v is = ap (λ (w : Verdict). interim_by w) is

pub first_request_more : (s : List ℕ) → next_of s ≡ more → first_request s ≡ unfinished
first_request_more s is = first_request_is s more is

-- ---- no final answer may follow, or no moment is there

pub behind_done : (reply : Replying) (s ks : List ℕ) → answers_behind reply zero s ks ≡ []
unfolding answers_behind
behind_done reply s ks = refl

pub within_done : (reply : Replying) (s ks : List ℕ) → answers_within reply zero s ks ≡ []
unfolding answers_within
within_done reply s ks = refl

pub finals_done : (k : ℕ) (s : List ℕ) → k ≡ 0 → finals_within k s ≡ 0
unfolding finals_within
finals_done zero s is = refl
finals_done (suc k) s is = absurd (omega (arith, is))

pub closed_done : (k : ℕ) (s : List ℕ) → k ≡ 0 → closed_within k s ≡ true
unfolding closed_within
closed_done zero s is = refl
closed_done (suc k) s is = absurd (omega (arith, is))

-- ---- the interim answer comes first

pub within_is : (reply : Replying) (k : ℕ) (s ks : List ℕ) → 0 < k
    → answers_within reply k s ks ≡ interim_of s ++ answers_behind reply k s ks
unfolding answers_within answers_behind
within_is reply zero s ks some = absurd (omega (arith, some))
within_is reply (suc k) s ks some = refl

-- where there is none, both are the same
pub within_behind : (reply : Replying) (k : ℕ) (s ks : List ℕ)
    → interim_of s ≡ [] → answers_within reply k s ks ≡ answers_behind reply k s ks
unfolding answers_within answers_behind
within_behind reply zero s ks none = refl
within_behind reply (suc k) s ks none = ap (λ (t : List ℕ). t ++ answers_behind reply (suc k) s ks) none

-- ---- no moment is there

-- by the verdict on the head there is no interim answer, or it is the one
interim_some : (v : Verdict) → (interim_by v ≡ []) ⊎ (interim_by v ≡ interim_text)
interim_some head.more = inl refl
interim_some (head.refused code) = inl refl
interim_some (head.asked a) =
    elim a.interim as (λ (b : Bool).
    ((if b then interim_text else []) ≡ []) ⊎ ((if b then interim_text else []) ≡ interim_text)) [
      | true ↦ inr refl
      | false ↦ inl refl
    ]

first_request_nothing : (reply : Replying) (first : FirstRequest) (k : ℕ) (behind : ℕ → List ℕ → List ℕ)
    → answers_at reply first k [] behind ≡ []
unfolding answers_at
first_request_nothing reply unfinished k behind = refl
first_request_nothing reply (refused code) k behind = refl
first_request_nothing reply (whole a len) k behind = refl

-- then nothing is due but an interim answer
pub within_nothing : (reply : Replying) (k : ℕ) (s : List ℕ)
    → (answers_within reply k s [] ≡ []) ⊎ (answers_within reply k s [] ≡ interim_text)
unfolding answers_within interim_of
within_nothing reply zero s = inl refl
within_nothing reply (suc k) s =
    let none = first_request_nothing reply (first_request s) k
    (λ len later. answers_within reply k (drop len s) later) in
    elim (interim_some (next_of s)) [
      | inl is ↦
          inl (ap (λ (v : List ℕ). interim_by (next_of s) ++ v) none ∙ append-nil (interim_by (next_of s))
          ∙ is)
      | inr is ↦
          inr (ap (λ (v : List ℕ). interim_by (next_of s) ++ v) none ∙ append-nil (interim_by (next_of s))
          ∙ is)
    ]

-- ---- a request that isn't whole

pub behind_unfinished : (reply : Replying) (k : ℕ) (s ks : List ℕ) → first_request s ≡ unfinished
    → answers_behind reply k s ks ≡ []
unfolding answers_behind answers_at
behind_unfinished reply zero s ks is = refl
behind_unfinished reply (suc k) s ks is = rw is refl

pub behind_whole : (reply : Replying) (k : ℕ) (s : List ℕ) (a : Asked) (len : ℕ)
    → first_request s ≡ whole a len → answers_behind reply k s [] ≡ []
unfolding answers_behind answers_at
behind_whole reply zero s a len is = refl
behind_whole reply (suc k) s a len is = rw is refl

pub finals_unfinished : (k : ℕ) (s : List ℕ) → first_request s ≡ unfinished → finals_within k s ≡ 0
unfolding finals_within finals_at
finals_unfinished zero s is = refl
finals_unfinished (suc k) s is = rw is refl

pub rest_unfinished : (k : ℕ) (s : List ℕ) → first_request s ≡ unfinished → rest_within k s ≡ s
unfolding rest_within rest_at
rest_unfinished zero s is = refl
rest_unfinished (suc k) s is = rw is refl

pub closed_unfinished : (k : ℕ) (s : List ℕ) → 0 < k → first_request s ≡ unfinished
    → closed_within k s ≡ false
unfolding closed_within closed_at
closed_unfinished zero s some is = absurd (omega (arith, some))
closed_unfinished (suc k) s some is = rw is refl

-- too little to say leaves the connection open
pub closed_more : (k : ℕ) (s : List ℕ) → 0 < k → next_of s ≡ more → closed_within k s ≡ false
closed_more k s some is = closed_unfinished k s some (first_request_more s is)

-- nothing closes nothing
nothing_next : next_of [] ≡ more
unfolding next_of waits has_line skip_empty
nothing_next = refl

pub open_nothing : IsOpen []
open_nothing = closed_more limit [] (omega arith) nothing_next

-- ---- a refusal

pub answers_refused : (reply : Replying) (k : ℕ) (s : List ℕ) (m : ℕ) (ks : List ℕ) (code : ℕ)
    → first_request s ≡ refused code
    → answers_behind reply (suc k) s (m ∷ ks) ≡ refusal_text code m
unfolding answers_behind answers_at
answers_refused reply k s m ks code is = rw is refl

pub finals_refused : (k : ℕ) (s : List ℕ) (code : ℕ) → first_request s ≡ refused code
    → finals_within (suc k) s ≡ 1 + finals_within 0 s
unfolding finals_within finals_at
finals_refused k s code is = rw is (omega arith)

pub closed_refused : (k : ℕ) (s : List ℕ) (code : ℕ) → first_request s ≡ refused code
    → closed_within (suc k) s ≡ closed_within 0 s
unfolding closed_within closed_at
closed_refused k s code is = rw is refl

pub rest_refused : (k : ℕ) (s : List ℕ) (code : ℕ) → first_request s ≡ refused code
    → rest_within (suc k) s ≡ rest_within 0 s
unfolding rest_within rest_at
rest_refused k s code is = rw is refl

-- ---- an answer

answers_unless : (reply : Replying) (b : Bool) (k : ℕ) (s ks : List ℕ)
    → (if b then [] else answers_within reply k s ks) ≡ answers_within reply (if b then 0 else k) s ks
unfolding answers_within
answers_unless reply true k s ks = refl
answers_unless reply false k s ks = refl

pub answers_whole : (reply : Replying) (k : ℕ) (s : List ℕ) (m : ℕ) (ks : List ℕ) (a : Asked) (len : ℕ)
    → first_request s ≡ whole a len
    → answers_behind reply (suc k) s (m ∷ ks) ≡ answer_text (reply a) m (last_word a k)
    ++ answers_within reply (if closes a k then 0 else k) (drop len s) ks
unfolding answers_behind answers_at
answers_whole reply k s m ks a len is =
    rw is
    (ap (λ (t : List ℕ). answer_text (reply a) m (last_word a k) ++ t)
    (answers_unless reply (closes a k) k (drop len s) ks))

finals_unless : (b : Bool) (k : ℕ) (s : List ℕ)
    → (if b then 0 else finals_within k s) ≡ finals_within (if b then 0 else k) s
unfolding finals_within
finals_unless true k s = refl
finals_unless false k s = refl

pub finals_whole : (k : ℕ) (s : List ℕ) (a : Asked) (len : ℕ) → first_request s ≡ whole a len
    → finals_within (suc k) s ≡ 1 + finals_within (if closes a k then 0 else k) (drop len s)
unfolding finals_within finals_at
finals_whole k s a len is = rw is (ap (λ (n : ℕ). 1 + n) (finals_unless (closes a k) k (drop len s)))

closed_unless : (b : Bool) (k : ℕ) (s : List ℕ)
    → (if b then true else closed_within k s) ≡ closed_within (if b then 0 else k) s
unfolding closed_within
closed_unless true k s = refl
closed_unless false k s = refl

pub closed_whole : (k : ℕ) (s : List ℕ) (a : Asked) (len : ℕ) → first_request s ≡ whole a len
    → closed_within (suc k) s ≡ closed_within (if closes a k then 0 else k) (drop len s)
unfolding closed_within closed_at
closed_whole k s a len is = rw is (closed_unless (closes a k) k (drop len s))

rest_unless : (b : Bool) (k : ℕ) (s : List ℕ)
    → (if b then s else rest_within k s) ≡ rest_within (if b then 0 else k) s
unfolding rest_within
rest_unless true k s = refl
rest_unless false k s = refl

pub rest_whole : (k : ℕ) (s : List ℕ) (a : Asked) (len : ℕ) → first_request s ≡ whole a len
    → rest_within (suc k) s ≡ rest_within (if closes a k then 0 else k) (drop len s)
unfolding rest_within rest_at
rest_whole k s a len is = rw is (rest_unless (closes a k) k (drop len s))

-- a whole request calls for a final answer
pub finals_some : (k : ℕ) (s : List ℕ) (a : Asked) (len : ℕ) → 0 < k → first_request s ≡ whole a len
    → 0 < finals_within k s
finals_some zero s a len some is = absurd (omega (arith, some))
finals_some (suc k) s a len some is = omega (arith, finals_whole k s a len is)
