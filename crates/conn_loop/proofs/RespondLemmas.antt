-- What an answer makes of what a connection stands for: its head is made, and its content is to be sent.
use Rattle.std.proofs.Common.{◌≡◌, ℕ, ◌+◌, ◌*◌, ◌^◌, ◌<◌, ◌≤◌, Bool, true, false, List, [], ◌∷◌, ◌++◌, length}
use Rattle.std.proofs.Common.{drop, Option, Some, None, refl, sym, ap, ◌∙◌, subst, arith, append-nil}
use Rattle.std.proofs.Common.{append_assoc}
use Rattle.std.specs.Prelude.{if◌then◌else◌, nat_lt}
use Rattle.std.proofs.lemmas.Bool.Decides.{nat_tests}
use Rattle.std.proofs.lemmas.List.{nil_from_length}
use Rattle.outside.specs.Causes.{LinkTold}
use Rattle.outside.specs.Folder.{Folder, Content}
use Rattle.httparse.specs.Spans.{span_bytes}
use Rattle.warp_request.specs.Verdict.{Asked}
use Rattle.warp_request.specs.declared.verdict.HeadInfo.{HeadInfo}
use Rattle.conn_loop.specs.Heads.{asked_in}
use Rattle.warp_response.specs.declared.response.Content as held
use Rattle.warp_response.specs.declared.response.Content.TheVariants as kept
use Rattle.warp_response.specs.declared.response.Response.{Response}
use Rattle.warp_response.specs.Head.{head_text}
use Rattle.warp_response.specs.Reply.{Reply, IsResponseFor, IsSendable, head_of, sent_bytes}
use Rattle.warp_response.specs.Text.{answer_text}
use Rattle.app_trait.specs.declared.app.Move.{Move}
use Rattle.app_trait.specs.declared.app.Move.TheVariants.{Look, Answer}
use Rattle.app_trait.specs.declared.request.Seen.{Seen}
use Rattle.app_trait.specs.declared.request.Seen.TheVariants.{Nothing, FirstFound, FirstAbsent, SecondFound}
use Rattle.app_trait.specs.declared.request.Seen.TheVariants.{SecondAbsent}
use Rattle.app_trait.specs.Moves.{RequestText, AppMove, Moves, IsProperMove, answer}
use Rattle.app_trait.specs.Moves as app
use Rattle.app_trait.specs.Shown.{file_shown, move_shown, outline_of, FitsFound, Fits, FitsMove}
use Rattle.app_trait.specs.ReplyTo.{reply_after, SawFound, content_filled}
use Rattle.app_trait.specs.ReplyLaws.{reply_after-answer, IsResponseFor-reply_after, IsSendable-proper}
use Rattle.conn_loop.specs.declared.step.Step.TheVariants.{WantFile}
use Rattle.conn_loop.specs.Answers.{closes, last_word}
use Rattle.conn_loop.specs.Moves.{AsksToLook, Decides, Responds, SendsSize, SizeFits, stage_behind}
use Rattle.conn_loop.specs.Phases.{HasFound}
use Rattle.conn_loop.specs.Replying.{Serving, replies, request_of, serving_over}
use Rattle.conn_loop.specs.Stages.{Stage, unread, ready, sending, wanting, body_steps, bytes_of, leased_bytes}
use Rattle.conn_loop.specs.Stages.{steps_left, unread_at, LiesAhead}
use Rattle.conn_loop.specs.ConnState.{ConnState, Accounts, HasLooked, IsAt, IsSending, Looks, due_of}
use Rattle.conn_loop.specs.Steps.{CanSend, Comes, ComesFor, HasWay, SendableMove, to_go}
use Rattle.conn_loop.proofs.AheadLemmas.{IsUnanswered}
use Rattle.conn_loop.proofs.AccountLemmas.{accounts_lies, accounts_respond}
use Rattle.conn_loop.proofs.AccountImpliesLemmas.{fewer_of}
use Rattle.conn_loop.proofs.ToldLemmas.{told_kept}

-- what a whole request is, its stage says
pub ready_asked : (a b : Asked) (n m : ℕ) (s t : Seen) (p q : List ℕ) → ready a n s p ≡ ready b m t q → a ≡ b
ready_asked a b n m s t p q is = cc

pub ready_behind : (a b : Asked) (n m : ℕ) (s t : Seen) (p q : List ℕ) → ready a n s p ≡ ready b m t q → n ≡ m
ready_behind a b n m s t p q is = cc

pub ready_seen : (a b : Asked) (n m : ℕ) (s t : Seen) (p q : List ℕ) → ready a n s p ≡ ready b m t q → s ≡ t
ready_seen a b n m s t p q is = cc

-- what was made can be sent
pub answer_sent : (moves : Moves) (request : RequestText) (seen : Seen) (move : Move) (path : List ℕ)
    → IsProperMove seen (moves request seen)
    → move_shown request.target move path ≡ moves request seen → FitsMove request.target seen move
    → length request.target ≤ 8192 → SendableMove request.target move
answer_sent moves request seen Look path proper is fits short = tt
answer_sent moves request seen (Answer r) path proper is fits short =
    IsSendable-proper request.target r seen
    (subst (λ (m : AppMove). IsProperMove seen m) (sym is) proper) fits short

-- where a file is sent, the lease is of one with its size
pub sends_size : (seen : Seen) (content : held.Content) (size : Option ℕ) → FitsFound seen content
    → HasFound seen size → SendsSize content size
sends_size seen kept.None size fits x = tt
sends_size seen kept.Empty size fits x = tt
sends_size seen (kept.File n false) size fits x = tt
sends_size Nothing (kept.File n true) size fits x = absurd fits
sends_size (FirstFound m mtime) (kept.File n true) size fits x = x ∙ ap (λ (k : ℕ). Some k) (sym fits)
sends_size FirstAbsent (kept.File n true) size fits x = absurd fits
sends_size (SecondFound m mtime) (kept.File n true) size fits x = x ∙ ap (λ (k : ℕ). Some k) (sym fits)
sends_size SecondAbsent (kept.File n true) size fits x = absurd fits

-- a response that can be sent is so to the target of the head
pub can_target : (stage : Stage) (input : List ℕ) (head : HeadInfo) (behind : ℕ) (seen : Seen)
    (path target : List ℕ) (response : Response)
    → stage ≡ ready (asked_in input head) behind seen path → target ≡ span_bytes input head.target
    → CanSend response stage → Fits target seen response × IsSendable target response
can_target stage input head behind seen path target response was is can =
    let at : ready can.0 can.1 can.2 can.3 ≡ ready (asked_in input head) behind seen path = sym can.4 ∙ was in
    let a : can.0 ≡ asked_in input head =
    ready_asked can.0 (asked_in input head) can.1 behind can.2 seen can.3 path at in
    let s : can.2 ≡ seen = ready_seen can.0 (asked_in input head) can.1 behind can.2 seen can.3 path at in
    let t : can.0.target ≡ target = ap (λ (v : Asked). v.target) a ∙ sym is in (
      subst (λ (v : List ℕ). Fits v seen response) t
          (subst (λ (v : Seen). Fits can.0.target v response) s can.5),
      subst (λ (v : List ℕ). IsSendable v response) t can.6,
    )

-- and its head fits after what was made
pub way_fits : (c : ConnState) (input : List ℕ) (head : HeadInfo) (behind : ℕ) (seen : Seen)
    (path target : List ℕ)
    → c.stage ≡ ready (asked_in input head) behind seen path → target ≡ span_bytes input head.target
    → HasWay c → length c.pending + (512 + 2 * length target) ≤ 16896
way_fits c input head behind seen path target was is way =
    let at : ready way.0 way.1 way.2 way.3 ≡ ready (asked_in input head) behind seen path = sym way.4 ∙ was in
    let a : way.0 ≡ asked_in input head =
    ready_asked way.0 (asked_in input head) way.1 behind way.2 seen way.3 path at in
    omega (arith, way.5, ap (λ (v : Asked). length v.target) a, ap (λ (v : List ℕ). length v) is)

-- ---- the content

-- the file that was found is the lease's
leased_is : (folder : Folder) (look : Option Content) (lease : Option (List ℕ)) (content : Content)
    → look ≡ Some content → IsAt folder look lease
    → leased_bytes folder lease ≡ content.0
leased_is folder None lease content is at = cc
leased_is folder (Some c) None content is at = absurd at
leased_is folder (Some c) (Some p) content is at = ap (λ (o : Option Content). bytes_of o) (at ∙ is)

send_at : (folder : Folder) (lease : Option (List ℕ)) (size : ℕ) (b : Bool) → nat_lt 0 size ≡ b
    → length (leased_bytes folder lease) ≡ size
    → unread_at (if b then sending 0 size else unread) folder lease ≡ leased_bytes folder lease
send_at folder lease size true is long = refl
send_at folder lease size false is long =
    sym (nil_from_length (leased_bytes folder lease) (grind (arith, nat_tests)))

-- after a head with a file of this size, that file's bytes are to be sent
send_all : (folder : Folder) (lease : Option (List ℕ)) (size : ℕ) → length (leased_bytes folder lease) ≡ size
    → unread_at (stage_behind (kept.File size true)) folder lease ≡ leased_bytes folder lease
send_all folder lease size long = send_at folder lease size (nat_lt 0 size) refl long

filled_sends : (content : Content) (look : Option Content) → look ≡ Some content
    → sent_bytes (content_filled (app.found true) look) ≡ content.0
filled_sends content look is = rw is refl

filled_none : (look : Option Content) → sent_bytes (content_filled (app.found false) look) ≡ []
filled_none None = refl
filled_none (Some content) = refl

send_found : (folder : Folder) (look : Option Content) (lease : Option (List ℕ)) (n size : ℕ)
    (saw : (content : Content) × (look ≡ Some content) × (n ≡ length content.0))
    → size ≡ n
    → IsAt folder look lease → unread_at (stage_behind (kept.File size true)) folder lease
    ≡ sent_bytes (content_filled (app.found true) look)
send_found folder look lease n size saw fits at =
    let bytes : leased_bytes folder lease ≡ saw.0.0 = leased_is folder look lease saw.0 saw.1 at in
    send_all folder lease size (ap (λ (v : List ℕ). length v) bytes ∙ sym (fits ∙ saw.2))
    ∙ bytes ∙ sym (filled_sends saw.0 look saw.1)

-- what is to be read of the file is what the reply sends
pub content_behind : (folder : Folder) (content : held.Content)
    (seen : Seen) (look : Option Content) (lease : Option (List ℕ))
    → FitsFound seen content → SawFound seen look
    → IsAt folder look lease
    → unread_at (stage_behind content) folder lease ≡ sent_bytes (content_filled (file_shown content) look)
content_behind folder kept.None seen look lease fits saw at = refl
content_behind folder kept.Empty seen look lease fits saw at = refl
content_behind folder (kept.File size false) seen look lease fits saw at = sym (filled_none look)
content_behind folder (kept.File size true) Nothing look lease fits saw at = absurd fits
content_behind folder (kept.File size true) (FirstFound n mtime) look lease fits saw at =
    send_found folder look lease n size (saw.0, saw.1, saw.2) fits at
content_behind folder (kept.File size true) FirstAbsent look lease fits saw at = absurd fits
content_behind folder (kept.File size true) (SecondFound n mtime) look lease fits saw at =
    send_found folder look lease n size (saw.0, saw.1, saw.2) fits at
content_behind folder (kept.File size true) SecondAbsent look lease fits saw at = absurd fits

-- what is ahead lies in the input
lies_sends : (size : ℕ) (input : List ℕ) → LiesAhead (stage_behind (kept.File size true)) false input input
lies_sends size input =
    elim (nat_lt 0 size) as (λ (b : Bool).
    LiesAhead (if b then sending 0 size else unread) false input input) [
      | true ↦ (refl, refl)
      | false ↦ (refl, refl)
    ]

lies_behind : (content : held.Content) (input : List ℕ) → LiesAhead (stage_behind content) false input input
lies_behind kept.None input = (refl, refl)
lies_behind kept.Empty input = (refl, refl)
lies_behind (kept.File size false) input = (refl, refl)
lies_behind (kept.File size true) input = lies_sends size input

looks_sends : (serving : Serving) (lease : Option (List ℕ)) (size : ℕ) → IsSending serving lease
    → length (leased_bytes serving.folder lease) ≡ size
    → Looks serving (stage_behind (kept.File size true)) lease
looks_sends serving lease size sends long =
    elim (nat_lt 0 size) as (λ (b : Bool). Looks serving (if b then sending 0 size else unread) lease) [
      | true ↦ (sends, long)
      | false ↦ tt
    ]

looks_found : (serving : Serving) (a : Asked) (look : Option Content) (lease : Option (List ℕ))
    (n size : ℕ) (saw : (content : Content) × (look ≡ Some content) × (n ≡ length content.0))
    → size ≡ n
    → IsAt serving.folder look lease
    → sent_bytes (replies serving a).content ≡ sent_bytes (content_filled (app.found true) look)
    → Looks serving (stage_behind (kept.File size true)) lease
looks_found serving a look lease n size saw fits at sends =
    let bytes : leased_bytes serving.folder lease ≡ saw.0.0 =
    leased_is serving.folder look lease saw.0 saw.1 at in
    looks_sends serving lease size
    (record { a = a; content = sends ∙ filled_sends saw.0 look saw.1 ∙ sym bytes })
    (ap (λ (v : List ℕ). length v) bytes ∙ sym (fits ∙ saw.2))

looks_behind : (serving : Serving) (a : Asked) (content : held.Content)
    (seen : Seen) (look : Option Content) (lease : Option (List ℕ))
    → FitsFound seen content → SawFound seen look
    → IsAt serving.folder look lease
    → sent_bytes (replies serving a).content ≡ sent_bytes (content_filled (file_shown content) look)
    → Looks serving (stage_behind content) lease
looks_behind serving a kept.None seen look lease fits saw at sends = tt
looks_behind serving a kept.Empty seen look lease fits saw at sends = tt
looks_behind serving a (kept.File size false) seen look lease fits saw at sends = tt
looks_behind serving a (kept.File size true) Nothing look lease fits saw at sends = absurd fits
looks_behind serving a (kept.File size true) (FirstFound n mtime) look lease fits saw at sends =
    looks_found serving a look lease n size (saw.0, saw.1, saw.2) fits at sends
looks_behind serving a (kept.File size true) FirstAbsent look lease fits saw at sends = absurd fits
looks_behind serving a (kept.File size true) (SecondFound n mtime) look lease fits saw at sends =
    looks_found serving a look lease n size (saw.0, saw.1, saw.2) fits at sends
looks_behind serving a (kept.File size true) SecondAbsent look lease fits saw at sends = absurd fits

-- ---- the answer

-- the reply to come is the reply
reply_is : (serving : Serving) (a : Asked) (seen : Seen) (lease : Option (List ℕ))
    (x : HasLooked serving.moves serving.folder (request_of a) seen lease)
    → reply_after serving.moves serving.folder (request_of a) seen x.found ≡ replies serving a
unfolding replies
reply_is serving a seen lease x = x.same

module _ (serving : Serving) (old new : ConnState) (t s : List ℕ) (ended : Option Bool) (m : ℕ)
    (response : Response) (a : Asked) (behind : ℕ) (seen : Seen)
    (path : List ℕ) (was : old.stage ≡ ready a behind seen path)
    (is : answer (outline_of a.target response) ≡ serving.moves (request_of a) seen)
    (fits : Fits a.target seen response)
    (left : ℕ) (counted : old.left ≡ 1 + left) (head : List ℕ)
    (head_is : (reply : Reply) → IsResponseFor a.target response reply
    → head ≡ head_text (head_of reply) m (last_word a left))
    (same : new ≡ record old {
      input = drop (a.len + behind) old.input;
      stage = stage_behind response.content;
      pending = old.pending ++ head;
      moments = old.moments ++ m ∷ [];
      left = if closes a left then 0 else left;
    }) where
  responded_at : Comes None serving old t s ended → Comes None serving new t s ended
  responded_at x =
      let lies : LiesAhead (ready a behind seen path) x.accounts.given old.input x.accounts.ahead =
      subst (λ (st : Stage). LiesAhead st x.accounts.given old.input x.accounts.ahead) was x.accounts.lies in
      let looks : Looks serving (ready a behind seen path) old.lease =
      subst (λ (st : Stage). Looks serving st old.lease) was x.accounts.looks in
      let reply : reply_after serving.moves serving.folder (request_of a) seen looks.found
      ≡ replies serving a = reply_is serving a seen old.lease looks in
      let stands : IsResponseFor a.target response (replies serving a) =
      subst (λ (r : Reply). IsResponseFor a.target response r) reply
      (IsResponseFor-reply_after serving.moves serving.folder
      (request_of a) seen looks.found response is fits looks.saw) in
      let sends : sent_bytes (replies serving a).content
      ≡ sent_bytes (content_filled (file_shown response.content) looks.found) =
      ap (λ (r : Reply). sent_bytes r.content) (sym reply
      ∙ reply_after-answer serving.moves serving.folder (request_of a) seen looks.found
      (outline_of a.target response) looks.saw (sym is)) in
      let stage : new.stage ≡ stage_behind response.content = ap (λ (c : ConnState). c.stage) same in
      let lease : new.lease ≡ old.lease = ap (λ (c : ConnState). c.lease) same in
      let there : unread_at new.stage serving.folder new.lease ≡ sent_bytes (replies serving a).content =
      ap (λ (st : Stage). unread_at st serving.folder new.lease) stage
      ∙ ap (λ (l : Option (List ℕ)). unread_at (stage_behind response.content) serving.folder l) lease
      ∙ content_behind serving.folder response.content seen looks.found old.lease fits.size looks.saw looks.at
      ∙ sym sends in
      let before : unread_at old.stage serving.folder old.lease ≡ [] =
      ap (λ (st : Stage). unread_at st serving.folder old.lease) was in
      let made : head ≡ head_text (head_of (replies serving a)) m (last_word a left) =
      head_is (replies serving a) stands in
      let text : head ++ unread_at new.stage serving.folder new.lease
      ≡ answer_text (replies serving a) m (last_word a left) =
      ap (λ (v : List ℕ). v ++ unread_at new.stage serving.folder new.lease) made
      ∙ ap (λ (v : List ℕ). head_text (head_of (replies serving a)) m (last_word a left) ++ v) there in
      let due : due_of serving new ≡ due_of serving old
      ++ answer_text (replies serving a) m (last_word a left) =
      ap (λ (v : List ℕ). v ++ unread_at new.stage serving.folder new.lease)
      (ap (λ (c : ConnState). c.pending) same)
      ∙ append_assoc old.pending head (unread_at new.stage serving.folder new.lease)
      ∙ ap (λ (v : List ℕ). old.pending ++ v) text
      ∙ ap (λ (v : List ℕ). v ++ answer_text (replies serving a) m (last_word a left))
      (sym (append-nil old.pending) ∙ ap (λ (v : List ℕ). old.pending ++ v) (sym before)) in
      let input : new.input ≡ drop (a.len + behind) old.input = ap (λ (c : ConnState). c.input) same in
      record {
        accounts =
            accounts_respond serving old new t s left m a behind
            (omega (arith, counted)) x.accounts lies.0 lies.1 (ap (λ (c : ConnState). c.left) same)
            (ap (λ (c : ConnState). c.moments) same) due
            (subst (λ (st : Stage). LiesAhead st false new.input (drop (a.len + behind) old.input))
            (sym stage)
            (subst (λ (v : List ℕ).
            LiesAhead (stage_behind response.content) false v (drop (a.len + behind) old.input)) (sym input)
            (lies_behind response.content (drop (a.len + behind) old.input))))
            (subst (λ (st : Stage). Looks serving st new.lease) (sym stage)
            (subst (λ (l : Option (List ℕ)). Looks serving (stage_behind response.content) l) (sym lease)
            (looks_behind serving a response.content seen looks.found old.lease fits.size
            looks.saw looks.at sends)));
        at = x.at;
      }

-- the path that is kept changes nothing
path_left : (serving : Serving) (old : ConnState) (t s : List ℕ)
    (ended : Option Bool) (a : Asked) (behind : ℕ) (seen : Seen) (path left : List ℕ)
    → old.stage ≡ ready a behind seen path
    → Comes None serving old t s ended
    → Comes None serving (record old { stage = ready a behind seen left }) t s ended
path_left serving old t s ended a behind seen path left was x = record {
  accounts = accounts_lies serving old (record old { stage = ready a behind seen left }) t s
      (ap (λ (v : List ℕ). old.pending ++ v)
      (sym (ap (λ (st : Stage). unread_at st serving.folder old.lease) was))) refl refl x.accounts
      (subst (λ (st : Stage). LiesAhead st x.accounts.given old.input x.accounts.ahead) was x.accounts.lies)
      (subst (λ (st : Stage). Looks serving st old.lease) was x.accounts.looks);
  at = x.at;
}

-- what was decided of the request is the response that its head is of
respond_one : (serving : Serving) (old mid new : ConnState)
    (t s : List ℕ) (ended : Option Bool) (m : ℕ) (response : Response)
    → Decides serving.moves response old mid
    → Responds response m mid new → Comes None serving old t s ended → Comes None serving new t s ended
respond_one serving old mid new t s ended m response d x comes =
    let stage : mid.stage ≡ ready d.a d.behind d.seen d.left = ap (λ (c : ConnState). c.stage) d.same in
    let at : ready d.a d.behind d.seen d.left ≡ ready x.a x.behind x.seen x.path = sym stage ∙ x.was in
    let a : d.a ≡ x.a = ready_asked d.a x.a d.behind x.behind d.seen x.seen d.left x.path at in
    let seen : d.seen ≡ x.seen = ready_seen d.a x.a d.behind x.behind d.seen x.seen d.left x.path at in
    let there : Comes None serving mid t s ended =
    subst (λ (c : ConnState). Comes None serving c t s ended) (sym d.same)
    (path_left serving old t s ended d.a d.behind d.seen d.path d.left d.was comes) in
    responded_at serving mid new t s ended m response x.a x.behind x.seen x.path x.was
    (subst (λ (v : Asked). answer (outline_of v.target response) ≡ serving.moves (request_of v) x.seen) a
    (subst (λ (v : Seen). answer (outline_of d.a.target response) ≡ serving.moves (request_of d.a) v)
    seen d.is))
    (subst (λ (v : Asked). Fits v.target x.seen response) a
    (subst (λ (v : Seen). Fits d.a.target v response) seen d.fits))
    x.left x.counted x.head x.head_is x.same there

pub respond_for : (moves : Moves) (folder : Option Folder)
    (old mid new : ConnState) (link : LinkTold) (m : ℕ) (response : Response)
    → Decides moves response old mid
    → Responds response m mid new → ComesFor None (serving_over moves folder) old link
    → ComesFor None (serving_over moves folder) new link
respond_for moves None old mid new link m response d x comes = tt
respond_for moves (Some f) old mid new link m response d x comes =
    let serving : Serving = record { moves = moves; folder = f } in
    told_kept (λ r t s. Comes None serving old t s link.ended)
    (λ r t s. Comes None serving new t s link.ended) (Some serving) link
    (λ r t s y. respond_one serving old mid new t s link.ended m response d x y) comes

-- a response that was decided can be sent
pub can_send : (moves : Moves) (response : Response) (old mid : ConnState) → Decides moves response old mid
    → CanSend response mid.stage
can_send moves response old mid d =
    (d.a, d.behind, d.seen, d.left, ap (λ (c : ConnState). c.stage) d.same, d.fits, d.sendable)

-- and there is room for its head where there was
pub way_kept : (moves : Moves) (response : Response) (old mid : ConnState) → Decides moves response old mid
    → HasWay old → HasWay mid
way_kept moves response old mid d way =
    let at : ready way.0 way.1 way.2 way.3 ≡ ready d.a d.behind d.seen d.path = sym way.4 ∙ d.was in
    let a : way.0 ≡ d.a = ready_asked way.0 d.a way.1 d.behind way.2 d.seen way.3 d.path at in (
      d.a,
      d.behind,
      d.seen,
      d.left,
      ap (λ (c : ConnState). c.stage) d.same,
      omega (
        arith,
        way.5,
        ap (λ (v : Asked). length v.target) a,
        ap (λ (c : ConnState). length c.pending) d.same,
      ),
    )

pub to_go_left : (moves : Moves) (response : Response) (old mid : ConnState)
    → Decides moves response old mid → to_go mid ≡ to_go old
to_go_left moves response old mid d =
    ap (λ (c : ConnState). to_go c) d.same
    ∙ ap (λ (st : Stage). old.left * (2 * body_steps) + steps_left st old.input) (sym d.was)

-- ---- a look

asks_one : (serving : Serving) (old new : ConnState) (t s : List ℕ) (ended : Option Bool)
    → 0 < old.left → AsksToLook serving.moves old new
    → Comes None serving old t s ended → Comes (Some WantFile) serving new t s ended
asks_one serving old new t s ended some x comes =
    let lies : LiesAhead (ready x.a x.behind x.seen x.kept) comes.accounts.given old.input
    comes.accounts.ahead =
    subst (λ (st : Stage). LiesAhead st comes.accounts.given old.input comes.accounts.ahead)
    x.was comes.accounts.lies in
    let looks : Looks serving (ready x.a x.behind x.seen x.kept) old.lease =
    subst (λ (st : Stage). Looks serving st old.lease) x.was comes.accounts.looks in
    let stage = wanting x.a x.behind x.seen x.path in
    let there : Accounts serving (record old { stage = stage }) t s =
    accounts_lies serving old (record old { stage = stage }) t s
    (ap (λ (v : List ℕ). old.pending ++ v)
    (sym (ap (λ (st : Stage). unread_at st serving.folder old.lease) x.was))) refl refl
    comes.accounts lies (record { found = looks.found; looks = x.looks; same = looks.same }) in
    let accounts : Accounts serving new t s =
    subst (λ (c : ConnState). Accounts serving c t s) (sym x.same) there in
    record {
      accounts = accounts;
      at = (
        fewer_of serving new t s (subst (λ (c : ConnState). 0 < c.left) (sym x.same) some)
            (subst (λ (c : ConnState). IsUnanswered c.stage) (sym x.same) tt) accounts,
        comes.at,
      );
    }

pub asks_for : (moves : Moves) (folder : Option Folder) (old new : ConnState) (link : LinkTold)
    → 0 < old.left → AsksToLook moves old new
    → ComesFor None (serving_over moves folder) old link
    → ComesFor (Some WantFile) (serving_over moves folder) new link
asks_for moves None old new link some x comes = tt
asks_for moves (Some f) old new link some x comes =
    let serving : Serving = record { moves = moves; folder = f } in
    told_kept (λ r t s. Comes None serving old t s link.ended)
    (λ r t s. Comes (Some WantFile) serving new t s link.ended) (Some serving) link
    (λ r t s y. asks_one serving old new t s link.ended some x y) comes

-- ---- the steps that are left

left_closed : (b : Bool) (k : ℕ) → (if b then 0 else k) ≤ k
left_closed true k = omega arith
left_closed false k = omega arith

few_at : (size : ℕ) (input : List ℕ) (b : Bool) → size < 2 ^ 64
    → steps_left (if b then sending 0 size else unread) input < 2 * body_steps
few_at size input true fits = omega (arith, fits)
few_at size input false fits = omega arith

-- a content of fewer than 2^64 bytes is sent in fewer steps than a request takes
pub few_sends : (content : held.Content) (input : List ℕ) → SizeFits content
    → steps_left (stage_behind content) input < 2 * body_steps
few_sends kept.None input fits = omega arith
few_sends kept.Empty input fits = omega arith
few_sends (kept.File size false) input fits = omega arith
few_sends (kept.File size true) input fits = few_at size input (nat_lt 0 size) fits

-- a request was answered
pub responded_nearer : (response : Response) (m : ℕ) (old new : ConnState) → Responds response m old new
    → to_go new < to_go old
responded_nearer response m old new x =
    let left : new.left ≡ (if closes x.a x.left then 0 else x.left) = ap (λ (c : ConnState). c.left) x.same in
    let stage : steps_left new.stage new.input ≡ steps_left (stage_behind response.content) new.input =
    ap (λ (c : ConnState). steps_left c.stage new.input) x.same in
    omega (
      arith,
      left,
      stage,
      few_sends response.content new.input x.sized,
      x.counted,
      left_closed (closes x.a x.left) x.left,
    )
