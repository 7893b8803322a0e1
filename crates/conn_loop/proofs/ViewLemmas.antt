-- The fields of a connection, and the request that its head makes.
use Rattle.std.proofs.Common.{◌≡◌, ℕ, List, [], ◌∷◌, ◌++◌, drop, Option, None, refl, sym, ap, ◌∙◌, append-nil}
use Rattle.httparse.specs.Spans.{span_bytes}
use Rattle.warp_request.specs.Verdict.{Asked}
use Rattle.warp_request.specs.declared.verdict.HeadInfo.{HeadInfo}
use Rattle.app_trait.specs.declared.request.Seen.{Seen}
use Rattle.app_trait.specs.Moves.{RequestText}
use Rattle.warp_response.specs.declared.response.LastWord.TheVariants.{Close}
use Rattle.warp_response.specs.Head.{head_text}
use Rattle.warp_response.specs.Reply.{head_of, refusal_reply}
use Rattle.warp_response.specs.Text.{refusal_text}
use Rattle.outside.specs.declared.link.ReadOut.{ReadOut}
use Rattle.conn_loop.specs.Moves.{Refuses, waits_read}
use Rattle.conn_loop.specs.Steps.{stage_after}
use Rattle.conn_loop.proofs.BodyLemmas.{asked_grown}
use Rattle.conn_loop.specs.declared.step.End.{End}
use Rattle.conn_loop.specs.declared.phase.Phase.{Phase}
use Rattle.conn_loop.specs.declared.phase.Phase.TheVariants.{Fresh, Waits, Reading, Refused, Ready, Wanting}
use Rattle.conn_loop.specs.declared.phase.Phase.TheVariants.{Sending, Unmade, Broken, Over}
use Rattle.conn_loop.specs.Heads.{asked_in}
use Rattle.conn_loop.specs.Phases.{IsKept, stage_in}
use Rattle.conn_loop.specs.Replying.{request_of}
use Rattle.conn_loop.specs.Stages.{Stage, reading, ready, refusing, wanting}
use Rattle.conn_loop.specs.ConnState.{ConnState}

-- the application saw the request that the head makes
pub request_is : (input : List ℕ) (head : HeadInfo) (method target : List ℕ)
    → method ≡ span_bytes input head.method → target ≡ span_bytes input head.target
    → ◌≡◌ {A = RequestText} (record { method = method; target = target; minor = head.minor })
    (request_of (asked_in input head))
request_is input head method target a b = λ i. record { method = a i; target = b i; minor = head.minor }

-- the stage of a whole request
pub ready_at : (old : ConnState) (input path : List ℕ)
    (phase : Phase) (head : HeadInfo) (behind : ℕ) (seen : Seen)
    → input ≡ old.input
    → stage_in input path phase ≡ old.stage → phase ≡ Ready head behind seen
    → old.stage ≡ ready (asked_in old.input head) behind seen path
ready_at old input path phase head behind seen same stage is =
    sym stage ∙ ap (λ (p : Phase). stage_in input path p) is
    ∙ ap (λ (v : List ℕ). ready (asked_in v head) behind seen path) same

-- after an answer
pub answered_is : (inside old : ConnState) (input pending moments head : List ℕ)
    (stage next_stage : Stage) (over : Option End) (len m left next : ℕ)
    → inside ≡ old → old.over ≡ None
    → over ≡ None → input ≡ drop len inside.input → stage ≡ next_stage → pending ≡ inside.pending ++ head
    → moments ≡ inside.moments ++ m ∷ [] → left ≡ next
    → ◌≡◌ {A = ConnState} (record inside {
      input = input;
      stage = stage;
      pending = pending;
      moments = moments;
      left = left;
      over = over;
    })
    (record old {
      input = drop len old.input;
      stage = next_stage;
      pending = old.pending ++ head;
      moments = old.moments ++ m ∷ [];
      left = next;
    })
answered_is inside old input pending moments head stage next_stage over len m left next was
    runs ended skipped at put noted counted =
    let same : over ≡ inside.over = ended ∙ sym (ap (λ (s : ConnState). s.over) was ∙ runs) in
    (λ i. record inside {
      input = skipped i;
      stage = at i;
      pending = put i;
      moments = noted i;
      left = counted i;
      over = same i;
    })
    ∙ ap (λ (s : ConnState). record s {
      input = drop len s.input;
      stage = next_stage;
      pending = s.pending ++ head;
      moments = s.moments ++ m ∷ [];
      left = next;
    }) was

-- after a refusal
pub refused_is : (inside old : ConnState) (pending moments head : List ℕ) (code m : ℕ) → inside ≡ old
    → pending ≡ inside.pending ++ head → head ≡ head_text (head_of (refusal_reply code)) m Close
    → moments ≡ inside.moments ++ m ∷ []
    → Refuses code m old (record inside { pending = pending; moments = moments; left = 0 })
refused_is inside old pending moments head code m was behind is noted =
    let put : pending ≡ inside.pending ++ refusal_text code m = behind ∙ ap (λ (t : List ℕ).
    inside.pending ++ t) (is ∙ sym (append-nil (head_text (head_of (refusal_reply code)) m Close))) in
    (λ i. record inside { pending = put i; moments = noted i; left = 0 })
    ∙ ap (λ (s : ConnState).
    record s { pending = s.pending ++ refusal_text code m; moments = s.moments ++ m ∷ []; left = 0 }) was

-- another stage
pub staged_is : (inside old : ConnState) (stage next : Stage) (over : Option End) → inside ≡ old
    → over ≡ inside.over → stage ≡ next
    → ◌≡◌ {A = ConnState} (record inside { stage = stage; over = over }) (record old { stage = next })
staged_is inside old stage next over was same at =
    (λ i. record inside { stage = at i; over = same i })
    ∙ ap (λ (s : ConnState). record s { stage = next }) was

-- another input and another stage
pub restaged_is : (inside old : ConnState) (input : List ℕ) (stage : Stage) (over : Option End)
    → inside ≡ old → over ≡ inside.over
    → ◌≡◌ {A = ConnState} (record inside { input = input; stage = stage; over = over })
    (record old { input = input; stage = stage })
restaged_is inside old input stage over was same =
    (λ i. record inside { input = input; stage = stage; over = same i })
    ∙ ap (λ (s : ConnState). record s { input = input; stage = stage }) was

-- what was read
pub filled_is : (out : ReadOut) (inside old : ConnState)
    (input : List ℕ) (stage : Stage) (over : Option End) (waits : ℕ)
    → inside ≡ old → over ≡ inside.over
    → stage ≡ stage_after out inside.stage → waits ≡ waits_read out inside.waits
    → ◌≡◌ {A = ConnState} (record inside { input = input; stage = stage; over = over; waits = waits })
    (record old { input = input; stage = stage_after out old.stage; waits = waits_read out old.waits })
filled_is out inside old input stage over waits was same at counted =
    (λ i. record inside { input = input; stage = at i; over = same i; waits = counted i })
    ∙ ap (λ (s : ConnState).
    record s { input = input; stage = stage_after out s.stage; waits = waits_read out s.waits }) was

-- a phase stands where it stood, also with more bytes behind
pub stage_grown : (input piece path : List ℕ) (left : ℕ) (phase : Phase) → IsKept input left phase
    → stage_in (input ++ piece) path phase ≡ stage_in input path phase
stage_grown input piece path left Fresh kept = refl
stage_grown input piece path left Waits kept = refl
stage_grown input piece path left (Reading head reader room) kept =
    ap (λ (a : Asked). reading a reader room) (asked_grown input piece head kept.0)
stage_grown input piece path left (Refused code) kept = refl
stage_grown input piece path left (Ready head behind seen) kept =
    ap (λ (a : Asked). ready a behind seen path) (asked_grown input piece head kept.head_there)
stage_grown input piece path left (Wanting head behind seen) kept =
    ap (λ (a : Asked). wanting a behind seen path) (asked_grown input piece head kept.0.head_there)
stage_grown input piece path left (Sending at size) kept = refl
stage_grown input piece path left (Unmade end) kept = refl
stage_grown input piece path left (Broken at) kept = refl
stage_grown input piece path left (Over end) kept = refl

-- a refusal is kept where nothing follows
pub kept_closed : (input path : List ℕ) (left code : ℕ) (phase : Phase)
    → stage_in input path phase ≡ refusing code → IsKept input left phase → IsKept input 0 phase
kept_closed input path left code Fresh is kept = tt
kept_closed input path left code Waits is kept = kept
kept_closed input path left code (Reading head reader room) is kept = kept
kept_closed input path left code (Refused other) is kept = kept
kept_closed input path left code (Ready head behind seen) is kept = kept
kept_closed input path left code (Wanting head behind seen) is kept = cc
kept_closed input path left code (Sending at size) is kept = kept
kept_closed input path left code (Unmade end) is kept = cc
kept_closed input path left code (Broken at) is kept = tt
kept_closed input path left code (Over end) is kept = tt
