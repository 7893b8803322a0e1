use Rattle.std.proofs.Common.{◌≡◌, ◌++◌, ◌∙◌, ap, sym, refl, List, ℕ, [], append-nil}
use Rattle.warp_request.specs.Verdict.{refused}
use Rattle.conn_loop.specs.ConnState.{ConnState}
use Rattle.conn_loop.proofs.AnswerLemmas.{interim_is, first_request_is}
use Rattle.conn_loop.proofs.StatusLemmas.{status_of}
use Rattle.conn_loop.proofs.JudgeStepLemmas.{given_for, refused_stays}
use Rattle.conn_loop.proofs.conn.Conn.judge.Goals as goal

pub invariant_of-self-in-Refuse : goal.invariant_of-self-in-Refuse
invariant_of-self-in-Refuse g c = (
  c.self.invariant.0,
  c.self.invariant.1,
  status_of c.bytes.result.now c.in-Refuse.code (sym c.in-Refuse.ensures.is),
  tt,
)

pub returns-in-Refuse-clause-stands : goal.returns-in-Refuse-clause-stands
returns-in-Refuse-clause-stands g c = λ serving link x.
    let old = c.args.self.now in
    let code = c.in-Refuse.code in
    let input : c.bytes.result.now ≡ old.input =
    c.bytes.ensures.is ∙ ap (λ (s : ConnState). s.input) c.self.view_is in
    let stays : (t : List ℕ) → _ =
    refused_stays c.bytes.result.now old.input code input c.in-Refuse.ensures.is c.next.ensures.stays in
    given_for serving old _ link [] c.requires.some c.requires.unread
    (ap (λ (s : ConnState). s.moments) c.self.view_is) (ap (λ (s : ConnState). s.left) c.self.view_is)
    (ap (λ (s : ConnState). s.pending) c.self.view_is ∙ sym (append-nil old.pending))
    (λ after. interim_is (old.input ++ after) (refused code) (stays after))
    (refl, λ t. first_request_is (old.input ++ t) (refused code) (stays t)) tt (λ r. tt) x
