use Rattle.std.proofs.Common.{◌≡◌, ◌++◌, ◌∙◌, ap, sym, List, ℕ, [], Bool, append-nil, take, drop}
use Rattle.std.proofs.Common.{take-append-drop, ◌≤◌, ◌+◌, vec_len}
use Rattle.std.specs.Prelude.{if◌then◌else◌, vec_capacity}
use Rattle.warp_request.specs.Verdict.{asked}
use Rattle.warp_response.specs.Text.{interim_text}
use Rattle.conn_loop.specs.Heads.{asked_in}
use Rattle.conn_loop.specs.ConnState.{ConnState}
use Rattle.conn_loop.specs.FirstRequest.{interim_by}
use Rattle.conn_loop.proofs.AnswerLemmas.{interim_is}
use Rattle.conn_loop.proofs.StageLemmas.{begun_asks, begun_content, begun_looks, begun_plain}
use Rattle.conn_loop.proofs.JudgeStepLemmas.{given_for}
use Rattle.conn_loop.proofs.conn.Conn.begin.Goals as goal
use Rattle.conn_loop.proofs.conn.Conn.begin.Goals.{then-head, else-head}

pub invariant_of-self : goal.invariant_of-self
invariant_of-self g c =
    let kept = c.read_on-self-inside.ensures.kept c.if-head.self-inside.left _ in
    let held : (vec_len c.if-head.self-inside.moments + c.if-head.self-inside.left ≤ 1000)
    × (1000 ≤ vec_capacity c.if-head.self-inside.moments) =
    elim c.if-head.branch [
      | then-head w ↦ rw w.self-inside-is (c.self.invariant.0, c.self.invariant.1)
      | else-head w ↦ rw w.self-inside-is (c.self.invariant.0, c.self.invariant.1)
    ] in
    (held.0, held.1, kept.0, kept.1)

pub returns-clause-plain : goal.returns-clause-plain
returns-clause-plain g c =
    let begun = c.read_on-self-inside.ensures.begun c.if-head.self-inside.path in
    (begun_plain _ begun, λ moves. begun_asks moves _ begun)

pub returns-clause-stands : goal.returns-clause-stands
returns-clause-stands g c = λ serving link x.
    let old = c.args.self.now in
    let head = c.args.head in
    let a = asked_in old.input head in
    let path = c.if-head.self-inside.path in
    let input : c.self.inside.input ≡ old.input = ap (λ (s : ConnState). s.input) c.self.view_is in
    let pending : c.if-head.self-inside.output ≡ old.pending ++ interim_by (asked a) =
    elim c.if-head.branch [
      | then-head w ↦ rw w.self-inside-is
          (w.add.ensures ∙ ap (λ (t : List ℕ). c.self.inside.output ++ t) w.interim.ensures
          ∙ ap (λ (s : ConnState). s.pending ++ interim_text) c.self.view_is
          ∙ ap (λ (b : Bool). old.pending ++ (if b then interim_text else [])) (sym w.if-head.true))
      | else-head w ↦ rw w.self-inside-is
          (ap (λ (s : ConnState). s.pending) c.self.view_is ∙ sym (append-nil old.pending)
          ∙ ap (λ (b : Bool). old.pending ++ (if b then interim_text else [])) (sym w.if-head.false))
    ] in
    let here : c.if-head.self-inside.input ≡ old.input =
    elim c.if-head.branch [
      | then-head w ↦ rw w.self-inside-is input
      | else-head w ↦ rw w.self-inside-is input
    ] in
    let moments : c.if-head.self-inside.moments.items ≡ old.moments =
    elim c.if-head.branch [
      | then-head w ↦ rw w.self-inside-is (ap (λ (s : ConnState). s.moments) c.self.view_is)
      | else-head w ↦ rw w.self-inside-is (ap (λ (s : ConnState). s.moments) c.self.view_is)
    ] in
    let left : c.if-head.self-inside.left ≡ old.left =
    elim c.if-head.branch [
      | then-head w ↦ rw w.self-inside-is (ap (λ (s : ConnState). s.left) c.self.view_is)
      | else-head w ↦ rw w.self-inside-is (ap (λ (s : ConnState). s.left) c.self.view_is)
    ] in
    let parts : old.input ≡ take head.head_len c.if-head.self-inside.input
    ++ drop head.head_len c.if-head.self-inside.input =
    sym (take-append-drop head.head_len old.input)
    ∙ ap (λ (v : List ℕ). take head.head_len v ++ drop head.head_len v) (sym here) in
    let begun = c.read_on-self-inside.ensures.begun path in
    given_for serving old _ link (interim_by (asked a)) c.requires.some c.requires.unread
    moments left pending
    (λ after. interim_is (old.input ++ after) (asked a) (c.requires.asks after))
    (c.read_on-self-inside.ensures.lies [] old.input c.new-reader.ensures parts
    (λ t. c.requires.asks t ∙ ap (λ (v : List ℕ). asked (asked_in v head)) (sym here)) path)
    (begun_content _ begun) (λ r. begun_looks r _ _ begun)
    x
