use Rattle.std.proofs.Common.{◌≡◌, ◌∙◌, ap, sym, subst, refl, List, ℕ}
use Rattle.httparse.specs.Spans.{span_bytes}
use Rattle.app_trait.specs.Moves.{Moves, PathKept, RequestText, answer}
use Rattle.app_trait.specs.declared.app.Move.{Move}
use Rattle.app_trait.specs.declared.app.Move.TheVariants.{Look, Answer}
use Rattle.warp_response.specs.declared.response.Response.{Response}
use Rattle.conn_loop.specs.Moves.{AsksToLook, Consults, Decides}
use Rattle.app_trait.specs.Shown.{Fits, outline_of}
use Rattle.warp_response.specs.Reply.{IsSendable}
use Rattle.conn_loop.specs.Heads.{asked_in}
use Rattle.conn_loop.specs.declared.phase.Phase.{Phase}
use Rattle.conn_loop.specs.Phases.{over_in, stage_in}
use Rattle.conn_loop.specs.Replying.{request_of}
use Rattle.conn_loop.specs.Stages.{Stage, ready, wanting}
use Rattle.conn_loop.specs.ConnState.{AsksFor, ConnState}
use Rattle.conn_loop.proofs.ViewLemmas.{request_is, ready_at, staged_is}
use Rattle.conn_loop.proofs.conn.Conn.consult.Goals as goal

-- a look
looks : (moves : Moves) (m : Move) (old new : ConnState) → m ≡ Look → AsksToLook moves old new
    → Consults moves m old new
looks moves m old new is x = subst (λ (v : Move). Consults moves v old new) (sym is) x

-- what isn't a look is an answer
decides : (moves : Moves) (m : Move) (old new : ConnState) → (m ≡ Look → ⊥)
    → ((response : Response) → m ≡ Answer response → Decides moves response old new)
    → Consults moves m old new
decides moves Look old new nay f = absurd (nay refl)
decides moves (Answer response) old new nay f = f response refl

pub next_move-next-requires-clause-kept : goal.next_move-next-requires-clause-kept
next_move-next-requires-clause-kept g c =
    let old = c.args.self.now in
    let head = c.in-Ready.head in
    let inside = c.self.inside in
    let moves = g.A.App.moves c.args.app.now in
    let input : c.bytes-bytes.result.now ≡ old.input =
    c.bytes-bytes.ensures.is ∙ ap (λ (s : ConnState). s.input) c.self.view_is in
    let request = request_is old.input head c.of.result.now c.of-2.result.now
    (c.of.ensures ∙ ap (λ (t : List ℕ). span_bytes t head.method) input)
    (c.of-2.ensures ∙ ap (λ (t : List ℕ). span_bytes t head.target) input) in
    let was : old.stage ≡ ready (asked_in old.input head) c.in-Ready.behind c.in-Ready.seen inside.path =
    ready_at old inside.input inside.path inside.phase head c.in-Ready.behind c.in-Ready.seen
    (ap (λ (s : ConnState). s.input) c.self.view_is)
    (ap (λ (s : ConnState). s.stage) c.self.view_is) c.in-Ready.is in
    subst (λ (q : RequestText). PathKept (moves q) c.in-Ready.seen inside.path) (sym request)
    (subst (λ (st : Stage). AsksFor moves st) was c.requires.asks)

pub returns-in-Look : goal.returns-in-Look
returns-in-Look g c =
    let old = c.args.self.now in
    let head = c.in-Ready.head in
    let inside = c.self.inside in
    let moves = g.A.App.moves c.args.app.now in
    let input : c.bytes-bytes.result.now ≡ old.input =
    c.bytes-bytes.ensures.is ∙ ap (λ (s : ConnState). s.input) c.self.view_is in
    let request = request_is old.input head c.of.result.now c.of-2.result.now
    (c.of.ensures ∙ ap (λ (t : List ℕ). span_bytes t head.method) input)
    (c.of-2.ensures ∙ ap (λ (t : List ℕ). span_bytes t head.target) input) in
    looks moves c.next_move-next.result old _ c.in-Look.is (record {
      a = asked_in old.input head;
      behind = c.in-Ready.behind;
      seen = c.in-Ready.seen;
      kept = inside.path;
      was =
          ready_at old inside.input inside.path inside.phase head c.in-Ready.behind c.in-Ready.seen
          (ap (λ (s : ConnState). s.input) c.self.view_is)
          (ap (λ (s : ConnState). s.stage) c.self.view_is) c.in-Ready.is;
      path = c.next_move-next.new.path;
      looks =
          ap (λ (q : RequestText). moves q c.in-Ready.seen) (sym request)
          ∙ sym (rw c.in-Look.is at c.next_move-next.ensures.is);
      same = staged_is _ old _ _ _ c.self.view_is (sym (ap (λ (p : Phase). over_in p) c.in-Ready.is))
          (ap (λ (s : ConnState).
          wanting (asked_in s.input head) c.in-Ready.behind c.in-Ready.seen c.next_move-next.new.path)
          c.self.view_is);
    })

pub returns-in_default-next : goal.returns-in_default-next
returns-in_default-next g c =
    let old = c.args.self.now in
    let head = c.in-Ready.head in
    let inside = c.self.inside in
    let moves = g.A.App.moves c.args.app.now in
    let input : c.bytes-bytes.result.now ≡ old.input =
    c.bytes-bytes.ensures.is ∙ ap (λ (s : ConnState). s.input) c.self.view_is in
    let target = c.of-2.ensures ∙ ap (λ (t : List ℕ). span_bytes t head.target) input in
    let request = request_is old.input head c.of.result.now c.of-2.result.now
    (c.of.ensures ∙ ap (λ (t : List ℕ). span_bytes t head.method) input) target in
    decides moves c.next_move-next.result old _ c.in_default-next.not-Look (λ response answers. record {
      a = asked_in old.input head;
      behind = c.in-Ready.behind;
      seen = c.in-Ready.seen;
      path = inside.path;
      was =
          ready_at old inside.input inside.path inside.phase head c.in-Ready.behind c.in-Ready.seen
          (ap (λ (s : ConnState). s.input) c.self.view_is)
          (ap (λ (s : ConnState). s.stage) c.self.view_is) c.in-Ready.is;
      is =
          subst (λ (t : List ℕ).
          answer (outline_of t response) ≡ moves (request_of (asked_in old.input head)) c.in-Ready.seen)
          target
          (rw answers at c.next_move-next.ensures.is
          ∙ ap (λ (q : RequestText). moves q c.in-Ready.seen) request);
      fits =
          subst (λ (t : List ℕ). Fits t c.in-Ready.seen response) target
          (rw answers at c.next_move-next.ensures.fits);
      sendable =
          subst (λ (t : List ℕ). IsSendable t response) target
          (rw answers at c.next_move-next.ensures.sendable);
      left = c.next_move-next.new.path;
      same = staged_is _ old _ _ _ c.self.view_is refl
          (ap (λ (p : Phase). stage_in inside.input c.next_move-next.new.path p) c.in-Ready.is
          ∙ ap (λ (s : ConnState).
          ready (asked_in s.input head) c.in-Ready.behind c.in-Ready.seen c.next_move-next.new.path)
          c.self.view_is);
    })
