use Rattle.std.proofs.Common.{◌≤◌, ◌∙◌, ◌-◌, ◌+◌, ◌*◌, ap, sym, subst, List, ℕ, arith, length, Option}
use Rattle.std.proofs.Common.{option_map}
use Rattle.fd_cache.specs.declared.lease.Lease.{Lease}
use Rattle.httparse.specs.Spans.{span_bytes}
use Rattle.warp_response.specs.declared.response.LastWord.{LastWord}
use Rattle.warp_response.specs.Head.{head_text}
use Rattle.warp_response.specs.Reply.{IsResponseFor, head_of}
use Rattle.conn_loop.specs.Heads.{asked_in}
use Rattle.conn_loop.specs.declared.phase.Phase.{Phase}
use Rattle.conn_loop.specs.Phases.{HasFound, HasLease, over_in}
use Rattle.conn_loop.specs.ConnState.{ConnState}
use Rattle.conn_loop.proofs.ViewLemmas.{ready_at, answered_is}
use Rattle.conn_loop.proofs.RespondLemmas.{can_target, sends_size, way_fits}
use Rattle.conn_loop.proofs.conn.Conn.answer.Goals as goal

pub head_bytes-requires : goal.head_bytes-requires
head_bytes-requires g c =
    let old = c.args.self.now in
    let inside = c.self.inside in
    let input = ap (λ (s : ConnState). s.input) c.self.view_is in
    (can_target old.stage old.input c.in-Ready.head c.in-Ready.behind c.in-Ready.seen inside.path
    c.of-target.result.now c.args.response.now
    (ready_at old inside.input inside.path inside.phase c.in-Ready.head c.in-Ready.behind c.in-Ready.seen
    input (ap (λ (s : ConnState). s.stage) c.self.view_is) c.in-Ready.is)
    (c.of-target.ensures ∙ ap (λ (t : List ℕ). span_bytes t c.in-Ready.head.target)
    (c.bytes.ensures.is ∙ input)) c.requires.sendable).1

pub add-requires : goal.add-requires
add-requires g c =
    let old = c.args.self.now in
    let inside = c.self.inside in
    let input = ap (λ (s : ConnState). s.input) c.self.view_is in
    let fits : length old.pending + (512 + 2 * length c.of-target.result.now) ≤ 16896 =
    way_fits old old.input c.in-Ready.head c.in-Ready.behind c.in-Ready.seen inside.path
    c.of-target.result.now
    (ready_at old inside.input inside.path inside.phase c.in-Ready.head c.in-Ready.behind c.in-Ready.seen
    input (ap (λ (s : ConnState). s.stage) c.self.view_is) c.in-Ready.is)
    (c.of-target.ensures
    ∙ ap (λ (t : List ℕ). span_bytes t c.in-Ready.head.target) (c.bytes.ensures.is ∙ input))
    c.requires.room in
    omega (
      arith,
      fits,
      ap (λ (s : ConnState). length s.pending) c.self.view_is,
      ap (λ (t : List ℕ). length t) c.bytes-2.ensures,
      c.head_bytes.ensures.within,
    )

pub invariant_of-self : goal.invariant_of-self
invariant_of-self g c =
    let old = c.args.self.now in
    let inside = c.self.inside in
    let size_of : Option (Lease g.row.F.Denot g.row.F-File.Denot g.F.Files) → Option ℕ =
    λ o. option_map (λ lease. lease.size) o in
    let input = ap (λ (s : ConnState). s.input) c.self.view_is in
    let held : HasFound c.in-Ready.seen (size_of inside.lease) =
    subst (λ (p : Phase). HasLease p (size_of inside.lease)) c.in-Ready.is c.self.invariant.3 in
    let fits = (can_target old.stage old.input c.in-Ready.head c.in-Ready.behind c.in-Ready.seen
    inside.path c.of-target.result.now c.args.response.now
    (ready_at old inside.input inside.path inside.phase c.in-Ready.head c.in-Ready.behind c.in-Ready.seen
    input (ap (λ (s : ConnState). s.stage) c.self.view_is) c.in-Ready.is)
    (c.of-target.ensures ∙ ap (λ (t : List ℕ). span_bytes t c.in-Ready.head.target)
    (c.bytes.ensures.is ∙ input)) c.requires.sendable).0 in (
      omega (
        arith,
        c.note.ensures.len,
        c.left_after-self-inside.ensures.fewer,
        c.self.invariant.0,
        ap (λ (s : ConnState). s.left) c.self.view_is,
        c.requires.some,
      ),
      omega (arith, c.note.ensures.room, c.self.invariant.1),
      c.phase_behind-self-inside.ensures.makes.1 _ _,
      c.phase_behind-self-inside.ensures.makes.3 _
          (sends_size c.in-Ready.seen c.args.response.now.content (size_of inside.lease) fits.size held),
    )

pub returns : goal.returns
returns g c =
    let old = c.args.self.now in
    let head = c.in-Ready.head in
    let inside = c.self.inside in
    let input = ap (λ (s : ConnState). s.input) c.self.view_is in
    let k = inside.left - 1 in
    let target =
    c.of-target.ensures ∙ ap (λ (t : List ℕ). span_bytes t head.target) (c.bytes.ensures.is ∙ input) in (
      c.now-moment.result,
      record {
        a = asked_in old.input head;
        behind = c.in-Ready.behind;
        seen = c.in-Ready.seen;
        path = inside.path;
        was =
            ready_at old inside.input inside.path inside.phase head c.in-Ready.behind c.in-Ready.seen input
            (ap (λ (s : ConnState). s.stage) c.self.view_is) c.in-Ready.is;
        left = k;
        counted = omega (arith, ap (λ (s : ConnState). s.left) c.self.view_is, c.requires.some);
        head = c.bytes-2.result.now;
        sized = c.phase_behind-self-inside.ensures.sized;
        head_is = λ reply for.
            c.bytes-2.ensures ∙ c.head_bytes.ensures.reply reply
            (subst (λ (t : List ℕ). IsResponseFor t c.args.response.now reply) (sym target) for)
            ∙ ap (λ (l : LastWord). head_text (head_of reply) c.now-moment.result l)
            (c.last_word.ensures old.input);
        same =
            answered_is _ old c.skip.new.self c.add.new.self c.note.new.moments.items c.bytes-2.result.now
            _ _ _ (head.head_len + c.in-Ready.behind) c.now-moment.result
            c.left_after-self-inside.result _ c.self.view_is
            (sym (ap (λ (s : ConnState). s.over) c.self.view_is)
            ∙ ap (λ (p : Phase). over_in p) c.in-Ready.is)
            c.phase_behind-self-inside.ensures.makes.2 c.skip.ensures
            (c.phase_behind-self-inside.ensures.makes.0 c.skip.new.self inside.path)
            c.add.ensures c.note.ensures.items (c.left_after-self-inside.ensures.is old.input);
      },
      c.now-moment.ensures.gives,
    )
