use Rattle.std.proofs.Common.{◌+◌, ◌-◌, ◌∙◌, ap, sym, subst, arith, take, drop, List, ℕ}
use Rattle.std.proofs.lemmas.List.{with_items_is}
use Rattle.conn_loop.specs.Moves.{Takes, got_len}
use Rattle.conn_loop.proofs.WindowLemmas.{window_takes}
use Rattle.conn_loop.proofs.buffer.read_behind.Goals as goal

pub returns-clause-takes : goal.returns-clause-takes
returns-clause-takes g c =
    let old = take (c.args.end - c.args.start) (drop c.args.start c.args.room.now.items) in
    subst (λ (t : List ℕ). Takes c.read_at-out.result old
    (take (c.args.end - c.args.start + got_len c.read_at-out.result) (drop c.make_room-start_now.result t))
    (g.L.Link.told c.args.link.now) (g.L.Link.told c.read_at-out.new.link))
    (sym (with_items_is c.make_room-start_now.new.room c.read_at-out.new.room
    (omega (arith, c.read_at-out.auto.room, c.deref_mut.ensures.len))))
    (window_takes c.read_at-out.result c.make_room-start_now.result
    (c.args.end - c.args.start) c.make_room-start_now.new.room.items c.read_at-out.new.room
    old _ _
    (c.read_at-out.ensures.before ∙ ap (λ (t : List ℕ).
    take (c.make_room-start_now.result + (c.args.end - c.args.start)) t) c.deref_mut.ensures.value)
    c.make_room-start_now.ensures.same c.read_at-out.ensures.within c.read_at-out.ensures.read)
