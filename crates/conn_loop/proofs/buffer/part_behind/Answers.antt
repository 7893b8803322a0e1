use Rattle.std.proofs.Common.{◌+◌, ◌-◌, ◌∙◌, ap, sym, subst, arith, take, drop, List, ℕ}
use Rattle.std.proofs.lemmas.List.{with_items_is}
use Rattle.conn_loop.specs.Moves.{TakesPart, part_len}
use Rattle.conn_loop.proofs.WindowLemmas.{window_part}
use Rattle.conn_loop.proofs.buffer.part_behind.Goals as goal

pub returns-clause-takes : goal.returns-clause-takes
returns-clause-takes g c =
    let old = take (c.args.end - c.args.start) (drop c.args.start c.args.room.now.items) in
    let path = g.F.Files.file_path c.args.lease.now.file in
    subst (λ (t : List ℕ). TakesPart g.F.Files.folder path c.args.from c.args.n c.part_at-out.result old
    (take (c.args.end - c.args.start + part_len c.part_at-out.result) (drop c.make_room-start_now.result t)))
    (sym (with_items_is c.make_room-start_now.new.room c.part_at-out.new.room
    (omega (arith, c.part_at-out.auto.room, c.deref_mut.ensures.len))))
    (window_part g.F.Files.folder path c.args.from c.args.n c.part_at-out.result c.make_room-start_now.result
    (c.args.end - c.args.start) c.make_room-start_now.new.room.items c.part_at-out.new.room
    old (c.part_at-out.ensures.before ∙ ap (λ (t : List ℕ).
    take (c.make_room-start_now.result + (c.args.end - c.args.start)) t) c.deref_mut.ensures.value)
    c.make_room-start_now.ensures.same c.part_at-out.ensures.within c.part_at-out.ensures.reads)
