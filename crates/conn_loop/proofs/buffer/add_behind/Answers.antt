use Rattle.std.proofs.Common.{◌≡◌, ◌+◌, ◌-◌, ◌++◌, ◌∙◌, ap, sym, subst, arith, List, ℕ, length, take, drop}
use Rattle.std.proofs.lemmas.List.{with_items_is}
use Rattle.conn_loop.proofs.WindowLemmas.{window_more}
use Rattle.conn_loop.proofs.buffer.add_behind.Goals as goal

pub returns-clause-is : goal.returns-clause-is
returns-clause-is c =
    let old = take (c.args.end - c.args.start) (drop c.args.start c.args.room.now.items) in
    subst (λ (t : List ℕ). take (c.args.end - c.args.start + length c.args.piece.now)
    (drop c.make_room-start_now.result t) ≡ old ++ c.args.piece.now)
    (sym (with_items_is c.make_room-start_now.new.room c.write_at.new.room
    (omega (arith, c.write_at.auto.room, c.deref_mut.ensures.len))))
    (window_more c.make_room-start_now.result (c.args.end - c.args.start)
    (length c.args.piece.now) c.make_room-start_now.new.room.items c.write_at.new.room old
    (c.write_at.ensures.before
    ∙ ap (λ (t : List ℕ). take (c.make_room-start_now.result + (c.args.end - c.args.start)) t)
    c.deref_mut.ensures.value) c.make_room-start_now.ensures.same
    ∙ ap (λ (t : List ℕ). old ++ t) c.write_at.ensures.piece)
