use Rattle.std.proofs.Common.{length, ap, sym, ◌∙◌}
use Rattle.ready_queue.specs.History.{held_after}
use Rattle.ready_queue.proofs.laws.answers_to_all_seats_are_exact.Goals as goal

pub returns-clause-full : goal.returns-clause-full
returns-clause-full c capacity v w all was =
    ap (λ l. length (held_after l)) (sym (c.all_seats_see_all.ensures v.classes v.seen was.log all was.ahead))
    ∙ was.full

pub returns-clause-empty : goal.returns-clause-empty
returns-clause-empty c capacity v w all was =
    ap held_after (sym (c.all_seats_see_all.ensures v.classes v.seen was.log all was.ahead)) ∙ was.empty
