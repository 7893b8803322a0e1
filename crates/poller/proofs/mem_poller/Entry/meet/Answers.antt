use Rattle.std.proofs.Common.{sym, ◌∙◌}
use Rattle.poller.proofs.RoundLemmas.{left_kept, left_silent}
use Rattle.poller.proofs.mem_poller.Entry.meet.Goals as goal

pub returns-then-has_left : goal.returns-then-has_left
returns-then-has_left c =
    let going = sym c.is_done.ensures.done ∙ c.if-is_done.false in
    let f = c.has_left.new.self in
    let some = c.has_left.ensures.left.0 c.if-has_left.true in record {
      found = f.left;
      kept = left_kept c.args.self.now f going some c.has_left.ensures.found;
      given = left_silent c.args.self.now f.left c.args.out.now going some;
    }
