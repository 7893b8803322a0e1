use Rattle.event_mgr.proofs.NumbersOut.{stands_drawn, stands_all_out}
use Rattle.event_mgr.proofs.numbers.Numbers.draw.Goals as goal

pub returns-in-Some : goal.returns-in-Some
returns-in-Some c past s = stands_drawn past _ c.args.self.now _ s (c.in-Some.ensures.taken _ s.shows)

pub returns-in-None : goal.returns-in-None
returns-in-None c past s = stands_all_out past c.args.self.now _ s (c.in-None.ensures.none _ s.shows)
