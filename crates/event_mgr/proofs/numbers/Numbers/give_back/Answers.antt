use Rattle.event_mgr.proofs.NumbersOut.{stands_back, stands_not_out}
use Rattle.event_mgr.proofs.numbers.Numbers.give_back.Goals as goal

pub returns-then-put_back : goal.returns-then-put_back
returns-then-put_back c past s =
    stands_back past _ c.args.self.now _ s (c.put_back.ensures.back _ s.shows c.if-put_back.true)

pub returns-else-put_back : goal.returns-else-put_back
returns-else-put_back c past s =
    stands_not_out past _ c.args.self.now _ s (c.put_back.ensures.not_out _ s.shows c.if-put_back.false)
