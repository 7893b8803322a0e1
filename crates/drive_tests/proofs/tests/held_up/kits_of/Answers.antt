use Rattle.std.proofs.Common.{ap, length, length-append, arith}
use Rattle.drive_tests.proofs.Books.{empty_books}
use Rattle.drive_tests.proofs.tests.held_up.kits_of.Goals as goal

pub loop-poller-preserved : goal.loop-poller-preserved
loop-poller-preserved c = record {
  count = omega (
    arith,
    c.loop-poller.invariant.count,
    c.in-Some.ensures.steps.1,
    simp length-append at (ap length c.in_ok-push.ensures.items),
  );
  books =
      empty_books c.loop-poller.kits.items c.push.new.self.items c.in_ok-kit_of.field-0
      c.in_ok-push.ensures.items
      c.loop-poller.invariant.books c.in_ok-kit_of.ensures;
}
