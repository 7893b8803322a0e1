use Rattle.std.proofs.Common.{sym, subst}
use Rattle.level.specs.Meanings.{HoldAllSeats}
use Rattle.event_mgr.specs.Level.{mgr_meaning}
use Rattle.event_mgr.proofs.tests.passes_that_were_brought_level_go_on.Goals as goal

pub bring_level-requires-clause-seats : goal.bring_level-requires-clause-seats
bring_level-requires-clause-seats g c =
    subst (HoldAllSeats mgr_meaning) (sym c.as_mut_slice.ensures.value) c.in_ok-passes.ensures.seats
