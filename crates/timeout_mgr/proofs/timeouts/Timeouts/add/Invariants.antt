use Rattle.std.specs.Prelude.{List}
use Rattle.timeout_mgr.specs.declared.view.AddOutcome.TheVariants.{Full}
use Rattle.timeout_mgr.specs.declared.view.TimeCall.TheVariants.{Add}
use Rattle.timeout_mgr.specs.declared.view.Shown.{Shown}
use Rattle.timeout_mgr.specs.Calls.{IsOf, view_of, AreTaken}
use Rattle.timeout_mgr.specs.OneSlot.{Stays}
use Rattle.timeout_mgr.proofs.timeouts.Timeouts.add.Given as goal

abbrev pub invariant-loop-count : goal.invariant-loop-count
invariant-loop-count l = record {
  own : IsOf l.self l.pass;
  taken : (items : List Shown) × Stays items (view_of l.fn.pass) (view_of l.pass)
      × AreTaken l.first l.count items;
}

abbrev pub ghosts-answer : goal.ghosts-answer
ghosts-answer a = record { call = Add a._about.now Full }
