use Rattle.timeout_mgr.specs.declared.view.CancelOutcome.TheVariants.{Again}
use Rattle.timeout_mgr.specs.declared.view.TimeCall.TheVariants.{Cancel}
use Rattle.timeout_mgr.proofs.timeouts.Timeouts.cancel_as.Given as goal

abbrev pub ghosts-answer : goal.ghosts-answer
ghosts-answer g a =
    record { call = Cancel (record { slot = a._about.now.slot; number = a._about.now.number }) Again }
