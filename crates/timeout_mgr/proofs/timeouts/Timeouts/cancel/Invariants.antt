use Rattle.timeout_mgr.proofs.timeouts.Timeouts.cancel.Given as goal

abbrev pub ghosts-cancel_as : goal.ghosts-cancel_as
ghosts-cancel_as a = record { number = a.watch.number }
