use Rattle.timeout_mgr.proofs.timeouts.Timeouts.tickle.Given as goal

abbrev pub ghosts-tickle_as : goal.ghosts-tickle_as
ghosts-tickle_as a = record { number = a.watch.now.number }
