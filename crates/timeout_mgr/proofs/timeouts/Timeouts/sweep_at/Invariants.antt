use Rattle.timeout_mgr.proofs.timeouts.Timeouts.sweep_at.Given as goal

abbrev pub ghosts-age : goal.ghosts-age
ghosts-age g a = record { number = a.number }

abbrev pub ghosts-expire : goal.ghosts-expire
ghosts-expire g a = record { number = a.number }
