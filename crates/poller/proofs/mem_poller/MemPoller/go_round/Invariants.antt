use Rattle.std.proofs.Common.{◌-◌}
use Rattle.poller.specs.Rounds.{Rounding}
use Rattle.poller.proofs.mem_poller.MemPoller.go_round.Given as goal

-- the round has come so far
abbrev pub invariant-loop-met : goal.invariant-loop-met
invariant-loop-met l = Rounding l.fn.self.entries.items l.self.entries.items l.out (l._met-end - l._met)
