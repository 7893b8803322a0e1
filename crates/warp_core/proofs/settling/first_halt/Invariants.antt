use Rattle.warp_core.proofs.settling.first_halt.Given as goal

abbrev pub invariant-loop-row : goal.invariant-loop-row
invariant-loop-row g l = Unit {0}
