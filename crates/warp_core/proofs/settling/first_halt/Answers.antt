use Rattle.std.proofs.Common.{sym, subst}
use Rattle.std.specs.Prelude.{IsSomeAnd, Option}
use Rattle.warp_core.specs.declared.row.Halted.{Halted}
use Rattle.warp_core.specs.Settling.{EndOf}
use Rattle.warp_core.proofs.settling.first_halt.Goals as goal

pub returns-in-Some : goal.returns-in-Some
returns-in-Some g c = (
  c.loop-row.row-index,
  c.row-item.result,
  c.loop-row-test.true,
  sym c.row-item.is,
  subst (λ (h : Option Halted). IsSomeAnd h (λ k. EndOf k c.end_of.result))
      (sym c.in-Some.is) c.end_of.ensures,
)
