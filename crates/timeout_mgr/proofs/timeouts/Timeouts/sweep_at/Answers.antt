use Rattle.std.proofs.Common.{inl, inr, refl, arith}
use Rattle.timeout_mgr.specs.declared.word.SlotState.TheVariants.{Active, Inactive}
use Rattle.timeout_mgr.proofs.Packed.{packed}
use Rattle.timeout_mgr.proofs.Steps.{sweep_looks}
use Rattle.timeout_mgr.proofs.Told.{look_live, then_sweeps}
use Rattle.timeout_mgr.proofs.timeouts.Timeouts.sweep_at.Goals as goal

pub load-found-requires : goal.load-found-requires
load-found-requires g c = let sized = c.args.self.now.sized in
    let inside = c.requires.inside in
    (c.requires.own, omega arith, sweep_looks _ _ _ _ (omega arith) _)

pub age-requires-clause-number : goal.age-requires-clause-number
age-requires-clause-number g c = (
  refl,
  (look_live _ _ _ _ _ c.load-found.ensures.2 _
      (inl (packed _ _ c.of_bits-number.ensures Active c.in-Active.is (omega arith)))).1,
)

pub returns-in-Active-clause-sweeps : goal.returns-in-Active-clause-sweeps
returns-in-Active-clause-sweeps g c =
    then_sweeps _ _ _ _ c.load-found.new.seat.me.0 _
    (look_live _ _ _ _ _ c.load-found.ensures.2 _
    (inl (packed _ _ c.of_bits-number.ensures Active c.in-Active.is (omega arith)))).0 c.age.ensures.sweeps

pub expire-requires-clause-number : goal.expire-requires-clause-number
expire-requires-clause-number g c = (
  refl,
  (look_live _ _ _ _ _ c.load-found.ensures.2 _
      (inr (packed _ _ c.of_bits-number.ensures Inactive c.in-Inactive.is (omega arith)))).1,
)

pub returns-in-Inactive-clause-sweeps : goal.returns-in-Inactive-clause-sweeps
returns-in-Inactive-clause-sweeps g c =
    then_sweeps _ _ _ _ c.load-found.new.seat.me.0 _
    (look_live _ _ _ _ _ c.load-found.ensures.2 _
    (inr (packed _ _ c.of_bits-number.ensures Inactive c.in-Inactive.is (omega arith)))).0
    c.expire.ensures.sweeps
