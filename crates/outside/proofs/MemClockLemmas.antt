-- The moments that a clock in memory hands out.
use Rattle.std.proofs.Common.{◌≡◌, ◌<◌, ℕ, ◌+◌, List, [], ◌∷◌, min, Some, None, cond, Bool, true, false}
use Rattle.std.proofs.Common.{nat_lt, refl, add-one, arith}
use Rattle.std.proofs.lemmas.Bool.Decides.{nat_tests}
use Rattle.outside.specs.Counts.{full}
use Rattle.outside.specs.Moments.{Gains}
use Rattle.outside.specs.MemClock.{moment_after, moments_before}

-- one more moment comes to the list that is told, as long as the moments can be counted
pub gains_one : (moments : List ℕ) (asked next moment : ℕ) (a b : Bool) → nat_lt asked full ≡ a
    → nat_lt next full ≡ b → next ≡ min (asked + 1) full
    → moment ≡ moment_after moments asked
    → Gains (cond a (Some (moments_before moments asked)) None)
    (cond b (Some (moments_before moments next)) None) (moment ∷ [])
gains_one moments asked next moment a false is also more here = tt
gains_one moments asked next moment false true is also more here = absurd (grind (arith, nat_tests))
gains_one moments asked next moment true true is also more here =
    let below : next < full = grind (arith, nat_tests) in
    let plain : next ≡ asked + 1 = omega (arith, more, below) in
    rw (plain, add-one, here) refl
