-- Sums over all stripes: what happens in one stripe alone, and there once at most, happens once at most.
use Rattle.std.proofs.Common.{◌≡◌, ℕ, zero, suc, ◌+◌, ◌%◌, ◌≤◌, ◌<◌, ⊎_elim, List, true, false, sym, refl}
use Rattle.std.proofs.Common.{arith}
use Rattle.std.specs.Prelude.{◌==◌}
use Rattle.std.proofs.lemmas.Bool.{eqb-true, eqb-false, cases_Bool}
use Rattle.reg_keys.specs.declared.limits.TheConstants.{STRIPES}
use Rattle.reg_keys.specs.declared.entry.Entry.{Entry}
use Rattle.reg_keys.specs.Promises.{weight, times_run}
use Rattle.reg_keys.specs.Accounts.{draws, times_reported, opens}
use Rattle.reg_keys.specs.AllStripes.{sum_below, AreLegal, HappensOnce}
use Rattle.reg_keys.proofs.Drawing.{draws_each_once}
use Rattle.reg_keys.proofs.InStripe.{draws_in_its_stripe}
use Rattle.reg_keys.proofs.ReportNumbers.{numbers_reports_alone}

-- where at most one place has something, and that at most once, so has the sum
module _ (g : ℕ → ℕ) (k : ℕ) where
  none_below : (n : ℕ) → ((s : ℕ) → s < n → 1 ≤ g s → s ≡ k) → n ≤ k → sum_below n g ≡ 0
  none_below zero only le = refl
  none_below (suc n) only le = let r = none_below n (λ s lt h. only s (omega arith) h) (omega arith) in ⊎_elim
      (λ (h : (g n == 0) ≡ true). let z = eqb-true (g n) 0 h in omega arith)
      (λ (h : (g n == 0) ≡ false).
      let z = eqb-false (g n) 0 h in
      let e = only n (omega arith) (omega arith) in
      absurd (omega arith))
      (cases_Bool (g n == 0))

  pub one_below : (n : ℕ) → ((s : ℕ) → s < n → g s ≤ 1) → ((s : ℕ) → s < n → 1 ≤ g s → s ≡ k)
      → sum_below n g ≤ 1
  one_below zero most only = omega arith
  one_below (suc n) most only =
      let r = one_below n (λ s lt. most s (omega arith)) (λ s lt h. only s (omega arith) h) in
      let m = most n (omega arith) in
      ⊎_elim
      (λ (h : (g n == 0) ≡ true). let z = eqb-true (g n) 0 h in omega arith)
      (λ (h : (g n == 0) ≡ false).
      let z = eqb-false (g n) 0 h in
      let e = only n (omega arith) (omega arith) in
      let b = none_below n (λ s lt x. only s (omega arith) x) (omega arith) in
      omega arith)
      (cases_Bool (g n == 0))

module _ (firsts : ℕ → ℕ) (pasts : ℕ → List Entry) (legal : AreLegal firsts pasts) where
  of_stripe : (n s : ℕ) → s < STRIPES
      → 1 ≤ times_reported s (firsts s) n (pasts s) + weight (draws n) (pasts s) → s ≡ n % STRIPES
  of_stripe n s lt h = ⊎_elim
      (λ (is : (times_reported s (firsts s) n (pasts s) == 0) ≡ true). let z =
      eqb-true (times_reported s (firsts s) n (pasts s)) 0 is in
      sym ((draws_in_its_stripe s (firsts s) lt (pasts s) (legal s lt)).numbers n (omega arith)))
      (λ (is : (times_reported s (firsts s) n (pasts s) == 0) ≡ false). let z =
      eqb-false (times_reported s (firsts s) n (pasts s)) 0 is in
      sym ((numbers_reports_alone s (firsts s) lt (pasts s) (legal s lt)).stripe n (omega arith)))
      (cases_Bool (times_reported s (firsts s) n (pasts s) == 0))

  pub happens_once : HappensOnce firsts pasts
  happens_once = record {
    numbers =
        λ n.
        one_below (λ s. times_reported s (firsts s) n (pasts s) + weight (draws n) (pasts s)) (n % STRIPES)
        STRIPES (λ s lt. (numbers_reports_alone s (firsts s) lt (pasts s) (legal s lt)).once n) (of_stripe n);
    openings =
        λ o. one_below (λ s. weight (opens o) (pasts s)) (o.number % STRIPES) STRIPES
        (λ s lt. (draws_each_once s (firsts s) (pasts s) (legal s lt)).openings o)
        (λ s lt h. sym ((draws_in_its_stripe s (firsts s) lt (pasts s) (legal s lt)).openings o h));
    runs =
        λ k. one_below (λ s. weight (times_run k) (pasts s)) (k.number % STRIPES) STRIPES
        (λ s lt. (draws_each_once s (firsts s) (pasts s) (legal s lt)).runs k)
        (λ s lt h. sym ((draws_in_its_stripe s (firsts s) lt (pasts s) (legal s lt)).runs k h));
  }
