-- Registrations by their numbers: each that was accepted has one.
use Rattle.std.proofs.Common.{◌≡◌, ℕ, zero, suc, ◌+◌, ◌≤◌, ◌<◌, ⊎_elim, List, [], ◌∷◌, true, false, Bool}
use Rattle.std.proofs.Common.{refl, ap, arith}
use Rattle.std.specs.Prelude.{◌==◌, ◌&&◌, nat_lt}
use Rattle.std.proofs.lemmas.Bool.{eq-eqb, ne_eqb, ltb-true, ltb-false, cases_Bool}
use Rattle.reg_keys.specs.declared.opening.Opening.{Opening}
use Rattle.reg_keys.specs.declared.entry.LoadKind.{LoadKind}
use Rattle.reg_keys.specs.declared.entry.LoadKind.TheVariants.{Job}
use Rattle.reg_keys.specs.declared.entry.Entry.{Entry}
use Rattle.reg_keys.specs.declared.entry.Entry.TheVariants.{Register}
use Rattle.reg_keys.specs.declared.entry.RegisterOutcome.TheVariants.{Waits}
use Rattle.reg_keys.specs.Tests.{one_if}
use Rattle.reg_keys.specs.AllStripes.{sum_below}
use Rattle.turn_cell.specs.Weights.{weigh}
use Rattle.whole_runs.proofs.Flows.{accepted, accepted_any, of_any, of_job}
use Rattle.whole_runs.proofs.Chains.{sum_both, sum_none}

one_at : (b : Bool) (n m : ℕ) → m ≤ n → sum_below m (λ k. one_if (b && (n == k))) ≡ 0
one_at b n zero le = refl
one_at true n (suc m) le =
    let r = one_at true n m (omega arith) in
    let e = ap one_if (ne_eqb n m (λ x. omega arith)) in
    omega arith
one_at false n (suc m) le = let r = one_at false n m (omega arith) in omega arith

one_in : (b : Bool) (n m : ℕ) → n < m → sum_below m (λ k. one_if (b && (n == k))) ≡ one_if b
one_in b n zero lt = absurd (omega arith)
one_in true n (suc m) lt = ⊎_elim
    (λ (h : nat_lt n m ≡ true).
    let x = ltb-true n m h in
    let r = one_in true n m x in
    let e = ap one_if (ne_eqb n m (λ y. omega arith)) in
    omega arith)
    (λ (h : nat_lt n m ≡ false).
    let x = ltb-false n m h in
    let r = one_at true n m (omega arith) in
    let e = ap one_if (eq-eqb n m (omega arith)) in
    omega arith)
    (cases_Bool (nat_lt n m))
one_in false n (suc m) lt = none_in m
  where
    none_in : (m : ℕ) → sum_below (suc m) (λ k. one_if (false && (n == k))) ≡ 0
    none_in m = sum_none (suc m)

-- the number of a job, by its tag
number_of : LoadKind → ℕ
number_of (Job ((number ∷ fd ∷ []) ∷ (n ∷ []) ∷ more)) = n
number_of _ = 0

each_load : (these : Opening → Bool) (m : ℕ) (kind : LoadKind) → number_of kind < m
    → sum_below m (λ k. of_job these k kind) ≡ of_any these kind
unfolding number_of
each_load these m (Job ((number ∷ fd ∷ []) ∷ (n ∷ []) ∷ more)) lt =
    one_in (these (record { number = number; fd = fd })) n m lt
each_load these m _ lt = sum_none m

-- the number of what an entry accepted
number_at : Entry → ℕ
number_at (Register o d m kind (Waits key e)) = number_of kind
number_at _ = 0

each_entry : (these : Opening → Bool) (m : ℕ) (e : Entry) → number_at e < m
    → sum_below m (λ k. accepted these k e) ≡ accepted_any these e
unfolding number_at
each_entry these m (Register o d q kind (Waits key e)) lt = each_load these m kind lt
each_entry these m _ lt = sum_none m

-- a number above those of all entries
pub most_of : List Entry → ℕ
most_of [] = 0
most_of (e ∷ es) = number_at e + 1 + most_of es

pub by_numbers : (these : Opening → Bool) (m : ℕ) (es : List Entry) → most_of es ≤ m
    → sum_below m (λ k. weigh (accepted these k) es) ≡ weigh (accepted_any these) es
unfolding most_of
by_numbers these m [] le = sum_none m
by_numbers these m (e ∷ es) le =
    let a = each_entry these m e (omega arith) in
    let r = by_numbers these m es (omega arith) in
    let b = sum_both (λ k. accepted these k e) (λ k. weigh (accepted these k) es) m in omega arith
