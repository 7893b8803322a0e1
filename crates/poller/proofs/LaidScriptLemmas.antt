-- Steps laid end to end, one more at a time.
use Rattle.std.proofs.Common.{◌≡◌, ℕ, zero, suc, ◌+◌, ◌≤◌, ◌<◌, List, [], ◌∷◌, ◌++◌, length, map, take}
use Rattle.std.proofs.Common.{get_or, refl, sym, ap, ◌∙◌, arith}
use Rattle.std.specs.Prelude.{slice_index}
use Rattle.std.proofs.lemmas.List.{length-append, map-append}
use native.Mathlib.Decide.{ℕ_discrete}
use Rattle.poller.specs.declared.laid_script.Reached.{Reached}
use Rattle.poller.specs.declared.script.ScriptStep.{ScriptStep}
use Rattle.poller.specs.LaidScripts.{Lays}
use Rattle.poller.specs.Scripts.{allowed_in, pieces_in}
use Rattle.poller.proofs.ScriptLemmas.{allowed_more, pieces_more}

-- what stands in a list of numbers with one more at its end
index_before : (xs : List ℕ) (x j : ℕ) → j < length xs → slice_index (xs ++ x ∷ []) j ≡ slice_index xs j
index_before [] x j inside = absurd (omega arith)
index_before (y ∷ ys) x zero inside = refl
index_before (y ∷ ys) x (suc j) inside = index_before ys x j (omega arith)

index_last : (xs : List ℕ) (x j : ℕ) → j ≡ length xs → slice_index (xs ++ x ∷ []) j ≡ x
index_last [] x zero here = refl
index_last [] x (suc j) here = absurd (omega arith)
index_last (y ∷ ys) x zero here = absurd (omega arith)
index_last (y ∷ ys) x (suc j) here = index_last ys x j (omega arith)

length_mapped : (f : Reached → ℕ) (rs : List Reached) → length (map f rs) ≡ length rs
length_mapped f [] = refl
length_mapped f (r ∷ rs) = let e = length_mapped f rs in omega (arith, e)

-- a number of each reach, where one more reach was put after the others
pushed : (f : Reached → ℕ) (want : ℕ → ℕ) (rs : List Reached) (r : Reached) (k : ℕ) → length rs ≡ k + 1
    → ((j : ℕ) → j ≤ k → slice_index (map f rs) j ≡ want j) → f r ≡ want (k + 1)
    → (j : ℕ) → j ≤ k + 1 → slice_index (map f (rs ++ r ∷ [])) j ≡ want j
pushed f want rs r k long before here j inside =
    let m : map f (rs ++ r ∷ []) ≡ map f rs ++ f r ∷ [] = map-append f rs (r ∷ []) in
    let l = length_mapped f rs in
    ap (λ (t : List ℕ). slice_index t j) m ∙ elim (ℕ_discrete j (k + 1)) [
      | yes e ↦ index_last (map f rs) (f r) j (omega (arith, e, l, long)) ∙ (here ∙ ap want (sym e))
      | no n ↦ index_before (map f rs) (f r) j (omega (arith, l, long)) ∙ before j (omega arith)
    ]

-- nothing is laid yet
pub laid_none : (steps : List ScriptStep) (r : Reached) → r.input ≡ 0 → r.allowance ≡ 0
    → Lays steps 0 [] (r ∷ [])
laid_none steps r a b = record {
  whole = refl;
  count = omega arith;
  inputs =
      λ j inside.
      let e : j ≡ 0 = omega arith in
      ap (λ (n : ℕ). slice_index (r.input ∷ []) n) e
      ∙ (a ∙ ap (λ (n : ℕ). length (pieces_in (take n steps))) (sym e));
  allowances =
      λ j inside.
      let e : j ≡ 0 = omega arith in
      ap (λ (n : ℕ). slice_index (r.allowance ∷ []) n) e
      ∙ (b ∙ ap (λ (n : ℕ). allowed_in (take n steps)) (sym e));
}

-- one more step is laid after the others
pub laid_more : (steps : List ScriptStep) (k : ℕ) (input : List ℕ)
    (rs : List Reached) (s : ScriptStep) (r : Reached)
    → Lays steps k input rs → k < length steps → s ≡ get_or steps k s
    → r.input ≡ length (input ++ s.piece.items) → r.allowance ≡ allowed_in (take k steps) + s.allowance
    → Lays steps (k + 1) (input ++ s.piece.items) (rs ++ r ∷ [])
laid_more steps k input rs s r laid inside is a b =
    let whole : input ++ s.piece.items ≡ pieces_in (take (k + 1) steps) =
    ap (λ (t : List ℕ). t ++ s.piece.items) laid.whole ∙ sym (pieces_more steps k s inside is) in
    record {
      whole = whole;
      count =
          let l = length-append rs (r ∷ []) in
          let c = laid.count in omega (arith, l, c);
      inputs =
          pushed (λ x. x.input) (λ n. length (pieces_in (take n steps))) rs r k laid.count laid.inputs
          (a ∙ ap length whole);
      allowances =
          pushed (λ x. x.allowance) (λ n. allowed_in (take n steps)) rs r k laid.count laid.allowances
          (b ∙ sym (allowed_more steps k s inside is));
    }

-- a number of the reach that was read
pub reach_read : (f : Reached → ℕ) (rs : List Reached) (j : ℕ) (r : Reached) → j < length rs
    → r ≡ get_or rs j r → slice_index (map f rs) j ≡ f r
reach_read f [] j r inside is = absurd (omega arith)
reach_read f (x ∷ xs) zero r inside is = ap f (sym is)
reach_read f (x ∷ xs) (suc j) r inside is = reach_read f xs j r (omega arith) is
