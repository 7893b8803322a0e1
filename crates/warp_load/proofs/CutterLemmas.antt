-- How a cutter goes on and ends.
use Rattle.std.proofs.Common.{◌≡◌, ℕ, ◌+◌, ◌<◌, ◌==◌, true, false, List, [], ◌∷◌, ◌++◌, length, map, vec_len}
use Rattle.std.proofs.Common.{refl, sym, ap, ◌∙◌, arith, append-nil, append_assoc}
use Rattle.std.proofs.lemmas.Bool.Decides.{nat_tests}
use Rattle.poller.specs.declared.script.ScriptStep.{ScriptStep}
use Rattle.warp_load.specs.declared.cutter.Cutter.{Cutter}
use Rattle.warp_load.specs.Cutting.{IsCut, IsSameCutter, next_length}
use Rattle.warp_load.specs.LoadScripts.{piece_length, piece_allowance, step_shown, steps_for}
use Rattle.warp_load.proofs.CutLemmas.{piece_length-pos, steps_for-nil, steps_for-full, steps_for-last}

-- what a test for emptiness says
pub zero_of : (n : ℕ) → true ≡ (n == 0) → n ≡ 0
zero_of n test = grind (arith, nat_tests)

pub pos_of : (n : ℕ) → false ≡ (n == 0) → 0 < n
pos_of n test = grind (arith, nat_tests)

none_at : (seed i k : ℕ) (steps : List ScriptStep) (piece later : List ℕ) → steps ≡ [] → k ≡ 0 → piece ≡ []
    → steps_for seed i 0 later ≡ map step_shown steps ++ steps_for seed i k (piece ++ later)
none_at seed i k steps piece later no_steps none no_piece = rw (no_steps, none, no_piece) refl

-- nothing is cut
pub cut_none : (c : Cutter) → c.steps.items ≡ [] → vec_len c.steps ≡ 0
    → c.piece.items ≡ [] → vec_len c.piece ≡ 0 → IsCut c []
cut_none c no_steps none no_piece empty = record {
  short = omega (arith, empty, piece_length-pos c.seed c.connection (vec_len c.steps));
  goes_on =
      λ later.
      none_at c.seed c.connection (vec_len c.steps) c.steps.items c.piece.items later no_steps none no_piece;
}

-- a piece that became full is a step more
full : (seed i k : ℕ) (shown shown' : List (List ℕ × ℕ)) (front piece bytes later : List ℕ)
    → ((t : List ℕ) → steps_for seed i 0 (front ++ t) ≡ shown ++ steps_for seed i k (piece ++ t))
    → length (piece ++ bytes) ≡ piece_length seed i k
    → shown' ≡ shown ++ (piece ++ bytes, piece_allowance seed i k) ∷ []
    → steps_for seed i 0 ((front ++ bytes) ++ later) ≡ shown' ++ steps_for seed i (k + 1) later
full seed i k shown shown' front piece bytes later cut long more =
    ap (λ (t : List ℕ). steps_for seed i 0 t) (append_assoc front bytes later)
    ∙ cut (bytes ++ later)
    ∙ ap (λ (t : List ℕ). shown ++ steps_for seed i k t) (sym (append_assoc piece bytes later))
    ∙ ap (λ (steps : List (List ℕ × ℕ)). shown ++ steps) (steps_for-full seed i k (piece ++ bytes) later long)
    ∙ sym
    (append_assoc shown ((piece ++ bytes, piece_allowance seed i k) ∷ []) (steps_for seed i (k + 1) later))
    ∙ ap (λ (steps : List (List ℕ × ℕ)). steps ++ steps_for seed i (k + 1) later) (sym more)

pub cut_step : (old new : Cutter) (front bytes : List ℕ) → IsSameCutter old new
    → length (old.piece.items ++ bytes) ≡ next_length old
    → map step_shown new.steps.items ≡ map step_shown old.steps.items
    ++ (old.piece.items ++ bytes, piece_allowance old.seed old.connection (vec_len old.steps)) ∷ []
    → new.piece.items ≡ [] → vec_len new.piece ≡ 0 → vec_len new.steps ≡ vec_len old.steps + 1
    → IsCut old front → IsCut new (front ++ bytes)
cut_step old new front bytes same long more empty none one cut = record {
  short = omega (arith, none, piece_length-pos new.seed new.connection (vec_len new.steps));
  goes_on = λ later.
      let goes = full old.seed old.connection (vec_len old.steps) (map step_shown old.steps.items)
      (map step_shown new.steps.items) front old.piece.items bytes later cut.goes_on long more in
      let seeds = same.seed in
      let connections = same.connection in
      rw (seeds, connections, one, empty) goes;
}

-- all is cut, and no piece is left
pub cut_whole : (c : Cutter) (front : List ℕ) → IsCut c front
    → c.piece.items ≡ [] → map step_shown c.steps.items ≡ steps_for c.seed c.connection 0 front
cut_whole c front cut empty =
    let k = vec_len c.steps in
    sym (append-nil (map step_shown c.steps.items))
    ∙ ap (λ (steps : List (List ℕ × ℕ)). map step_shown c.steps.items ++ steps)
    (sym (steps_for-nil c.seed c.connection k))
    ∙ ap (λ (t : List ℕ). map step_shown c.steps.items ++ steps_for c.seed c.connection k (t ++ []))
    (sym empty)
    ∙ sym (cut.goes_on [])
    ∙ ap (λ (t : List ℕ). steps_for c.seed c.connection 0 t) (append-nil front)

-- the piece that is left is the last step
pub cut_last : (c : Cutter) (front : List ℕ) (shown : List (List ℕ × ℕ)) → IsCut c front
    → length c.piece.items ≡ vec_len c.piece → 0 < vec_len c.piece
    → shown ≡ map step_shown c.steps.items
    ++ (c.piece.items, piece_allowance c.seed c.connection (vec_len c.steps)) ∷ []
    → shown ≡ steps_for c.seed c.connection 0 front
cut_last c front shown cut long some more =
    let k = vec_len c.steps in
    let short = cut.short in
    more
    ∙ ap (λ (steps : List (List ℕ × ℕ)). map step_shown c.steps.items ++ steps)
    (sym (steps_for-last c.seed c.connection k c.piece.items (omega (arith, some, long))
    (omega (arith, long, short))))
    ∙ ap (λ (t : List ℕ). map step_shown c.steps.items ++ steps_for c.seed c.connection k t)
    (sym (append-nil c.piece.items))
    ∙ sym (cut.goes_on [])
    ∙ ap (λ (t : List ℕ). steps_for c.seed c.connection 0 t) (append-nil front)
