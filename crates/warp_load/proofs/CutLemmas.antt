-- Bytes cut into steps: how many steps there are, what they bring, and the first of them.
use Rattle.std.proofs.Common.{◌≡◌, ℕ, zero, suc, ◌+◌, ◌<◌, ◌≤◌, List, [], ◌∷◌, ◌++◌, length, map, take, drop}
use Rattle.std.proofs.Common.{refl, sym, ap, ◌∙◌, arith, length-append, length-drop}
use Rattle.std.proofs.lemmas.List.{take_all, take-append-drop, drop_all}
use Rattle.std.proofs.Math.Seq.{take-append_seam, drop-append_seam}
use Rattle.poller.specs.declared.script.ScriptStep.{ScriptStep}
use Rattle.poller.specs.Scripts.{pieces_in}
use Rattle.warp_load.specs.LoadScripts.{piece_length, piece_allowance, steps_within, steps_for, step_shown}

-- each step brings a byte
pub piece_length-pos : (seed i k : ℕ) → 1 ≤ piece_length seed i k
unfolding piece_length
piece_length-pos seed i k = omega arith

pub piece_length-le : (seed i k : ℕ) → piece_length seed i k ≤ 61
unfolding piece_length
piece_length-le seed i k = omega arith

-- as many steps as bytes are enough
enough : (seed i m n k : ℕ) (s : List ℕ) → length s ≤ m → length s ≤ n
    → steps_within seed i m k s ≡ steps_within seed i n k s
unfolding steps_within
enough seed i zero zero k [] few few' = refl
enough seed i zero (suc n) k [] few few' = refl
enough seed i (suc m) zero k [] few few' = refl
enough seed i (suc m) (suc n) k [] few few' = refl
enough seed i zero n k (b ∷ s) few few' = absurd (omega (arith, few))
enough seed i (suc m) zero k (b ∷ s) few few' = absurd (omega (arith, few'))
enough seed i (suc m) (suc n) k (b ∷ s) few few' =
    let later = drop (piece_length seed i k) (b ∷ s) in
    let shorter : length later ≤ length s =
    omega (arith, length-drop (piece_length seed i k) (b ∷ s), piece_length-pos seed i k) in
    ap
    (λ (steps : List (List ℕ × ℕ)). (take (piece_length seed i k) (b ∷ s), piece_allowance seed i k) ∷ steps)
    (enough seed i m n (k + 1) later (omega (arith, shorter, few)) (omega (arith, shorter, few')))

-- the first step of some bytes
first_within : (seed i m k : ℕ) (b : ℕ) (s : List ℕ) → length s ≤ m
    → steps_within seed i (suc m) k (b ∷ s)
    ≡ (take (piece_length seed i k) (b ∷ s), piece_allowance seed i k)
    ∷ steps_for seed i (k + 1) (drop (piece_length seed i k) (b ∷ s))
unfolding steps_within
first_within seed i m k b s few =
    let later = drop (piece_length seed i k) (b ∷ s) in
    let shorter : length later ≤ length s =
    omega (arith, length-drop (piece_length seed i k) (b ∷ s), piece_length-pos seed i k) in
    ap
    (λ (steps : List (List ℕ × ℕ)). (take (piece_length seed i k) (b ∷ s), piece_allowance seed i k) ∷ steps)
    (enough seed i m (length later) (k + 1) later (omega (arith, shorter, few)) (omega arith))

-- no steps for no bytes
pub steps_for-nil : (seed i k : ℕ) → steps_for seed i k [] ≡ []
unfolding steps_within
steps_for-nil seed i k = refl

pub steps_for-first : (seed i k : ℕ) (s : List ℕ) → 0 < length s
    → steps_for seed i k s ≡ (take (piece_length seed i k) s, piece_allowance seed i k)
    ∷ steps_for seed i (k + 1) (drop (piece_length seed i k) s)
steps_for-first seed i k [] some = absurd (omega (arith, some))
steps_for-first seed i k (b ∷ s) some = first_within seed i (length s) k b s (omega arith)

-- a piece that is full is the first step
pub steps_for-full : (seed i k : ℕ) (piece later : List ℕ) → length piece ≡ piece_length seed i k
    → steps_for seed i k (piece ++ later) ≡ (piece, piece_allowance seed i k) ∷ steps_for seed i (k + 1) later
steps_for-full seed i k piece later full =
    steps_for-first seed i k (piece ++ later)
    (omega (arith, length-append piece later, full, piece_length-pos seed i k))
    ∙ ap (λ (n : ℕ).
    (take n (piece ++ later), piece_allowance seed i k) ∷ steps_for seed i (k + 1) (drop n (piece ++ later)))
    (sym full)
    ∙ ap (λ (front : List ℕ).
    (front, piece_allowance seed i k) ∷ steps_for seed i (k + 1) (drop (length piece) (piece ++ later)))
    (take-append_seam piece later)
    ∙ ap (λ (back : List ℕ). (piece, piece_allowance seed i k) ∷ steps_for seed i (k + 1) back)
    (drop-append_seam piece later)

-- bytes that one step brings are the only one
pub steps_for-last : (seed i k : ℕ) (piece : List ℕ) → 0 < length piece → length piece ≤ piece_length seed i k
    → steps_for seed i k piece ≡ (piece, piece_allowance seed i k) ∷ []
steps_for-last seed i k piece some short =
    steps_for-first seed i k piece some
    ∙ rw (
      take_all (piece_length seed i k) piece short,
      drop_all (piece_length seed i k) piece short,
      steps_for-nil seed i (k + 1),
    ) refl

-- there are no more steps than were allowed
pub length-steps_within : (seed i m k : ℕ) (s : List ℕ) → length (steps_within seed i m k s) ≤ m
unfolding steps_within
length-steps_within seed i zero k s = omega arith
length-steps_within seed i (suc m) k [] = omega arith
length-steps_within seed i (suc m) k (b ∷ s) =
    omega (arith, length-steps_within seed i m (k + 1) (drop (piece_length seed i k) (b ∷ s)))

-- the pieces of plain steps, laid end to end
abbrev pub pieces_of : List (List ℕ × ℕ) → List ℕ
pieces_of [] = []
pieces_of (step ∷ steps) = step.0 ++ pieces_of steps

-- the steps bring the bytes
pub pieces-steps_within : (seed i m k : ℕ) (s : List ℕ) → length s ≤ m
    → pieces_of (steps_within seed i m k s) ≡ s
unfolding steps_within
pieces-steps_within seed i zero k [] few = refl
pieces-steps_within seed i zero k (b ∷ s) few = absurd (omega (arith, few))
pieces-steps_within seed i (suc m) k [] few = refl
pieces-steps_within seed i (suc m) k (b ∷ s) few =
    let n = piece_length seed i k in
    let shorter : length (drop n (b ∷ s)) ≤ m =
    omega (arith, length-drop n (b ∷ s), piece_length-pos seed i k, few) in
    ap (λ (t : List ℕ). take n (b ∷ s) ++ t) (pieces-steps_within seed i m (k + 1) (drop n (b ∷ s)) shorter)
    ∙ take-append-drop n (b ∷ s)

-- what steps of a script bring, by what they show
pub pieces_in-shown : (steps : List ScriptStep) → pieces_in steps ≡ pieces_of (map step_shown steps)
pieces_in-shown [] = refl
pieces_in-shown (step ∷ steps) = ap (λ (t : List ℕ). step.piece.items ++ t) (pieces_in-shown steps)
