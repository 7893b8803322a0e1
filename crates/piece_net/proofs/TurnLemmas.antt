-- A poll's turn, opening by opening, and the place of a descriptor among openings.
use Rattle.std.proofs.Common.{◌≡◌, ℕ, zero, suc, ◌+◌, ◌<◌, ◌≤◌, ◌==◌, Bool, true, false, cond, List, [], ◌∷◌}
use Rattle.std.proofs.Common.{◌++◌, length, get_or, take, drop, map, refl, sym, ap, ◌∙◌, append_assoc, arith}
use Rattle.std.specs.Prelude.{min}
use Rattle.std.specs.List.{remove}
use Rattle.std.proofs.lemmas.List.{append-nil, drop_more, map_more, take_all, take_min, take_more}
use Rattle.std.proofs.Math.ListN.{drop_of_length-le}
use Rattle.reg_keys.specs.declared.opening.Opening.{Opening}
use Rattle.reg_keys.specs.declared.registration.Dirs.TheVariants.{Both}
use Rattle.poller.specs.Polls.{Report}
use Rattle.poller.specs.Rounds.{reports_of}
use Rattle.piece_net.specs.PiecePolls.{openings_after, reports_in_turn, without}

drop_min : (n : ℕ) (xs : List Opening) → drop (min n (length xs)) xs ≡ drop n xs
drop_min zero xs = let on : min zero (length xs) ≡ zero = omega arith in ap (λ k. drop k xs) on
drop_min (suc n) [] = let on : min (suc n) 0 ≡ zero = omega arith in ap (λ k. drop k []) on
drop_min (suc n) (x ∷ xs) =
    let on : min (suc n) (length (x ∷ xs)) ≡ suc (min n (length xs)) = omega arith in
    ap (λ k. drop k (x ∷ xs)) on ∙ drop_min n xs

-- one opening more was reported
pub turn_goes_on : (xs : List Opening) (i : ℕ) (d : Opening) → i < length xs
    → reports_of (take (i + 1) xs) ≡ reports_of (take i xs) ++ (get_or xs i d, Both) ∷ []
turn_goes_on xs i d lt = map_more (λ (o : Opening). (o, Both)) xs i d lt

-- as many were reported as one poll may
pub turn_given : (xs : List Opening) (c : ℕ) → c ≡ min (length xs) 1024
    → reports_of (take c xs) ≡ reports_in_turn xs
turn_given xs c is =
    let on : c ≡ min 1024 (length xs) = omega (arith, is) in
    ap reports_of (ap (λ k. take k xs) on ∙ take_min 1024 xs)

-- they come after the others
pub turn_after : (xs : List Opening) (c : ℕ) → c ≡ min (length xs) 1024
    → drop c xs ++ take c xs ≡ openings_after xs
turn_after xs c is =
    let on : c ≡ min 1024 (length xs) = omega (arith, is) in
    (λ k. (ap (λ n. drop n xs) on ∙ drop_min 1024 xs) k ++ (ap (λ n. take n xs) on ∙ take_min 1024 xs) k)

without_step : (xs : List Opening) (i : ℕ) (d : Opening) (fd : ℕ) → i < length xs → without fd (drop i xs)
    ≡ cond ((get_or xs i d).fd == fd) (drop (i + 1) xs) (get_or xs i d ∷ without fd (drop (i + 1) xs))
without_step xs i d fd lt = ap (without fd) (drop_more xs i d lt)

-- the opening at this place has the descriptor, and none before it has
pub without_found : (xs : List Opening) (i : ℕ) (d : Opening) (fd : ℕ) → i < length xs
    → ((get_or xs i d).fd == fd) ≡ true → without fd xs ≡ take i xs ++ without fd (drop i xs)
    → without fd xs ≡ remove xs i
without_found xs i d fd lt is at =
    let on : i + 1 ≡ suc i = omega arith in
    let here = without_step xs i d fd lt
    ∙ ap (λ (t : Bool). cond t (drop (i + 1) xs) (get_or xs i d ∷ without fd (drop (i + 1) xs))) is in
    at ∙ ap (λ t. take i xs ++ t) (here ∙ ap (λ k. drop k xs) on)

-- the opening at this place has another descriptor
pub without_passed : (xs : List Opening) (i : ℕ) (d : Opening) (fd : ℕ) → i < length xs
    → ((get_or xs i d).fd == fd) ≡ false → without fd xs ≡ take i xs ++ without fd (drop i xs)
    → without fd xs ≡ take (i + 1) xs ++ without fd (drop (i + 1) xs)
without_passed xs i d fd lt other at =
    let here = without_step xs i d fd lt
    ∙ ap (λ (t : Bool). cond t (drop (i + 1) xs) (get_or xs i d ∷ without fd (drop (i + 1) xs))) other in
    at ∙ ap (λ t. take i xs ++ t) here
    ∙ sym (append_assoc (take i xs) (get_or xs i d ∷ []) (without fd (drop (i + 1) xs)))
    ∙ ap (λ t. t ++ without fd (drop (i + 1) xs)) (sym (take_more xs i d lt))

-- no opening has the descriptor
pub without_none : (xs : List Opening) (i : ℕ) (fd : ℕ) → length xs ≤ i
    → without fd xs ≡ take i xs ++ without fd (drop i xs) → without fd xs ≡ xs
without_none xs i fd all at =
    at ∙ (λ k. take_all i xs all k ++ without fd (drop_of_length-le xs {i = i} all k)) ∙ append-nil xs
