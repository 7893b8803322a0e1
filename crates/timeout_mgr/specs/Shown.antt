-- To be believed: what the words say that the steps of a call found in a slot.
use Rattle.std.specs.Prelude.{◌≡◌, ℕ, ◌+◌, ◌*◌, ◌^◌, ◌≤◌, ◌⊎◌}

-- the word of a slot that is free and had this many uses
abbrev pub free_word : ℕ → ℕ
free_word uses = 8 * uses

-- the word of a slot whose watch lives, by the number of its use, and no sweep was the last that came by
abbrev pub active_word : ℕ → ℕ
active_word number = 8 * number + 2

-- the word of a slot whose watch lives, by the number of its use, and a sweep was the last that came by
abbrev pub inactive_word : ℕ → ℕ
inactive_word number = 8 * number + 3

-- the word shows that the watch with this number lives
abbrev pub ShowsAlive : ℕ → ℕ → Type 0
ShowsAlive number n = (n ≡ active_word number) ⊎ (n ≡ inactive_word number)

-- the word shows a slot that is in use, or had 2^40 uses
abbrev pub IsTaken : ℕ → Type 0
IsTaken n = (uses : ℕ) → n ≡ free_word uses → 2 ^ 40 ≤ uses
