-- To be believed: the tests and sums that the other definitions are made of.
use Rattle.std.specs.Prelude.{◌≡◌, ℕ, ◌+◌, ◌&&◌, ◌==◌, ◌⊎◌, List, [], ◌∷◌, true, false, Bool}
use Rattle.reg_keys.specs.declared.opening.Opening.{Opening}
use Rattle.reg_keys.specs.declared.event.EventName.{EventName}
use Rattle.reg_keys.specs.declared.registration.Key.{Key}
use Rattle.reg_keys.specs.declared.registration.Dir.{Dir}
use Rattle.reg_keys.specs.declared.registration.Dir.TheVariants.{Read, Write}
use Rattle.reg_keys.specs.declared.registration.Dirs.{Dirs}
use Rattle.reg_keys.specs.declared.registration.Dirs.TheVariants as Named

-- the same opening
abbrev pub same : Opening → Opening → Bool
same o p = (o.number == p.number) && (o.fd == p.fd)

-- the same key
abbrev pub same_key : Key → Key → Bool
same_key k l = k.number == l.number

-- the same event: number and opening together
abbrev pub same_event : EventName → EventName → Bool
same_event e f = (e.number == f.number) && same e.opening f.opening

-- the same direction
abbrev pub same_dir : Dir → Dir → Bool
same_dir Read Read = true
same_dir Write Write = true
same_dir _ _ = false

-- the directions that a report names have this one among them
abbrev pub has_dir : Dirs → Dir → Bool
has_dir Named.Read Read = true
has_dir Named.Write Write = true
has_dir Named.Both _ = true
has_dir _ _ = false

-- one where the test holds, and else none
abbrev pub one_if : Bool → ℕ
one_if true = 1
one_if false = 0

-- how many of a list pass a test
abbrev pub how_many : {A : Type 0} → (A → Bool) → List A → ℕ
how_many f [] = 0
how_many f (x ∷ xs) = one_if (f x) + how_many f xs

-- an element of a list
abbrev pub IsIn : {A : Type 0} → A → List A → Type 0
IsIn x [] = ⊥
IsIn x (y ∷ ys) = (x ≡ y) ⊎ IsIn x ys

-- the sum of a weight over a list
abbrev pub total : {A : Type 0} → (A → ℕ) → List A → ℕ
total f [] = 0
total f (x ∷ xs) = f x + total f xs
