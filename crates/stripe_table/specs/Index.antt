-- Inner: for each class of keys, the places of the descriptors at which keys of the class wait.
use Rattle.std.specs.Prelude.{◌≡◌, ℕ, ◌+◌, ◌*◌, ◌/◌, ◌%◌, ◌<◌, true, List, get_or, Option, Some, slice_get}
use Rattle.std.specs.List.{list_any}
use Rattle.std.specs.Int.{bit_at}
use Rattle.stripe_table.specs.Descriptors.{waits_as}
use Rattle.stripe_table.specs.declared.descriptor.Registration.{Registration}
use Rattle.stripe_table.specs.declared.descriptor.OpenDescriptor.{OpenDescriptor}

-- the word that has the bit of a place for a key's class: there are 256 classes, and two words for each,
-- since a stripe has 128 descriptors
abbrev pub word_of : ℕ → ℕ → ℕ
word_of key place = key / 32 % 256 * 2 + place / 64

-- the place is listed for the key's class
abbrev pub IsListed : List ℕ → ℕ → ℕ → Type 0
IsListed words key place = bit_at (get_or words (word_of key place) 0) (place % 64) ≡ 1

-- other places stay listed
abbrev pub KeepsOthers : ℕ → List ℕ → List ℕ → Type 0
KeepsOthers place old new =
    (key other : ℕ) → other < 128 → (other ≡ place → ⊥) → IsListed old key other → IsListed new key other

module _ {T : Type 0} where
  -- the place is listed for each key of these registrations
  abbrev pub ListsAll : List ℕ → ℕ → List (Registration T) → Type 0
  ListsAll words place waits = (key : ℕ) → list_any (waits_as key) waits ≡ true → IsListed words key place

  -- the place of each descriptor is listed for each key that waits there
  abbrev pub IsIndexed : List ℕ → List (Option (OpenDescriptor T)) → Type 0
  IsIndexed words table =
      (place : ℕ) (d : OpenDescriptor T) → slice_get table place ≡ Some (Some d)
      → ListsAll words place d.waits
