-- Inner: the entries of a cache as a list, by their numbers, and whose leases they keep.
use Rattle.std.specs.Prelude.{◌≡◌, ℕ, List, Option, Some, None, slice_get, slice_index_or}
use Rattle.fd_cache.specs.History.{EntryState}

-- the entry of a number
abbrev pub at : {L : Type 0} → ℕ → List (Option (EntryState L)) → Option (EntryState L)
at k shelf = slice_index_or shelf k None

-- each lease that came back to an entry has its path and its number
abbrev pub KeepsOwn : {L : Type 0} → (L → List ℕ × Option ℕ) → List (Option (EntryState L)) → Type 0
KeepsOwn {L} mark shelf =
    (k : ℕ) (s : EntryState L) (i : ℕ) (l : L) → at k shelf ≡ Some s → slice_get s.idle i ≡ Some l
    → mark l ≡ (s.path, Some k)
