-- To be believed: what every history of a cache keeps, path by path.
use Rattle.std.specs.Prelude.{◌≡◌, ℕ, zero, suc, ◌+◌, ◌<◌, bytes_eq, List, Bool, false, Option, Some, None}
use Rattle.std.specs.Prelude.{if◌then◌else◌}
use Rattle.turn_cell.specs.Weights.{weigh}
use Rattle.fd_cache.specs.declared.deed.CacheDeed.{CacheDeed}
use Rattle.fd_cache.specs.declared.deed.CacheDeed.TheVariants.{Hit, Kept, Reaped}
use Rattle.fd_cache.specs.History.{EntryState, entry_at, idle_at}

module _ {L : Type 0} where
  -- the entry has the path
  abbrev pub has_path : List ℕ → Option (EntryState L) → Bool
  has_path x None = false
  has_path x (Some s) = bytes_eq x s.path

  -- the entry of a path among the first so many
  unfoldable pub entry_below : ℕ → List ℕ → List (CacheDeed L) → Option (EntryState L)
  entry_below zero x past = None
  entry_below (suc n) x past = if has_path x (entry_at n past) then entry_at n past else entry_below n x past

  abbrev pub leases_at : Option (EntryState L) → ℕ
  leases_at None = 0
  leases_at (Some s) = s.leases

  -- how many leases of a path are out
  abbrev pub leases_of : List ℕ → List (CacheDeed L) → ℕ
  leases_of x past = leases_at (entry_below 256 x past)

  -- the leases of a path that came back and are kept, the last one first
  abbrev pub idle_of : List ℕ → List (CacheDeed L) → List L
  idle_of x past = idle_at (entry_below 256 x past)

  -- no two entries have one path, so that what stands at an entry is what its path has
  pub record GoesByPaths (past : List (CacheDeed L)) : Type 0 where
    pub small : (k : ℕ) (s : EntryState L) → entry_at k past ≡ Some s → k < 256
    pub apart : (j k : ℕ) (s t : EntryState L) → entry_at j past ≡ Some s → entry_at k past ≡ Some t
        → s.path ≡ t.path → j ≡ k
    pub leases : (k : ℕ) (s : EntryState L) → entry_at k past ≡ Some s → leases_of s.path past ≡ s.leases
    pub idle : (k : ℕ) (s : EntryState L) → entry_at k past ≡ Some s → idle_of s.path past ≡ s.idle

  -- what came back by a deed and was kept, by any weight
  abbrev pub came_back : (L → ℕ) → CacheDeed L → ℕ
  came_back f (Kept k x l) = f l
  came_back f _ = 0

  -- what went out again by a deed or was closed, by any weight
  abbrev pub went_out : (L → ℕ) → CacheDeed L → ℕ
  went_out f (Hit k x l) = f l
  went_out f (Reaped ls) = weigh f ls
  went_out f _ = 0

  -- what came back to the first so many entries and is there, by any weight
  unfoldable pub kept_below : ℕ → (L → ℕ) → (ℕ → Option (EntryState L)) → ℕ
  kept_below zero f entries = 0
  kept_below (suc n) f entries = kept_below n f entries + weigh f (idle_at (entries n))

  -- what came back went out again, was closed, or is kept still: each lease as often as it came back, so
  -- that none goes out that is out
  abbrev pub AccountsForLeases : List (CacheDeed L) → Type 0
  AccountsForLeases past =
      (f : L → ℕ) → weigh (came_back f) past
      ≡ weigh (went_out f) past + kept_below 256 f (λ e. entry_at e past)
