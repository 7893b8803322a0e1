-- To be believed: the history that a cache stands for.
use Rattle.std.specs.Prelude.{◌≡◌, ℕ, List, [], ◌∷◌, Option, map}
use mathlib.Core.List.{reverse}
use Rattle.outside.specs.declared.files.Files.{Ghosts}
use Rattle.fd_cache.specs.declared.lease.Lease.{Lease}
use Rattle.fd_cache.specs.declared.cache.Cache.{Cache}
use Rattle.fd_cache.specs.declared.deed.CacheDeed.{CacheDeed}
use Rattle.fd_cache.specs.History.{IsCacheHistory, EntryState, entry_at}
use Rattle.fd_cache.specs.Shelf.{at}

-- entries are what a history leaves, and each reply of the history is what it called for
pub record ShelfRepresents {L : Type 0} (past : List (CacheDeed L))
    (shelf : List (Option (EntryState L))) : Type 0 where
  pub legal : IsCacheHistory past
  pub entries : (e : ℕ) → entry_at e past ≡ at e shelf

-- the deeds of a history, each of which has the seat that it was made under, the newest first
abbrev pub past_of : {D : Type 0} → List (ℕ × D) → List D
past_of h = reverse (map (λ e. e.1) h)

module _ {F X : Type 0} {G : Ghosts F X} where
  -- the cache stands for this history, the newest deed first
  abbrev pub Represents : List (CacheDeed (Lease F X G)) → Cache F X G → Type 0
  Represents past cache = ShelfRepresents past cache.shelf

  -- whatever history the cache stood for, it then stands for that one and this deed
  abbrev pub Enters : CacheDeed (Lease F X G) → Cache F X G → Cache F X G → Type 0
  Enters deed old new =
      (past : List (CacheDeed (Lease F X G))) → Represents past old → Represents (deed ∷ past) new

  -- the same of the history of a cell, the oldest deed first, whatever the seats
  abbrev pub stands_for : Cache F X G → List (ℕ × CacheDeed (Lease F X G)) → Type 0
  stands_for cache h = Represents (past_of h) cache

  -- a cache has no name: any two may take each other's leases back
  abbrev pub no_name : Cache F X G → List ℕ
  no_name cache = []
