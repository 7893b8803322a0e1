-- To be believed: what becomes of the lease of an open file that a connection holds.
use Rattle.std.specs.Prelude.{◌≡◌, ◌⊎◌, ℕ, Option, None, Some, Result, Ok, Err, option_map}
use Rattle.outside.specs.declared.files.Files.{Ghosts}
use Rattle.turn_cell.specs.declared.view.View.{View}
use Rattle.conn_loop.specs.ConnState.{ConnState}
use Rattle.fd_cache.specs.declared.lease.Lease.{Lease}
use Rattle.fd_cache.specs.declared.acquired.ReleaseOut.{ReleaseOut}
use Rattle.fd_cache.specs.declared.acquired.ReleaseOut.TheVariants.{Released, Spent}
use Rattle.fd_cache.specs.declared.deed.CacheDeed.{CacheDeed}
use Rattle.fd_cache.specs.Calls.{entry_held}
use Rattle.warp_passes.specs.CacheCalls.{HasCached, DidRelease, release_met}
use Rattle.warp_runner.specs.Deeds.{spent}

-- a lease was given back, or the cell of the cache took no more calls
abbrev pub way_of : {U E : Type 0} → Result U E → ReleaseOut
way_of (Ok u) = Released
way_of (Err e) = Spent

module _ {F X : Type 0} {G : Ghosts F X} where
  -- A lease was given back, where there is one: of all that the pass did the one deed of its release alone is
  -- new, and where there is none nothing changed. Or the cell took no call, and the pass has met it so
  abbrev pub HasGivenBack : Option (Lease F X G) → ReleaseOut → View (CacheDeed (Lease F X G))
      → View (CacheDeed (Lease F X G)) → Type 0
  HasGivenBack None Released v w = w ≡ v
  HasGivenBack None Spent v w = ⊥
  HasGivenBack (Some lease) out v w = HasCached (DidRelease lease out) (release_met out) v w

  -- What a connection held as it ended was given back: the lease, if any, of the path and of the entry that it
  -- held. Or the cell took no call, and the dispatcher stops
  abbrev pub GaveBackWhatItHeld : ConnState → Option ℕ → View (CacheDeed (Lease F X G))
      → View (CacheDeed (Lease F X G)) → Type 0
  GaveBackWhatItHeld c stopped v w =
      (lease : Option (Lease F X G)) × (option_map (λ l. G.file_path l.file) lease ≡ c.lease)
      × (entry_held lease ≡ c.entry)
      × (HasGivenBack lease Released v w ⊎ ((stopped ≡ Some spent) × HasGivenBack lease Spent v w))
