-- To be believed: what an acquire and a release on a shared cache say, over what the
-- pass knows before and after.
use Rattle.std.specs.Prelude.{◌≡◌, ℕ, ◌⊎◌, List}
use Rattle.turn_cell.specs.declared.view.View.{View}
use Rattle.turn_cell.specs.Calls.{Entered, WasSpent}
use Rattle.outside.specs.declared.files.Files.{Ghosts}
use Rattle.outside.specs.declared.files.FindOut.{FindOut}
use Rattle.outside.specs.FileCauses.{FilesTold, Looked}
use Rattle.fd_cache.specs.declared.lease.Lease.{Lease}
use Rattle.fd_cache.specs.declared.acquired.Acquired.{Acquired}
use Rattle.fd_cache.specs.declared.acquired.Acquired.TheVariants.{Leased, NoMemory, Spent}
use Rattle.fd_cache.specs.declared.acquired.ReleaseOut.{ReleaseOut}
use Rattle.fd_cache.specs.declared.acquired.ReleaseOut.TheVariants as Releases
use Rattle.fd_cache.specs.declared.deed.CacheDeed.{CacheDeed}
use Rattle.fd_cache.specs.declared.deed.CacheDeed.TheVariants as Deeds
use Rattle.fd_cache.specs.Acquired.{IsRelease, LookedSo, ending}
use Rattle.fd_cache.specs.Calls.{number_of}
use Rattle.fd_cache.specs.Represents.{no_name, stands_for}

module _ {F X : Type 0} {G : Ghosts F X} where
  -- a deed of the pass was entered in the cell's history
  abbrev pub EnteredIn : CacheDeed (Lease F X G) → View (CacheDeed (Lease F X G))
      → View (CacheDeed (Lease F X G)) → Type 0
  EnteredIn deed v w = Entered stands_for no_name deed v w

  -- the cell's history has as many deeds as it can have
  abbrev pub SpentAt : View (CacheDeed (Lease F X G)) → View (CacheDeed (Lease F X G)) → Type 0
  SpentAt v w = WasSpent {E = CacheDeed (Lease F X G)} (stands_for {F = F} {X = X} {G = G}) no_name v w

  -- how an acquire went: its deeds, and what the files told before and after
  pub data HasShared (path : List ℕ) (result : Acquired F X G) (v w : View (CacheDeed (Lease F X G)))
      (old new : FilesTold) : Type 0 where
    -- a lease came back before, and the files weren't asked
    hit : (lease : Lease F X G) → result ≡ Leased lease
        → EnteredIn (Deeds.Hit (number_of lease.entry) path lease) v w → new ≡ old
        → HasShared path result v w old new
    -- the files were looked at, and the ticket ended
    fresh : (k : ℕ) (u : View (CacheDeed (Lease F X G))) → EnteredIn (Deeds.Fresh k path) v u
        → LookedSo result path old new → EnteredIn (ending k path result) u w
        → HasShared path result v w old new
    -- the files were looked at for a path that the cache doesn't keep
    past : EnteredIn (Deeds.Bypass path) v w → LookedSo result path old new
        → HasShared path result v w old new
    -- memory was short before anything was asked
    short : result ≡ NoMemory → w ≡ v → new ≡ old → HasShared path result v w old new
    -- the cell took no call
    spent : result ≡ Spent → SpentAt v w → new ≡ old → HasShared path result v w old new
    -- the cell took no call that would have ended the ticket
    cut : (k : ℕ) (u : View (CacheDeed (Lease F X G))) (found : FindOut X) → result ≡ Spent
        → EnteredIn (Deeds.Fresh k path) v u → Looked found path old new → SpentAt u w
        → HasShared path result v w old new

  -- the same from where the ticket was given
  pub data HasEndedTicket (k : ℕ) (path : List ℕ) (result : Acquired F X G)
      (u w : View (CacheDeed (Lease F X G))) (old new : FilesTold) : Type 0 where
    ended : LookedSo result path old new → EnteredIn (ending k path result) u w
        → HasEndedTicket k path result u w old new
    left : (found : FindOut X) → result ≡ Spent → Looked found path old new → SpentAt u w
        → HasEndedTicket k path result u w old new

  -- the lease is back, or the cell took no call
  abbrev pub HasGivenBack : Lease F X G → ReleaseOut → View (CacheDeed (Lease F X G))
      → View (CacheDeed (Lease F X G)) → Type 0
  HasGivenBack lease Releases.Released v w =
      (deed : CacheDeed (Lease F X G)) × IsRelease lease deed × EnteredIn deed v w
  HasGivenBack lease Releases.Spent v w = SpentAt v w

  -- the ticket is back, and it is answered so, or the cell took no call
  abbrev pub HasAbandoned : ℕ → Acquired F X G → Acquired F X G → View (CacheDeed (Lease F X G))
      → View (CacheDeed (Lease F X G)) → Type 0
  HasAbandoned k answer result u w =
      ((result ≡ answer) × EnteredIn (Deeds.Abandoned k) u w) ⊎ ((result ≡ Spent) × SpentAt u w)
