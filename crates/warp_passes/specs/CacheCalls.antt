-- To be believed: what a call on the cache says, over what its pass knows before and after.
use Rattle.std.specs.Prelude.{◌≡◌, ℕ, List, [], ◌∷◌, Bool, true, false}
use Rattle.outside.specs.declared.files.Files.{Ghosts}
use Rattle.outside.specs.declared.files.FindOut.{FindOut}
use Rattle.outside.specs.FileCauses.{FilesTold, Looked}
use Rattle.turn_cell.specs.declared.view.View.{View}
use Rattle.turn_cell.specs.declared.pass.Pass.{Pass}
use Rattle.turn_cell.specs.declared.cell.TurnCell.{TurnCell}
use Rattle.turn_cell.specs.Calls.{view_of, IsOf}
use Rattle.fd_cache.specs.declared.lease.Lease.{Lease}
use Rattle.fd_cache.specs.declared.acquired.Acquired.{Acquired}
use Rattle.fd_cache.specs.declared.acquired.Acquired.TheVariants.{Leased, Absent, Failed, NoMemory, Spent}
use Rattle.fd_cache.specs.declared.acquired.ReleaseOut.{ReleaseOut}
use Rattle.fd_cache.specs.declared.acquired.ReleaseOut.TheVariants as Releases
use Rattle.fd_cache.specs.declared.deed.CacheDeed.{CacheDeed}
use Rattle.fd_cache.specs.declared.deed.CacheDeed.TheVariants as Deeds
use Rattle.fd_cache.specs.Acquired.{IsRelease, LookedSo, ending}
use Rattle.fd_cache.specs.Calls.{number_of}
use Rattle.fd_cache.specs.History.{IsCacheHistory}
use Rattle.fd_cache.specs.Represents.{past_of}
use Rattle.warp_passes.specs.Own.{Adds}
use Rattle.warp_passes.specs.declared.cache.ReapOut.{ReapOut}
use Rattle.warp_passes.specs.declared.cache.ReapOut.TheVariants as Reaps

module _ {P C R L : Type 0} where
  -- the pass is of the cell, and in what it has seen each reply is the one that the history before it called
  -- for
  pub record IsCacheOf (c : TurnCell P C R (CacheDeed L)) (p : Pass P (CacheDeed L)) : Type 0 where
    pub cell : IsOf c p
    pub legal : IsCacheHistory (past_of (view_of p).seen)

-- Of all that the pass did some deeds alone are new, and they are as `Did` says. Where `met` says so, the
-- pass has met the cell with 2 ^ 62 entries
pub record HasCached {L : Type 0} (Did : List (CacheDeed L) → Type 0) (met : Bool)
    (v w : View (CacheDeed L)) : Type 0 where
  pub piece : List (CacheDeed L)
  pub did : Did piece
  pub adds : Adds piece v w
  pub met_spent : met ≡ true → w.met_spent ≡ true

module _ {F X : Type 0} {G : Ghosts F X} where
  -- how an acquire went: its deeds in their order, and what the files told before and after
  pub data DidAcquire (path : List ℕ) (result : Acquired F X G) (old new : FilesTold)
      (piece : List (CacheDeed (Lease F X G))) : Type 0 where
    -- a lease came back before, and the files weren't asked
    hit : (lease : Lease F X G) → result ≡ Leased lease
        → piece ≡ Deeds.Hit (number_of lease.entry) path lease ∷ []
        → new ≡ old → DidAcquire path result old new piece
    -- the files were looked at, and the ticket ended
    fresh : (k : ℕ) → piece ≡ Deeds.Fresh k path ∷ ending k path result ∷ []
        → LookedSo result path old new → DidAcquire path result old new piece
    -- the files were looked at for a path that the cache doesn't keep
    past : piece ≡ Deeds.Bypass path ∷ []
        → LookedSo result path old new → DidAcquire path result old new piece
    -- memory was short before anything was asked
    short : result ≡ NoMemory → piece ≡ [] → new ≡ old → DidAcquire path result old new piece
    -- the cell took no call
    spent : result ≡ Spent → piece ≡ [] → new ≡ old → DidAcquire path result old new piece
    -- the cell took no call that would have ended the ticket
    cut : (k : ℕ) (found : FindOut X) → result ≡ Spent → piece ≡ Deeds.Fresh k path ∷ []
        → Looked found path old new → DidAcquire path result old new piece

  -- an acquire that answers `Spent` has met the cell with 2 ^ 62 entries
  abbrev pub acquire_met : Acquired F X G → Bool
  acquire_met (Leased lease) = false
  acquire_met Absent = false
  acquire_met Failed = false
  acquire_met NoMemory = false
  acquire_met Spent = true

  -- the lease is back, or the cell took no call
  abbrev pub DidRelease : Lease F X G → ReleaseOut → List (CacheDeed (Lease F X G)) → Type 0
  DidRelease lease Releases.Released piece =
      (deed : CacheDeed (Lease F X G)) × IsRelease lease deed × (piece ≡ deed ∷ [])
  DidRelease lease Releases.Spent piece = piece ≡ []

-- a release that answers `Spent` has met the cell with 2 ^ 62 entries
abbrev pub release_met : ReleaseOut → Bool
release_met Releases.Released = false
release_met Releases.Spent = true

module _ {L : Type 0} where
  -- some leases were closed, or the cell took no call
  abbrev pub DidReap : ReapOut → List (CacheDeed L) → Type 0
  DidReap Reaps.Reaped piece = (closed : List L) × (piece ≡ Deeds.Reaped closed ∷ [])
  DidReap Reaps.Spent piece = piece ≡ []

-- a reap that answers `Spent` has met the cell with 2 ^ 62 entries
abbrev pub reap_met : ReapOut → Bool
reap_met Reaps.Reaped = false
reap_met Reaps.Spent = true
