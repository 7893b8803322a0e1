-- What the cache's own calls say, as deeds of the pass.
use Rattle.std.proofs.Common.{◌≡◌, ℕ, true, false, List, [], ◌∷◌, refl, sym, ap, ◌∙◌, subst}
use Rattle.outside.specs.declared.files.Files.{Ghosts}
use Rattle.outside.specs.FileCauses.{FilesTold}
use Rattle.turn_cell.specs.declared.view.View.{View}
use Rattle.turn_cell.specs.History.{Log}
use Rattle.fd_cache.specs.declared.lease.Lease.{Lease}
use Rattle.fd_cache.specs.declared.acquired.Acquired.{Acquired}
use Rattle.fd_cache.specs.declared.acquired.Acquired.TheVariants.{Leased, Absent, Failed, NoMemory, Spent}
use Rattle.fd_cache.specs.declared.acquired.ReleaseOut.{ReleaseOut}
use Rattle.fd_cache.specs.declared.acquired.ReleaseOut.TheVariants as Releases
use Rattle.fd_cache.specs.declared.deed.CacheDeed.{CacheDeed}
use Rattle.fd_cache.specs.declared.deed.CacheDeed.TheVariants as Deeds
use Rattle.fd_cache.specs.Acquired.{LookedSo, ending}
use Rattle.fd_cache.specs.Calls.{number_of}
use Rattle.fd_cache.specs.History.{IsCacheHistory}
use Rattle.fd_cache.specs.Represents.{past_of, no_name, stands_for}
use Rattle.fd_cache.specs.Shared.{EnteredIn, SpentAt, HasShared, HasGivenBack}
use Rattle.warp_passes.specs.Own.{Adds}
use Rattle.warp_passes.specs.CacheCalls.{HasCached, DidAcquire, DidRelease, DidReap, acquire_met, release_met}
use Rattle.warp_passes.specs.declared.cache.ReapOut.TheVariants as Reaps
use Rattle.warp_passes.proofs.Added.{adds_none, adds_then, entered_adds, spent_adds}

module _ {F X : Type 0} {G : Ghosts F X} where
  -- the deed that was entered is the pass's own
  one_deed : (d : CacheDeed (Lease F X G)) (v w : View (CacheDeed (Lease F X G)))
      → EnteredIn d v w → Adds (d ∷ []) v w
  one_deed d v w e = entered_adds (stands_for {F = F} {X = X} {G = G}) no_name d v w e

  no_deed : (v w : View (CacheDeed (Lease F X G))) → SpentAt v w → Adds [] v w
  no_deed v w s = spent_adds (stands_for {F = F} {X = X} {G = G}) no_name v w s

  abbrev Legal : View (CacheDeed (Lease F X G)) → Type 0
  Legal v = IsCacheHistory (past_of v.seen)

  pub entered_legal : (d : CacheDeed (Lease F X G)) (v w : View (CacheDeed (Lease F X G)))
      → EnteredIn d v w → Legal w
  entered_legal d v w e = e.is_part.0.legal

  pub spent_legal : (v w : View (CacheDeed (Lease F X G))) → SpentAt v w → Legal v → Legal w
  spent_legal v w s l =
      subst (λ (h : Log (CacheDeed (Lease F X G))). IsCacheHistory (past_of h)) (sym s.unmoved.seen) l

  -- a lease, and what a look came to, say nothing of the cell being spent
  not_met : (r : Acquired F X G) → acquire_met r ≡ false → acquire_met r ≡ true → ⊥
  not_met r unmet met = let z : true ≡ false = sym met ∙ unmet in cc

  looked_met : (r : Acquired F X G) (path : List ℕ) (old new : FilesTold) → LookedSo r path old new
      → acquire_met r ≡ true → ⊥
  looked_met (Leased lease) path old new l met = let z : false ≡ true = met in cc
  looked_met Absent path old new l met = let z : false ≡ true = met in cc
  looked_met Failed path old new l met = let z : false ≡ true = met in cc
  looked_met NoMemory path old new l met = let z : false ≡ true = met in cc
  looked_met Spent path old new l met = l

  pub acquired : (path : List ℕ) (r : Acquired F X G) (v w : View (CacheDeed (Lease F X G)))
      (old new : FilesTold)
      → HasShared path r v w old new → HasCached (DidAcquire path r old new) (acquire_met r) v w
  acquired path r v w old new (HasShared.hit lease is e same) = record {
    piece = Deeds.Hit (number_of lease.entry) path lease ∷ [];
    did = DidAcquire.hit lease is refl same;
    adds = one_deed (Deeds.Hit (number_of lease.entry) path lease) v w e;
    met_spent = λ m. absurd (not_met r (ap acquire_met is) m);
  }
  acquired path r v w old new (HasShared.fresh k u e l f) = record {
    piece = Deeds.Fresh k path ∷ ending k path r ∷ [];
    did = DidAcquire.fresh k refl l;
    adds =
        adds_then (Deeds.Fresh k path ∷ []) (ending k path r ∷ []) v u w (one_deed (Deeds.Fresh k path) v u e)
        (one_deed (ending k path r) u w f);
    met_spent = λ m. absurd (looked_met r path old new l m);
  }
  acquired path r v w old new (HasShared.past e l) = record {
    piece = Deeds.Bypass path ∷ [];
    did = DidAcquire.past refl l;
    adds = one_deed (Deeds.Bypass path) v w e;
    met_spent = λ m. absurd (looked_met r path old new l m);
  }
  acquired path r v w old new (HasShared.short is same told) = record {
    piece = [];
    did = DidAcquire.short is refl told;
    adds = subst (λ (x : View (CacheDeed (Lease F X G))). Adds [] v x) (sym same) (adds_none v);
    met_spent = λ m. absurd (not_met r (ap acquire_met is) m);
  }
  acquired path r v w old new (HasShared.spent is s told) = record {
    piece = [];
    did = DidAcquire.spent is refl told;
    adds = no_deed v w s;
    met_spent = λ m. s.met_spent;
  }
  acquired path r v w old new (HasShared.cut k u found is e l s) = record {
    piece = Deeds.Fresh k path ∷ [];
    did = DidAcquire.cut k found is refl l;
    adds = adds_then (Deeds.Fresh k path ∷ []) [] v u w (one_deed (Deeds.Fresh k path) v u e) (no_deed u w s);
    met_spent = λ m. s.met_spent;
  }

  pub acquired_legal : (path : List ℕ) (r : Acquired F X G) (v w : View (CacheDeed (Lease F X G)))
      (old new : FilesTold)
      → HasShared path r v w old new → IsCacheHistory (past_of v.seen) → IsCacheHistory (past_of w.seen)
  acquired_legal path r v w old new (HasShared.hit lease is e same) l =
      entered_legal (Deeds.Hit (number_of lease.entry) path lease) v w e
  acquired_legal path r v w old new (HasShared.fresh k u e looked f) l = entered_legal (ending k path r) u w f
  acquired_legal path r v w old new (HasShared.past e looked) l = entered_legal (Deeds.Bypass path) v w e
  acquired_legal path r v w old new (HasShared.short is same told) l = subst Legal (sym same) l
  acquired_legal path r v w old new (HasShared.spent is s told) l = spent_legal v w s l
  acquired_legal path r v w old new (HasShared.cut k u found is e looked s) l =
      spent_legal u w s (entered_legal (Deeds.Fresh k path) v u e)

  pub given_back : (lease : Lease F X G) (r : ReleaseOut) (v w : View (CacheDeed (Lease F X G)))
      → HasGivenBack lease r v w → HasCached (DidRelease lease r) (release_met r) v w
  given_back lease Releases.Released v w g = record {
    piece = g.0 ∷ [];
    did = (g.0, g.1, refl);
    adds = one_deed g.0 v w g.2;
    met_spent = λ m. (let z : false ≡ true = m in cc);
  }
  given_back lease Releases.Spent v w s =
      record { piece = []; did = refl; adds = no_deed v w s; met_spent = λ m. s.met_spent }

  pub given_back_legal : (lease : Lease F X G) (r : ReleaseOut) (v w : View (CacheDeed (Lease F X G)))
      → HasGivenBack lease r v w → IsCacheHistory (past_of v.seen) → IsCacheHistory (past_of w.seen)
  given_back_legal lease Releases.Released v w g l = entered_legal g.0 v w g.2
  given_back_legal lease Releases.Spent v w s l = spent_legal v w s l

  pub reaped : (closed : List (Lease F X G)) (v w : View (CacheDeed (Lease F X G)))
      → EnteredIn (Deeds.Reaped closed) v w
      → HasCached (DidReap Reaps.Reaped) false v w
  reaped closed v w e = record {
    piece = Deeds.Reaped closed ∷ [];
    did = (closed, refl);
    adds = one_deed (Deeds.Reaped closed) v w e;
    met_spent = λ m. (let z : false ≡ true = m in cc);
  }

  pub not_reaped : (v w : View (CacheDeed (Lease F X G))) → SpentAt v w
      → HasCached (DidReap Reaps.Spent) true v w
  not_reaped v w s = record { piece = []; did = refl; adds = no_deed v w s; met_spent = λ m. s.met_spent }
