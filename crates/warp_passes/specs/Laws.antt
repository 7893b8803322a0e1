-- Inner: laws that crates above cite: what passes have seen, where they are split or told of one another.
use Rattle.std.proofs.Common.{length, sym, ap, subst}
use Rattle.std.specs.Prelude.{nat_lt}
use Rattle.std.proofs.lemmas.Bool.{cond_both}
use Rattle.turn_cell.specs.declared.view.View.{View}
use Rattle.turn_cell.specs.History.{Log}
use Rattle.turn_cell.specs.Calls.{IsSplit}
use Rattle.level.specs.Leveling.{HasShared}
use Rattle.event_mgr.specs.Level.{MgrCell}
use Rattle.event_mgr.specs.Level as Mgr
use Rattle.warp_passes.specs.Passes.{PassView}
use Rattle.warp_passes.specs.Cells.{AtMgr, AtQueue, AtCache, AtTally, ArePassesShared}

module _ {E : Type 0} (Fact : Log E → Type 0) where
  pub split_left : (v w o : View E) → IsSplit v w o → Fact v.seen → Fact w.seen
  split_left v w o s f = subst Fact (sym (ap (λ (x : View E). x.seen) s.left)) f

  pub split_right : (v w o : View E) → IsSplit v w o → Fact v.seen → Fact o.seen
  split_right v w o s f = subst Fact (sym (ap (λ (x : View E). x.seen) s.right)) f

  pub shared_from : (v w v' w' : View E) → HasShared v w v' w' → Fact v.seen → Fact v'.seen
  shared_from v w v' w' h f = split_left v v' h.between h.split f

  pub shared_to : (v w v' w' : View E) → HasShared v w v' w' → Fact v.seen → Fact w.seen → Fact w'.seen
  shared_to v w v' w' h f g = let between = split_right v v' h.between h.split f in
      subst Fact (sym (ap (λ (x : View E). x.seen) h.joined.both))
      (cond_both (nat_lt (length w.seen) (length h.between.seen)) h.between.seen w.seen Fact
      (λ _. between) (λ _. g))

module _ {L : Type 0} where
  -- each cell by itself
  pub passes_shared : (v w v' w' : PassView L)
      → ((k : MgrCell) → HasShared (Mgr.known_at k v.mgr) (Mgr.known_at k w.mgr)
      (Mgr.known_at k v'.mgr) (Mgr.known_at k w'.mgr))
      → HasShared v.queue w.queue v'.queue w'.queue
      → HasShared v.cache w.cache v'.cache w'.cache → HasShared v.tally w.tally v'.tally w'.tally
      → ArePassesShared v w v' w'
  passes_shared v w v' w' mgr queue cache tally (AtMgr k) = mgr k
  passes_shared v w v' w' mgr queue cache tally AtQueue = queue
  passes_shared v w v' w' mgr queue cache tally AtCache = cache
  passes_shared v w v' w' mgr queue cache tally AtTally = tally
