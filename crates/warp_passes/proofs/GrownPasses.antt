-- Passes that grew by calls on one of their cells, in a row of passes.
use Rattle.std.proofs.Common.{◌≡◌, ℕ, List, map, set, sym, subst}
use Rattle.std.specs.Prelude.{slice_get, Some}
use Rattle.turn_cell.specs.declared.view.View.{View}
use Rattle.std.proofs.lemmas.List.{map-set}
use Rattle.level.specs.ListLaws.{get_map}
use Rattle.warp_tally.specs.declared.calls.TallyEntry.{TallyEntry}
use Rattle.dispatcher.specs.Stripes.{Each, HasGrown}
use Rattle.dispatcher.specs.Laws.{all_grown_same, each_set, grown_same}
use Rattle.warp_passes.specs.Passes.{PassView}
use Rattle.warp_passes.specs.Levels.{HasPassGrown}

module _ {L : Type 0} where
  pass_same : (v : PassView L) → HasPassGrown v v
  pass_same v = record {
    mgr = all_grown_same v.mgr;
    queue = grown_same v.queue;
    cache = grown_same v.cache;
    tally = grown_same v.tally;
  }

  -- by calls on the tally
  pub tally_grew : (v : PassView L) (t : View TallyEntry) → HasGrown v.tally t
      → HasPassGrown v (record v { tally = t })
  tally_grew v t grown = record {
    mgr = all_grown_same v.mgr;
    queue = grown_same v.queue;
    cache = grown_same v.cache;
    tally = grown;
  }

  -- one pass of several grew
  pub one_grew : {A : Type 0} (known : A → PassView L) (ps : List A) (i : ℕ) (p q : A)
      → slice_get ps i ≡ Some p
      → HasPassGrown (known p) (known q) → Each HasPassGrown (map known ps) (map known (set ps i q))
  one_grew known ps i p q at grown =
      subst (λ (l : List (PassView L)). Each HasPassGrown (map known ps) l) (sym (map-set known ps i q))
      (each_set HasPassGrown pass_same (map known ps) i (known p) (known q) (get_map known ps i p at) grown)
