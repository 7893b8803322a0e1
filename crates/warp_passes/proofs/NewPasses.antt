-- Passes that are made by splitting are new.
use Rattle.std.proofs.Common.{◌≡◌, ℕ, List, [], ◌∷◌, ◌++◌, ap, ◌∙◌}
use Rattle.turn_cell.specs.declared.view.View.{View}
use Rattle.turn_cell.specs.View.{first_view}
use Rattle.turn_cell.specs.Calls.{IsSplit}
use Rattle.level.specs.Leveling.{IsFresh}
use Rattle.timeout_mgr.specs.declared.view.TimeView.{TimeView}
use Rattle.timeout_mgr.specs.Passes as Times
use Rattle.event_mgr.specs.Manager.{MgrView, IsLawful, IsMgrSplit}
use Rattle.event_mgr.specs.Manager as Manager
use Rattle.event_mgr.specs.Level.{MgrCell}
use Rattle.event_mgr.specs.Level as Mgr
use Rattle.warp_passes.specs.Passes.{PassView, IsLawfulPass, IsFirst, IsPassSplit}
use Rattle.warp_passes.specs.Cells.{ServeCell, AtMgr, AtQueue, AtCache, AtTally, known_at}
use Rattle.warp_passes.specs.Levels.{IsNew}

module _ {E : Type 0} where
  first_fresh : (name : List ℕ) (v : View E) → v ≡ first_view name → IsFresh name v
  first_fresh name v is = record {
    name = ap (λ (x : View E). x.name) is;
    seen = ap (λ (x : View E). x.seen) is;
    tries = ap (λ (x : View E). x.tries) is;
    found = ap (λ (x : View E). x.found) is;
    met_spent = ap (λ (x : View E). x.met_spent) is;
  }

  left_fresh : (name : List ℕ) (v w o : View E) → IsSplit v w o → IsFresh name v → IsFresh name w
  left_fresh name v w o cut was = record {
    name = ap (λ (x : View E). x.name) cut.left ∙ was.name;
    seen = ap (λ (x : View E). x.seen) cut.left ∙ was.seen;
    tries = ap (λ (x : View E). x.tries) cut.left ∙ was.tries;
    found = ap (λ (x : View E). x.found) cut.left ∙ was.found;
    met_spent = ap (λ (x : View E). x.met_spent) cut.left ∙ was.met_spent;
  }

  right_fresh : (name : List ℕ) (v w o : View E) → IsSplit v w o → IsFresh name v → IsFresh name o
  right_fresh name v w o cut was = record {
    name = ap (λ (x : View E). x.name) cut.right ∙ was.name;
    seen = ap (λ (x : View E). x.seen) cut.right ∙ was.seen;
    tries = ap (λ (x : View E). x.tries) cut.right;
    found = ap (λ (x : View E). x.found) cut.right;
    met_spent = ap (λ (x : View E). x.met_spent) cut.right;
  }

-- the laws of the manager's passes
abbrev pub MgrFirst : Type 0
MgrFirst =
    (v : MgrView) → Manager.IsFirst v → (k : MgrCell) → (name : List ℕ) × (Mgr.known_at k v ≡ first_view name)

abbrev pub MgrSplit : Type 0
MgrSplit =
    (v : MgrView) (w : MgrView) (o : MgrView) → IsLawful v → IsMgrSplit v w o → (k : MgrCell)
    → IsSplit (Mgr.known_at k v) (Mgr.known_at k w) (Mgr.known_at k o)

module _ {L : Type 0} where
  pub first_known : MgrFirst → (v : PassView L) → IsFirst v → (k : ServeCell)
      → (name : List ℕ) × (known_at k v ≡ first_view name)
  first_known law v f (AtMgr k) = law v.mgr f.mgr k
  first_known law v f AtQueue = (8192 ∷ [], f.queue)
  first_known law v f AtCache = ([], f.cache)
  first_known law v f AtTally = ([], f.tally)

  pub split_known : MgrSplit → (v w o : PassView L) → IsLawfulPass v → IsPassSplit v w o → (k : ServeCell)
      → IsSplit (known_at k v) (known_at k w) (known_at k o)
  split_known law v w o l s (AtMgr k) = law v.mgr w.mgr o.mgr l.mgr s.mgr k
  split_known law v w o l s AtQueue = s.queue
  split_known law v w o l s AtCache = s.cache
  split_known law v w o l s AtTally = s.tally

  pub first_new : MgrFirst → (v : PassView L) → IsFirst v → IsNew v
  first_new law v f = record {
    cells = λ k. (let n = first_known law v f k in (n.0, first_fresh n.0 (known_at k v) n.1));
    queue = first_fresh (8192 ∷ []) v.queue f.queue;
    hand = f.hand;
    times = f.times;
  }

  pub left_new : MgrSplit → (v w o : PassView L) → IsLawfulPass v → IsPassSplit v w o → IsNew v → IsNew w
  left_new law v w o l s new = record {
    cells =
        λ k. (let n =
        new.cells k in
        (n.0, left_fresh n.0 (known_at k v) (known_at k w) (known_at k o) (split_known law v w o l s k) n.1));
    queue = left_fresh (8192 ∷ []) v.queue w.queue o.queue s.queue new.queue;
    hand = s.hand ∙ new.hand;
    times = s.times ∙ new.times;
  }

  pub right_new : MgrSplit → (v w o : PassView L) → IsLawfulPass v → IsPassSplit v w o → IsNew v → IsNew o
  right_new law v w o l s new = record {
    cells = λ k. (let n = new.cells k in (
      n.0,
      right_fresh n.0 (known_at k v) (known_at k w) (known_at k o) (split_known law v w o l s k) n.1,
    ));
    queue = right_fresh (8192 ∷ []) v.queue w.queue o.queue s.queue new.queue;
    hand = s.empty;
    times = s.timeless ∙ ap (λ (x : TimeView). record Times.first_view { seen = x.seen }) new.times;
  }

-- the first item of a list that was empty
pub one_item : {A : Type 0} (before after : List A) (p : A)
    → before ≡ [] → after ≡ before ++ p ∷ [] → after ≡ p ∷ []
one_item before after p none more = more ∙ ap (λ l. l ++ p ∷ []) none
