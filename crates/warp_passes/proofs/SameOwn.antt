-- What passes did, where their own entries are what they were, or none.
use Rattle.std.proofs.Common.{◌≡◌, ℕ, zero, suc, ◌<◌, List, [], ◌∷◌, map, length, All, refl, sym, ap, ◌∙◌}
use Rattle.std.proofs.Common.{subst, arith}
use Rattle.std.specs.Prelude.{slice_get}
use Rattle.reg_keys.specs.declared.entry.Entry.{Entry}
use Rattle.turn_cell.specs.declared.view.View.{View}
use Rattle.turn_cell.specs.Weights.{weigh}
use Rattle.turn_cell.specs.History.{Log, entries_in}
use Rattle.turn_cell.specs.View.{own_entries}
use Rattle.level.specs.Leveling.{classes_of, IsFresh, HoldsEachOnce}
use Rattle.std.proofs.lemmas.List.Elements.{All-head, All-tail}
use Rattle.level.specs.ListLaws.{map_map}
use Rattle.level.specs.Laws.{once_by}
use Rattle.event_mgr.specs.Manager.{view_by}
use Rattle.event_mgr.specs.Level.{AtStripe, AtNumbers}
use Rattle.timeout_mgr.specs.Passes as Times
use Rattle.dispatcher.specs.Stripes.{Each, HasGrown}
use Rattle.warp_passes.specs.Passes.{PassView, IsLawfulPass}
use Rattle.warp_passes.specs.Cells.{ServeCell, AtMgr, AtQueue, AtCache, AtTally, entry_at, known_at}
use Rattle.warp_passes.specs.Cells.{SeatsAreOnce, OwnIsKept}
use Rattle.warp_passes.specs.Levels.{IsNew, DidNothing, OwnsTheSame, HasPassGrown}

-- rows of views that weigh the same place by place
weighs_same : (g : View Entry → ℕ) (xs ys : List (View Entry)) → length ys ≡ length xs
    → ((s : ℕ) → s < length xs → g (view_by (slice_get ys s)) ≡ g (view_by (slice_get xs s)))
    → weigh g ys ≡ weigh g xs
weighs_same g [] [] many same = refl
weighs_same g [] (y ∷ ys) many same = absurd (omega arith)
weighs_same g (x ∷ xs) [] many same = absurd (omega arith)
weighs_same g (x ∷ xs) (y ∷ ys) many same =
    let e = same zero (omega arith) in
    let r = weighs_same g xs ys (omega arith) (λ s lt. same (suc s) (omega arith)) in
    omega arith

weighs_none : (g : View Entry → ℕ) (xs : List (View Entry))
    → ((s : ℕ) → s < length xs → g (view_by (slice_get xs s)) ≡ 0) → weigh g xs ≡ 0
weighs_none g [] none = refl
weighs_none g (x ∷ xs) none =
    let e = none zero (omega arith) in
    let r = weighs_none g xs (λ s lt. none (suc s) (omega arith)) in
    omega arith

-- the weight of a view's own entries, without their seats
abbrev own_weighs : (Entry → ℕ) → View Entry → ℕ
own_weighs f x = weigh (λ (e : ℕ × Entry). f e.1) (own_entries x)

-- a fresh view has no own entry
fresh_own : {E : Type 0} (name : List ℕ) (v : View E) → IsFresh name v → own_entries v ≡ []
fresh_own name v f = ap (entries_in v.classes) f.seen

module _ {L : Type 0} where
  owns_the_same : (v w : PassView L) → IsLawfulPass v → IsLawfulPass w
      → ((k : ServeCell) → own_entries (known_at k w) ≡ own_entries (known_at k v)) → OwnsTheSame v w
  owns_the_same v w l m same = record {
    calls = λ f. weighs_same (own_weighs f) v.mgr.stripes w.mgr.stripes (m.mgr.many ∙ sym l.mgr.many)
        (λ s lt. ap (weigh (λ (e : ℕ × Entry). f e.1))
        (same (AtMgr (AtStripe s (subst (λ (n : ℕ). s < n) l.mgr.many lt)))));
    draws = λ f. ap (weigh (λ e. f e.1)) (same (AtMgr AtNumbers));
    moved = same AtQueue;
    cached = ap (map (λ e. e.1)) (same AtCache);
    tallied = ap (map (λ e. e.1)) (same AtTally);
  }

  pub did_nothing : (v : PassView L) → IsLawfulPass v → IsNew v → DidNothing v
  did_nothing v l new = record {
    calls = λ f. weighs_none (own_weighs f) v.mgr.stripes (λ s lt.
        (let k = AtMgr (AtStripe s (subst (λ (n : ℕ). s < n) l.mgr.many lt)) in
        ap (weigh (λ (e : ℕ × Entry). f e.1)) (none k)));
    draws = λ f. ap (weigh (λ e. f e.1)) (none (AtMgr AtNumbers));
    moved = none AtQueue;
    cached = ap (map (λ e. e.1)) (none AtCache);
    tallied = ap (map (λ e. e.1)) (none AtTally);
    timed = ap Times.calls_of new.times;
  }
    where
      none : (k : ServeCell) → own_entries (known_at k v) ≡ []
      none k = fresh_own (new.cells k).0 (known_at k v) (new.cells k).1

abbrev head_or : {A : Type 0} → A → List A → A
head_or d [] = d
head_or d (x ∷ xs) = x

abbrev tail_of : {A : Type 0} → List A → List A
tail_of [] = []
tail_of (x ∷ xs) = xs

module _ {A L : Type 0} (known : A → PassView L) where
  -- each row's own entries, of each cell
  abbrev owns : (k : ServeCell) → List A → List (Log (entry_at L k))
  owns k xs = map (λ x. own_entries (known_at k (known x))) xs

  rows_own : (xs ys : List A) → All (λ x. IsLawfulPass (known x)) xs → All (λ y. IsLawfulPass (known y)) ys
      → ((k : ServeCell) → owns k ys ≡ owns k xs) → Each OwnsTheSame (map known xs) (map known ys)
  rows_own [] [] l m same = tt
  rows_own [] (y ∷ ys) l m same = let n = ap length (same AtTally) in absurd (omega arith)
  rows_own (x ∷ xs) [] l m same = let n = ap length (same AtTally) in absurd (omega arith)
  rows_own (x ∷ xs) (y ∷ ys) l m same = (
    owns_the_same (known x) (known y) (All-head (λ z. IsLawfulPass (known z)) x xs l)
        (All-head (λ z. IsLawfulPass (known z)) y ys m)
        (λ k. ap (head_or []) (same k)),
    rows_own xs ys (All-tail (λ z. IsLawfulPass (known z)) x xs l)
        (All-tail (λ z. IsLawfulPass (known z)) y ys m)
        (λ k. ap tail_of (same k)),
  )

  pub kept_own : (xs ys : List A) → All (λ x. IsLawfulPass (known x)) xs
      → All (λ y. IsLawfulPass (known y)) ys
      → OwnIsKept known xs ys → Each OwnsTheSame (map known xs) (map known ys)
  kept_own xs ys l m keeps = rows_own xs ys l m
      (λ k. map_map own_entries (λ x. known_at k (known x)) ys
      ∙ ((keeps k).own ∙ sym (map_map own_entries (λ x. known_at k (known x)) xs)))

  -- ---- seats

  abbrev seats : (k : ServeCell) → List A → List (List (ℕ × ℕ))
  seats k xs = map (λ x. (known_at k (known x)).classes) xs

  stripe_classes : (vs ws : List (View Entry)) → Each HasGrown vs ws → (s : ℕ)
      → (view_by (slice_get ws s)).classes ≡ (view_by (slice_get vs s)).classes
  stripe_classes [] [] g s = refl
  stripe_classes [] (w ∷ ws) g s = absurd g
  stripe_classes (v ∷ vs) [] g s = absurd g
  stripe_classes (v ∷ vs) (w ∷ ws) g zero = g.0.classes
  stripe_classes (v ∷ vs) (w ∷ ws) g (suc s) = stripe_classes vs ws g.1 s

  grown_classes : (v w : PassView L) → HasPassGrown v w → (k : ServeCell)
      → (known_at k w).classes ≡ (known_at k v).classes
  grown_classes v w g (AtMgr (AtStripe s low)) = stripe_classes v.mgr.stripes w.mgr.stripes g.mgr.stripes s
  grown_classes v w g (AtMgr AtNumbers) = g.mgr.numbers.classes
  grown_classes v w g AtQueue = g.queue.classes
  grown_classes v w g AtCache = g.cache.classes
  grown_classes v w g AtTally = g.tally.classes

  rows_classes : (xs ys : List A) → Each HasPassGrown (map known xs) (map known ys)
      → (k : ServeCell) → seats k ys ≡ seats k xs
  rows_classes [] [] g k = refl
  rows_classes [] (y ∷ ys) g k = absurd g
  rows_classes (x ∷ xs) [] g k = absurd g
  rows_classes (x ∷ xs) (y ∷ ys) g k =
      λ i. grown_classes (known x) (known y) g.0 k i ∷ rows_classes xs ys g.1 k i

  pub grown_seats : (xs ys : List A) → Each HasPassGrown (map known xs) (map known ys)
      → SeatsAreOnce known xs → SeatsAreOnce known ys
  grown_seats xs ys g once k =
      once_by (map (λ x. known_at k (known x)) xs) (map (λ x. known_at k (known x)) ys)
      (sym (map_map classes_of (λ x. known_at k (known x)) ys)
      ∙ (rows_classes xs ys g k ∙ map_map classes_of (λ x. known_at k (known x)) xs)) (once k)

-- ---- seats of the same passes in other rows

pub moved_seats : {A B L : Type 0} (known : A → PassView L) (other : B → PassView L)
    (xs : List A) (ys : List B)
    → map other ys ≡ map known xs → SeatsAreOnce known xs → SeatsAreOnce other ys
moved_seats known other xs ys same once k =
    subst HoldsEachOnce
    (map_map (known_at k) known xs ∙ (ap (map (known_at k)) (sym same) ∙ sym (map_map (known_at k) other ys)))
    (once k)
