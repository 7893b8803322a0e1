-- What one pass of a manager told another, cell by cell.
use Rattle.std.proofs.Common.{◌≡◌, ℕ, ◌<◌, List, [], sym, ap, ◌∙◌, arith, subst}
use Rattle.std.specs.Prelude.{slice_get, Some}
use Rattle.reg_keys.specs.declared.entry.Entry.{Entry}
use Rattle.turn_cell.specs.declared.view.View.{View}
use Rattle.turn_cell.specs.View.{first_view}
use Rattle.turn_cell.specs.Calls.{IsSplit}
use Rattle.level.specs.Leveling.{HasShared}
use Rattle.event_mgr.specs.Rows.{name_at}
use Rattle.event_mgr.specs.Manager.{MgrView, IsLawful, IsFirst, IsMgrSplit, IsMgrShared, view_by, stripe_view}
use Rattle.event_mgr.specs.Level.{MgrCell, AtStripe, AtNumbers, known_at}
use Rattle.turn_cell.specs.ListLaws.{some_at}

module _ (v w v' w' : MgrView) (l : IsLawful v) (m : IsLawful w) (told : IsMgrShared v w v' w') where
  -- at one stripe
  shared_at : (s : ℕ) → s < 32
      → HasShared (stripe_view s v) (stripe_view s w) (stripe_view s v') (stripe_view s w')
  shared_at s low =
      let n = l.many in
      let n' = m.many in
      let k = told.stripes.many in
      let k' = told.stripes.many_other in
      let a = some_at v.stripes s (omega arith) in
      let b = some_at w.stripes s (omega arith) in
      let c = some_at v'.stripes s (omega arith) in
      let d = some_at w'.stripes s (omega arith) in
      subst
      (λ (q : View Entry × (View Entry × (View Entry × View Entry))). HasShared q.0 q.1.0 q.1.1.0 q.1.1.1)
      (λ i. (view_by (sym a.1 i), (view_by (sym b.1 i), (view_by (sym c.1 i), view_by (sym d.1 i)))))
      (told.stripes.each s a.0 b.0 c.0 d.0 a.1 b.1 c.1 d.1)

  pub shared_known : (k : MgrCell) → HasShared (known_at k v) (known_at k w) (known_at k v') (known_at k w')
  shared_known (AtStripe s low) = shared_at s low
  shared_known AtNumbers = told.numbers

-- ---- splitting, cell by cell

first_at : (v : MgrView) → IsFirst v → (s : ℕ) → s < 32 → stripe_view s v ≡ first_view (name_at s)
first_at v f s low =
    let n = f.stripes.many in
    let a = some_at v.stripes s (omega arith) in
    ap view_by a.1 ∙ f.stripes.each s a.0 a.1

pub first_known : (v : MgrView) → IsFirst v → (k : MgrCell)
    → (name : List ℕ) × (known_at k v ≡ first_view name)
first_known v f (AtStripe s low) = (name_at s, first_at v f s low)
first_known v f AtNumbers = ([], f.numbers)

split_at : (v w o : MgrView) → IsLawful v → IsMgrSplit v w o → (s : ℕ) → s < 32
    → IsSplit (stripe_view s v) (stripe_view s w) (stripe_view s o)
split_at v w o l cut s low =
    let n = l.many in
    let k = cut.stripes.many in
    let k' = cut.stripes.many_new in
    let a = some_at v.stripes s (omega arith) in
    let b = some_at w.stripes s (omega arith) in
    let c = some_at o.stripes s (omega arith) in
    subst (λ (q : View Entry × (View Entry × View Entry)). IsSplit q.0 q.1.0 q.1.1)
    (λ i. (view_by (sym a.1 i), (view_by (sym b.1 i), view_by (sym c.1 i))))
    (cut.stripes.each s a.0 b.0 c.0 a.1 b.1 c.1)

pub split_known : (v w o : MgrView) → IsLawful v → IsMgrSplit v w o → (k : MgrCell)
    → IsSplit (known_at k v) (known_at k w) (known_at k o)
split_known v w o l cut (AtStripe s low) = split_at v w o l cut s low
split_known v w o l cut AtNumbers = cut.numbers
