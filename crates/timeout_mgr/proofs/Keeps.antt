-- Each step keeps the rule.
use Rattle.std.proofs.Common.{◌≡◌, ◌≢◌, ℕ, zero, suc, ◌+◌, ◌*◌, ◌≤◌, ◌⊎◌, ⊎_elim, List, [], ◌∷◌, ◌++◌, length}
use Rattle.std.proofs.Common.{set, get_or, refl, sym, ap, ◌∙◌, subst, arith}
use Rattle.std.specs.Prelude.{Option}
use Rattle.std.proofs.lemmas.List.{append_assoc, append-nil, length-set, set-get_or}
use mathlib.Core.Option as maths
use mathlib.Core.Option.{some, some-injective, some-ne-none}
use lib.ListN.{get_elem?}
use Rattle.atomic_table.specs.Table.{State}
use Rattle.atomic_table.proofs.Lists.{at_set, set_else}
use Rattle.reg_keys.specs.declared.Opening.{Opening}
use Rattle.timeout_mgr.specs.declared.view.WatchEntry.{WatchEntry}
use Rattle.timeout_mgr.specs.declared.view.Shown.{Shown}
use Rattle.timeout_mgr.specs.declared.view.Holding.{Holding}
use Rattle.timeout_mgr.specs.declared.view.Holding.TheVariants.{Idle, Holds}
use Rattle.timeout_mgr.specs.declared.view.TimeView.{TimeView}
use Rattle.timeout_mgr.specs.Watches.{WatchLog, IsWatchHistory}
use Rattle.timeout_mgr.specs.Rule.{IsPlace, HasLeft, Apart, IsKept, Tells}
use Rattle.timeout_mgr.specs.declared.view.TimeCall.{TimeCall}
use Rattle.timeout_mgr.specs.Passes.{entry_of, calls_in, call_of, entries_in, IsPastOf, own_entries}
use Rattle.reg_keys.specs.Tests.{total}

module _ {A : Type 0} where
  pub total_append : (f : A → ℕ) (xs ys : List A) → total f (xs ++ ys) ≡ total f xs + total f ys
  total_append f [] ys = omega arith
  total_append f (x ∷ xs) ys = let r = total_append f xs ys in omega arith

  -- one item was changed
  pub total_set : (f : A → ℕ) (l : List A) (i : ℕ) (a b : A) → get_elem? l i ≡ some b
      → total f (set l i a) + f b ≡ total f l + f a
  total_set f [] i a b e = absurd (some-ne-none b (sym e))
  total_set f (x ∷ xs) zero a b e = let s : f x ≡ f b = ap f (some-injective x b e) in omega arith
  total_set f (x ∷ xs) (suc i) a b e = let r = total_set f xs i a b e in omega arith

  pub total_at : (f : A → ℕ) (l : List A) (i : ℕ) (b : A) → get_elem? l i ≡ some b → f b ≤ total f l
  total_at f [] i b e = absurd (some-ne-none b (sym e))
  total_at f (x ∷ xs) zero b e = let s : f x ≡ f b = ap f (some-injective x b e) in omega arith
  total_at f (x ∷ xs) (suc i) b e = let r = total_at f xs i b e in omega arith

pub entries_append : (xs ys : List Shown) → entries_in (xs ++ ys) ≡ entries_in xs ++ entries_in ys
entries_append [] ys = refl
entries_append (x ∷ xs) ys = ap (λ (l : WatchLog). entry_of x ++ l) (entries_append xs ys)
    ∙ sym (append_assoc (entry_of x) (entries_in xs) (entries_in ys))

pub calls_append : (xs ys : List Shown) → calls_in (xs ++ ys) ≡ calls_in ys ++ calls_in xs
calls_append [] ys = sym (append-nil (calls_in ys))
calls_append (x ∷ xs) ys = ap (λ (l : List TimeCall). l ++ call_of x) (calls_append xs ys)
    ∙ append_assoc (calls_in ys) (calls_in xs) (call_of x)

abbrev pub St : Type 0
St = State (Option Opening) TimeView

abbrev pub H : Type 0
H = maths.Option (Option Opening)

pub stay : (K : ℕ → TimeView → Type 0) (vs : List TimeView) (id : ℕ) (w : TimeView) → K id w
    → ((j : ℕ) (d : TimeView) → j ≢ id → get_elem? vs j ≡ some d → K j d)
    → (j : ℕ) (d : TimeView) → get_elem? (set vs id w) j ≡ some d → K j d
stay K vs id w mine others j d e =
    ⊎_elim
    (λ (t : (j ≡ id) × (w ≡ d)). subst (λ (x : ℕ × TimeView). K x.0 x.1) (λ i. (sym t.0 i, t.1 i)) mine)
    (λ (t : (j ≢ id) × (get_elem? vs j ≡ some d)). others j d t.0 t.1) (at_set vs id j w d e)

-- the pass doesn't have the slot in its hand
abbrev pub NotAt : ℕ → Holding → Type 0
NotAt k Idle = Unit {0}
NotAt k (Holds j n) = j ≢ k

pub apart_left : (k n : ℕ) (a : Holding) → NotAt k a → Apart a (Holds k n)
apart_left k n Idle f = tt
apart_left k n (Holds j m) f = f

pub apart_right : (k n : ℕ) (a : Holding) → NotAt k a → Apart (Holds k n) a
apart_right k n Idle f = tt
apart_right k n (Holds j m) f = λ e. f (sym e)

pub not_at : (k n : ℕ) (a : Holding) → Apart a (Holds k n) → NotAt k a
not_at k n Idle f = tt
not_at k n (Holds j m) f = f

-- a word that no pass has in its hand
abbrev pub IsFree : ℕ → Type 0
IsFree n = (u : ℕ) → (n ≢ 8 * u + 1) × (n ≢ 8 * u + 4)

pub not_at_free : (ws : List ℕ) (k n : ℕ) (a : Holding) → get_elem? ws k ≡ some n → IsFree n
    → HasLeft ws a → NotAt k a
not_at_free ws k n Idle at f l = tt
not_at_free ws k n (Holds j m) at f l = λ e. let same : m ≡ n =
    some-injective m n (sym l.0 ∙ (ap (get_elem? ws) e ∙ at)) in
    ⊎_elim (λ x. (f l.1.0).0 (sym same ∙ x)) (λ x. (f l.1.0).1 (sym same ∙ x)) l.1.1

pub left_stays : (ws : List ℕ) (k n : ℕ) (a : Holding) → NotAt k a → HasLeft ws a → HasLeft (set ws k n) a
left_stays ws k n Idle f l = tt
left_stays ws k n (Holds j m) f l = (set_else ws k j n f ∙ l.0, l.1)

end_trans : (xs ys zs : WatchLog) → IsPastOf xs ys → IsPastOf ys zs → IsPastOf xs zs
end_trans xs ys zs a b =
    (b.0 ++ a.0, b.1 ∙ (ap (λ (l : WatchLog). b.0 ++ l) a.1 ∙ sym (append_assoc b.0 a.0 xs)))

-- what the pass knows after a step that showed these items, where the history was this
abbrev pub told_view : WatchLog → List Shown → Holding → TimeView → TimeView
told_view log items hd v =
    record { seen = entries_in items ++ log; told = []; kept = items ++ v.kept; hand = hd }

module _ (s : St) (r : IsKept s) (id : ℕ) (v0 : TimeView) (at : get_elem? s.views id ≡ some v0) where
  pub tells : (items : List Shown) (hd : Holding) → IsWatchHistory (entries_in items ++ r.log)
      → Tells items hd v0 (told_view r.log items hd v0)
  tells items hd legal =
      let a = r.seen id v0 at in
      let new : WatchLog = entries_in items in record {
        later = a.0.0;
        seen = ap (λ (l : WatchLog). new ++ l) a.0.1;
        kept = refl;
        holds = refl;
        told = refl;
        told_too = end_trans v0.told r.log (new ++ r.log) a.1 (new, refl);
        legal = legal;
        own = λ f. let x = total_append f new (own_entries v0) in
            let y = total_append f new r.log in
            let z = total_at (λ v. total f (own_entries v)) s.views id v0 at in
            let t = r.sums f in
            let e : total f (entries_in (items ++ v0.kept)) ≡ total f (new ++ own_entries v0) =
            ap (total f) (entries_append items v0.kept) in
            omega (arith, x, y, z, t, e);
      }

  -- the table after a step that showed these items
  pub keeps_rule : (ws : List ℕ) (hs : List H) (items : List Shown) (w : TimeView)
      → IsWatchHistory (entries_in items ++ r.log) → length ws ≡ length hs
      → ((k n : ℕ) (h : H) → get_elem? ws k ≡ some n → get_elem? hs k ≡ some h
      → IsPlace (entries_in items ++ r.log) k n h)
      → IsPastOf w.seen (entries_in items ++ r.log) × IsPastOf w.told (entries_in items ++ r.log)
      → ((f : WatchEntry → ℕ)
      → total f (own_entries w) ≡ total f (entries_in items) + total f (own_entries v0))
      → HasLeft ws w.hand
      → ((j : ℕ) (v : TimeView) → j ≢ id → get_elem? s.views j ≡ some v → HasLeft ws v.hand)
      → ((j : ℕ) (v : TimeView) → j ≢ id → get_elem? s.views j ≡ some v
      → Apart v.hand w.hand × Apart w.hand v.hand)
      → IsKept record { words = ws; homes = hs; views = set s.views id w }
  keeps_rule ws hs items w legal long places ends kept mine others apart =
      let new : WatchLog = entries_in items in
      record {
        log = new ++ r.log;
        legal = legal;
        long = long;
        places = places;
        seen = stay (λ j v. IsPastOf v.seen (new ++ r.log) × IsPastOf v.told (new ++ r.log)) s.views id w ends
            (λ j v ne e. let a = r.seen j v e in (
              end_trans v.seen r.log (new ++ r.log) a.0 (new, refl),
              end_trans v.told r.log (new ++ r.log) a.1 (new, refl),
            ));
        hands = stay (λ j v. HasLeft ws v.hand) s.views id w mine others;
        apart = λ i j v x ne ei ej.
            ⊎_elim
            (λ (a : (i ≡ id) × (w ≡ v)). ⊎_elim (λ (b : (j ≡ id) × (w ≡ x)). absurd (ne (a.0 ∙ sym b.0)))
            (λ (b : (j ≢ id) × (get_elem? s.views j ≡ some x)).
            subst (λ (y : TimeView). Apart y.hand x.hand) a.1 (apart j x b.0 b.1).1)
            (at_set s.views id j w x ej))
            (λ (a : (i ≢ id) × (get_elem? s.views i ≡ some v)).
            ⊎_elim (λ (b : (j ≡ id) × (w ≡ x)).
            subst (λ (y : TimeView). Apart v.hand y.hand) b.1 (apart i v a.0 a.1).0)
            (λ (b : (j ≢ id) × (get_elem? s.views j ≡ some x)). r.apart i j v x ne a.1 b.1)
            (at_set s.views id j w x ej))
            (at_set s.views id i w v ei);
        sums = λ f. let F : TimeView → ℕ = λ v. total f (own_entries v) in
            let y = total_append f new r.log in
            let z = total_set F s.views id w v0 at in
            let t = r.sums f in
            let e = kept f in
            omega (arith, y, z, t, e);
      }

  pub told_ends : (items : List Shown) (hd : Holding) → let w = told_view r.log items hd v0 in
      IsPastOf w.seen (entries_in items ++ r.log) × IsPastOf w.told (entries_in items ++ r.log)
  told_ends items hd = (([], refl), (entries_in items ++ r.log, sym (append-nil (entries_in items ++ r.log))))

  pub told_kept : (items : List Shown) (f : WatchEntry → ℕ)
      → total f (entries_in (items ++ v0.kept)) ≡ total f (entries_in items) + total f (own_entries v0)
  told_kept items f =
      ap (total f) (entries_append items v0.kept) ∙ total_append f (entries_in items) (own_entries v0)

  -- no word and no slot is changed
  pub shows : (k : ℕ) (items : List Shown) → IsWatchHistory (entries_in items ++ r.log)
      → ((j m : ℕ) (h : H) → IsPlace r.log j m h → IsPlace (entries_in items ++ r.log) j m h)
      → IsKept record {
        words = set s.words k (get_or s.words k 0);
        homes = s.homes;
        views = set s.views id
            (told_view r.log items v0.hand v0);
      }
  shows k items legal places =
      subst (λ ws.
      IsKept
      record { words = ws; homes = s.homes; views = set s.views id (told_view r.log items v0.hand v0) })
      (sym (set-get_or s.words k 0))
      (keeps_rule s.words s.homes items (told_view r.log items v0.hand v0) legal r.long
      (λ j m h ej eh. places j m h (r.places j m h ej eh)) (told_ends items v0.hand) (told_kept items)
      (r.hands id v0 at) (λ j v ne e. r.hands j v e)
      (λ j v ne e. (r.apart j id v v0 ne e at, r.apart id j v0 v (λ z. ne (sym z)) at e)))

  -- the word k is changed, which no other pass has in its hand
  pub changes : (k n' : ℕ) (hs : List H) (items : List Shown) (w : TimeView)
      → IsWatchHistory (entries_in items ++ r.log) → length hs ≡ length s.homes
      → ((j : ℕ) (h : H) → j ≢ k → get_elem? hs j ≡ some h → get_elem? s.homes j ≡ some h)
      → ((j m : ℕ) (h : H) → j ≢ k → IsPlace r.log j m h → IsPlace (entries_in items ++ r.log) j m h)
      → ((h : H) → get_elem? hs k ≡ some h → IsPlace (entries_in items ++ r.log) k n' h)
      → IsPastOf w.seen (entries_in items ++ r.log) × IsPastOf w.told (entries_in items ++ r.log)
      → ((f : WatchEntry → ℕ)
      → total f (own_entries w) ≡ total f (entries_in items) + total f (own_entries v0))
      → HasLeft (set s.words k n') w.hand
      → ((j : ℕ) (v : TimeView) → j ≢ id → get_elem? s.views j ≡ some v → NotAt k v.hand)
      → (w.hand ≡ v0.hand) ⊎ ((w.hand ≡ Idle) ⊎ ((m : ℕ) × (w.hand ≡ Holds k m)))
      → IsKept record { words = set s.words k n'; homes = hs; views = set s.views id w }
  changes k n' hs items w legal long homes places here ends kept mine off hand =
      keeps_rule (set s.words k n') hs items w legal (length-set s.words k n' ∙ (r.long ∙ sym long))
      (λ j m h ej eh. ⊎_elim (λ (t : (j ≡ k) × (n' ≡ m)).
      subst (λ (x : ℕ × ℕ). IsPlace (entries_in items ++ r.log) x.0 x.1 h) (λ i. (sym t.0 i, t.1 i))
      (here h (ap (get_elem? hs) (sym t.0) ∙ eh)))
      (λ (t : (j ≢ k) × (get_elem? s.words j ≡ some m)).
      places j m h t.0 (r.places j m h t.1 (homes j h t.0 eh)))
      (at_set s.words k j n' m ej))
      ends kept mine (λ j v ne e. left_stays s.words k n' v.hand (off j v ne e) (r.hands j v e))
      (λ j v ne e. ⊎_elim (λ (x : w.hand ≡ v0.hand). subst (λ (a : Holding). Apart v.hand a
      × Apart a v.hand) (sym x) (r.apart j id v v0 ne e at, r.apart id j v0 v (λ z. ne (sym z)) at e))
      (λ y. ⊎_elim (λ (x : w.hand ≡ Idle). subst (λ (a : Holding). Apart v.hand a
      × Apart a v.hand) (sym x) (idle_apart v.hand, tt))
      (λ (t : (m : ℕ) × (w.hand ≡ Holds k m)). subst (λ (a : Holding). Apart v.hand a
      × Apart a v.hand) (sym t.1) (
        apart_left k t.0 v.hand (off j v ne e),
        apart_right k t.0 v.hand (off j v ne e),
      )) y) hand)
    where
      idle_apart : (a : Holding) → Apart a Idle
      idle_apart Idle = tt
      idle_apart (Holds j m) = tt
