-- The start, and passes that are split and joined.
use Rattle.std.proofs.Common.{◌≡◌, ◌≢◌, ℕ, zero, suc, ◌⊎◌, inl, inr, ⊎_elim, List, [], ◌∷◌, ◌++◌, length, map}
use Rattle.std.proofs.Common.{replicate, set, refl, sym, ap, ◌∙◌, subst, arith}
use Rattle.std.specs.Prelude.{Option, None}
use Rattle.std.proofs.lemmas.List.{length-replicate}
use mathlib.Core.Option.{some, some-injective, some-ne-none}
use lib.ListN.{get_elem?}
use Rattle.atomic_table.specs.Table.{opening, Splits, Joins}
use Rattle.atomic_table.proofs.Lists.{at_set, at_snoc, set_again, set_else}
use Rattle.reg_keys.specs.declared.Opening.{Opening}
use Rattle.timeout_mgr.specs.declared.view.Holding.{Holding}
use Rattle.timeout_mgr.specs.declared.view.Holding.TheVariants.{Idle, Holds}
use Rattle.timeout_mgr.specs.declared.view.TimeView.{TimeView}
use Rattle.timeout_mgr.specs.Watches.{WatchLog}
use Rattle.timeout_mgr.specs.Rule.{HasLeft, Apart, IsKept, Tells, both_of}
use Rattle.timeout_mgr.specs.Passes.{calls_in, entries_in, IsPastOf, first_view}
use Rattle.timeout_mgr.specs.declared.word.SlotState.TheVariants.{Free}
use Rattle.reg_keys.specs.Tests.{total}
use Rattle.timeout_mgr.specs.Calls.{IsJoined}
use Rattle.timeout_mgr.proofs.Keeps.{St, H, stay, total_append, total_set, entries_append, calls_append}

idle_left : (a b : Holding) → a ≡ Idle → Apart a b
idle_left a b e = subst (λ (x : Holding). Apart x b) (sym e) tt

apart_idle : (a : Holding) → Apart a Idle
apart_idle Idle = tt
apart_idle (Holds j m) = tt

idle_right : (a b : Holding) → b ≡ Idle → Apart a b
idle_right a b e = subst (Apart a) (sym e) (apart_idle a)

-- hands stay apart among views of which each is idle or was there
still_apart : (s : St) (r : IsKept s) (vs : List TimeView)
    → ((j : ℕ) (d : TimeView) → get_elem? vs j ≡ some d → (d.hand ≡ Idle) ⊎ (get_elem? s.views j ≡ some d))
    → (i j : ℕ) (v w : TimeView) → i ≢ j → get_elem? vs i ≡ some v → get_elem? vs j ≡ some w
    → Apart v.hand w.hand
still_apart s r vs was i j v w ne ei ej =
    ⊎_elim (λ e. idle_left v.hand w.hand e)
    (λ a. ⊎_elim (λ e. idle_right v.hand w.hand e) (λ b. r.apart i j v w ne a b) (was j w ej)) (was i v ei)

ends_in_nil : (l : WatchLog) → IsPastOf [] l
ends_in_nil [] = ([], refl)
ends_in_nil (x ∷ xs) = let r = ends_in_nil xs in (x ∷ r.0, ap (λ (l : WatchLog). x ∷ l) r.1)

abbrev pub new_of : TimeView → TimeView
new_of v = record first_view { seen = v.seen }

pub splits : (id : ℕ) (v : TimeView) → Splits IsKept id v v (new_of v)
splits id v s r at = let n : TimeView = new_of v in
    subst (λ (l : List TimeView). IsKept record { words = s.words; homes = s.homes; views = l ++ n ∷ [] })
    (sym (set_again s.views id v at)) (record {
      log = r.log;
      legal = r.legal;
      long = r.long;
      places = r.places;
      seen = λ j d e. ⊎_elim (λ a. r.seen j d a)
          (λ a. subst (λ (x : TimeView). IsPastOf x.seen r.log × IsPastOf x.told r.log) a (
            (r.seen id v at).0,
            ends_in_nil r.log,
          )) (at_snoc s.views n d j e);
      hands =
          λ j d e. ⊎_elim (λ a. r.hands j d a) (λ a. subst (λ (x : TimeView). HasLeft s.words x.hand) a tt)
          (at_snoc s.views n d j e);
      apart =
          still_apart s r (s.views ++ n ∷ []) (λ j d e.
          ⊎_elim (λ a. inr a) (λ a. inl (ap (λ (x : TimeView). x.hand) (sym a))) (at_snoc s.views n d j e));
      sums = λ f. let t = r.sums f in
          let a = total_append (λ (x : TimeView). total f (entries_in x.kept)) s.views (n ∷ []) in
          omega (arith, t, a);
    })

pub joins : (id : ℕ) (v : TimeView) (other : ℕ) (w : TimeView) → v.hand ≡ Idle → w.hand ≡ Idle
    → Joins IsKept id v other w (both_of v w) first_view
joins id v other w vi wi s r at ne there = let b : TimeView = both_of v w in
    let mid : List TimeView = set s.views id b in
    let was : get_elem? s.views other ≡ some w = sym (set_else s.views id other b ne) ∙ there in record {
      log = r.log;
      legal = r.legal;
      long = r.long;
      places = r.places;
      seen = stay (λ j d. IsPastOf d.seen r.log × IsPastOf d.told r.log) mid other first_view (
        ends_in_nil r.log,
        ends_in_nil r.log,
      )
          (λ j d _ e. stay (λ j d. IsPastOf d.seen r.log
          × IsPastOf d.told r.log) s.views id b ((r.seen id v at).0, (r.seen other w was).0)
          (λ j d _ e. r.seen j d e) j d e);
      hands =
          stay (λ j d. HasLeft s.words d.hand) mid other first_view tt
          (λ j d _ e. stay (λ j d. HasLeft s.words d.hand) s.views id b (r.hands id v at)
          (λ j d _ e. r.hands j d e) j d e);
      apart =
          still_apart s r (set mid other first_view) (λ j d e.
          ⊎_elim (λ (t : (j ≡ other) × (first_view ≡ d)). inl (ap (λ (x : TimeView). x.hand) (sym t.1)))
          (λ (t : (j ≢ other) × (get_elem? mid j ≡ some d)).
          ⊎_elim (λ (z : (j ≡ id) × (b ≡ d)). inl (ap (λ (x : TimeView). x.hand) (sym z.1) ∙ vi))
          (λ (z : (j ≢ id) × (get_elem? s.views j ≡ some d)). inr z.1) (at_set s.views id j b d t.1))
          (at_set mid other j first_view d e));
      sums = λ f. let F : TimeView → ℕ = λ x. total f (entries_in x.kept) in
          let t = r.sums f in
          let a = total_set F s.views id b v at in
          let c = total_set F mid other first_view w there in
          let e : total f (entries_in (v.kept ++ w.kept)) ≡ total f (entries_in v.kept ++ entries_in w.kept) =
          ap (total f) (entries_append v.kept w.kept) in
          let g = total_append f (entries_in v.kept) (entries_in w.kept) in omega (arith, t, a, c, e, g);
    }

at_replicate : {A : Type 0} (n : ℕ) (x y : A) (k : ℕ) → get_elem? (replicate n x) k ≡ some y → x ≡ y
at_replicate zero x y k e = absurd (some-ne-none y (sym e))
at_replicate (suc n) x y zero e = some-injective x y e
at_replicate (suc n) x y (suc k) e = at_replicate n x y k e

abbrev nones : ℕ → List (Option Opening)
nones n = replicate n None

at_mapped : (n : ℕ) (k : ℕ) (h : H) → get_elem? (map some (nones n)) k ≡ some h → h ≡ some None
at_mapped zero k h e = absurd (some-ne-none h (sym e))
at_mapped (suc n) zero h e = sym (some-injective (some None) h e)
at_mapped (suc n) (suc k) h e = at_mapped n k h e

long_mapped : (n : ℕ) → length (map some (nones n)) ≡ n
long_mapped zero = refl
long_mapped (suc n) = let r = long_mapped n in omega (arith, r)

pub starts : (o : Opening) (n : ℕ) (ws : List ℕ) → ws ≡ replicate n 0
    → IsKept (opening ws (nones n) first_view)
starts o n ws is = record {
  log = [];
  legal = tt;
  long = ap length is ∙ (length-replicate n 0 ∙ sym (long_mapped n));
  places =
      λ k m h e g.
      let z : 0 ≡ m = at_replicate n 0 m k (subst (λ (l : List ℕ). get_elem? l k ≡ some m) is e) in (
        0,
        Free,
        o,
        record {
          word = omega (arith, z);
          small = omega arith;
          past = λ i l. absurd (omega (arith, l));
          now =
              refl;
          future = λ i l. refl;
          home = at_mapped n k h g;
        },
      );
  seen = λ j v e. subst (λ (x : TimeView). IsPastOf x.seen []
      × IsPastOf x.told []) (only j v e) (([], refl), ([], refl));
  hands = λ j v e. subst (λ (x : TimeView). HasLeft ws x.hand) (only j v e) tt;
  apart = λ i j v w ne a b. idle_left v.hand w.hand (ap (λ (x : TimeView). x.hand) (sym (only i v a)));
  sums = λ f. refl;
}
  where
    only : (j : ℕ) (v : TimeView) → get_elem? (first_view ∷ []) j ≡ some v → first_view ≡ v
    only zero v e = some-injective first_view v e
    only (suc j) v e = absurd (some-ne-none v (sym e))

pub is_joined : (v o u w : TimeView) → u ≡ both_of v o → Tells [] u.hand u w → IsJoined v o w
is_joined v o u w e t = let x = subst (λ (y : TimeView). Tells [] y.hand y w) e t in record {
  onward = (x.later, x.seen);
  other = x.told_too;
  kept = x.kept;
  calls = ap calls_in x.kept ∙ calls_append v.kept o.kept;
  sound = record { legal = x.legal; own = x.own };
}
