-- The views of seats in a list: one of them has changed, or a new one came after the others.
use Rattle.std.proofs.Common.{◌≡◌, ◌≢◌, ℕ, zero, suc, ◌<◌, ◌⊎◌, inl, inr, ⊎_elim, List, [], ◌∷◌, ◌++◌, length}
use Rattle.std.proofs.Common.{set, true, sym, refl, ap, ◌∙◌, subst, arith}
use mathlib.Core.Option.{some, some-injective, some-ne-none}
use lib.ListN.{get_elem?}
use native.Mathlib.Decide.{ℕ_discrete}
use Rattle.atomic_table.proofs.Lists.{at_set, set_here, set_else, at_longer}
use Rattle.poller.specs.declared.seat_knowledge.Role.{Role}
use Rattle.poller.specs.declared.seat_knowledge.Role.TheVariants.{Reads}
use Rattle.poller.specs.declared.seat_knowledge.SeatKnowledge.{SeatKnowledge}
use Rattle.poller.specs.Deliveries.{AreApart, ReaderHasLeft}

-- what stands in a list after which one more was put: what stood there, or the new one at its end
pub at_end : (vs : List SeatKnowledge) (r : SeatKnowledge) (i : ℕ) (d : SeatKnowledge)
    → get_elem? (vs ++ r ∷ []) i ≡ some d → (get_elem? vs i ≡ some d) ⊎ ((i ≡ length vs) × (r ≡ d))
at_end [] r zero d e = inr (refl, some-injective r d e)
at_end [] r (suc i) d e = absurd (some-ne-none d (sym e))
at_end (v ∷ vs) r zero d e = inl e
at_end (v ∷ vs) r (suc i) d e =
    ⊎_elim (λ t. inl t) (λ t. let k = t.0 in inr (omega arith, t.1)) (at_end vs r i d e)

-- what stands at a place is within the list
within_list : (vs : List SeatKnowledge) (i : ℕ) (d : SeatKnowledge) → get_elem? vs i ≡ some d → i < length vs
within_list [] i d e = absurd (some-ne-none d (sym e))
within_list (v ∷ vs) zero d e = omega arith
within_list (v ∷ vs) (suc i) d e = let h = within_list vs i d e in omega (arith, h)

-- a fact of every view, where one is changed
pub changed_view : (K : ℕ → SeatKnowledge → Type 0) (vs : List SeatKnowledge) (id : ℕ) (w : SeatKnowledge)
    → K id w
    → ((j : ℕ) (v : SeatKnowledge) → j ≢ id → get_elem? vs j ≡ some v → K j v) → (j : ℕ) (v : SeatKnowledge)
    → get_elem? (set vs id w) j ≡ some v → K j v
changed_view K vs id w mine others j v e = ⊎_elim
    (λ (t : (j ≡ id) × (w ≡ v)). subst (λ (x : ℕ × SeatKnowledge). K x.0 x.1) (λ i. (sym t.0 i, t.1 i)) mine)
    (λ (t : (j ≢ id) × (get_elem? vs j ≡ some v)). others j v t.0 t.1)
    (at_set vs id j w v e)

module _ (May : Role → ℕ → Type 0) (vs : List SeatKnowledge) (id : ℕ) (v0 : SeatKnowledge)
    (at : get_elem? vs id ≡ some v0) (apart : AreApart May vs) where
  -- a seat has what it had, where one seat has a new view with no more
  had : (w0 : SeatKnowledge) → ((k : ℕ) → May w0.role k → May v0.role k) → (j : ℕ) (v : SeatKnowledge)
      → get_elem? (set vs id w0) j ≡ some v
      → (b : SeatKnowledge) × (get_elem? vs j ≡ some b) × ((k : ℕ) → May v.role k → May b.role k)
  had w0 less j v e = ⊎_elim
      (λ (t : (j ≡ id) × (w0 ≡ v)). (
        v0,
        subst (λ (x : ℕ). get_elem? vs x ≡ some v0) (sym t.0) at,
        λ k m. less k (subst (λ (x : SeatKnowledge). May x.role k) (sym t.1) m),
      ))
      (λ (t : (j ≢ id) × (get_elem? vs j ≡ some v)). (v, t.1, λ k m. m))
      (at_set vs id j w0 v e)

  -- so seats stay apart
  pub less_apart : (w0 : SeatKnowledge) → ((k : ℕ) → May w0.role k → May v0.role k)
      → AreApart May (set vs id w0)
  less_apart w0 less i j v w ne ei ej k mv mw =
      let a = had w0 less i v ei in
      let b = had w0 less j w ej in
      apart i j a.0 b.0 ne a.1 b.1 k (a.2 k mv) (b.2 k mw)

  -- and so they do where a view keeps its role
  pub still_apart : (w0 : SeatKnowledge) → w0.role ≡ v0.role → AreApart May (set vs id w0)
  still_apart w0 same = less_apart w0 (λ k m. subst (λ (r : Role). May r k) same m)

  -- what a seat had was cut in two, and a new seat has the second part
  pub cut_apart : (l r : SeatKnowledge) → ((k : ℕ) → May l.role k → May v0.role k)
      → ((k : ℕ) → May r.role k → May v0.role k) → ((k : ℕ) → May l.role k → May r.role k → ⊥)
      → AreApart May (set vs id l ++ r ∷ [])
  cut_apart l r whole_left whole_right disjoint i j d e ne di ej k md me =
      let ws : List SeatKnowledge = set vs id l in
      let left : AreApart May ws = less_apart l whole_left in
      let free : (j : ℕ) (d : SeatKnowledge) → get_elem? ws j ≡ some d → May d.role k
      → May r.role k → ⊥ = λ j d e m mr. ⊎_elim
      (λ (t : (j ≡ id) × (l ≡ d)). disjoint k (subst (λ (x : SeatKnowledge). May x.role k) (sym t.1) m) mr)
      (λ (t : (j ≢ id) × (get_elem? vs j ≡ some d)). apart j id d v0 t.0 t.1 at k m (whole_right k mr))
      (at_set vs id j l d e) in ⊎_elim
      (λ hi. ⊎_elim
      (λ hj. left i j d e ne hi hj k md me)
      (λ (t : (j ≡ length ws) × (r ≡ e)).
      free i d hi md (subst (λ (x : SeatKnowledge). May x.role k) (sym t.1) me))
      (at_end ws r j e ej))
      (λ (t : (i ≡ length ws) × (r ≡ d)). ⊎_elim
      (λ hj. free j e hj me (subst (λ (x : SeatKnowledge). May x.role k) (sym t.1) md))
      (λ (u : (j ≡ length ws) × (r ≡ e)). absurd (ne (t.0 ∙ sym u.0)))
      (at_end ws r j e ej))
      (at_end ws r i d di)

-- a seat that has left has still left, where one seat has a new view that reads what it
-- read and has left if it had
pub still_left : (vs : List SeatKnowledge) (id : ℕ) (v0 w0 : SeatKnowledge) (word : ℕ)
    → get_elem? vs id ≡ some v0
    → (v0.role ≡ Reads word → v0.gone ≡ true → (w0.role ≡ Reads word) × (w0.gone ≡ true))
    → ReaderHasLeft vs word → ReaderHasLeft (set vs id w0) word
still_left vs id v0 w0 word at on r = elim (ℕ_discrete r.at id) [
  | yes e ↦ let is : v0 ≡ r.seat =
      some-injective v0 r.seat (sym at ∙ (ap (λ (x : ℕ). get_elem? vs x) (sym e) ∙ r.there)) in
      let later =
      on (ap (λ (v : SeatKnowledge). v.role) is ∙ r.reads) (ap (λ (v : SeatKnowledge). v.gone) is ∙ r.gone) in
      record {
        at = id;
        seat = w0;
        there = set_here vs id w0 (within_list vs id v0 at);
        reads = later.0;
        gone = later.1;
      }
  | no n ↦ record {
    at = r.at;
    seat = r.seat;
    there = set_else vs id r.at w0 n ∙ r.there;
    reads = r.reads;
    gone = r.gone;
  }
]

-- and where a seat came after the others
pub left_before : (vs : List SeatKnowledge) (w : SeatKnowledge) (word : ℕ) → ReaderHasLeft vs word
    → ReaderHasLeft (vs ++ w ∷ []) word
left_before vs w word r = record {
  at = r.at;
  seat = r.seat;
  there = at_longer vs (w ∷ []) r.at r.seat r.there;
  reads = r.reads;
  gone = r.gone;
}

-- a seat that notes that it leaves has left
pub leaves : (vs : List SeatKnowledge) (id : ℕ) (v0 w0 : SeatKnowledge) (word : ℕ) → get_elem? vs id ≡ some v0
    → w0.role ≡ Reads word → w0.gone ≡ true → ReaderHasLeft (set vs id w0) word
leaves vs id v0 w0 word at reads gone = record {
  at = id;
  seat = w0;
  there = set_here vs id w0 (within_list vs id v0 at);
  reads = reads;
  gone = gone;
}
