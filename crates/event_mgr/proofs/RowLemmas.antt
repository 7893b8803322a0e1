-- A row of cells and its passes, where one pass made steps, was split or joined.
use Rattle.std.proofs.Common.{◌≡◌, ◌≢◌, ℕ, ◌<◌, ◌≤◌, ◌+◌, ◌⊎◌, ⊎_elim, List, [], ◌∷◌, ◌++◌, map, length, set}
use Rattle.std.proofs.Common.{sym, refl, ap, ◌∙◌, subst, true, false, arith, append_assoc}
use Rattle.std.proofs.lemmas.Bool.{eqb-true, eqb-false, cases_Bool}
use Rattle.std.specs.Prelude.{Some, slice_get, ◌==◌}
use Rattle.std.proofs.lemmas.List.{length-set, length-append, append-nil, length-map}
use Rattle.std.proofs.lemmas.Option.{same_Some, none-some, slice_get_within}
use Rattle.crossbeam_utils.specs.declared.cache_padded.CachePadded.{CachePadded}
use Rattle.crossbeam_utils.specs.Padded.{padded_value}
use Rattle.turn_cell.specs.declared.pass.Pass.{Pass}
use Rattle.turn_cell.specs.declared.cell.TurnCell.{TurnCell}
use Rattle.turn_cell.specs.declared.view.View.{View}
use Rattle.turn_cell.specs.History.{Log}
use Rattle.reg_keys.specs.declared.limits.TheConstants.{STRIPES}
use Rattle.turn_cell.specs.View.{first_view}
use Rattle.turn_cell.specs.Calls.{view_of, IsOf, IsSplit, IsJoined}
use Rattle.event_mgr.specs.Rows.{IsRow, AreUnused, AreFirst, AreSplit, AreJoined, AreShared, name_at}
use Rattle.level.specs.Leveling.{HasShared}
use Rattle.turn_cell.specs.ListLaws.{get_set}
use Rattle.event_mgr.proofs.Places.{get_snoc, get_before, get_behind, each_set, each_snoc, map_at}

module _ {P C R E : Type 0} where
  -- one pass of a row was used
  pub row_set : (cs : List (CachePadded (TurnCell P C R E))) (ps : List (Pass P E))
      (i : ℕ) (x : CachePadded (TurnCell P C R E)) (y : Pass P E)
      → slice_get cs i ≡ Some x → IsOf (padded_value x) y → (view_of y).name ≡ name_at i
      → IsRow cs ps → IsRow cs (set ps i y)
  row_set cs ps i x y at of name row = record {
    cells = row.cells;
    passes = length-set ps i y ∙ row.passes;
    each =
        λ j c p ec ep.
        each_set (λ k q. (d : CachePadded (TurnCell P C R E)) → slice_get cs k ≡ Some d
        → IsOf (padded_value d) q) ps i y (λ d ed. subst (λ (z : CachePadded (TurnCell P C R E)).
        IsOf (padded_value z) y) (same_Some x d (sym at ∙ ed)) of)
        (λ k q eq d ed. row.each k d q ed eq) j p ep c ec;
    names = each_set (λ k q. (view_of q).name ≡ name_at k) ps i y name row.names;
  }

-- ---- a row that is gone through from its first place on, each place giving one value more
module _ {A : Type 0} (R : A → A → A → Type 0) where
  pub record Through (ps qs os : List A) (i : ℕ) : Type 0 where
    pub many : length qs ≡ length ps
    pub count : length os ≡ i
    pub done : (j : ℕ) (x y z : A) → slice_get ps j ≡ Some x → slice_get qs j ≡ Some y
        → slice_get os j ≡ Some z → R x y z
    pub still : (j : ℕ) (x y : A) → i ≤ j → slice_get ps j ≡ Some x → slice_get qs j ≡ Some y → y ≡ x

  pub through_start : (ps : List A) → Through ps ps [] 0
  through_start ps = record {
    many = refl;
    count = refl;
    done = λ j x y z ex ey ez. absurd (none-some z ez);
    still = λ j x y le ex ey. sym (same_Some x y (sym ex ∙ ey));
  }

  pub through_next : (ps qs os : List A) (i : ℕ) (p q o : A) → slice_get qs i ≡ Some p → R p q o
      → Through ps qs os i → Through ps (set qs i q) (os ++ o ∷ []) (i + 1)
  through_next ps qs os i p q o at r t = record {
    many = length-set qs i q ∙ t.many;
    count = length-append os (o ∷ []) ∙ ap (λ (n : ℕ). n + 1) t.count;
    done = λ j x y z ex ey ez. ⊎_elim
        (λ (h : (j ≡ i) × (q ≡ y)).
        let was : p ≡ x = t.still i x p (omega arith) (ap (slice_get ps) (sym h.0) ∙ ex) at in
        ⊎_elim
        (λ (k : slice_get os j ≡ Some z).
        let w = slice_get_within os j z k in
        let e = h.0 in
        let n = t.count in
        absurd (omega arith))
        (λ (k : (j ≡ length os) × (o ≡ z)).
        subst (λ (d : A × (A × A)). R d.0 d.1.0 d.1.1) (λ n. (was n, (h.1 n, k.1 n))) r)
        (get_snoc os j o z ez))
        (λ (h : (j ≢ i) × (slice_get qs j ≡ Some y)). ⊎_elim
        (λ (k : slice_get os j ≡ Some z). t.done j x y z ex h.1 k)
        (λ (k : (j ≡ length os) × (o ≡ z)). absurd (h.0 (k.0 ∙ t.count)))
        (get_snoc os j o z ez))
        (get_set qs i j q y ey);
    still = λ j x y le ex ey. ⊎_elim
        (λ (h : (j ≡ i) × (q ≡ y)). let e = h.0 in absurd (omega arith))
        (λ (h : (j ≢ i) × (slice_get qs j ≡ Some y)). t.still j x y (omega arith) ex h.1)
        (get_set qs i j q y ey);
  }

-- ---- a row that is gone through from its last place on, each place taking one value in
module _ {A : Type 0} (R : A → A → A → Type 0) where
  pub record Back (ps os qs rest : List A) : Type 0 where
    pub many : length qs ≡ length ps
    pub few : length rest ≤ length os
    pub same : (j : ℕ) (z : A) → slice_get rest j ≡ Some z → slice_get os j ≡ Some z
    pub still : (j : ℕ) (x y : A) → j < length rest → slice_get ps j ≡ Some x
        → slice_get qs j ≡ Some y → y ≡ x
    pub done : (j : ℕ) (x z y : A) → length rest ≤ j → slice_get ps j ≡ Some x → slice_get os j ≡ Some z
        → slice_get qs j ≡ Some y → R x z y

  pub back_start : (ps os : List A) → length ps ≡ length os → Back ps os ps os
  back_start ps os len = record {
    many = refl;
    few = omega arith;
    same = λ j z e. e;
    still = λ j x y lt ex ey. sym (same_Some x y (sym ex ∙ ey));
    done = λ j x z y le ex ez ey. let w = slice_get_within os j z ez in absurd (omega arith);
  }

  pub back_next : (ps os qs rest less : List A) (p q o : A)
      → rest ≡ less ++ o ∷ [] → slice_get qs (length less) ≡ Some p → R p o q → Back ps os qs rest
      → Back ps os (set qs (length less) q) less
  back_next ps os qs rest less p q o is at r b =
      let n : length rest ≡ length less + 1 = ap length is ∙ length-append less (o ∷ []) in
      let f = b.few in
      record {
        many = length-set qs (length less) q ∙ b.many;
        few = omega arith;
        same = λ j z e. b.same j z (ap (λ (l : List A). slice_get l j) is ∙ (get_before less (o ∷ []) j z e));
        still = λ j x y lt ex ey. ⊎_elim
            (λ (h : (j ≡ length less) × (q ≡ y)). let e = h.0 in absurd (omega arith))
            (λ (h : (j ≢ length less) × (slice_get qs j ≡ Some y)). b.still j x y (omega arith) ex h.1)
            (get_set qs (length less) j q y ey);
        done = λ j x z y le ex ez ey. ⊎_elim
            (λ (h : (j ≡ length less) × (q ≡ y)). let e = h.0 in
            let was : p ≡ x = b.still j x p (omega arith) ex (ap (slice_get qs) h.0 ∙ at) in
            let here : o ≡ z = same_Some o z (sym
            (b.same (length less) o
            (ap (λ (l : List A). slice_get l (length less)) is ∙ get_behind less [] o))
            ∙ (ap (slice_get os) (sym h.0) ∙ ez)) in
            subst (λ (d : A × (A × A)). R d.0 d.1.0 d.1.1) (λ k. (was k, (here k, h.1 k))) r)
            (λ (h : (j ≢ length less) × (slice_get qs j ≡ Some y)). let ne =
            h.0 in b.done j x z y (omega arith) ex ez h.1)
            (get_set qs (length less) j q y ey);
      }

-- ---- a row that is made

-- the first cells and passes of a new row
module _ {P C R E : Type 0} where
  pub record AreMade (cs : List (CachePadded (TurnCell P C R E))) (ps : List (Pass P E)) : Type 0 where
    pub same : length ps ≡ length cs
    pub each : (i : ℕ) (x : CachePadded (TurnCell P C R E)) (y : Pass P E) → slice_get cs i ≡ Some x
        → slice_get ps i ≡ Some y → IsOf (padded_value x) y
    pub views : (i : ℕ) (y : Pass P E) → slice_get ps i ≡ Some y → view_of y ≡ first_view (name_at i)

  pub made_start : AreMade [] []
  made_start = record {
    same = refl;
    each = λ i x y ex ey. absurd (none-some x ex);
    views = λ i y ey. absurd (none-some y ey);
  }

  pub made_next : (cs : List (CachePadded (TurnCell P C R E)))
      (ps : List (Pass P E)) (x : CachePadded (TurnCell P C R E)) (y : Pass P E)
      → IsOf (padded_value x) y → view_of y ≡ first_view (name_at (length cs)) → AreMade cs ps
      → AreMade (cs ++ x ∷ []) (ps ++ y ∷ [])
  made_next cs ps x y of view m = record {
    same = length-append ps (y ∷ []) ∙ (ap (λ (n : ℕ). n + 1) m.same ∙ sym (length-append cs (x ∷ [])));
    each = λ i a b ea eb. ⊎_elim
        (λ (h : slice_get cs i ≡ Some a).
        let wa = slice_get_within cs i a h in
        let n = m.same in ⊎_elim
        (λ (k : slice_get ps i ≡ Some b). m.each i a b h k)
        (λ (k : (i ≡ length ps) × (y ≡ b)). let e = k.0 in absurd (omega arith))
        (get_snoc ps i y b eb))
        (λ (h : (i ≡ length cs) × (x ≡ a)).
        let n = m.same in
        let e = h.0 in ⊎_elim
        (λ (k : slice_get ps i ≡ Some b). let w = slice_get_within ps i b k in absurd (omega arith))
        (λ (k : (i ≡ length ps) × (y ≡ b)). subst (λ (d : CachePadded (TurnCell P C R E) × Pass P E).
        IsOf (padded_value d.0) d.1) (λ j. (h.1 j, k.1 j)) of)
        (get_snoc ps i y b eb))
        (get_snoc cs i x a ea);
    views =
        each_snoc (λ i b. view_of b ≡ first_view (name_at i)) ps y
        (view ∙ ap (λ (n : ℕ). first_view (name_at n)) (sym m.same)) m.views;
  }

  -- a row that has as many cells as there are stripes is whole
  pub made_row : (cs : List (CachePadded (TurnCell P C R E))) (ps : List (Pass P E))
      → length cs ≡ STRIPES → AreMade cs ps → IsRow cs ps
  made_row cs ps many m = record {
    cells = many;
    passes = m.same ∙ many;
    each = m.each;
    names = λ i y e. ap (λ (v : View E). v.name) (m.views i y e);
  }

  pub made_first : (cs : List (CachePadded (TurnCell P C R E))) (ps : List (Pass P E))
      → length cs ≡ STRIPES → AreMade cs ps → AreFirst (map view_of ps)
  made_first cs ps many m = record {
    many = length-map ps view_of ∙ (m.same ∙ many);
    each = λ i v e. let y = map_at view_of ps i v e in sym y.2 ∙ m.views i y.0 y.1;
  }

-- the parts that are still to be laid into cells
abbrev pub AreLeft : {P : Type 0} → List P → ℕ → List P → Type 0
AreLeft parts n rest = (done : List _) × (parts ≡ done ++ rest) × (length done ≡ n)

module _ {P : Type 0} where
  pub left_next : (parts rest less : List P) (n : ℕ) (p : P) → rest ≡ p ∷ less → AreLeft parts n rest
      → AreLeft parts (n + 1) less
  left_next parts rest less n p is a = (
    a.0 ++ p ∷ [],
    a.1 ∙ (ap (λ (l : List P). a.0 ++ l) is ∙ sym (append_assoc a.0 (p ∷ []) less)),
    length-append a.0 (p ∷ []) ∙ ap (λ (k : ℕ). k + 1) a.2,
  )

  pub left_first : (parts rest less : List P) (n : ℕ) (p : P) → rest ≡ p ∷ less → AreLeft parts n rest
      → slice_get parts n ≡ Some p
  left_first parts rest less n p is a =
      ap (slice_get parts) (sym a.2)
      ∙ (ap (λ (l : List P). slice_get l (length a.0)) (a.1 ∙ ap (λ (l : List P). a.0 ++ l) is)
      ∙ get_behind a.0 less p)

  pub left_none : (parts rest : List P) (n : ℕ) → rest ≡ [] → AreLeft parts n rest → length parts ≡ n
  left_none parts rest n is a = ap length (a.1 ∙ (ap (λ (l : List P). a.0 ++ l) is ∙ append-nil a.0)) ∙ a.2

-- ---- two rows that are gone through from their first places on, place by place
module _ {A : Type 0} (R : A → A → A → A → Type 0) where
  pub record Beside (ps ts qs us : List A) (i : ℕ) : Type 0 where
    pub many : length qs ≡ length ps
    pub many_other : length us ≡ length ts
    pub done : (j : ℕ) (x t y u : A) → j < i → slice_get ps j ≡ Some x → slice_get ts j ≡ Some t
        → slice_get qs j ≡ Some y → slice_get us j ≡ Some u → R x t y u
    pub still : (j : ℕ) (x y : A) → i ≤ j → slice_get ps j ≡ Some x → slice_get qs j ≡ Some y → y ≡ x
    pub still_other : (j : ℕ) (x y : A) → i ≤ j → slice_get ts j ≡ Some x → slice_get us j ≡ Some y → y ≡ x

  pub beside_start : (ps ts : List A) → Beside ps ts ps ts 0
  beside_start ps ts = record {
    many = refl;
    many_other = refl;
    done = λ j x t y u lt a b c d. absurd (omega arith);
    still = λ j x y le ex ey. sym (same_Some x y (sym ex ∙ ey));
    still_other = λ j x y le ex ey. sym (same_Some x y (sym ex ∙ ey));
  }

  pub beside_next : (ps ts qs us : List A) (i : ℕ) (p t q u : A) → slice_get qs i ≡ Some p
      → slice_get us i ≡ Some t → R p t q u → Beside ps ts qs us i
      → Beside ps ts (set qs i q) (set us i u) (i + 1)
  beside_next ps ts qs us i p t q u at at_other r b = record {
    many = length-set qs i q ∙ b.many;
    many_other = length-set us i u ∙ b.many_other;
    done = λ j x s y w lt ex es ey ew. ⊎_elim
        (λ (h : (j ≡ i) × (q ≡ y)). ⊎_elim
        (λ (k : (j ≡ i) × (u ≡ w)).
        let was : p ≡ x = b.still i x p (omega arith) (ap (slice_get ps) (sym h.0) ∙ ex) at in
        let was_other : t ≡ s =
        b.still_other i s t (omega arith) (ap (slice_get ts) (sym h.0) ∙ es) at_other in
        subst (λ (d : A × (A × (A × A))). R d.0 d.1.0 d.1.1.0 d.1.1.1)
        (λ n. (was n, (was_other n, (h.1 n, k.1 n)))) r)
        (λ (k : (j ≢ i) × (slice_get us j ≡ Some w)). absurd (k.0 h.0))
        (get_set us i j u w ew))
        (λ (h : (j ≢ i) × (slice_get qs j ≡ Some y)). ⊎_elim
        (λ (k : (j ≡ i) × (u ≡ w)). absurd (h.0 k.0))
        (λ (k : (j ≢ i) × (slice_get us j ≡ Some w)). let n =
        h.0 in b.done j x s y w (below j i n lt) ex es h.1 k.1)
        (get_set us i j u w ew))
        (get_set qs i j q y ey);
    still = λ j x y le ex ey. ⊎_elim
        (λ (h : (j ≡ i) × (q ≡ y)). let e = h.0 in absurd (omega arith))
        (λ (h : (j ≢ i) × (slice_get qs j ≡ Some y)). b.still j x y (omega arith) ex h.1)
        (get_set qs i j q y ey);
    still_other = λ j x y le ex ey. ⊎_elim
        (λ (h : (j ≡ i) × (u ≡ y)). let e = h.0 in absurd (omega arith))
        (λ (h : (j ≢ i) × (slice_get us j ≡ Some y)). b.still_other j x y (omega arith) ex h.1)
        (get_set us i j u y ey);
  }
    where
      below : (j i : ℕ) → j ≢ i → j < i + 1 → j < i
      below j i n lt =
          ⊎_elim (λ (h : (j == i) ≡ true). absurd (n (eqb-true j i h))) (λ (h : (j == i) ≡ false). let z =
          eqb-false j i h in smaller j i z lt) (cases_Bool (j == i))
        where
          smaller : (j i : ℕ) → (j ≡ i → ⊥) → j < i + 1 → j < i
          smaller j i z lt = omega arith

-- ---- whole rows

module _ {P E : Type 0} where
  abbrev pub SplitsTo : Pass P E → Pass P E → Pass P E → Type 0
  SplitsTo x y z = IsSplit (view_of x) (view_of y) (view_of z)

  abbrev pub JoinsTo : Pass P E → Pass P E → Pass P E → Type 0
  JoinsTo x z y = IsJoined (view_of x) (view_of z) (view_of y)

  pub all_split : (ps qs os : List (Pass P E)) → Through SplitsTo ps qs os (length ps)
      → AreSplit (map view_of ps) (map view_of qs) (map view_of os)
  all_split ps qs os t = record {
    many = length-map qs view_of ∙ (t.many ∙ sym (length-map ps view_of));
    many_new = length-map os view_of ∙ (t.count ∙ sym (length-map ps view_of));
    each =
        λ i v w o ev ew eo.
        let x = map_at view_of ps i v ev in
        let y = map_at view_of qs i w ew in
        let z = map_at view_of os i o eo in
        subst (λ (d : View E × (View E × View E)). IsSplit d.0 d.1.0 d.1.1) (λ k. (x.2 k, (y.2 k, z.2 k)))
        (t.done i x.0 y.0 z.0 x.1 y.1 z.1);
  }

  abbrev pub SharesTo : Pass P E → Pass P E → Pass P E → Pass P E → Type 0
  SharesTo x t y u = HasShared (view_of x) (view_of t) (view_of y) (view_of u)

  pub all_shared : (ps ts qs us : List (Pass P E)) (n : ℕ) → n ≡ length ps → Beside SharesTo ps ts qs us n
      → AreShared (map view_of ps) (map view_of ts) (map view_of qs) (map view_of us)
  all_shared ps ts qs us n all b = record {
    many = length-map qs view_of ∙ (b.many ∙ sym (length-map ps view_of));
    many_other = length-map us view_of ∙ (b.many_other ∙ sym (length-map ts view_of));
    each =
        λ i v w v' w' ev ew ev' ew'.
        let x = map_at view_of ps i v ev in
        let t = map_at view_of ts i w ew in
        let y = map_at view_of qs i v' ev' in
        let u = map_at view_of us i w' ew' in
        let lt = slice_get_within ps i x.0 x.1 in
        subst (λ (d : View E × (View E × (View E × View E))). HasShared d.0 d.1.0 d.1.1.0 d.1.1.1)
        (λ k. (x.2 k, (t.2 k, (y.2 k, u.2 k)))) (b.done i x.0 t.0 y.0 u.0 (omega arith) x.1 t.1 y.1 u.1);
  }

  pub all_joined : (ps os qs rest : List (Pass P E)) → length rest ≡ 0 → Back JoinsTo ps os qs rest
      → AreJoined (map view_of ps) (map view_of os) (map view_of qs)
  all_joined ps os qs rest none b = record {
    many = length-map qs view_of ∙ (b.many ∙ sym (length-map ps view_of));
    each =
        λ i v o w ev eo ew.
        let x = map_at view_of ps i v ev in
        let z = map_at view_of os i o eo in
        let y = map_at view_of qs i w ew in
        subst (λ (d : View E × (View E × View E)). IsJoined d.0 d.1.0 d.1.1) (λ k. (x.2 k, (z.2 k, y.2 k)))
        (b.done i x.0 z.0 y.0 (omega arith) x.1 z.1 y.1);
  }

-- the first passes of a row
module _ {P C R E : Type 0} where
  pub record AreOfFirst (cs : List (CachePadded (TurnCell P C R E))) (ps : List (Pass P E)) : Type 0 where
    pub each : (i : ℕ) (x : CachePadded (TurnCell P C R E)) (y : Pass P E) → slice_get cs i ≡ Some x
        → slice_get ps i ≡ Some y → IsOf (padded_value x) y
    pub names : (i : ℕ) (y : Pass P E) → slice_get ps i ≡ Some y → (view_of y).name ≡ name_at i

  pub first_start : (cs : List (CachePadded (TurnCell P C R E))) → AreOfFirst cs []
  first_start cs =
      record { each = λ i x y ex ey. absurd (none-some y ey); names = λ i y ey. absurd (none-some y ey) }

  pub first_next : (cs : List (CachePadded (TurnCell P C R E))) (ps : List (Pass P E))
      (i : ℕ) (x : CachePadded (TurnCell P C R E)) (y : Pass P E)
      → length ps ≡ i → slice_get cs i ≡ Some x → IsOf (padded_value x) y → (view_of y).name ≡ name_at i
      → AreOfFirst cs ps → AreOfFirst cs (ps ++ y ∷ [])
  first_next cs ps i x y count at of name f = record {
    each =
        λ j c p ec ep.
        each_snoc (λ k q.
        (d : CachePadded (TurnCell P C R E)) → slice_get cs k ≡ Some d → IsOf (padded_value d) q) ps y
        (λ d ed. subst (λ (z : CachePadded (TurnCell P C R E)). IsOf (padded_value z) y)
        (same_Some x d (sym at ∙ (ap (slice_get cs) (sym count) ∙ ed))) of)
        (λ k q eq d ed. f.each k d q ed eq) j p ep c ec;
    names = each_snoc (λ k q. (view_of q).name ≡ name_at k) ps y (name ∙ ap name_at (sym count)) f.names;
  }

  pub first_whole : (cs : List (CachePadded (TurnCell P C R E))) (ps : List (Pass P E)) → length cs ≡ STRIPES
      → length ps ≡ STRIPES → AreOfFirst cs ps → IsRow cs ps
  first_whole cs ps many count f = record { cells = many; passes = count; each = f.each; names = f.names }

-- one more new part
pub fresh_next : {P E : Type 0} (stands : P → Log E → Type 0)
    (name_of : P → List ℕ) (ps : List P) (i : ℕ) (p : P)
    → length ps ≡ i → name_of p ≡ name_at i → stands p [] → AreUnused stands name_of ps
    → AreUnused stands name_of (ps ++ p ∷ [])
fresh_next stands name_of ps i p count name fresh all =
    each_snoc (λ j q. (name_of q ≡ name_at j) × stands q []) ps p (name ∙ ap name_at (sym count), fresh) all

-- the same where the place is given
pub back_next_at : {A : Type 0} (R : A → A → A → Type 0) (ps os qs rest less : List A) (i : ℕ) (p q o : A)
    → i ≡ length less → rest ≡ less ++ o ∷ [] → slice_get qs i ≡ Some p → R p o q
    → Back R ps os qs rest → Back R ps os (set qs i q) less
back_next_at R ps os qs rest less i p q o at is here r b =
    subst (λ (k : ℕ). Back R ps os (set qs k q) less) (sym at)
    (back_next R ps os qs rest less p q o is (ap (slice_get qs) (sym at) ∙ here) r b)
