-- Inner: laws that crates above cite: of histories and the seats of passes, as entries are made
-- and passes are cut and joined.
use Rattle.std.proofs.Common.{◌≡◌, ℕ, ◌≢◌, inl, inr, ⊎_elim, List, [], ◌∷◌, ◌++◌, set, sym, refl, ap, ◌∙◌}
use Rattle.std.proofs.Common.{subst, zero, suc, ◌⊎◌, length, true, false, Bool, true≢false, arith, ◌+◌, ◌*◌}
use Rattle.std.proofs.Common.{◌≤◌, nat_lt}
use mathlib.Core.Option.{some, some-injective, some-ne-none}
use Rattle.std.proofs.Math.Nat.{mod-eq_of_lt}
use Rattle.std.proofs.lemmas.List.{append_assoc, append-nil}
use lib.ListN.{get_elem?}
use Rattle.atomic_table.proofs.Lists.{at_set}
use Rattle.turn_cell.specs.Classes.{Within, OnlyFirsts, AreClasses, first_of, Apart, within}
use Rattle.turn_cell.specs.History.{Log, Foreign, AtFirsts, Ahead, entries_in, longer}
use Rattle.turn_cell.specs.ClassLaws.{firsts_append, within_append, turned_apart, within_is}
use Rattle.std.specs.Prelude.{if◌then◌else◌}
use Rattle.std.proofs.lemmas.Bool.{false_from_ne_true, cond-false, ltb-true, ltb-false}
use Rattle.turn_cell.specs.Weights.{weigh, one_if}
use Rattle.std.proofs.lemmas.Bool.Decides.{nat_tests}
use mathlib.Core.List.{IsPrefix}
use Rattle.turn_cell.specs.declared.view.JoinPending.TheVariants.{Joined}
use Rattle.turn_cell.specs.View.{JoinFits}
use Rattle.turn_cell.specs.ListLaws.{prefix_whole}

-- ---- a history with one entry more

module _ {D : Type 0} where
  -- a list of one item has it at its first place, and nothing elsewhere
  pub one_item_at : (d : D) (j : ℕ) (v : D) → get_elem? (d ∷ []) j ≡ some v → (j ≡ 0) × (d ≡ v)
  one_item_at d zero v e = (refl, some-injective d v e)
  one_item_at d (suc j) v e = absurd (some-ne-none v (sym e))

  -- what holds of a changed view, and of the others as they were, holds of each view
  pub stays_elsewhere : (K : ℕ → D → Type 0) (vs : List D) (id : ℕ) (w : D) → K id w
      → ((j : ℕ) (d : D) → j ≢ id → get_elem? vs j ≡ some d → K j d)
      → (j : ℕ) (d : D) → get_elem? (set vs id w) j ≡ some d → K j d
  stays_elsewhere K vs id w mine others j d e =
      ⊎_elim (λ (t : (j ≡ id) × (w ≡ d)). subst (λ (x : ℕ × D). K x.0 x.1) (λ i. (sym t.0 i, t.1 i)) mine)
      (λ (t : (j ≢ id) × (get_elem? vs j ≡ some d)). others j d t.0 t.1) (at_set vs id j w d e)

-- the first of classes is within them
pub first_within : (cs : List (ℕ × ℕ)) → cs ≢ [] → AreClasses cs → Within (first_of cs) cs
first_within [] full are = absurd (full refl)
first_within (c ∷ cs) full are = inl (mod-eq_of_lt are.0)

-- a number outside of classes is none of their numbers but a first
pub only_outside : (n : ℕ) (cs : List (ℕ × ℕ)) → ¬ (Within n cs) → OnlyFirsts n cs
only_outside n [] out = tt
only_outside n (c ∷ cs) out = ((λ h. absurd (out (inl h))), only_outside n cs (λ h. out (inr h)))

-- the first of classes is no other number of theirs
pub only_first : (cs : List (ℕ × ℕ)) → AreClasses cs → OnlyFirsts (first_of cs) cs
only_first [] are = tt
only_first (c ∷ cs) are = ((λ _. refl), only_outside c.0 cs (λ h. are.1 c.0 (mod-eq_of_lt are.0) h))

module _ {E : Type 0} (cs : List (ℕ × ℕ)) where
  -- entries of other seats, and one more
  pub foreign_snoc : (l : Log E) (e : ℕ × E) → Foreign cs l → ¬ (Within e.0 cs) → Foreign cs (l ++ e ∷ [])
  foreign_snoc [] e f n = (n, tt)
  foreign_snoc (x ∷ xs) e f n = (f.0, foreign_snoc xs e f.1 n)

  -- entries at firsts, and one more
  pub firsts_snoc : (l : Log E) (e : ℕ × E) → AtFirsts cs l → OnlyFirsts e.0 cs → AtFirsts cs (l ++ e ∷ [])
  firsts_snoc [] e f n = (n, tt)
  firsts_snoc (x ∷ xs) e f n = (f.0, firsts_snoc xs e f.1 n)

  -- a history that is ahead by other seats is so with one more of theirs
  pub ahead_snoc : (seen log : Log E) (e : ℕ × E) → Ahead cs seen log → ¬ (Within e.0 cs)
      → Ahead cs seen (log ++ e ∷ [])
  ahead_snoc seen log e a n = (
    a.0 ++ e ∷ [],
    ap (λ (l : Log E). l ++ e ∷ []) a.1 ∙ append_assoc seen a.0 (e ∷ []),
    foreign_snoc a.0 e a.2 n,
  )

  -- a history is ahead of itself
  pub ahead_here : (log : Log E) → Ahead cs log log
  ahead_here log = ([], sym (append-nil log), tt)

  -- the earlier entries are at firsts where all are
  pub firsts_before : (l m : Log E) → AtFirsts cs (l ++ m) → AtFirsts cs l
  firsts_before [] m f = tt
  firsts_before (x ∷ xs) m f = (f.0, firsts_before xs m f.1)

module _ {E : Type 0} where
  -- entries of other seats than some are of other seats than fewer
  pub foreign_less : (cs ds : List (ℕ × ℕ)) (l : Log E) → ((n : ℕ) → Within n ds → Within n cs)
      → Foreign cs l → Foreign ds l
  foreign_less cs ds [] le f = tt
  foreign_less cs ds (e ∷ es) le f = ((λ h. f.0 (le e.0 h)), foreign_less cs ds es le f.1)

  -- what is ahead by other seats than some is so by other seats than fewer
  pub ahead_less : (cs ds : List (ℕ × ℕ)) (xs l : Log E) → ((n : ℕ) → Within n ds → Within n cs)
      → Ahead cs xs l → Ahead ds xs l
  ahead_less cs ds xs l le a = (a.0, a.1, foreign_less cs ds a.0 le a.2)

  -- entries at firsts of classes are so of others that have no more
  pub firsts_each : (cs ds : List (ℕ × ℕ)) (l : Log E) → ((n : ℕ) → OnlyFirsts n cs → OnlyFirsts n ds)
      → AtFirsts cs l → AtFirsts ds l
  firsts_each cs ds [] f a = tt
  firsts_each cs ds (e ∷ es) f a = (f e.0 a.0, firsts_each cs ds es f a.1)

  -- entries at firsts of each are so of both together
  pub firsts_both : (cs ds : List (ℕ × ℕ)) (l : Log E) → AtFirsts cs l → AtFirsts ds l → AtFirsts (cs ++ ds) l
  firsts_both cs ds [] a b = tt
  firsts_both cs ds (e ∷ es) a b = (firsts_append e.0 cs ds a.0 b.0, firsts_both cs ds es a.1 b.1)

  -- entries of neither's seats are entries of other seats than both together
  pub foreign_both : (cs ds : List (ℕ × ℕ)) (l : Log E) → Foreign cs l → Foreign ds l → Foreign (cs ++ ds) l
  foreign_both cs ds [] a b = tt
  foreign_both cs ds (e ∷ es) a b =
      ((λ h. ⊎_elim a.0 b.0 (within_append e.0 cs ds h)), foreign_both cs ds es a.1 b.1)

-- ---- the entries that belong to classes of seats

module _ {E : Type 0} (cs : List (ℕ × ℕ)) where
  -- the entries of two histories in turn
  pub entries_in-append : (xs ys : Log E) → entries_in cs (xs ++ ys) ≡ entries_in cs xs ++ entries_in cs ys
  entries_in-append [] ys = refl
  entries_in-append (e ∷ es) ys = by_test (within cs e.0) (entries_in-append es ys)
    where
      by_test : (b : Bool) → entries_in cs (es ++ ys) ≡ entries_in cs es ++ entries_in cs ys
          → (if b then e ∷ entries_in cs (es ++ ys) else entries_in cs (es ++ ys))
          ≡ (if b then e ∷ entries_in cs es else entries_in cs es) ++ entries_in cs ys
      by_test true r = λ i. e ∷ r i
      by_test false r = r

  -- entries of other seats are none of the classes'
  pub entries_in_foreign : (l : Log E) → Foreign cs l → entries_in cs l ≡ []
  entries_in_foreign [] f = refl
  entries_in_foreign (e ∷ es) f =
      cond-false (within cs e.0) _ _ (false_from_ne_true _ (λ h. f.0 (within_is cs e.0 h)))
      ∙ entries_in_foreign es f.1

  -- what comes after a beginning, by other seats, adds none
  pub entries_in_ahead : (seen between : Log E) → Foreign cs between
      → entries_in cs (seen ++ between) ≡ entries_in cs seen
  entries_in_ahead seen between f =
      entries_in-append seen between
      ∙ (ap (λ (l : Log E). entries_in cs seen ++ l) (entries_in_foreign between f)
      ∙ append-nil (entries_in cs seen))

  -- the weight of the classes' entries, one entry at a time
  pub weigh_entries : (f : ℕ × E → ℕ) (e : ℕ × E) (es : Log E)
      → weigh f (entries_in cs (e ∷ es)) ≡ one_if (within cs e.0) * f e + weigh f (entries_in cs es)
  weigh_entries f e es = by_test (within cs e.0)
    where
      by_test : (b : Bool) → weigh f (if b then e ∷ entries_in cs es else entries_in cs es)
          ≡ one_if b * f e + weigh f (entries_in cs es)
      by_test true = omega arith
      by_test false = omega arith

-- ---- passes whose seats stay apart. It is said of any views that have classes and may be gone

module _ {D : Type 0} where
  -- what stands in a list with one item more
  pub at_snoc_at : (l : List D) (a b : D) (j : ℕ) → get_elem? (l ++ a ∷ []) j ≡ some b
      → (get_elem? l j ≡ some b) ⊎ ((j ≡ length l) × (a ≡ b))
  at_snoc_at [] a b zero e = inr (refl, some-injective a b e)
  at_snoc_at [] a b (suc j) e = absurd (some-ne-none b (sym e))
  at_snoc_at (x ∷ xs) a b zero e = inl e
  at_snoc_at (x ∷ xs) a b (suc j) e =
      ⊎_elim (λ h. inl h) (λ h. inr (ap suc h.0 ∙ omega arith, h.1)) (at_snoc_at xs a b j e)

module _ {V : Type 0} (classes : V → List (ℕ × ℕ)) (gone : V → Bool) where
  -- no two views that aren't gone have a seat in common
  abbrev pub AllApart : List V → Type 0
  AllApart vs =
      (i j : ℕ) (v w : V) → i ≢ j → get_elem? vs i ≡ some v → get_elem? vs j ≡ some w → gone v ≡ false
      → gone w ≡ false → Apart (classes v) (classes w)

  -- the views that aren't gone stay apart, where one has classes that lie within what it had
  pub narrowed_apart : (vs : List V) (id : ℕ) (v0 w0 : V) → get_elem? vs id ≡ some v0 → gone v0 ≡ false
      → ((n : ℕ) → Within n (classes w0) → Within n (classes v0)) → AllApart vs → AllApart (set vs id w0)
  narrowed_apart vs id v0 w0 at fresh le apart i j v w ne ei ej vu wu = ⊎_elim
      (λ (a : (i ≡ id) × (w0 ≡ v)). ⊎_elim
      (λ (b : (j ≡ id) × (w0 ≡ w)). absurd (ne (a.0 ∙ sym b.0)))
      (λ (b : (j ≢ id) × (get_elem? vs j ≡ some w)). λ n h k. apart id j v0 w (λ e.
      b.0 (sym e)) at b.1 fresh wu n (le n (subst (λ (x : V). Within n (classes x)) (sym a.1) h)) k)
      (at_set vs id j w0 w ej))
      (λ (a : (i ≢ id) × (get_elem? vs i ≡ some v)). ⊎_elim
      (λ (b : (j ≡ id) × (w0 ≡ w)). λ n h k.
      apart i id v v0 a.0 a.1 at vu fresh n h (le n (subst (λ (x : V). Within n (classes x)) (sym b.1) k)))
      (λ (b : (j ≢ id) × (get_elem? vs j ≡ some w)). apart i j v w ne a.1 b.1 vu wu)
      (at_set vs id j w0 w ej))
      (at_set vs id i w0 v ei)

  -- a new view, whose classes lie within those of v0, stands apart from each of the others
  from_new : (vs : List V) (id : ℕ) (v0 l r : V) → get_elem? vs id ≡ some v0 → gone v0 ≡ false
      → ((n : ℕ) → Within n (classes r) → Within n (classes v0)) → Apart (classes l) (classes r) → AllApart vs
      → (j : ℕ) (w : V) → get_elem? (set vs id l) j ≡ some w → gone w ≡ false → Apart (classes w) (classes r)
  from_new vs id v0 l r at fresh le two apart j w e wu = ⊎_elim
      (λ (b : (j ≡ id) × (l ≡ w)). subst (λ (x : V). Apart (classes x) (classes r)) b.1 two)
      (λ (b : (j ≢ id) × (get_elem? vs j ≡ some w)).
      λ n h k. apart j id w v0 b.0 b.1 at wu fresh n h (le n k))
      (at_set vs id j l w e)

  -- and where a view is cut in two
  pub cut_apart : (vs : List V) (id : ℕ) (v l n : V) → get_elem? vs id ≡ some v
      → gone v ≡ false → ((k : ℕ) → Within k (classes l) → Within k (classes v))
      → ((k : ℕ) → Within k (classes n) → Within k (classes v)) → Apart (classes l) (classes n)
      → AllApart vs → AllApart (set vs id l ++ n ∷ [])
  cut_apart vs id v l n at fresh inside inside' two apart i j a b ne ei ej au bu =
      let ws : List V = set vs id l in
      ⊎_elim
      (λ (h : get_elem? ws i ≡ some a). ⊎_elim
      (λ (k : get_elem? ws j ≡ some b). narrowed_apart vs id v l at fresh inside apart i j a b ne h k au bu)
      (λ (k : (j ≡ length ws) × (n ≡ b)). subst (λ (x : V). Apart (classes a) (classes x)) k.1
      (from_new vs id v l n at fresh inside' two apart i a h au))
      (at_snoc_at ws n b j ej))
      (λ (h : (i ≡ length ws) × (n ≡ a)). ⊎_elim
      (λ (k : get_elem? ws j ≡ some b). subst (λ (x : V). Apart (classes x) (classes b)) h.1
      (turned_apart (classes b) (classes n) (from_new vs id v l n at fresh inside' two apart j b k bu)))
      (λ (k : (j ≡ length ws) × (n ≡ b)). absurd (ne (h.0 ∙ sym k.0)))
      (at_snoc_at ws n b j ej))
      (at_snoc_at ws n a i ei)

  -- and where two views are put together, and one of them is gone
  pub joined_apart : (vs : List V) (id other : ℕ) (v w b old : V) → other ≢ id → get_elem? vs id ≡ some v
      → get_elem? vs other ≡ some w → gone v ≡ false → gone w ≡ false → gone old ≡ true
      → classes b ≡ classes v ++ classes w → AllApart vs → AllApart (set (set vs id b) other old)
  joined_apart vs id other v w b old ne at at' fresh fresh' old_is cs apart i j x y nij ei ej xu yu =
      let from : (k : ℕ) (d : V) → get_elem? (set (set vs id b) other old) k ≡ some d → gone d ≡ false
      → (k ≢ other) × (((k ≡ id) × (b ≡ d)) ⊎ ((k ≢ id) × (get_elem? vs k ≡ some d))) =
      λ k d e u.
      ⊎_elim (λ (t : (k ≡ other) × (old ≡ d)). absurd (true≢false (sym old_is ∙ (ap gone t.1 ∙ u))))
      (λ (t : (k ≢ other) × (get_elem? (set vs id b) k ≡ some d)). (t.0, at_set vs id k b d t.1))
      (at_set (set vs id b) other k old d e) in
      let off : (k : ℕ) (d : V) → k ≢ other → k ≢ id → get_elem? vs k ≡ some d → gone d ≡ false
      → Apart (classes b) (classes d) =
      λ k d n1 n2 e u n h h'.
      ⊎_elim (λ p. apart id k v d (λ q. n2 (sym q)) at e fresh u n p h')
      (λ p. apart other k w d (λ q. n1 (sym q)) at' e fresh' u n p h')
      (within_append n (classes v) (classes w) (subst (Within n) cs h)) in
      let fi = from i x ei xu in
      let fj = from j y ej yu in ⊎_elim
      (λ (h : (i ≡ id) × (b ≡ x)). ⊎_elim
      (λ (k : (j ≡ id) × (b ≡ y)). absurd (nij (h.0 ∙ sym k.0)))
      (λ (k : (j ≢ id) × (get_elem? vs j ≡ some y)).
      subst (λ (z : V). Apart (classes z) (classes y)) h.1 (off j y fj.0 k.0 k.1 yu))
      fj.1)
      (λ (h : (i ≢ id) × (get_elem? vs i ≡ some x)). ⊎_elim
      (λ (k : (j ≡ id) × (b ≡ y)). subst (λ (z : V). Apart (classes x) (classes z)) k.1
      (turned_apart (classes b) (classes x) (off i x fi.0 h.0 h.1 xu)))
      (λ (k : (j ≢ id) × (get_elem? vs j ≡ some y)). apart i j x y nij h.1 k.1 xu yu)
      fj.1)
      fi.1

-- ---- two passes of one history

module _ {D : Type 0} where
  abbrev head_or : D → List D → D
  head_or d [] = d
  head_or d (x ∷ xs) = x

  abbrev tail_of : List D → List D
  tail_of [] = []
  tail_of (x ∷ xs) = xs

  -- of two beginnings of one list the shorter begins the longer
  pub longer_begins : (ys xs a b : List D) → xs ++ a ≡ ys ++ b → length ys ≤ length xs
      → (m : List D) × (xs ≡ ys ++ m) × (b ≡ m ++ a)
  longer_begins [] xs a b e le = (xs, refl, sym e)
  longer_begins (y ∷ ys) [] a b e le = absurd (omega arith)
  longer_begins (y ∷ ys) (x ∷ xs) a b e le =
      let r = longer_begins ys xs a b (ap tail_of e) (omega arith) in
      (r.0, (λ i. ap (head_or x) e i ∷ r.1 i), r.2)

module _ {E : Type 0} where
  foreign_parts : (cs : List (ℕ × ℕ)) (l m : Log E) → Foreign cs (l ++ m) → Foreign cs l × Foreign cs m
  foreign_parts cs [] m f = (tt, f)
  foreign_parts cs (e ∷ es) m f = let r = foreign_parts cs es m f.1 in ((f.0, r.0), r.1)

  -- ys is the shorter of two beginnings
  shorter_fits : (cs ds : List (ℕ × ℕ)) (xs ys log : Log E) → Ahead cs xs log → Ahead ds ys log
      → length ys ≤ length xs → Ahead ds ys xs × Ahead ds xs log
  shorter_fits cs ds xs ys log a b le =
      let m = longer_begins ys xs a.0 b.0 (sym a.1 ∙ b.1) le in
      let f = foreign_parts ds m.0 a.0 (subst (Foreign ds) m.2 b.2) in
      ((m.0, m.1, f.0), (a.0, a.1, f.1))

  ahead_both : (cs ds : List (ℕ × ℕ)) (xs log : Log E) → (a : Ahead cs xs log) → Ahead ds xs log
      → Ahead (cs ++ ds) xs log
  ahead_both cs ds xs log a b =
      let m = longer_begins xs xs a.0 b.0 (sym a.1 ∙ b.1) (omega arith) in
      let same : b.0 ≡ a.0 = m.2 ∙ ap (λ (z : Log E). z ++ a.0) (nothing_more xs m.0 m.1) in
      (a.0, a.1, foreign_both cs ds a.0 a.2 (subst (Foreign ds) same b.2))
    where
      nothing_more : (l m : Log E) → l ≡ l ++ m → m ≡ []
      nothing_more [] m e = sym e
      nothing_more (x ∷ xs) m e = nothing_more xs m (ap tail_of e)

  -- the longer of two histories that passes have seen is what the two passes together have seen
  pub joined : (cs ds : List (ℕ × ℕ)) (xs ys log : Log E) → Ahead cs xs log → Ahead ds ys log
      → Ahead (cs ++ ds) (longer xs ys) log × JoinFits (Joined xs cs ys ds)
  joined cs ds xs ys log a b = by_length (nat_lt (length xs) (length ys)) refl
    where
      by_length : (t : Bool) → nat_lt (length xs) (length ys) ≡ t
          → Ahead (cs ++ ds) (if t then ys else xs) log × JoinFits (Joined xs cs ys ds)
      by_length true is =
          let r = shorter_fits ds cs ys xs log b a (omega (arith, ltb-true (length xs) (length ys) is)) in
          (ahead_both cs ds ys log r.1 b, inr r.0)
      by_length false is =
          let r = shorter_fits cs ds xs ys log a b (ltb-false (length xs) (length ys) is) in
          (ahead_both cs ds xs log a r.1, inl r.0)

  -- the longer of a beginning and the whole is the whole
  pub longer_right : (xs ys : Log E) → IsPrefix xs ys → longer xs ys ≡ ys
  longer_right xs ys p = by_test (nat_lt (length xs) (length ys)) refl
    where
      by_test : (b : Bool) → nat_lt (length xs) (length ys) ≡ b → (if b then ys else xs) ≡ ys
      by_test true is = refl
      by_test false is = prefix_whole xs ys p (grind (arith, nat_tests))
