-- What came back is kept, went out again, or was closed.
use Rattle.std.proofs.Common.{◌≡◌, ℕ, zero, suc, ◌+◌, ◌<◌, ◌≤◌, ◌==◌, ◌&&◌, ◌⊎◌, inl, inr, Bool, true, false}
use Rattle.std.proofs.Common.{List, [], ◌∷◌, ◌++◌, drop, Option, Some, None, refl, sym, ap, subst, ◌∙◌}
use Rattle.std.proofs.Common.{if◌then◌else◌, arith}
use Rattle.std.specs.Prelude.{IsSomeAnd, option_map}
use Rattle.std.proofs.lemmas.Bool.{cases_eq, eqb-true, eq-eqb}
use Rattle.turn_cell.specs.Weights.{weigh}
use Rattle.fd_cache.specs.declared.deed.CacheDeed.{CacheDeed}
use Rattle.fd_cache.specs.declared.deed.CacheDeed.TheVariants.{Hit, Fresh, Bypass, Made, Abandoned, Kept}
use Rattle.fd_cache.specs.declared.deed.CacheDeed.TheVariants.{Extra, Reaped}
use Rattle.fd_cache.specs.History.{GivesLast, IsCacheHistory, IsFresh, EntryState, closed, closed_at, counts}
use Rattle.fd_cache.specs.History.{entry_at, freshly, given_back, idle_at, is_left, lent, names, swept}
use Rattle.fd_cache.specs.Laws.{AccountsForLeases, came_back, kept_below, went_out}
use Rattle.fd_cache.proofs.Paths.{numbers_small}

module _ {L : Type 0} (f : L → ℕ) where
  -- what came back to an entry and is there
  abbrev held : Option (EntryState L) → ℕ
  held p = weigh f (idle_at p)

  weigh_both : (xs ys : List L) → weigh f (xs ++ ys) ≡ weigh f xs + weigh f ys
  weigh_both [] ys = omega arith
  weigh_both (x ∷ xs) ys = let rest = weigh_both xs ys in omega (arith, rest)

  kept_none : (n : ℕ) → kept_below n f (λ e. None) ≡ 0
  unfolding kept_below
  kept_none zero = refl
  kept_none (suc n) = let rest = kept_none n in omega (arith, rest)

  kept_same : (n : ℕ) (g h : ℕ → Option (EntryState L)) → ((e : ℕ) → held (g e) ≡ held (h e))
      → kept_below n f g ≡ kept_below n f h
  unfolding kept_below
  kept_same zero g h same = refl
  kept_same (suc n) g h same =
      let rest = kept_same n g h same in
      let here = same n in
      omega (arith, rest, here)

  kept_before : (n k : ℕ) (g h : ℕ → Option (EntryState L))
      → ((e : ℕ) → (e ≡ k → ⊥) → held (g e) ≡ held (h e)) → n ≤ k → kept_below n f g ≡ kept_below n f h
  unfolding kept_below
  kept_before zero k g h same less = refl
  kept_before (suc n) k g h same less =
      let rest = kept_before n k g h same (omega arith) in
      let here = same n (λ is. omega arith) in
      omega (arith, rest, here)

  kept_in : (n k : ℕ) (g h : ℕ → Option (EntryState L)) (less more : ℕ)
      → ((e : ℕ) → (e ≡ k → ⊥) → held (g e) ≡ held (h e)) → held (g k) + more ≡ held (h k) + less → k < suc n
      → (n ≡ k) ⊎ (n ≡ k → ⊥) → (k < n → kept_below n f g + more ≡ kept_below n f h + less)
      → kept_below n f g + held (g n) + more ≡ kept_below n f h + held (h n) + less
  kept_in n k g h less more same here inside (inl is) rest =
      let before = kept_before n k g h same (omega arith) in
      let now : held (g n) + more ≡ held (h n) + less =
      subst (λ (e : ℕ). held (g e) + more ≡ held (h e) + less) (sym is) here in
      omega (arith, before, now)
  kept_in n k g h less more same here inside (inr other) rest =
      let before = rest (omega (arith, other)) in
      let now = same n other in
      omega (arith, before, now)

  -- one entry has more or less than it had, and no other
  kept_at : (n k : ℕ) (g h : ℕ → Option (EntryState L)) (less more : ℕ)
      → ((e : ℕ) → (e ≡ k → ⊥) → held (g e) ≡ held (h e)) → held (g k) + more ≡ held (h k) + less → k < n
      → kept_below n f g + more ≡ kept_below n f h + less
  unfolding kept_below
  kept_at zero k g h less more same here inside = absurd (omega arith)
  kept_at (suc n) k g h less more same here inside =
      kept_in n k g h less more same here inside (cases_eq n k)
      (λ inside. kept_at n k g h less more same here inside)

  -- an entry that isn't named stays
  stays_if : (b : Bool) (p q : Option (EntryState L)) → (b ≡ true → ⊥) → held p ≡ held (if b then q else p)
  stays_if true p q other = absurd (other refl)
  stays_if false p q other = refl

  stays : (k e : ℕ) (p q : Option (EntryState L)) → (e ≡ k → ⊥) → held p ≡ held (if k == e then q else p)
  stays k e p q other = stays_if (k == e) p q (λ is. other (sym (eqb-true k e is)))

  -- the one that is named changes
  changes : (k : ℕ) (p q : Option (EntryState L)) → held (if k == k then q else p) ≡ held q
  changes k p q = ap (λ (b : Bool). held (if b then q else p)) (eq-eqb k k refl)

  less_same : (b : Bool) (p : Option (EntryState L))
      → held p ≡ held (if b then option_map (given_back []) p else p)
  less_same true None = refl
  less_same true (Some s) = refl
  less_same false p = refl

  hit_less : (x : List ℕ) (l : L) (p : Option (EntryState L)) → IsSomeAnd p (GivesLast x l)
      → held p ≡ held (option_map lent p) + f l
  hit_less x l None gives = absurd gives
  hit_less x l (Some s) gives = let last = ap (λ (ls : List L). weigh f ls) gives.last in omega (arith, last)

  fresh_same : (b : Bool) (x : List ℕ) (past : List (CacheDeed L)) (p : Option (EntryState L))
      → (b ≡ true → IsFresh x past p) → held p ≡ held (if b then freshly x p else p)
  fresh_same true x past None fresh = refl
  fresh_same true x past (Some s) fresh =
      ap (λ (ls : List L). weigh f ls) ((fresh refl).none)
      ∙ sym (ap (λ (ls : List L). weigh f (drop 1 ls)) ((fresh refl).none))
  fresh_same false x past p fresh = refl

  kept_more : (x : List ℕ) (l : L) (p : Option (EntryState L)) → counts x p ≡ true
      → held (option_map (given_back (l ∷ [])) p) ≡ held p + f l
  kept_more x l None counted = cc
  kept_more x l (Some s) counted = omega arith

  counts_there : (x : List ℕ) (p : Option (EntryState L)) → counts x p ≡ true
      → (s : EntryState L) × (p ≡ Some s)
  counts_there x None counted = cc
  counts_there x (Some s) counted = (s, refl)

  left_if : (b : Bool) (s : EntryState L)
      → held (if b then None else Some (record s { asked = false })) + weigh f (if b then s.idle else [])
      ≡ weigh f s.idle
  left_if true s = omega arith
  left_if false s = omega arith

  left_at : (p : Option (EntryState L)) → held (swept p) + weigh f (closed_at p) ≡ held p
  left_at None = refl
  left_at (Some s) = left_if (is_left s) s

  kept_swept : (n : ℕ) (g : ℕ → Option (EntryState L))
      → kept_below n f (λ e. swept (g e)) + weigh f (closed n g) ≡ kept_below n f g
  unfolding kept_below closed
  kept_swept zero g = refl
  kept_swept (suc n) g =
      let rest = kept_swept n g in
      let here = left_at (g n) in
      let both = weigh_both (closed n g) (closed_at (g n)) in
      omega (arith, rest, here, both)

  accounted : (past : List (CacheDeed L)) → IsCacheHistory past
      → weigh (came_back f) past ≡ weigh (went_out f) past + kept_below 256 f (λ e. entry_at e past)
  accounted [] legal = let none = kept_none 256 in omega (arith, none)
  accounted (Hit k x l ∷ past) legal =
      let rest = accounted past legal.1 in
      let p = entry_at k past in
      let here : held p + 0 ≡ held (entry_at k (Hit k x l ∷ past)) + f l =
      let now = hit_less x l p legal.0.1 in
      let is = changes k p (option_map lent p) in
      omega (arith, now, is) in
      let step = kept_at 256 k (λ e. entry_at e past) (λ e. entry_at e (Hit k x l ∷ past)) (f l) 0
      (λ e other. stays k e (entry_at e past) (option_map lent (entry_at e past)) other) here legal.0.0 in
      omega (arith, rest, step)
  accounted (Fresh k x ∷ past) legal =
      let rest = accounted past legal.1 in
      let step = kept_same 256 (λ e. entry_at e past) (λ e. entry_at e (Fresh k x ∷ past))
      (λ e. fresh_same (k == e) x past (entry_at e past)
      (λ is. subst (λ (n : ℕ). IsFresh x past (entry_at n past)) (eqb-true k e is) legal.0.1)) in
      omega (arith, rest, step)
  accounted (Bypass x ∷ past) legal = let rest = accounted past legal.1 in omega (arith, rest)
  accounted (Made k x m ∷ past) legal = let rest = accounted past legal.1 in omega (arith, rest)
  accounted (Abandoned k ∷ past) legal =
      let rest = accounted past legal.1 in
      let step = kept_same 256 (λ e. entry_at e past) (λ e. entry_at e (Abandoned k ∷ past))
      (λ e. less_same (k == e) (entry_at e past)) in
      omega (arith, rest, step)
  accounted (Kept k x l ∷ past) legal =
      let rest = accounted past legal.1 in
      let p = entry_at k past in
      let there = counts_there x p legal.0.0 in
      let inside : k < 256 = numbers_small past legal.1 k there.0 there.1 in
      let here : held p + f l ≡ held (entry_at k (Kept k x l ∷ past)) + 0 =
      let now = kept_more x l p legal.0.0 in
      let is = changes k p (option_map (given_back (l ∷ [])) p) in
      omega (arith, now, is) in
      let step = kept_at 256 k (λ e. entry_at e past)
      (λ e. entry_at e (Kept k x l ∷ past)) 0 (f l) (λ e other.
      stays k e (entry_at e past) (option_map (given_back (l ∷ [])) (entry_at e past)) other) here inside in
      omega (arith, rest, step)
  accounted (Extra m x ∷ past) legal =
      let rest = accounted past legal.1 in
      let step = kept_same 256 (λ e. entry_at e past) (λ e. entry_at e (Extra m x ∷ past))
      (λ e. less_same (names m e && counts x (entry_at e past)) (entry_at e past)) in
      omega (arith, rest, step)
  accounted (Reaped ls ∷ past) legal =
      let rest = accounted past legal.1 in
      let step = kept_swept 256 (λ e. entry_at e past) in
      let these = ap (λ (xs : List L). weigh f xs) legal.0 in
      omega (arith, rest, step, these)

-- each lease goes out as often as it came back, at most
pub accounts : {L : Type 0} (past : List (CacheDeed L)) → IsCacheHistory past → AccountsForLeases past
accounts past legal = λ f. accounted f past legal
