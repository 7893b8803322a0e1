-- Which paths entries have.
use Rattle.std.proofs.Common.{◌≡◌, ℕ, zero, suc, ◌<◌, ◌==◌, ◌⊎◌, inl, inr, Bool, ◌&&◌, true, false, List, []}
use Rattle.std.proofs.Common.{◌∷◌, Option, Some, None, refl, sym, ap, subst, ◌∙◌, if◌then◌else◌, arith}
use Rattle.std.specs.Prelude.{option_map}
use Rattle.std.proofs.lemmas.Bool.{cases_eq, eqb-true}
use Rattle.std.proofs.lemmas.Slice.Eq.{bytes_eq-Decides}
use Rattle.fd_cache.specs.declared.deed.CacheDeed.{CacheDeed}
use Rattle.fd_cache.specs.declared.deed.CacheDeed.TheVariants.{Hit, Fresh, Bypass, Made, Abandoned, Kept}
use Rattle.fd_cache.specs.declared.deed.CacheDeed.TheVariants.{Extra, Reaped}
use Rattle.fd_cache.specs.History.{HasPath, IsCacheHistory, IsFresh, EntryState, after, counts, entry_at}
use Rattle.fd_cache.specs.History.{freshly, given_back, idle_at, is_left, lent, names, swept}
use Rattle.fd_cache.specs.Laws.{GoesByPaths, entry_below, has_path, leases_at}

module _ {L : Type 0} where
  -- what is there was there before, with this path
  pub record Was (p : Option (EntryState L)) (s : EntryState L) : Type 0 where
    pub before : EntryState L
    pub there : p ≡ Some before
    pub path : before.path ≡ s.path

  abbrev From : Option (EntryState L) → Option (EntryState L) → Type 0
  From p q = (s : EntryState L) → q ≡ Some s → Was p s

  from_same : (p : Option (EntryState L)) → From p p
  from_same p = λ s is. record { before = s; there = is; path = refl }

  from_map : (f : EntryState L → EntryState L) → ((s : EntryState L) → s.path ≡ (f s).path)
      → (p : Option (EntryState L)) → From p (option_map f p)
  from_map f same None = λ s is. cc
  from_map f same (Some t) =
      λ s is.
      let now : f t ≡ s = cc in
      record { before = t; there = refl; path = same t ∙ ap (λ (u : EntryState L). u.path) now }

  from_if : (b : Bool) (p q : Option (EntryState L)) → From p q → From p (if b then q else p)
  from_if true p q from = from
  from_if false p q from = from_same p

  from_left : (b : Bool) (t : EntryState L)
      → From (Some t) (if b then None else Some (record t { asked = false }))
  from_left true t = λ s is. cc
  from_left false t =
      λ s is.
      let now : t.path ≡ s.path = cc in
      record { before = t; there = refl; path = now }

  from_swept : (p : Option (EntryState L)) → From p (swept p)
  from_swept None = λ s is. cc
  from_swept (Some t) = from_left (is_left t) t

  -- a fresh lease makes an entry of the path where its number was free
  pub record Begins (k e : ℕ) (x : List ℕ) (p : Option (EntryState L)) (s : EntryState L) : Type 0 where
    pub here : k ≡ e
    pub free : p ≡ None
    pub path : x ≡ s.path

  from_freshly : (k e : ℕ) (x : List ℕ) (p : Option (EntryState L)) (s : EntryState L) → k ≡ e
      → freshly x p ≡ Some s → Was p s ⊎ Begins k e x p s
  from_freshly k e x None s here is =
      let path : x ≡ s.path = cc in
      inr (record { here = here; free = refl; path = path })
  from_freshly k e x (Some t) s here is =
      let path : t.path ≡ s.path = cc in
      inl (record { before = t; there = refl; path = path })

  from_fresh : (k e : ℕ) (x : List ℕ) (p : Option (EntryState L)) (s : EntryState L) (b : Bool)
      → (k == e) ≡ b → (if b then freshly x p else p) ≡ Some s → Was p s ⊎ Begins k e x p s
  from_fresh k e x p s true same is = from_freshly k e x p s (eqb-true k e same) is
  from_fresh k e x p s false other is = inl (from_same p s is)

  abbrev Apart : (ℕ → Option (EntryState L)) → Type 0
  Apart f = (j k : ℕ) (s t : EntryState L) → f j ≡ Some s → f k ≡ Some t → s.path ≡ t.path → j ≡ k

  abbrev Small : (ℕ → Option (EntryState L)) → Type 0
  Small f = (k : ℕ) (s : EntryState L) → f k ≡ Some s → k < 256

  apart_from : (f g : ℕ → Option (EntryState L)) → ((e : ℕ) → From (f e) (g e)) → Apart f → Apart g
  apart_from f g from apart = λ j k s t is_s is_t same.
      let a = from j s is_s in
      let b = from k t is_t in
      apart j k a.before b.before a.there b.there (a.path ∙ same ∙ sym b.path)

  small_from : (f g : ℕ → Option (EntryState L)) → ((e : ℕ) → From (f e) (g e)) → Small f → Small g
  small_from f g from small = λ k s is. let a = from k s is in small k a.before a.there

  unknown_here : (x : List ℕ) (past : List (CacheDeed L))
      (k j : ℕ) (p : Option (EntryState L)) (s : EntryState L)
      → IsFresh x past p → p ≡ None → entry_at j past ≡ Some s → x ≡ s.path → ⊥
  unknown_here x past k j None s fresh free is path =
      fresh j (subst (λ (q : Option (EntryState L)). HasPath x q) (sym is) (sym path))
  unknown_here x past k j (Some t) s fresh free is path = cc

  fresh_apart : (x : List ℕ) (past : List (CacheDeed L)) (n j k : ℕ) (s t : EntryState L)
      → IsFresh x past (entry_at n past) → Apart (λ e. entry_at e past) → s.path ≡ t.path
      → Was (entry_at j past) s ⊎ Begins n j x (entry_at j past) s
      → Was (entry_at k past) t ⊎ Begins n k x (entry_at k past) t → j ≡ k
  fresh_apart x past n j k s t fresh apart same (inl a) (inl b) =
      apart j k a.before b.before a.there b.there (a.path ∙ same ∙ sym b.path)
  fresh_apart x past n j k s t fresh apart same (inl a) (inr b) =
      let free : entry_at n past ≡ None = ap (λ (e : ℕ). entry_at e past) b.here ∙ b.free in
      absurd
      (unknown_here x past n j (entry_at n past) a.before fresh free a.there (b.path ∙ sym same ∙ sym a.path))
  fresh_apart x past n j k s t fresh apart same (inr a) (inl b) =
      let free : entry_at n past ≡ None = ap (λ (e : ℕ). entry_at e past) a.here ∙ a.free in
      absurd
      (unknown_here x past n k (entry_at n past) b.before fresh free b.there (a.path ∙ same ∙ sym b.path))
  fresh_apart x past n j k s t fresh apart same (inr a) (inr b) = sym a.here ∙ b.here

  fresh_small : (x : List ℕ) (past : List (CacheDeed L)) (n k : ℕ) (s : EntryState L) → n < 256
      → Small (λ e. entry_at e past) → Was (entry_at k past) s ⊎ Begins n k x (entry_at k past) s → k < 256
  fresh_small x past n k s inside small (inl a) = small k a.before a.there
  fresh_small x past n k s inside small (inr b) = subst (λ (e : ℕ). e < 256) b.here inside

  -- what a deed that gives no ticket makes of an entry
  from_deed : (d : CacheDeed L) (e : ℕ) (p : Option (EntryState L))
      → ((k : ℕ) (x : List ℕ) → d ≡ Fresh k x → ⊥) → From p (after e d p)
  from_deed (Hit k x l) e p not_fresh = from_if (k == e) p (option_map lent p) (from_map lent (λ s. refl) p)
  from_deed (Fresh k x) e p not_fresh = absurd (not_fresh k x refl)
  from_deed (Bypass x) e p not_fresh = from_same p
  from_deed (Made k x m) e p not_fresh = from_same p
  from_deed (Abandoned k) e p not_fresh =
      from_if (k == e) p (option_map (given_back []) p) (from_map (given_back []) (λ s. refl) p)
  from_deed (Kept k x l) e p not_fresh =
      from_if (k == e) p (option_map (given_back (l ∷ [])) p) (from_map (given_back (l ∷ [])) (λ s. refl) p)
  from_deed (Extra m x) e p not_fresh =
      from_if (names m e && counts x p) p (option_map (given_back []) p)
      (from_map (given_back []) (λ s. refl) p)
  from_deed (Reaped ls) e p not_fresh = from_swept p

  apart_other : (d : CacheDeed L) (past : List (CacheDeed L)) → ((k : ℕ) (x : List ℕ) → d ≡ Fresh k x → ⊥)
      → Apart (λ e. entry_at e past) → Apart (λ e. entry_at e (d ∷ past))
  apart_other d past not_fresh apart =
      apart_from (λ e. entry_at e past) (λ e. entry_at e (d ∷ past))
      (λ e. from_deed d e (entry_at e past) not_fresh) apart

  small_other : (d : CacheDeed L) (past : List (CacheDeed L)) → ((k : ℕ) (x : List ℕ) → d ≡ Fresh k x → ⊥)
      → Small (λ e. entry_at e past) → Small (λ e. entry_at e (d ∷ past))
  small_other d past not_fresh small =
      small_from (λ e. entry_at e past) (λ e. entry_at e (d ∷ past))
      (λ e. from_deed d e (entry_at e past) not_fresh) small

  -- no two entries have one path
  pub paths_apart : (past : List (CacheDeed L)) → IsCacheHistory past → Apart (λ e. entry_at e past)
  paths_apart [] legal = λ j k s t is_s is_t same. cc
  paths_apart (Hit k x l ∷ past) legal =
      apart_other (Hit k x l) past (λ k x is. cc) (paths_apart past legal.1)
  paths_apart (Fresh n x ∷ past) legal = λ j k s t is_s is_t same.
      fresh_apart x past n j k s t legal.0.1 (paths_apart past legal.1) same
      (from_fresh n j x (entry_at j past) s (n == j) refl is_s)
      (from_fresh n k x (entry_at k past) t (n == k) refl is_t)
  paths_apart (Bypass x ∷ past) legal = apart_other (Bypass x) past (λ k x is. cc) (paths_apart past legal.1)
  paths_apart (Made k x m ∷ past) legal =
      apart_other (Made k x m) past (λ k x is. cc) (paths_apart past legal.1)
  paths_apart (Abandoned k ∷ past) legal =
      apart_other (Abandoned k) past (λ k x is. cc) (paths_apart past legal.1)
  paths_apart (Kept k x l ∷ past) legal =
      apart_other (Kept k x l) past (λ k x is. cc) (paths_apart past legal.1)
  paths_apart (Extra m x ∷ past) legal =
      apart_other (Extra m x) past (λ k x is. cc) (paths_apart past legal.1)
  paths_apart (Reaped ls ∷ past) legal =
      apart_other (Reaped ls) past (λ k x is. cc) (paths_apart past legal.1)

  -- no entry has a greater number than there are
  pub numbers_small : (past : List (CacheDeed L)) → IsCacheHistory past → Small (λ e. entry_at e past)
  numbers_small [] legal = λ k s is. cc
  numbers_small (Hit k x l ∷ past) legal =
      small_other (Hit k x l) past (λ k x is. cc) (numbers_small past legal.1)
  numbers_small (Fresh n x ∷ past) legal =
      λ k s is. fresh_small x past n k s legal.0.0 (numbers_small past legal.1)
      (from_fresh n k x (entry_at k past) s (n == k) refl is)
  numbers_small (Bypass x ∷ past) legal =
      small_other (Bypass x) past (λ k x is. cc) (numbers_small past legal.1)
  numbers_small (Made k x m ∷ past) legal =
      small_other (Made k x m) past (λ k x is. cc) (numbers_small past legal.1)
  numbers_small (Abandoned k ∷ past) legal =
      small_other (Abandoned k) past (λ k x is. cc) (numbers_small past legal.1)
  numbers_small (Kept k x l ∷ past) legal =
      small_other (Kept k x l) past (λ k x is. cc) (numbers_small past legal.1)
  numbers_small (Extra m x ∷ past) legal =
      small_other (Extra m x) past (λ k x is. cc) (numbers_small past legal.1)
  numbers_small (Reaped ls ∷ past) legal =
      small_other (Reaped ls) past (λ k x is. cc) (numbers_small past legal.1)

  -- the entry that is found by a path among the first so many
  found_here : (n k : ℕ) (x : List ℕ) (past : List (CacheDeed L))
      (s : EntryState L) (p : Option (EntryState L)) (b : Bool)
      → Apart (λ e. entry_at e past) → entry_at k past ≡ Some s → s.path ≡ x
      → entry_at n past ≡ p → has_path x p ≡ b → (n ≡ k) ⊎ (n ≡ k → ⊥)
      → ((n ≡ k → ⊥) → entry_below n x past ≡ Some s) → (if b then p else entry_below n x past) ≡ Some s
  found_here n k x past s p true apart is path at_n has (inl here) rest =
      sym at_n ∙ ap (λ (e : ℕ). entry_at e past) here ∙ is
  found_here n k x past s None true apart is path at_n has (inr other) rest = cc
  found_here n k x past s (Some t) true apart is path at_n has (inr other) rest =
      absurd (other (apart n k t s at_n is (sym ((bytes_eq-Decides x t.path).0 has) ∙ sym path)))
  found_here n k x past s p false apart is path at_n has (inl here) rest =
      let there : p ≡ Some s = sym at_n ∙ ap (λ (e : ℕ). entry_at e past) here ∙ is in
      let yes : has_path x p ≡ true =
      ap (λ (q : Option (EntryState L)). has_path x q) there ∙ (bytes_eq-Decides x s.path).1 (sym path) in
      cc
  found_here n k x past s p false apart is path at_n has (inr other) rest = rest other

  found_below : (n k : ℕ) (x : List ℕ) (past : List (CacheDeed L)) (s : EntryState L)
      → Apart (λ e. entry_at e past) → entry_at k past ≡ Some s → s.path ≡ x → k < n
      → entry_below n x past ≡ Some s
  unfolding entry_below
  found_below zero k x past s apart is path inside = absurd (omega arith)
  found_below (suc n) k x past s apart is path inside =
      found_here n k x past s (entry_at n past) (has_path x (entry_at n past)) apart is path refl refl
      (cases_eq n k)
      (λ other. found_below n k x past s apart is path (omega (arith, other)))

  -- what stands at an entry is what its path has
  pub goes_by_paths : (past : List (CacheDeed L)) → IsCacheHistory past → GoesByPaths past
  goes_by_paths past legal =
      let apart = paths_apart past legal in
      let small = numbers_small past legal in
      record {
        small = small;
        apart = apart;
        leases = λ k s is. ap leases_at (found_below 256 k s.path past s apart is refl (small k s is));
        idle = λ k s is. ap idle_at (found_below 256 k s.path past s apart is refl (small k s is));
      }
