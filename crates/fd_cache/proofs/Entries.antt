-- What a change of one entry makes of all, and of whose leases they keep.
use Rattle.std.proofs.Common.{◌≡◌, ℕ, zero, suc, ◌<◌, ◌==◌, Bool, true, false, List, [], ◌∷◌, length, drop}
use Rattle.std.proofs.Common.{Option, Some, None, refl, sym, ap, subst, ◌∙◌, if◌then◌else◌}
use Rattle.std.specs.Prelude.{IsSomeAnd, option_map, slice_get, slice_set}
use Rattle.std.proofs.lemmas.Bool.{eqb-true, eq-eqb}
use Rattle.std.proofs.lemmas.Grind.{get_or-set_at}
use Rattle.std.proofs.lemmas.List.{get_or-set_other}
use Rattle.fd_cache.specs.declared.deed.CacheDeed.{CacheDeed}
use Rattle.fd_cache.specs.History.{HasPath, IsCacheReply, EntryState, after, begun, given_back, idle_at}
use Rattle.fd_cache.specs.History.{is_left, lent, swept}
use Rattle.fd_cache.specs.Represents.{ShelfRepresents}
use Rattle.fd_cache.specs.Shelf.{KeepsOwn, at}

module _ {L : Type 0} where
  -- an entry was changed by f, and no other
  touched_if : (f : Option (EntryState L) → Option (EntryState L))
      (shelf : List (Option (EntryState L))) (k e : ℕ) (b : Bool)
      → k < length shelf → (k == e) ≡ b
      → (if b then f (at e shelf) else at e shelf) ≡ at e (slice_set shelf k (f (at k shelf)))
  touched_if f shelf k e true inside same =
      let here : k ≡ e = eqb-true k e same in
      ap (λ (j : ℕ). f (at j shelf)) (sym here)
      ∙ sym (get_or-set_at shelf k e (f (at k shelf)) None (sym here) inside)
  touched_if f shelf k e false inside other =
      sym (get_or-set_other shelf k e (f (at k shelf)) None (λ here. cc (eq-eqb k e (sym here))))

  pub touched : (f : Option (EntryState L) → Option (EntryState L))
      (shelf : List (Option (EntryState L))) (k e : ℕ)
      → k < length shelf
      → (if k == e then f (at e shelf) else at e shelf) ≡ at e (slice_set shelf k (f (at k shelf)))
  touched f shelf k e inside = touched_if f shelf k e (k == e) inside refl

  -- a deed is entered that the history calls for, and that makes of each entry what is there afterwards
  pub entered : (d : CacheDeed L) (past : List (CacheDeed L)) (old new : List (Option (EntryState L)))
      → ShelfRepresents past old → IsCacheReply d past
      → ((e : ℕ) → after e d (at e old) ≡ at e new) → ShelfRepresents (d ∷ past) new
  entered d past old new r reply made =
      record { legal = (reply, r.legal); entries = λ e. ap (after e d) (r.entries e) ∙ made e }

  module _ (mark : L → List ℕ × Option ℕ) where
    -- the leases that came back to one entry have its path and its number
    abbrev pub OwnAt : ℕ → Option (EntryState L) → Type 0
    OwnAt k p =
        (s : EntryState L) (i : ℕ) (l : L) → p ≡ Some s → slice_get s.idle i ≡ Some l
        → mark l ≡ (s.path, Some k)

    own_at : (shelf : List (Option (EntryState L))) (k j : ℕ) (v : Option (EntryState L)) (b : Bool)
        → k < length shelf → KeepsOwn mark shelf → OwnAt k v → (k == j) ≡ b
        → OwnAt j (at j (slice_set shelf k v))
    own_at shelf k j v true inside own there same =
        let here : k ≡ j = eqb-true k j same in
        λ s i l at_is found.
        subst (λ (n : ℕ). mark l ≡ (s.path, Some n)) here
        (there s i l (sym (get_or-set_at shelf k j v None (sym here) inside) ∙ at_is) found)
    own_at shelf k j v false inside own there other =
        λ s i l at_is found.
        own j s i l (sym (get_or-set_other shelf k j v None (λ here. cc (eq-eqb k j (sym here))))
        ∙ at_is) found

    pub own_set : (shelf : List (Option (EntryState L))) (k : ℕ) (v : Option (EntryState L))
        → k < length shelf → KeepsOwn mark shelf → OwnAt k v → KeepsOwn mark (slice_set shelf k v)
    own_set shelf k v inside own there =
        λ j s i l at_is found. own_at shelf k j v (k == j) inside own there refl s i l at_is found

    -- nothing came back to a new entry
    pub own_begun : (k : ℕ) (x : List ℕ) → OwnAt k (Some (begun x))
    own_begun k x =
        λ s i l is found.
        let idle : s.idle ≡ [] = cc in
        let none : slice_get {X = L} [] i ≡ Some l =
        subst (λ (ls : List L). slice_get ls i ≡ Some l) idle found in
        cc

    later : (ls : List L) (i : ℕ) (l : L) → slice_get (drop 1 ls) i ≡ Some l → slice_get ls (suc i) ≡ Some l
    later [] i l found = found
    later (x ∷ ls) i l found = found

    -- a lease went out
    pub own_lent : (k : ℕ) (p : Option (EntryState L)) → OwnAt k p → OwnAt k (option_map lent p)
    own_lent k None own = λ s i l is found. cc
    own_lent k (Some t) own = λ s i l is found.
        let path : t.path ≡ s.path = cc in
        let idle : drop 1 t.idle ≡ s.idle = cc in
        subst (λ (x : List ℕ). mark l ≡ (x, Some k)) path
        (own t (suc i) l refl
        (later t.idle i l (subst (λ (ls : List L). slice_get ls i ≡ Some l) (sym idle) found)))

    -- a lease came back that isn't kept
    pub own_less : (k : ℕ) (p : Option (EntryState L)) → OwnAt k p → OwnAt k (option_map (given_back []) p)
    own_less k None own = λ s i l is found. cc
    own_less k (Some t) own = λ s i l is found.
        let path : t.path ≡ s.path = cc in
        let idle : t.idle ≡ s.idle = cc in
        subst (λ (x : List ℕ). mark l ≡ (x, Some k)) path
        (own t i l refl (subst (λ (ls : List L). slice_get ls i ≡ Some l) (sym idle) found))

    kept_at : (t : EntryState L) (k : ℕ) (lease : L) (i : ℕ) (l : L) → OwnAt k (Some t)
        → mark lease ≡ (t.path, Some k) → slice_get (lease ∷ t.idle) i ≡ Some l → mark l ≡ (t.path, Some k)
    kept_at t k lease zero l own its found =
        let same : lease ≡ l = cc in
        subst (λ (m : L). mark m ≡ (t.path, Some k)) same its
    kept_at t k lease (suc i) l own its found = own t i l refl found

    -- a lease of the entry came back and is kept
    pub own_kept : (k : ℕ) (p : Option (EntryState L)) (lease : L) → OwnAt k p
        → IsSomeAnd p (λ s. mark lease ≡ (s.path, Some k)) → OwnAt k (option_map (given_back (lease ∷ [])) p)
    own_kept k None lease own its = λ s i l is found. cc
    own_kept k (Some t) lease own its = λ s i l is found.
        let path : t.path ≡ s.path = cc in
        let idle : (lease ∷ t.idle) ≡ s.idle = cc in
        subst (λ (x : List ℕ). mark l ≡ (x, Some k)) path
        (kept_at t k lease i l own its (subst (λ (ls : List L). slice_get ls i ≡ Some l) (sym idle) found))

    -- the lease that goes out is the entry's own
    pub own_last : (x : List ℕ) (k : ℕ) (p : Option (EntryState L)) (l : L) → OwnAt k p → HasPath x p
        → Some l ≡ slice_get (idle_at p) 0 → mark l ≡ (x, Some k)
    own_last x k None l own path last = absurd path
    own_last x k (Some s) l own path last =
        subst (λ (y : List ℕ). mark l ≡ (y, Some k)) path (own s 0 l refl (sym last))

    left_if : (k : ℕ) (t : EntryState L) (b : Bool) → OwnAt k (Some t)
        → OwnAt k (if b then None else Some (record t { asked = false }))
    left_if k t true own = λ s i l is found. cc
    left_if k t false own = λ s i l is found.
        let path : t.path ≡ s.path = cc in
        let idle : t.idle ≡ s.idle = cc in
        subst (λ (x : List ℕ). mark l ≡ (x, Some k)) path
        (own t i l refl (subst (λ (ls : List L). slice_get ls i ≡ Some l) (sym idle) found))

    left_at : (k : ℕ) (p : Option (EntryState L)) → OwnAt k p → OwnAt k (swept p)
    left_at k None own = λ s i l is found. cc
    left_at k (Some t) own = left_if k t (is_left t) own

    -- what a reap leaves has its own
    pub own_swept : (old new : List (Option (EntryState L))) → KeepsOwn mark old
        → ((e : ℕ) → at e new ≡ swept (at e old)) → KeepsOwn mark new
    own_swept old new own left =
        λ k s i l at_is found. left_at k (at k old) (λ t j m. own k t j m) s i l (sym (left k) ∙ at_is) found
