-- A reap, entry by entry.
use Rattle.std.proofs.Common.{◌≡◌, ℕ, zero, suc, ◌+◌, ◌<◌, ◌≤◌, ◌⊎◌, inl, inr, Bool, true, false, nat_lt}
use Rattle.std.proofs.Common.{List, [], ◌++◌, length, Option, None, refl, sym, ap, subst, ◌∙◌, add-one, arith}
use Rattle.std.specs.Prelude.{slice_set}
use borrow.Author.Tests.{ltb-true, ltb-false}
use Rattle.std.proofs.lemmas.Bool.{cases_eq}
use Rattle.std.proofs.lemmas.Grind.{get_or-set_at}
use Rattle.std.proofs.lemmas.List.{get_or_past, get_or-set_other, length-set}
use Rattle.fd_cache.specs.History.{EntryState, closed, closed_at, swept}
use Rattle.fd_cache.specs.Shelf.{at}

module _ {L : Type 0} where
  -- it closes the same of entries that are the same
  pub closed_same : (n : ℕ) (f g : ℕ → Option (EntryState L)) → ((e : ℕ) → f e ≡ g e)
      → closed n f ≡ closed n g
  unfolding closed
  closed_same zero f g same = refl
  closed_same (suc n) f g same =
      ap (λ (ls : List L). ls ++ closed_at (f n)) (closed_same n f g same)
      ∙ ap (λ (p : Option (EntryState L)). closed n g ++ closed_at p) (same n)

  -- of one entry more
  pub closed_more : (n : ℕ) (f : ℕ → Option (EntryState L)) → closed (n + 1) f ≡ closed n f ++ closed_at (f n)
  unfolding closed
  closed_more n f = ap (λ (m : ℕ). closed m f) (add-one n)

  -- of none
  pub closed_none : (f : ℕ → Option (EntryState L)) → closed 0 f ≡ []
  unfolding closed
  closed_none f = refl

  -- the first so many entries are swept, and the others are as they were
  pub record Sweeps (k : ℕ) (old new : List (Option (EntryState L))) : Type 0 where
    pub size : length new ≡ length old
    pub swept_before : (e : ℕ) → e < k → at e new ≡ swept (at e old)
    pub same_after : (e : ℕ) → k ≤ e → at e new ≡ at e old

  pub sweeps_none : (old : List (Option (EntryState L))) → Sweeps 0 old old
  sweeps_none old =
      record { size = refl; swept_before = λ e less. absurd (omega arith); same_after = λ e less. refl }

  sweeps_at : (k e : ℕ) (old cur : List (Option (EntryState L))) → k < length cur → Sweeps k old cur
      → e < k + 1 → (e ≡ k) ⊎ (e ≡ k → ⊥) → at e (slice_set cur k (swept (at k cur))) ≡ swept (at e old)
  sweeps_at k e old cur inside so_far less (inl here) =
      get_or-set_at cur k e (swept (at k cur)) None here inside ∙ ap swept (so_far.same_after k (omega arith))
      ∙ ap (λ (n : ℕ). swept (at n old)) (sym here)
  sweeps_at k e old cur inside so_far less (inr other) =
      get_or-set_other cur k e (swept (at k cur)) None other ∙ so_far.swept_before e (omega (arith, other))

  -- one entry more is swept
  pub sweeps_more : (k : ℕ) (old cur : List (Option (EntryState L))) → k < length cur → Sweeps k old cur
      → Sweeps (k + 1) old (slice_set cur k (swept (at k cur)))
  sweeps_more k old cur inside so_far = record {
    size = length-set cur k (swept (at k cur)) ∙ so_far.size;
    swept_before = λ e less. sweeps_at k e old cur inside so_far less (cases_eq e k);
    same_after =
        λ e more. get_or-set_other cur k e (swept (at k cur)) None (λ here. omega arith)
        ∙ so_far.same_after e (omega arith);
  }

  swept_if : (e : ℕ) (old new : List (Option (EntryState L))) (b : Bool) → Sweeps 256 old new
      → length old ≡ 256 → nat_lt e 256 ≡ b → at e new ≡ swept (at e old)
  swept_if e old new true all size less = all.swept_before e (ltb-true e 256 less)
  swept_if e old new false all size more =
      let behind : 256 ≤ e = ltb-false e 256 more in
      let none : at e old ≡ None = get_or_past old e None (omega arith) in
      all.same_after e behind ∙ none ∙ ap swept (sym none)

  -- all are
  pub sweeps_all : (k : ℕ) (old new : List (Option (EntryState L))) → k ≡ 256 → Sweeps k old new
      → length old ≡ 256 → (e : ℕ) → at e new ≡ swept (at e old)
  sweeps_all k old new whole all size =
      λ e. swept_if e old new (nat_lt e 256) (subst (λ (n : ℕ). Sweeps n old new) whole all) size refl
