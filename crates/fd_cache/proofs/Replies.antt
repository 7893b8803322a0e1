-- The reply that an entry calls for.
use Rattle.std.proofs.Common.{◌≡◌, ℕ, ◌-◌, ◌^◌, ◌<◌, List, [], ◌∷◌, drop, Option, Some, None, refl, ap, arith}
use Rattle.std.specs.Prelude.{IsSomeAnd, slice_get}
use Rattle.fd_cache.specs.declared.deed.CacheDeed.{CacheDeed}
use Rattle.fd_cache.specs.History.{GivesLast, HasPath, IsFresh, IsLeasedOut, EntryState, idle_at}

module _ {L : Type 0} where
  -- a path's entry that isn't leased out has room for one lease more
  pub has_room : (p : Option (EntryState L)) → IsSomeAnd p (λ s. s.leases < 2 ^ 64)
      → (IsSomeAnd p (λ s. s.leases ≡ 2 ^ 64 - 1) → ⊥) → IsSomeAnd p (λ s. s.leases < 2 ^ 64 - 1)
  has_room None few not_full = absurd few
  has_room (Some s) few not_full = omega (arith, not_full)

  last_is : (ls : List L) (l : L) → Some l ≡ slice_get ls 0 → ls ≡ l ∷ drop 1 ls
  last_is [] l last = cc
  last_is (x ∷ ls) l last = let same : x ≡ l = cc in ap (λ (y : L). y ∷ ls) same

  none_is : (ls : List L) → None ≡ slice_get ls 0 → ls ≡ []
  none_is [] none = refl
  none_is (x ∷ ls) none = cc

  -- the lease that came back last is given
  pub gives_last : (x : List ℕ) (p : Option (EntryState L)) (l : L) → HasPath x p
      → IsSomeAnd p (λ s. s.leases < 2 ^ 64 - 1) → Some l ≡ slice_get (idle_at p) 0
      → IsSomeAnd p (GivesLast x l)
  gives_last x None l path room last = path
  gives_last x (Some s) l path room last = record { path = path; room = room; last = last_is s.idle l last }

  -- none came back, so that it is looked for
  pub gives_none : (x : List ℕ) (past : List (CacheDeed L)) (p : Option (EntryState L)) → HasPath x p
      → IsSomeAnd p (λ s. s.leases < 2 ^ 64 - 1) → None ≡ slice_get (idle_at p) 0 → IsFresh x past p
  gives_none x past None path room none = absurd path
  gives_none x past (Some s) path room none = record { path = path; room = room; none = none_is s.idle none }

  -- the path's entry is leased as often as can be
  pub leased_out : (x : List ℕ) (p : Option (EntryState L)) → HasPath x p
      → IsSomeAnd p (λ s. s.leases ≡ 2 ^ 64 - 1) → IsSomeAnd p (IsLeasedOut x)
  leased_out x None path full = path
  leased_out x (Some s) path full = record { path = path; full = full }
