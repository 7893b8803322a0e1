-- To be believed: the history of a cache, its newest deed first, and the reply that it calls for.
use Rattle.std.specs.Prelude.{◌≡◌, ℕ, zero, suc, ◌+◌, ◌-◌, ◌^◌, ◌<◌, ◌≤◌, ◌⊎◌, ◌&&◌, ◌==◌, nat_lt, bytes_eq}
use Rattle.std.specs.Prelude.{List, [], ◌∷◌, ◌++◌, length, drop, Bool, true, false, not, Option, Some, None}
use Rattle.std.specs.Prelude.{IsSome, IsSomeAnd, option_map, if◌then◌else◌}
use Rattle.fd_cache.specs.declared.deed.CacheDeed.{CacheDeed}
use Rattle.fd_cache.specs.declared.deed.CacheDeed.TheVariants.{Hit, Fresh, Bypass, Made, Abandoned, Kept}
use Rattle.fd_cache.specs.declared.deed.CacheDeed.TheVariants.{Extra, Reaped}

-- an entry that is there: its path, how many of its leases are out, those that came back, the last one first,
-- and whether its path was asked for since the last reap
pub record EntryState (L : Type 0) : Type 0 where
  pub path : List ℕ
  pub leases : ℕ
  pub idle : List L
  pub asked : Bool

-- the number is the one that is named
abbrev pub names : Option ℕ → ℕ → Bool
names None e = false
names (Some k) e = k == e

module _ {L : Type 0} where
  -- one more lease is out: the one that came back last, where there is one
  abbrev pub lent : EntryState L → EntryState L
  lent s = record s { leases = s.leases + 1; idle = drop 1 s.idle; asked = true }

  -- a new entry of a path, with one lease out
  abbrev pub begun : List ℕ → EntryState L
  begun x = record { path = x; leases = 1; idle = []; asked = true }

  -- one lease less is out, and this came back
  abbrev pub given_back : List L → EntryState L → EntryState L
  given_back kept s = record s { leases = s.leases - 1; idle = kept ++ s.idle }

  -- nobody has a lease of the entry, and nobody asked for it since the last reap
  abbrev pub is_left : EntryState L → Bool
  is_left s = (s.leases == 0) && not s.asked

  -- what a reap leaves of an entry
  abbrev pub swept : Option (EntryState L) → Option (EntryState L)
  swept None = None
  swept (Some s) = if is_left s then None else Some (record s { asked = false })

  -- a lease of this path counts for an entry that has the path and is leased
  abbrev pub counts : List ℕ → Option (EntryState L) → Bool
  counts x None = false
  counts x (Some s) = bytes_eq x s.path && nat_lt 0 s.leases

  -- a fresh lease: the entry begins, or has one more lease out
  abbrev pub freshly : List ℕ → Option (EntryState L) → Option (EntryState L)
  freshly x None = Some (begun x)
  freshly x (Some s) = Some (lent s)

  -- what one deed makes of the entry of a number
  abbrev pub after : ℕ → CacheDeed L → Option (EntryState L) → Option (EntryState L)
  after e (Hit k x l) p = if k == e then option_map lent p else p
  after e (Fresh k x) p = if k == e then freshly x p else p
  after e (Bypass x) p = p
  after e (Made k x m) p = p
  after e (Abandoned k) p = if k == e then option_map (given_back []) p else p
  after e (Kept k x l) p = if k == e then option_map (given_back (l ∷ [])) p else p
  after e (Extra m x) p = if names m e && counts x p then option_map (given_back []) p else p
  after e (Reaped ls) p = swept p

  -- the entry of a number after a history; none where it is free
  abbrev pub entry_at : ℕ → List (CacheDeed L) → Option (EntryState L)
  entry_at e [] = None
  entry_at e (d ∷ past) = after e d (entry_at e past)

  -- an entry has the path
  abbrev pub HasPath : List ℕ → Option (EntryState L) → Type 0
  HasPath x p = IsSomeAnd p (λ s. s.path ≡ x)

  -- no entry has the path
  abbrev pub IsUnknown : List ℕ → List (CacheDeed L) → Type 0
  IsUnknown x past = (e : ℕ) → HasPath x (entry_at e past) → ⊥

  -- no entry is free
  abbrev pub IsFull : List (CacheDeed L) → Type 0
  IsFull past = (e : ℕ) → e < 256 → IsSome (entry_at e past)

  -- the entry has the path and can be leased once more, and this lease came back last
  pub record GivesLast (x : List ℕ) (l : L) (s : EntryState L) : Type 0 where
    pub path : s.path ≡ x
    pub room : s.leases < 2 ^ 64 - 1
    pub last : s.idle ≡ l ∷ drop 1 s.idle

  -- the entry has the path and can be leased once more, and none came back
  pub record GivesNone (x : List ℕ) (s : EntryState L) : Type 0 where
    pub path : s.path ≡ x
    pub room : s.leases < 2 ^ 64 - 1
    pub none : s.idle ≡ []

  -- the entry has the path and is leased as often as can be
  pub record IsLeasedOut (x : List ℕ) (s : EntryState L) : Type 0 where
    pub path : s.path ≡ x
    pub full : s.leases ≡ 2 ^ 64 - 1

  -- a fresh lease is of the path's entry where none came back, or of a free one where the path has none
  abbrev pub IsFresh : List ℕ → List (CacheDeed L) → Option (EntryState L) → Type 0
  IsFresh x past None = IsUnknown x past
  IsFresh x past (Some s) = GivesNone x s

  -- a path goes by where its entry is leased as often as can be, or where it has none and none is free
  abbrev pub IsBypass : List ℕ → List (CacheDeed L) → Type 0
  IsBypass x past = ((e : ℕ) × IsSomeAnd (entry_at e past) (IsLeasedOut x)) ⊎ (IsUnknown x past × IsFull past)

  -- the leases of an entry that came back
  abbrev pub idle_at : Option (EntryState L) → List L
  idle_at None = []
  idle_at (Some s) = s.idle

  -- what a reap closes of an entry
  abbrev pub closed_at : Option (EntryState L) → List L
  closed_at None = []
  closed_at (Some s) = if is_left s then s.idle else []

  -- what a reap closes of the first so many entries
  unfoldable pub closed : ℕ → (ℕ → Option (EntryState L)) → List L
  closed zero entries = []
  closed (suc n) entries = closed n entries ++ closed_at (entries n)

  -- a lease that came back isn't kept: it counts for no entry, or for one that has two already
  abbrev pub IsExtra : Option ℕ → List ℕ → List (CacheDeed L) → Type 0
  IsExtra None x past = Unit {0}
  IsExtra (Some k) x past = (counts x (entry_at k past) ≡ false) ⊎ (2 ≤ length (idle_at (entry_at k past)))

  -- the reply is what the history before it calls for
  abbrev pub IsCacheReply : CacheDeed L → List (CacheDeed L) → Type 0
  IsCacheReply (Hit k x l) past = (k < 256) × IsSomeAnd (entry_at k past) (GivesLast x l)
  IsCacheReply (Fresh k x) past = (k < 256) × IsFresh x past (entry_at k past)
  IsCacheReply (Bypass x) past = IsBypass x past
  IsCacheReply (Made k x m) past = m ≡ (if counts x (entry_at k past) then Some k else None)
  IsCacheReply (Abandoned k) past = Unit {0}
  IsCacheReply (Kept k x l) past =
      (counts x (entry_at k past) ≡ true) × (length (idle_at (entry_at k past)) < 2)
  IsCacheReply (Extra m x) past = IsExtra m x past
  IsCacheReply (Reaped ls) past = ls ≡ closed 256 (λ e. entry_at e past)

  -- every reply of a history is what the history before it called for
  abbrev pub IsCacheHistory : List (CacheDeed L) → Type 0
  IsCacheHistory [] = Unit {0}
  IsCacheHistory (d ∷ past) = IsCacheReply d past × IsCacheHistory past
