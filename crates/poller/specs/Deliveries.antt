-- To be believed: the rule of a memory net's table, and what each kind of atomic step tells.
use Rattle.std.specs.Prelude.{◌≡◌, ◌≢◌, ℕ, ◌+◌, ◌-◌, ◌/◌, ◌≤◌, ◌<◌, true, false, List, ◌∷◌, length, map}
use Rattle.std.specs.Prelude.{slice_index}
use mathlib.Core.Option.{some}
use lib.ListN.{get_elem?}
use Rattle.atomic_table.specs.Table.{State, Me, Step}
use Rattle.poller.specs.declared.limits.TheConstants.{ACCEPTS}
use Rattle.poller.specs.declared.script.Script.{Script}
use Rattle.poller.specs.declared.seat_knowledge.Role.{Role}
use Rattle.poller.specs.declared.seat_knowledge.Role.TheVariants.{Raises, Delivers, Reads}
use Rattle.poller.specs.declared.seat_knowledge.SeatKnowledge.{SeatKnowledge}

-- how often the listener's word is raised, where this many links are to come: the first accepts need no raise
abbrev pub listener_limit : ℕ → ℕ
listener_limit n = (n - 1) / ACCEPTS

-- how often each word is raised at most: the listener's, and then that of each script once for each step
abbrev pub limits_of : List Script → List ℕ
limits_of scripts = listener_limit (length scripts) ∷ map (λ script. length script.steps.items) scripts

-- a word is among those that a role may raise
abbrev pub MayRaise : Role → ℕ → Type 0
MayRaise (Raises from until) k = (from ≤ k) × (k < until)
MayRaise (Delivers word) k = k ≡ word
MayRaise (Reads word) k = ⊥

-- a word is among those that a role may read, or may give to a seat to read: no other seat has one of these
abbrev pub MayRead : Role → ℕ → Type 0
MayRead (Raises from until) k = (from ≤ k) × (k < until)
MayRead (Delivers word) k = ⊥
MayRead (Reads word) k = k ≡ word

-- the first of a role's words, which is the only one of a role that delivers or reads
abbrev pub word_of : Role → ℕ
word_of (Raises from until) = from
word_of (Delivers word) = word
word_of (Reads word) = word

-- what a seat has seen is so: it is what each word has that the seat raises, and no more
-- than the word has that it reads
abbrev pub HasSeen : List ℕ → Role → ℕ → Type 0
HasSeen words (Raises from until) seen = (k : ℕ) → from ≤ k → k < until → seen ≡ slice_index words k
HasSeen words (Delivers word) seen = seen ≡ slice_index words word
HasSeen words (Reads word) seen = seen ≤ slice_index words word

-- the words of a role are among so many
abbrev pub IsInside : ℕ → Role → Type 0
IsInside n (Raises from until) = until ≤ n
IsInside n (Delivers word) = word < n
IsInside n (Reads word) = word < n

-- what a seat knows is so
pub record Knows (limits words : List ℕ) (v : SeatKnowledge) : Type 0 where
  pub same_limits : v.limits ≡ limits
  pub inside : IsInside (length limits) v.role
  pub has_seen : HasSeen words v.role v.seen

-- no two seats have a word of this kind in common
abbrev pub AreApart : (Role → ℕ → Type 0) → List SeatKnowledge → Type 0
AreApart May views =
    (i j : ℕ) (v w : SeatKnowledge) → i ≢ j → get_elem? views i ≡ some v → get_elem? views j ≡ some w
    → (k : ℕ) → May v.role k → May w.role k → ⊥

-- a seat that reads the word has left
pub record ReaderHasLeft (views : List SeatKnowledge) (word : ℕ) : Type 0 where
  pub at : ℕ
  pub seat : SeatKnowledge
  pub there : get_elem? views at ≡ some seat
  pub reads : seat.role ≡ Reads word
  pub gone : seat.gone ≡ true

-- The rule. No word is above its limit, what each seat knows is so, no word is raised by two seats and
-- none is read by two. After the counted words stands a note for each: it isn't zero only where the
-- seat that reads the word has left
pub record IsNet (limits : List ℕ) (s : State ℕ SeatKnowledge) : Type 0 where
  pub enough : length limits ≤ length s.words
  pub within : (k : ℕ) → k < length limits → slice_index s.words k ≤ slice_index limits k
  pub knowledge : (j : ℕ) (v : SeatKnowledge) → get_elem? s.views j ≡ some v → Knows limits s.words v
  pub raised_apart : AreApart MayRaise s.views
  pub read_apart : AreApart MayRead s.views
  pub notes : (k : ℕ) → 0 < slice_index s.words (length limits + k) → ReaderHasLeft s.views k

-- the first seat raises all words, which are zero
abbrev pub first_knowledge : List ℕ → SeatKnowledge
first_knowledge limits =
    record { limits = limits; role = Raises 0 (length limits); seen = 0; looks = 0; left = 0; gone = false }

-- a role raises at least one word that nobody reads yet, and all of them are among so many
abbrev pub HasWords : ℕ → Role → Type 0
HasWords n (Raises from until) = (from < until) × (until ≤ n)
HasWords n (Delivers word) = ⊥
HasWords n (Reads word) = ⊥

-- of the words that a role raises the first
abbrev pub first_of : Role → Role
first_of (Raises from until) = Raises from (from + 1)
first_of (Delivers word) = Delivers word
first_of (Reads word) = Reads word

-- and the others
abbrev pub others_of : Role → Role
others_of (Raises from until) = Raises (from + 1) until
others_of (Delivers word) = Delivers word
others_of (Reads word) = Reads word

-- to raise the first of the words that a role raises, which another reads from now on
abbrev pub deliverer_of : Role → Role
deliverer_of (Raises from until) = Delivers from
deliverer_of (Delivers word) = Delivers word
deliverer_of (Reads word) = Reads word

-- to read the first of the words that a role raises
abbrev pub reader_of : Role → Role
reader_of (Raises from until) = Reads from
reader_of (Delivers word) = Delivers word
reader_of (Reads word) = Reads word

-- a `fetch_add` by the seat that raises the word: it found what the seat knew
abbrev pub delivered : Step ℕ → Me ℕ SeatKnowledge → ℕ → Me ℕ SeatKnowledge → Type 0
delivered st m n m' = (n ≡ m.0.seen) × (m' ≡ (record m.0 { seen = m.0.seen + 1 }, m.1))

-- a load by a seat that reads the word: it found no less than before, and no more than the limit
abbrev pub received : Step ℕ → Me ℕ SeatKnowledge → ℕ → Me ℕ SeatKnowledge → Type 0
received st m n m' =
    (m.0.seen ≤ n) × (n ≤ slice_index m.0.limits st.word)
    × (m' ≡ (record m.0 { seen = n; looks = m.0.looks + 1 }, m.1))

-- the note that belongs to the role's word
abbrev pub IsNoteOf : Step ℕ → SeatKnowledge → Type 0
IsNoteOf st v = st.word ≡ length v.limits + word_of v.role

-- a load of the note of the seat's word, by the seat that delivers it
abbrev pub looked : Step ℕ → Me ℕ SeatKnowledge → ℕ → Me ℕ SeatKnowledge → Type 0
looked st m n m' = IsNoteOf st m.0 × (m' ≡ (record m.0 { left = n; looks = m.0.looks + 1 }, m.1))

-- a store into the note of the seat's word, by a link that leaves
abbrev pub noted : Step ℕ → Me ℕ SeatKnowledge → ℕ → Me ℕ SeatKnowledge → Type 0
noted st m n m' = IsNoteOf st m.0 × (m' ≡ (record m.0 { gone = true }, m.1))

-- While a seat that reads a word stands, the note of the word is zero
abbrev pub IsUnnoted : Type 0
IsUnnoted =
    (limits : List ℕ) (s : State ℕ SeatKnowledge) (j : ℕ) (v : SeatKnowledge) (word : ℕ) → IsNet limits s
    → get_elem? s.views j ≡ some v → v.role ≡ Reads word → v.gone ≡ false
    → slice_index s.words (length limits + word) ≡ 0
