-- Inner: what each kind of atomic step tells its pass.
use Rattle.std.specs.Prelude.{◌≡◌, ◌≢◌, ℕ, ◌^◌, ◌<◌, ◌⊎◌, List, [], ◌∷◌, ◌++◌, true, false, Option, Some}
use Rattle.std.specs.Prelude.{None}
use Rattle.atomic_table.specs.Table.{Me, Step, rest}
use Rattle.reg_keys.specs.declared.Opening.{Opening}
use Rattle.timeout_mgr.specs.declared.view.WatchEntry.TheVariants.{Added, Tickled, Cancelled, Swept}
use Rattle.timeout_mgr.specs.declared.view.WatchName.{WatchName}
use Rattle.timeout_mgr.specs.declared.view.Shown.{Shown}
use Rattle.timeout_mgr.specs.declared.view.Shown.TheVariants.{Decided, Passed, Missed, Saw, Tried, Answered}
use Rattle.timeout_mgr.specs.declared.view.TimeCall.{TimeCall}
use Rattle.timeout_mgr.specs.declared.view.TimeCall.TheVariants.{Sweep}
use Rattle.timeout_mgr.specs.declared.view.Holding.TheVariants.{Idle, Holds}
use Rattle.timeout_mgr.specs.declared.view.TimeView.{TimeView}
use Rattle.timeout_mgr.specs.Shown.{active_word, inactive_word}
use Rattle.timeout_mgr.specs.Rule.{Tells}
use Rattle.timeout_mgr.specs.Calls.{list_of}

-- a pass's seat: what it knows, and the slots that are out with it
abbrev pub M : Type 0
M = Me (Option Opening) TimeView

-- the watch of this use of the slot
abbrev pub name : ℕ → ℕ → WatchName
name k m = record { slot = k; number = m }

-- a step that takes and gives no slot, and shows these items
abbrev pub HandShows : List Shown → M → M → Type 0
HandShows items m m' = Tells items m.0.hand m.0 m'.0 × (m'.1 ≡ m.1)

-- a step that takes the slot k, which had x, and leaves the word n
abbrev pub Takes : List Shown → ℕ → ℕ → Option Opening → M → M → Type 0
Takes items k n x m m' = Tells items (Holds k n) m.0 m'.0 × (m'.1 ≡ (k, x) ∷ m.1)

-- a load by an add
abbrev pub saw : Step (Option Opening) → M → ℕ → M → Type 0
saw st m n m' = HandShows (Saw st.word n ∷ []) m m'

-- a load after a join
abbrev pub joined_look : Step (Option Opening) → M → ℕ → M → Type 0
joined_look st m n m' = HandShows [] m m'

-- an exchange by an add from free to making
abbrev pub take_try : Step (Option Opening) → M → ℕ → M → Type 0
take_try st m n m' = ((n ≡ st.first) × Takes [] st.word st.second None m m')
    ⊎ ((n ≢ st.first) × HandShows (Saw st.word n ∷ []) m m')

-- a store by the pass that has the slot in its hand: the watch is added
abbrev pub added : Step (Option Opening) → M → ℕ → M → Type 0
added st m n m' = (u : ℕ) (o : Opening) → st.first ≡ active_word u → m.1 ≡ (st.word, Some o) ∷ rest m.1
    → Tells (Decided (Added (name st.word u) o) ∷ []) Idle m.0 m'.0 × (m'.1 ≡ rest m.1)

-- a store by the pass that has the slot in its hand: it is free again
abbrev pub freed : Step (Option Opening) → M → ℕ → M → Type 0
freed st m n m' = (m'.0 ≡ record m.0 { hand = Idle }) × (m'.1 ≡ rest m.1)

-- a load decides a tickle unless it finds the watch's own use inactive
abbrev pub tickle_look : ℕ → Step (Option Opening) → M → ℕ → M → Type 0
tickle_look u st m n m' =
    ((n ≡ active_word u) × HandShows (Decided (Tickled (name st.word u) true) ∷ []) m m')
    ⊎ ((n ≡ inactive_word u) × HandShows [] m m')
    ⊎ ((n ≢ active_word u) × (n ≢ inactive_word u)
    × HandShows (Decided (Tickled (name st.word u) false) ∷ []) m m')

-- an exchange from inactive to active decides it
abbrev pub tickle_try : ℕ → Step (Option Opening) → M → ℕ → M → Type 0
tickle_try u st m n m' = (((n ≡ inactive_word u) ⊎ (n ≡ active_word u))
    × HandShows (Decided (Tickled (name st.word u) true) ∷ []) m m')
    ⊎ ((n ≢ active_word u) × (n ≢ inactive_word u)
    × HandShows (Decided (Tickled (name st.word u) false) ∷ []) m m')

-- a load decides a cancel where the watch doesn't live
abbrev pub cancel_look : ℕ → Step (Option Opening) → M → ℕ → M → Type 0
cancel_look u st m n m' =
    (((n ≡ active_word u) ⊎ (n ≡ inactive_word u)) × HandShows (Saw st.word n ∷ []) m m')
    ⊎ ((n ≢ active_word u) × (n ≢ inactive_word u)
    × HandShows (Decided (Cancelled (name st.word u) false) ∷ []) m m')

-- an exchange to leaving decides it, unless it finds another word in which the watch lives
abbrev pub cancel_try : ℕ → Step (Option Opening) → M → ℕ → M → Type 0
cancel_try u st m n m' = ((n ≡ st.first)
    × ((o : Opening)
    × Takes (Decided (Cancelled (name st.word u) true) ∷ []) st.word st.second (Some o) m m'))
    ⊎ ((n ≢ st.first) × ((n ≡ active_word u) ⊎ (n ≡ inactive_word u))
    × HandShows (Tried st.word st.first n ∷ []) m m')
    ⊎ ((n ≢ active_word u) × (n ≢ inactive_word u)
    × HandShows (Decided (Cancelled (name st.word u) false) ∷ []) m m')

-- what a sweep's step shows besides what it shows of its slot, where it gave this opening: nothing, or at the
-- last slot the end of the sweep, by the openings that it gave before
abbrev pub end_of : Option (List Opening) → Option Opening → List Shown
end_of None given = []
end_of (Some before) given = Answered (Sweep (before ++ list_of given)) ∷ []

-- a load by a sweep decides where it finds neither active nor inactive
abbrev pub sweep_look : Option (List Opening) → Step (Option Opening) → M → ℕ → M → Type 0
sweep_look before st m n m' =
    (((u : ℕ) × (u < 2 ^ 40) × ((n ≡ active_word u) ⊎ (n ≡ inactive_word u))) × HandShows [] m m')
    ⊎ (((u : ℕ) → (n ≢ active_word u) × (n ≢ inactive_word u))
    × HandShows (end_of before None ++ Passed st.word n ∷ []) m m')

-- an exchange by a sweep from active to inactive
abbrev pub age_try : Option (List Opening) → ℕ → Step (Option Opening) → M → ℕ → M → Type 0
age_try before u st m n m' =
    ((n ≡ st.first) × HandShows (end_of before None ++ Decided (Swept (name st.word u) None) ∷ []) m m')
    ⊎ ((n ≢ st.first) × HandShows (end_of before None ++ Missed st.word st.first n ∷ []) m m')

-- an exchange by a sweep from inactive to leaving takes the opening
abbrev pub expire_try : Option (List Opening) → ℕ → Step (Option Opening) → M → ℕ → M → Type 0
expire_try before u st m n m' = ((n ≡ st.first)
    × ((o : Opening) × Takes (end_of before (Some o) ++ Decided (Swept (name st.word u) (Some o)) ∷ [])
    st.word st.second (Some o) m m'))
    ⊎ ((n ≢ st.first) × HandShows (end_of before None ++ Missed st.word st.first n ∷ []) m m')

-- a load that ends a call with this answer
abbrev pub answers : TimeCall → Step (Option Opening) → M → ℕ → M → Type 0
answers c st m n m' = HandShows (Answered c ∷ []) m m'
