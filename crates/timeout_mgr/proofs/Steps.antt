-- Each kind of step keeps the rule, and tells what it is to tell.
use Rattle.std.proofs.Common.{◌≡◌, ◌≢◌, ℕ, zero, suc, ◌+◌, ◌*◌, ◌^◌, ◌<◌, ◌≤◌, ◌⊎◌, inl, inr, ⊎_elim, List}
use Rattle.std.proofs.Common.{[], ◌∷◌, ◌++◌, length, set, get_or, Bool, true, false, refl, sym, ap, ◌∙◌}
use Rattle.std.proofs.Common.{subst, eqb, arith}
use Rattle.std.specs.Prelude.{Option, Some, None}
use Rattle.std.proofs.lemmas.List.{length-set}
use mathlib.Core.Option as maths
use mathlib.Core.Option.{some, some-injective, some-ne-none}
use lib.ListN.{get_elem?}
use native.Mathlib.Decide.{ℕ_discrete}
use prog.Atomic.{either}
use Rattle.atomic_table.specs.Table.{step, keeps, takes, gives, put_back, rest, Valid, stepped, Allows}
use Rattle.atomic_table.proofs.Lists.{set_here, set_else, exchanged}
use Rattle.reg_keys.specs.declared.Opening.{Opening}
use Rattle.timeout_mgr.specs.declared.view.WatchEntry.{WatchEntry}
use Rattle.timeout_mgr.specs.declared.view.WatchEntry.TheVariants.{Added, Tickled, Cancelled, Swept}
use Rattle.timeout_mgr.specs.declared.view.Shown.{Shown}
use Rattle.timeout_mgr.specs.declared.view.Shown.TheVariants.{Decided, Passed, Missed, Saw, Tried, Answered}
use Rattle.timeout_mgr.specs.declared.view.TimeCall.{TimeCall}
use Rattle.timeout_mgr.specs.declared.view.Holding.TheVariants.{Idle, Holds}
use Rattle.timeout_mgr.specs.declared.view.TimeView.{TimeView}
use Rattle.timeout_mgr.specs.Watches.{WatchLog, Lives, Ended, name_of, is_alive, after, status, IsWatchAnswer}
use Rattle.timeout_mgr.specs.Watches.{before, IsWatchHistory}
use Rattle.timeout_mgr.specs.Rule.{used, status_at, Home, At, IsPlace, HasLeft, Apart, IsKept, Tells}
use Rattle.timeout_mgr.specs.Passes.{entries_in}
use Rattle.timeout_mgr.specs.Word.{code_of}
use Rattle.timeout_mgr.specs.declared.word.SlotState.{SlotState}
use Rattle.timeout_mgr.specs.declared.word.SlotState.TheVariants.{Free, Making, Active, Inactive, Leaving}
use Rattle.timeout_mgr.proofs.Places.{still_at, else_at, moves, restage, known, dead, tickle_still}
use Rattle.timeout_mgr.proofs.Places.{cancel_still, next_use}
use Rattle.std.proofs.lemmas.Option.{same_Some}
use Rattle.atomic_table.specs.Table.{Act, carried_after}
use Rattle.timeout_mgr.specs.Plays.{M, name, HandShows, Takes, saw, joined_look, take_try, added, freed}
use Rattle.timeout_mgr.specs.Plays.{tickle_look, tickle_try, cancel_look, cancel_try, end_of, sweep_look}
use Rattle.timeout_mgr.specs.Plays.{age_try, expire_try, answers}
use Rattle.timeout_mgr.proofs.Keeps.{St, H, not_at, not_at_free, left_stays, IsFree, told_view, tells}
use Rattle.timeout_mgr.proofs.Keeps.{told_ends, told_kept, shows, changes}

some_there : {A : Type 0} (l : List A) (k : ℕ) → k < length l → (a : A) × (get_elem? l k ≡ some a)
some_there [] k h = absurd (omega arith)
some_there (x ∷ xs) zero h = (x, refl)
some_there (x ∷ xs) (suc k) h = some_there xs k (omega arith)

at_get : (l : List ℕ) (k : ℕ) → k < length l → get_elem? l k ≡ some (get_or l k 0)
at_get [] k h = absurd (omega arith)
at_get (x ∷ xs) zero h = refl
at_get (x ∷ xs) (suc k) h = at_get xs k (omega arith)

-- what a step is to show of a table, where the word k becomes x
abbrev Out : St → ℕ → M → ℕ → (ℕ → M → Type 0) → ℕ → Type 0
Out s id me k then x = (w : TimeView) × (a : Act (Option Opening)) × Valid s.homes me.1 a
    × IsKept (stepped s k x id me.1 w a) × then (get_or s.words k 0) (w, carried_after me.1 a)

-- the end of a sweep is no entry
ends_silent : (before : Option (List Opening)) (given : Option Opening) (items : List Shown)
    → entries_in (end_of before given ++ items) ≡ entries_in items
ends_silent None given items = refl
ends_silent (Some out) given items = refl

live_of : Bool → ℕ
live_of true = 1
live_of false = 0

module _ (s : St) (r : IsKept s) (id : ℕ) (me : M) (at : get_elem? s.views id ≡ some me.0) (k : ℕ) (inside : k
    < length s.homes) where
  abbrev v0 : TimeView
  v0 = me.0

  abbrev n : ℕ
  n = get_or s.words k 0

  word_at : get_elem? s.words k ≡ some n
  word_at = let long = r.long in at_get s.words k (omega (arith, long, inside))

  home_at : (h : H) × (get_elem? s.homes k ≡ some h)
  home_at = some_there s.homes k inside

  place : IsPlace r.log k n home_at.0
  place = r.places k n home_at.0 word_at home_at.1

  -- a step that shows items with no deed
  quiet : (items : List Shown) → entries_in items ≡ [] → (then : ℕ → M → Type 0)
      → (HandShows items me (told_view r.log items v0.hand v0, me.1)
      → then n (told_view r.log items v0.hand v0, me.1))
      → Out s id me k then n
  quiet items none then tell = let legal : IsWatchHistory (entries_in items ++ r.log) =
      subst (λ (l : WatchLog). IsWatchHistory (l ++ r.log)) (sym none) r.legal in (
        told_view r.log items v0.hand v0,
        keeps,
        tt,
        shows s r id v0 at k items legal
            (λ j m h p. subst (λ (l : WatchLog). IsPlace (l ++ r.log) j m h) (sym none) p),
        tell (tells s r id v0 at items v0.hand legal, refl),
      )

  -- a step that decides something without changing how it stands with any watch
  decides : (d : WatchEntry) → IsWatchAnswer d (before d r.log) → after d (before d r.log) ≡ before d r.log
      → (then : ℕ → M → Type 0)
      → (HandShows (Decided d ∷ []) me (told_view r.log (Decided d ∷ []) v0.hand v0, me.1)
      → then n (told_view r.log (Decided d ∷ []) v0.hand v0, me.1)) → Out s id me k then n
  decides d fits still then tell = (
    told_view r.log (Decided d ∷ []) v0.hand v0,
    keeps,
    tt,
    shows s r id v0 at k (Decided d ∷ []) (
      fits,
      r.legal,
    ) (λ j m h p. (p.0, p.1, p.2, still_at r.log j m h p.0 p.1 p.2 p.3 d still)),
    tell (tells s r id v0 at (Decided d ∷ []) v0.hand (fits, r.legal), refl),
  )

  -- a step that decides something of the watch of this slot, and changes its word alone
  turns : (u : ℕ) (c : SlotState) (o : Opening) → At r.log k n home_at.0 u c o → IsFree n → (d : WatchEntry)
      → (name_of d).slot ≡ k → (name_of d).number ≡ u → IsWatchAnswer d (before d r.log)
      → (c' : SlotState) (n' : ℕ)
      → n' ≡ 8 * u + code_of c' → u + used c' ≤ 2 ^ 40
      → after d (status_at c o) ≡ status_at c' o → ((h : H) → Home c o h → Home c' o h) → (items : List Shown)
      → entries_in items ≡ d ∷ [] → (then : ℕ → M → Type 0)
      → (HandShows items me (told_view r.log items v0.hand v0, me.1)
      → then n (told_view r.log items v0.hand v0, me.1)) → Out s id me k then n'
  turns u c o a isfree d sl nu fits c' n' w small e home items one then tell =
      let legal : IsWatchHistory (entries_in items ++ r.log) =
      subst (λ (l : WatchLog). IsWatchHistory (l ++ r.log)) (sym one) (fits, r.legal) in (
        told_view r.log items v0.hand v0,
        keeps,
        tt,
        changes s r id v0 at k n' s.homes items (told_view r.log items v0.hand v0) legal refl (λ j h ne x. x)
            (λ j m h ne p. subst (λ (l : WatchLog). IsPlace (l ++ r.log) j m h) (sym one)
            (p.0, p.1, p.2, else_at r.log j m h p.0 p.1 p.2 p.3 d (λ z. ne (sym z ∙ sl))))
            (λ h x. subst (λ (l : WatchLog). IsPlace (l ++ r.log) k n' h) (sym one) (
              u,
              c',
              o,
              moves r.log k n home_at.0 u c o a d sl nu c' o n' h w small e
                  (home h (subst (Home c o) (some-injective home_at.0 h (sym home_at.1 ∙ x)) a.home)),
            ))
            (told_ends s r id v0 at items v0.hand) (told_kept s r id v0 at items)
            (left_stays s.words k n' v0.hand
            (not_at_free s.words k n v0.hand word_at isfree (r.hands id v0 at))
            (r.hands id v0 at))
            (λ j v ne x. not_at_free s.words k n v.hand word_at isfree (r.hands j v x)) (inl refl),
        tell (tells s r id v0 at items v0.hand legal, refl),
      )

  -- a step that takes the slot, with something decided of its watch
  takes_slot : (items : List Shown) → IsWatchHistory (entries_in items ++ r.log)
      → ((j m : ℕ) (h : H) → j ≢ k → IsPlace r.log j m h → IsPlace (entries_in items ++ r.log) j m h)
      → IsFree n
      → (n' : ℕ) → IsPlace (entries_in items ++ r.log) k n' maths.none
      → (u : ℕ) × ((n' ≡ 8 * u + 1) ⊎ (n' ≡ 8 * u + 4)) → (x : Option Opening) → home_at.0 ≡ some x
      → (then : ℕ → M → Type 0)
      → (Takes items k n' x me (told_view r.log items (Holds k n') v0, (k, x) ∷ me.1)
      → then n (told_view r.log items (Holds k n') v0, (k, x) ∷ me.1)) → Out s id me k then n'
  takes_slot items legal places isfree n' here held x home then tell = (
    told_view r.log items (Holds k n') v0,
    takes k x,
    home_at.1 ∙ ap some home,
    changes s r id v0 at k n' (set s.homes k maths.none) items (told_view r.log items (Holds k n') v0) legal
        (length-set s.homes k maths.none)
        (λ j h ne y. sym (set_else s.homes k j maths.none ne) ∙ y) places
        (λ h y. subst (IsPlace (entries_in items ++ r.log) k n')
        (some-injective maths.none h (sym (set_here s.homes k maths.none inside) ∙ y)) here)
        (told_ends s r id v0 at items (Holds k n')) (told_kept s r id v0 at items)
        (set_here s.words k n' (let long = r.long in omega (arith, long, inside)), held)
        (λ j v ne y. not_at_free s.words k n v.hand word_at isfree (r.hands j v y)) (inr (inr (n', refl))),
    tell (tells s r id v0 at items (Holds k n') legal, refl),
  )

tickles_live : (log : WatchLog) (k n : ℕ) (h : H) (u : ℕ) (c : SlotState) (o : Opening) → At log k n h u c o
    → status k u log ≡ Lives o false → (a : Bool)
    → after (Tickled (name k u) a) (status k u log) ≡ status k u log
tickles_live log k n h u c o at e a = ap (after (Tickled (name k u) a)) e ∙ sym e

module _ (slots id : ℕ) (me : M) (k : ℕ) (inside : k < slots) where
  within_homes : (s : St) → length s.homes ≡ slots → k < length s.homes
  within_homes s len = omega (arith, len, inside)

  pub sees : Allows IsKept slots id me k (λ n. n) (saw (step slots k 0 0 maths.none) me)
  sees s r len at small =
      quiet s r id me at k (within_homes s len) (Saw k (get_or s.words k 0) ∷ []) refl
      (saw (step slots k 0 0 maths.none) me) (λ t. t)

  pub compares : Allows IsKept slots id me k (λ n. n) (joined_look (step slots k 0 0 maths.none) me)
  compares s r len at small =
      quiet s r id me at k (within_homes s len)
      [] refl (joined_look (step slots k 0 0 maths.none) me) (λ t. t)

  pub ends_call : (c : TimeCall)
      → Allows IsKept slots id me k (λ n. n) (answers c (step slots k 0 0 maths.none) me)
  ends_call c s r len at small =
      quiet s r id me at k (within_homes s len) (Answered c ∷ []) refl
      (answers c (step slots k 0 0 maths.none) me)
      (λ t. t)

  pub tickle_looks : (u : ℕ)
      → Allows IsKept slots id me k (λ n. n) (tickle_look u (step slots k 0 0 maths.none) me)
  tickle_looks u s r len at small = let i = within_homes s len in
      let n : ℕ = get_or s.words k 0 in
      let p = place s r id me at k i in
      let h : H = (home_at s r id me at k i).0 in
      let then : ℕ → M → Type 0 = tickle_look u (step slots k 0 0 maths.none) me in
      elim (ℕ_discrete n (8 * u + 2)) [
        | yes e ↦ let a = known r.log k n h p u Active e in
            decides s r id me at k i (Tickled (name k u) true) (sym (ap is_alive a.1.now))
            (tickles_live r.log k n h u Active a.0 a.1 a.1.now true) then (λ t. inl (e, t))
        | no x ↦ elim (ℕ_discrete n (8 * u + 3)) [
          | yes e ↦ quiet s r id me at k i [] refl then (λ t. inr (inl (e, t)))
          | no y ↦ let z = dead r.log k n h p u x y in
              decides s r id me at k i (Tickled (name k u) false) (sym z)
              (tickle_still (name k u) false (status k u r.log) z) then (λ t. inr (inr (x, y, t)))
        ]
      ]

  pub tickle_tries : (u old new : ℕ) → old ≡ 8 * u + 3 → new ≡ 8 * u + 2
      → Allows IsKept slots id me k (λ n. either (eqb n old) new n)
      (tickle_try u (step slots k old new maths.none) me)
  tickle_tries u old new oe ne s r len at small = let i = within_homes s len in
      let n : ℕ = get_or s.words k 0 in
      let p = place s r id me at k i in
      let h : H = (home_at s r id me at k i).0 in
      let then : ℕ → M → Type 0 = tickle_try u (step slots k old new maths.none) me in
      exchanged n old new (Out s id me k then)
      (λ hit.
      let e : n ≡ 8 * u + 3 = hit ∙ oe in
      let a = known r.log k n h p u Inactive e in
      let sm = a.1.small in
      turns s r id me at k i u Inactive a.0 a.1 (λ v. (omega (arith, e), omega (arith, e)))
      (Tickled (name k u) true) refl refl (sym (ap is_alive a.1.now)) Active new ne sm refl (λ h x. x)
      (Decided (Tickled (name k u) true) ∷ []) refl then
      (λ t. inl (inl e, t)))
      (λ miss. elim (ℕ_discrete n (8 * u + 2)) [
        | yes e ↦ let a = known r.log k n h p u Active e in
            decides s r id me at k i (Tickled (name k u) true) (sym (ap is_alive a.1.now))
            (tickles_live r.log k n h u Active a.0 a.1 a.1.now true) then (λ t. inl (inr e, t))
        | no x ↦
            let y : n ≢ 8 * u + 3 = λ z. miss (z ∙ sym oe) in
            let z = dead r.log k n h p u x y in
            decides s r id me at k i (Tickled (name k u) false) (sym z)
            (tickle_still (name k u) false (status k u r.log) z) then (λ t. inr (x, y, t))
      ])

  pub cancel_looks : (u : ℕ)
      → Allows IsKept slots id me k (λ n. n) (cancel_look u (step slots k 0 0 maths.none) me)
  cancel_looks u s r len at small = let i = within_homes s len in
      let n : ℕ = get_or s.words k 0 in
      let p = place s r id me at k i in
      let h : H = (home_at s r id me at k i).0 in
      let then : ℕ → M → Type 0 = cancel_look u (step slots k 0 0 maths.none) me in
      elim (ℕ_discrete n (8 * u + 2)) [
        | yes e ↦ quiet s r id me at k i (Saw k n ∷ []) refl then (λ t. inl (inl e, t))
        | no x ↦ elim (ℕ_discrete n (8 * u + 3)) [
          | yes e ↦ quiet s r id me at k i (Saw k n ∷ []) refl then (λ t. inl (inr e, t))
          | no y ↦ let z = dead r.log k n h p u x y in
              decides s r id me at k i (Cancelled (name k u) false) (sym z)
              (cancel_still (name k u) false (status k u r.log) z) then (λ t. inr (x, y, t))
        ]
      ]

  -- the watch of this use leaves, with its opening
  leaves : (s : St) (r : IsKept s) (at : get_elem? s.views id ≡ some me.0) (i : k
      < length s.homes) (u : ℕ) (c : SlotState) (o : Opening) → let n = get_or s.words k 0 in
      At r.log k n (home_at s r id me at k i).0 u c o
      → IsFree n → (home_at s r id me at k i).0 ≡ some (Some o) → (d : WatchEntry) → (name_of d).slot ≡ k
      → (name_of d).number ≡ u → IsWatchAnswer d (before d r.log) → after d (status_at c o) ≡ Ended
      → u + 1 ≤ 2 ^ 40
      → (new : ℕ) → new ≡ 8 * u + 4 → (items : List Shown)
      → entries_in items ≡ d ∷ [] → (then : ℕ → M → Type 0)
      → (Takes items k new (Some o) me (told_view r.log items (Holds k new) me.0, (k, Some o) ∷ me.1)
      → then n (told_view r.log items (Holds k new) me.0, (k, Some o) ∷ me.1)) → Out s id me k then new
  leaves s r at i u c o a f home d sl nu fits e sm new ne items one then tell =
      takes_slot s r id me at k i items
      (subst (λ (l : WatchLog). IsWatchHistory (l ++ r.log)) (sym one) (fits, r.legal))
      (λ j m h off p. subst (λ (l : WatchLog). IsPlace (l ++ r.log) j m h) (sym one)
      (p.0, p.1, p.2, else_at r.log j m h p.0 p.1 p.2 p.3 d (λ z. off (sym z ∙ sl)))) f new
      (subst (λ (l : WatchLog). IsPlace (l ++ r.log) k new maths.none) (sym one) (
        u,
        Leaving,
        o,
        moves r.log k (get_or s.words k 0)
            (home_at s r id me at k i).0 u c o a d sl nu Leaving o new maths.none ne sm e tt,
      )) (
        u,
        inr ne,
      ) (Some o) home then tell

  pub cancel_tries : (u old new : ℕ) → (old ≡ 8 * u + 2) ⊎ (old ≡ 8 * u + 3) → new ≡ 8 * u + 4
      → Allows IsKept slots id me k (λ n. either (eqb n old) new n)
      (cancel_try u (step slots k old new maths.none) me)
  cancel_tries u old new oe ne s r len at small = let i = within_homes s len in
      let n : ℕ = get_or s.words k 0 in
      let p = place s r id me at k i in
      let h : H = (home_at s r id me at k i).0 in
      let then : ℕ → M → Type 0 = cancel_try u (step slots k old new maths.none) me in
      exchanged n old new (Out s id me k then)
      (λ hit. ⊎_elim
      (λ oe2.
      let e : n ≡ 8 * u + 2 = hit ∙ oe2 in
      let a = known r.log k n h p u Active e in
      leaves s r at i u Active a.0 a.1 (λ v. (omega (arith, e), omega (arith, e))) a.1.home
      (Cancelled (name k u) true) refl refl (sym (ap is_alive a.1.now)) refl a.1.small new ne
      (Decided (Cancelled (name k u) true) ∷ []) refl then
      (λ t. inl (hit, (a.0, t))))
      (λ oe3.
      let e : n ≡ 8 * u + 3 = hit ∙ oe3 in
      let a = known r.log k n h p u Inactive e in
      leaves s r at i u Inactive a.0 a.1 (λ v. (omega (arith, e), omega (arith, e))) a.1.home
      (Cancelled (name k u) true) refl refl (sym (ap is_alive a.1.now)) refl a.1.small new ne
      (Decided (Cancelled (name k u) true) ∷ []) refl then
      (λ t. inl (hit, (a.0, t))))
      oe)
      (λ miss. elim (ℕ_discrete n (8 * u + 2)) [
        | yes e ↦ quiet s r id me at k i (Tried k old n ∷ []) refl then (λ t. inr (inl (miss, inl e, t)))
        | no x ↦ elim (ℕ_discrete n (8 * u + 3)) [
          | yes e ↦ quiet s r id me at k i (Tried k old n ∷ []) refl then (λ t. inr (inl (miss, inr e, t)))
          | no y ↦ let z = dead r.log k n h p u x y in
              decides s r id me at k i (Cancelled (name k u) false) (sym z)
              (cancel_still (name k u) false (status k u r.log) z) then (λ t. inr (inr (x, y, t)))
        ]
      ])

  pub take_tries : (u old new : ℕ) → old ≡ 8 * u → u < 2 ^ 40 → new ≡ 8 * u + 1
      → Allows IsKept slots id me k (λ n. either (eqb n old) new n)
      (take_try (step slots k old new maths.none) me)
  take_tries u old new oe sm ne s r len at small = let i = within_homes s len in
      let n : ℕ = get_or s.words k 0 in
      let p = place s r id me at k i in
      let h : H = (home_at s r id me at k i).0 in
      let then : ℕ → M → Type 0 = take_try (step slots k old new maths.none) me in
      exchanged n old new (Out s id me k then)
      (λ hit.
      let e : n ≡ 8 * u + 0 = omega (arith, hit, oe) in
      let a = known r.log k n h p u Free e in
      takes_slot s r id me at k i [] r.legal (λ j m g off q. q)
      (λ v. (omega (arith, e), omega (arith, e))) new (
        u,
        Making,
        a.0,
        restage r.log k n h u Free a.0 a.1 Making new maths.none ne (omega (arith, sm)) refl tt,
      ) (
        u,
        inl ne,
      ) None a.1.home then
      (λ t. inl (hit, t)))
      (λ miss. quiet s r id me at k i (Saw k n ∷ []) refl then (λ t. inr (miss, t)))

  pub ages : (before : Option (List Opening)) (u old new : ℕ) → old ≡ 8 * u + 2 → new ≡ 8 * u + 3
      → Allows IsKept slots id me k (λ n. either (eqb n old) new n)
      (age_try before u (step slots k old new maths.none) me)
  ages before u old new oe ne s r len at small = let i = within_homes s len in
      let n : ℕ = get_or s.words k 0 in
      let p = place s r id me at k i in
      let h : H = (home_at s r id me at k i).0 in
      let then : ℕ → M → Type 0 = age_try before u (step slots k old new maths.none) me in
      exchanged n old new (Out s id me k then)
      (λ hit.
      let e : n ≡ 8 * u + 2 = hit ∙ oe in
      let a = known r.log k n h p u Active e in
      let sm = a.1.small in
      turns s r id me at k i u Active a.0 a.1 (λ v. (omega (arith, e), omega (arith, e)))
      (Swept (name k u) None) refl refl (a.0, a.1.now) Inactive new ne sm refl (λ h x. x)
      (end_of before None ++ Decided (Swept (name k u) None) ∷ []) (ends_silent before None _) then
      (λ t. inl (hit, t)))
      (λ miss.
      quiet s r id me at k i (end_of before None ++ Missed k old n ∷ []) (ends_silent before None _) then
      (λ t. inr (miss, t)))

  pub expires : (before : Option (List Opening)) (u old new : ℕ) → old ≡ 8 * u + 3 → new ≡ 8 * u + 4
      → Allows IsKept slots id me k (λ n. either (eqb n old) new n)
      (expire_try before u (step slots k old new maths.none) me)
  expires before u old new oe ne s r len at small = let i = within_homes s len in
      let n : ℕ = get_or s.words k 0 in
      let p = place s r id me at k i in
      let h : H = (home_at s r id me at k i).0 in
      let then : ℕ → M → Type 0 = expire_try before u (step slots k old new maths.none) me in
      exchanged n old new (Out s id me k then)
      (λ hit.
      let e : n ≡ 8 * u + 3 = hit ∙ oe in
      let a = known r.log k n h p u Inactive e in
      leaves s r at i u Inactive a.0 a.1 (λ v. (omega (arith, e), omega (arith, e))) a.1.home
      (Swept (name k u) (Some a.0)) refl refl a.1.now refl a.1.small new ne
      (end_of before (Some a.0) ++ Decided (Swept (name k u) (Some a.0)) ∷ [])
      (ends_silent before (Some a.0) _) then
      (λ t. inl (hit, (a.0, t))))
      (λ miss.
      quiet s r id me at k i (end_of before None ++ Missed k old n ∷ []) (ends_silent before None _) then
      (λ t. inr (miss, t)))

  -- a store by the pass that has the slot in its hand, which makes a watch
  pub births : (u new : ℕ) (o : Opening) → me.0.hand ≡ Holds k (8 * u + 1) → me.1 ≡ (k, Some o) ∷ rest me.1
      → new ≡ 8 * u + 2
      → Allows IsKept slots id me k (λ _. new) (λ _. added (step slots k new 0 maths.none) me new)
  births u new o hand out ne s r len at small = let i = within_homes s len in
      let n : ℕ = get_or s.words k 0 in
      let p = place s r id me at k i in
      let h : H = (home_at s r id me at k i).0 in
      let held = subst (HasLeft s.words) hand (r.hands id me.0 at) in
      let e : n ≡ 8 * u + 1 = some-injective n (8 * u + 1) (sym (word_at s r id me at k i) ∙ held.0) in
      let a = known r.log k n h p u Making e in
      let sm = a.1.small in
      let d : WatchEntry = Added (name k u) o in
      let hs : List H = set s.homes k (some (Some o)) in
      let w : TimeView = told_view r.log (Decided d ∷ []) Idle me.0 in (
        w,
        gives,
        tt,
        subst
            (λ (l : List H). IsKept record { words = set s.words k new; homes = l; views = set s.views id w })
            (ap (put_back s.homes) (sym out))
            (changes s r id me.0 at k new hs (Decided d ∷ []) w (
              a.1.now,
              r.legal,
            ) (length-set s.homes k (some (Some o)))
            (λ j g off y. sym (set_else s.homes k j (some (Some o)) off) ∙ y)
            (λ j m g off q. (q.0, q.1, q.2, else_at r.log j m g q.0 q.1 q.2 q.3 d (λ z. off (sym z))))
            (λ g y. (
              u,
              Active,
              o,
              moves r.log k n h u Making a.0 a.1 d refl refl Active o new g ne sm refl
                  (sym (some-injective (some (Some o)) g (sym (set_here s.homes k (some (Some o)) i) ∙ y))),
            ))
            (told_ends s r id me.0 at (Decided d ∷ []) Idle) (told_kept s r id me.0 at (Decided d ∷ [])) tt
            (λ j v off y.
            not_at k (8 * u + 1) v.hand (subst (Apart v.hand) hand (r.apart j id v me.0 off y at)))
            (inr (inl refl))),
        λ u' o' is out'. let same : u ≡ u' = omega (arith, ne, is) in
            let said : o ≡ o' = same_Some o o' (ap (head_or None) (sym out ∙ out')) in (
              subst (λ (x : ℕ × Opening). Tells (Decided (Added (name k x.0) x.1) ∷ []) Idle me.0 w)
                  (λ j. (same j, said j)) (tells s r id me.0 at (Decided d ∷ []) Idle (a.1.now, r.legal)),
              refl,
            ),
      )
    where
      head_or : Option Opening → List (ℕ × Option Opening) → Option Opening
      head_or x [] = x
      head_or x (y ∷ ys) = y.1

  -- a store by the pass that has the slot in its hand, which frees it
  pub frees : (u new : ℕ) → me.0.hand ≡ Holds k (8 * u + 4) → me.1 ≡ (k, None) ∷ rest me.1 → new ≡ 8 * (u + 1)
      → Allows IsKept slots id me k (λ _. new) (λ _. freed (step slots k new 0 maths.none) me new)
  frees u new hand out ne s r len at small = let i = within_homes s len in
      let n : ℕ = get_or s.words k 0 in
      let p = place s r id me at k i in
      let h : H = (home_at s r id me at k i).0 in
      let held = subst (HasLeft s.words) hand (r.hands id me.0 at) in
      let e : n ≡ 8 * u + 4 = some-injective n (8 * u + 4) (sym (word_at s r id me at k i) ∙ held.0) in
      let a = known r.log k n h p u Leaving e in
      let sm = a.1.small in
      let hs : List H = set s.homes k (some None) in
      let w : TimeView = record me.0 { hand = Idle } in (
        w,
        gives,
        tt,
        subst
            (λ (l : List H). IsKept record { words = set s.words k new; homes = l; views = set s.views id w })
            (ap (put_back s.homes) (sym out))
            (changes s r id me.0 at k new hs [] w r.legal (length-set s.homes k (some None))
            (λ j g off y. sym (set_else s.homes k j (some None) off) ∙ y)
            (λ j m g off q. q)
            (λ g y. (
              u + 1,
              Free,
              a.0,
              next_use r.log k n h u a.0 a.1 new g ne
                  (sym (some-injective (some None) g (sym (set_here s.homes k (some None) i) ∙ y))),
            ))
            (r.seen id me.0 at) (λ f. omega arith) tt
            (λ j v off y.
            not_at k (8 * u + 4) v.hand (subst (Apart v.hand) hand (r.apart j id v me.0 off y at)))
            (inr (inl refl))),
        (refl, refl),
      )

  pub sweep_looks : (before : Option (List Opening))
      → Allows IsKept slots id me k (λ n. n) (sweep_look before (step slots k 0 0 maths.none) me)
  sweep_looks before s r len at small = let i = within_homes s len in
      let p = place s r id me at k i in
      by_stage before s r at i p.0 p.1 p.2 p.3
    where
      by_stage : (before : Option (List Opening)) (s : St) (r : IsKept s)
          (at : get_elem? s.views id ≡ some me.0) (i : k
          < length s.homes) (u : ℕ) (c : SlotState) (o : Opening)
          → At r.log k (get_or s.words k 0) (home_at s r id me at k i).0 u c o
          → Out s id me k (sweep_look before (step slots k 0 0 maths.none) me) (get_or s.words k 0)
      by_stage before s r at i u Free o a = let e = a.word in
          quiet s r id me at k i
          (end_of before None ++ Passed k (get_or s.words k 0) ∷ []) (ends_silent before None _)
          (sweep_look before (step slots k 0 0 maths.none) me)
          (λ t. inr ((λ v. ((λ z. omega (arith, e, z)), (λ z. omega (arith, e, z)))), t))
      by_stage before s r at i u Making o a = let e = a.word in
          quiet s r id me at k i
          (end_of before None ++ Passed k (get_or s.words k 0) ∷ []) (ends_silent before None _)
          (sweep_look before (step slots k 0 0 maths.none) me)
          (λ t. inr ((λ v. ((λ z. omega (arith, e, z)), (λ z. omega (arith, e, z)))), t))
      by_stage before s r at i u Active o a = let sm = a.small in
          quiet s r id me at k i [] refl (sweep_look before (step slots k 0 0 maths.none) me)
          (λ t. inl ((u, omega (arith, sm), inl a.word), t))
      by_stage before s r at i u Inactive o a = let sm = a.small in
          quiet s r id me at k i [] refl (sweep_look before (step slots k 0 0 maths.none) me)
          (λ t. inl ((u, omega (arith, sm), inr a.word), t))
      by_stage before s r at i u Leaving o a = let e = a.word in
          quiet s r id me at k i
          (end_of before None ++ Passed k (get_or s.words k 0) ∷ []) (ends_silent before None _)
          (sweep_look before (step slots k 0 0 maths.none) me)
          (λ t. inr ((λ v. ((λ z. omega (arith, e, z)), (λ z. omega (arith, e, z)))), t))
