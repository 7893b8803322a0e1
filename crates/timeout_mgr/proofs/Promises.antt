-- What holds of every history of watches, and of what a full table shows.
use Rattle.std.proofs.Common.{◌≡◌, ℕ, zero, suc, ◌+◌, ◌*◌, ◌/◌, ◌%◌, ◌<◌, ◌≤◌, ◌⊎◌, inl, inr, ⊎_elim, List}
use Rattle.std.proofs.Common.{[], ◌∷◌, ◌++◌, Bool, true, false, refl, sym, ap, ◌∙◌, subst, arith}
use Rattle.std.specs.Prelude.{Option, Some, None, All, if◌then◌else◌}
use Rattle.std.proofs.lemmas.List.{append_assoc}
use Rattle.std.proofs.lemmas.List.Elements.{All-nil, All-cons}
use native.Mathlib.Decide.{ℕ_discrete}
use Rattle.reg_keys.specs.declared.Opening.{Opening}
use Rattle.reg_keys.specs.Tests.{one_if, total, IsIn}
use Rattle.timeout_mgr.specs.declared.view.WatchName.{WatchName}
use Rattle.timeout_mgr.specs.declared.view.WatchEntry.{WatchEntry}
use Rattle.timeout_mgr.specs.declared.view.WatchEntry.TheVariants.{Added, Tickled, Cancelled, Swept}
use Rattle.timeout_mgr.specs.declared.view.Shown.{Shown}
use Rattle.timeout_mgr.specs.Watches.{WatchLog, Status, Unborn, Lives, Ended, name_of, is_of, is_alive, after}
use Rattle.timeout_mgr.specs.Watches.{watch_entries, status_after, status, before, IsWatchAnswer}
use Rattle.timeout_mgr.specs.Watches.{IsWatchHistory}
use Rattle.timeout_mgr.specs.Passes.{entry_of, entries_in}
use Rattle.timeout_mgr.specs.Calls.{AreTaken, IsTakenAt, slot_at, SweptSlot, list_of, IsRound}
use Rattle.timeout_mgr.specs.Promises.{adds, ends, gives, EndsOnce, IsGone, WasUnborn, StaysEnded, ShowsTaken}
use Rattle.timeout_mgr.proofs.Places.{of_here, of_slot, of_number}

module _ (k m : ℕ) (d : WatchEntry) (past : WatchLog) where
  abbrev entries_if : Bool → List WatchEntry
  entries_if b = (if b then d ∷ watch_entries k m past else watch_entries k m past)

  abbrev Test : Bool → Type 0
  Test b = is_of k m (name_of d) ≡ b

  abbrev pub Same : Type 0
  Same = ((name_of d).slot ≡ k) × ((name_of d).number ≡ m)

  -- an entry is of another watch, or of this one, and then its answer is the one that this watch calls for
  pub of_which : (P : Type 0) → IsWatchAnswer d (before d past) → (Test false → P)
      → (Test true → Same → IsWatchAnswer d (status k m past) → P) → P
  of_which P a other this = elim (ℕ_discrete (name_of d).slot k) [
    | no s ↦ other (of_slot k m (name_of d) s)
    | yes s ↦ elim (ℕ_discrete (name_of d).number m) [
      | no n ↦ other (of_number k m (name_of d) s n)
      | yes n ↦ this (of_here k m (name_of d) s n) (
        s,
        n,
      ) (subst (λ (x : ℕ × ℕ). IsWatchAnswer d (status x.0 x.1 past)) (λ i. (s i, n i)) a)
    ]
  ]

  pub entries_are : (b : Bool) → Test b → watch_entries k m (d ∷ past) ≡ entries_if b
  entries_are b e = ap entries_if e

  pub status_is : (b : Bool) → Test b → status k m (d ∷ past) ≡ status_after (entries_if b)
  status_is b e = ap (λ (x : Bool). status_after (entries_if x)) e

-- how many adds, and how many ends, a watch has that stands so
abbrev adds_at : Status → ℕ
adds_at Unborn = 0
adds_at (Lives o s) = 1
adds_at Ended = 1

abbrev ends_at : Status → ℕ
ends_at Unborn = 0
ends_at (Lives o s) = 0
ends_at Ended = 1

counts_this : (k m : ℕ) (d : WatchEntry) (s : Status) → is_of k m (name_of d) ≡ true → IsWatchAnswer d s
    → (adds k m d + adds_at s ≡ adds_at (after d s)) × (ends k m d + ends_at s ≡ ends_at (after d s))
counts_this k m (Added x o) s e a = let b = ap one_if e in
    let c = ap adds_at a in
    let f = ap ends_at a in
    (omega (arith, b, c), omega (arith, f))
counts_this k m (Tickled x alive) Unborn e a = (refl, refl)
counts_this k m (Tickled x alive) (Lives o s) e a = (refl, refl)
counts_this k m (Tickled x alive) Ended e a = (refl, refl)
counts_this k m (Cancelled x true) Unborn e a = let z : true ≡ false = a in cc
counts_this k m (Cancelled x true) (Lives o s) e a = let b = ap one_if e in (refl, omega (arith, b))
counts_this k m (Cancelled x true) Ended e a = let z : true ≡ false = a in cc
counts_this k m (Cancelled x false) Unborn e a = (refl, refl)
counts_this k m (Cancelled x false) (Lives o s) e a = let z : false ≡ true = a in cc
counts_this k m (Cancelled x false) Ended e a = (refl, refl)
counts_this k m (Swept x None) Unborn e a = let z = a.1 in cc
counts_this k m (Swept x None) (Lives o true) e a = let z = a.1 in cc
counts_this k m (Swept x None) (Lives o false) e a = (refl, refl)
counts_this k m (Swept x None) Ended e a = let z = a.1 in cc
counts_this k m (Swept x (Some p)) Unborn e a = cc
counts_this k m (Swept x (Some p)) (Lives o true) e a = let b = ap one_if e in (refl, omega (arith, b))
counts_this k m (Swept x (Some p)) (Lives o false) e a = cc
counts_this k m (Swept x (Some p)) Ended e a = cc

counts_other : (k m : ℕ) (d : WatchEntry) → is_of k m (name_of d) ≡ false
    → (adds k m d ≡ 0) × (ends k m d ≡ 0)
counts_other k m (Added x o) e = (ap one_if e, refl)
counts_other k m (Tickled x alive) e = (refl, refl)
counts_other k m (Cancelled x true) e = (refl, ap one_if e)
counts_other k m (Cancelled x false) e = (refl, refl)
counts_other k m (Swept x None) e = (refl, refl)
counts_other k m (Swept x (Some o)) e = (refl, ap one_if e)

counted : (k m : ℕ) (log : WatchLog) → IsWatchHistory log
    → (total (adds k m) log ≡ adds_at (status k m log)) × (total (ends k m) log ≡ ends_at (status k m log))
counted k m [] l = (refl, refl)
counted k m (d ∷ past) l = let r = counted k m past l.1 in
    of_which k m d past ((total (adds k m) (d ∷ past) ≡ adds_at (status k m (d ∷ past)))
    × (total (ends k m) (d ∷ past) ≡ ends_at (status k m (d ∷ past)))) l.0
    (λ t.
    let c = counts_other k m d t in
    let s = status_is k m d past false t in
    let x = ap adds_at s in
    let y = ap ends_at s in (omega (arith, r, c, x), omega (arith, r, c, y)))
    (λ t same a.
    let c = counts_this k m d (status k m past) t a in
    let s = status_is k m d past true t in
    let x = ap adds_at s in
    let y = ap ends_at s in (omega (arith, r, c, x), omega (arith, r, c, y)))

adds_few : (s : Status) → (adds_at s ≤ 1) × (ends_at s ≤ adds_at s)
adds_few Unborn = (omega arith, omega arith)
adds_few (Lives o b) = (omega arith, omega arith)
adds_few Ended = (omega arith, omega arith)

pub ends_once : (log : WatchLog) → IsWatchHistory log → EndsOnce log
ends_once log l = record {
  added = λ k m.
      let c = counted k m log l in
      let f = adds_few (status k m log) in omega (arith, c, f);
  ended = λ k m.
      let c = counted k m log l in
      let f = adds_few (status k m log) in omega (arith, c, f);
}

ended_if : (s : Status) → false ≡ is_alive s → 1 ≤ adds_at s → s ≡ Ended
ended_if Unborn a n = absurd (omega (arith, n))
ended_if (Lives o b) a n = let z : false ≡ true = a in cc
ended_if Ended a n = refl

pub gone_ended : (k m : ℕ) (past : WatchLog) → IsWatchHistory past → false ≡ is_alive (status k m past)
    → 1 ≤ total (adds k m) past → status k m past ≡ Ended
gone_ended k m past l a n = let c = counted k m past l in ended_if (status k m past) a (omega (arith, c, n))

ended_this : (d : WatchEntry) (s : Status) → s ≡ Ended → IsWatchAnswer d s → (after d s ≡ Ended) × IsGone d
ended_this (Added x o) s e a = let z : Unborn ≡ Ended = sym a ∙ e in cc
ended_this (Tickled x alive) s e a = (ap (after (Tickled x alive)) e, a ∙ ap is_alive e)
ended_this (Cancelled x alive) s e a = (ap (after (Cancelled x alive)) e, a ∙ ap is_alive e)
ended_this (Swept x None) s e a = let z : Lives a.0 false ≡ Ended = sym a.1 ∙ e in cc
ended_this (Swept x (Some o)) s e a = let z : Lives o true ≡ Ended = sym a ∙ e in cc

pub stays_ended : (k m : ℕ) (later past : WatchLog) → IsWatchHistory (later ++ past) → status k m past ≡ Ended
    → StaysEnded k m later past
stays_ended k m [] past l e = record { ended = e; gone = All-nil IsGone }
stays_ended k m (d ∷ ds) past l e = let r = stays_ended k m ds past l.1 e in
    of_which k m d (ds ++ past) (StaysEnded k m (d ∷ ds) past) l.0
    (λ t. record {
      ended = status_is k m d (ds ++ past) false t
          ∙ r.ended;
      gone = subst (All IsGone) (sym (entries_are k m d ds false t)) r.gone;
    })
    (λ t same a. let x = ended_this d (status k m (ds ++ past)) r.ended a in
    record {
      ended = status_is k m d (ds ++ past) true t ∙ x.0;
      gone =
          subst (All IsGone) (sym (entries_are k m d ds true t))
          (All-cons IsGone d (watch_entries k m ds) x.1 r.gone);
    })

unborn_this : (d : WatchEntry) (s : Status) → after d s ≡ Unborn → IsWatchAnswer d s → (s ≡ Unborn) × IsGone d
unborn_this (Added x o) s e a = let z : Lives o false ≡ Unborn = e in cc
unborn_this (Tickled x alive) Unborn e a = (refl, a)
unborn_this (Tickled x alive) (Lives o b) e a = let z : Lives o false ≡ Unborn = e in cc
unborn_this (Tickled x alive) Ended e a = let z : Ended ≡ Unborn = e in cc
unborn_this (Cancelled x alive) Unborn e a = (refl, a)
unborn_this (Cancelled x alive) (Lives o b) e a = let z : Ended ≡ Unborn = e in cc
unborn_this (Cancelled x alive) Ended e a = let z : Ended ≡ Unborn = e in cc
unborn_this (Swept x None) s e a =
    let z : Lives a.0 true ≡ Unborn = sym (ap (after (Swept x None)) a.1) ∙ e in
    cc
unborn_this (Swept x (Some o)) s e a =
    let z : Ended ≡ Unborn = sym (ap (after (Swept x (Some o))) a) ∙ e in
    cc

unborn_gone : (k m : ℕ) (past : WatchLog) → IsWatchHistory past → status k m past ≡ Unborn
    → All IsGone (watch_entries k m past)
unborn_gone k m [] l e = All-nil IsGone
unborn_gone k m (d ∷ past) l e = of_which k m d past (All IsGone (watch_entries k m (d ∷ past))) l.0
    (λ t. subst (All IsGone) (sym (entries_are k m d past false t))
    (unborn_gone k m past l.1 (sym (status_is k m d past false t) ∙ e)))
    (λ t same a. let x = unborn_this d (status k m past) (sym (status_is k m d past true t) ∙ e) a in
    subst (All IsGone) (sym (entries_are k m d past true t))
    (All-cons IsGone d (watch_entries k m past) x.1 (unborn_gone k m past l.1 x.0)))

pub was_unborn : (k m : ℕ) (past : WatchLog) → IsWatchHistory past → status k m past ≡ Unborn
    → WasUnborn k m past
was_unborn k m past l e =
    record { none = (counted k m past l).0 ∙ ap adds_at e; gone = unborn_gone k m past l e }

alive_this : (d : WatchEntry) (s : Status) (o : Opening) (b : Bool) → after d s ≡ Lives o b
    → (d ≡ Added (name_of d) o) ⊎ ((c : Bool) × (s ≡ Lives o c))
alive_this (Added x p) s o b e = inl (ap (Added x) (opening_of e))
  where
    opening_in : Opening → Status → Opening
    opening_in q Unborn = q
    opening_in q (Lives r c) = r
    opening_in q Ended = q

    opening_of : Lives p false ≡ Lives o b → p ≡ o
    opening_of f = ap (opening_in p) f
alive_this (Tickled x a) Unborn o b e = let z : Unborn ≡ Lives o b = e in cc
alive_this (Tickled x a) (Lives p c) o b e = inr (c, ap (λ (s : Status). swap_in c s) e)
  where
    swap_in : Bool → Status → Status
    swap_in c Unborn = Unborn
    swap_in c (Lives r x) = Lives r c
    swap_in c Ended = Ended
alive_this (Tickled x a) Ended o b e = let z : Ended ≡ Lives o b = e in cc
alive_this (Cancelled x a) Unborn o b e = let z : Unborn ≡ Lives o b = e in cc
alive_this (Cancelled x a) (Lives p c) o b e = let z : Ended ≡ Lives o b = e in cc
alive_this (Cancelled x a) Ended o b e = let z : Ended ≡ Lives o b = e in cc
alive_this (Swept x g) Unborn o b e = let z : Unborn ≡ Lives o b = e in cc
alive_this (Swept x g) (Lives p true) o b e = let z : Ended ≡ Lives o b = e in cc
alive_this (Swept x g) (Lives p false) o b e = inr (false, ap (λ (s : Status). swap_in s) e)
  where
    swap_in : Status → Status
    swap_in Unborn = Unborn
    swap_in (Lives r x) = Lives r false
    swap_in Ended = Ended
alive_this (Swept x g) Ended o b e = let z : Ended ≡ Lives o b = e in cc

same_name : (k m : ℕ) (x : WatchName) → x.slot ≡ k → x.number ≡ m → x ≡ record { slot = k; number = m }
same_name k m x s n = λ i. record { slot = s i; number = n i }

born_for : (k m : ℕ) (log : WatchLog) (o : Opening) (b : Bool) → IsWatchHistory log
    → status k m log ≡ Lives o b
    → IsIn (Added (record { slot = k; number = m }) o) log
born_for k m [] o b l e = let z : Unborn ≡ Lives o b = e in cc
born_for k m (d ∷ past) o b l e =
    of_which k m d past (IsIn (Added (record { slot = k; number = m }) o) (d ∷ past)) l.0
    (λ t. inr (born_for k m past o b l.1 (sym (status_is k m d past false t) ∙ e)))
    (λ t same a.
    ⊎_elim (λ f. inl (sym (f ∙ ap (λ (x : WatchName). Added x o) (same_name k m (name_of d) same.0 same.1))))
    (λ f. inr (born_for k m past o f.0 l.1 f.1))
    (alive_this d (status k m past) o b (sym (status_is k m d past true t) ∙ e)))

pub keeps_opening : (log : WatchLog) (x : WatchName) (o : Opening) → IsWatchHistory log
    → IsIn (Swept x (Some o)) log
    → IsIn (Added x o) log
keeps_opening [] x o l i = i
keeps_opening (d ∷ past) x o l i = ⊎_elim
    (λ e. inr (born_for x.slot x.number past o true l.1
    (subst (λ (y : WatchEntry). IsWatchAnswer y (before y past)) (sym e) l.0)))
    (λ j. inr (keeps_opening past x o l.1 j)) i

shows_each : (first n : ℕ) (items : List Shown) → AreTaken first n items → (j : ℕ) → j < n
    → ShowsTaken (slot_at ((first + j) % 4096)) items
unfolding AreTaken
shows_each first zero items t j h = absurd (omega (arith, h))
shows_each first (suc n) items t j h = elim (ℕ_discrete j n) [
  | yes e ↦ ([], t.0, t.1, t.2, subst (λ (i : ℕ). IsTakenAt (slot_at ((first + i) % 4096)) t.0) (sym e) t.4)
  | no ne ↦ let r = shows_each first n t.1 t.3 j (omega (arith, h, ne)) in (
    t.0 ++ r.0,
    r.1,
    r.2,
    t.2 ∙ (ap (λ (l : List Shown). t.0 ++ l) r.3 ∙ sym (append_assoc t.0 r.0 (r.1 ++ r.2))),
    r.4,
  )
]

pub shows_all : (first : ℕ) (items : List Shown) → AreTaken first 4096 items → (k : ℕ)
    → k < 4096 → ShowsTaken k items
shows_all first items t k h = let place : ℕ = k % 8 * 512 + k / 8 in
    let there : slot_at place ≡ k = omega (arith, h) in
    let j : ℕ = (place + 4095 * first) % 4096 in
    let e : (first + j) % 4096 ≡ place = omega (arith, h) in
    subst (λ (i : ℕ). ShowsTaken i items) (ap slot_at e ∙ there)
    (shows_each first 4096 items t j (omega arith))

total_append : {A : Type 0} (f : A → ℕ) (xs ys : List A) → total f (xs ++ ys) ≡ total f xs + total f ys
total_append f [] ys = omega arith
total_append f (x ∷ xs) ys = let r = total_append f xs ys in omega (arith, r)

-- one slot gave what its entry gave
gave_one : (f : Opening → ℕ) (k : ℕ) (given : Option Opening) (item : Shown) → SweptSlot k given item
    → total f (list_of given) ≡ total (gives f) (entry_of item)
gave_one f k given item t = ⊎_elim
    (λ x. ap (λ (g : Option Opening). total f (list_of g)) x.2
    ∙ sym (ap (λ (i : Shown). total (gives f) (entry_of i)) x.1))
    (λ y. ⊎_elim
    (λ x. ap (λ (g : Option Opening). total f (list_of g)) x.3
    ∙ sym (ap (λ (i : Shown). total (gives f) (entry_of i)) x.2))
    (λ z. ⊎_elim
    (λ x. ap (λ (g : Option Opening). total f (list_of g)) x.3
    ∙ sym (ap (λ (i : Shown). total (gives f) (entry_of i)) x.2))
    (λ x. ap (λ (g : Option Opening). total f (list_of g)) x.4
    ∙ sym (ap (λ (i : Shown). total (gives f) (entry_of i)) x.3)) z) y) t

pub gave_all : (f : Opening → ℕ) (k : ℕ) (items : List Shown) (out : List Opening) → IsRound k items out
    → total f out ≡ total (gives f) (entries_in items)
unfolding IsRound
gave_all f zero items out t =
    ap (total f) t.1 ∙ sym (ap (λ (l : List Shown). total (gives f) (entries_in l)) t.0)
gave_all f (suc k) items out t =
    let r = gave_all f k t.1 t.3 t.7 in
    let o = gave_one f k t.2 t.0 t.6 in
    let a = total_append f t.3 (list_of t.2) in
    let b = total_append (gives f) (entry_of t.0) (entries_in t.1) in
    ap (total f) t.5
    ∙ (a ∙ (omega (arith, r, o, b) ∙ sym (ap (λ (l : List Shown). total (gives f) (entries_in l)) t.4)))
