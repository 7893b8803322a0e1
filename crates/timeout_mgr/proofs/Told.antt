-- What the calls say, from what their steps told.
use Rattle.std.proofs.Common.{◌≡◌, ◌≢◌, ℕ, suc, ◌+◌, ◌*◌, ◌%◌, ◌^◌, ◌<◌, ◌≤◌, length, ◌⊎◌, inl, inr, ⊎_elim}
use Rattle.std.proofs.Common.{List, [], ◌∷◌, ◌++◌, true, false, refl, sym, ap, ◌∙◌, subst, eq-eqb, arith}
use Rattle.std.specs.Prelude.{Option, Some, None, ◌==◌, if◌then◌else◌}
use Rattle.std.proofs.lemmas.Bool.{ne_eqb}
use Rattle.std.proofs.lemmas.List.{append_assoc, append-nil, length-append}
use Rattle.atomic_table.specs.Table.{step, rest}
use mathlib.Core.Option as maths
use Rattle.reg_keys.specs.declared.Opening.{Opening}
use Rattle.timeout_mgr.specs.declared.view.WatchEntry.{WatchEntry}
use Rattle.timeout_mgr.specs.declared.view.WatchEntry.TheVariants.{Tickled, Cancelled, Swept}
use Rattle.timeout_mgr.specs.declared.view.Shown.{Shown}
use Rattle.timeout_mgr.specs.declared.view.Shown.TheVariants.{Decided, Passed, Missed, Saw, Tried, Answered}
use Rattle.timeout_mgr.specs.declared.view.Holding.{Holding}
use Rattle.timeout_mgr.specs.declared.view.Holding.TheVariants.{Idle}
use Rattle.timeout_mgr.specs.declared.view.TimeView.{TimeView}
use Rattle.timeout_mgr.specs.Watches.{WatchLog}
use Rattle.timeout_mgr.specs.Rule.{Tells}
use Rattle.timeout_mgr.specs.Passes.{entries_in, IsPastOf, IsSound}
use Rattle.timeout_mgr.specs.Plays.{M, name, Takes, tickle_look, tickle_try, cancel_look, cancel_try}
use Rattle.timeout_mgr.specs.Plays.{take_try, end_of, age_try, expire_try, sweep_look}
use Rattle.timeout_mgr.specs.declared.view.TimeCall.{TimeCall}
use Rattle.timeout_mgr.specs.declared.view.TimeCall.TheVariants.{Sweep}
use Rattle.timeout_mgr.specs.Passes.{calls_in, calls_of, call_of, decided_call}
use Rattle.timeout_mgr.specs.Calls.{GoesOn, Decides, DecidesNothing, AreTaken, IsTakenAt, slot_at, SweptSlot}
use Rattle.timeout_mgr.specs.Calls.{HasSwept, IsRound, list_of}
use Rattle.timeout_mgr.specs.OneSlot.{Stays, ShowsAll, SweepsAt, Answers}
use Rattle.timeout_mgr.proofs.Keeps.{entries_append, calls_append}

pub goes_told : (items : List Shown) (hd : Holding) (v w : TimeView) → Tells items hd v w → GoesOn items v w
goes_told items hd v w t =
    record {
      kept = t.kept;
      onward = (
        entries_in items ++ t.later,
        t.seen
            ∙ sym (append_assoc (entries_in items) t.later v.seen),
      );
    }

pub stays_told : (items : List Shown) (hd : Holding) (v w : TimeView)
    → entries_in items ≡ [] → calls_in items ≡ []
    → Tells items hd v w → Stays items v w
stays_told items hd v w none ends t = record { goes = goes_told items hd v w t; entry = none; call = ends }

pub sound_told : (items : List Shown) (hd : Holding) (v w : TimeView) → Tells items hd v w → IsSound w
sound_told items hd v w t = record { legal = t.legal; own = t.own }

pub decided : (d : WatchEntry) (hd : Holding) (v w : TimeView) → Tells (Decided d ∷ []) hd v w → Decides d v w
decided d hd v w t = record {
  items = Decided d ∷ [];
  goes = goes_told (Decided d ∷ []) hd v w t;
  entry = refl;
  call = ap calls_in t.kept;
  later = t.later;
  newest = t.seen;
  sound = sound_told (Decided d ∷ []) hd v w t;
}

pub goes_on : (a b : List Shown) (v u w : TimeView) → GoesOn a v u → GoesOn b u w → GoesOn (b ++ a) v w
goes_on a b v u w x y = record {
  kept = y.kept ∙ (ap (λ (l : List Shown). b ++ l) x.kept ∙ sym (append_assoc b a v.kept));
  onward = (
    y.onward.0 ++ x.onward.0,
    y.onward.1
        ∙ (ap (λ (l : WatchLog). y.onward.0 ++ l) x.onward.1
        ∙ sym (append_assoc y.onward.0 x.onward.0 v.seen)),
  );
}

pub none_both : (a b : List Shown) → entries_in a ≡ [] → entries_in b ≡ [] → entries_in (b ++ a) ≡ []
none_both a b x y = entries_append b a ∙ (ap (λ (l : WatchLog). l ++ entries_in a) y ∙ x)

pub ends_both : (a b : List Shown) → calls_in a ≡ [] → calls_in b ≡ [] → calls_in (b ++ a) ≡ []
ends_both a b x y = calls_append b a ∙ (ap (λ (l : List TimeCall). l ++ calls_in b) x ∙ y)

pub stays_on : (a b : List Shown) (v u w : TimeView) → Stays a v u → Stays b u w → Stays (b ++ a) v w
stays_on a b v u w x y =
    record {
      goes = goes_on a b v u w x.goes y.goes;
      entry = none_both a b x.entry y.entry;
      call =
          ends_both a b x.call y.call;
    }

-- steps that end no call leave the calls as they were
pub same_calls : (items : List Shown) (v w : TimeView) → GoesOn items v w → calls_in items ≡ []
    → calls_of w ≡ calls_of v
same_calls items v w g none = ap calls_in g.kept
    ∙ (calls_append items v.kept
    ∙ (ap (λ (l : List TimeCall). calls_of v ++ l) none ∙ append-nil (calls_of v)))

pub then_decides : (a : List Shown) (d : WatchEntry) (v u w : TimeView) → Stays a v u
    → Decides d u w → Decides d v w
then_decides a d v u w x y = record {
  items = y.items ++ a;
  goes = goes_on a y.items v u w x.goes y.goes;
  entry = entries_append y.items a
      ∙ (ap (λ (l : WatchLog). entries_in y.items ++ l) x.entry ∙ (ap (λ (l : WatchLog). l ++ []) y.entry));
  call = y.call ∙ ap (λ (l : List TimeCall). l ++ decided_call d) (same_calls a v u x.goes x.call);
  later = y.later ++ x.goes.onward.0;
  newest = y.newest ∙ ap (λ (l : WatchLog). d ∷ l) (ap (λ (l : WatchLog). y.later ++ l) x.goes.onward.1
      ∙ sym (append_assoc y.later x.goes.onward.0 v.seen));
  sound = y.sound;
}

pub answered : (c : TimeCall) (hd : Holding) (v w : TimeView) → Tells (Answered c ∷ []) hd v w → Answers c v w
answered c hd v w t =
    record { goes = goes_told (Answered c ∷ []) hd v w t; sound = sound_told (Answered c ∷ []) hd v w t }

-- a call that ends so
pub ended_so : (c : TimeCall) (items : List Shown) (v u w : TimeView) → GoesOn items v u → calls_in items ≡ []
    → Answers c u w → calls_of w ≡ calls_of v ++ c ∷ []
ended_so c items v u w g none a = ap calls_in a.goes.kept
    ∙ ap (λ (l : List TimeCall). l ++ c ∷ []) (same_calls items v u g none)

pub then_answers : (c : TimeCall) (items : List Shown) (v u w : TimeView) → Stays items v u → Answers c u w
    → DecidesNothing c items v w
then_answers c items v u w x a = record {
  goes = goes_on items (Answered c ∷ []) v u w x.goes a.goes;
  entry = x.entry;
  call = ended_so c items v u w x.goes x.call a;
  sound = a.sound;
}

-- a pass that lets its slot go knows what it knew
pub freed_decides : (d : WatchEntry) (v u w : TimeView) → Decides d v u → w ≡ record u { hand = Idle }
    → Decides d v w
freed_decides d v u w x e = subst (Decides d v) (sym e) (record {
  items = x.items;
  goes = record { kept = x.goes.kept; onward = x.goes.onward };
  entry = x.entry;
  call = x.call;
  later = x.later;
  newest = x.newest;
  sound = record { legal = x.sound.legal; own = x.sound.own };
})

module _ (u w k : ℕ) (m : M) (n : ℕ) (m' : M) (is : u ≡ w) where
  abbrev look : ℕ → Type 0
  look x = tickle_look x (step 0 k 0 0 maths.none) m n m'

  abbrev try : ℕ → Type 0
  try x = tickle_try x (step 0 k 0 0 maths.none) m n m'

  pub look_active : tickle_look u (step 0 k 0 0 maths.none) m n m' → n ≡ 8 * w + 2
      → Decides (Tickled (name k w) true) m.0 m'.0
  look_active t e =
      ⊎_elim (λ x. decided (Tickled (name k w) true) m.0.hand m.0 m'.0 x.1.0) (λ y. ⊎_elim (λ x. let z =
      x.0 in
      absurd (omega (arith, e, z))) (λ x. absurd (x.0 e)) y) (subst look is t)

  pub look_gone : tickle_look u (step 0 k 0 0 maths.none) m n m' → n ≢ 8 * w + 2 → n ≢ 8 * w + 3
      → Decides (Tickled (name k w) false) m.0 m'.0
  look_gone t a b =
      ⊎_elim (λ x. absurd (a x.0))
      (λ y. ⊎_elim (λ x. absurd (b x.0)) (λ x. decided (Tickled (name k w) false) m.0.hand m.0 m'.0 x.2.0) y)
      (subst look is t)

  pub look_inactive : tickle_look u (step 0 k 0 0 maths.none) m n m' → n ≡ 8 * w + 3 → Stays [] m.0 m'.0
  look_inactive t e = ⊎_elim (λ x. let z = x.0 in
      absurd (omega (arith, e, z)))
      (λ y. ⊎_elim (λ x. stays_told [] m.0.hand m.0 m'.0 refl refl x.1.0) (λ x. absurd (x.1 e)) y)
      (subst look is t)

  pub try_alive : tickle_try u (step 0 k 0 0 maths.none) m n m' → (n ≡ 8 * w + 3) ⊎ (n ≡ 8 * w + 2)
      → Decides (Tickled (name k w) true) m.0 m'.0
  try_alive t e =
      ⊎_elim (λ x. decided (Tickled (name k w) true) m.0.hand m.0 m'.0 x.1.0)
      (λ x. absurd (⊎_elim (λ z. x.1 z) (λ z. x.0 z) e)) (subst try is t)

  pub try_gone : tickle_try u (step 0 k 0 0 maths.none) m n m' → n ≢ 8 * w + 3 → n ≢ 8 * w + 2
      → Decides (Tickled (name k w) false) m.0 m'.0
  try_gone t a b =
      ⊎_elim (λ x. absurd (⊎_elim a b x.0)) (λ x. decided (Tickled (name k w) false) m.0.hand m.0 m'.0 x.2.0)
      (subst try is t)

module _ (u w k old new : ℕ) (m : M) (n : ℕ) (m' : M) (is : u ≡ w) where
  abbrev leave : ℕ → Type 0
  leave x = cancel_try x (step 0 k old new maths.none) m n m'

  pub left_hit : cancel_try u (step 0 k old new maths.none) m n m' → n ≡ old
      → (old ≡ 8 * w + 2) ⊎ (old ≡ 8 * w + 3)
      → (o : Opening) × Takes (Decided (Cancelled (name k w) true) ∷ []) k new (Some o) m m'
  left_hit t e l =
      ⊎_elim (λ x. x.1) (λ y. ⊎_elim (λ x. absurd (x.0 e))
      (λ x. absurd (⊎_elim (λ z. x.0 (e ∙ z)) (λ z. x.1 (e ∙ z)) l)) y) (subst leave is t)

  pub left_lives : cancel_try u (step 0 k old new maths.none) m n m' → n ≢ old
      → (n ≡ 8 * w + 2) ⊎ (n ≡ 8 * w + 3)
      → Stays (Tried k old n ∷ []) m.0 m'.0
  left_lives t e l =
      ⊎_elim (λ x. absurd (e x.0))
      (λ y. ⊎_elim (λ x. stays_told (Tried k old n ∷ []) m.0.hand m.0 m'.0 refl refl x.2.0)
      (λ x. absurd (⊎_elim (λ z. x.0 z) (λ z. x.1 z) l)) y) (subst leave is t)

  pub left_gone : cancel_try u (step 0 k old new maths.none) m n m' → n ≢ old → n ≢ 8 * w + 2 → n ≢ 8 * w + 3
      → Decides (Cancelled (name k w) false) m.0 m'.0
  left_gone t e a b =
      ⊎_elim (λ x. absurd (e x.0))
      (λ y. ⊎_elim (λ x. absurd (⊎_elim a b x.1))
      (λ x. decided (Cancelled (name k w) false) m.0.hand m.0 m'.0 x.2.0) y) (subst leave is t)

module _ (u w k : ℕ) (m : M) (n : ℕ) (m' : M) (is : u ≡ w) where
  abbrev asks : ℕ → Type 0
  asks x = cancel_look x (step 0 k 0 0 maths.none) m n m'

  pub ask_gone : cancel_look u (step 0 k 0 0 maths.none) m n m' → n ≢ 8 * w + 2 → n ≢ 8 * w + 3
      → Decides (Cancelled (name k w) false) m.0 m'.0
  ask_gone t a b =
      ⊎_elim (λ x. absurd (⊎_elim a b x.0))
      (λ x. decided (Cancelled (name k w) false) m.0.hand m.0 m'.0 x.2.0)
      (subst asks is t)

  pub ask_lives : cancel_look u (step 0 k 0 0 maths.none) m n m' → (n ≡ 8 * w + 2) ⊎ (n ≡ 8 * w + 3)
      → Stays (Saw k n ∷ []) m.0 m'.0
  ask_lives t l =
      ⊎_elim (λ x. stays_told (Saw k n ∷ []) m.0.hand m.0 m'.0 refl refl x.1.0)
      (λ x. absurd (⊎_elim (λ z. x.0 z) (λ z. x.1 z) l)) (subst asks is t)

pub front : {A : Type 0} (l xs : List (ℕ × A)) (y : ℕ × A) → l ≡ y ∷ xs → l ≡ y ∷ rest l
front l xs y e = e ∙ ap (λ (z : List (ℕ × _)). y ∷ z) (ap rest (sym e))

module _ (k old new : ℕ) (m : M) (n : ℕ) (m' : M) where
  pub took : take_try (step 0 k old new maths.none) m n m' → n ≡ old → Takes [] k new None m m'
  took t e = ⊎_elim (λ x. x.1) (λ x. absurd (x.0 e)) t

  pub missed : take_try (step 0 k old new maths.none) m n m' → n ≢ old → Stays (Saw k n ∷ []) m.0 m'.0
  missed t e =
      ⊎_elim (λ x. absurd (e x.0)) (λ x. stays_told (Saw k n ∷ []) m.0.hand m.0 m'.0 refl refl x.1.0) t

-- what was told of a pass that a plain access left as it was
pub told_same : (items : List Shown) (hd : Holding) (u v w : TimeView) → u ≡ v
    → Tells items hd u w → Tells items hd v w
told_same items hd u v w e = subst (λ (x : TimeView). Tells items hd x w) e

ends_here : (v : TimeView) → IsPastOf v.seen v.seen
ends_here v = ([], refl)

pub stays_here : (v : TimeView) → Stays [] v v
stays_here v = record { goes = record { kept = refl; onward = ([], refl) }; entry = refl; call = refl }

pub none_taken : (first : ℕ) → AreTaken first 0 []
unfolding AreTaken
none_taken first = refl

taken_suc : (first k : ℕ) (older newer : List Shown) → AreTaken first k older
    → IsTakenAt (slot_at ((first + k) % 4096)) newer
    → AreTaken first (suc k) (newer ++ older)
unfolding AreTaken
taken_suc first k older newer a t = (newer, older, refl, a, t)

pub next_taken : (first k : ℕ) (older newer : List Shown) → AreTaken first k older
    → IsTakenAt (slot_at ((first + k) % 4096)) newer → AreTaken first (k + 1) (newer ++ older)
next_taken first k older newer a t =
    subst (λ (n : ℕ). AreTaken first n (newer ++ older)) (omega arith) (taken_suc first k older newer a t)

pub all_told : (items : List Shown) (hd : Holding) (v w : TimeView) → Tells items hd v w → ShowsAll items v w
all_told items hd v w t =
    record {
      goes = goes_told items hd v w t;
      later = t.later;
      newest = t.seen;
      sound =
          record { legal = t.legal; own = t.own };
    }

then_all : (items : List Shown) (v u w : TimeView) → Stays [] v u → ShowsAll items u w → ShowsAll items v w
then_all items v u w x y = record {
  goes = subst (λ (l : List Shown). GoesOn l v w) (append-nil items) (goes_on [] items v u w x.goes y.goes);
  later = y.later ++ x.goes.onward.0;
  newest = y.newest
      ∙ ap (λ (l : WatchLog). entries_in items ++ l) (ap (λ (l : WatchLog). y.later ++ l) x.goes.onward.1
      ∙ sym (append_assoc y.later x.goes.onward.0 v.seen));
  sound = y.sound;
}

freed_all : (items : List Shown) (v u w : TimeView) → ShowsAll items v u → w ≡ record u { hand = Idle }
    → ShowsAll items v w
freed_all items v u w x e = subst (ShowsAll items v) (sym e)
    (record {
      goes = record { kept = x.goes.kept; onward = x.goes.onward };
      later = x.later;
      newest = x.newest;
      sound =
          record { legal = x.sound.legal; own = x.sound.own };
    })

module _ (before : Option (List Opening)) (u k old : ℕ) (m : M) (n : ℕ) (m' : M) where
  pub aged : age_try before u (step 0 k old 0 maths.none) m n m' → SweepsAt k before m.0 None m'.0
  aged t =
      ⊎_elim (λ x. (
        Decided (Swept (name k u) None),
        inl (u, refl, refl),
        all_told (end_of before None ++ Decided (Swept (name k u) None) ∷ []) m.0.hand m.0 m'.0 x.1.0,
      ))
      (λ x. (
        Missed k old n,
        inr (inr (inr (old, n, x.0, refl, refl))),
        all_told (end_of before None ++ Missed k old n ∷ []) m.0.hand m.0 m'.0 x.1.0,
      )) t

module _ (before : Option (List Opening)) (u k old new : ℕ) (m : M) (n : ℕ) (m' : M) where
  pub exp_hit : expire_try before u (step 0 k old new maths.none) m n m' → n ≡ old
      → (o : Opening)
      × Takes (end_of before (Some o) ++ Decided (Swept (name k u) (Some o)) ∷ []) k new (Some o) m m'
  exp_hit t e = ⊎_elim (λ x. x.1) (λ x. absurd (x.0 e)) t

  pub exp_miss : expire_try before u (step 0 k old new maths.none) m n m' → n ≢ old
      → SweepsAt k before m.0 None m'.0
  exp_miss t e =
      ⊎_elim (λ x. absurd (e x.0)) (λ x. (
        Missed k old n,
        inr (inr (inr (old, n, x.0, refl, refl))),
        all_told (end_of before None ++ Missed k old n ∷ []) m.0.hand m.0 m'.0 x.1.0,
      )) t

-- the slot is free again whose opening was given
pub gave : (before : Option (List Opening)) (u k : ℕ) (o : Opening) (given : Option Opening)
    (v x w : TimeView)
    → given ≡ Some o → ShowsAll (end_of before (Some o) ++ Decided (Swept (name k u) (Some o)) ∷ []) v x
    → w ≡ record x { hand = Idle } → SweepsAt k before v given w
gave before u k o given v x w e s f = let item : Shown = Decided (Swept (name k u) (Some o)) in (
  item,
  inr (inl (u, o, refl, e)),
  subst (λ (g : Option Opening). ShowsAll (end_of before g ++ item ∷ []) v w) (sym e)
      (freed_all (end_of before (Some o) ++ item ∷ []) v x w s f),
)

module _ (before : Option (List Opening)) (k : ℕ) (m : M) (n : ℕ) (m' : M) where
  pub look_live : sweep_look before (step 0 k 0 0 maths.none) m n m' → (u : ℕ)
      → (n ≡ 8 * u + 2) ⊎ (n ≡ 8 * u + 3)
      → Stays [] m.0 m'.0 × (u < 2 ^ 40)
  look_live t u e = ⊎_elim (λ x. let lt = x.0.1 in (
    stays_told [] m.0.hand m.0 m'.0 refl refl x.1.0,
    ⊎_elim (λ a. ⊎_elim (λ b. omega (arith, a, b, lt)) (λ b. omega (arith, a, b, lt)) x.0.2)
        (λ a. ⊎_elim (λ b. omega (arith, a, b, lt)) (λ b. omega (arith, a, b, lt)) x.0.2) e,
  ))
      (λ x. absurd (⊎_elim (λ a. (x.0 u).0 a) (λ a. (x.0 u).1 a) e)) t

  pub look_dead : sweep_look before (step 0 k 0 0 maths.none) m n m' → n % 8 ≢ 2 → n % 8 ≢ 3
      → SweepsAt k before m.0 None m'.0
  look_dead t a b =
      ⊎_elim (λ x. absurd (⊎_elim (λ e. a (omega (arith, e))) (λ e. b (omega (arith, e))) x.0.2))
      (λ x. (
        Passed k n,
        inr (inr (inl (n, x.0, refl, refl))),
        all_told (end_of before None ++ Passed k n ∷ []) m.0.hand m.0 m'.0 x.1.0,
      )) t

abbrev value_of : Option Opening → List (ℕ × Option Opening) → Option Opening
value_of x [] = x
value_of x (y ∷ ys) = y.1

pub same_value : (k : ℕ) (l xs ys : List (ℕ × Option Opening)) (a b : Option Opening) → l ≡ (k, a) ∷ xs
    → l ≡ (k, b) ∷ ys → a ≡ b
same_value k l xs ys a b e f = ap (value_of None) (sym e ∙ f)

pub then_sweeps : (k : ℕ) (before : Option (List Opening)) (given : Option Opening) (v u w : TimeView)
    → Stays [] v u
    → SweepsAt k before u given w → SweepsAt k before v given w
then_sweeps k before given v u w s t = (t.0, t.1, then_all (end_of before given ++ t.0 ∷ []) v u w s t.2)

pub no_round : IsRound 0 [] []
unfolding IsRound
no_round = (refl, refl)

round_suc : (k : ℕ) (item : Shown) (older : List Shown) (given : Option Opening) (out : List Opening)
    → IsRound k older out → SweptSlot k given item → IsRound (suc k) (item ∷ older) (out ++ list_of given)
unfolding IsRound
round_suc k item older given out r i = (item, older, given, out, refl, refl, i, r)

pub next_round : (k : ℕ) (item : Shown) (older : List Shown) (given : Option Opening) (out : List Opening)
    → IsRound k older out → SweptSlot k given item → IsRound (k + 1) (item ∷ older) (out ++ list_of given)
next_round k item older given out r i =
    subst (λ (n : ℕ). IsRound n (item ∷ older) (out ++ list_of given)) (omega arith)
    (round_suc k item older given out r i)

pub goes_here : (v : TimeView) → GoesOn [] v v
goes_here v = record { kept = refl; onward = ([], refl) }

-- what a sweep shows of one slot ends no call
ends_none : (k : ℕ) (given : Option Opening) (item : Shown) → SweptSlot k given item → call_of item ≡ []
ends_none k given item t =
    ⊎_elim (λ x. ap call_of x.1)
    (λ y. ⊎_elim (λ x. ap call_of x.2) (λ z. ⊎_elim (λ x. ap call_of x.2) (λ x. ap call_of x.3) z) y) t

-- so far a sweep went through this many slots, gave these openings, and didn't end
abbrev pub Rounds : TimeView → ℕ → List Opening → TimeView → Type 0
Rounds v k out w = (items : List Shown) × GoesOn items v w × IsRound k items out × (calls_in items ≡ [])

-- how a sweep's look at this slot ends it, which gave these openings before
abbrev pub before_at : ℕ → List Opening → Option (List Opening)
before_at k out = if k == 4095 then Some out else None

ends_at : (k : ℕ) (out : List Opening) → k ≡ 4095 → before_at k out ≡ Some out
ends_at k out e = ap (λ b. if b then Some out else None) (eq-eqb k 4095 e)

goes_at : (k : ℕ) (out : List Opening) → k ≢ 4095 → before_at k out ≡ None
goes_at k out e = ap (λ b. if b then Some out else None) (ne_eqb k 4095 e)

pub few_more : (k : ℕ) (out next : List Opening) (given : Option Opening) → next ≡ out ++ list_of given
    → length out ≤ k → length next ≤ k + 1
few_more k out next given e few = let a = ap length e in
    let b = length-append out (list_of given) in
    let c = at_most given in
    omega (arith, a, b, c, few)
  where
    at_most : (x : Option Opening) → length (list_of x) ≤ 1
    at_most None = omega arith
    at_most (Some o) = omega arith

pub swept_more : (k : ℕ) (out next : List Opening) (given : Option Opening) (v0 v w : TimeView)
    → Rounds v0 k out v
    → SweepsAt k (before_at k out) v given w → next ≡ out ++ list_of given → k + 1 < 4096
    → Rounds v0 (k + 1) next w
swept_more k out next given v0 v w r t e h = let off : k ≢ 4095 = λ z. omega (arith, z, h) in
    let s = subst (λ b. SweepsAt k b v given w) (goes_at k out off) t in (
      s.0 ∷ r.0,
      goes_on r.0 (s.0 ∷ []) v0 v w r.1 s.2.goes,
      subst (IsRound (k + 1) (s.0 ∷ r.0)) (sym e) (next_round k s.0 r.0 given out r.2 s.1),
      ap (λ (l : List TimeCall). l ++ call_of s.0) r.3 ∙ ends_none k given s.0 s.1,
    )

pub round_here : (v : TimeView) (out : List Opening) → out ≡ [] → Rounds v 0 out v × (length out ≤ 0)
round_here v out e = (
  ([], goes_here v, subst (IsRound 0 []) (sym e) no_round, refl),
  (let a = ap length e in
      omega (arith, a)),
)

-- a call that ends so, with items that end none below
ended_here : (c : TimeCall) (items : List Shown) (v w : TimeView) → GoesOn (Answered c ∷ items) v w
    → calls_in items ≡ [] → calls_of w ≡ calls_of v ++ c ∷ []
ended_here c items v w g none = ap calls_in g.kept
    ∙ ap (λ (l : List TimeCall). l ++ c ∷ []) (calls_append items v.kept
    ∙ (ap (λ (l : List TimeCall). calls_of v ++ l) none ∙ append-nil (calls_of v)))

pub swept_last : (k : ℕ) (out next : List Opening) (given : Option Opening) (v0 v w : TimeView)
    → Rounds v0 k out v
    → SweepsAt k (before_at k out) v given w → next ≡ out ++ list_of given → k ≡ 4095 → HasSwept v0 next w
swept_last k out next given v0 v w r t e h =
    let s = subst (λ b. SweepsAt k b v given w) (ends_at k out h) t in
    let all : List Opening = out ++ list_of given in
    let items : List Shown = s.0 ∷ r.0 in
    let goes = goes_on r.0 (Answered (Sweep all) ∷ s.0 ∷ []) v0 v w r.1 s.2.goes in
    let none = ap (λ (l : List TimeCall). l ++ call_of s.0) r.3 ∙ ends_none k given s.0 s.1 in
    subst (λ l. HasSwept v0 l w) (sym e) (record {
      items = items;
      round = subst (λ n. IsRound n items all) (omega (arith, h)) (next_round k s.0 r.0 given out r.2 s.1);
      goes = goes;
      call = ended_here (Sweep all) items v0 w goes none;
      sound = s.2.sound;
    })
