-- How it stands with watches, and with a slot, after one entry more.
use Rattle.std.proofs.Common.{◌≡◌, ◌≢◌, ℕ, ◌+◌, ◌*◌, ◌^◌, ◌<◌, ◌≤◌, ◌∷◌, Bool, true, false, refl, sym, ap}
use Rattle.std.proofs.Common.{◌∙◌, subst, eq-eqb, ne_eqb, lt_of_not-le, arith}
use Rattle.std.specs.Prelude.{◌&&◌, ◌==◌, if◌then◌else◌, Option, None}
use mathlib.Core.Option as maths
use native.Mathlib.Decide.{ℕ_discrete, dec_le}
use Rattle.reg_keys.specs.declared.Opening.{Opening}
use Rattle.timeout_mgr.specs.declared.view.WatchName.{WatchName}
use Rattle.timeout_mgr.specs.declared.view.WatchEntry.{WatchEntry}
use Rattle.timeout_mgr.specs.declared.view.WatchEntry.TheVariants.{Tickled, Cancelled}
use Rattle.timeout_mgr.specs.Watches.{WatchLog, Status, Unborn, Lives, Ended, name_of, is_of, watch_entries}
use Rattle.timeout_mgr.specs.Watches.{is_alive, after, status_after, status, before}
use Rattle.timeout_mgr.specs.Rule.{used, status_at, Home, At, IsPlace}
use Rattle.timeout_mgr.specs.Word.{code_of, state_at}
use Rattle.timeout_mgr.specs.declared.word.SlotState.{SlotState}
use Rattle.timeout_mgr.specs.declared.word.SlotState.TheVariants.{Free, Making, Active, Inactive, Leaving}

pub of_here : (k m : ℕ) (x : WatchName) → x.slot ≡ k → x.number ≡ m → is_of k m x ≡ true
of_here k m x s n = ap (λ b. b && (x.number == m)) (eq-eqb x.slot k s) ∙ eq-eqb x.number m n

pub of_slot : (k m : ℕ) (x : WatchName) → x.slot ≢ k → is_of k m x ≡ false
of_slot k m x s = ap (λ b. b && (x.number == m)) (ne_eqb x.slot k s)

pub of_number : (k m : ℕ) (x : WatchName) → x.slot ≡ k → x.number ≢ m → is_of k m x ≡ false
of_number k m x s n = ap (λ b. b && (x.number == m)) (eq-eqb x.slot k s) ∙ ne_eqb x.number m n

module _ (k m : ℕ) (d : WatchEntry) (past : WatchLog) where
  abbrev chosen : Bool → Status
  chosen b = status_after (if b then d ∷ watch_entries k m past else watch_entries k m past)

  pub here_is : (name_of d).slot ≡ k → (name_of d).number ≡ m
      → status k m (d ∷ past) ≡ after d (status k m past)
  here_is s n = ap chosen (of_here k m (name_of d) s n)

  pub slot_is : (name_of d).slot ≢ k → status k m (d ∷ past) ≡ status k m past
  slot_is s = ap chosen (of_slot k m (name_of d) s)

  pub number_is : (name_of d).slot ≡ k → (name_of d).number ≢ m → status k m (d ∷ past) ≡ status k m past
  number_is s n = ap chosen (of_number k m (name_of d) s n)

  pub still_is : after d (before d past) ≡ before d past → status k m (d ∷ past) ≡ status k m past
  still_is e = elim (ℕ_discrete (name_of d).slot k) [
    | no s ↦ slot_is s
    | yes s ↦ elim (ℕ_discrete (name_of d).number m) [
      | no n ↦ number_is s n
      | yes n ↦ here_is s n
          ∙ subst (λ (x : ℕ × ℕ). after d (status x.0 x.1 past) ≡ status x.0 x.1 past) (λ i. (s i, n i)) e
    ]
  ]

module _ (log : WatchLog) (k n : ℕ) (h : maths.Option (Option Opening)) (u : ℕ) (c : SlotState) (o : Opening)
    (a : At log k n h u c o) where
  pub still_at : (d : WatchEntry) → after d (before d log) ≡ before d log → At (d ∷ log) k n h u c o
  still_at d e = record {
    word = a.word;
    small = a.small;
    past = λ m l. still_is k m d log e ∙ a.past m l;
    now = still_is k u d log e ∙ a.now;
    future = λ m l. still_is k m d log e ∙ a.future m l;
    home = a.home;
  }

  pub else_at : (d : WatchEntry) → (name_of d).slot ≢ k → At (d ∷ log) k n h u c o
  else_at d s = record {
    word = a.word;
    small = a.small;
    past = λ m l. slot_is k m d log s ∙ a.past m l;
    now = slot_is k u d log s ∙ a.now;
    future = λ m l. slot_is k m d log s ∙ a.future m l;
    home = a.home;
  }

  pub moves : (d : WatchEntry) → (name_of d).slot ≡ k → (name_of d).number ≡ u
      → (c' : SlotState) (o' : Opening) (n' : ℕ) (h' : maths.Option (Option Opening))
      → n' ≡ 8 * u + code_of c' → u + used c' ≤ 2 ^ 40 → after d (status_at c o) ≡ status_at c' o'
      → Home c' o' h'
      → At (d ∷ log) k n' h' u c' o'
  moves d s x c' o' n' h' w small e home = record {
    word = w;
    small = small;
    past = λ m l. number_is k m d log s (λ z. omega (arith, z, x, l)) ∙ a.past m l;
    now = here_is k u d log s x ∙ (ap (after d) a.now ∙ e);
    future = λ m l. number_is k m d log s (λ z. omega (arith, z, x, l)) ∙ a.future m l;
    home = home;
  }

  pub restage : (c' : SlotState) (n' : ℕ) (h' : maths.Option (Option Opening)) → n' ≡ 8 * u + code_of c'
      → u + used c' ≤ 2 ^ 40 → status_at c o ≡ status_at c' o → Home c' o h' → At log k n' h' u c' o
  restage c' n' h' w small e home =
      record { word = w; small = small; past = a.past; now = a.now ∙ e; future = a.future; home = home }

code_below : (c : SlotState) → code_of c < 5
code_below Free = omega arith
code_below Making = omega arith
code_below Active = omega arith
code_below Inactive = omega arith
code_below Leaving = omega arith

state_back : (c : SlotState) → state_at (code_of c) ≡ c
state_back Free = refl
state_back Making = refl
state_back Active = refl
state_back Inactive = refl
state_back Leaving = refl

pub same_state : (c d : SlotState) → code_of c ≡ code_of d → c ≡ d
same_state c d e = sym (state_back c) ∙ (ap state_at e ∙ state_back d)

pub same_word : (u v : ℕ) (c d : SlotState) → 8 * u + code_of c ≡ 8 * v + code_of d → (u ≡ v) × (c ≡ d)
same_word u v c d e =
    let x = code_below c in
    let y = code_below d in
    let p : ℕ = code_of c in
    let q : ℕ = code_of d in
    let x' : p < 5 = x in
    let y' : q < 5 = y in
    let e' : 8 * u + p ≡ 8 * v + q = e in
    let r : p ≡ q = omega (arith, x', y', e') in
    (omega (arith, x', y', e'), same_state c d r)

-- what the word says of the slot
pub known : (log : WatchLog) (k n : ℕ) (h : maths.Option (Option Opening)) → IsPlace log k n h
    → (u : ℕ) (c : SlotState) → n ≡ 8 * u + code_of c → (o : Opening) × At log k n h u c o
known log k n h p u c e = let t = same_word p.0 u p.1 c (sym p.3.word ∙ e) in
    (p.2, subst (λ (x : ℕ × SlotState). At log k n h x.0 x.1 p.2) (λ i. (t.0 i, t.1 i)) p.3)

-- where the word doesn't show that a watch lives, it doesn't
dead_now : (log : WatchLog) (k n : ℕ) (h : maths.Option (Option Opening)) (u : ℕ)
    (c : SlotState) (o : Opening)
    → At log k n h u c o → n ≢ 8 * u + 2 → n ≢ 8 * u + 3 → is_alive (status k u log) ≡ false
dead_now log k n h u Free o a x y = ap is_alive a.now
dead_now log k n h u Making o a x y = ap is_alive a.now
dead_now log k n h u Active o a x y = absurd (x a.word)
dead_now log k n h u Inactive o a x y = absurd (y a.word)
dead_now log k n h u Leaving o a x y = ap is_alive a.now

pub dead : (log : WatchLog) (k n : ℕ) (h : maths.Option (Option Opening)) → IsPlace log k n h
    → (m : ℕ) → n ≢ 8 * m + 2
    → n ≢ 8 * m + 3 → is_alive (status k m log) ≡ false
dead log k n h p m x y = elim (ℕ_discrete m p.0) [
  | yes e ↦ ap (λ (z : ℕ). is_alive (status k z log)) e
      ∙ dead_now log k n h p.0 p.1 p.2 p.3 (λ z. x (z ∙ ap (λ (w : ℕ). 8 * w + 2) (sym e)))
      (λ z. y (z ∙ ap (λ (w : ℕ). 8 * w + 3) (sym e)))
  | no ne ↦ elim (dec_le m p.0) [
    | yes l ↦ ap is_alive (p.3.past m (omega (arith, l, ne)))
    | no g ↦ ap is_alive (p.3.future m (lt_of_not-le g))
  ]
]

pub tickle_still : (x : WatchName) (a : Bool) (s : Status) → is_alive s ≡ false → after (Tickled x a) s ≡ s
tickle_still x a Unborn e = refl
tickle_still x a (Lives o b) e = absurd (omega (arith, ap one e))
  where
    one : Bool → ℕ
    one true = 1
    one false = 0
tickle_still x a Ended e = refl

pub cancel_still : (x : WatchName) (a : Bool) (s : Status) → is_alive s ≡ false → after (Cancelled x a) s ≡ s
cancel_still x a Unborn e = refl
cancel_still x a (Lives o b) e = absurd (omega (arith, ap one e))
  where
    one : Bool → ℕ
    one true = 1
    one false = 0
cancel_still x a Ended e = refl

pub next_use : (log : WatchLog) (k n : ℕ) (h : maths.Option (Option Opening)) (u : ℕ) (o : Opening)
    → At log k n h u Leaving o → (n' : ℕ) (h' : maths.Option (Option Opening)) → n' ≡ 8 * (u + 1)
    → h' ≡ maths.some None → At log k n' h' (u + 1) Free o
next_use log k n h u o a n' h' w home = record {
  word = omega (arith, w);
  small = let sm = a.small in omega (arith, sm);
  past = λ m l. elim (ℕ_discrete m u) [
    | yes e ↦ ap (λ (z : ℕ). status k z log) e ∙ a.now
    | no ne ↦ a.past m (omega (arith, l, ne))
  ];
  now = a.future (u + 1) (omega arith);
  future = λ m l. a.future m (omega (arith, l));
  home = home;
}
