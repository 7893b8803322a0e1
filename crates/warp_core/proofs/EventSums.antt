-- Where the events are that all dispatchers named: in the queue, dispatched, or in a hand.
use Rattle.std.proofs.Common.{◌≡◌, ℕ, zero, suc, ◌+◌, ◌<◌, ◌≤◌, ⊎_elim, List, [], ◌∷◌, ◌++◌, All, refl}
use Rattle.std.proofs.Common.{sym, ap, ◌∙◌, arith, Bool, true, false}
use Rattle.std.specs.Prelude.{Option, Some, None, ◌==◌, ◌&&◌, not, filter}
use Rattle.std.specs.Option.{option_to_list}
use Rattle.std.proofs.lemmas.Bool.{and_from, eq-eqb}
use Rattle.std.proofs.lemmas.List.Elements.{All-head, All-tail}
use Rattle.reg_keys.specs.declared.event.EventName.{EventName}
use Rattle.reg_keys.specs.declared.entry.Entry.{Entry}
use Rattle.reg_keys.specs.declared.entry.Entry.TheVariants.{Open, Report, Register, Withdraw, Ask, Dispatch}
use Rattle.reg_keys.specs.declared.entry.Entry.TheVariants.{Close}
use Rattle.reg_keys.specs.declared.entry.ReportOutcome.TheVariants as Reports
use Rattle.reg_keys.specs.declared.entry.RegisterOutcome.TheVariants as Registers
use Rattle.reg_keys.specs.declared.entry.DispatchOutcome.TheVariants as Dispatches
use Rattle.reg_keys.specs.declared.entry.CloseOutcome.TheVariants as Closes
use Rattle.reg_keys.specs.Accounts.{drawn_by_event, draws, times_reported}
use Rattle.reg_keys.specs.AllStripes.{AreLegal, HappensOnce, sum_below}
use Rattle.reg_keys.specs.declared.registration.Dir.TheVariants.{Read, Write}
use Rattle.reg_keys.specs.Histories.{EventOut, due_in, events_out, is_of, put_out}
use Rattle.reg_keys.specs.ListLaws.{many_append, many_filter_le, same_self}
use Rattle.reg_keys.specs.Promises.{weight}
use Rattle.reg_keys.specs.Tests.{one_if, how_many, same, same_event, IsIn}
use Rattle.turn_cell.specs.Weights.{weigh}
use Rattle.turn_cell.specs.View.{own_entries}
use Rattle.turn_cell.specs.ListLaws.{same_or, weigh-append}
use Rattle.ready_queue.specs.History.{QueueLog, IsQueueHistory, held_after, put_in, put_of, taken_in, taken_of}
use Rattle.ready_queue.specs.Weights.{weigh_put, weigh_taken}
use Rattle.event_mgr.specs.Manager.{seen_in}
use Rattle.event_mgr.specs.Stripes.{past_in}
use Rattle.dispatcher.specs.Entries.{named_by}
use Rattle.warp_passes.specs.Passes.{PassView, IsLawfulPass}
use Rattle.warp_passes.specs.Levels.{ArePassesLevel, PassesAddUp}
use Rattle.warp_core.specs.Events.{KeepAllEvents, KeepsEvents, all_dispatched, all_in_hand}
use Rattle.warp_core.specs.Events.{all_named, is_event, queued}

-- ---- tests and sums

both_le : (a b : Bool) → one_if (a && b) ≤ one_if a
both_le true true = omega arith
both_le true false = omega arith
both_le false b = omega arith

event_self : (e : EventName) → same_event e e ≡ true
event_self e =
    and_from (e.number == e.number) (same e.opening e.opening) (eq-eqb e.number e.number refl)
    (same_self e.opening)

sum_mono : (n : ℕ) (g h : ℕ → ℕ) → ((s : ℕ) → s < n → g s ≤ h s) → sum_below n g ≤ sum_below n h
sum_mono zero g h le = omega arith
sum_mono (suc n) g h le =
    let a = le n (omega arith) in
    let r = sum_mono n g h (λ s lt. le s (omega arith)) in
    omega arith

sum_one : (n : ℕ) (g : ℕ → ℕ) (s : ℕ) → s < n → g s ≤ sum_below n g
sum_one zero g s lt = absurd (omega arith)
sum_one (suc n) g s lt = ⊎_elim
    (λ is. (let e : g s ≡ g n = ap g is in omega arith))
    (λ off. (let not_last = off in let r = sum_one n g s (omega arith) in omega arith))
    (same_or s n)

at_most_one : (a b c : ℕ) → a ≡ b → b ≤ c → c ≤ 1 → a ≤ 1
at_most_one a b c e f g = omega arith

at_least_one : (a b c d : ℕ) → a ≡ d → 1 ≤ b → b ≤ c → c ≤ d → 1 ≤ a
at_least_one a b c d e f g h = omega arith

just_one : (a : ℕ) → a ≤ 1 → 1 ≤ a → a ≡ 1
just_one a most least = omega arith

-- ---- one entry

-- how often an entry named an event
abbrev names : EventName → Entry → ℕ
names e entry = weigh (is_event e) (named_by entry)

option_draws : (e : EventName) (x : Option EventName)
    → weigh (is_event e) (option_to_list x) ≤ drawn_by_event e.number x
option_draws e None = omega arith
option_draws e (Some x) = let a = both_le (x.number == e.number) (same x.opening e.opening) in omega arith

-- what an entry named it drew a number for
names_draws : (e : EventName) (entry : Entry) → names e entry ≤ draws e.number entry
names_draws e (Open fd r) = omega arith
names_draws e (Report o ds Reports.Stale) = omega arith
names_draws e (Report o ds Reports.Spent) = omega arith
names_draws e (Report o ds (Reports.Noted x)) = option_draws e x
names_draws e (Register o d m kind Registers.Shut) = omega arith
names_draws e (Register o d m kind Registers.Crowded) = omega arith
names_draws e (Register o d m kind Registers.Spent) = omega arith
names_draws e (Register o d m kind (Registers.Waits key x)) = let a = option_draws e x in omega arith
names_draws e (Withdraw key r) = omega arith
names_draws e (Ask key r) = omega arith
names_draws e (Dispatch x Dispatches.Stale) = omega arith
names_draws e (Dispatch x Dispatches.Spent) = omega arith
names_draws e (Dispatch x (Dispatches.Ran rs y)) = option_draws e y
names_draws e (Close o r) = omega arith

past_draws : (e : EventName) (past : List Entry) → weight (names e) past ≤ weight (draws e.number) past
past_draws e [] = omega arith
past_draws e (x ∷ past) =
    let a = names_draws e x in
    let r = past_draws e past in
    omega arith

-- ---- events that are out

-- an event that is out is this one
abbrev is_out : EventName → EventOut → Bool
is_out e o = same_event o.event e

put_names : (s c : ℕ) (e : EventName) (past : List Entry) (x : Option EventName) (outs : List EventOut)
    → how_many (is_out e) (put_out s c past x outs)
    ≤ weigh (is_event e) (option_to_list x) + how_many (is_out e) outs
put_names s c e past None outs = omega arith
put_names s c e past (Some x) outs =
    let a = many_append (is_out e) outs (record {
      event = x;
      read = due_in s c past x.opening Read;
      write = due_in s c past x.opening Write;
    } ∷ []) in
    omega arith

-- what is out was named
out_named : (s c : ℕ) (e : EventName) (past : List Entry)
    → how_many (is_out e) (events_out s c past) ≤ weight (names e) past
out_named s c e [] = omega arith
out_named s c e (Open fd r ∷ past) = let r = out_named s c e past in omega arith
out_named s c e (Report o ds Reports.Stale ∷ past) = let r = out_named s c e past in omega arith
out_named s c e (Report o ds Reports.Spent ∷ past) = let r = out_named s c e past in omega arith
out_named s c e (Report o ds (Reports.Noted x) ∷ past) =
    let r = out_named s c e past in
    let p = put_names s c e (Report o ds (Reports.Noted x) ∷ past) x (events_out s c past) in
    omega arith
out_named s c e (Register o d m kind Registers.Shut ∷ past) = let r = out_named s c e past in omega arith
out_named s c e (Register o d m kind Registers.Crowded ∷ past) = let r = out_named s c e past in omega arith
out_named s c e (Register o d m kind Registers.Spent ∷ past) = let r = out_named s c e past in omega arith
out_named s c e (Register o d m kind (Registers.Waits key x) ∷ past) =
    let r = out_named s c e past in
    let p = put_names s c e (Register o d m kind (Registers.Waits key x) ∷ past) x (events_out s c past) in
    omega arith
out_named s c e (Withdraw key r ∷ past) = let r = out_named s c e past in omega arith
out_named s c e (Ask key r ∷ past) = let r = out_named s c e past in omega arith
out_named s c e (Dispatch x Dispatches.Stale ∷ past) = let r = out_named s c e past in omega arith
out_named s c e (Dispatch x Dispatches.Spent ∷ past) = let r = out_named s c e past in omega arith
out_named s c e (Dispatch x (Dispatches.Ran rs y) ∷ past) =
    let r = out_named s c e past in
    let keep : EventOut → Bool = λ z. not (same_event x z.event) in
    let f = many_filter_le (is_out e) keep (events_out s c past) in
    let p = put_names s c e (Dispatch x (Dispatches.Ran rs y) ∷ past) y (filter keep (events_out s c past)) in
    omega arith
out_named s c e (Close o Closes.NotOpen ∷ past) = let r = out_named s c e past in omega arith
out_named s c e (Close o (Closes.Shut xs) ∷ past) =
    let r = out_named s c e past in
    let f = many_filter_le (is_out e) (λ z. not (is_of o z)) (events_out s c past) in
    omega arith

-- what is in a list counts
in_counts : (o : EventOut) (outs : List EventOut) → IsIn o outs → 1 ≤ how_many (is_out o.event) outs
in_counts o [] is = absurd is
in_counts o (x ∷ outs) is = ⊎_elim
    (λ same. (let a : one_if (is_out o.event x) ≡ 1 =
    ap (λ (z : EventOut). one_if (same_event z.event o.event)) (sym same)
    ∙ ap one_if (event_self o.event) in omega arith))
    (λ later. (let r = in_counts o outs later in omega arith)) is

-- ---- a history of the queue

put_weighs : (h : EventName → ℕ) (log : QueueLog) → weigh h (put_in log) ≡ weigh_put h log
put_weighs h [] = refl
put_weighs h (m ∷ ms) =
    let a = weigh-append h (put_of m.1) (put_in ms) in
    let r = put_weighs h ms in
    omega arith

taken_weighs : (h : EventName → ℕ) (log : QueueLog) → weigh h (taken_in log) ≡ weigh_taken h log
taken_weighs h [] = refl
taken_weighs h (m ∷ ms) =
    let a = weigh-append h (taken_of m.1) (taken_in ms) in
    let r = taken_weighs h ms in
    omega arith

-- what was taken, and then what is held, is what was put
abbrev pub FirstInFirstOut : Type 0
FirstInFirstOut =
    (capacity : ℕ) (log : QueueLog) → IsQueueHistory capacity log
    → taken_in log ++ held_after log ≡ put_in log

-- ---- all dispatchers

module _ {A L : Type 0} (known : A → PassView L) where
  -- the events that all of them put into the queue
  abbrev all_put : (EventName → ℕ) → List A → ℕ
  all_put weight xs = weigh (λ x. weigh_put weight (own_entries (known x).queue)) xs

  -- those that all of them took from it
  abbrev all_taken : (EventName → ℕ) → List A → ℕ
  all_taken weight xs = weigh (λ x. weigh_taken weight (own_entries (known x).queue)) xs

  sum_moves : (xs : List A) → All (λ x. KeepsEvents (known x)) xs → (h : EventName → ℕ)
      → all_named known h xs + all_taken h xs
      ≡ all_put h xs + all_dispatched known h xs + all_in_hand known h xs
  sum_moves [] keep h = omega arith
  sum_moves (x ∷ xs) keep h =
      let a = All-head (λ y. KeepsEvents (known y)) x xs keep h in
      let r = sum_moves xs (All-tail (λ y. KeepsEvents (known y)) x xs keep) h in
      omega arith

  -- what was put into the queue and not taken lies in it
  sum_places : (x : A) (xs : List A) → PassesAddUp known x xs → FirstInFirstOut
      → All (λ y. KeepsEvents (known y)) (x ∷ xs) → (h : EventName → ℕ)
      → all_named known h (x ∷ xs)
      ≡ queued known h x + all_dispatched known h (x ∷ xs) + all_in_hand known h (x ∷ xs)
  sum_places x xs adds first keep h =
      let log = (known x).queue.seen in
      let all = sum_moves (x ∷ xs) keep h in
      let put : all_put h (x ∷ xs) ≡ weigh_put h log = adds.moved (λ m. weigh h (put_of m.1)) in
      let took : all_taken h (x ∷ xs) ≡ weigh_taken h log = adds.moved (λ m. weigh h (taken_of m.1)) in
      let held = ap (weigh h) (first adds.allowed.0 log adds.allowed.2) in
      let both = weigh-append h (taken_in log) (held_after log) in
      let puts = put_weighs h log in
      let takes = taken_weighs h log in
      omega arith

  -- the passes' calls named an event once at most
  sum_once : (x : A) (xs : List A) → PassesAddUp known x xs
      → HappensOnce (λ s. 1) (λ s. past_in (seen_in s (known x).mgr)) → (e : EventName)
      → all_named known (is_event e) (x ∷ xs) ≤ 1
  sum_once x xs adds happens e =
      let past : ℕ → List Entry = λ s. past_in (seen_in s (known x).mgr) in
      at_most_one _ _ _ (adds.mgr.entries (names e))
      (sum_mono 32 (λ s. weight (names e) (past s))
      (λ s. times_reported s 1 e.number (past s) + weight (draws e.number) (past s))
      (λ s low. (let d = past_draws e (past s) in omega arith)))
      (happens.numbers e.number)

  sum_out : (x : A) (xs : List A) → PassesAddUp known x xs → (s : ℕ) → s < 32 → (o : EventOut)
      → IsIn o (events_out s 1 (past_in (seen_in s (known x).mgr)))
      → 1 ≤ all_named known (is_event o.event) (x ∷ xs)
  sum_out x xs adds s low o is =
      let past : ℕ → List Entry = λ t. past_in (seen_in t (known x).mgr) in
      at_least_one _ _ _ _ (adds.mgr.entries (names o.event)) (in_counts o (events_out s 1 (past s)) is)
      (out_named s 1 o.event (past s)) (sum_one 32 (λ t. weight (names o.event) (past t)) s low)

  pub all_placed : ((x : A) (xs : List A) → All (λ y. IsLawfulPass (known y)) (x ∷ xs)
      → ArePassesLevel known (x ∷ xs) → PassesAddUp known x xs)
      → ((firsts : ℕ → ℕ) (pasts : ℕ → List Entry) → AreLegal firsts pasts → HappensOnce firsts pasts)
      → FirstInFirstOut → (xs : List A) → All (λ y. IsLawfulPass (known y)) xs → ArePassesLevel known xs
      → All (λ y. KeepsEvents (known y)) xs → KeepAllEvents known xs
  all_placed law once first [] lawful level keep = tt
  all_placed law once first (x ∷ xs) lawful level keep =
      let adds = law x xs lawful level in
      let happens = once (λ s. 1) (λ s. past_in (seen_in s (known x).mgr)) adds.mgr.legal in
      record {
        once = sum_once x xs adds happens;
        out = λ s low o is.
            just_one (all_named known (is_event o.event) (x ∷ xs)) (sum_once x xs adds happens o.event)
            (sum_out x xs adds s low o is);
        allowed = adds.allowed;
        places = sum_places x xs adds first keep;
      }
