-- The cases of each reply: to show something of the reply that a call must have, show it of each
-- reply where it comes.
use Rattle.std.proofs.Common.{◌≡◌, ℕ, List, [], ◌∷◌, map, true, false, Bool, refl}
use Rattle.std.specs.Prelude.{Option, Some, None, filter, if◌then◌else◌, not, ◌&&◌}
use Rattle.std.proofs.lemmas.Bool.{cond_both, and_parts, both_ways, not-true}
use Rattle.reg_keys.specs.declared.opening.Opening.{Opening}
use Rattle.reg_keys.specs.declared.event.EventName.{EventName}
use Rattle.reg_keys.specs.declared.registration.Key.{Key}
use Rattle.reg_keys.specs.declared.registration.Dir.{Dir}
use Rattle.reg_keys.specs.declared.registration.Dirs.{Dirs}
use Rattle.reg_keys.specs.declared.entry.LoadKind.{LoadKind}
use Rattle.reg_keys.specs.declared.entry.FiredKey.{FiredKey}
use Rattle.reg_keys.specs.declared.entry.ShutKey.{ShutKey}
use Rattle.reg_keys.specs.declared.entry.OpenOutcome.{OpenOutcome}
use Rattle.reg_keys.specs.declared.entry.OpenOutcome.TheVariants as Opens
use Rattle.reg_keys.specs.declared.entry.ReportOutcome.{ReportOutcome}
use Rattle.reg_keys.specs.declared.entry.ReportOutcome.TheVariants as Reports
use Rattle.reg_keys.specs.declared.entry.RegisterOutcome.{RegisterOutcome}
use Rattle.reg_keys.specs.declared.entry.RegisterOutcome.TheVariants as Registers
use Rattle.reg_keys.specs.declared.entry.WithdrawOutcome.{WithdrawOutcome}
use Rattle.reg_keys.specs.declared.entry.WithdrawOutcome.TheVariants as Withdraws
use Rattle.reg_keys.specs.declared.entry.AskOutcome.{AskOutcome}
use Rattle.reg_keys.specs.declared.entry.AskOutcome.TheVariants as Asks
use Rattle.reg_keys.specs.declared.entry.DispatchOutcome.{DispatchOutcome}
use Rattle.reg_keys.specs.declared.entry.DispatchOutcome.TheVariants as Dispatches
use Rattle.reg_keys.specs.declared.entry.CloseOutcome.{CloseOutcome}
use Rattle.reg_keys.specs.declared.entry.CloseOutcome.TheVariants as Closes
use Rattle.reg_keys.specs.declared.entry.Entry.{Entry}
use Rattle.reg_keys.specs.declared.entry.Entry.TheVariants.{Report, Register, Dispatch}
use Rattle.reg_keys.specs.Tests.{same, same_key}
use Rattle.reg_keys.specs.Histories.{next_number, owner_of, is_live, marks_of, Registered, waiting, has_due}
use Rattle.reg_keys.specs.Histories.{Unasked, unasked}
use Rattle.reg_keys.specs.Replies.{is_spent, has_out, event_named, opened_unless, open_reply, report_reply}
use Rattle.reg_keys.specs.Replies.{is_crowded, register_reply, first_back, withdraw_reply, told, first_told}
use Rattle.reg_keys.specs.Replies.{ask_reply, fires, fired_as, dispatch_reply, shut_as, close_reply}

module _ {R : Type 0} (Q : R → Type 0) where
  -- a refusal where a test fails, and else the rest
  refused_or : (b : Bool) (a x : R) → (b ≡ false → Q a) → (b ≡ true → Q x) → Q (if not b then a else x)
  refused_or true a x refused rest = rest refl
  refused_or false a x refused rest = refused refl

  -- a refusal where a test holds, and else the rest
  refused_if : (b : Bool) (a x : R) → (b ≡ true → Q a) → (b ≡ false → Q x) → Q (if b then a else x)
  refused_if true a x refused rest = refused refl
  refused_if false a x refused rest = rest refl

module _ (s c : ℕ) (past : List Entry) where
  abbrev pub next_opening : ℕ → Opening
  next_opening fd = record { number = next_number s c past; fd = fd }

  abbrev pub next_key : Key
  next_key = record { number = next_number s c past }

  abbrev pub next_event : Opening → EventName
  next_event o = record { number = next_number s c past; opening = o }

  -- an event is named where a key is due and none is out, and else a key that is due has one
  pub event_case : (o : Opening) (Q : Option EventName → Type 0)
      → (has_due s c past o ≡ true → has_out s c past o ≡ false → Q (Some (next_event o)))
      → ((has_due s c past o ≡ true → has_out s c past o ≡ true) → Q None) → Q (event_named s c past o)
  event_case o Q named none =
      cond_both (has_due s c past o && not (has_out s c past o)) (Some (next_event o)) None Q
      (λ e. let a = and_parts (has_due s c past o) (not (has_out s c past o)) e in
      named a.0 (not-true (has_out s c past o) a.1))
      (λ e. none (λ d. by_out (has_due s c past o) (has_out s c past o) d e))
    where
      by_out : (d x : Bool) → d ≡ true → (d && not x) ≡ false → x ≡ true
      by_out d true is e = refl
      by_out true false is e = absurd (both_ways true e refl)
      by_out false false is e = absurd (both_ways false refl is)

  pub open_case : (fd : ℕ) (Q : OpenOutcome → Type 0)
      → ((o : Opening) → owner_of past fd ≡ Some o → Q (Opens.Taken o))
      → (owner_of past fd ≡ None → is_spent c past ≡ true → Q Opens.Spent)
      → (owner_of past fd ≡ None → is_spent c past ≡ false → Q (Opens.Opened (next_opening fd)))
      → Q (open_reply s c past fd)
  open_case fd Q taken spent opened = by_owner (owner_of past fd) refl
    where
      by_owner : (w : Option Opening) → owner_of past fd ≡ w
          → Q (opened_unless w (if is_spent c past then Opens.Spent else Opens.Opened (next_opening fd)))
      by_owner (Some o) is = taken o is
      by_owner None is =
          refused_if Q (is_spent c past) Opens.Spent (Opens.Opened (next_opening fd)) (spent is) (opened is)

  pub report_case : (o : Opening) (ds : Dirs) (Q : ReportOutcome → Type 0)
      → (is_live past o ≡ false → Q Reports.Stale)
      → (is_live past o ≡ true → is_spent c past ≡ true → Q Reports.Spent)
      → (is_live past o ≡ true → is_spent c past ≡ false
      → Q (Reports.Noted (event_named s c (Report o ds (Reports.Noted None) ∷ past) o)))
      → Q (report_reply s c past o ds)
  report_case o ds Q stale spent noted =
      refused_or Q (is_live past o) _ _ stale
      (λ live. refused_if Q (is_spent c past) _ _ (spent live) (noted live))

  pub register_case : (o : Opening) (d : Dir) (m : Option ℕ) (kind : LoadKind) (Q : RegisterOutcome → Type 0)
      → (is_live past o ≡ false → Q Registers.Shut)
      → (is_live past o ≡ true → is_crowded past o kind ≡ true → Q Registers.Crowded)
      → (is_live past o ≡ true → is_crowded past o kind ≡ false → is_spent c past ≡ true → Q Registers.Spent)
      → (is_live past o ≡ true → is_crowded past o kind ≡ false → is_spent c past ≡ false
      → Q (Registers.Waits next_key
      (event_named s c (Register o d m kind (Registers.Waits next_key None) ∷ past) o)))
      → Q (register_reply s c past o d m kind)
  register_case o d m kind Q shut crowded spent waits =
      refused_or Q (is_live past o) _ _ shut (λ live. refused_if Q (is_crowded past o kind) _ _ (crowded live)
      (λ room. refused_if Q (is_spent c past) _ _ (spent live room) (waits live room)))

  pub withdraw_case : (k : Key) (Q : WithdrawOutcome → Type 0)
      → (filter (λ (w : Registered). same_key w.key k) (waiting past) ≡ [] → Q Withdraws.Gone)
      → ((w : Registered) (ws : List Registered)
      → filter (λ (w : Registered). same_key w.key k) (waiting past) ≡ w ∷ ws → Q (Withdraws.Back w.kind))
      → Q (withdraw_reply past k)
  withdraw_case k Q gone back = by_found (filter (λ (w : Registered). same_key w.key k) (waiting past)) refl
    where
      by_found : (ws : List Registered) → filter (λ (w : Registered). same_key w.key k) (waiting past) ≡ ws
          → Q (first_back ws)
      by_found [] is = gone is
      by_found (w ∷ ws) is = back w ws is

  pub ask_case : (k : Key) (Q : AskOutcome → Type 0)
      → (filter (λ (f : Unasked). same_key f.key k) (unasked past) ≡ [] → Q Asks.Unknown)
      → ((f : Unasked) (fs : List Unasked)
      → filter (λ (f : Unasked). same_key f.key k) (unasked past) ≡ f ∷ fs → Q (told f.standing))
      → Q (ask_reply past k)
  ask_case k Q unknown found = by_found (filter (λ (f : Unasked). same_key f.key k) (unasked past)) refl
    where
      by_found : (fs : List Unasked) → filter (λ (f : Unasked). same_key f.key k) (unasked past) ≡ fs
          → Q (first_told fs)
      by_found [] is = unknown is
      by_found (f ∷ fs) is = found f fs is

  -- what an event runs
  abbrev pub ran_by : EventName → List FiredKey
  ran_by e = map (fired_as (marks_of s c past e.opening)) (filter (fires s c past e) (waiting past))

  pub dispatch_case : (e : EventName) (Q : DispatchOutcome → Type 0)
      → (is_live past e.opening ≡ false → Q Dispatches.Stale)
      → (is_live past e.opening ≡ true → is_spent c past ≡ true → Q Dispatches.Spent)
      → (is_live past e.opening ≡ true → is_spent c past ≡ false → Q (Dispatches.Ran (ran_by e)
      (event_named s c (Dispatch e (Dispatches.Ran (ran_by e) None) ∷ past) e.opening)))
      → Q (dispatch_reply s c past e)
  dispatch_case e Q stale spent ran =
      refused_or Q (is_live past e.opening) _ _ stale
      (λ live. refused_if Q (is_spent c past) _ _ (spent live) (ran live))

  -- what a close shuts
  abbrev pub shut_by : Opening → List ShutKey
  shut_by o = map shut_as (filter (λ (w : Registered). same o w.opening) (waiting past))

  pub close_case : (o : Opening) (Q : CloseOutcome → Type 0) → (is_live past o ≡ false → Q Closes.NotOpen)
      → (is_live past o ≡ true → Q (Closes.Shut (shut_by o))) → Q (close_reply past o)
  close_case o Q not_open shut = refused_or Q (is_live past o) _ _ not_open shut
