-- To be believed: what the calls of the manager say, over what its pass knows before and after.
use Rattle.std.specs.Prelude.{◌≡◌, ℕ, ◌/◌, ◌^◌, ◌<◌, ◌⊎◌, List, [], ◌++◌, map, length, slice_get, Option}
use Rattle.std.specs.Prelude.{Some, None, false}
use Rattle.reg_keys.specs.declared.opening.Opening.{Opening}
use Rattle.reg_keys.specs.declared.event.EventName.{EventName}
use Rattle.reg_keys.specs.declared.registration.Key.{Key}
use Rattle.reg_keys.specs.declared.registration.Dir.{Dir}
use Rattle.reg_keys.specs.declared.registration.Dirs.{Dirs}
use Rattle.reg_keys.specs.declared.entry.Entry.{Entry}
use Rattle.reg_keys.specs.declared.entry.Entry.TheVariants as Entries
use Rattle.reg_keys.specs.declared.entry.OpenOutcome.TheVariants as Opens
use Rattle.reg_keys.specs.declared.entry.WithdrawOutcome.TheVariants as Withdraws
use Rattle.reg_keys.specs.declared.entry.AskOutcome.TheVariants as Asks
use Rattle.reg_keys.specs.declared.entry.CloseOutcome.TheVariants as Closes
use Rattle.reg_keys.specs.OwnOpenings.{IsNamedFor}
use Rattle.reg_keys.specs.Histories.{is_live}
use Rattle.reg_keys.specs.Replies.{IsLegal}
use Rattle.turn_cell.specs.declared.view.View.{View}
use Rattle.turn_cell.specs.Weights.{weigh}
use Rattle.turn_cell.specs.History.{Log}
use Rattle.turn_cell.specs.View.{own_entries, first_view, gone_view}
use Rattle.turn_cell.specs.Calls.{view_of, IsOf, IsRefused, IsSplit, IsJoined}
use Rattle.stripe_table.specs.Calls.{reported, registered, dispatched, kind_of, kind_of_job, shut_key}
use Rattle.stripe_table.specs.declared.load.Payload.{Payload}
use Rattle.stripe_table.specs.declared.calls.ReportReply.{ReportReply}
use Rattle.stripe_table.specs.declared.calls.ReportReply.TheVariants as Report
use Rattle.stripe_table.specs.declared.calls.RegisterReply.{RegisterReply}
use Rattle.stripe_table.specs.declared.calls.RegisterReply.TheVariants as Register
use Rattle.stripe_table.specs.declared.calls.DispatchReply.{DispatchReply}
use Rattle.stripe_table.specs.declared.calls.DispatchReply.TheVariants as Dispatch
use Rattle.event_mgr.specs.Numbers.{numbers_past, IsNumbersPast}
use Rattle.level.specs.Leveling.{HasShared}
use Rattle.event_mgr.specs.Rows.{At, AreOf, AreFirst, AreSplit, AreJoined, AreShared, views_of}
use Rattle.event_mgr.specs.Stripes.{stripe_of, past_in, StripeEntered, StripeSpent, StripeTried}
use Rattle.event_mgr.specs.Stripes.{StripeTriedSpent, NumbersEntered, NumbersSpent, GivenBack}
use Rattle.event_mgr.specs.declared.numbers.NumbersCall.TheVariants.{Draw}
use Rattle.event_mgr.specs.declared.numbers.NumbersReply.TheVariants.{Drawn, AllOut}
use Rattle.event_mgr.specs.declared.numbers.NumbersEntry.{NumbersEntry}
use Rattle.event_mgr.specs.declared.pass.MgrPass.{MgrPass}
use Rattle.event_mgr.specs.declared.manager.EventManager.{EventManager}
use Rattle.event_mgr.specs.declared.answers.Held.{Held}
use Rattle.event_mgr.specs.declared.answers.OpenOut.{OpenOut}
use Rattle.event_mgr.specs.declared.answers.OpenOut.TheVariants as Open
use Rattle.event_mgr.specs.declared.answers.WithdrawOut.{WithdrawOut}
use Rattle.event_mgr.specs.declared.answers.WithdrawOut.TheVariants as Withdraw
use Rattle.event_mgr.specs.declared.answers.AskOut.{AskOut}
use Rattle.event_mgr.specs.declared.answers.AskOut.TheVariants as Ask
use Rattle.event_mgr.specs.declared.answers.CloseOut.{CloseOut}
use Rattle.event_mgr.specs.declared.answers.CloseOut.TheVariants as Close
use Rattle.event_mgr.specs.declared.answers.TryReport.{TryReport}
use Rattle.event_mgr.specs.declared.answers.TryReport.TheVariants as TryReports
use Rattle.event_mgr.specs.declared.answers.TryRegister.{TryRegister}
use Rattle.event_mgr.specs.declared.answers.TryRegister.TheVariants as TryRegisters
use Rattle.event_mgr.specs.declared.answers.TryDispatch.{TryDispatch}
use Rattle.event_mgr.specs.declared.answers.TryDispatch.TheVariants as TryDispatches

-- ---- what a pass knows

-- what a pass of the manager knows of the 33 histories
pub record MgrView : Type 0 where
  pub stripes : List (View Entry)
  pub numbers : View NumbersEntry

-- what the pass knows
abbrev pub mgr_view : {T : Type 0} → MgrPass T → MgrView
mgr_view p = record { stripes = views_of p.stripes; numbers = view_of p.numbers }

-- there are 32 stripes, and what was seen of each history is legal
pub record IsLawful (v : MgrView) : Type 0 where
  pub many : length v.stripes ≡ 32
  pub legal : (s : ℕ) (x : View Entry) → slice_get v.stripes s ≡ Some x → IsLegal s 1 (past_in x.seen)
  pub numbers : IsNumbersPast (numbers_past v.numbers.seen)

module _ {T : Type 0} where
  -- the pass is of the manager, and what it has seen is legal
  pub record IsOfMgr (m : EventManager T) (p : MgrPass T) : Type 0 where
    pub stripes : AreOf m.stripes p.stripes
    pub numbers : IsOf m.numbers p.numbers
    pub lawful : IsLawful (mgr_view p)

-- what was seen of a stripe of which this is known
abbrev pub seen_by : Option (View Entry) → Log Entry
seen_by (Some x) = x.seen
seen_by None = []

-- the own entries among it
abbrev pub own_by : Option (View Entry) → Log Entry
own_by (Some x) = own_entries x
own_by None = []

-- what the pass has seen of a stripe's history
abbrev pub seen_in : ℕ → MgrView → Log Entry
seen_in s v = seen_by (slice_get v.stripes s)

-- its own entries of it
abbrev pub own_in : ℕ → MgrView → Log Entry
own_in s v = own_by (slice_get v.stripes s)

-- what the pass's own entries of all stripes weigh together
abbrev pub own_weight : (Entry → ℕ) → MgrView → ℕ
own_weight f v = weigh (λ (x : View Entry). weigh (λ (e : ℕ × Entry). f e.1) (own_entries x)) v.stripes

-- the first pass: all seats of all histories, and nothing seen
pub record IsFirst (v : MgrView) : Type 0 where
  pub stripes : AreFirst v.stripes
  pub numbers : v.numbers ≡ first_view []

-- each of the 33 passes was split
pub record IsMgrSplit (v w o : MgrView) : Type 0 where
  pub stripes : AreSplit v.stripes w.stripes o.stripes
  pub numbers : IsSplit v.numbers w.numbers o.numbers

-- each of the 33 passes was joined with its like
pub record IsMgrJoined (v o w : MgrView) : Type 0 where
  pub stripes : AreJoined v.stripes o.stripes w.stripes
  pub numbers : IsJoined v.numbers o.numbers w.numbers

-- one pass told another what it had seen, of each of the 33 histories. No pass made a call, and no
-- entry is another's than before
pub record IsMgrShared (v w v' w' : MgrView) : Type 0 where
  pub stripes : AreShared v.stripes w.stripes v'.stripes w'.stripes
  pub numbers : HasShared v.numbers w.numbers v'.numbers w'.numbers

-- what the pass knows of this stripe; of a number that is no stripe's, nothing
abbrev pub view_by : Option (View Entry) → View Entry
view_by (Some x) = x
view_by None = gone_view

abbrev pub stripe_view : ℕ → MgrView → View Entry
stripe_view s v = view_by (slice_get v.stripes s)

-- what the pass's own entries in the history of the numbers weigh together
abbrev pub number_weight : (NumbersEntry → ℕ) → MgrView → ℕ
number_weight f v = weigh (λ (e : ℕ × NumbersEntry). f e.1) (own_entries v.numbers)

-- ---- one call on one stripe

-- what the pass knows of this stripe changed by R, and what it knows of the others and
-- of the numbers is what it was
pub record OnlyAt (s : ℕ) (R : View Entry → View Entry → Type 0) (v w : MgrView) : Type 0 where
  pub stripe : At s R v.stripes w.stripes
  pub numbers : w.numbers ≡ v.numbers

-- this stripe's history got the entry, and no other history got any
abbrev pub EnteredAt : ℕ → Entry → MgrView → MgrView → Type 0
EnteredAt s e v w = OnlyAt s (StripeEntered s e) v w

-- no history got an entry, since this stripe's cell has 2 ^ 62
abbrev pub SpentAt : ℕ → MgrView → MgrView → Type 0
SpentAt s v w = OnlyAt s (StripeSpent s) v w

-- one `fetch_or` was made, this stripe's history got the entry, and no other history got any
abbrev pub TriedAt : ℕ → Entry → MgrView → MgrView → Type 0
TriedAt s e v w = OnlyAt s (StripeTried s e) v w

-- one `fetch_or` was made, and no history got an entry, since this stripe's cell has 2 ^ 62
abbrev pub TriedSpentAt : ℕ → MgrView → MgrView → Type 0
TriedSpentAt s v w = OnlyAt s (StripeTriedSpent s) v w

-- the one `fetch_or` of the call found this stripe's turn held, and `count` is half the
-- odd word, rounded down
abbrev pub BusyAt : ℕ → Held → MgrView → MgrView → Type 0
BusyAt s held v w = (held.stripe ≡ s) × OnlyAt s (λ x y. (held.count ≡ y.found / 2) × IsRefused x y) v w

-- the opening is on a descriptor below 4,096, and its number is one of that descriptor's
-- stripe, so that it has a token
pub record IsWellFormed (o : Opening) : Type 0 where
  pub descriptor : o.fd < 4096
  pub number : o.number < 2 ^ 57
  pub stripe : stripe_of o.number ≡ stripe_of o.fd

-- ---- the answers to calls on an opening or a key

-- what a report that notes names is the opening's
abbrev pub NotesFor : Opening → ReportReply → Type 0
NotesFor o (Report.Noted e) = IsNamedFor o e
NotesFor o _ = Unit {0}

module _ {T : Type 0} where
  -- a registration that is refused hands the very load back, and one that waits has a
  -- key of the opening's stripe
  abbrev pub RegistersFor : Opening → Payload T → RegisterReply T → Type 0
  RegistersFor o load (Register.Shut back) = back ≡ load
  RegistersFor o load (Register.Crowded back) = back ≡ load
  RegistersFor o load (Register.Spent back) = back ≡ load
  RegistersFor o load (Register.Waits key e) = (stripe_of key.number ≡ stripe_of o.fd) × IsNamedFor o e

  -- a dispatch that is refused hands its event back, and what it names next is its opening's
  abbrev pub DispatchesFor : EventName → DispatchReply T → Type 0
  DispatchesFor x (Dispatch.Spent back) = back ≡ x
  DispatchesFor x Dispatch.Stale = Unit {0}
  DispatchesFor x (Dispatch.Ran list e) = IsNamedFor x.opening e

-- How a call on a stripe ended: what it did where its entry was made, and where the
-- stripe's cell was found spent
pub record CallEnds : Type 1 where
  pub entered : Entry → Type 0
  pub spent : Type 0

-- the ends of a call that waits for its stripe's turn, and of one that makes a single try
abbrev pub waiting_at : ℕ → MgrView → MgrView → CallEnds
waiting_at s v w = record { entered = λ e. EnteredAt s e v w; spent = SpentAt s v w }

abbrev pub trying_at : ℕ → MgrView → MgrView → CallEnds
trying_at s v w = record { entered = λ e. TriedAt s e v w; spent = TriedSpentAt s v w }

-- a report was entered with this reply, or the cell was spent
abbrev pub Reports : CallEnds → Opening → Dirs → ReportReply → Type 0
Reports ends o ds r =
    (ends.entered (Entries.Report o ds (reported r)) × NotesFor o r) ⊎ ((r ≡ Report.Spent) × ends.spent)

module _ {T : Type 0} (tag : T → List (List ℕ)) where
  -- the same of a registration
  abbrev pub Registers : CallEnds → Opening → Dir → Option ℕ → Payload T → RegisterReply T → Type 0
  Registers ends o d m load r =
      (ends.entered (Entries.Register o d m (kind_of tag load) (registered r)) × RegistersFor o load r)
      ⊎ ((r ≡ Register.Spent load) × ends.spent)

  -- and of a dispatch
  abbrev pub Dispatches : CallEnds → EventName → DispatchReply T → Type 0
  Dispatches ends x r =
      (ends.entered (Entries.Dispatch x (dispatched tag r)) × DispatchesFor x r)
      ⊎ ((r ≡ Dispatch.Spent x) × ends.spent)

-- a report was entered in the opening's stripe, with this reply
abbrev pub HasReported : Opening → Dirs → MgrView → ReportReply → MgrView → Type 0
HasReported o ds v r w = Reports (waiting_at (stripe_of o.fd) v w) o ds r

-- the same of one try
abbrev pub HasTriedReport : Opening → Dirs → MgrView → TryReport → MgrView → Type 0
HasTriedReport o ds v (TryReports.Noted e) w = Reports (trying_at (stripe_of o.fd) v w) o ds (Report.Noted e)
HasTriedReport o ds v TryReports.Stale w = Reports (trying_at (stripe_of o.fd) v w) o ds Report.Stale
HasTriedReport o ds v TryReports.Spent w = Reports (trying_at (stripe_of o.fd) v w) o ds Report.Spent
HasTriedReport o ds v (TryReports.Busy held) w = BusyAt (stripe_of o.fd) held v w

module _ {T : Type 0} (tag : T → List (List ℕ)) where
  -- a registration was entered in the opening's stripe, with this reply
  abbrev pub HasRegistered : Opening → Dir → Option ℕ → Payload T → MgrView → RegisterReply T
      → MgrView → Type 0
  HasRegistered o d m load v r w = Registers tag (waiting_at (stripe_of o.fd) v w) o d m load r

  -- the same of one try, which hands the very load back where it finds the turn held
  abbrev pub HasTriedRegister : Opening → Dir → Option ℕ → Payload T → MgrView → TryRegister T
      → MgrView → Type 0
  HasTriedRegister o d m load v (TryRegisters.Waits key e) w =
      Registers tag (trying_at (stripe_of o.fd) v w) o d m load (Register.Waits key e)
  HasTriedRegister o d m load v (TryRegisters.Shut back) w =
      Registers tag (trying_at (stripe_of o.fd) v w) o d m load (Register.Shut back)
  HasTriedRegister o d m load v (TryRegisters.Crowded back) w =
      Registers tag (trying_at (stripe_of o.fd) v w) o d m load (Register.Crowded back)
  HasTriedRegister o d m load v (TryRegisters.Spent back) w =
      Registers tag (trying_at (stripe_of o.fd) v w) o d m load (Register.Spent back)
  HasTriedRegister o d m load v (TryRegisters.Busy held back) w =
      (back ≡ load) × BusyAt (stripe_of o.fd) held v w

  -- a dispatch was entered in the stripe of the event's opening, with this reply
  abbrev pub HasDispatched : EventName → MgrView → DispatchReply T → MgrView → Type 0
  HasDispatched x v r w = Dispatches tag (waiting_at (stripe_of x.opening.fd) v w) x r

  -- the same of one try, which hands the event back where it finds the turn held
  abbrev pub HasTriedDispatch : EventName → MgrView → TryDispatch T → MgrView → Type 0
  HasTriedDispatch x v (TryDispatches.Ran list e) w =
      Dispatches tag (trying_at (stripe_of x.opening.fd) v w) x (Dispatch.Ran list e)
  HasTriedDispatch x v TryDispatches.Stale w =
      Dispatches tag (trying_at (stripe_of x.opening.fd) v w) x Dispatch.Stale
  HasTriedDispatch x v (TryDispatches.Spent back) w =
      Dispatches tag (trying_at (stripe_of x.opening.fd) v w) x (Dispatch.Spent back)
  HasTriedDispatch x v (TryDispatches.Busy held back) w =
      (back ≡ x) × BusyAt (stripe_of x.opening.fd) held v w

  -- a withdrawal was entered in the key's stripe, with this reply
  abbrev pub HasWithdrawn : Key → MgrView → WithdrawOut T → MgrView → Type 0
  HasWithdrawn key v (Withdraw.Back job) w =
      EnteredAt (stripe_of key.number) (Entries.Withdraw key (Withdraws.Back (kind_of_job tag job))) v w
  HasWithdrawn key v Withdraw.Gone w =
      EnteredAt (stripe_of key.number) (Entries.Withdraw key Withdraws.Gone) v w
  HasWithdrawn key v Withdraw.Spent w = SpentAt (stripe_of key.number) v w

-- a flag was asked for in the key's stripe, with this reply
abbrev pub HasAsked : Key → MgrView → AskOut → MgrView → Type 0
HasAsked key v Ask.Waiting w = EnteredAt (stripe_of key.number) (Entries.Ask key Asks.Waiting) v w
HasAsked key v (Ask.Ran d m) w = EnteredAt (stripe_of key.number) (Entries.Ask key (Asks.Ran d m)) v w
HasAsked key v Ask.Closed w = EnteredAt (stripe_of key.number) (Entries.Ask key Asks.Closed) v w
HasAsked key v Ask.Unknown w = EnteredAt (stripe_of key.number) (Entries.Ask key Asks.Unknown) v w
HasAsked key v Ask.Spent w = SpentAt (stripe_of key.number) v w

-- ---- the answers to calls that draw a number or give one back

-- what the pass knows of this stripe changed by R, and what it knows of the numbers by N
pub record AtBoth (s : ℕ) (R : View Entry → View Entry → Type 0)
    (N : View NumbersEntry → View NumbersEntry → Type 0) (v w : MgrView) : Type 0 where
  pub stripe : At s R v.stripes w.stripes
  pub numbers : N v.numbers w.numbers

-- this number was drawn
abbrev pub Drew : ℕ → View NumbersEntry → View NumbersEntry → Type 0
Drew fd v w = NumbersEntered (record { call = Draw; reply = Drawn fd }) v w

-- a number was drawn whose stripe refused it or has a cell that is spent, and was then given back
pub record DrewInVain (v w : MgrView) : Type 0 where
  pub fd : ℕ
  pub drawn : View NumbersEntry
  pub drew : Drew fd v.numbers drawn
  pub refused : At (stripe_of fd)
      (λ x y. StripeEntered (stripe_of fd) (Entries.Open fd Opens.Spent) x y ⊎ StripeSpent (stripe_of fd) x y)
      v.stripes w.stripes
  pub back : GivenBack fd drawn w.numbers

-- a number was drawn and its descriptor opened in its stripe, or not
abbrev pub HasOpened : MgrView → OpenOut → MgrView → Type 0
HasOpened v (Open.Opened o) w =
    AtBoth (stripe_of o.fd) (StripeEntered (stripe_of o.fd) (Entries.Open o.fd (Opens.Opened o)))
    (Drew o.fd) v w × IsWellFormed o
HasOpened v Open.Full w =
    NumbersEntered (record { call = Draw; reply = AllOut }) v.numbers w.numbers × (w.stripes ≡ v.stripes)
HasOpened v (Open.Taken o) w =
    AtBoth (stripe_of o.fd) (StripeEntered (stripe_of o.fd) (Entries.Open o.fd (Opens.Taken o)))
    (Drew o.fd) v w
HasOpened v Open.Spent w = (NumbersSpent v.numbers w.numbers × (w.stripes ≡ v.stripes)) ⊎ DrewInVain v w

module _ {T : Type 0} (tag : T → List (List ℕ)) where
  -- a close was entered in the opening's stripe, and its number given back where it was shut
  abbrev pub HasClosed : Opening → MgrView → CloseOut T → MgrView → Type 0
  HasClosed o v (Close.Shut list) w =
      AtBoth (stripe_of o.fd)
      (StripeEntered (stripe_of o.fd) (Entries.Close o (Closes.Shut (map (shut_key tag) list))))
      (GivenBack o.fd) v w
  HasClosed o v Close.NotOpen w = EnteredAt (stripe_of o.fd) (Entries.Close o Closes.NotOpen) v w
  HasClosed o v Close.Spent w = SpentAt (stripe_of o.fd) v w

  -- after a close the opening is live in nothing that any pass has seen of a history that goes on from it
  abbrev pub IsClosedForGood : Opening → Type 0
  IsClosedForGood o =
      (list : List (Key × Option T)) (v w u : MgrView) (later : List Entry)
      → HasClosed o v (Close.Shut list) w → IsLawful u
      → past_in (seen_in (stripe_of o.fd) u) ≡ later ++ past_in (seen_in (stripe_of o.fd) w)
      → is_live (past_in (seen_in (stripe_of o.fd) u)) o ≡ false
