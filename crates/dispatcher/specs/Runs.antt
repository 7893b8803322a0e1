-- To be believed: what a run of a job may do with the manager's pass.
use Rattle.std.specs.Prelude.{◌≡◌, ℕ, ◌+◌, List, [], ◌++◌, Option, Some, None}
use Rattle.std.specs.Option.{option_to_list}
use Rattle.reg_keys.specs.declared.opening.Opening.{Opening}
use Rattle.reg_keys.specs.declared.event.EventName.{EventName}
use Rattle.reg_keys.specs.declared.registration.Dir.{Dir}
use Rattle.reg_keys.specs.declared.registration.Key.{Key}
use Rattle.reg_keys.specs.declared.entry.Entry.{Entry}
use Rattle.turn_cell.specs.declared.view.View.{View}
use Rattle.turn_cell.specs.Weights.{weigh}
use Rattle.turn_cell.specs.History.{Log}
use Rattle.turn_cell.specs.View.{own_entries}
use Rattle.stripe_table.specs.declared.calls.RegisterReply.{RegisterReply}
use Rattle.stripe_table.specs.declared.calls.RegisterReply.TheVariants.{Waits}
use Rattle.stripe_table.specs.declared.load.Payload.{Payload}
use Rattle.event_mgr.specs.declared.answers.OpenOut.{OpenOut}
use Rattle.event_mgr.specs.declared.answers.WithdrawOut.{WithdrawOut}
use Rattle.event_mgr.specs.declared.answers.AskOut.{AskOut}
use Rattle.event_mgr.specs.declared.answers.CloseOut.{CloseOut}
use Rattle.event_mgr.specs.Manager.{MgrView, HasOpened, HasRegistered, HasWithdrawn, HasAsked, HasClosed}
use Rattle.poller.specs.Meanings.{PollerMeaning}
use Rattle.dispatcher.specs.declared.runner.EventPair.{EventPair}
use Rattle.dispatcher.specs.declared.runner.AfterRun.{AfterRun}
use Rattle.dispatcher.specs.declared.runner.AfterRun.TheVariants.{Events, Stop}
use Rattle.dispatcher.specs.Entries.{named_by}
use Rattle.dispatcher.specs.Stripes.{Each, HasGrown, AreOfRun, weigh_shown}

-- the events of a pair, in order
abbrev pub events_of : EventPair → List EventName
events_of p = option_to_list p.first ++ option_to_list p.second

-- the events that a run gave
abbrev pub pair_of : AfterRun → EventPair
pair_of (Events p) = p
pair_of (Stop code p) = p

-- the code with which a run stopped, if it did
abbrev pub code_of : AfterRun → Option ℕ
code_of (Events p) = None
code_of (Stop code p) = Some code

-- at one stripe the pass has grown, and its new entries are of calls that a run may make
pub record RunsAt (v w : View Entry) : Type 0 where
  pub grown : HasGrown v w
  pub made : Log Entry
  pub own : own_entries w ≡ own_entries v ++ made
  pub calls : AreOfRun made

-- Calls were made that a run may make, one after another: no report and no dispatch is among them, and these
-- are exactly the events that they named
pub record HasMadeCalls (v : MgrView) (events : List EventName) (w : MgrView) : Type 0 where
  pub stripes : Each RunsAt v.stripes w.stripes
  pub numbers : HasGrown v.numbers w.numbers
  pub named : (h : EventName → ℕ) → weigh_shown named_by h w ≡ weigh_shown named_by h v + weigh h events

-- a run made such calls, and gave exactly the events that they named
abbrev pub RunMade : MgrView → AfterRun → MgrView → Type 0
RunMade v result w = HasMadeCalls v (events_of (pair_of result)) w

-- the event that a registration named, if any
abbrev pub named_by_register : {T : Type 0} → RegisterReply T → List EventName
named_by_register (Waits key e) = option_to_list e
named_by_register _ = []

-- What the calls that a run may make come to: no call at all, each call by itself, and
-- several one after another
pub record CallsOfRuns {T : Type 0} (tag : T → List (List ℕ)) : Type 0 where
  pub none : (v : MgrView) → HasMadeCalls v [] v
  pub several : (u : MgrView) (xs : List EventName) (v : MgrView) (ys : List EventName) (w : MgrView)
      → HasMadeCalls u xs v → HasMadeCalls v ys w → HasMadeCalls u (xs ++ ys) w
  pub opened : (v : MgrView) (r : OpenOut) (w : MgrView) → HasOpened v r w → HasMadeCalls v [] w
  pub registered : (o : Opening) (d : Dir) (m : Option ℕ)
      (load : Payload T) (v : MgrView) (r : RegisterReply T) (w : MgrView)
      → HasRegistered tag o d m load v r w → HasMadeCalls v (named_by_register r) w
  pub withdrawn : (key : Key) (v : MgrView) (r : WithdrawOut T) (w : MgrView)
      → HasWithdrawn tag key v r w → HasMadeCalls v [] w
  pub asked : (key : Key) (v : MgrView) (r : AskOut) (w : MgrView) → HasAsked key v r w → HasMadeCalls v [] w
  pub closed : (o : Opening) (v : MgrView) (r : CloseOut T) (w : MgrView) → HasClosed tag o v r w
      → HasMadeCalls v [] w

-- a run gave no events
abbrev pub GivesNoEvents : AfterRun → Type 0
GivesNoEvents result = events_of (pair_of result) ≡ []

-- what a poller tells of its polls is as it was: the pairs that they gave, and their faults,
-- with those of adding listeners
pub record LeavesPolls {P : Type 0} (told : PollerMeaning P) (x y : P) : Type 0 where
  pub same_polled : told.polled y ≡ told.polled x
  pub same_faults : (told.faults y).polls ≡ (told.faults x).polls
