-- To be believed: what each call adds to the weight of the pass's own entries: that of its own entry, or
-- nothing where a cell was spent.
use Rattle.std.specs.Prelude.{◌≡◌, ℕ, ◌+◌, ◌⊎◌, List, map, Option}
use Rattle.reg_keys.specs.declared.opening.Opening.{Opening}
use Rattle.reg_keys.specs.declared.event.EventName.{EventName}
use Rattle.reg_keys.specs.declared.registration.Key.{Key}
use Rattle.reg_keys.specs.declared.registration.Dir.{Dir}
use Rattle.reg_keys.specs.declared.registration.Dirs.{Dirs}
use Rattle.reg_keys.specs.declared.entry.Entry.{Entry}
use Rattle.reg_keys.specs.declared.entry.Entry.TheVariants as Entries
use Rattle.reg_keys.specs.declared.entry.OpenOutcome.TheVariants as Opens
use Rattle.reg_keys.specs.declared.entry.CloseOutcome.TheVariants as Closes
use Rattle.stripe_table.specs.Calls.{reported, registered, dispatched, kind_of, shut_key}
use Rattle.stripe_table.specs.declared.load.Payload.{Payload}
use Rattle.stripe_table.specs.declared.calls.ReportReply.{ReportReply}
use Rattle.stripe_table.specs.declared.calls.ReportReply.TheVariants as Report
use Rattle.stripe_table.specs.declared.calls.RegisterReply.{RegisterReply}
use Rattle.stripe_table.specs.declared.calls.RegisterReply.TheVariants as Register
use Rattle.stripe_table.specs.declared.calls.DispatchReply.{DispatchReply}
use Rattle.stripe_table.specs.declared.calls.DispatchReply.TheVariants as Dispatch
use Rattle.event_mgr.specs.declared.answers.OpenOut.{OpenOut}
use Rattle.event_mgr.specs.declared.answers.OpenOut.TheVariants as Open
use Rattle.event_mgr.specs.declared.answers.CloseOut.{CloseOut}
use Rattle.event_mgr.specs.declared.answers.CloseOut.TheVariants as Close
use Rattle.event_mgr.specs.declared.answers.WithdrawOut.{WithdrawOut}
use Rattle.event_mgr.specs.declared.answers.AskOut.{AskOut}
use Rattle.event_mgr.specs.Manager.{MgrView, EnteredAt, SpentAt, HasOpened, HasReported, HasRegistered}
use Rattle.event_mgr.specs.Manager.{HasDispatched, HasClosed, own_weight}

-- the own entries weigh more by this entry
abbrev pub Gained : Entry → MgrView → MgrView → Type 0
Gained e v w = (f : Entry → ℕ) → own_weight f w ≡ own_weight f v + f e

-- they weigh what they weighed
abbrev pub Kept : MgrView → MgrView → Type 0
Kept v w = (f : Entry → ℕ) → own_weight f w ≡ own_weight f v

-- what an opening adds, by its answer
abbrev pub OpenGained : MgrView → OpenOut → MgrView → Type 0
OpenGained v (Open.Opened o) w = Gained (Entries.Open o.fd (Opens.Opened o)) v w
OpenGained v Open.Full w = Kept v w
OpenGained v (Open.Taken o) w = Gained (Entries.Open o.fd (Opens.Taken o)) v w
OpenGained v Open.Spent w = Kept v w ⊎ ((fd : ℕ) × Gained (Entries.Open fd Opens.Spent) v w)

module _ {T : Type 0} (tag : T → List (List ℕ)) where
  -- what a close adds, by its answer
  abbrev pub CloseGained : Opening → MgrView → CloseOut T → MgrView → Type 0
  CloseGained o v (Close.Shut list) w = Gained (Entries.Close o (Closes.Shut (map (shut_key tag) list))) v w
  CloseGained o v Close.NotOpen w = Gained (Entries.Close o Closes.NotOpen) v w
  CloseGained o v Close.Spent w = Kept v w

  -- what each call adds
  pub record CallsWeigh : Type 0 where
    pub entered : (s : ℕ) (e : Entry) (v w : MgrView) → EnteredAt s e v w → Gained e v w
    pub spent : (s : ℕ) (v w : MgrView) → SpentAt s v w → Kept v w
    pub opened : (v : MgrView) (r : OpenOut) (w : MgrView) → HasOpened v r w → OpenGained v r w
    pub reported_by : (o : Opening) (ds : Dirs) (v : MgrView) (r : ReportReply) (w : MgrView)
        → HasReported o ds v r w
        → Gained (Entries.Report o ds (reported r)) v w ⊎ ((r ≡ Report.Spent) × Kept v w)
    pub registered_by : (o : Opening) (d : Dir) (m : Option ℕ)
        (load : Payload T) (v : MgrView) (r : RegisterReply T) (w : MgrView)
        → HasRegistered tag o d m load v r w
        → Gained (Entries.Register o d m (kind_of tag load) (registered r)) v w
        ⊎ ((r ≡ Register.Spent load) × Kept v w)
    pub dispatched_by : (x : EventName) (v : MgrView) (r : DispatchReply T) (w : MgrView)
        → HasDispatched tag x v r w
        → Gained (Entries.Dispatch x (dispatched tag r)) v w ⊎ ((r ≡ Dispatch.Spent x) × Kept v w)
    pub closed : (o : Opening) (v : MgrView) (r : CloseOut T) (w : MgrView) → HasClosed tag o v r w
        → CloseGained o v r w
