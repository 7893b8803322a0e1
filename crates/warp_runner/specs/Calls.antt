-- Inner: what the calls on the manager of events do, as acts.
use Rattle.std.specs.Prelude.{◌≡◌, ◌⊎◌, ℕ, List, [], Option, Result, Ok, Err}
use Rattle.std.specs.Option.{option_to_list}
use Rattle.reg_keys.specs.declared.opening.Opening.{Opening}
use Rattle.reg_keys.specs.declared.event.EventName.{EventName}
use Rattle.reg_keys.specs.declared.registration.Key.{Key}
use Rattle.reg_keys.specs.declared.registration.Dir.{Dir}
use Rattle.reg_keys.specs.declared.entry.LoadKind.TheVariants as Kinds
use Rattle.reg_keys.specs.declared.entry.Entry.TheVariants as Entries
use Rattle.reg_keys.specs.declared.entry.OpenOutcome.TheVariants as Opens
use Rattle.reg_keys.specs.declared.entry.RegisterOutcome.TheVariants as Registers
use Rattle.reg_keys.specs.declared.entry.CloseOutcome.{CloseOutcome}
use Rattle.stripe_table.specs.declared.load.Payload.{Payload}
use Rattle.stripe_table.specs.declared.load.Payload.TheVariants as Payloads
use Rattle.turn_cell.specs.declared.view.View.{View}
use Rattle.event_mgr.specs.declared.answers.OpenOut.{OpenOut}
use Rattle.event_mgr.specs.declared.answers.OpenOut.TheVariants as Open
use Rattle.event_mgr.specs.Manager.{MgrView, IsWellFormed}
use Rattle.timeout_mgr.specs.declared.view.TimeView.{TimeView}
use Rattle.warp_tally.specs.declared.calls.TallyEntry.{TallyEntry}
use Rattle.warp_books.specs.Books.{BookTold}
use Rattle.warp_runner.specs.declared.calls.Registered.{Registered}
use Rattle.warp_runner.specs.declared.calls.Registered.TheVariants.{Waits, Crowded, Shut, Spent}
use Rattle.warp_runner.specs.Acts.{Acts, Did, told_of, nothing, called, found_all_out}
use Rattle.warp_runner.specs.Deeds.{IsOpenedAtLast, IsOpenedNever, IsTriedUntilSpent, IsTriedUntilTaken}

-- exactly this was done with the manager's pass, whatever else the dispatcher did before
abbrev pub DidAt : MgrView → Acts → List EventName → MgrView → Type 0
DidAt v acts events w =
    (t : View TallyEntry) (s : TimeView) (b : BookTold) → Did (told_of v t s b) acts events (told_of w t s b)

-- a descriptor was opened, or not
abbrev pub HasOpenedIt : MgrView → OpenOut → MgrView → Type 0
HasOpenedIt v (Open.Opened o) w = DidAt v (called (Entries.Open o.fd (Opens.Opened o))) [] w × IsWellFormed o
HasOpenedIt v Open.Full w = DidAt v found_all_out [] w
HasOpenedIt v (Open.Taken o) w = DidAt v (called (Entries.Open o.fd (Opens.Taken o))) [] w
HasOpenedIt v Open.Spent w =
    DidAt v nothing [] w ⊎ ((fd : ℕ) × DidAt v (called (Entries.Open fd Opens.Spent)) [] w)

-- a close was made, or none since numbers are used up
abbrev pub HasClosedIt : {U E : Type 0} → Opening → MgrView → Result U E → MgrView → Type 0
HasClosedIt o v (Ok u) w = (s : CloseOutcome) × DidAt v (called (Entries.Close o s)) [] w
HasClosedIt o v (Err e) w = DidAt v nothing [] w

module _ {T : Type 0} where
  -- a job of this tag was registered: it waits, or it came back, or numbers are used up
  abbrev pub HasRegisteredIt : List (List ℕ) → Opening → Dir → Option ℕ → T → MgrView
      → Registered T → MgrView → Type 0
  HasRegisteredIt tag o d m job v (Waits e) w =
      (key : Key) × DidAt v (called (Entries.Register o d m (Kinds.Job tag) (Registers.Waits key e)))
      (option_to_list e) w
  HasRegisteredIt tag o d m job v (Crowded back) w =
      (back ≡ job) × DidAt v (called (Entries.Register o d m (Kinds.Job tag) Registers.Crowded)) [] w
  HasRegisteredIt tag o d m job v (Shut back) w =
      (back ≡ job) × DidAt v (called (Entries.Register o d m (Kinds.Job tag) Registers.Shut)) [] w
  HasRegisteredIt tag o d m job v Spent w =
      DidAt v nothing [] w ⊎ DidAt v (called (Entries.Register o d m (Kinds.Job tag) Registers.Spent)) [] w

  -- a load that is a job
  abbrev pub IsJob : Payload T → Type 0
  IsJob (Payloads.Job job) = Unit {0}
  IsJob Payloads.Flag = ⊥

  -- the load is this job
  abbrev pub HoldsJob : Payload T → T → Type 0
  HoldsJob load job = load ≡ Payloads.Job job

-- a job of this tag was registered until it waited, or until numbers were used up
abbrev pub HasTriedUntil : {E : Type 0} → List (List ℕ) → Opening → Dir → Option ℕ → MgrView
    → Result (Option EventName) E → MgrView → Type 0
HasTriedUntil tag o d m v (Ok e) w =
    (acts : Acts) × DidAt v acts (option_to_list e) w × IsTriedUntilTaken o d m tag acts
HasTriedUntil tag o d m v (Err x) w = (acts : Acts) × DidAt v acts [] w × IsTriedUntilSpent o d m tag acts

-- a descriptor was opened, after refusals that nothing hinders, or numbers were used up
abbrev pub HasOpenedUntil : {E : Type 0} → MgrView → Result Opening E → MgrView → Type 0
HasOpenedUntil v (Ok o) w = (acts : Acts) × DidAt v acts [] w × IsOpenedAtLast o acts × IsWellFormed o
HasOpenedUntil v (Err x) w = (acts : Acts) × DidAt v acts [] w × IsOpenedNever acts
