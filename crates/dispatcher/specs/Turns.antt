-- To be believed: what a turn says, and what its parts say.
use Rattle.std.specs.Prelude.{◌≡◌, ℕ, ◌+◌, ◌^◌, ◌⊎◌, ◌==◌, ◌&&◌, List, [], ◌∷◌, ◌++◌, length, slice_get, Bool}
use Rattle.std.specs.Prelude.{true, Option, Some, None, Result, Err}
use Rattle.reg_keys.specs.declared.event.EventName.{EventName}
use Rattle.reg_keys.specs.declared.entry.Entry.{Entry}
use Rattle.turn_cell.specs.declared.view.View.{View}
use Rattle.turn_cell.specs.History.{Log}
use Rattle.ready_queue.specs.declared.queue.ReadyQueue.{ReadyQueue}
use Rattle.ready_queue.specs.Calls.{view_of, IsOf}
use Rattle.event_mgr.specs.declared.manager.EventManager.{EventManager}
use Rattle.event_mgr.specs.Manager.{MgrView, IsOfMgr, mgr_view, own_in}
use Rattle.outside.specs.Counts.{Rises}
use Rattle.poller.specs.declared.poller.PollOut.{PollOut}
use Rattle.poller.specs.declared.poller.PollOut.TheVariants.{Polled, Failed}
use Rattle.poller.specs.Faults.{PollFaults}
use Rattle.poller.specs.Polls.{Report, polled_after}
use Rattle.dispatcher.specs.declared.pass.DispPass.{DispPass}
use Rattle.dispatcher.specs.declared.outcome.Turned.{Turned}
use Rattle.dispatcher.specs.declared.outcome.Turned.TheVariants as Turns
use Rattle.dispatcher.specs.declared.outcome.Halt.{Halt}
use Rattle.dispatcher.specs.declared.outcome.Halt.TheVariants as H
use Rattle.dispatcher.specs.declared.outcome.ReportOut.{ReportOut}
use Rattle.dispatcher.specs.declared.outcome.ReportOut.TheVariants as R
use Rattle.dispatcher.specs.declared.outcome.TurnTally.{TurnTally}
use Rattle.dispatcher.specs.Entries.{Firing, IsSpentEntry}
use Rattle.dispatcher.specs.Stripes.{HasGrown}
use Rattle.poller.specs.Meanings.{PollerMeaning}
use Rattle.dispatcher.specs.Meanings.{RunnerMeaning}
use Rattle.dispatcher.specs.Runs.{LeavesPolls}
use Rattle.dispatcher.specs.Told.{Gains}
use Rattle.dispatcher.specs.Books.{Book, IsBalanced, IsAccounted, taken, WasFullWithin, WasEmptyWithin}
use Rattle.dispatcher.specs.Firings.{job_keys_of}
use Rattle.dispatcher.specs.Work.{Work, HasWorked}

-- the book of a dispatcher, with events in between: those that are to be put, and the
-- one that is to be dispatched next
abbrev pub book_with : {T : Type 0} → List EventName → List EventName → DispPass T → Book
book_with loose next p =
    record { mgr = mgr_view p.mgr; queue = view_of p.queue; hand = p.hand; loose = loose; next = next }

-- the book of a dispatcher at rest
abbrev pub book_of : {T : Type 0} → DispPass T → Book
book_of p = book_with [] [] p

-- what a dispatcher has still to do
abbrev pub work_with : {T : Type 0} → List Firing → List Report → DispPass T → Work
work_with due pairs p = record { mgr = mgr_view p.mgr; due = due; pairs = pairs }

-- the passes are of the manager and of the queue
abbrev pub AreOf : {T : Type 0} → EventManager T → ReadyQueue → DispPass T → Type 0
AreOf m q p = IsOfMgr m p.mgr × IsOf q p.queue

-- no event was taken from the queue
abbrev pub TakesNone : {T : Type 0} → DispPass T → DispPass T → Type 0
TakesNone p q = taken (λ _. 1) (book_of q) ≡ taken (λ _. 1) (book_of p)

-- A call was refused as spent: the last word that the pass found at some stripe is that of 2 ^ 62 entries,
-- which the pass remembers, or the last of its entries there, which it gained in between, is such a refusal
abbrev pub HasMetSpent : MgrView → MgrView → Type 0
HasMetSpent v w =
    (s : ℕ)
    × (((x : View Entry) × (slice_get w.stripes s ≡ Some x) × (x.found ≡ 2 ^ 63) × (x.met_spent ≡ true))
    ⊎ ((es : Log Entry) × (n : ℕ) × (e : Entry) × (own_in s w ≡ (own_in s v ++ es) ++ (n, e) ∷ [])
    × IsSpentEntry e))

-- why a part of a turn ended the turn
abbrev pub HasHaltCause : MgrView → Halt → MgrView → Type 0
HasHaltCause v (H.Stop code) w = Unit {0}
HasHaltCause v H.Spent w = HasMetSpent v w

-- A pair whose report was refused as spent, but has an entry, stands with those that weren't made: it is the
-- last of those that were reported
abbrev pub RefusedAt : Halt → List Report → List Report → Type 0
RefusedAt (H.Stop code) refused reported = refused ≡ []
RefusedAt H.Spent refused reported =
    (refused ≡ [])
    ⊎ ((front : List Report) × (pair : Report) × (refused ≡ pair ∷ []) × (reported ≡ front ++ pair ∷ []))

-- what a turn answers that a part of it ended
abbrev pub turned_of : Halt → Turned
turned_of (H.Stop code) = Turns.Stop code
turned_of H.Spent = Turns.Spent

-- the code with which a part of a turn ended the turn, if it did so with one
abbrev pub code_of_halt : {A : Type 0} → Result A Halt → Option ℕ
code_of_halt (Err (H.Stop code)) = Some code
code_of_halt _ = None

module _ {X P : Type 0} (meaning : RunnerMeaning X P) where
  -- everything that fired was run, so many keys
  abbrev pub HasRunKeys : ℕ → Work → X → Work → X → Type 0
  HasRunKeys n a x b y = (w : HasWorked meaning [] a x b y) × (length w.ran ≡ n)

  -- what fired was run, or, with a code, run up to some place, and the jobs after it were shut
  abbrev pub HasRunAll : {T : Type 0} → List Firing → DispPass T → X → Option ℕ → DispPass T → X → Type 0
  HasRunAll due p x None q y = HasRunKeys (length due) (work_with due [] p) x (work_with [] [] q) y
  HasRunAll due p x (Some code) q y =
      (back : List Firing)
      × HasWorked meaning (job_keys_of back) (work_with due [] p) x (work_with back [] q) y

  -- A part of a turn ended the turn: no event is lost, what fired was run up to some place,
  -- and the jobs after it were shut
  pub record HasHalted {T : Type 0} (loose next : List EventName) (due : List Firing) (p : DispPass T)
      (x : X) (halt : Halt) (q : DispPass T) (y : X) : Type 0 where
    pub balanced : IsBalanced (book_with loose next p) (book_of q)
    pub queue : HasGrown (view_of p.queue) (view_of q.queue)
    pub back : List Firing
    pub work : HasWorked meaning (job_keys_of back) (work_with due [] p) x (work_with back [] q) y
    pub cause : HasHaltCause (mgr_view p.mgr) halt (mgr_view q.mgr)

  -- a pair was reported, and what that named was dealt with; or it was refused as spent,
  -- with an entry or without one
  abbrev pub HasReportedOne : {T : Type 0} → ℕ → Report → DispPass T → X → ReportOut → DispPass T → Type 0
  HasReportedOne capacity pair p x R.Made q =
      IsAccounted capacity (book_of p) (book_of q)
      × HasRunKeys 0 (work_with [] (pair ∷ []) p) x (work_with [] [] q) x
  HasReportedOne capacity pair p x R.Spent q =
      IsAccounted capacity (book_of p) (book_of q) × HasMetSpent (mgr_view p.mgr) (mgr_view q.mgr)
      × (HasRunKeys 0 (work_with [] (pair ∷ []) p) x (work_with [] [] q) x
      ⊎ HasRunKeys 0 (work_with [] (pair ∷ []) p) x (work_with [] (pair ∷ []) q) x)

  -- all pairs were reported, so many, and so many keys were run
  pub record HasReportedAll {T : Type 0} (count : TurnTally) (p : DispPass T) (x : X) (pairs : List Report)
      (q : DispPass T) (y : X) (left : List Report) : Type 0 where
    pub work : HasWorked meaning [] (work_with [] pairs p) x (work_with [] [] q) y
    pub ran : length work.ran ≡ count.ran
    pub handled : length pairs ≡ count.handled
    pub none_left : left ≡ []

  -- The turn was ended while pairs were reported. Those that weren't are left; before them may stand
  -- the one that was refused as spent
  pub record HasLeftReports {T : Type 0} (p : DispPass T) (x : X) (pairs : List Report) (halt : Halt)
      (q : DispPass T) (y : X) (left : List Report) : Type 0 where
    pub balanced : IsBalanced (book_of p) (book_of q)
    pub queue : HasGrown (view_of p.queue) (view_of q.queue)
    pub back : List Firing
    pub refused : List Report
    pub rest : List Report
    pub work : HasWorked meaning (job_keys_of back) (work_with [] pairs p) x (work_with back rest q) y
    pub left_is : left ≡ refused ++ rest
    pub was_last : RefusedAt halt refused work.reported
    pub cause : HasHaltCause (mgr_view p.mgr) halt (mgr_view q.mgr)

module _ {T X P : Type 0} (meaning : RunnerMeaning X P) where
  -- A dispatcher may go on: its passes are of the manager and of the queue, its runner hasn't stopped, and
  -- the runner's `fits` holds, with no job to be run
  pub record IsReady (m : EventManager T) (queue : ReadyQueue) (p : DispPass T) (x : X) : Type 0 where
    pub own : AreOf m queue p
    pub stop : meaning.stop x ≡ None
    pub fits : meaning.fits x (mgr_view p.mgr) []

  -- What a part of a turn leaves, whatever it answers: the same, but that the runner may have stopped with
  -- this code; and its poller's polls are as before
  pub record Leaves (told : PollerMeaning P) (m : EventManager T) (queue : ReadyQueue) (code : Option ℕ)
      (x : X) (q : DispPass T) (y : X) : Type 0 where
    pub own : AreOf m queue q
    pub stop : meaning.stop y ≡ code
    pub fits : meaning.fits y (mgr_view q.mgr) []
    pub poller : LeavesPolls told (meaning.poller_of x) (meaning.poller_of y)

  -- A part of a turn went on, from this book: events are accounted for, and everything
  -- that fired was run, so many keys
  pub record GoesOn (capacity n : ℕ) (b : Book) (p : DispPass T) (x : X) (q : DispPass T)
      (y : X) : Type 0 where
    pub events : IsAccounted capacity b (book_of q)
    pub ran : HasRunKeys meaning n (work_with [] [] p) x (work_with [] [] q) y

-- this many events were taken, unless the queue was empty at a step
abbrev pub EventsTaken : {T : Type 0} → ℕ → ℕ → DispPass T → DispPass T → Type 0
EventsTaken capacity max p q =
    (taken (λ _. 1) (book_of q) ≡ taken (λ _. 1) (book_of p) + max)
    ⊎ WasEmptyWithin capacity (view_of p.queue) (view_of q.queue)

-- a poll may wait: no event was taken from one book to the other, and none is in the hand
abbrev pub is_idle : Book → Book → Bool
is_idle b c = (taken (λ _. 1) c == taken (λ _. 1) b) && (length c.hand == 0)

-- The turn came to a poll, with the book and the runner that it had by then. The poll might wait exactly
-- where no event was taken since the beginning and none was in the hand
pub record HasPolled {X P : Type 0} (meaning : RunnerMeaning X P) (told : PollerMeaning P) (capacity : ℕ)
    (b : Book) (result : PollOut) (pairs : List Report) : Type 0 where
  pub at : Book
  pub until : IsAccounted capacity b at
  pub runner : X
  pub after : P
  pub poll : told.polls (meaning.poller_of runner) (is_idle b at) result pairs after

-- One poll of the poller that a runner lent: whether it might wait, what it answered and gave, and that
-- nothing else of the runner has changed
pub record HasPolledOnce {X P : Type 0} (meaning : RunnerMeaning X P) (told : PollerMeaning P) (idle : Bool)
    (x : X) (result : PollOut) (pairs : List Report) (y : X) : Type 0 where
  pub lent : P
  pub after : P
  pub was_lent : lent ≡ meaning.poller_of x
  pub poll : told.polls lent idle result pairs after
  pub none : result ≡ Failed → pairs ≡ []
  pub faulted : PollFaults result (told.faults lent) (told.faults after)
  pub gave : told.polled after ≡ polled_after result (told.polled lent) pairs
  pub others : y ≡ meaning.with_poller x after

-- the code with which a turn stopped, if it did
abbrev pub stop_of : Turned → Option ℕ
stop_of (Turns.Stop code) = Some code
stop_of _ = None

module _ {X P T : Type 0} (meaning : RunnerMeaning X P) (told : PollerMeaning P) where
  -- The turn is done. Every event that was taken was dispatched. Every other one, also one that was in the
  -- hand, was put, but where the queue was full at a step: else the hand is empty. As many were taken as may
  -- be, or the queue was empty at a step.
  -- It polled once. Each key that fired was run, and each pair that the poll gave was reported
  pub record IsDone (capacity max : ℕ) (p : DispPass T) (x : X) (reports ran : ℕ) (left : List Report)
      (q : DispPass T) (y : X) : Type 0 where
    pub events : IsAccounted capacity (book_of p) (book_of q)
    pub emptied : WasFullWithin capacity (view_of p.queue) (view_of q.queue) ⊎ (q.hand ≡ [])
    pub takes : EventsTaken capacity max p q
    pub pairs : List Report
    pub polled : HasPolled meaning told capacity (book_of p) Polled pairs
    pub since : IsAccounted capacity polled.at (book_of q)
    pub gave : Gains (told.polled (meaning.poller_of x)) (told.polled (meaning.poller_of y)) pairs
    pub work : HasWorked meaning [] (work_with [] pairs p) x (work_with [] [] q) y
    pub count : length work.ran ≡ ran
    pub reported : length pairs ≡ reports
    pub none_left : left ≡ []

  -- the poll failed, and by then each key that fired was run
  pub record HasPollFault (capacity max : ℕ) (p : DispPass T) (x : X) (left : List Report)
      (q : DispPass T) (y : X) : Type 0 where
    pub events : IsAccounted capacity (book_of p) (book_of q)
    pub takes : EventsTaken capacity max p q
    pub polled : HasPolled meaning told capacity (book_of p) Failed []
    pub since : IsAccounted capacity polled.at (book_of q)
    pub gave : told.polled (meaning.poller_of y) ≡ told.polled (meaning.poller_of x)
    pub work : HasWorked meaning [] (work_with [] [] p) x (work_with [] [] q) y
    pub rose : Rises (told.faults (meaning.poller_of x)).polls (told.faults (meaning.poller_of y)).polls
    pub none_left : left ≡ []

  -- The turn was ended, before it polled or after. What fired was run up to some place, and the jobs after it
  -- were shut. The reports not made are left; before them may stand the one that was refused as spent
  pub record IsEnded (capacity : ℕ) (halt : Halt) (p : DispPass T) (x : X) (left : List Report)
      (q : DispPass T) (y : X) : Type 0 where
    pub balanced : IsBalanced (book_of p) (book_of q)
    pub queue : HasGrown (view_of p.queue) (view_of q.queue)
    pub pairs : List Report
    pub polled : (pairs ≡ []) ⊎ HasPolled meaning told capacity (book_of p) Polled pairs
    pub gave : Gains (told.polled (meaning.poller_of x)) (told.polled (meaning.poller_of y)) pairs
    pub back : List Firing
    pub refused : List Report
    pub rest : List Report
    pub work : HasWorked meaning (job_keys_of back) (work_with [] pairs p) x (work_with back rest q) y
    pub left_is : left ≡ refused ++ rest
    pub was_last : RefusedAt halt refused work.reported

  -- what each answer of a turn says
  abbrev pub HasTurned : ℕ → ℕ → DispPass T → X → Turned → List Report → DispPass T → X → Type 0
  HasTurned capacity max p x (Turns.Done reports ran) left q y = IsDone capacity max p x reports ran left q y
  HasTurned capacity max p x Turns.PollFault left q y = HasPollFault capacity max p x left q y
  HasTurned capacity max p x (Turns.Stop code) left q y = IsEnded capacity (H.Stop code) p x left q y
  HasTurned capacity max p x Turns.Spent left q y =
      IsEnded capacity H.Spent p x left q y × HasMetSpent (mgr_view p.mgr) (mgr_view q.mgr)
