-- To be believed: what each call on a connection's job leaves of it.
use Rattle.std.specs.Prelude.{◌≡◌, ◌≢◌, ◌⊎◌, ◌↔◌, ℕ, ◌+◌, ◌≤◌, ◌<◌, ◌^◌, ◌-◌, List, Option, Some, None}
use Rattle.std.specs.Prelude.{IfSome}
use Rattle.reg_keys.specs.declared.opening.Opening.{Opening}
use Rattle.reg_keys.specs.declared.registration.Dir.{Dir}
use Rattle.reg_keys.specs.declared.registration.Dir.TheVariants.{Read, Write}
use Rattle.outside.specs.Causes.{LinkTold}
use Rattle.outside.specs.Moments.{ClockTold}
use Rattle.conn_loop.specs.declared.step.End.{End}
use Rattle.conn_loop.specs.declared.step.End.TheVariants.{NoMemory}
use Rattle.conn_loop.specs.declared.step.Step.TheVariants.{WantRead, WantWrite}
use Rattle.conn_loop.specs.Causes.{Clocked, CountsWaits}
use Rattle.conn_loop.specs.ConnState.{ConnState, IsAsking, at_first}
use Rattle.conn_loop.specs.Steps.{to_go}
use Rattle.conn_loop.specs.Supplies.{GivesLease}
use Rattle.timeout_mgr.specs.declared.view.WatchName.{WatchName}
use Rattle.warp_books.specs.Books.{FinishedTold}
use Rattle.warp_books.specs.declared.finish.Finish.{Finish}
use Rattle.warp_books.specs.declared.finish.Finish.TheVariants.{Ended, TimedOut, TurnedAway}
use Rattle.warp_jobs.specs.declared.session.Went.{Went}
use Rattle.warp_jobs.specs.declared.session.Went.TheVariants.{Waits, Asks, Over}
use Rattle.warp_jobs.specs.Held.{Held}

-- a connection of which nothing was read or written yet
abbrev pub first_held : Opening → LinkTold → WatchName → Held
first_held o link w = record { opening = o; link = link; conn = at_first; watch = w; number = 0 }

-- the number of the next registration, once a connection came so far: one more where its
-- link must be waited for
abbrev pub number_after : Went → ℕ → ℕ
number_after (Waits dir) n = n + 1
number_after Asks n = n
number_after (Over end) n = n

-- its link said in this direction, and once, that it must be waited for, and else not at all
abbrev pub WaitedSo : Went → (link later : LinkTold) → Type 0
WaitedSo (Waits Read) link later = CountsWaits WantRead link later
WaitedSo (Waits Write) link later = CountsWaits WantWrite link later
WaitedSo Asks link later = later.waits ≡ link.waits
WaitedSo (Over end) link later = end ≢ NoMemory → later.waits ≡ link.waits

-- how a connection stands that came so far: a file is asked for exactly where it says so, and its own end is
-- the one that is answered, or the answer is want of memory
abbrev pub StandsSo : Went → ConnState → Type 0
StandsSo (Waits dir) c = ¬ IsAsking c
StandsSo Asks c = IsAsking c
StandsSo (Over end) c = (¬ IsAsking c) × (end ≢ NoMemory → c.over ≡ Some end)

-- what bringing a connection on leaves of its job
pub record HasGone (went : Went) (h k : Held) (clock after : ClockTold) : Type 0 where
  pub opening : k.opening ≡ h.opening
  pub plan : k.link.plan ≡ h.link.plan
  pub watch : k.watch ≡ h.watch
  pub number : k.number ≡ number_after went h.number
  pub waited : WaitedSo went h.link k.link
  pub clocked : Clocked h.conn k.conn clock after
  pub stands : StandsSo went k.conn
  pub nearer : to_go k.conn ≤ to_go h.conn

-- what was found came to the connection: its next steps go on from there, and nothing else changed
pub record HasSupplied (h k : Held) : Type 0 where
  pub same : k
      ≡ record h { conn = record h.conn { stage = k.conn.stage; lease = k.conn.lease; entry = k.conn.entry } }
  pub told : ¬ IsAsking k.conn
  pub nearer : to_go k.conn < to_go h.conn

-- a lease was given back or none was, and nothing else changed
pub record HasGivenLease (given : Option (List ℕ)) (entry : Option ℕ) (h k : Held) : Type 0 where
  pub same : k ≡ record h { conn = record h.conn { lease = k.conn.lease; entry = k.conn.entry } }
  pub gives : GivesLease given entry h.conn k.conn

-- a connection may be finished so: it is over with this end, or the end says nothing of its bytes
abbrev pub MayFinish : Finish → ConnState → Type 0
MayFinish (Ended end) c = (end ≢ NoMemory) → c.over ≡ Some end
MayFinish TimedOut c = Unit {0}
MayFinish (TurnedAway cause) c = Unit {0}

-- a wait was counted, where the count isn't at its end
abbrev pub HasCounted : Dir → Went → ℕ → ℕ → Type 0
HasCounted dir went n m =
    ((went ≡ Waits dir) × (m ≡ n + 1) × (n < 2 ^ 64 - 1))
    ⊎ ((went ≡ Over NoMemory) × (m ≡ n) × (n ≡ 2 ^ 64 - 1))

-- a finished connection by its parts
abbrev pub finished_as : Opening → LinkTold → List ℕ → ℕ → ℕ → Finish → FinishedTold
finished_as o link moments bytes waits end =
    record { opening = o; link = link; moments = moments; bytes = bytes; waits = waits; end = end }
