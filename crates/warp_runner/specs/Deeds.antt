-- To be believed: what one run of a job does. A run of a connection brings it on and registers it again with
-- the mark that the run was given, or ends it; a run of the listener accepts one link.
use Rattle.std.specs.Prelude.{◌≡◌, ◌⊎◌, ℕ, ◌+◌, ◌<◌, ◌≤◌, List, [], ◌∷◌, ◌++◌, map, Bool, true, false, Option}
use Rattle.std.specs.Prelude.{Some, None}
use Rattle.reg_keys.specs.declared.opening.Opening.{Opening}
use Rattle.reg_keys.specs.declared.event.EventName.{EventName}
use Rattle.reg_keys.specs.declared.registration.Key.{Key}
use Rattle.reg_keys.specs.declared.registration.Dir.{Dir}
use Rattle.reg_keys.specs.declared.registration.Dir.TheVariants as Dirs
use Rattle.reg_keys.specs.declared.registration.Marks.{Marks}
use Rattle.reg_keys.specs.declared.entry.LoadKind.{LoadKind}
use Rattle.reg_keys.specs.declared.entry.LoadKind.TheVariants as Kinds
use Rattle.reg_keys.specs.declared.entry.Entry.TheVariants as Entries
use Rattle.reg_keys.specs.declared.entry.OpenOutcome.TheVariants as Opens
use Rattle.reg_keys.specs.declared.entry.RegisterOutcome.{RegisterOutcome}
use Rattle.reg_keys.specs.declared.entry.RegisterOutcome.TheVariants as Registers
use Rattle.reg_keys.specs.declared.entry.CloseOutcome.{CloseOutcome}
use Rattle.reg_keys.specs.declared.entry.CloseOutcome.TheVariants as Closes
use Rattle.reg_keys.specs.declared.entry.ShutKey.{ShutKey}
use Rattle.timeout_mgr.specs.declared.view.WatchName.{WatchName}
use Rattle.timeout_mgr.specs.declared.view.TimeCall.{TimeCall}
use Rattle.timeout_mgr.specs.declared.view.TimeCall.TheVariants.{Add, Tickle, Cancel, Sweep}
use Rattle.timeout_mgr.specs.declared.view.AddOutcome.TheVariants as Adds
use Rattle.timeout_mgr.specs.declared.view.CancelOutcome.TheVariants as Cancels
use Rattle.outside.specs.Causes.{LinkTold}
use Rattle.outside.specs.ListenCauses.{ListenerTold}
use Rattle.outside.specs.Counts.{more_by_one}
use Rattle.conn_loop.specs.ConnState.{at_first}
use Rattle.conn_loop.specs.declared.step.End.{End}
use Rattle.conn_loop.specs.declared.step.End.TheVariants.{NoMemory}
use Rattle.warp_tally.specs.declared.calls.TallyCall.{TallyCall}
use Rattle.warp_tally.specs.declared.calls.TallyCall.TheVariants as Tallies
use Rattle.warp_tally.specs.declared.calls.Counted.{Counted}
use Rattle.warp_tally.specs.declared.calls.Counted.TheVariants as Counts
use Rattle.warp_tally.specs.declared.calls.TallyReply.{TallyReply}
use Rattle.warp_books.specs.declared.finish.Turned.TheVariants as Turns
use Rattle.warp_books.specs.declared.finish.Finish.{Finish}
use Rattle.warp_books.specs.declared.finish.Finish.TheVariants.{Ended, TimedOut, TurnedAway}
use Rattle.warp_books.specs.Books.{FinishedTold}
use Rattle.warp_books.specs.Truth.{finished_of}
use Rattle.warp_jobs.specs.Held.{Held}
use Rattle.warp_jobs.specs.HeldListener.{HeldListener}
use Rattle.warp_jobs.specs.Sessions.{first_held}
use Rattle.warp_jobs.specs.Tags.{serve_tag, listen_tag}
use Rattle.warp_runner.specs.Acts.{Acts, nothing, called, counted, found_all_out, watched, then}

-- the codes with which a dispatcher stops: memory was wanted, its poller failed, 1,000 accepts in a
-- row failed, numbers are used up
abbrev pub no_memory : ℕ
no_memory = 6

abbrev pub poll_fault : ℕ
poll_fault = 8

abbrev pub accept_fault : ℕ
accept_fault = 9

abbrev pub spent : ℕ
spent = 10

-- the mark of a direction
abbrev pub mark_at : Dir → Marks → ℕ
mark_at Dirs.Read m = m.read
mark_at Dirs.Write m = m.write

-- the load is the job of a connection that holds this, and its link had to be waited for
-- as often as its number says
abbrev pub IsJobOf : Held → LoadKind → Type 0
IsJobOf h kind = (kind ≡ Kinds.Job (serve_tag h)) × (h.conn.waits ≡ h.number)

-- what is finished of a connection that held this
abbrev pub finished_held : Held → Finish → FinishedTold
finished_held h end = finished_of h.opening h.link h.conn end

-- ---- the end of a connection

-- the calls that cancel a watch: again and again while others are in the way, until the watch is gone
abbrev pub AreCancels : WatchName → List TimeCall → Type 0
AreCancels w [] = ⊥
AreCancels w (c ∷ cs) = (((c ≡ Cancel w Cancels.Cancelled) ⊎ (c ≡ Cancel w Cancels.Gone)) × (cs ≡ []))
    ⊎ ((c ≡ Cancel w Cancels.Again) × AreCancels w cs)

-- the same where there is a watch
abbrev pub AreCancelsOf : Option WatchName → List TimeCall → Type 0
AreCancelsOf None cs = cs ≡ []
AreCancelsOf (Some w) cs = AreCancels w cs

-- what the book is handed: the connection, where its finish counted
abbrev pub handed_by : Counted → FinishedTold → List FinishedTold
handed_by Counts.Yes h = h ∷ []
handed_by Counts.No h = []
handed_by Counts.NoMemory h = []

-- a connection's finish is counted, and the book is handed it where that counted
abbrev pub handing : FinishedTold → TallyReply → Acts
handing h r = record {
  calls = [];
  all_out = 0;
  tallied = record { call = Tallies.Finish h.opening; reply = r } ∷ [];
  timed = [];
  handed = handed_by r.counted h;
}

-- the same, or numbers are used up
abbrev pub IsHanding : FinishedTold → Acts → Option ℕ → Type 0
IsHanding h acts stopped =
    ((r : TallyReply) × (acts ≡ handing h r) × (stopped ≡ None)) ⊎ ((acts ≡ nothing) × (stopped ≡ Some spent))

-- the dispatcher stops as it would have done, or since numbers are used up
abbrev pub Halts : Option ℕ → Option ℕ → Type 0
Halts halt stopped = (stopped ≡ halt) ⊎ (stopped ≡ Some spent)

-- a connection whose opening is closed ends: its watch is cancelled, and then it is handed over
abbrev pub IsParting : WatchName → FinishedTold → Acts → Option ℕ → Type 0
IsParting w h acts stopped =
    (cancels : List TimeCall) × (rest : Acts) × (halt : Option ℕ) × AreCancels w cancels
    × (acts ≡ then (watched cancels) rest) × IsHanding h rest halt × Halts halt stopped

-- a connection ends: its opening is closed, its watch cancelled, and it is handed over, in this order. Where
-- the close finds numbers used up, nothing is done and the dispatcher stops
abbrev pub IsEnding : WatchName → FinishedTold → Acts → Option ℕ → Type 0
IsEnding w h acts stopped =
    ((s : CloseOutcome) × (rest : Acts) × (acts ≡ then (called (Entries.Close h.opening s)) rest)
    × IsParting w h rest stopped)
    ⊎ ((acts ≡ nothing) × (stopped ≡ Some spent))

-- the same of a connection that has no watch
abbrev pub IsEndingBare : FinishedTold → Acts → Option ℕ → Type 0
IsEndingBare h acts stopped =
    ((s : CloseOutcome) × (rest : Acts) × (acts ≡ then (called (Entries.Close h.opening s)) rest)
    × IsHanding h rest stopped)
    ⊎ ((acts ≡ nothing) × (stopped ≡ Some spent))

-- ---- a registration

-- a registration with this outcome
abbrev pub registering : Opening → Dir → Option ℕ → List (List ℕ) → RegisterOutcome → Acts
registering o d m tag out = called (Entries.Register o d m (Kinds.Job tag) out)

-- how a connection ends whose opening was found closed: a sweep gave it, or none did
abbrev pub end_of_shut : Bool → Finish
end_of_shut true = TurnedAway Turns.Shut
end_of_shut false = TimedOut

-- A connection that holds this is registered, in this direction and with this mark, and it waits; or it is
-- refused and ends so. Where the numbers are used up the dispatcher stops
abbrev pub IsRegistering : Held → Dir → Option ℕ → Acts → Option ℕ → Type 0
IsRegistering h d m acts stopped =
    ((key : Key) × (e : Option EventName)
    × (acts ≡ registering h.opening d m (serve_tag h) (Registers.Waits key e)) × (stopped ≡ None))
    ⊎ ((rest : Acts) × (acts ≡ then (registering h.opening d m (serve_tag h) Registers.Crowded) rest)
    × IsEnding h.watch (finished_held h (TurnedAway Turns.Crowded)) rest stopped)
    ⊎ ((alive : Bool) × (rest : Acts)
    × (acts ≡ then (registering h.opening d m (serve_tag h) Registers.Shut)
    (then (watched (Tickle h.watch alive ∷ [])) rest))
    × IsEnding h.watch (finished_held h (end_of_shut alive)) rest stopped)
    ⊎ (((acts ≡ nothing) ⊎ (acts ≡ registering h.opening d m (serve_tag h) Registers.Spent))
    × (stopped ≡ Some spent))

-- ---- a run of a connection

-- a run brought a connection on: it is the same connection, and has these moments more. However far it came,
-- also to an end, its link had to be waited for as often as its number says
pub record IsBroughtOn (h k : Held) : Type 0 where
  pub opening : k.opening ≡ h.opening
  pub plan : k.link.plan ≡ h.link.plan
  pub watch : k.watch ≡ h.watch
  pub asked : List ℕ
  pub moments : k.conn.moments ≡ h.conn.moments ++ asked
  pub counted : k.conn.waits ≡ k.number

-- A run of the connection that held h. Its watch is tickled first, and where that is gone it ends. Else it is
-- brought on; where it is over it ends so, and where its link said in one direction that it must be waited
-- for, it is registered for that direction with the mark that this run was given, under the next number
abbrev pub IsConnectionRun : Held → Marks → Acts → Option ℕ → Type 0
IsConnectionRun h marks acts stopped =
    ((rest : Acts) × (acts ≡ then (watched (Tickle h.watch false ∷ [])) rest)
    × IsEnding h.watch (finished_held h TimedOut) rest stopped)
    ⊎ ((k : Held) × (end : End) × (rest : Acts) × IsBroughtOn h k × (k.number ≡ h.number)
    × (acts ≡ then (watched (Tickle h.watch true ∷ [])) rest)
    × IsEnding h.watch (finished_held k (Ended end)) rest stopped)
    ⊎ ((k : Held) × (dir : Dir) × (rest : Acts) × IsBroughtOn h k × (k.number ≡ h.number + 1)
    × (acts ≡ then (watched (Tickle h.watch true ∷ [])) rest)
    × IsRegistering k dir (Some (mark_at dir marks)) rest stopped)
    ⊎ ((acts ≡ watched (Tickle h.watch true ∷ [])) × (stopped ≡ Some spent))

-- ---- acts that are done in turn

-- Each of these does so and the next one follows, until one stops
abbrev pub InTurn : {A : Type 0} → (A → Acts → Option ℕ → Type 0) → List A → Acts → Option ℕ → Type 0
InTurn Does [] acts stopped = (acts ≡ nothing) × (stopped ≡ None)
InTurn Does (x ∷ xs) acts stopped = ((code : ℕ) × (stopped ≡ Some code) × Does x acts stopped)
    ⊎ ((first : Acts) × (rest : Acts) × Does x first None × (acts ≡ then first rest)
    × InTurn Does xs rest stopped)

-- ---- a sweep

-- what waited under an opening that a sweep gave: a connection ends as timed out; a flag,
-- and a listener's job, are let go
abbrev pub IsLetGo : ShutKey → Acts → Option ℕ → Type 0
IsLetGo x acts stopped =
    ((h : Held) × IsJobOf h x.kind × IsParting h.watch (finished_held h TimedOut) acts stopped)
    ⊎ (((x.kind ≡ Kinds.Flag) ⊎ ((l : HeldListener) × (x.kind ≡ Kinds.Job (listen_tag l))))
    × (acts ≡ nothing) × (stopped ≡ None))

-- what waited as an opening was closed
abbrev pub shut_by : CloseOutcome → List ShutKey
shut_by Closes.NotOpen = []
shut_by (Closes.Shut list) = list

-- an opening that a sweep gave is closed, and what waited there is let go, one after another. Where numbers
-- are used up the dispatcher stops
abbrev pub IsTimingOut : Opening → Acts → Option ℕ → Type 0
IsTimingOut o acts stopped =
    ((s : CloseOutcome) × (rest : Acts) × (acts ≡ then (called (Entries.Close o s)) rest)
    × InTurn IsLetGo (shut_by s) rest stopped)
    ⊎ ((acts ≡ nothing) × (stopped ≡ Some spent))

-- a sweep, and each opening that it gave timed out, one after another
abbrev pub IsSweeping : Acts → Option ℕ → Type 0
IsSweeping acts stopped =
    (given : List Opening) × (rest : Acts) × (acts ≡ then (watched (Sweep given ∷ [])) rest)
    × InTurn IsTimingOut given rest stopped

-- ---- a word with the tally

-- the tally is asked, or told with which code the dispatcher stops; or its cell takes no more calls
abbrev pub IsNote : Acts → Type 0
IsNote acts =
    (acts ≡ nothing)
    ⊎ ((r : TallyReply) × (call : TallyCall)
    × ((call ≡ Tallies.Look) ⊎ ((code : ℕ) × (call ≡ Tallies.Stop code)))
    × (acts ≡ counted (record { call = call; reply = r })))

-- ---- a run of the listener

-- what is finished of a link of which nothing was asked
abbrev pub unserved : Opening → LinkTold → Finish → FinishedTold
unserved o link end = finished_of o link at_first end

-- how a link ends that the poller didn't take, or for which there is no memory
abbrev pub IsUnmade : Finish → Type 0
IsUnmade end = (end ≡ TurnedAway Turns.Poller) ⊎ (end ≡ Ended NoMemory)

-- how a link of an opening that was counted goes on: the poller didn't take it or memory was wanted, and it
-- ends; no watch was free, and it ends; it has a watch and ends for want of memory; or it has one and is
-- registered for reading with no mark
abbrev pub IsEntering : Opening → Acts → Option ℕ → Type 0
IsEntering o acts stopped = (link : LinkTold) × (
    ((end : Finish) × IsUnmade end × IsEndingBare (unserved o link end) acts stopped)
    ⊎ ((rest : Acts) × (acts ≡ then (watched (Add o Adds.Full ∷ [])) rest)
    × IsEndingBare (unserved o link (TurnedAway Turns.Watches)) rest stopped)
    ⊎ ((w : WatchName) × (rest : Acts) × (acts ≡ then (watched (Add o (Adds.Added w) ∷ [])) rest)
    × IsEnding w (unserved o link (Ended NoMemory)) rest stopped)
    ⊎ ((w : WatchName) × (rest : Acts) × (acts ≡ then (watched (Add o (Adds.Added w) ∷ [])) rest)
    × IsRegistering (first_held o link w) Dirs.Read None rest stopped))

-- a link that has an opening is counted and goes on; or it doesn't count, for want of
-- memory, and the dispatcher stops
abbrev pub IsAdmitting : Opening → Acts → Option ℕ → Type 0
IsAdmitting o acts stopped =
    ((r : TallyReply) × (rest : Acts) × (r.counted ≡ Counts.Yes)
    × (acts ≡ then (counted (record { call = Tallies.Accept o; reply = r })) rest)
    × IsEntering o rest stopped)
    ⊎ ((r : TallyReply) × (r.counted ≡ Counts.NoMemory)
    × (acts ≡ counted (record { call = Tallies.Accept o; reply = r })) × (stopped ≡ Some no_memory))
    ⊎ ((acts ≡ nothing) × (stopped ≡ Some spent))

-- a link is turned away, which is counted
abbrev pub IsTurningAway : Acts → Option ℕ → Type 0
IsTurningAway acts stopped =
    ((r : TallyReply) × (acts ≡ counted (record { call = Tallies.TurnAway; reply = r })) × (stopped ≡ None))
    ⊎ ((acts ≡ nothing) × (stopped ≡ Some spent))

-- an opening was refused: all descriptors are open, or the one that was drawn is taken
abbrev pub IsNoOpening : Acts → Type 0
IsNoOpening acts =
    (acts ≡ found_all_out) ⊎ ((o : Opening) × (acts ≡ called (Entries.Open o.fd (Opens.Taken o))))

-- an opening was asked for, and numbers are used up
abbrev pub IsOpeningSpent : Acts → Type 0
IsOpeningSpent acts = (acts ≡ nothing) ⊎ ((fd : ℕ) × (acts ≡ called (Entries.Open fd Opens.Spent)))

-- a link that was accepted gets an opening and goes on; or none is to be had, and it is turned away; or the
-- dispatcher stops, since numbers are used up
abbrev pub IsBeginning : Acts → Option ℕ → Type 0
IsBeginning acts stopped =
    ((o : Opening) × (rest : Acts) × (acts ≡ then (called (Entries.Open o.fd (Opens.Opened o))) rest)
    × IsAdmitting o rest stopped)
    ⊎ ((before : Acts) × (rest : Acts) × IsNoOpening before × (acts ≡ then before rest)
    × IsTurningAway rest stopped)
    ⊎ (IsOpeningSpent acts × (stopped ≡ Some spent))

-- registrations with these outcomes, one after another
abbrev pub tried : Opening → Dir → Option ℕ → List (List ℕ) → List RegisterOutcome → Acts
tried o d m tag outs = record {
  calls = map (λ out. Entries.Register o d m (Kinds.Job tag) out) outs;
  all_out = 0;
  tallied = [];
  timed = [];
  handed = [];
}

-- each was refused
abbrev pub AreRefusals : List RegisterOutcome → Type 0
AreRefusals [] = Unit {0}
AreRefusals (out ∷ outs) = ((out ≡ Registers.Shut) ⊎ (out ≡ Registers.Crowded)) × AreRefusals outs

-- a job is registered, tried again where it is refused, and waits
abbrev pub IsTriedUntilTaken : Opening → Dir → Option ℕ → List (List ℕ) → Acts → Type 0
IsTriedUntilTaken o d m tag acts = (outs : List RegisterOutcome) × AreRefusals outs
    × ((key : Key) × (e : Option EventName)
    × (acts ≡ then (tried o d m tag outs) (registering o d m tag (Registers.Waits key e))))

-- the same until numbers are used up
abbrev pub IsTriedUntilSpent : Opening → Dir → Option ℕ → List (List ℕ) → Acts → Type 0
IsTriedUntilSpent o d m tag acts = (outs : List RegisterOutcome) × AreRefusals outs
    × ((last : Acts) × ((last ≡ nothing) ⊎ (last ≡ registering o d m tag Registers.Spent))
    × (acts ≡ then (tried o d m tag outs) last))

-- the listener is registered for reading with this mark, tried again where it is refused, and waits; where
-- numbers are used up the dispatcher stops
abbrev pub IsListening : HeldListener → Option ℕ → Acts → Option ℕ → Type 0
IsListening l m acts stopped =
    (IsTriedUntilTaken l.opening Dirs.Read m (listen_tag l) acts × (stopped ≡ None))
    ⊎ (IsTriedUntilSpent l.opening Dirs.Read m (listen_tag l) acts × (stopped ≡ Some spent))

-- the listener is closed, or numbers are used up
abbrev pub IsLeaving : HeldListener → Acts → Option ℕ → Type 0
IsLeaving l acts stopped =
    ((s : CloseOutcome) × (acts ≡ called (Entries.Close l.opening s)) × (stopped ≡ None))
    ⊎ ((acts ≡ nothing) × (stopped ≡ Some spent))

-- after a link the listener is closed where it has given as many as it was to, and else
-- registered again, with no mark
abbrev pub IsGoingOn : ℕ → HeldListener → Acts → Option ℕ → Type 0
IsGoingOn limit l acts stopped =
    ((limit ≤ l.accepted) × IsLeaving l acts stopped)
    ⊎ ((l.accepted < limit) × IsListening l None acts stopped)

-- a link that the listener gave begins to be served, and where that didn't stop the
-- dispatcher the listener goes on
abbrev pub IsTakingLink : ℕ → HeldListener → Acts → Option ℕ → Type 0
IsTakingLink limit l acts stopped = (first : Acts) × (halt : Option ℕ) × IsBeginning first halt × (
    ((code : ℕ) × (halt ≡ Some code) × (acts ≡ first) × (stopped ≡ halt))
    ⊎ ((halt ≡ None) × (rest : Acts) × (acts ≡ then first rest) × IsGoingOn limit l rest stopped))

-- after an accept that failed the listener is registered with no mark; or the dispatcher
-- stops, since 1,000 in a row failed
abbrev pub IsFailing : HeldListener → Acts → Option ℕ → Type 0
IsFailing l acts stopped = IsListening l None acts stopped
    ⊎ ((1000 ≤ l.listener.failed_row) × (acts ≡ nothing) × (stopped ≡ Some accept_fault))

-- A run of the listener that held l, after which it holds k. Where it gave a link, that begins to be served
-- and the listener goes on. Where no link was there it is registered with the mark that the run was given.
-- Where the accept failed it is registered with no mark, or the dispatcher stops since 1,000 in a row failed
abbrev pub IsListenerRun : ℕ → HeldListener → Marks → Acts → Option ℕ → Type 0
IsListenerRun limit l marks acts stopped = (k : HeldListener) × (k.opening ≡ l.opening) × (
    ((k.accepted ≡ more_by_one l.accepted) × IsTakingLink limit k acts stopped)
    ⊎ ((k.accepted ≡ l.accepted) × (mark : Option ℕ) × ((mark ≡ Some marks.read) ⊎ (mark ≡ None))
    × IsListening k mark acts stopped)
    ⊎ ((k.accepted ≡ l.accepted) × IsFailing k acts stopped))

-- ---- the beginning

-- openings that were refused, one after another, the latest first in the list
abbrev pub AreNoOpenings : List Acts → Acts → Type 0
AreNoOpenings [] acts = acts ≡ nothing
AreNoOpenings (x ∷ xs) acts =
    (before : Acts) × AreNoOpenings xs before × IsNoOpening x × (acts ≡ then before x)

-- an opening was had after some refusals
abbrev pub IsOpenedAtLast : Opening → Acts → Type 0
IsOpenedAtLast o acts =
    (tries : List Acts) × (before : Acts) × AreNoOpenings tries before
    × (acts ≡ then before (called (Entries.Open o.fd (Opens.Opened o))))

-- none was had, since numbers are used up
abbrev pub IsOpenedNever : Acts → Type 0
IsOpenedNever acts =
    (tries : List Acts) × (before : Acts) × (last : Acts) × AreNoOpenings tries before
    × IsOpeningSpent last × (acts ≡ then before last)

-- the codes with which a dispatcher stops where the poller doesn't take the listener, or
-- memory is wanted for it
abbrev pub IsStartFault : ℕ → Type 0
IsStartFault code = (code ≡ poll_fault) ⊎ (code ≡ no_memory)

-- the listener that came with this and has an opening is registered for reading with no
-- mark; or the dispatcher stops
abbrev pub IsStartingAt : Opening → ListenerTold → Acts → Option ℕ → Type 0
IsStartingAt o listener acts stopped =
    IsListening (record { opening = o; listener = listener; accepted = 0 }) None acts stopped
    ⊎ ((acts ≡ nothing) × (code : ℕ) × IsStartFault code × (stopped ≡ Some code))

-- the listener that came with this gets an opening and is registered; or the dispatcher stops
abbrev pub IsStarting : ListenerTold → Acts → Option ℕ → Type 0
IsStarting listener acts stopped =
    ((o : Opening) × (first : Acts) × (rest : Acts) × IsOpenedAtLast o first × (acts ≡ then first rest)
    × IsStartingAt o listener rest stopped)
    ⊎ (IsOpenedNever acts × (stopped ≡ Some spent))
