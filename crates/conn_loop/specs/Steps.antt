-- Inner: how far a part of a call brings a connection: it goes on, or a step is answered.
use Rattle.std.specs.Prelude.{◌≡◌, ◌≢◌, ◌↔◌, ℕ, ◌+◌, ◌*◌, ◌<◌, ◌≤◌, List, Bool, Option, Some, None, IfSome}
use Rattle.std.specs.Prelude.{length}
use Rattle.outside.specs.Causes.{LinkTold, KeepsLink}
use Rattle.outside.specs.FileCauses.{FilesTold}
use Rattle.conn_loop.specs.declared.step.Step.{Step}
use Rattle.conn_loop.specs.declared.step.Step.TheVariants.{WantRead, WantWrite, WantFile, Done}
use Rattle.conn_loop.specs.declared.phase.Duty.{Duty}
use Rattle.conn_loop.specs.declared.phase.Duty.TheVariants as Duties
use Rattle.outside.specs.declared.link.ReadOut.{ReadOut}
use Rattle.outside.specs.declared.link.ReadOut.TheVariants as read
use Rattle.conn_loop.specs.Stages.{Stage, unread, short, reading, refusing, ready, wanting, sending, unmade}
use Rattle.conn_loop.specs.Stages.{broken, finished, body_steps, grown, steps_left, failing, FailsBy}
use Rattle.conn_loop.specs.Stages.{HasNoContent}
use Rattle.conn_loop.specs.declared.step.End.{End}
use Rattle.conn_loop.specs.declared.step.End.TheVariants.{Clean, Cut, ReadFault, WriteFault, FileFault}
use Rattle.conn_loop.specs.declared.step.End.TheVariants.{NoMemory}
use Rattle.conn_loop.specs.Causes.{HasFault, CountsWaits, Keeps}
use Rattle.app_trait.specs.Moves.{Moves}
use Rattle.app_trait.specs.Shown.{Fits}
use Rattle.app_trait.specs.declared.app.Move.{Move}
use Rattle.app_trait.specs.declared.app.Move.TheVariants.{Look, Answer}
use Rattle.app_trait.specs.declared.request.Seen.{Seen}
use Rattle.app_trait.specs.declared.request.Seen.TheVariants.{Nothing}
use Rattle.warp_request.specs.Verdict.{Asked}
use Rattle.warp_response.specs.declared.response.Response.{Response}
use Rattle.warp_response.specs.Reply.{IsSendable}
use Rattle.conn_loop.specs.Ends.{WhereTold}
use Rattle.conn_loop.specs.Replying.{Serving}
use Rattle.conn_loop.specs.ConnState.{ConnState, Accounts, AsksFor, Counted, HoldsAt, IsAsking, held_lease}

-- what was taken is accounted for; the connection goes on, or answers a step that says so
pub record Comes (result : Option Step) (serving : Serving) (c : ConnState) (taken sent : List ℕ)
    (ended : Option Bool) : Type 0 where
  pub accounts : Accounts serving c taken sent
  pub at : HoldsAt result serving c.moments taken sent ended

-- the same of what its link tells
abbrev pub ComesFor : Option Step → Option Serving → ConnState → LinkTold → Type 0
ComesFor result serving c link = WhereTold serving link (λ v t s. Comes result v c t s link.ended)

-- a wait was counted where one is answered, and else none
abbrev pub CountsFor : Option Step → (link later : LinkTold) → Type 0
CountsFor None link later = later.waits ≡ link.waits
CountsFor (Some step) link later = CountsWaits step link later

-- a part of a call that files have no part in: a step that is answered has its cause in the link's counts
pub record Goes (result : Option Step) (old new : ConnState) (link later : LinkTold) : Type 0 where
  pub keeps : KeepsLink link later
  pub cause : (files since : FilesTold)
      → IfSome result (λ step. HasFault step (failing old.stage) link later files since)
  pub counts : CountsFor result link later
  pub counted : Counted old link → Counted new later
  pub stays : failing new.stage ≡ failing old.stage
  pub file : result ≡ Some WantFile → IsAsking new

-- the same, over files
pub record GoesOver (result : Option Step) (old new : ConnState) (link later : LinkTold)
    (files since : FilesTold) : Type 0 where
  pub keeps : Keeps link later files since
  pub cause : IfSome result (λ step. HasFault step (failing old.stage) link later files since)
  pub fails : FailsBy (failing old.stage) (failing new.stage) files.faults since.faults
  pub counts : CountsFor result link later
  pub counted : Counted old link → Counted new later
  pub file : result ≡ Some WantFile → IsAsking new

-- a connection is to come to this end once what was made is written
pub record IsFailing (end : End) (c : ConnState) : Type 0 where
  pub fails : failing c.stage ≡ Some end
  pub some : HasNoContent c.stage → 0 < c.left

-- how a connection may end once its answers are written
abbrev pub MayEnd : End → ConnState → Type 0
MayEnd Clean c = (c.left ≡ 0) × HasNoContent c.stage
MayEnd Cut c = ⊥
MayEnd ReadFault c = ⊥
MayEnd WriteFault c = ⊥
MayEnd FileFault c = IsFailing FileFault c
MayEnd NoMemory c = IsFailing NoMemory c

-- it ends so, or a step comes that its link is the cause of
pub record EndsWith (end : End) (result : Step) (old new : ConnState) (link later : LinkTold) : Type 0 where
  pub keeps : KeepsLink link later
  pub cause : (files since : FilesTold) → HasFault (Done end) (failing old.stage) link later files since
      → HasFault result (failing old.stage) link later files since
  pub counts : CountsWaits result link later
  pub counted : Counted old link → Counted new later
  pub stays : failing new.stage ≡ failing old.stage
  pub file : result ≢ WantFile

-- where a part of a call leaves a connection: it isn't over, it holds the lease that it held, it asks for
-- what the application looks for, and it asks for a file exactly where that is answered
pub record Proceeds (moves : Moves) (result : Option Step) (old new : ConnState) : Type 0 where
  pub over : new.over ≡ old.over
  pub lent : held_lease new ≡ held_lease old
  pub asks : AsksFor moves new.stage
  pub file : (result ≡ Some WantFile) ↔ IsAsking new

-- a stage from which the connection comes to its next answer
abbrev pub IsPlain : Stage → Type 0
IsPlain unread = Unit {0}
IsPlain short = Unit {0}
IsPlain (reading a reader room) = Unit {0}
IsPlain (refusing code) = Unit {0}
IsPlain (ready a behind seen path) = Unit {0}
IsPlain (wanting a behind seen path) = ⊥
IsPlain (sending at size) = ⊥
IsPlain (unmade end) = ⊥
IsPlain (broken at) = ⊥
IsPlain finished = ⊥

-- a stage in which the body of a request was begun: it is read on, or refused, or the request is
-- whole and nothing was looked for
abbrev pub IsBegun : Stage → Type 0
IsBegun unread = ⊥
IsBegun short = ⊥
IsBegun (reading a reader room) = Unit {0}
IsBegun (refusing code) = Unit {0}
IsBegun (ready a behind seen path) = seen ≡ Nothing
IsBegun (wanting a behind seen path) = ⊥
IsBegun (sending at size) = ⊥
IsBegun (unmade end) = ⊥
IsBegun (broken at) = ⊥
IsBegun finished = ⊥

-- the content of a file is sent
abbrev pub IsSendingStage : Stage → Type 0
IsSendingStage stage = (at size : ℕ) × (stage ≡ sending at size)

-- a part of the content of a file was read, or wasn't
abbrev pub IsSendingOut : Stage → Type 0
IsSendingOut unread = Unit {0}
IsSendingOut short = ⊥
IsSendingOut (reading a reader room) = ⊥
IsSendingOut (refusing code) = ⊥
IsSendingOut (ready a behind seen path) = ⊥
IsSendingOut (wanting a behind seen path) = ⊥
IsSendingOut (sending at size) = Unit {0}
IsSendingOut (unmade end) = ⊥
IsSendingOut (broken at) = Unit {0}
IsSendingOut finished = ⊥

-- the request that is whole can be answered by this response
abbrev pub CanSend : Response → Stage → Type 0
CanSend response stage =
    (a : Asked) × (behind : ℕ) × (seen : Seen) × (path : List ℕ) × (stage ≡ ready a behind seen path)
    × Fits a.target seen response × IsSendable a.target response

-- the target of the request that is whole has this length
abbrev pub HasTarget : ℕ → Stage → Type 0
HasTarget n stage =
    (a : Asked) × (behind : ℕ) × (seen : Seen) × (path : List ℕ) × (stage ≡ ready a behind seen path)
    × (n ≡ length a.target)

-- there is room for any head that answers the request that is whole
abbrev pub HasWay : ConnState → Type 0
HasWay c =
    (a : Asked) × (behind : ℕ) × (seen : Seen) × (path : List ℕ) × (c.stage ≡ ready a behind seen path)
    × (length c.pending + (512 + 2 * length a.target) ≤ 16896)

-- what an application answers can be sent
abbrev pub SendableMove : List ℕ → Move → Type 0
SendableMove target Look = Unit {0}
SendableMove target (Answer response) = IsSendable target response

-- what a connection is to do next
abbrev pub DutyOf : Duty → ConnState → Type 0
DutyOf Duties.Answer c = (0 < c.left) × IsPlain c.stage
DutyOf Duties.Wait c = IsAsking c × (0 < c.left)
DutyOf Duties.Send c = IsSendingStage c.stage
DutyOf (Duties.End end) c = MayEnd end c × ¬ IsAsking c

-- how many steps are left until the connection closes, at most
abbrev pub to_go : ConnState → ℕ
to_go c = c.left * (2 * body_steps) + steps_left c.stage c.input

-- where the connection stands once a step was answered
abbrev pub stage_kept : Step → Stage → Stage
stage_kept WantRead stage = stage
stage_kept WantWrite stage = stage
stage_kept WantFile stage = stage
stage_kept (Done end) stage = finished

-- where it stands after a read
abbrev pub stage_after : ReadOut → Stage → Stage
stage_after (read.Got n) stage = grown stage
stage_after read.End stage = stage
stage_after read.NotYet stage = stage
stage_after read.Failed stage = stage
