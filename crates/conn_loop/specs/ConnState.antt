-- Inner: what a connection holds, and for which bytes, taken and sent, it stands.
use Rattle.std.specs.Prelude.{◌≡◌, ℕ, ◌+◌, ◌<◌, Bool, List, [], ◌++◌, length, Option, Some, None, option_map}
use Rattle.std.specs.Prelude.{IfSome, IsSomeAnd, min}
use Rattle.outside.specs.Causes.{LinkTold}
use Rattle.outside.specs.Counts.{full}
use Rattle.outside.specs.Folder.{Folder, Content, file_at}
use Rattle.warp_request.specs.Verdict.{Asked}
use Rattle.warp_response.specs.Reply.{sent_bytes}
use Rattle.app_trait.specs.declared.request.Seen.{Seen}
use Rattle.app_trait.specs.Moves.{Moves, PathKept, RequestText, look_at}
use Rattle.app_trait.specs.ReplyTo.{reply_to, reply_after, SawFound}
use Rattle.conn_loop.specs.declared.step.Step.{Step}
use Rattle.conn_loop.specs.declared.step.Step.TheVariants.{Done}
use Rattle.conn_loop.specs.declared.step.End.{End}
use Rattle.conn_loop.specs.Answers.{limit, answers_of, finals_of, finals_within, closed_within, rest_of}
use Rattle.conn_loop.specs.Answers.{rest_within}
use Rattle.conn_loop.specs.Ends.{StepImplies, SendsPrefix, GoesOn, WhereTold}
use Rattle.conn_loop.specs.Replying.{Serving, replies, serving_over, request_of}
use Rattle.conn_loop.specs.Stages.{Stage, unread, short, reading, refusing, ready, wanting, sending, unmade}
use Rattle.conn_loop.specs.Stages.{broken, finished, LiesAhead, answers_left, leased_bytes, unread_at}

-- what a connection holds
pub record ConnState : Type 0 where
  -- bytes that were read and aren't answered, but for those of a body that were passed over
  pub input : List ℕ
  -- where it stands with the request at their front
  pub stage : Stage
  -- bytes of answers that were made and aren't written
  pub pending : List ℕ
  -- the path of the file that is lent to it
  pub lease : Option (List ℕ)
  -- the number of the cache's entry of that lease, where it names one
  pub entry : Option ℕ
  -- the moments at which the final answers so far were made
  pub moments : List ℕ
  -- how many final answers may follow
  pub left : ℕ
  -- how the connection ended, once it has
  pub over : Option End
  -- how many bytes were written, as far as the count goes
  pub bytes : ℕ
  -- how many of the link's answers were `NotYet`, as far as the count goes
  pub waits : ℕ

-- a connection that has read nothing and written nothing
abbrev pub at_first : ConnState
at_first = record {
  input = [];
  stage = unread;
  pending = [];
  lease = None;
  entry = None;
  moments = [];
  left = limit;
  over = None;
  bytes = 0;
  waits = 0;
}

-- the lease that a connection holds: the path of its file, and its entry
abbrev pub held_lease : ConnState → Option (List ℕ) × Option ℕ
held_lease c = (c.lease, c.entry)

-- no lease is held
abbrev pub HoldsNothing : ConnState → Type 0
HoldsNothing c = (c.lease ≡ None) × (c.entry ≡ None)

-- the counts of a connection are those of its link
pub record Counted (c : ConnState) (link : LinkTold) : Type 0 where
  pub waits : c.waits ≡ min (link.waits.reads + link.waits.writes) full
  pub bytes : IfSome link.sent (λ s. c.bytes ≡ min (length s) full)

-- what the last look found is the file at this path
abbrev pub IsAt : Folder → Option Content → Option (List ℕ) → Type 0
IsAt folder None path = Unit {0}
IsAt folder (Some content) path = IsSomeAnd path (λ p. file_at folder p ≡ Some content)

-- what the looks so far have found, and the reply that is still to come is the whole reply
pub record HasLooked (moves : Moves) (folder : Folder) (request : RequestText) (seen : Seen)
    (path : Option (List ℕ)) : Type 0 where
  pub found : Option Content
  pub saw : SawFound seen found
  pub at : IsAt folder found path
  pub same : reply_after moves folder request seen found ≡ reply_to moves folder request

-- a look is asked for, and the reply that is still to come is the whole reply
pub record HasAsked (moves : Moves) (folder : Folder) (request : RequestText) (seen : Seen)
    (path : List ℕ) : Type 0 where
  pub found : Option Content
  pub looks : moves request seen ≡ look_at path
  pub same : reply_after moves folder request seen found ≡ reply_to moves folder request

-- what is sent is the content of a reply, which is that of the lease's file
pub record IsSending (serving : Serving) (lease : Option (List ℕ)) : Type 0 where
  pub a : Asked
  pub content : sent_bytes (replies serving a).content ≡ leased_bytes serving.folder lease

-- what is known at each stage of the looks for a file and of its content
abbrev pub Looks : Serving → Stage → Option (List ℕ) → Type 0
Looks serving unread lease = Unit {0}
Looks serving short lease = Unit {0}
Looks serving (reading a reader room) lease = Unit {0}
Looks serving (refusing code) lease = Unit {0}
Looks serving (ready a behind seen path) lease =
    HasLooked serving.moves serving.folder (request_of a) seen lease
Looks serving (wanting a behind seen path) lease =
    HasAsked serving.moves serving.folder (request_of a) seen path
Looks serving (sending at size) lease =
    IsSending serving lease × (length (leased_bytes serving.folder lease) ≡ size)
Looks serving (unmade end) lease = Unit {0}
Looks serving (broken at) lease = IsSending serving lease × (at < length (leased_bytes serving.folder lease))
Looks serving finished lease = Unit {0}

-- what is to be written, whether it was read from its file or not
abbrev pub due_of : Serving → ConnState → List ℕ
due_of serving c = c.pending ++ unread_at c.stage serving.folder c.lease

-- What was taken is accounted for: whatever bytes and moments follow, the answers to all of it are what was
-- sent, what is to be written, and the answers to the bytes ahead, which aren't answered.
pub record Accounts (serving : Serving) (c : ConnState) (taken sent : List ℕ) : Type 0 where
  pub ahead : List ℕ
  -- whether the interim answer to the first request among them was given, if one is due
  pub given : Bool
  pub lies : LiesAhead c.stage given c.input ahead
  pub looks : Looks serving c.stage c.lease
  pub answered : (more later : List ℕ)
      → answers_of (replies serving) (taken ++ more) (c.moments ++ later)
      ≡ (sent ++ due_of serving c) ++ answers_left given (replies serving) c.left (ahead ++ more) later
  pub counted : (more : List ℕ)
      → finals_of (taken ++ more) ≡ length c.moments + finals_within c.left (ahead ++ more)
  pub closing : (more : List ℕ) → closed_within limit (taken ++ more) ≡ closed_within c.left (ahead ++ more)
  pub resting : (more : List ℕ) → rest_of (taken ++ more) ≡ rest_within c.left (ahead ++ more)

-- the link goes on, or the step that was answered says so
abbrev pub HoldsAt : Option Step → Serving → (moments taken sent : List ℕ) → Option Bool → Type 0
HoldsAt None serving moments taken sent ended = GoesOn ended
HoldsAt (Some step) serving moments taken sent ended =
    StepImplies step (replies serving) moments taken sent ended

-- what was taken is accounted for, unless the connection is over
abbrev pub AccountsUnless : Option End → Serving → ConnState → (taken sent : List ℕ) → Type 0
AccountsUnless None serving c taken sent = Accounts serving c taken sent
AccountsUnless (Some end) serving c taken sent = Unit {0}

-- a connection stands for the bytes taken and sent; unless it is over, its link hasn't ended
pub record RepresentsBytes (serving : Serving) (c : ConnState) (taken sent : List ℕ)
    (ended : Option Bool) : Type 0 where
  pub accounts : AccountsUnless c.over serving c taken sent
  pub prefix : SendsPrefix (replies serving) c.moments taken sent
  pub at : HoldsAt (option_map Done c.over) serving c.moments taken sent ended

-- the path that is asked for is one that the application looks for, and it stays until the
-- application is told what was found
abbrev pub AsksFor : Moves → Stage → Type 0
AsksFor moves unread = Unit {0}
AsksFor moves short = Unit {0}
AsksFor moves (reading a reader room) = Unit {0}
AsksFor moves (refusing code) = Unit {0}
AsksFor moves (ready a behind seen path) = PathKept (moves (request_of a)) seen path
AsksFor moves (wanting a behind seen path) = moves (request_of a) seen ≡ look_at path
AsksFor moves (sending at size) = Unit {0}
AsksFor moves (unmade end) = Unit {0}
AsksFor moves (broken at) = Unit {0}
AsksFor moves finished = Unit {0}

-- a connection stands for what its link tells, with an application over a folder
pub record Represents (moves : Moves) (folder : Option Folder) (c : ConnState)
    (link : LinkTold) : Type 0 where
  pub stands : WhereTold (serving_over moves folder) link (λ v t s. RepresentsBytes v c t s link.ended)
  pub asks : AsksFor moves c.stage

-- what its link tells as sent is a prefix of the answers
abbrev pub SendsPrefixFor : Option Serving → ConnState → LinkTold → Type 0
SendsPrefixFor serving c link = WhereTold serving link (λ v t s. SendsPrefix (replies v) c.moments t s)

-- the step says so of what its link tells
abbrev pub StepImpliesFor : Step → Option Serving → ConnState → LinkTold → Type 0
StepImpliesFor step serving c link =
    WhereTold serving link (λ v t s. StepImplies step (replies v) c.moments t s link.ended)

-- a file is asked for, and nothing was supplied since
abbrev pub IsAskingStage : Stage → Type 0
IsAskingStage unread = ⊥
IsAskingStage short = ⊥
IsAskingStage (reading a reader room) = ⊥
IsAskingStage (refusing code) = ⊥
IsAskingStage (ready a behind seen path) = ⊥
IsAskingStage (wanting a behind seen path) = Unit {0}
IsAskingStage (sending at size) = ⊥
IsAskingStage (unmade end) = ⊥
IsAskingStage (broken at) = ⊥
IsAskingStage finished = ⊥

-- the path that is asked for
abbrev pub path_asked_at : Stage → List ℕ
path_asked_at unread = []
path_asked_at short = []
path_asked_at (reading a reader room) = []
path_asked_at (refusing code) = []
path_asked_at (ready a behind seen path) = []
path_asked_at (wanting a behind seen path) = path
path_asked_at (sending at size) = []
path_asked_at (unmade end) = []
path_asked_at (broken at) = []
path_asked_at finished = []

abbrev pub IsAsking : ConnState → Type 0
IsAsking c = IsAskingStage c.stage

abbrev pub path_asked : ConnState → List ℕ
path_asked c = path_asked_at c.stage
