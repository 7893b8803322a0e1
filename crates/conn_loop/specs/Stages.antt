-- Inner: where a connection stands with the request at the front of its input, and which
-- bytes aren't answered there.
use Rattle.std.specs.Prelude.{◌≡◌, ◌⊎◌, ℕ, ◌+◌, ◌*◌, ◌-◌, ◌^◌, ◌≤◌, Bool, true, false, List, [], ◌++◌, length}
use Rattle.std.specs.Prelude.{take, drop, Option, Some, None}
use Rattle.outside.specs.Folder.{Content, Folder, file_at}
use Rattle.outside.specs.Counts.{Rises}
use Rattle.app_trait.specs.declared.request.Seen.{Seen}
use Rattle.app_trait.specs.declared.request.Seen.TheVariants.{Nothing, FirstFound, FirstAbsent, SecondFound}
use Rattle.app_trait.specs.declared.request.Seen.TheVariants.{SecondAbsent}
use Rattle.conn_loop.specs.declared.step.End.{End}
use Rattle.conn_loop.specs.declared.step.End.TheVariants.{FileFault}
use Rattle.warp_request.specs.declared.body_reader.BodyReader.{BodyReader}
use Rattle.warp_request.specs.declared.verdict.Framing.{Framing}
use Rattle.warp_request.specs.declared.verdict.Framing.TheVariants as framings
use Rattle.warp_request.specs.Body.{body_of}
use Rattle.warp_request.specs.Body as body
use Rattle.warp_request.specs.BodyReader.{Represents as Reads}
use Rattle.warp_request.specs.Next.{next_of}
use Rattle.warp_request.specs.Verdict.{Asked, more, asked}
use Rattle.warp_response.specs.Reply.{Reply}
use Rattle.warp_request.specs.LimitsAndWords.{head_limit}
use Rattle.conn_loop.specs.declared.bodies.TheConstants.{CHUNKED_LIMIT}
use Rattle.conn_loop.specs.declared.limits.TheConstants.{ROOM}
use Rattle.conn_loop.specs.Answers.{answers_within, answers_behind}
use Rattle.conn_loop.specs.FirstRequest.{first_request}
use Rattle.conn_loop.specs.FirstRequest as front

pub data Stage : Type 0 where
  -- what the input begins with isn't known
  unread : Stage
  -- the input is too little to say
  short : Stage
  -- the body of the request whose head is at the front of the input is read, and at most
  -- this many more bytes belong to it
  reading : Asked → BodyReader → ℕ → Stage
  -- the input is refused
  refusing : ℕ → Stage
  -- the request whose head is at the front of the input is whole, with this many bytes of the input after the
  -- head, and its looks for files, the last of which was for this path, have found this
  ready : Asked → ℕ → Seen → List ℕ → Stage
  -- the same, and a look for this path is asked for
  wanting : Asked → ℕ → Seen → List ℕ → Stage
  -- the content of the lease's file, which has this size, is to be sent from this place on
  sending : ℕ → ℕ → Stage
  -- the request that is whole can't be answered: once what was made is written, the connection ends so
  unmade : End → Stage
  -- the file failed whose content was to be sent from this place on: once what was made
  -- is written, the connection ends
  broken : ℕ → Stage
  -- the connection is over
  finished : Stage

-- the answers to bytes of whose first request the interim answer was given, if one is due, or wasn't
abbrev pub answers_left : (given : Bool) → (Asked → Reply) → ℕ → List ℕ → List ℕ → List ℕ
answers_left true reply left s moments = answers_behind reply left s moments
answers_left false reply left s moments = answers_within reply left s moments

-- The unanswered bytes while a body is read: the head at the front of the input, what the reader was fed,
-- which isn't kept, and the rest of the input.
pub record IsReading (a : Asked) (reader : BodyReader) (input ahead : List ℕ) : Type 0 where
  pub fed : List ℕ
  pub parts : ahead ≡ take a.len input ++ (fed ++ drop a.len input)
  pub inside : a.len ≤ length input
  pub stands : Reads reader a.framing fed
  pub goes_on : body_of a.framing fed ≡ body.more
  pub asks : (t : List ℕ) → next_of (ahead ++ t) ≡ asked a

-- they begin with a whole request, after which the rest of the input follows
pub record IsReady (a : Asked) (behind : ℕ) (input ahead : List ℕ) : Type 0 where
  pub len : ℕ
  pub inside : a.len + behind ≤ length input
  pub fits : len ≤ length ahead
  pub rest : drop len ahead ≡ drop (a.len + behind) input
  pub is_whole : (t : List ℕ) → first_request (ahead ++ t) ≡ front.whole a len

-- they begin with a whole request
pub record HasWhole (ahead : List ℕ) : Type 0 where
  pub a : Asked
  pub len : ℕ
  pub is_whole : (t : List ℕ) → first_request (ahead ++ t) ≡ front.whole a len

-- these are the bytes that aren't answered, and the interim answer to the first request
-- among them was given or not
abbrev pub LiesAhead : Stage → (given : Bool) → (input ahead : List ℕ) → Type 0
LiesAhead unread given input ahead = (given ≡ false) × (ahead ≡ input)
LiesAhead short given input ahead = (given ≡ false) × (ahead ≡ input) × (next_of input ≡ more)
LiesAhead (reading a reader room) given input ahead = (given ≡ true) × IsReading a reader input ahead
LiesAhead (refusing code) given input ahead =
    (given ≡ true) × ((t : List ℕ) → first_request (ahead ++ t) ≡ front.refused code)
LiesAhead (ready a behind seen path) given input ahead = (given ≡ true) × IsReady a behind input ahead
LiesAhead (wanting a behind seen path) given input ahead = (given ≡ true) × IsReady a behind input ahead
LiesAhead (sending at size) given input ahead = (given ≡ false) × (ahead ≡ input)
LiesAhead (unmade end) given input ahead = (given ≡ true) × HasWhole ahead
LiesAhead (broken at) given input ahead = (given ≡ false) × (ahead ≡ input)
LiesAhead finished given input ahead = Unit {0}

-- no body of this framing has more bytes
abbrev pub most_of : Framing → ℕ
most_of framings.None = 0
most_of (framings.Length n) = n
most_of framings.Chunked = CHUNKED_LIMIT

-- a reader was fed some bytes of a body of this framing, and at most this many more belong to it
pub record HasRoom (reader : BodyReader) (framing : Framing) (room : ℕ) : Type 0 where
  pub fed : List ℕ
  pub stands : Reads reader framing fed
  pub counted : length fed + room ≡ most_of framing

-- where it stands when more bytes came: what was too little to say is to be judged anew
abbrev pub grown : Stage → Stage
grown unread = unread
grown short = unread
grown (reading a reader room) = reading a reader room
grown (refusing code) = refusing code
grown (ready a behind seen path) = ready a behind seen path
grown (wanting a behind seen path) = wanting a behind seen path
grown (sending at size) = sending at size
grown (unmade end) = unmade end
grown (broken at) = broken at
grown finished = finished

-- no body is read, and no request is about to be answered
abbrev pub IsBetween : Stage → Type 0
IsBetween unread = Unit {0}
IsBetween short = Unit {0}
IsBetween (reading a reader room) = ⊥
IsBetween (refusing code) = ⊥
IsBetween (ready a behind seen path) = ⊥
IsBetween (wanting a behind seen path) = ⊥
IsBetween (sending at size) = ⊥
IsBetween (unmade end) = ⊥
IsBetween (broken at) = ⊥
IsBetween finished = ⊥

-- all of a body that came was read
abbrev pub IsReadUp : Stage → List ℕ → Type 0
IsReadUp unread input = Unit {0}
IsReadUp short input = Unit {0}
IsReadUp (reading a reader room) input = length input ≡ a.len
IsReadUp (refusing code) input = Unit {0}
IsReadUp (ready a behind seen path) input = Unit {0}
IsReadUp (wanting a behind seen path) input = Unit {0}
IsReadUp (sending at size) input = Unit {0}
IsReadUp (unmade end) input = Unit {0}
IsReadUp (broken at) input = Unit {0}
IsReadUp finished input = Unit {0}

-- more bytes are wanted, and there is room for them
abbrev pub IsWanting : Stage → List ℕ → Type 0
IsWanting unread input = ⊥
IsWanting short input = length input ≤ head_limit
IsWanting (reading a reader room) input = (length input ≤ head_limit) × (length input ≡ a.len)
IsWanting (refusing code) input = ⊥
IsWanting (ready a behind seen path) input = ⊥
IsWanting (wanting a behind seen path) input = ⊥
IsWanting (sending at size) input = ⊥
IsWanting (unmade end) input = ⊥
IsWanting (broken at) input = ⊥
IsWanting finished input = ⊥

-- a whole request is to be answered
abbrev pub IsReadyStage : Stage → Type 0
IsReadyStage unread = ⊥
IsReadyStage short = ⊥
IsReadyStage (reading a reader room) = ⊥
IsReadyStage (refusing code) = ⊥
IsReadyStage (ready a behind seen path) = Unit {0}
IsReadyStage (wanting a behind seen path) = ⊥
IsReadyStage (sending at size) = ⊥
IsReadyStage (unmade end) = ⊥
IsReadyStage (broken at) = ⊥
IsReadyStage finished = ⊥

-- more steps than any body takes: each of its bytes takes two at most, and it has fewer than 2^64
abbrev pub body_steps : ℕ
body_steps = 2 ^ 65 + 8

-- how many looks may follow
abbrev pub looks_left : Seen → ℕ
looks_left Nothing = 2
looks_left (FirstFound size mtime) = 1
looks_left FirstAbsent = 1
looks_left (SecondFound size mtime) = 0
looks_left SecondAbsent = 0

-- Steps that are left until a request is answered whole, at most: a bound that each step
-- of a connection makes smaller.
abbrev pub steps_left : Stage → List ℕ → ℕ
steps_left unread input = body_steps + 2 * (ROOM - length input) + 1
steps_left short input = body_steps + 2 * (ROOM - length input)
steps_left (reading a reader room) input = 2 * room + (1 - length (drop a.len input)) + 6
steps_left (refusing code) input = 0
steps_left (ready a behind seen path) input = 2 * looks_left seen + 1
steps_left (wanting a behind seen path) input = 2 * looks_left seen
steps_left (sending at size) input = (size - at) + (body_steps + 2 * ROOM + 2)
steps_left (unmade end) input = 0
steps_left (broken at) input = 0
steps_left finished input = 0

-- no content of a file is to be sent
abbrev pub HasNoContent : Stage → Type 0
HasNoContent unread = Unit {0}
HasNoContent short = Unit {0}
HasNoContent (reading a reader room) = Unit {0}
HasNoContent (refusing code) = Unit {0}
HasNoContent (ready a behind seen path) = Unit {0}
HasNoContent (wanting a behind seen path) = Unit {0}
HasNoContent (sending at size) = ⊥
HasNoContent (unmade end) = Unit {0}
HasNoContent (broken at) = ⊥
HasNoContent finished = Unit {0}

-- the bytes of a file, and none where there is none
abbrev pub bytes_of : Option Content → List ℕ
bytes_of None = []
bytes_of (Some content) = content.0

-- the bytes of the lease's file
abbrev pub leased_bytes : Folder → Option (List ℕ) → List ℕ
leased_bytes folder None = []
leased_bytes folder (Some path) = bytes_of (file_at folder path)

-- what is to be sent of the last answer and wasn't read from its file
abbrev pub unread_at : Stage → Folder → Option (List ℕ) → List ℕ
unread_at unread folder lease = []
unread_at short folder lease = []
unread_at (reading a reader room) folder lease = []
unread_at (refusing code) folder lease = []
unread_at (ready a behind seen path) folder lease = []
unread_at (wanting a behind seen path) folder lease = []
unread_at (sending at size) folder lease = drop at (leased_bytes folder lease)
unread_at (unmade end) folder lease = []
unread_at (broken at) folder lease = drop at (leased_bytes folder lease)
unread_at finished folder lease = []

-- the end that the connection comes to once what was made is written, where a file has
-- failed or memory was wanted
abbrev pub failing : Stage → Option End
failing unread = None
failing short = None
failing (reading a reader room) = None
failing (refusing code) = None
failing (ready a behind seen path) = None
failing (wanting a behind seen path) = None
failing (sending at size) = None
failing (unmade end) = Some end
failing (broken at) = Some FileFault
failing finished = None

-- a connection that fails failed before, or a file failed just now
abbrev pub FailsBy : (old new : Option End) → (faults since : ℕ) → Type 0
FailsBy old new faults since = (new ≡ old) ⊎ ((new ≡ Some FileFault) × Rises faults since)

-- what was seen last is a file
abbrev pub is_found : Seen → Bool
is_found Nothing = false
is_found (FirstFound size mtime) = true
is_found FirstAbsent = false
is_found (SecondFound size mtime) = true
is_found SecondAbsent = false

-- a connection that stands there needs the file that is lent to it
abbrev pub needs_file : Stage → Bool
needs_file unread = false
needs_file short = false
needs_file (reading a reader room) = false
needs_file (refusing code) = false
needs_file (ready a behind seen path) = is_found seen
needs_file (wanting a behind seen path) = false
needs_file (sending at size) = true
needs_file (unmade end) = false
needs_file (broken at) = true
needs_file finished = false
