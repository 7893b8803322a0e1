-- Inner: what the steps of a connection do to what it holds and to what is told of its link.
use Rattle.std.specs.Prelude.{◌≡◌, ℕ, ◌+◌, ◌^◌, ◌<◌, ◌≤◌, true, false, List, [], ◌∷◌, ◌++◌, length, take}
use Rattle.std.specs.Prelude.{drop, Option, Some, None, IfSome, IsSomeAnd, if◌then◌else◌, min, nat_lt}
use Rattle.outside.specs.Causes.{LinkTold, Read}
use Rattle.outside.specs.Counts.{full}
use Rattle.outside.specs.FileCauses.{FilesTold, ReadPart}
use Rattle.outside.specs.Folder.{Folder, file_at}
use Rattle.outside.specs.declared.link.ReadOut.{ReadOut}
use Rattle.outside.specs.declared.link.ReadOut.TheVariants.{Got, End, NotYet, Failed}
use Rattle.outside.specs.declared.files.PartOut.{PartOut}
use Rattle.outside.specs.declared.files.PartOut.TheVariants as Parts
use Rattle.warp_request.specs.Verdict.{Asked}
use Rattle.warp_response.specs.declared.response.Content.{Content}
use Rattle.warp_response.specs.declared.response.Content.TheVariants as kept
use Rattle.warp_response.specs.declared.response.Response.{Response}
use Rattle.warp_response.specs.Head.{head_text}
use Rattle.warp_response.specs.Reply.{Reply, IsResponseFor, IsSendable, head_of}
use Rattle.warp_response.specs.Text.{refusal_text}
use Rattle.app_trait.specs.declared.app.Move.{Move}
use Rattle.app_trait.specs.declared.app.Move.TheVariants.{Look, Answer}
use Rattle.app_trait.specs.declared.request.Seen.{Seen}
use Rattle.app_trait.specs.Seen.{next_seen}
use Rattle.app_trait.specs.Moves.{Moves, look_at, answer}
use Rattle.conn_loop.specs.declared.step.End.{End as Finish}
use Rattle.app_trait.specs.Shown.{Fits, outline_of}
use Rattle.conn_loop.specs.declared.writing.WriteEnd.{WriteEnd}
use Rattle.conn_loop.specs.declared.writing.WriteEnd.TheVariants.{All, Waits, Fails}
use Rattle.conn_loop.specs.Answers.{closes, last_word}
use Rattle.conn_loop.specs.Replying.{request_of}
use Rattle.conn_loop.specs.declared.phase.Phase.{Phase}
use Rattle.conn_loop.specs.Phases.{IsKept, HasLease, over_in, stage_in}
use Rattle.conn_loop.specs.Stages.{Stage, unread, ready, wanting, sending, unmade, broken, looks_left}
use Rattle.conn_loop.specs.ConnState.{ConnState}
use Rattle.conn_loop.specs.Writing.{Writes}

-- how many bytes a read gave
abbrev pub got_len : ReadOut → ℕ
got_len (Got n) = n
got_len End = 0
got_len NotYet = 0
got_len Failed = 0

-- a read that gave bytes gave some
abbrev pub HasSome : ReadOut → List ℕ → Type 0
HasSome (Got n) piece = 0 < length piece
HasSome End piece = Unit {0}
HasSome NotYet piece = Unit {0}
HasSome Failed piece = Unit {0}

-- a read puts a piece after what was there
pub record Takes (out : ReadOut) (old new : List ℕ) (link later : LinkTold) : Type 0 where
  pub piece : List ℕ
  pub grown : new ≡ old ++ piece
  pub long : length piece ≡ got_len out
  pub some : HasSome out piece
  pub read : Read out piece link later

-- how many bytes of a file a read gave
abbrev pub part_len : PartOut → ℕ
part_len (Parts.Got n) = n
part_len Parts.Failed = 0

-- a read that gave bytes of a file gave some
abbrev pub HasPart : PartOut → List ℕ → Type 0
HasPart (Parts.Got n) piece = 0 < length piece
HasPart Parts.Failed piece = Unit {0}

-- the piece is what the folder has for this path from a place on
abbrev pub IsPartOf : PartOut → Folder → (path : List ℕ) → (at : ℕ) → (piece : List ℕ) → Type 0
IsPartOf (Parts.Got n) folder path at piece =
    IsSomeAnd (file_at folder path) (λ c. piece ≡ take n (drop at c.0))
IsPartOf Parts.Failed folder path at piece = Unit {0}

-- a read of a file puts a piece of at most n bytes after what was there
pub record TakesPart (folder : Option Folder) (path : List ℕ) (at n : ℕ) (out : PartOut)
    (old new : List ℕ) : Type 0 where
  pub piece : List ℕ
  pub grown : new ≡ old ++ piece
  pub long : length piece ≡ part_len out
  pub few : length piece ≤ n
  pub some : HasPart out piece
  pub is : IfSome folder (λ f. IsPartOf out f path at piece)

-- the count of waits after a run of writes
abbrev pub waits_after : WriteEnd → ℕ → ℕ
waits_after All waits = waits
waits_after Waits waits = min (waits + 1) full
waits_after Fails waits = waits

-- the count of waits after a read
abbrev pub waits_read : ReadOut → ℕ → ℕ
waits_read (Got n) waits = waits
waits_read End waits = waits
waits_read NotYet waits = min (waits + 1) full
waits_read Failed waits = waits

-- the size of a content is a number of its type
abbrev pub SizeFits : Content → Type 0
SizeFits kept.None = Unit {0}
SizeFits kept.Empty = Unit {0}
SizeFits (kept.File size send) = size < 2 ^ 64

-- the front of what is to be written was written
pub record Sends (end : WriteEnd) (old new : ConnState) (link later : LinkTold) : Type 0 where
  pub writes : Writes end old.pending new.pending link later
  pub bytes : new.bytes ≡ min (old.bytes + length writes.front) full
  pub waits : new.waits ≡ waits_after end old.waits
  pub same : new ≡ record old { pending = new.pending; bytes = new.bytes; waits = new.waits }

-- the input is refused at a moment, and nothing follows
abbrev pub Refuses : (code moment : ℕ) (old new : ConnState) → Type 0
Refuses code moment old new =
    new ≡ record old {
      pending = old.pending ++ refusal_text code moment;
      moments = old.moments ++ moment ∷ [];
      left = 0;
    }

-- the application asks for a look
pub record AsksToLook (moves : Moves) (old new : ConnState) : Type 0 where
  pub a : Asked
  pub behind : ℕ
  pub seen : Seen
  pub kept : List ℕ
  pub was : old.stage ≡ ready a behind seen kept
  pub path : List ℕ
  pub looks : moves (request_of a) seen ≡ look_at path
  pub same : new ≡ record old { stage = wanting a behind seen path }

-- the application answers
pub record Decides (moves : Moves) (response : Response) (old new : ConnState) : Type 0 where
  pub a : Asked
  pub behind : ℕ
  pub seen : Seen
  pub path : List ℕ
  pub was : old.stage ≡ ready a behind seen path
  pub is : answer (outline_of a.target response) ≡ moves (request_of a) seen
  pub fits : Fits a.target seen response
  pub sendable : IsSendable a.target response
  pub left : List ℕ
  pub same : new ≡ record old { stage = ready a behind seen left }

-- what the application does with the request that is whole
abbrev pub Consults : Moves → Move → (old new : ConnState) → Type 0
Consults moves Look old new = AsksToLook moves old new
Consults moves (Answer response) old new = Decides moves response old new

-- where a connection stands once a head was made with this content
abbrev pub stage_behind : Content → Stage
stage_behind kept.None = unread
stage_behind kept.Empty = unread
stage_behind (kept.File size false) = unread
stage_behind (kept.File size true) = if nat_lt 0 size then sending 0 size else unread

-- a request is answered at a moment, but for its content
pub record Responds (response : Response) (moment : ℕ) (old new : ConnState) : Type 0 where
  pub a : Asked
  pub behind : ℕ
  pub seen : Seen
  pub path : List ℕ
  pub was : old.stage ≡ ready a behind seen path
  pub left : ℕ
  pub counted : old.left ≡ 1 + left
  pub head : List ℕ
  pub sized : SizeFits response.content
  pub head_is : (reply : Reply) → IsResponseFor a.target response reply
      → head ≡ head_text (head_of reply) moment (last_word a left)
  pub same : new ≡ record old {
    input = drop (a.len + behind) old.input;
    stage = stage_behind response.content;
    pending = old.pending ++ head;
    moments = old.moments ++ moment ∷ [];
    left = if closes a left then 0 else left;
  }

-- a content that is sent has this size
abbrev pub SendsSize : Content → Option ℕ → Type 0
SendsSize kept.None lease = Unit {0}
SendsSize kept.Empty lease = Unit {0}
SendsSize (kept.File size false) lease = Unit {0}
SendsSize (kept.File size true) lease = lease ≡ Some size

-- the phase after a head with this content
abbrev pub MakesHead : Content → Phase → Type 0
MakesHead content phase =
    ((input path : List ℕ) → stage_in input path phase ≡ stage_behind content)
    × ((input : List ℕ) (left : ℕ) → IsKept input left phase)
    × (over_in phase ≡ None)
    × ((size : Option ℕ) → (SendsSize content size) → HasLease phase size)

-- where a connection stands once a part was read of a file of this size, from this place on
abbrev pub stage_read : PartOut → (at size : ℕ) → Stage
stage_read (Parts.Got n) at size = if nat_lt (at + n) size then sending (at + n) size else unread
stage_read Parts.Failed at size = broken at

-- a part lies within the file
abbrev pub IsPartWithin : PartOut → (at size : ℕ) → Type 0
IsPartWithin (Parts.Got n) at size = at + n ≤ size
IsPartWithin Parts.Failed at size = Unit {0}

-- the phase once a part was read
abbrev pub HasRead : PartOut → (at size : ℕ) → Phase → Type 0
HasRead part at size phase =
    ((input path : List ℕ) → stage_in input path phase ≡ stage_read part at size)
    × ((input : List ℕ) (left : ℕ) → IsKept input left phase)
    × (over_in phase ≡ None)
    × ((lease : Option ℕ) → lease ≡ Some size → HasLease phase lease)

-- a part of the content was read, or the file failed
pub record ReadsPart (folder : Option Folder) (old new : ConnState) (files since : FilesTold) : Type 0 where
  pub at : ℕ
  pub size : ℕ
  pub was : old.stage ≡ sending at size
  pub inside : at < size
  pub path : List ℕ
  pub lent : old.lease ≡ Some path
  pub most : ℕ
  pub fits : at + most ≤ size
  pub out : PartOut
  pub takes : TakesPart folder path at most out old.pending new.pending
  pub read : ReadPart out files since
  pub same : new ≡ record old { stage = stage_read out at size; pending = new.pending }

-- the look that was asked for found this, and this is the file that is lent, with the entry of its lease
pub record SeesNext (found : Option (ℕ × ℕ)) (lease : Option (List ℕ)) (entry : Option ℕ)
    (old new : ConnState) : Type 0 where
  pub a : Asked
  pub behind : ℕ
  pub seen : Seen
  pub path : List ℕ
  pub was : old.stage ≡ wanting a behind seen path
  pub over : old.over ≡ None
  pub some : 0 < looks_left seen
  pub same : new
      ≡ record old { stage = ready a behind (next_seen seen found) path; lease = lease; entry = entry }

-- the look that was asked for couldn't be made
pub record FailsTo (end : Finish) (old new : ConnState) : Type 0 where
  pub a : Asked
  pub behind : ℕ
  pub seen : Seen
  pub path : List ℕ
  pub was : old.stage ≡ wanting a behind seen path
  pub over : old.over ≡ None
  pub some : 0 < looks_left seen
  pub left : 0 < old.left
  pub same : new ≡ record old { stage = unmade end }
