-- To be believed: what a state says of a body (`state_verdict`); the rest is how a reader
-- represents the bytes that it used.
use Rattle.std.specs.Prelude.{◌≡◌, ℕ, suc, ◌+◌, ◌<◌, ◌≤◌, ◌^◌, true, false, List, ◌∷◌, ◌++◌, Option, Some}
use Rattle.std.specs.Prelude.{None, length, drop}
use Rattle.std.specs.List.{list_all}
use Rattle.httparse.specs.Ascii.{carriage_return}
use Rattle.warp_request.specs.declared.body_place.BodyPlace.{BodyPlace}
use Rattle.warp_request.specs.declared.body_place.BodyPlace.TheVariants as Places
use Rattle.warp_request.specs.declared.body_place.TrailerLine.{TrailerLine}
use Rattle.warp_request.specs.declared.body_place.TrailerLine.TheVariants as Lines
use Rattle.warp_request.specs.declared.body_place.TrailerStep.{TrailerStep}
use Rattle.warp_request.specs.declared.body_place.TrailerStep.TheVariants as Steps
use Rattle.warp_request.specs.declared.body_reader.BodyReader.{BodyReader}
use Rattle.warp_request.specs.declared.body_reader.BodyState.{BodyState}
use Rattle.warp_request.specs.declared.body_reader.BodyState.TheVariants as States
use Rattle.warp_request.specs.LimitsAndWords.{body_limit, chunk_digits, chunk_line_limit, trailer_limit}
use Rattle.warp_response.specs.Statuses.{bad_request}
use Rattle.warp_request.specs.declared.verdict.Framing.{Framing}
use Rattle.warp_request.specs.declared.verdict.Framing.TheVariants as Framings
use Rattle.warp_request.specs.Body.{BodyVerdict, more, refused, whole, Part, past, wrong, behind_content}
use Rattle.warp_request.specs.Body.{behind_extension, body_of, chunked, chunks, is_hex, line_end, line_of}
use Rattle.warp_request.specs.Body.{number_of, section_of, trailers}

-- what a state says of a body of which this many bytes were used
abbrev pub state_verdict : BodyState → ℕ → BodyVerdict
state_verdict States.More used = more
state_verdict States.Whole used = whole used
state_verdict (States.Refuse code) used = refused code

-- after these bytes a chunk line begins, with this many chunks left after its own and
-- content of this sum before it
pub record HasChunks (before : List ℕ) (left sum : ℕ) : Type 0 where
  pub goes_on : (t : List ℕ) → chunked (before ++ t) ≡ chunks (suc left) sum t
  pub enough : body_limit ≤ left + sum
  pub fits : sum ≤ body_limit

-- the bytes end in the front of a chunk line, of which this holds
pub record InLine (Holds : List ℕ → Type 0) (sum : ℕ) (fed : List ℕ) : Type 0 where
  pub before : List ℕ
  pub line : List ℕ
  pub left : ℕ
  pub parts : fed ≡ before ++ line
  pub chunks : HasChunks before left sum
  pub holds : Holds line

-- the front of a chunk line is this many digits, which mean a number
pub record IsDigits (count number : ℕ) (line : List ℕ) : Type 0 where
  pub all : list_all is_hex line ≡ true
  pub counted : length line ≡ count
  pub few : count ≤ chunk_digits
  pub means : number_of line ≡ number
  pub small : number < 16 ^ count

-- the front of a chunk line, which may have this many more bytes, leaves this to be read
-- of the bytes that follow
pub record LeavesOfLine (room : ℕ) (rest : List ℕ → Part) (line : List ℕ) : Type 0 where
  pub kept : length line + room ≡ chunk_line_limit
  pub reads : (t : List ℕ) → line_of (line ++ t) ≡ rest t

-- the bytes end in a chunk or the CRLF after it; this is what is left of them
pub record InContent (rest : List ℕ → List ℕ) (sum : ℕ) (fed : List ℕ) : Type 0 where
  pub left : ℕ
  pub reads : (t : List ℕ) → chunked (fed ++ t) ≡ behind_content (chunks (suc left) sum) (line_end 0 (rest t))
  pub enough : body_limit ≤ left + sum
  pub fits : sum ≤ body_limit

-- what is left of a trailer section at a place in one of its lines
abbrev pub section_at : TrailerLine → List ℕ → Part
section_at Lines.Start t = section_of true t
section_at Lines.Inside t = section_of false t
section_at Lines.StartReturn t = section_of true (carriage_return ∷ t)
section_at Lines.InsideReturn t = section_of false (carriage_return ∷ t)

-- the bytes end in a trailer section, which may have this many more bytes, at a place in one of its lines
pub record InTrailers (room : ℕ) (line : TrailerLine) (fed : List ℕ) : Type 0 where
  pub before : List ℕ
  pub lines : List ℕ
  pub parts : fed ≡ before ++ lines
  pub some : 1 ≤ room
  pub kept : length lines + room ≡ trailer_limit
  pub goes_on : (t : List ℕ) → chunked (before ++ t) ≡ trailers t
  pub reads : (t : List ℕ) → section_of true (lines ++ t) ≡ section_at line t

-- what the reader says where it stands at a place
abbrev pub state_at : BodyPlace → BodyState
state_at Places.Whole = States.Whole
state_at (Places.Refused code) = States.Refuse code
state_at _ = States.More

-- where the beginning of a body stands, after these bytes of it
abbrev pub RepresentsAt : BodyPlace → ℕ → Framing → List ℕ → Type 0
RepresentsAt (Places.Content behind) sum framing fed = framing ≡ Framings.Length (length fed + (behind + 1))
RepresentsAt (Places.Size count number) sum framing fed =
    (framing ≡ Framings.Chunked) × InLine (IsDigits count number) sum fed
RepresentsAt (Places.Extension room number) sum framing fed =
    (framing ≡ Framings.Chunked) × (1 ≤ room)
    × InLine (LeavesOfLine room (λ t. line_end number (behind_extension t))) sum fed
RepresentsAt (Places.LineFeed number) sum framing fed =
    (framing ≡ Framings.Chunked)
    × ((room : ℕ) × (1 ≤ room)
    × InLine (LeavesOfLine room (λ t. line_end number (carriage_return ∷ t))) sum fed)
RepresentsAt (Places.Chunk behind) sum framing fed =
    (framing ≡ Framings.Chunked) × InContent (λ t. drop (behind + 1) t) sum fed
RepresentsAt Places.ChunkReturn sum framing fed = (framing ≡ Framings.Chunked) × InContent (λ t. t) sum fed
RepresentsAt Places.ChunkLineFeed sum framing fed =
    (framing ≡ Framings.Chunked) × InContent (λ t. carriage_return ∷ t) sum fed
RepresentsAt (Places.Trailers room line) sum framing fed =
    (framing ≡ Framings.Chunked) × InTrailers room line fed
RepresentsAt Places.Whole sum framing fed = (t : List ℕ) → body_of framing (fed ++ t) ≡ whole (length fed)
RepresentsAt (Places.Refused code) sum framing fed = (t : List ℕ) → body_of framing (fed ++ t) ≡ refused code

-- the reader of a body of this framing has used these bytes
abbrev pub Represents : BodyReader → Framing → List ℕ → Type 0
Represents reader framing fed = RepresentsAt reader.place reader.sum framing fed

-- what a reader says, whatever it was fed
abbrev pub state_of : BodyReader → BodyState
state_of reader = state_at reader.place

-- what a byte of the trailer section leaves to be read of the bytes that follow
abbrev pub step_leaves : TrailerStep → List ℕ → Part
step_leaves Steps.Ends t = past 0 t
step_leaves Steps.Breaks t = wrong bad_request
step_leaves (Steps.Goes line) t = section_at line t

-- how many bytes of a piece belong to content that has one more byte and some after it, and
-- how many are left after the next
abbrev pub Skips : ℕ → ℕ → ℕ → Option ℕ → Type 0
Skips behind size used None = (used ≡ behind + 1) × (used ≤ size)
Skips behind size used (Some rest) = (used ≡ size) × (1 ≤ size) × (rest + size ≡ behind)

-- content of a known length of which this many bytes are left after the next, or none
abbrev pub place_in_content : Option ℕ → BodyPlace
place_in_content None = Places.Whole
place_in_content (Some behind) = Places.Content behind

-- a chunk of which this many bytes are left after the next, or none
abbrev pub place_in_chunk : Option ℕ → BodyPlace
place_in_chunk None = Places.ChunkReturn
place_in_chunk (Some behind) = Places.Chunk behind
