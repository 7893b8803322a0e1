-- To be believed: what is known of the bytes of a connection at each step that it answers, and how it ends.
use Rattle.std.specs.Prelude.{◌≡◌, ◌≢◌, ◌⊎◌, ℕ, ◌≤◌, ◌<◌, Bool, true, false, List, [], ◌++◌, length, drop}
use Rattle.std.specs.Prelude.{Option, IfSome}
use Rattle.outside.specs.Causes.{LinkTold}
use Rattle.warp_request.specs.Lines.{skip_empty}
use Rattle.warp_request.specs.Verdict.{Asked}
use Rattle.warp_response.specs.Reply.{sent_bytes}
use Rattle.warp_response.specs.Text.{interim_text}
use Rattle.conn_loop.specs.declared.step.Step.{Step}
use Rattle.conn_loop.specs.declared.step.Step.TheVariants.{WantRead, WantWrite, WantFile, Done}
use Rattle.conn_loop.specs.declared.step.End.TheVariants.{Clean, Cut, ReadFault, WriteFault, FileFault}
use Rattle.conn_loop.specs.declared.step.End.TheVariants.{NoMemory}
use Rattle.conn_loop.specs.Answers.{answers_of, finals_of, rest_of, IsClosed, IsOpen}
use Rattle.conn_loop.specs.Replying.{Replying, Serving}

-- what was sent is a prefix of the answers, at no more moments than they call for
pub record SendsPrefix (reply : Replying) (moments taken sent : List ℕ) : Type 0 where
  pub rest : List ℕ
  pub begins : answers_of reply taken moments ≡ sent ++ rest
  pub counted : length moments ≤ finals_of taken

-- every answer that is due at these moments was sent, and a moment was asked for each
pub record IsWhole (reply : Replying) (moments taken sent : List ℕ) : Type 0 where
  pub sent_all : sent ≡ answers_of reply taken moments
  pub answered_all : length moments ≡ finals_of taken

-- an answer was made and wasn't sent whole
pub record IsPart (reply : Replying) (moments taken sent : List ℕ) : Type 0 where
  pub rest : List ℕ
  pub begins : answers_of reply taken moments ≡ sent ++ rest
  pub some : 0 < length rest

-- every answer that was made was sent, and more answers are due
pub record IsShort (reply : Replying) (moments taken sent : List ℕ) : Type 0 where
  pub sent_made : sent ≡ answers_of reply taken moments
  pub fewer : length moments < finals_of taken

-- every answer that was made was sent but for the end of the last one's content, and
-- maybe an interim answer after it
pub record IsBroken (reply : Replying) (moments taken sent : List ℕ) : Type 0 where
  pub a : Asked
  pub at : ℕ
  pub behind : List ℕ
  pub little : (behind ≡ []) ⊎ (behind ≡ interim_text)
  pub begins : answers_of reply taken moments ≡ sent ++ (drop at (sent_bytes (reply a).content) ++ behind)
  pub some : 0 < length (drop at (sent_bytes (reply a).content))

-- the link has met the end of its input, where it tells so
abbrev pub HasEnded : Option Bool → Type 0
HasEnded ended = IfSome ended (λ e. e ≡ true)

-- it has not
abbrev pub GoesOn : Option Bool → Type 0
GoesOn ended = IfSome ended (λ e. e ≡ false)

-- the connection came to a clean end: with all answers sent, one of them closed it, or
-- the input ended between requests
pub record IsCleanEnd (reply : Replying) (moments taken sent : List ℕ) (ended : Option Bool) : Type 0 where
  pub whole : IsWhole reply moments taken sent
  pub over : IsClosed taken ⊎ (IsOpen taken × HasEnded ended × (skip_empty (rest_of taken) ≡ []))

-- the input was cut short: with all answers sent, it ended within a request
pub record IsCutShort (reply : Replying) (moments taken sent : List ℕ) (ended : Option Bool) : Type 0 where
  pub whole : IsWhole reply moments taken sent
  pub goes_on : IsOpen taken
  pub ended_there : HasEnded ended
  pub begun : skip_empty (rest_of taken) ≢ []

-- What each step says of the moments and the bytes. The conditions of a clean end and of a cut agree with
-- no other step's, so that these two come exactly where theirs hold; the others are told apart by the
-- counts of the link and of the files.
abbrev pub StepImplies : Step → Replying → (moments taken sent : List ℕ) → Option Bool → Type 0
StepImplies WantRead reply moments taken sent ended =
    IsWhole reply moments taken sent × IsOpen taken × GoesOn ended
StepImplies WantWrite reply moments taken sent ended = IsPart reply moments taken sent × GoesOn ended
StepImplies WantFile reply moments taken sent ended = (length moments < finals_of taken) × GoesOn ended
StepImplies (Done Clean) reply moments taken sent ended = IsCleanEnd reply moments taken sent ended
StepImplies (Done Cut) reply moments taken sent ended = IsCutShort reply moments taken sent ended
StepImplies (Done ReadFault) reply moments taken sent ended =
    IsWhole reply moments taken sent × IsOpen taken × GoesOn ended
StepImplies (Done WriteFault) reply moments taken sent ended = IsPart reply moments taken sent × GoesOn ended
StepImplies (Done FileFault) reply moments taken sent ended =
    (IsShort reply moments taken sent ⊎ IsBroken reply moments taken sent) × GoesOn ended
StepImplies (Done NoMemory) reply moments taken sent ended = IsShort reply moments taken sent × GoesOn ended

-- a fact of an application over a folder and of the bytes that a link has taken and sent, where they are told
abbrev pub WhereTold : Option Serving → LinkTold → (Serving → List ℕ → List ℕ → Type 0) → Type 0
WhereTold serving link P = IfSome serving (λ v. IfSome link.taken (λ t. IfSome link.sent (λ s. P v t s)))
