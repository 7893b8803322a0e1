-- To be believed: what holds of every application that answers after two looks.
use Rattle.std.specs.Prelude.{◌≡◌, ℕ, ◌≤◌, List, length, Option, None}
use Rattle.outside.specs.Folder.{Folder, Content, file_at}
use Rattle.warp_response.specs.declared.response.Response.{Response}
use Rattle.warp_response.specs.Reply.{IsResponseFor, IsSendable}
use Rattle.app_trait.specs.declared.request.Seen.{Seen}
use Rattle.app_trait.specs.declared.request.Seen.TheVariants.{Nothing}
use Rattle.app_trait.specs.Moves.{RequestText, Outline, look_at, answer, Moves, EndsWithTwo, IsProper}
use Rattle.app_trait.specs.ReplyTo.{reply_to, reply_after, SawFound, facts_of, filled}
use Rattle.app_trait.specs.Seen.{next_seen}
use Rattle.app_trait.specs.Shown.{outline_of, Fits}

-- before any look, the reply to come is the whole reply
abbrev pub BeginsWhole : Moves → Folder → RequestText → Type 0
BeginsWhole moves folder request =
    reply_to moves folder request ≡ reply_after moves folder request Nothing None

-- at a look, the reply to come is the one that is to come once the look has found what the folder has
abbrev pub GoesOnAtLook : Moves → Folder → RequestText → Type 0
GoesOnAtLook moves folder request =
    EndsWithTwo moves → (seen : Seen) (found : Option Content) (path : List ℕ)
    → moves request seen ≡ look_at path
    → reply_after moves folder request seen found
    ≡ reply_after moves folder request (next_seen seen (facts_of (file_at folder path))) (file_at folder path)

-- at an answer, the reply to come is the answer with the file that was found last
abbrev pub EndsAtAnswer : Moves → Folder → RequestText → Type 0
EndsAtAnswer moves folder request =
    (seen : Seen) (found : Option Content) (outline : Outline) → SawFound seen found
    → moves request seen ≡ answer outline → reply_after moves folder request seen found ≡ filled outline found

-- the response of an answer stands for the reply to come
abbrev pub StandsForReply : Moves → Folder → RequestText → Type 0
StandsForReply moves folder request = (seen : Seen) (found : Option Content) (response : Response)
    → answer (outline_of request.target response) ≡ moves request seen → Fits request.target seen response
    → SawFound seen found
    → IsResponseFor request.target response (reply_after moves folder request seen found)

-- the response of a proper answer has a head
abbrev pub CanBeSent : List ℕ → Response → Seen → Type 0
CanBeSent target response seen =
    IsProper seen (outline_of target response) → Fits target seen response → length target ≤ 8192
    → IsSendable target response
