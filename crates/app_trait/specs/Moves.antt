-- To be believed: what an application does with a request, once its looks have found this much.
use Rattle.std.specs.Prelude.{◌≡◌, ◌↔◌, ℕ, Bool, true, false, IsTrue, List, Option, IsSome}
use Rattle.warp_response.specs.declared.response.Kind.{Kind}
use Rattle.warp_response.specs.Statuses.{HasPhrase}
use Rattle.app_trait.specs.declared.request.Request.{Request}
use Rattle.app_trait.specs.declared.request.Seen.{Seen}
use Rattle.app_trait.specs.declared.request.Seen.TheVariants.{Nothing, FirstFound, FirstAbsent, SecondFound}
use Rattle.app_trait.specs.declared.request.Seen.TheVariants.{SecondAbsent}
use Rattle.app_trait.specs.Seen.{HasFound, next_seen}

-- a request, as an application sees it
pub record RequestText : Type 0 where
  pub method : List ℕ
  pub target : List ℕ
  pub minor : ℕ

-- what a request lends
abbrev pub text_of : Request → RequestText
text_of request = record { method = request.method.now; target = request.target.now; minor = request.minor }

-- what an answer shows as its content: none, one without bytes, or the file that the
-- last look found, sent or not
pub data ShownContent : Type 0 where
  none : ShownContent
  empty : ShownContent
  found : Bool → ShownContent

-- the content is the file that the last look found
abbrev pub is_found : ShownContent → Bool
is_found none = false
is_found empty = false
is_found (found send) = true

-- a reply whose file, where it has one, is the file that the last look found; its place
-- is the bytes of Location
pub record Outline : Type 0 where
  pub status : ℕ
  pub content : ShownContent
  pub kind : Option Kind
  pub place : Option (List ℕ)
  pub allow : Bool

-- a look at a path is asked for, or the request is answered
pub data AppMove : Type 0 where
  look_at : List ℕ → AppMove
  answer : Outline → AppMove

-- what an application does with each request, once this has been seen
abbrev pub Moves : Type 0
Moves = RequestText → Seen → AppMove

-- the request is answered
abbrev pub IsAnswer : AppMove → Type 0
IsAnswer (look_at path) = ⊥
IsAnswer (answer outline) = Unit {0}

-- after a second look comes an answer
pub record EndsWithTwo (moves : Moves) : Type 0 where
  pub found : (request : RequestText) (size mtime : ℕ) → IsAnswer (moves request (SecondFound size mtime))
  pub absent : (request : RequestText) → IsAnswer (moves request SecondAbsent)

-- each answer has a status with a phrase, a place exactly at 301, a file only at 200 and found,
-- and a kind exactly with a file
pub record IsProper (seen : Seen) (outline : Outline) : Type 0 where
  pub phrase : HasPhrase outline.status
  pub moved : IsSome outline.place ↔ (outline.status ≡ 301)
  pub whole : IsTrue (is_found outline.content) → outline.status ≡ 200
  pub found : IsTrue (is_found outline.content) → HasFound seen
  pub kind : IsSome outline.kind ↔ IsTrue (is_found outline.content)

-- an answer is proper
abbrev pub IsProperMove : Seen → AppMove → Type 0
IsProperMove seen (look_at path) = Unit {0}
IsProperMove seen (answer outline) = IsProper seen outline

-- a look at a path led to what was seen
pub record WasLookedFor (move : Seen → AppMove) (seen : Seen) (path : List ℕ) : Type 0 where
  pub before : Seen
  pub found : Option (ℕ × ℕ)
  pub next : seen ≡ next_seen before found
  pub looked : move before ≡ look_at path

-- once something was seen, the path is the one that was looked for last
abbrev pub PathKept : (Seen → AppMove) → Seen → List ℕ → Type 0
PathKept move Nothing path = Unit {0}
PathKept move (FirstFound size mtime) path = WasLookedFor move (FirstFound size mtime) path
PathKept move FirstAbsent path = WasLookedFor move FirstAbsent path
PathKept move (SecondFound size mtime) path = WasLookedFor move (SecondFound size mtime) path
PathKept move SecondAbsent path = WasLookedFor move SecondAbsent path
