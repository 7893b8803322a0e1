-- To be believed: the move that a result of `reply` shows, and what its numbers and spans keep to.
use Rattle.std.specs.Prelude.{◌≡◌, ℕ, List, option_map}
use Rattle.std.specs.Option.{ForSome}
use Rattle.warp_response.specs.declared.response.Content.{Content}
use Rattle.warp_response.specs.declared.response.Content.TheVariants as kept
use Rattle.warp_response.specs.declared.response.Response.{Response}
use Rattle.warp_response.specs.Reply.{location, IsPlaceOf}
use Rattle.app_trait.specs.declared.request.Seen.{Seen}
use Rattle.app_trait.specs.declared.request.Seen.TheVariants.{Nothing, FirstFound, FirstAbsent, SecondFound}
use Rattle.app_trait.specs.declared.request.Seen.TheVariants.{SecondAbsent}
use Rattle.app_trait.specs.declared.app.Move.{Move}
use Rattle.app_trait.specs.declared.app.Move.TheVariants.{Look, Answer}
use Rattle.app_trait.specs.Moves.{ShownContent, none, empty, found, Outline, AppMove, look_at, answer}

-- the content that a response shows
abbrev pub file_shown : Content → ShownContent
file_shown kept.None = none
file_shown kept.Empty = empty
file_shown (kept.File size send) = found send

-- what a response to this target shows
abbrev pub outline_of : List ℕ → Response → Outline
outline_of target r = record {
  status = r.status;
  content = file_shown r.content;
  kind = r.kind;
  place = option_map (location target) r.place;
  allow = r.allow;
}

-- the move that a result shows, where this is the text that it left as the path
abbrev pub move_shown : List ℕ → Move → List ℕ → AppMove
move_shown target Look path = look_at path
move_shown target (Answer r) path = answer (outline_of target r)

-- a file was found, and its size is the size found
abbrev pub FitsFound : Seen → Content → Type 0
FitsFound seen kept.None = Unit {0}
FitsFound seen kept.Empty = Unit {0}
FitsFound Nothing (kept.File size send) = ⊥
FitsFound (FirstFound n mtime) (kept.File size send) = size ≡ n
FitsFound FirstAbsent (kept.File size send) = ⊥
FitsFound (SecondFound n mtime) (kept.File size send) = size ≡ n
FitsFound SecondAbsent (kept.File size send) = ⊥

-- the size is the size found, and the spans of a place lie in the target
pub record Fits (target : List ℕ) (seen : Seen) (r : Response) : Type 0 where
  pub size : FitsFound seen r.content
  pub spans : ForSome r.place (λ place. IsPlaceOf target place)

-- an answer fits
abbrev pub FitsMove : List ℕ → Seen → Move → Type 0
FitsMove target seen Look = Unit {0}
FitsMove target seen (Answer r) = Fits target seen r
