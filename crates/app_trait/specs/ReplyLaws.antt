-- Inner: laws that crates above cite: the reply of an application, look by look, and the
-- response that stands for it.
use Rattle.std.proofs.Common.{◌≡◌, ℕ, ◌≤◌, List, length, Option, Some, None, IsSome, refl, sym, ◌∙◌, subst}
use Rattle.std.specs.Prelude.{◌↔◌, IsTrue, option_map}
use Rattle.outside.specs.Folder.{Folder, Content, file_at}
use Rattle.warp_response.specs.declared.response.Content.TheVariants as kept
use Rattle.warp_response.specs.declared.response.Content as held
use Rattle.warp_response.specs.declared.response.Response.{Response}
use Rattle.warp_response.specs.declared.response.Place.{Place}
use Rattle.warp_response.specs.Reply.{IsResponseFor, IsContentFor, IsSendable, is_file, location}
use Rattle.app_trait.specs.declared.request.Seen.{Seen}
use Rattle.app_trait.specs.declared.request.Seen.TheVariants.{Nothing, FirstFound, FirstAbsent, SecondFound}
use Rattle.app_trait.specs.declared.request.Seen.TheVariants.{SecondAbsent}
use Rattle.app_trait.specs.Seen.{first_seen, second_seen, next_seen}
use Rattle.app_trait.specs.Moves.{RequestText, is_found, Outline, AppMove, look_at, answer, Moves, IsAnswer}
use Rattle.app_trait.specs.Moves.{EndsWithTwo, IsProper}
use Rattle.app_trait.specs.Shown.{file_shown, outline_of, FitsFound, Fits}
use Rattle.app_trait.specs.ReplyTo.{reply_to, reply_after, after_none, after_one, after_two, filled}
use Rattle.app_trait.specs.ReplyTo.{content_filled, facts_of, SawFound}

-- before any look the whole reply is to come
pub reply_to-is : (moves : Moves) (folder : Folder) (request : RequestText)
    → reply_to moves folder request ≡ reply_after moves folder request Nothing None
unfolding reply_to reply_after
reply_to-is moves folder request = refl

-- at an answer, the reply is the answer with the file that was found last
pub reply_after-answer : (moves : Moves) (folder : Folder) (request : RequestText) (seen : Seen)
    (found : Option Content) (outline : Outline)
    → SawFound seen found → moves request seen ≡ answer outline
    → reply_after moves folder request seen found ≡ filled outline found
unfolding reply_after reply_to after_none after_one after_two
reply_after-answer moves folder request Nothing found outline saw is = rw is (rw saw refl)
reply_after-answer moves folder request (FirstFound size mtime) found outline saw is = rw is refl
reply_after-answer moves folder request FirstAbsent found outline saw is = rw is refl
reply_after-answer moves folder request (SecondFound size mtime) found outline saw is = rw is refl
reply_after-answer moves folder request SecondAbsent found outline saw is = rw is refl

-- what a look finds is seen
pub SawFound-next : (seen : Seen) (found : Option Content) → SawFound (next_seen seen (facts_of found)) found
SawFound-next Nothing None = refl
SawFound-next Nothing (Some content) = (content, refl, refl, refl)
SawFound-next (FirstFound size mtime) None = refl
SawFound-next (FirstFound size mtime) (Some content) = (content, refl, refl, refl)
SawFound-next FirstAbsent None = refl
SawFound-next FirstAbsent (Some content) = (content, refl, refl, refl)
SawFound-next (SecondFound size mtime) None = refl
SawFound-next (SecondFound size mtime) (Some content) = (content, refl, refl, refl)
SawFound-next SecondAbsent None = refl
SawFound-next SecondAbsent (Some content) = (content, refl, refl, refl)

first_step : (moves : Moves) (folder : Folder) (request : RequestText) (file : Option Content)
    → after_one moves folder request (moves request (first_seen (facts_of file))) file
    ≡ reply_after moves folder request (first_seen (facts_of file)) file
unfolding reply_after
first_step moves folder request None = refl
first_step moves folder request (Some content) = refl

second_step : (moves : Moves) (folder : Folder) (request : RequestText) (file : Option Content)
    → after_two (moves request (second_seen (facts_of file))) file
    ≡ reply_after moves folder request (second_seen (facts_of file)) file
unfolding reply_after
second_step moves folder request None = refl
second_step moves folder request (Some content) = refl

no_look : (move : AppMove) (path : List ℕ) → move ≡ look_at path → IsAnswer move → ⊥
no_look move path is answers = subst IsAnswer is answers

-- at a look, the reply to come is the one that is to come once the look has found what the folder has
pub reply_after-look : (moves : Moves) → EndsWithTwo moves
    → (folder : Folder) (request : RequestText) (seen : Seen) (found : Option Content) (path : List ℕ)
    → moves request seen ≡ look_at path
    → reply_after moves folder request seen found
    ≡ reply_after moves folder request (next_seen seen (facts_of (file_at folder path))) (file_at folder path)
unfolding reply_after reply_to after_none after_one
reply_after-look moves ends folder request Nothing found path is =
    rw is (first_step moves folder request (file_at folder path))
reply_after-look moves ends folder request (FirstFound size mtime) found path is =
    rw is (second_step moves folder request (file_at folder path))
reply_after-look moves ends folder request FirstAbsent found path is =
    rw is (second_step moves folder request (file_at folder path))
reply_after-look moves ends folder request (SecondFound size mtime) found path is =
    absurd (no_look (moves request (SecondFound size mtime)) path is (ends.found request size mtime))
reply_after-look moves ends folder request SecondAbsent found path is =
    absurd (no_look (moves request SecondAbsent) path is (ends.absent request))

-- the content of a response stands for the file that the last look found
content_for : (content : held.Content) (seen : Seen) (found : Option Content)
    → FitsFound seen content → SawFound seen found
    → IsContentFor content (content_filled (file_shown content) found)
content_for kept.None seen found fits saw = refl
content_for kept.Empty seen found fits saw = refl
content_for (kept.File size send) Nothing found fits saw = absurd fits
content_for (kept.File size send) (FirstFound n mtime) found fits saw =
    (saw.0.0, rw saw.1 refl, sym (fits ∙ saw.2))
content_for (kept.File size send) FirstAbsent found fits saw = absurd fits
content_for (kept.File size send) (SecondFound n mtime) found fits saw =
    (saw.0.0, rw saw.1 refl, sym (fits ∙ saw.2))
content_for (kept.File size send) SecondAbsent found fits saw = absurd fits

-- a response stands for the reply of which it shows the outline
pub IsResponseFor-filled : (target : List ℕ) (r : Response) (seen : Seen) (found : Option Content)
    → Fits target seen r → SawFound seen found
    → IsResponseFor target r (filled (outline_of target r) found)
IsResponseFor-filled target r seen found fits saw = record {
  status = refl;
  content = content_for r.content seen found fits.size saw;
  kind = refl;
  place = refl;
  allow = refl;
}

-- the response of the answering move stands for the reply to come
pub IsResponseFor-reply_after : (moves : Moves) (folder : Folder) (request : RequestText)
    (seen : Seen) (found : Option Content) (r : Response)
    → answer (outline_of request.target r) ≡ moves request seen → Fits request.target seen r
    → SawFound seen found
    → IsResponseFor request.target r (reply_after moves folder request seen found)
IsResponseFor-reply_after moves folder request seen found r is fits saw =
    rw (reply_after-answer moves folder request seen found (outline_of request.target r) saw (sym is))
    (IsResponseFor-filled request.target r seen found fits saw)

file_is : (content : held.Content) → (IsTrue (is_found (file_shown content)) ↔ IsTrue (is_file content))
file_is kept.None = ((λ h. h), (λ h. h))
file_is kept.Empty = ((λ h. h), (λ h. h))
file_is (kept.File size send) = ((λ h. refl), (λ h. refl))

place_is : (target : List ℕ) (place : Option Place) → IsSome place
    → IsSome (option_map (location target) place)
place_is target None h = h
place_is target (Some p) h = refl

place_was : (target : List ℕ) (place : Option Place) → IsSome (option_map (location target) place)
    → IsSome place
place_was target None h = h
place_was target (Some p) h = refl

-- the response of a proper answer has a head
pub IsSendable-proper : (target : List ℕ) (r : Response) (seen : Seen) → IsProper seen (outline_of target r)
    → Fits target seen r → length target ≤ 8192
    → IsSendable target r
IsSendable-proper target r seen proper fits short = record {
  phrase = proper.phrase;
  kind = ((λ h. (file_is r.content).0 (proper.kind.0 h)), (λ h. proper.kind.1 ((file_is r.content).1 h)));
  moved =
      ((λ h. proper.moved.0 (place_is target r.place h)), (λ h. place_was target r.place (proper.moved.1 h)));
  spans = fits.spans;
  short = short;
}
