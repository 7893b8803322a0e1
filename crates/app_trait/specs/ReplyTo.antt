-- To be believed: the reply that an application's moves come to over a folder, in at most two looks.
use Rattle.std.specs.Prelude.{◌≡◌, ℕ, Option, Some, None, option_map, length}
use Rattle.outside.specs.Folder.{Folder, Content, file_at}
use Rattle.warp_response.specs.Reply.{Reply, ReplyContent, refusal_reply}
use Rattle.warp_response.specs.Reply as told
use Rattle.app_trait.specs.declared.request.Seen.{Seen}
use Rattle.app_trait.specs.declared.request.Seen.TheVariants.{Nothing, FirstFound, FirstAbsent, SecondFound}
use Rattle.app_trait.specs.declared.request.Seen.TheVariants.{SecondAbsent}
use Rattle.app_trait.specs.Seen.{first_seen, second_seen}
use Rattle.app_trait.specs.Moves.{RequestText, ShownContent, none, empty, found, Outline, AppMove, look_at}
use Rattle.app_trait.specs.Moves.{answer, Moves}

-- the size and the time of a file, where there is one
abbrev pub facts_of : Option Content → Option (ℕ × ℕ)
facts_of look = option_map (λ content. (length content.0, content.1)) look

-- what was seen is what the last look found
abbrev pub SawFound : Seen → Option Content → Type 0
SawFound Nothing look = look ≡ None
SawFound (FirstFound size mtime) look =
    (content : Content) × (look ≡ Some content) × (size ≡ length content.0) × (mtime ≡ content.1)
SawFound FirstAbsent look = look ≡ None
SawFound (SecondFound size mtime) look =
    (content : Content) × (look ≡ Some content) × (size ≡ length content.0) × (mtime ≡ content.1)
SawFound SecondAbsent look = look ≡ None

-- the content of a reply that shows this, where the last look found this file
abbrev pub content_filled : ShownContent → Option Content → ReplyContent
content_filled none look = told.none
content_filled empty look = told.empty
content_filled (found send) None = told.empty
content_filled (found send) (Some content) = told.file content.0 send

-- the reply of this outline, where the last look found this file
abbrev pub filled : Outline → Option Content → Reply
filled outline look = record {
  status = outline.status;
  content = content_filled outline.content look;
  kind = outline.kind;
  place = outline.place;
  allow = outline.allow;
}

-- the reply after two looks, the last of which found this; no application asks for a third one
unfoldable pub after_two : AppMove → Option Content → Reply
after_two (look_at path) look = refusal_reply 404
after_two (answer outline) look = filled outline look

-- the reply after one look, which found this
unfoldable pub after_one : Moves → Folder → RequestText → AppMove → Option Content → Reply
after_one moves folder request (look_at path) look =
    let file = file_at folder path in after_two (moves request (second_seen (facts_of file))) file
after_one moves folder request (answer outline) look = filled outline look

-- the reply before any look
unfoldable pub after_none : Moves → Folder → RequestText → AppMove → Reply
after_none moves folder request (look_at path) =
    let file = file_at folder path in
    after_one moves folder request (moves request (first_seen (facts_of file))) file
after_none moves folder request (answer outline) = filled outline None

-- the reply to a request over a folder
unfoldable pub reply_to : Moves → Folder → RequestText → Reply
reply_to moves folder request = after_none moves folder request (moves request Nothing)

-- the reply that is still to come, where this has been seen and the last look found this
unfoldable pub reply_after : Moves → Folder → RequestText → Seen → Option Content → Reply
reply_after moves folder request Nothing look = reply_to moves folder request
reply_after moves folder request (FirstFound size mtime) look =
    after_one moves folder request (moves request (FirstFound size mtime)) look
reply_after moves folder request FirstAbsent look =
    after_one moves folder request (moves request FirstAbsent) look
reply_after moves folder request (SecondFound size mtime) look =
    after_two (moves request (SecondFound size mtime)) look
reply_after moves folder request SecondAbsent look = after_two (moves request SecondAbsent) look
