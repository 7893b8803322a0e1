-- To be believed: what an answer is, whole, and which responses stand for it.
use Rattle.std.specs.Prelude.{◌≡◌, ℕ, ◌≤◌, ◌↔◌, List, [], ◌++◌, length, Bool, true, false, IsTrue, IsSome}
use Rattle.std.specs.Prelude.{Option, Some, None, option_map, codes, slice_range}
use Rattle.std.specs.Option.{ForSome}
use Rattle.warp_response.specs.declared.response.Kind.{Kind}
use Rattle.warp_response.specs.declared.response.Content.{Content}
use Rattle.warp_response.specs.declared.response.Content.TheVariants as kept
use Rattle.warp_response.specs.declared.response.Place.{Place}
use Rattle.warp_response.specs.declared.response.Response.{Response}
use Rattle.warp_response.specs.Head.{Head}
use Rattle.warp_response.specs.Statuses.{HasPhrase}

-- the content of a reply: none, one without bytes, or a file's bytes and whether they are sent
pub data ReplyContent : Type 0 where
  none : ReplyContent
  empty : ReplyContent
  file : List ℕ → Bool → ReplyContent

-- what an answer is, whole; its place is the bytes of Location
pub record Reply : Type 0 where
  pub status : ℕ
  pub content : ReplyContent
  pub kind : Option Kind
  pub place : Option (List ℕ)
  pub allow : Bool

-- how many bytes a reply's content has
abbrev pub reply_length : ReplyContent → ℕ
reply_length none = 0
reply_length empty = 0
reply_length (file bytes sent) = length bytes

-- the bytes that follow the head
abbrev pub sent_bytes : ReplyContent → List ℕ
sent_bytes none = []
sent_bytes empty = []
sent_bytes (file bytes true) = bytes
sent_bytes (file bytes false) = []

-- what the head of a reply says
abbrev pub head_of : Reply → Head
head_of reply = record {
  status = reply.status;
  length = reply_length reply.content;
  kind = reply.kind;
  place = reply.place;
  allow = reply.allow;
}

-- how many bytes the content of a response has
abbrev pub content_length : Content → ℕ
content_length kept.None = 0
content_length kept.Empty = 0
content_length (kept.File size send) = size

-- the query of a target with its `?`, where there is one
abbrev pub query_part : List ℕ → Option (ℕ × ℕ) → List ℕ
query_part target None = []
query_part target (Some span) = codes "?" ++ slice_range target span.0 span.1

-- the bytes of Location that a place of a target stands for
abbrev pub location : List ℕ → Place → List ℕ
location target place =
    slice_range target place.raw.0 place.raw.1 ++ codes "/" ++ query_part target place.query

-- what the head of a response says, whose place lies in the target
abbrev pub head_shown : List ℕ → Response → Head
head_shown target response = record {
  status = response.status;
  length = content_length response.content;
  kind = response.kind;
  place = option_map (location target) response.place;
  allow = response.allow;
}

-- a response's content stands for a reply's: the size stands for the bytes
abbrev pub IsContentFor : Content → ReplyContent → Type 0
IsContentFor kept.None c = c ≡ none
IsContentFor kept.Empty c = c ≡ empty
IsContentFor (kept.File size send) c = (bytes : List ℕ) × (c ≡ file bytes send) × (length bytes ≡ size)

-- a response stands for a reply: its content's size for the bytes, and the spans of the
-- target for the bytes of Location
pub record IsResponseFor (target : List ℕ) (response : Response) (reply : Reply) : Type 0 where
  pub status : response.status ≡ reply.status
  pub content : IsContentFor response.content reply.content
  pub kind : response.kind ≡ reply.kind
  pub place : option_map (location target) response.place ≡ reply.place
  pub allow : response.allow ≡ reply.allow

-- a content is a file
abbrev pub is_file : Content → Bool
is_file kept.None = false
is_file kept.Empty = false
is_file (kept.File size send) = true

-- a span lies in the target
pub record IsSpanOf (target : List ℕ) (span : ℕ × ℕ) : Type 0 where
  pub ordered : span.0 ≤ span.1
  pub within : span.1 ≤ length target

-- the spans of a place lie in the target
pub record IsPlaceOf (target : List ℕ) (place : Place) : Type 0 where
  pub raw : IsSpanOf target place.raw
  pub query : ForSome place.query (λ span. IsSpanOf target span)

-- a response has a head: a status with a phrase, a kind exactly with a file, a place exactly at 301, in
-- a target of at most 8,192 bytes
pub record IsSendable (target : List ℕ) (response : Response) : Type 0 where
  pub phrase : HasPhrase response.status
  pub kind : IsSome response.kind ↔ IsTrue (is_file response.content)
  pub moved : IsSome response.place ↔ (response.status ≡ 301)
  pub spans : ForSome response.place (λ place. IsPlaceOf target place)
  pub short : length target ≤ 8192

-- the reply that refuses a request with a status
abbrev pub refusal_reply : ℕ → Reply
refusal_reply status = record { status = status; content = empty; kind = None; place = None; allow = false }
