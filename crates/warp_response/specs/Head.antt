-- To be believed: the bytes of a head (RFC 9112, sections 2 to 4).
use Rattle.std.specs.Prelude.{ℕ, List, [], ◌++◌, Bool, Option, Some, None, codes, decimal, nat_lt}
use Rattle.std.specs.Prelude.{if◌then◌else◌}
use Rattle.warp_response.specs.declared.response.Kind.{Kind}
use Rattle.warp_response.specs.declared.response.Kind.TheVariants.{Html, Plain, Css, JavaScript, Json, Xml}
use Rattle.warp_response.specs.declared.response.Kind.TheVariants.{Svg, Png, Jpeg, Gif, OctetStream}
use Rattle.warp_response.specs.declared.response.LastWord.{LastWord}
use Rattle.warp_response.specs.declared.response.LastWord.TheVariants.{Nothing, Close, KeepAlive}
use Rattle.warp_response.specs.Moment.{date_of, first_undated}
use Rattle.warp_response.specs.Statuses.{phrase_of}

-- what the head of an answer says: its status, the length of its content, the kind of its file, the bytes of
-- its Location, and whether it lists the methods that are served
pub record Head : Type 0 where
  pub status : ℕ
  pub length : ℕ
  pub kind : Option Kind
  pub place : Option (List ℕ)
  pub allow : Bool

-- a line of a head
abbrev pub field_line : List ℕ → List ℕ → List ℕ
field_line name value = name ++ codes ": " ++ value ++ codes "\r\n"

-- the first line
unfoldable pub status_line : ℕ → List ℕ
status_line status = codes "HTTP/1.1 " ++ decimal status ++ codes " " ++ phrase_of status ++ codes "\r\n"

-- Date, which a moment from the year 10000 on hasn't
unfoldable pub date_line : ℕ → List ℕ
date_line moment = if nat_lt moment first_undated then field_line (codes "Date") (date_of moment) else []

-- the media type of a kind of file
abbrev pub kind_text : Kind → List ℕ
kind_text Html = codes "text/html; charset=utf-8"
kind_text Plain = codes "text/plain; charset=utf-8"
kind_text Css = codes "text/css; charset=utf-8"
kind_text JavaScript = codes "text/javascript; charset=utf-8"
kind_text Json = codes "application/json"
kind_text Xml = codes "application/xml"
kind_text Svg = codes "image/svg+xml"
kind_text Png = codes "image/png"
kind_text Jpeg = codes "image/jpeg"
kind_text Gif = codes "image/gif"
kind_text OctetStream = codes "application/octet-stream"

-- Content-Type, where a file is shown
unfoldable pub kind_line : Option Kind → List ℕ
kind_line None = []
kind_line (Some kind) = field_line (codes "Content-Type") (kind_text kind)

-- Content-Length
unfoldable pub length_line : ℕ → List ℕ
length_line size = field_line (codes "Content-Length") (decimal size)

-- Location, where there is one
unfoldable pub place_line : Option (List ℕ) → List ℕ
place_line None = []
place_line (Some place) = field_line (codes "Location") place

-- how this server calls itself
abbrev pub server_line : List ℕ
server_line = field_line (codes "Server") (codes "warp-profile")

-- Allow, where the methods that are served are listed
unfoldable pub allow_line : Bool → List ℕ
allow_line allow = if allow then field_line (codes "Allow") (codes "GET, HEAD, OPTIONS") else []

-- Connection, where anything is to be said of it
unfoldable pub last_line : LastWord → List ℕ
last_line Nothing = []
last_line Close = field_line (codes "Connection") (codes "close")
last_line KeepAlive = field_line (codes "Connection") (codes "keep-alive")

-- no head has more bytes: Location repeats at most two spans of a target of 8,192 bytes
abbrev pub longest_head : ℕ
longest_head = 16896

-- no head without Location has more bytes
abbrev pub longest_head_without_place : ℕ
longest_head_without_place = 512

-- the head, with the empty line at its end
unfoldable pub head_text : Head → ℕ → LastWord → List ℕ
head_text head moment last =
    status_line head.status
    ++ date_line moment
    ++ server_line
    ++ kind_line head.kind
    ++ length_line head.length
    ++ place_line head.place
    ++ allow_line head.allow
    ++ last_line last
    ++ codes "\r\n"
