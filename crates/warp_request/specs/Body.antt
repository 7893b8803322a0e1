-- To be believed: what the bytes after a head say of the body that its framing promises
-- (RFC 9112, sections 6 and 7.1).
use Rattle.std.specs.Prelude.{ℕ, zero, suc, ◌+◌, ◌*◌, ◌-◌, Bool, true, false, ◌&&◌, ◌||◌, List, [], ◌∷◌}
use Rattle.std.specs.Prelude.{Option, Some, None, is_some, length, take, drop, fold, unwrap_or, if◌then◌else◌}
use Rattle.std.specs.Prelude.{◌==◌, nat_le, nat_lt}
use Rattle.std.specs.List.{prefix_len}
use Rattle.httparse.specs.Ascii.{line_feed, carriage_return}
use Rattle.warp_request.specs.LimitsAndWords.{body_limit, chunk_digits, chunk_line_limit, trailer_limit}
use Rattle.warp_response.specs.Statuses.{bad_request, content_too_large, header_fields_too_large}
use Rattle.warp_request.specs.declared.verdict.Framing.{Framing}
use Rattle.warp_request.specs.declared.verdict.Framing.TheVariants as Framings

-- a body that isn't whole yet, one that is refused with a status, or one that has this many bytes
pub data BodyVerdict : Type 0 where
  more : BodyVerdict
  refused : ℕ → BodyVerdict
  whole : ℕ → BodyVerdict

-- a part of a body that isn't whole yet, that is refused with a status, or that says a
-- number and ends before some bytes
pub data Part : Type 0 where
  cut : Part
  wrong : ℕ → Part
  past : ℕ → List ℕ → Part

-- the number that a byte means as a hexadecimal digit
abbrev pub hex_digit : ℕ → Option ℕ
hex_digit b =
    if nat_le 48 b && nat_le b 57 then Some (b - 48)
    else (if nat_le 65 b && nat_le b 70 then Some (b - 55)
    else (if nat_le 97 b && nat_le b 102 then Some (b - 87) else None))

-- a byte is a hexadecimal digit
abbrev pub is_hex : ℕ → Bool
is_hex b = is_some (hex_digit b)

-- the number after which one more digit stands
abbrev pub with_digit : ℕ → ℕ → ℕ
with_digit n b = n * 16 + unwrap_or (hex_digit b) 0

-- the number that hexadecimal digits mean
abbrev pub number_of : List ℕ → ℕ
number_of digits = fold with_digit 0 digits

-- an extension begins with a semicolon, a space or a tab
abbrev pub opens_extension : ℕ → Bool
opens_extension b = b == 59 || (b == 32 || b == 9)

-- an extension has tabs, visible bytes, spaces and bytes beyond ASCII
abbrev pub is_extension_byte : ℕ → Bool
is_extension_byte b = b == 9 || ((nat_le 32 b && nat_le b 126) || nat_le 128 b)

-- the bytes after those of an extension
unfoldable pub behind_extension : List ℕ → List ℕ
behind_extension [] = []
behind_extension (b ∷ s) = if is_extension_byte b then behind_extension s else b ∷ s

-- CRLF, after which a number is said
unfoldable pub line_end : ℕ → List ℕ → Part
line_end n [] = cut
line_end n (b ∷ []) = if b == carriage_return then cut else wrong bad_request
line_end n (b ∷ c ∷ s) = if b == carriage_return && c == line_feed then past n s else wrong bad_request

-- what follows the digits of a chunk line: CRLF, or an extension and then CRLF
unfoldable pub behind_digits : List ℕ → List ℕ → Part
behind_digits digits [] = cut
behind_digits [] (b ∷ s) = wrong bad_request
behind_digits (d ∷ digits) (b ∷ s) =
    if opens_extension b then line_end (number_of (d ∷ digits)) (behind_extension s)
    else line_end (number_of (d ∷ digits)) (b ∷ s)

-- a chunk line: one to eight hexadecimal digits, which say the chunk's size, and what follows them
unfoldable pub line_of : List ℕ → Part
line_of s =
    let n = prefix_len is_hex s in
    if nat_lt chunk_digits n then wrong bad_request else behind_digits (take n s) (drop n s)

-- lines of bytes but CR, LF and NUL, each ended by CRLF, and an empty one as their end;
-- `fresh`: no byte of a line came yet
unfoldable pub section_of : Bool → List ℕ → Part
section_of fresh [] = cut
section_of fresh (b ∷ []) =
    if b == carriage_return then cut else (if b == line_feed || b == 0 then wrong bad_request else cut)
section_of fresh (b ∷ c ∷ s) =
    if b == carriage_return
    then (if c == line_feed then (if fresh then past 0 s else section_of true s) else wrong bad_request)
    else (if b == line_feed || b == 0 then wrong bad_request else section_of false (c ∷ s))

-- a part that has to end within its first bytes is refused at the last of these
abbrev pub capped : ℕ → ℕ → List ℕ → List ℕ → Part → Part
capped limit code s w cut = if nat_le limit (length s) then wrong code else cut
capped limit code s w (wrong fault) = wrong fault
capped limit code s w (past n rest) = past n (drop (length w - length rest) s)

-- a chunk line within its first 256 bytes
abbrev pub chunk_line : List ℕ → Part
chunk_line s = let w = take chunk_line_limit s in capped chunk_line_limit bad_request s w (line_of w)

-- a trailer section within its first 4,096 bytes
abbrev pub trailers : List ℕ → Part
trailers s =
    let w = take trailer_limit s in
    capped trailer_limit header_fields_too_large s w (section_of true w)

-- what follows the content of a chunk: its CRLF, and then the next chunk
abbrev pub behind_content : (List ℕ → Part) → Part → Part
behind_content next cut = cut
behind_content next (wrong code) = wrong code
behind_content next (past n s) = next s

-- what follows a chunk line: the trailers after the last chunk, whose size is 0, else
-- the content and the next chunk
abbrev pub behind_line : (ℕ → List ℕ → Part) → ℕ → Part → Part
behind_line next sum cut = cut
behind_line next sum (wrong code) = wrong code
behind_line next sum (past size s) =
    if nat_lt body_limit (sum + size) then wrong content_too_large
    else (if size == 0 then trailers s else behind_content (next (sum + size)) (line_end 0 (drop size s)))

-- this many chunks at most, after chunks whose sizes have a sum
unfoldable pub chunks : ℕ → ℕ → List ℕ → Part
chunks zero sum s = wrong content_too_large
chunks (suc left) sum s = behind_line (chunks left) sum (chunk_line s)

-- a chunked body: each chunk before the last has content, so there are no more of them than bytes of content
abbrev pub chunked : List ℕ → Part
chunked s = chunks (body_limit + 1) 0 s

-- the verdict on a body of which this part was read of this many bytes
abbrev pub verdict_of : ℕ → Part → BodyVerdict
verdict_of total cut = more
verdict_of total (wrong code) = refused code
verdict_of total (past n rest) = whole (total - length rest)

-- the body that a framing promises, in the bytes that follow the head
abbrev pub body_of : Framing → List ℕ → BodyVerdict
body_of Framings.None s = whole 0
body_of (Framings.Length n) s = if nat_le n (length s) then whole n else more
body_of Framings.Chunked s = verdict_of (length s) (chunked s)
