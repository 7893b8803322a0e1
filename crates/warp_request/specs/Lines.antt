-- To be believed: the lines of a head, the empty ones before it, and the rules that hold
-- of each line by itself.
use Rattle.std.specs.Prelude.{ℕ, ◌-◌, Bool, true, not, ◌&&◌, ◌||◌, List, [], ◌∷◌, ◌++◌, length, codes}
use Rattle.std.specs.Prelude.{if◌then◌else◌, ◌==◌, nat_eq, slice_index}
use Rattle.std.specs.List.{list_any, list_all, ends_with, before_first}
use Rattle.std.specs.Str.Lines.{strip_carriage_return}
use Rattle.httparse.specs.Ascii.{line_feed, carriage_return, colon}
use Rattle.httparse.specs.Grammar.{is_ows}

-- the bytes without the empty lines at their start, where an empty line is CRLF or a single LF
unfoldable pub skip_empty : List ℕ → List ℕ
skip_empty [] = []
skip_empty (b ∷ []) = if b == line_feed then [] else b ∷ []
skip_empty (b ∷ c ∷ s) =
    if b == line_feed then skip_empty (c ∷ s)
    else (if b == carriage_return && c == line_feed then skip_empty s else b ∷ c ∷ s)

-- how many bytes the line end at the front has, or 0
abbrev pub line_end_len : List ℕ → ℕ
line_end_len [] = 0
line_end_len (b ∷ []) = if b == line_feed then 1 else 0
line_end_len (b ∷ c ∷ s) =
    if b == line_feed then 1 else (if b == carriage_return && c == line_feed then 2 else 0)

-- after the empty lines a line's end is there
unfoldable pub has_line : List ℕ → Bool
has_line s = list_any (λ b. b == line_feed) (skip_empty s)

-- a line and those after it, which an empty line cuts off
abbrev pub line_before : List ℕ → List (List ℕ) → List (List ℕ)
line_before [] later = []
line_before (b ∷ line) later = (b ∷ line) ∷ later

-- the lines whose LF is there, without their line ends, up to the first empty one;
-- `front` is what the first has already
unfoldable pub lines_from : List ℕ → List ℕ → List (List ℕ)
lines_from front [] = []
lines_from front (b ∷ s) =
    if b == line_feed then line_before (strip_carriage_return front) (lines_from [] s)
    else lines_from (front ++ b ∷ []) s

-- a request line ends in a space and the version, HTTP/1.0 or HTTP/1.1 (RFC 9112, section 3)
unfoldable pub ends_in_version : List ℕ → Bool
ends_in_version line = ends_with nat_eq line (codes " HTTP/1.0") || ends_with nat_eq line (codes " HTTP/1.1")

-- the last byte, or 0
abbrev pub last_byte : List ℕ → ℕ
last_byte bytes = slice_index bytes (length bytes - 1)

-- a later line begins with no space or tab (RFC 9112, section 5.2), and has none directly
-- before its first colon (section 5.1)
unfoldable pub is_field_line : List ℕ → Bool
is_field_line line =
    not (is_ows (slice_index line 0))
    && not (list_any (λ b. b == colon) line && is_ows (last_byte (before_first (λ b. b == colon) line)))

-- the first line is a request line, and the later ones are field lines
unfoldable pub are_lines_right : List (List ℕ) → Bool
are_lines_right [] = true
are_lines_right (first ∷ later) = ends_in_version first && list_all is_field_line later

-- one of the lines that follow the empty ones, and whose LF is there, breaks its rule
unfoldable pub breaks_line_rule : List ℕ → Bool
breaks_line_rule s = not (are_lines_right (lines_from [] (skip_empty s)))
