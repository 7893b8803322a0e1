-- To be believed: the form of a target, and where its raw path and its query stand (RFC 9112, section 3.2).
use Rattle.std.specs.Prelude.{ℕ, ◌+◌, ◌==◌, Bool, true, false, ◌&&◌, ◌||◌, nat_lt, List, [], ◌∷◌, length}
use Rattle.std.specs.Prelude.{drop, take, map, Option, Some, None, if◌then◌else◌}
use Rattle.std.specs.List.{position_or_len}
use Rattle.std.specs.Str.{bytes_eq}
use Rattle.std.specs.Char.{to_ascii_lowercase}
use Rattle.path_rules.specs.LimitsAndWords.{http, https}
use Rattle.path_rules.specs.declared.target.Form.{Form}
use Rattle.path_rules.specs.declared.target.Form.TheVariants.{Origin, Absolute, Neither}

-- the test for `/`
abbrev pub is_slash : ℕ → Bool
is_slash b = b == 47

-- the test for `?`
abbrev pub is_question_mark : ℕ → Bool
is_question_mark b = b == 63

-- the test for the bytes before which an authority ends
abbrev pub ends_authority : ℕ → Bool
ends_authority b = is_slash b || is_question_mark b

-- the place after the authority that begins at a place
abbrev pub authority_end : List ℕ → ℕ → ℕ
authority_end target start = start + position_or_len ends_authority (drop start target)

-- the place of the first `?` from a place on, or the end of the target
abbrev pub path_end : List ℕ → ℕ → ℕ
path_end target start = start + position_or_len is_question_mark (drop start target)

-- the target begins with `/` (RFC 9112, section 3.2.1)
abbrev pub begins_with_slash : List ℕ → Bool
begins_with_slash [] = false
begins_with_slash (b ∷ bs) = is_slash b

-- the target begins with a scheme, in any case of ASCII letters
abbrev pub has_scheme : List ℕ → List ℕ → Bool
has_scheme target scheme =
    bytes_eq (map to_ascii_lowercase (take (length scheme) target)) (map to_ascii_lowercase scheme)

-- the place after a scheme that an authority of at least one byte follows (RFC 9112, section 3.2.2)
unfoldable pub behind_scheme : List ℕ → List ℕ → Option ℕ
behind_scheme target scheme =
    if has_scheme target scheme && nat_lt (length scheme) (authority_end target (length scheme))
    then Some (length scheme)
    else None

-- the form of a target of which no scheme, the first or the second of two was found
abbrev pub absolute_by : Option ℕ → Option ℕ → Form
absolute_by (Some authority) other = Absolute authority
absolute_by None (Some authority) = Absolute authority
absolute_by None None = Neither

-- the form of a target
unfoldable pub form_of : List ℕ → Form
form_of target =
    if begins_with_slash target
    then Origin
    else absolute_by (behind_scheme target http) (behind_scheme target https)

-- a target of this form has a path
abbrev pub has_path : Form → Bool
has_path Origin = true
has_path (Absolute authority) = true
has_path Neither = false

-- the span of the raw path in a target of a form
abbrev pub raw_path_in : List ℕ → Form → ℕ × ℕ
raw_path_in target Origin = (0, path_end target 0)
raw_path_in target (Absolute authority) =
    (authority_end target authority, path_end target (authority_end target authority))
raw_path_in target Neither = (0, 0)

-- the span of the raw path
unfoldable pub raw_path_of : List ℕ → ℕ × ℕ
raw_path_of target = raw_path_in target (form_of target)

-- the span of the query: what follows the first `?`, where there is one
unfoldable pub query_of : List ℕ → Option (ℕ × ℕ)
query_of target =
    if nat_lt (path_end target 0) (length target) then Some (path_end target 0 + 1, length target) else None
