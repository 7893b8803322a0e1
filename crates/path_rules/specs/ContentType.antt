-- To be believed: the media type of a file, by the ending of its path.
use Rattle.std.specs.Prelude.{ℕ, ◌==◌, Bool, List, [], ◌∷◌, map, Option, Some, None, codes, if◌then◌else◌}
use Rattle.std.specs.List.{list_any, after_last}
use Rattle.std.specs.Str.{bytes_eq}
use Rattle.std.specs.Char.{to_ascii_lowercase}
use Rattle.warp_response.specs.declared.response.Kind.{Kind}
use Rattle.warp_response.specs.declared.response.Kind.TheVariants.{Html, Plain, Css, JavaScript, Json, Xml}
use Rattle.warp_response.specs.declared.response.Kind.TheVariants.{Svg, Png, Jpeg, Gif, OctetStream}
use Rattle.path_rules.specs.Target.{is_slash}

-- the test for `.`
abbrev pub is_dot : ℕ → Bool
is_dot b = b == 46

-- the last segment of a path
abbrev pub last_segment : List ℕ → List ℕ
last_segment path = after_last is_slash path

-- what follows the last `.` of a segment, where it has one
abbrev pub ending_in : List ℕ → Option (List ℕ)
ending_in segment = if list_any is_dot segment then Some (after_last is_dot segment) else None

-- the endings that are known, in small letters, each with the kind of its files
abbrev pub endings : List (List ℕ × Kind)
endings =
    (codes "html", Html)
    ∷ (codes "htm", Html)
    ∷ (codes "txt", Plain)
    ∷ (codes "css", Css)
    ∷ (codes "js", JavaScript)
    ∷ (codes "json", Json)
    ∷ (codes "xml", Xml)
    ∷ (codes "svg", Svg)
    ∷ (codes "png", Png)
    ∷ (codes "jpg", Jpeg)
    ∷ (codes "jpeg", Jpeg)
    ∷ (codes "gif", Gif)
    ∷ []

-- the kind that a table has for an ending in small letters, and `application/octet-stream` where it has none
abbrev pub kind_in : List (List ℕ × Kind) → List ℕ → Kind
kind_in [] ending = OctetStream
kind_in (row ∷ rows) ending = if bytes_eq ending row.0 then row.1 else kind_in rows ending

-- the kind of the files with an ending, in any case of ASCII letters
unfoldable pub kind_of_ending : List ℕ → Kind
kind_of_ending ending = kind_in endings (map to_ascii_lowercase ending)

-- the kind of the files with an ending, or with none
abbrev pub kind_by : Option (List ℕ) → Kind
kind_by (Some ending) = kind_of_ending ending
kind_by None = OctetStream

-- the kind of the file at a path
unfoldable pub content_type_of : List ℕ → Kind
content_type_of path = kind_by (ending_in (last_segment path))
