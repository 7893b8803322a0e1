-- To be believed: the path of a file that a target stands for (RFC 3986, sections 2.1 and 3.3).
use Rattle.std.specs.Prelude.{ℕ, ◌==◌, Bool, true, false, not, ◌&&◌, ◌||◌, nat_le, List, [], ◌∷◌, ◌++◌}
use Rattle.std.specs.Prelude.{length, drop, map, Option, Some, None, option_map, codes, slice_range}
use Rattle.std.specs.Prelude.{if◌then◌else◌}
use Rattle.std.specs.List.{slice_split, join_with_byte, list_all, list_any}
use Rattle.std.specs.Str.{is_utf8}
use Rattle.percent_encoding.specs.Percent.{percent_decode}
use Rattle.path_rules.specs.declared.target.Form.{Form}
use Rattle.path_rules.specs.declared.target.Form.TheVariants.{Origin, Absolute, Neither}
use Rattle.path_rules.specs.declared.routes.Route.{Route}
use Rattle.path_rules.specs.declared.routes.Route.TheVariants as found
use Rattle.path_rules.specs.LimitsAndWords.{longest_name, longest_path, index_name}
use Rattle.path_rules.specs.Target.{is_slash, form_of, raw_path_of}

-- what a target stands for: nothing that is served, the index of a folder, or a path;
-- each is names joined with `/`
pub data RouteOf : Type 0 where
  not_found : RouteOf
  index : List ℕ → RouteOf
  path : List ℕ → RouteOf

-- the segment has no byte
abbrev pub is_empty : List ℕ → Bool
is_empty segment = length segment == 0

-- the name begins with `.`
abbrev pub is_hidden : List ℕ → Bool
is_hidden [] = false
is_hidden (b ∷ bs) = b == 46

-- the test for NUL, `/` and `\`, which no name holds
abbrev pub is_forbidden : ℕ → Bool
is_forbidden b = b == 0 || b == 47 || b == 92

-- a decoded segment is the name of a file or a folder: at most 255 bytes of UTF-8, no
-- `.` first, and no forbidden byte
unfoldable pub is_name : List ℕ → Bool
is_name name =
    nat_le (length name) longest_name && is_utf8 name && not (is_hidden name)
    && not (list_any is_forbidden name)

-- each segment but the last has a byte
abbrev pub is_full_to_last : List (List ℕ) → Bool
is_full_to_last [] = true
is_full_to_last (segment ∷ []) = true
is_full_to_last (segment ∷ next ∷ more) = not (is_empty segment) && is_full_to_last (next ∷ more)

-- the last segment has no byte
abbrev pub ends_empty : List (List ℕ) → Bool
ends_empty [] = true
ends_empty (segment ∷ []) = is_empty segment
ends_empty (segment ∷ next ∷ more) = ends_empty (next ∷ more)

-- the segments, each decoded once, joined with `/`
abbrev pub joined : List (List ℕ) → List ℕ
joined segments = join_with_byte 47 (map percent_decode segments)

-- the segments are those of a path that can be served
unfoldable pub can_be_served : List (List ℕ) → Bool
can_be_served segments =
    is_full_to_last segments && list_all is_name (map percent_decode segments)
    && nat_le (length (joined segments)) longest_path

-- what the segments of a raw path stand for
unfoldable pub route_in : List (List ℕ) → RouteOf
route_in segments =
    if can_be_served segments
    then (if ends_empty segments then index (joined segments ++ index_name) else path (joined segments))
    else not_found

-- an authority with nothing after it has the path `/`
abbrev pub or_root : List ℕ → List ℕ
or_root [] = codes "/"
or_root (b ∷ bs) = b ∷ bs

-- the raw path of a target of a form
abbrev pub raw_text : List ℕ → Form → Option (List ℕ)
raw_text target Origin = Some (slice_range target (raw_path_of target).0 (raw_path_of target).1)
raw_text target (Absolute authority) =
    Some (or_root (slice_range target (raw_path_of target).0 (raw_path_of target).1))
raw_text target Neither = None

-- what the bytes after the first `/` of a raw path stand for: they are cut at `/` into segments
abbrev pub route_by : Option (List ℕ) → RouteOf
route_by None = not_found
route_by (Some bytes) = route_in (slice_split is_slash bytes)

-- what a target stands for
unfoldable pub route_of : List ℕ → RouteOf
route_of target = route_by (option_map (drop 1) (raw_text target (form_of target)))

-- what an answer of `route` shows, with the path that was written
abbrev pub route_shown : Route → List ℕ → RouteOf
route_shown found.Path text = path text
route_shown found.Index text = index text
route_shown found.NotFound text = not_found
