-- To be believed: what the application of a folder does, look by look.
use Rattle.std.specs.Prelude.{ℕ, Bool, true, false, List, Some, None}
use Rattle.path_rules.specs.Route.{RouteOf, route_of}
use Rattle.path_rules.specs.Route as routed
use Rattle.path_rules.specs.ContentType.{content_type_of}
use Rattle.app_trait.specs.declared.request.Seen.{Seen}
use Rattle.app_trait.specs.declared.request.Seen.TheVariants.{Nothing, FirstFound, FirstAbsent, SecondFound}
use Rattle.app_trait.specs.declared.request.Seen.TheVariants.{SecondAbsent}
use Rattle.app_trait.specs.declared.method.Method.{Method}
use Rattle.app_trait.specs.declared.method.Method.TheVariants.{Get, Head, Options, Refused, Unknown}
use Rattle.app_trait.specs.Method.{method_of}
use Rattle.app_trait.specs.FolderReply.{index_of, moved_place}
use Rattle.app_trait.specs.Moves.{RequestText, empty, found, Outline, AppMove, look_at, answer}

-- an answer without file and place
abbrev pub plain : ℕ → Bool → Outline
plain status allow = record { status = status; content = empty; kind = None; place = None; allow = allow }

-- 200 with the file that was found at a path
abbrev pub found_at : List ℕ → Bool → Outline
found_at path send = record {
  status = 200;
  content = found send;
  kind = Some (content_type_of path);
  place = None;
  allow = false;
}

-- 301 to the place of the folder
abbrev pub moved_from : List ℕ → Outline
moved_from target =
    record { status = 301; content = empty; kind = None; place = Some (moved_place target); allow = false }

-- at an index one look decides
abbrev pub index_move : List ℕ → Bool → Seen → AppMove
index_move path send Nothing = look_at path
index_move path send (FirstFound size mtime) = answer (found_at path send)
index_move path send FirstAbsent = answer (plain 404 false)
index_move path send (SecondFound size mtime) = answer (plain 404 false)
index_move path send SecondAbsent = answer (plain 404 false)

-- at a path a second look is for the index below it
abbrev pub path_move : List ℕ → List ℕ → Bool → Seen → AppMove
path_move path target send Nothing = look_at path
path_move path target send (FirstFound size mtime) = answer (found_at path send)
path_move path target send FirstAbsent = look_at (index_of path)
path_move path target send (SecondFound size mtime) = answer (moved_from target)
path_move path target send SecondAbsent = answer (plain 404 false)

-- a target goes by its route
abbrev pub move_by_route : RouteOf → List ℕ → Bool → Seen → AppMove
move_by_route routed.not_found target send seen = answer (plain 404 false)
move_by_route (routed.index path) target send seen = index_move path send seen
move_by_route (routed.path path) target send seen = path_move path target send seen

-- a request goes by its method
abbrev pub move_by_method : Method → List ℕ → Seen → AppMove
move_by_method Get target seen = move_by_route (route_of target) target true seen
move_by_method Head target seen = move_by_route (route_of target) target false seen
move_by_method Options target seen = answer (plain 200 true)
move_by_method Refused target seen = answer (plain 405 true)
move_by_method Unknown target seen = answer (plain 501 false)

-- what the application of a folder does with a request, once this has been seen
unfoldable pub folder_move : RequestText → Seen → AppMove
folder_move request seen = move_by_method (method_of request.method) request.target seen
