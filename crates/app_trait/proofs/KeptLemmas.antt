-- What a kept path tells: which look was made, and what it was for.
use Rattle.std.proofs.Common.{◌≡◌, ℕ, Bool, false, List, Option, Some, None, refl}
use Rattle.path_rules.specs.Route.{RouteOf, route_of}
use Rattle.path_rules.specs.Route as routed
use Rattle.app_trait.specs.declared.request.Seen.{Seen}
use Rattle.app_trait.specs.declared.request.Seen.TheVariants.{Nothing, FirstFound, FirstAbsent, SecondFound}
use Rattle.app_trait.specs.declared.request.Seen.TheVariants.{SecondAbsent}
use Rattle.app_trait.specs.declared.method.Method.{Method}
use Rattle.app_trait.specs.Method.{method_of}
use Rattle.app_trait.specs.Seen.{next_seen, first_seen, second_seen}
use Rattle.app_trait.specs.Moves.{RequestText, AppMove, look_at, answer, PathKept}
use Rattle.app_trait.specs.FolderMoves.{plain, found_at, moved_from, move_by_route, move_by_method}
use Rattle.app_trait.specs.FolderMoves.{folder_move}

-- after a look its path is kept
pub kept_next : (move : Seen → AppMove) (seen : Seen) (found : Option (ℕ × ℕ)) (path : List ℕ)
    → move seen ≡ look_at path → PathKept move (next_seen seen found) path
kept_next move Nothing None path is = record { before = Nothing; found = None; next = refl; looked = is }
kept_next move Nothing (Some facts) path is =
    record { before = Nothing; found = Some facts; next = refl; looked = is }
kept_next move (FirstFound size mtime) None path is =
    record { before = FirstFound size mtime; found = None; next = refl; looked = is }
kept_next move (FirstFound size mtime) (Some facts) path is =
    record { before = FirstFound size mtime; found = Some facts; next = refl; looked = is }
kept_next move FirstAbsent None path is =
    record { before = FirstAbsent; found = None; next = refl; looked = is }
kept_next move FirstAbsent (Some facts) path is =
    record { before = FirstAbsent; found = Some facts; next = refl; looked = is }
kept_next move (SecondFound size mtime) None path is =
    record { before = SecondFound size mtime; found = None; next = refl; looked = is }
kept_next move (SecondFound size mtime) (Some facts) path is =
    record { before = SecondFound size mtime; found = Some facts; next = refl; looked = is }
kept_next move SecondAbsent None path is =
    record { before = SecondAbsent; found = None; next = refl; looked = is }
kept_next move SecondAbsent (Some facts) path is =
    record { before = SecondAbsent; found = Some facts; next = refl; looked = is }

not_second : (found : Option (ℕ × ℕ)) (size mtime : ℕ) → FirstFound size mtime ≡ second_seen found → ⊥
not_second None size mtime is = cc
not_second (Some facts) size mtime is = cc

not_first : (found : Option (ℕ × ℕ)) (size mtime : ℕ) → SecondFound size mtime ≡ first_seen found → ⊥
not_first None size mtime is = cc
not_first (Some facts) size mtime is = cc

at_first : (to : RouteOf) (target path : List ℕ) (send : Bool) (size mtime : ℕ)
    → move_by_route to target send Nothing ≡ look_at path
    → answer (found_at path send) ≡ move_by_route to target send (FirstFound size mtime)
at_first routed.not_found target path send size mtime is = cc
at_first (routed.index p) target path send size mtime is = cc
at_first (routed.path p) target path send size mtime is = cc

first_by : (to : RouteOf) (target path : List ℕ) (send : Bool) (size mtime : ℕ) (before : Seen)
    (found : Option (ℕ × ℕ))
    → FirstFound size mtime ≡ next_seen before found → move_by_route to target send before ≡ look_at path
    → answer (found_at path send) ≡ move_by_route to target send (FirstFound size mtime)
first_by to target path send size mtime Nothing found next is = at_first to target path send size mtime is
first_by to target path send size mtime (FirstFound s m) found next is =
    absurd (not_second found size mtime next)
first_by to target path send size mtime FirstAbsent found next is = absurd (not_second found size mtime next)
first_by to target path send size mtime (SecondFound s m) found next is =
    absurd (not_second found size mtime next)
first_by to target path send size mtime SecondAbsent found next is = absurd (not_second found size mtime next)

-- a file that the first look found is the one at the path that is kept
pub found_first : (to : RouteOf) (target path : List ℕ) (send : Bool) (size mtime : ℕ)
    → PathKept (move_by_route to target send) (FirstFound size mtime) path
    → answer (found_at path send) ≡ move_by_route to target send (FirstFound size mtime)
found_first to target path send size mtime kept =
    first_by to target path send size mtime kept.before kept.found kept.next kept.looked

found_is_over : (to : RouteOf) (target path : List ℕ) (send : Bool) (size mtime : ℕ)
    → move_by_route to target send (FirstFound size mtime) ≡ look_at path → ⊥
found_is_over routed.not_found target path send size mtime is = cc
found_is_over (routed.index p) target path send size mtime is = cc
found_is_over (routed.path p) target path send size mtime is = cc

second_is_over : (to : RouteOf) (target path : List ℕ) (send : Bool) (size mtime : ℕ)
    → move_by_route to target send (SecondFound size mtime) ≡ look_at path → ⊥
second_is_over routed.not_found target path send size mtime is = cc
second_is_over (routed.index p) target path send size mtime is = cc
second_is_over (routed.path p) target path send size mtime is = cc

absent_is_over : (to : RouteOf) (target path : List ℕ) (send : Bool)
    → move_by_route to target send SecondAbsent ≡ look_at path → ⊥
absent_is_over routed.not_found target path send is = cc
absent_is_over (routed.index p) target path send is = cc
absent_is_over (routed.path p) target path send is = cc

at_second : (to : RouteOf) (target path : List ℕ) (send : Bool) (size mtime : ℕ)
    → move_by_route to target send FirstAbsent ≡ look_at path
    → answer (moved_from target) ≡ move_by_route to target send (SecondFound size mtime)
at_second routed.not_found target path send size mtime is = cc
at_second (routed.index p) target path send size mtime is = cc
at_second (routed.path p) target path send size mtime is = refl

second_by : (to : RouteOf) (target path : List ℕ) (send : Bool) (size mtime : ℕ)
    (before : Seen) (found : Option (ℕ × ℕ))
    → SecondFound size mtime ≡ next_seen before found → move_by_route to target send before ≡ look_at path
    → answer (moved_from target) ≡ move_by_route to target send (SecondFound size mtime)
second_by to target path send size mtime Nothing found next is = absurd (not_first found size mtime next)
second_by to target path send size mtime (FirstFound s m) found next is =
    absurd (found_is_over to target path send s m is)
second_by to target path send size mtime FirstAbsent found next is =
    at_second to target path send size mtime is
second_by to target path send size mtime (SecondFound s m) found next is =
    absurd (second_is_over to target path send s m is)
second_by to target path send size mtime SecondAbsent found next is =
    absurd (absent_is_over to target path send is)

-- a file that the second look found is the index of the folder
pub found_second : (to : RouteOf) (target path : List ℕ) (send : Bool) (size mtime : ℕ)
    → PathKept (move_by_route to target send) (SecondFound size mtime) path
    → answer (moved_from target) ≡ move_by_route to target send (SecondFound size mtime)
found_second to target path send size mtime kept =
    second_by to target path send size mtime kept.before kept.found kept.next kept.looked

-- a second look that found none
pub absent_second : (to : RouteOf) (target : List ℕ) (send : Bool)
    → answer (plain 404 false) ≡ move_by_route to target send SecondAbsent
absent_second routed.not_found target send = refl
absent_second (routed.index p) target send = refl
absent_second (routed.path p) target send = refl

-- what is kept of a request is kept of its route
pub kept_of : (request : RequestText) (method : Method) (seen : Seen) (path : List ℕ)
    → method ≡ method_of request.method
    → PathKept (folder_move request) seen path → PathKept (move_by_method method request.target) seen path
unfolding folder_move
kept_of request method seen path is kept = rw is kept
