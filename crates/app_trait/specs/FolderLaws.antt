-- Inner: the proofs that the application of a folder answers after two looks, and that each answer is
-- proper. Trusted by their types.
use Rattle.std.specs.Prelude.{◌≡◌, ℕ, Bool, true, false, List, refl}
use Rattle.std.proofs.Common.{arith}
use Rattle.warp_response.specs.Statuses.{HasPhrase}
use Rattle.path_rules.specs.Route.{RouteOf, route_of}
use Rattle.path_rules.specs.Route as routed
use Rattle.app_trait.specs.declared.request.Seen.{Seen}
use Rattle.app_trait.specs.declared.request.Seen.TheVariants.{Nothing, FirstFound, FirstAbsent, SecondFound}
use Rattle.app_trait.specs.declared.request.Seen.TheVariants.{SecondAbsent}
use Rattle.app_trait.specs.declared.method.Method.{Method}
use Rattle.app_trait.specs.declared.method.Method.TheVariants.{Get, Head, Options, Refused, Unknown}
use Rattle.app_trait.specs.Method.{method_of}
use Rattle.app_trait.specs.Moves.{RequestText, IsAnswer, EndsWithTwo, IsProper, IsProperMove}
use Rattle.app_trait.specs.FolderMoves.{plain, found_at, moved_from, index_move, path_move, move_by_route}
use Rattle.app_trait.specs.FolderMoves.{move_by_method, folder_move}

-- ---- after two looks comes an answer

route_found : (to : RouteOf) (target : List ℕ) (send : Bool) (size mtime : ℕ)
    → IsAnswer (move_by_route to target send (SecondFound size mtime))
route_found routed.not_found target send size mtime = tt
route_found (routed.index path) target send size mtime = tt
route_found (routed.path path) target send size mtime = tt

route_absent : (to : RouteOf) (target : List ℕ) (send : Bool)
    → IsAnswer (move_by_route to target send SecondAbsent)
route_absent routed.not_found target send = tt
route_absent (routed.index path) target send = tt
route_absent (routed.path path) target send = tt

method_found : (method : Method) (target : List ℕ) (size mtime : ℕ)
    → IsAnswer (move_by_method method target (SecondFound size mtime))
method_found Get target size mtime = route_found (route_of target) target true size mtime
method_found Head target size mtime = route_found (route_of target) target false size mtime
method_found Options target size mtime = tt
method_found Refused target size mtime = tt
method_found Unknown target size mtime = tt

method_absent : (method : Method) (target : List ℕ) → IsAnswer (move_by_method method target SecondAbsent)
method_absent Get target = route_absent (route_of target) target true
method_absent Head target = route_absent (route_of target) target false
method_absent Options target = tt
method_absent Refused target = tt
method_absent Unknown target = tt

-- after two looks the folder answers
pub folder_ends : EndsWithTwo folder_move
unfolding folder_move
folder_ends = record {
  found = λ request size mtime. method_found (method_of request.method) request.target size mtime;
  absent = λ request. method_absent (method_of request.method) request.target;
}

-- ---- each answer is proper

plain_proper : (status : ℕ) (allow : Bool) (seen : Seen) → HasPhrase status → (status ≡ 301 → ⊥)
    → IsProper seen (plain status allow)
plain_proper status allow seen phrase other = record {
  phrase = phrase;
  moved = ((λ h. cc), (λ h. absurd (other h)));
  whole = λ h. cc;
  found = λ h. cc;
  kind = ((λ h. cc), (λ h. cc));
}

found_proper : (path : List ℕ) (send : Bool) (size mtime : ℕ)
    → IsProper (FirstFound size mtime) (found_at path send)
unfolding HasPhrase
found_proper path send size mtime = record {
  phrase = refl;
  moved = ((λ h. cc), (λ e. absurd (omega arith)));
  whole = λ h. refl;
  found = λ h. tt;
  kind = ((λ h. refl), (λ h. refl));
}

moved_proper : (target : List ℕ) (seen : Seen) → IsProper seen (moved_from target)
unfolding HasPhrase
moved_proper target seen = record {
  phrase = refl;
  moved = ((λ h. refl), (λ h. refl));
  whole = λ h. cc;
  found = λ h. cc;
  kind = ((λ h. cc), (λ h. cc));
}

missing_proper : (seen : Seen) → IsProper seen (plain 404 false)
unfolding HasPhrase
missing_proper seen = plain_proper 404 false seen refl (λ e. omega arith)

index_proper : (path : List ℕ) (send : Bool) (seen : Seen) → IsProperMove seen (index_move path send seen)
index_proper path send Nothing = tt
index_proper path send (FirstFound size mtime) = found_proper path send size mtime
index_proper path send FirstAbsent = missing_proper FirstAbsent
index_proper path send (SecondFound size mtime) = missing_proper (SecondFound size mtime)
index_proper path send SecondAbsent = missing_proper SecondAbsent

path_proper : (path target : List ℕ) (send : Bool) (seen : Seen)
    → IsProperMove seen (path_move path target send seen)
path_proper path target send Nothing = tt
path_proper path target send (FirstFound size mtime) = found_proper path send size mtime
path_proper path target send FirstAbsent = tt
path_proper path target send (SecondFound size mtime) = moved_proper target (SecondFound size mtime)
path_proper path target send SecondAbsent = missing_proper SecondAbsent

route_proper : (to : RouteOf) (target : List ℕ) (send : Bool) (seen : Seen)
    → IsProperMove seen (move_by_route to target send seen)
route_proper routed.not_found target send seen = missing_proper seen
route_proper (routed.index path) target send seen = index_proper path send seen
route_proper (routed.path path) target send seen = path_proper path target send seen

method_proper : (method : Method) (target : List ℕ) (seen : Seen)
    → IsProperMove seen (move_by_method method target seen)
unfolding HasPhrase
method_proper Get target seen = route_proper (route_of target) target true seen
method_proper Head target seen = route_proper (route_of target) target false seen
method_proper Options target seen = plain_proper 200 true seen refl (λ e. omega arith)
method_proper Refused target seen = plain_proper 405 true seen refl (λ e. omega arith)
method_proper Unknown target seen = plain_proper 501 false seen refl (λ e. omega arith)

-- each answer of the folder is proper
pub folder_proper : (request : RequestText) (seen : Seen) → IsProperMove seen (folder_move request seen)
unfolding folder_move
folder_proper request seen = method_proper (method_of request.method) request.target seen
