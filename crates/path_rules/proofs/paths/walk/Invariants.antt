use Rattle.std.proofs.Common.{◌≡◌, length}
use Rattle.std.specs.List.{slice_split}
use Rattle.path_rules.specs.Target.{is_slash}
use Rattle.path_rules.specs.Route.{route_in}
use Rattle.path_rules.specs.Walk.{route_behind}
use Rattle.path_rules.proofs.paths.walk.Given as goal

abbrev pub invariant-loop-folder : goal.invariant-loop-folder
invariant-loop-folder l =
    route_behind l.out (slice_split is_slash l.rest) ≡ route_in (slice_split is_slash l.path)

abbrev pub decreases-loop-folder : goal.decreases-loop-folder
decreases-loop-folder l = length l.rest
