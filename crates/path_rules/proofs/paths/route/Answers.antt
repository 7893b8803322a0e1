use Rattle.std.proofs.Common.{◌∙◌, ap}
use Rattle.path_rules.specs.Route.{route_of, route_by}
use Rattle.path_rules.proofs.paths.route.Goals as goal

pub returns-in-Some-clause-is : goal.returns-in-Some-clause-is
unfolding route_of
returns-in-Some-clause-is c = c.walk.ensures.is ∙ ap route_by (rw c.in-Some.is at c.behind_root.ensures)

pub returns-in-None-clause-is : goal.returns-in-None-clause-is
unfolding route_of
returns-in-None-clause-is c = ap route_by (rw c.in-None.is at c.behind_root.ensures)
