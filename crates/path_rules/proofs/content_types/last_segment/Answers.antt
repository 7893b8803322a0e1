use Rattle.std.proofs.Common.{◌≡◌, sym, ◌+◌, drop, arith}
use Rattle.std.proofs.lemmas.Grind.{common_steps}
use Rattle.path_rules.specs.Target.{is_slash}
use Rattle.path_rules.specs.ContentType.{last_segment}
use Rattle.path_rules.proofs.Places.{after_last-at, after_last-none}
use Rattle.path_rules.proofs.content_types.last_segment.Goals as goal

pub returns-in-Some : goal.returns-in-Some
returns-in-Some c =
    let is : last_segment c.args.path.now ≡ drop (c.in-Some.at + 1) c.args.path.now =
    after_last-at is_slash c.args.path.now c.in-Some.at c.in-Some.ensures in
    grind (arith, common_steps)

pub returns-in-None : goal.returns-in-None
returns-in-None c = sym (after_last-none is_slash c.args.path.now c.in-None.ensures)
