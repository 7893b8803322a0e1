use Rattle.std.proofs.Common.{◌≡◌, take, drop, ◌+◌, ◌-◌, length, arith, length-drop}
use Rattle.std.proofs.lemmas.Grind.{common_steps}
use Rattle.path_rules.proofs.RouteLemmas.{split-first, split-none}
use Rattle.path_rules.proofs.segments.first_folder.Goals as goal

pub returns-in-Some : goal.returns-in-Some
returns-in-Some c =
    let path = c.args.path.now in
    let at = c.in-Some.at in
    let tail : take (length path - (at + 1)) (drop (at + 1) path) ≡ drop (at + 1) path =
    grind (arith, common_steps) in
    rw tail (record {
      cut = split-first path at c.in-Some.ensures;
      shorter = omega (arith, length-drop (at + 1) path, c.in-Some.ensures.0.high);
    })

pub returns-in-None : goal.returns-in-None
returns-in-None c = split-none c.args.path.now c.in-None.ensures
