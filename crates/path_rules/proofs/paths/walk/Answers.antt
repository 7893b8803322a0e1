use Rattle.std.proofs.Common.{◌≡◌, ◌∙◌, sym, ap, length, false, true}
use Rattle.std.specs.List.{slice_split}
use Rattle.path_rules.specs.Target.{is_slash}
use Rattle.path_rules.specs.Walk.{route_behind, can_follow}
use Rattle.path_rules.proofs.RouteLemmas.{route_behind-nothing, route_behind-folder, route_behind-none}
use Rattle.path_rules.proofs.RouteLemmas.{split-some}
use Rattle.path_rules.proofs.paths.walk.Goals as goal

pub loop-folder-init : goal.loop-folder-init
loop-folder-init c = rw c.requires (route_behind-nothing (slice_split is_slash c.args.path.now))

pub returns-then-not-add_folder-clause-is : goal.returns-then-not-add_folder-clause-is
returns-then-not-add_folder-clause-is c =
    let written = c.loop-folder.out in
    let folder = c.in-Some.folder.now in
    let more = c.in-Some.more.now in
    let lost : can_follow (length written) folder ≡ false =
    sym c.add_folder.ensures.is ∙ c.if-not-add_folder.true in
    sym (route_behind-none written folder (slice_split is_slash more) (split-some more) lost)
    ∙ sym (ap (route_behind written) c.in-Some.ensures.cut)
    ∙ c.loop-folder.invariant

pub loop-folder-preserved : goal.loop-folder-preserved
loop-folder-preserved c =
    let written = c.loop-folder.out in
    let folder = c.in-Some.folder.now in
    let more = c.in-Some.more.now in
    let kept : can_follow (length written) folder ≡ true =
    sym c.add_folder.ensures.is ∙ c.if-not-add_folder.false in
    rw c.if-not-add_folder.ensures.added
    (sym (route_behind-folder written folder (slice_split is_slash more) (split-some more) kept)
    ∙ sym (ap (route_behind written) c.in-Some.ensures.cut)
    ∙ c.loop-folder.invariant)

pub returns-clause-is : goal.returns-clause-is
returns-clause-is c =
    c.finish.ensures.is ∙ sym (ap (route_behind c.loop-folder.out) c.in_default.ensures)
    ∙ c.loop-folder.invariant
