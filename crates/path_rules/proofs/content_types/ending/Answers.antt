use Rattle.std.proofs.Common.{◌≡◌, ap, ◌-◌, ◌+◌, length, take, drop, Some, arith, refl}
use Rattle.std.specs.List.{after_last}
use Rattle.std.proofs.lemmas.Grind.{common_steps}
use Rattle.path_rules.specs.ContentType.{is_dot}
use Rattle.path_rules.proofs.Places.{after_last-at, any-at, any-none}
use Rattle.path_rules.proofs.content_types.ending.Goals as goal

pub returns-in-Some : goal.returns-in-Some
returns-in-Some c =
    let segment = c.args.segment.now in
    let at = c.in-Some.at in
    let there = any-at is_dot segment at c.in-Some.ensures in
    let is : after_last is_dot segment ≡ drop (at + 1) segment =
    after_last-at is_dot segment at c.in-Some.ensures in
    let shown : take (length segment - (at + 1)) (drop (at + 1) segment) ≡ after_last is_dot segment =
    grind (arith, common_steps) in
    rw there (ap Some shown)

pub returns-in-None : goal.returns-in-None
returns-in-None c = rw (any-none is_dot c.args.segment.now c.in-None.ensures) refl
