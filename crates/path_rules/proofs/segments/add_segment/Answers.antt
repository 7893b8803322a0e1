use Rattle.std.proofs.Common.{◌≡◌, false, nat_le, length, arith, refl, ◌<◌}
use Rattle.std.proofs.lemmas.Bool.Decides.{nat_tests}
use Rattle.percent_encoding.specs.Percent.{percent_decode as decoded}
use Rattle.path_rules.specs.Route.{is_name}
use Rattle.path_rules.proofs.segments.add_segment.Goals as goal

pub returns-in_default-clause-is : goal.returns-in_default-clause-is
unfolding is_name
returns-in_default-clause-is c =
    let long : 255 < length (decoded c.args.segment.now) = omega (arith, c.in_default.ensures.none) in
    let far : nat_le (length (decoded c.args.segment.now)) 255 ≡ false = grind (arith, nat_tests) in
    rw far refl
