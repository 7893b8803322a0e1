use Rattle.std.proofs.Common.{◌≡◌, true, false, nat_le, length, arith, refl, sym, ◌∙◌}
use Rattle.std.specs.List.{list_any}
use Rattle.std.specs.Str.{is_utf8}
use Rattle.std.proofs.lemmas.Bool.Decides.{nat_tests}
use Rattle.std.proofs.lemmas.Str.{is_utf8-from_IsUtf8}
use Rattle.path_rules.specs.Route.{is_name, is_hidden, is_forbidden}
use Rattle.path_rules.proofs.RouteLemmas.{is_utf8-not}
use Rattle.path_rules.proofs.segments.name_of.Goals as goal

pub returns-in-Ok : goal.returns-in-Ok
unfolding is_name
returns-in-Ok c =
    let name = c.args.bytes.now in
    let short : nat_le (length name) 255 ≡ true = grind (arith, nat_tests) in
    let utf8 : is_utf8 name ≡ true = is_utf8-from_IsUtf8 name c.in-Ok.ensures.cases.1 in
    let shown : is_hidden name ≡ false = sym c.is_hidden.ensures ∙ c.if-is_hidden.false in
    let free : list_any is_forbidden name ≡ false =
    sym c.holds_forbidden.ensures ∙ c.if-holds_forbidden.false in (
      c.in-Ok.ensures.cases.0,
      rw (short, utf8, shown, free) refl,
    )

pub returns-in-Err : goal.returns-in-Err
unfolding is_name
returns-in-Err c =
    let name = c.args.bytes.now in
    let short : nat_le (length name) 255 ≡ true = grind (arith, nat_tests) in
    rw (short, is_utf8-not name c.in-Err.ensures.cases.0) refl
