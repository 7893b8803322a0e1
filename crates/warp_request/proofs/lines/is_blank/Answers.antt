use Rattle.std.proofs.Common.{◌≤◌, ◌∙◌, ap, sym, length, length-drop, arith, eq-eqb}
use Rattle.std.proofs.lemmas.List.{drop_all}
use Rattle.std.proofs.lemmas.Bool.Decides.{nat_tests}
use Rattle.warp_request.proofs.lines.is_blank.Goals as goal

pub returns : goal.returns
returns c =
    let bytes = c.args.bytes.now in
    let at = c.after_empty.result in (
      λ e.
          let past : length bytes ≤ at = grind (arith, nat_tests) in
          sym c.after_empty.ensures.rest ∙ drop_all at bytes past,
      λ e.
          eq-eqb at (length bytes) (omega (
            arith,
            ap length (c.after_empty.ensures.rest ∙ e),
            length-drop at bytes,
            c.after_empty.ensures.within,
          )),
    )
