use Rattle.std.proofs.Common.{◌≡◌, ◌<◌, ◌∙◌, sym, ap, arith, nat_lt, true, refl, List, ℕ, length, codes}
use Rattle.std.proofs.lemmas.Bool.Decides.{nat_tests}
use Rattle.std.proofs.lemmas.List.{take_all}
use Rattle.httpdate.specs.Date.{date_text}
use Rattle.warp_response.specs.Head.{date_line, field_line}
use Rattle.warp_response.specs.Moment.{first_undated, date_of}
use Rattle.warp_response.proofs.MomentLemmas.{date_is}
use Rattle.warp_response.proofs.date_line.dated.Goals as goal

shown : (moment : ℕ) → moment < first_undated → date_line moment ≡ field_line (codes "Date") (date_of moment)
unfolding date_line
shown moment early = let test : nat_lt moment first_undated ≡ true = grind (arith, nat_tests) in rw test refl

pub invariant_of-result : goal.invariant_of-result
invariant_of-result c =
    let is : date_text c.args.date ≡ date_of c.args.moment =
    date_is c.args.date c.args.moment c.requires.early c.requires.same in
    record {
      within = omega arith;
      shows =
          take_all 37 c.with_name.result (omega (arith, ap length c.with_name.ensures))
          ∙ c.with_name.ensures ∙ ap (λ (d : List ℕ). field_line (codes "Date") d) (c.to_bytes.ensures ∙ is)
          ∙ sym (shown c.args.moment c.requires.early);
    }
