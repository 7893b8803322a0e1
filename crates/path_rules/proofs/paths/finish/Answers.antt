use Rattle.std.proofs.Common.{◌≡◌, ◌∙◌, ◌++◌, true, length, codes, arith, sym, ap}
use Rattle.percent_encoding.specs.Percent.{percent_decode}
use Rattle.path_rules.specs.Route.{is_name}
use Rattle.path_rules.proofs.RouteLemmas.{last-refused, last-long, last-index, last-path, and-first}
use Rattle.path_rules.proofs.paths.finish.Goals as goal
use Rattle.path_rules.proofs.paths.finish.Goals.{then-not-add_segment-via-then-not-add_segment}
use Rattle.path_rules.proofs.paths.finish.Goals.{then-not-add_segment-via-else-not-add_segment+then-len-gt-LONGEST_PATH}

pub returns-then-not-add_segment-clause-is : goal.returns-then-not-add_segment-clause-is
returns-then-not-add_segment-clause-is c =
    let written = c.args.out.now in
    let last = c.args.last.now in
    elim c.then-not-add_segment.branch [
      | then-not-add_segment-via-then-not-add_segment w ↦
          sym (last-refused written last (sym c.add_segment.ensures.is ∙ w.if-not-add_segment.true))
      | then-not-add_segment-via-else-not-add_segment+then-len-gt-LONGEST_PATH w ↦
          let kept = w.if-not-add_segment.false in
          let name : is_name (percent_decode last) ≡ true =
          and-first _ _ (sym c.add_segment.ensures.is ∙ kept) in
          let new : c.add_segment.new.out ≡ written ++ percent_decode last =
          rw kept at c.add_segment.ensures.added in
          let long : length c.add_segment.new.out ≡ length (written ++ percent_decode last) = ap length new in
          sym (last-long written last name (omega (arith, w.len.ensures.is)))
    ]

pub returns-then-is_empty-clause-is : goal.returns-then-is_empty-clause-is
returns-then-is_empty-clause-is c =
    let written = c.args.out.now in
    let last = c.args.last.now in
    let kept = c.if-not-add_segment.false in
    let name : is_name (percent_decode last) ≡ true = and-first _ _ (sym c.add_segment.ensures.is ∙ kept) in
    let new : c.add_segment.new.out ≡ written ++ percent_decode last =
    rw kept at c.add_segment.ensures.added in
    let long : length c.add_segment.new.out ≡ length (written ++ percent_decode last) = ap length new in
    let room : c.add.result ≡ true = c.add.ensures.fits.1 (omega arith) in
    let whole : c.add.new.self ≡ c.add_segment.new.out ++ codes "index.html" =
    rw room at c.add.ensures.added in
    let is : c.add.new.self ≡ (written ++ percent_decode last) ++ codes "index.html" =
    whole ∙ ap (λ t. t ++ codes "index.html") new in
    rw is (sym (last-index written last name (omega arith) (sym c.is_empty.ensures ∙ c.if-is_empty.true)))

pub returns-else-is_empty-clause-is : goal.returns-else-is_empty-clause-is
returns-else-is_empty-clause-is c =
    let written = c.args.out.now in
    let last = c.args.last.now in
    let kept = c.if-not-add_segment.false in
    let name : is_name (percent_decode last) ≡ true = and-first _ _ (sym c.add_segment.ensures.is ∙ kept) in
    let new : c.add_segment.new.out ≡ written ++ percent_decode last =
    rw kept at c.add_segment.ensures.added in
    let long : length c.add_segment.new.out ≡ length (written ++ percent_decode last) = ap length new in
    rw new (sym (last-path written last name (omega arith) (sym c.is_empty.ensures ∙ c.if-is_empty.false)))
