use Rattle.std.proofs.Common.{◌≡◌, ◌==◌, ℕ, List, ◌∷◌, [], sym, ap, ◌∙◌, rules, tests}
use Rattle.std.specs.List.{fold, slice_split}
use Rattle.std.proofs.lemmas.Iterator.Splits.{YieldsList-from_slice_split}
use Rattle.std.proofs.lemmas.List.Folds.{fold-map}
use Rattle.std.proofs.lemmas.List.Sums.{fold-append}
use Rattle.httparse.specs.Grammar.{trim_ows}
use Rattle.warp_request.specs.declared.coding.CodingLines.{CodingLines}
use Rattle.warp_request.specs.NamedLines.{coding_with, opened}
use Rattle.warp_request.proofs.PartLemmas.{fold_yields}
use Rattle.warp_request.proofs.coding.CodingLines.with_value.Goals as goal

-- with one more part of a line
abbrev with_part : CodingLines → List ℕ → CodingLines
with_part lines part = coding_with lines (trim_ows part)

pub returns : goal.returns
returns c =
    let start = opened c.args.self in
    fold_yields (λ (parts : List (List ℕ)) (lines : CodingLines). lines ≡ fold with_part start parts)
    _ _ c.fold.ensures.ran
    (YieldsList-from_slice_split _ _ c.args.value.now c.split.ensures.rest c.split.ensures.done
    c.split.ensures.closure (λ x r q k. search (rules, tests)))
    c.opened.ensures
    (λ parts lines part next f' is called. (
      let one : next ≡ with_part lines part.now = search rules in
          one ∙ ap (λ (l : CodingLines). with_part l part.now) is
          ∙ sym (fold-append with_part start parts (part.now ∷ [])),
      search rules,
    ))
    ∙ sym (fold-map coding_with trim_ows start (slice_split (λ b. b == 44) c.args.value.now))
