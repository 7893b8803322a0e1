use Rattle.std.proofs.Common.{◌≡◌, ◌==◌, ℕ, List, ◌∷◌, [], refl, sym, ap, ◌∙◌, rules, tests}
use Rattle.std.specs.List.{fold, slice_split}
use Rattle.std.proofs.lemmas.Iterator.Splits.{YieldsList-from_slice_split}
use Rattle.std.proofs.lemmas.List.Folds.{fold-map}
use Rattle.std.proofs.lemmas.List.Sums.{fold-append}
use Rattle.httparse.specs.Grammar.{trim_ows}
use Rattle.warp_request.specs.declared.length.LengthLines.{LengthLines}
use Rattle.warp_request.specs.NamedLines.{Lengths, length_with, lengths_shown}
use Rattle.warp_request.proofs.PartLemmas.{fold_yields}
use Rattle.warp_request.proofs.length.LengthLines.with_value.Goals as goal

-- with one more part of a line
abbrev with_part : Lengths → List ℕ → Lengths
with_part lines part = length_with lines (trim_ows part)

pub returns : goal.returns
returns c =
    let start = lengths_shown c.args.self in
    fold_yields (λ (parts : List (List ℕ)) (lines : LengthLines).
    lengths_shown lines ≡ fold with_part start parts) _ _ c.fold.ensures.ran
    (YieldsList-from_slice_split _ _ c.args.value.now c.split.ensures.rest c.split.ensures.done
    c.split.ensures.closure (λ x r q k. search (rules, tests)))
    refl
    (λ parts lines part next f' is called. (
      let one : lengths_shown next ≡ with_part (lengths_shown lines) part.now = search rules in
          one ∙ ap (λ (l : Lengths). with_part l part.now) is
          ∙ sym (fold-append with_part start parts (part.now ∷ [])),
      search rules,
    ))
    ∙ sym (fold-map length_with trim_ows start (slice_split (λ b. b == 44) c.args.value.now))
