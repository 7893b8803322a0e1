use Rattle.std.proofs.Common.{ℕ, List, ◌∙◌, sym, rules, tests}
use Rattle.std.specs.Str.{str_eq_ignore_ascii_case}
use Rattle.std.proofs.lemmas.Iterator.Splits.{YieldsList-from_slice_split}
use Rattle.std.proofs.lemmas.Iterator.Search.{any_from_yields_List}
use Rattle.httparse.specs.Grammar.{trim_ows}
use Rattle.warp_request.proofs.FieldLemmas.{has_word_by_parts}
use Rattle.warp_request.proofs.values.has_word.Goals as goal

pub returns : goal.returns
returns c =
    any_from_yields_List (λ (part : List ℕ). str_eq_ignore_ascii_case (trim_ows part) c.args.word.now)
    _ _ _ c.any.ensures.ran
    (YieldsList-from_slice_split _ _ c.args.value.now c.split.ensures.rest c.split.ensures.done
    c.split.ensures.closure (λ x r q k. search (rules, tests)))
    (λ x b q k. search (rules, tests))
    ∙ sym (has_word_by_parts c.args.word.now c.args.value.now)
