use Rattle.std.proofs.Common.{◌≡◌, ◌<◌, ◌≤◌, ◌^◌, true, length, ap, sym, refl, ◌∙◌, arith, rules}
use Rattle.std.specs.Prelude.{◌&&◌, nat_le}
use Rattle.std.specs.Char.{is_ascii_digit}
use Rattle.std.specs.List.{list_all}
use Rattle.std.specs.Result.{result_ok}
use Rattle.std.specs.Str.Parse.{digits_value}
use Rattle.std.proofs.lemmas.Bool.{and_parts}
use Rattle.std.proofs.lemmas.Str.Parse.{IsNumeralModel, numerals_by_value, digits_value_short, parse_gives}
use Rattle.warp_load.specs.LoadWords.{is_number, number_read}
use Rattle.warp_load.proofs.RangeLemmas.{at_most}
use Rattle.warp_load.proofs.words.number_in.Goals as goal

-- a number of decimal digits
own : IsNumeralModel (λ ds. list_all is_ascii_digit ds ≡ true) (digits_value 10)
own = numerals_by_value _ (search rules)

pub returns-then-is_number : goal.returns-then-is_number
unfolding number_read
returns-then-is_number c =
    let word = c.args.word.now in
    let number : is_number word ≡ true = sym c.if-is_number.ensures in
    let parts =
    and_parts (nat_le 1 (length word) && nat_le (length word) 10) (list_all is_ascii_digit word) number in
    let bounds = and_parts (nat_le 1 (length word)) (nat_le (length word) 10) parts.0 in
    let some : 1 ≤ length word = at_most 1 (length word) bounds.0 in
    let few : length word ≤ 10 = at_most (length word) 10 bounds.1 in
    let small : digits_value 10 word < 2 ^ 64 = omega (arith, digits_value_short own word 10 parts.1 few) in
    let parsed = parse_gives own 64 word c.parse.result c.parse.ensures.value.0 parts.1 some small in
    c.ok.ensures.value ∙ ap (λ (r : _). result_ok r) parsed ∙ rw number refl
