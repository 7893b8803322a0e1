use Rattle.std.proofs.Common.{◌≡◌, sym, ap, ◌∙◌, ℕ, ◌<◌, List, [], ◌∷◌, length, arith}
use Rattle.std.specs.Prelude.{Some, slice_get, filter, remove}
use Rattle.std.proofs.lemmas.Option.{slice_get_within, same_Some}
use Rattle.std.proofs.lemmas.Bool.{cond-true, cond-false}
use Rattle.stripe_table.specs.Ascending.{Ascends}
use Rattle.stripe_table.specs.Flags.{key_of, flag_has, is_settled}
use Rattle.stripe_table.specs.declared.flags.UnaskedFlag.{UnaskedFlag}
use Rattle.stripe_table.proofs.Lists.{at_filter, at_remove, none_passes}
use Rattle.stripe_table.proofs.flags.Flags.ask.Goals as goal

one : (items now : List UnaskedFlag) (i k : ℕ) (f g : UnaskedFlag) → items ≡ now → Ascends key_of now
    → slice_get now i ≡ Some f → f.key ≡ k → slice_get items i ≡ Some g → g ∷ [] ≡ filter (flag_has k) now
one items now i k f g is a at same read =
    let here : g ≡ f = same_Some g f (sym read ∙ (ap (λ (l : List UnaskedFlag). slice_get l i) is ∙ at)) in
    sym (at_filter key_of k now i g a (ap (λ (l : List UnaskedFlag). slice_get l i) (sym is) ∙ read)
    (ap key_of here ∙ same))

within : (items now : List UnaskedFlag) (i : ℕ) (f : UnaskedFlag) → items ≡ now
    → slice_get now i ≡ Some f → i < length items
within items now i f is at = slice_get_within items i f (ap (λ (l : List UnaskedFlag). slice_get l i) is ∙ at)

pub returns-in_default-clause-told : goal.returns-in_default-clause-told
returns-in_default-clause-told c a =
    sym (none_passes (flag_has c.args.key) c.args.self.now (c.in_default.ensures.absent a))

pub remove-requires : goal.remove-requires
remove-requires c =
    let f = c.in-Some.ensures.there in
    let le = within c.self.inside.items.items c.args.self.now c.in-Some.place f.0 c.self.view_is f.1 in
    let ok = c.self.inside.items.ok.0 in
    omega arith

pub flag_at-flag-requires : goal.flag_at-flag-requires
flag_at-flag-requires c =
    let f = c.in-Some.ensures.there in
    within c.as_slice.result.now c.args.self.now c.in-Some.place f.0
    (c.as_slice.ensures.value ∙ c.self.view_is) f.1

pub returns-then-is_settled-clause-told : goal.returns-then-is_settled-clause-told
returns-then-is_settled-clause-told c a =
    let f = c.in-Some.ensures.there in
    one c.as_slice.result.now c.args.self.now c.in-Some.place c.args.key f.0 c.flag_at-flag.result
    (c.as_slice.ensures.value ∙ c.self.view_is) a f.1 f.2 c.flag_at-flag.ensures

pub returns-then-is_settled-clause-kept : goal.returns-then-is_settled-clause-kept
returns-then-is_settled-clause-kept c a =
    let f = c.in-Some.ensures.there in
    c.remove.ensures.items
    ∙ (ap (λ l. remove l c.in-Some.place) c.self.view_is
    ∙ (at_remove key_of c.args.key c.args.self.now c.in-Some.place f.0 a f.1 f.2 ∙ sym (cond-true
    (is_settled c.flag_at-flag.result) _ c.args.self.now (sym c.is_settled.ensures ∙ c.if-is_settled.true))))

pub returns-else-is_settled-clause-told : goal.returns-else-is_settled-clause-told
returns-else-is_settled-clause-told c a =
    let f = c.in-Some.ensures.there in
    one c.as_slice.result.now c.args.self.now c.in-Some.place c.args.key f.0 c.flag_at-flag.result
    (c.as_slice.ensures.value ∙ c.self.view_is) a f.1 f.2 c.flag_at-flag.ensures

pub returns-else-is_settled-clause-kept : goal.returns-else-is_settled-clause-kept
returns-else-is_settled-clause-kept c a =
    sym (cond-false (is_settled c.flag_at-flag.result) _ c.args.self.now
    (sym c.is_settled.ensures ∙ c.if-is_settled.false))
