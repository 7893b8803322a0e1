use Rattle.std.proofs.Common.{◌≡◌, refl, sym, ap, ◌∙◌, set, List, ℕ, ◌<◌, length, map, false}
use Rattle.std.specs.Prelude.{Some, slice_get, ◌==◌}
use Rattle.std.proofs.lemmas.Option.{slice_get_read, slice_get_within, same_Some}
use Rattle.std.proofs.lemmas.Bool.{cond-true, cond-false, eq-eqb, eqb-true, both_ways, false_from_ne_true}
use Rattle.stripe_table.specs.Ascending.{Ascends}
use Rattle.stripe_table.specs.Flags.{key_of, flag_has, settled}
use Rattle.stripe_table.specs.declared.flags.FlagState.{FlagState}
use Rattle.stripe_table.specs.declared.flags.UnaskedFlag.{UnaskedFlag}
use Rattle.stripe_table.proofs.Lists.{at_set, none_changed}
use Rattle.stripe_table.proofs.flags.Flags.settle.Goals as goal

turned : (k n : ℕ) → (n == k) ≡ false → (k == n) ≡ false
turned k n e = false_from_ne_true (k == n) (λ h. both_ways (n == k) e (eq-eqb n k (sym (eqb-true k n h))))

left : (k : ℕ) (x : FlagState) (f : UnaskedFlag) → flag_has k f ≡ false → settled k x f ≡ f
left k x f e =
    ap (λ (s : FlagState). record f { state = s }) (cond-false (k == f.key) x f.state (turned k f.key e))

here : (k : ℕ) (x : FlagState) (f : UnaskedFlag) → f.key ≡ k → settled k x f ≡ record f { state = x }
here k x f e =
    ap (λ (s : FlagState). record f { state = s }) (cond-true (k == f.key) x f.state (eq-eqb k f.key (sym e)))

done : (items now : List UnaskedFlag) (i k : ℕ) (x : FlagState) (f g : UnaskedFlag) → items ≡ now
    → Ascends key_of now → slice_get now i ≡ Some f → f.key ≡ k → slice_get items i ≡ Some g
    → set items i (record g { state = x }) ≡ map (settled k x) now
done items now i k x f g is a at same read =
    let one : g ≡ f = same_Some g f (sym read ∙ (ap (λ (l : List UnaskedFlag). slice_get l i) is ∙ at)) in
    ap (λ (l : List UnaskedFlag). set l i (record g { state = x })) is
    ∙ (ap (λ (y : UnaskedFlag). set now i (record y { state = x })) one
    ∙ (ap (set now i) (sym (here k x f same)) ∙ at_set key_of k (settled k x) (left k x) now i f a at same))

within : (items now : List UnaskedFlag) (i : ℕ) (f : UnaskedFlag) → items ≡ now
    → slice_get now i ≡ Some f → i < length items
within items now i f is at = slice_get_within items i f (ap (λ (l : List UnaskedFlag). slice_get l i) is ∙ at)

pub returns-in-Some : goal.returns-in-Some
returns-in-Some c a =
    let f = c.in-Some.ensures.there in
    done c.self.inside.items.items c.args.self.now c.in-Some.place c.args.key
    c.args.state f.0 c.index_mut.result.now c.self.view_is a f.1 f.2
    (slice_get_read c.self.inside.items.items _ c.in-Some.place c.index_mut.result.now refl
    (within _ _ c.in-Some.place f.0 c.self.view_is f.1) c.index_mut.ensures.value)

pub returns-in_default : goal.returns-in_default
returns-in_default c a =
    sym (none_changed (flag_has c.args.key) (settled c.args.key c.args.state)
    (left c.args.key c.args.state) c.args.self.now (c.in_default.ensures.absent a))
