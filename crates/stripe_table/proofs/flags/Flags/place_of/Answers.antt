use Rattle.std.proofs.Common.{◌≡◌, ◌+◌, ◌-◌, ◌/◌, ◌≤◌, ◌<◌, ⊎_elim, ℕ, sym, ◌∙◌, subst, List, false, arith}
use Rattle.std.specs.Prelude.{Some, slice_get}
use Rattle.std.specs.List.{list_any}
use Rattle.std.proofs.lemmas.Bool.{cases_lt}
use Rattle.stripe_table.specs.Ascending.{Ascends}
use Rattle.stripe_table.specs.Flags.{key_of, flag_has}
use Rattle.stripe_table.specs.declared.flags.UnaskedFlag.{UnaskedFlag}
use Rattle.stripe_table.proofs.Lists.{none_at, at_or_below, at_or_above}
use Rattle.stripe_table.proofs.flags.Flags.place_of.Goals as goal

pub loop-low-preserved-then-found-key-2 : goal.loop-low-preserved-then-found-key-2
loop-low-preserved-then-found-key-2 c =
    let items = c.as_slice-items.result.now in
    let inv = c.loop-low.invariant in
    let more = c.loop-low-test.true in
    let within = inv.within in
    record {
      within = within;
      low =
          λ a i f at le.
          at_or_below key_of items i (c.loop-low.low + (c.loop-low.high - c.loop-low.low) / 2) f
          c.flag_at-found.result c.args.key a at c.flag_at-found.ensures (omega arith) c.if-found-key-2.true;
      high = inv.high;
    }

pub loop-low-preserved : goal.loop-low-preserved
loop-low-preserved c =
    let items = c.as_slice-items.result.now in
    let inv = c.loop-low.invariant in
    let more = c.loop-low-test.true in
    let within = inv.within in
    let ne = c.if-found-key.false in
    let ge = c.if-found-key-2.false in
    record {
      within = omega arith;
      low = inv.low;
      high =
          λ a i f at le.
          at_or_above key_of items i (c.loop-low.low + (c.loop-low.high - c.loop-low.low) / 2) f
          c.flag_at-found.result c.args.key a at c.flag_at-found.ensures le (omega arith);
    }

absent : (items now : List UnaskedFlag) (low high key : ℕ) → items ≡ now → Ascends key_of now
    → (Ascends key_of items → (i : ℕ) (f : UnaskedFlag) → slice_get items i ≡ Some f → i < low → f.key < key)
    → (Ascends key_of items → (i : ℕ) (f : UnaskedFlag) → slice_get items i ≡ Some f → high ≤ i → key < f.key)
    → high ≤ low → list_any (flag_has key) now ≡ false
absent items now low high key is a below above done =
    subst (λ (l : List UnaskedFlag). list_any (flag_has key) l ≡ false) is (let b : Ascends key_of items =
    subst (λ (l : List UnaskedFlag). Ascends key_of l) (sym is) a in
    none_at key_of key items (λ i f at same. ⊎_elim (λ (lt : i < low). let x =
    below b i f at lt in omega arith) (λ (ge : low ≤ i). let x =
    above b i f at (omega arith) in omega arith) (cases_lt i low)))

pub returns-clause-absent : goal.returns-clause-absent
returns-clause-absent c a =
    let inv = c.loop-low.invariant in
    absent c.as_slice-items.result.now c.args.self.now c.loop-low.low c.loop-low.high c.args.key
    (c.as_slice-items.ensures.value ∙ c.self.view_is) a inv.low inv.high c.loop-low-test.false
