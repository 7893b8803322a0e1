use Rattle.std.proofs.Common.{◌≡◌, ℕ, ◌+◌, ◌*◌, ◌%◌, ◌<◌, ⊎_elim, true, false, sym, ap, ◌∙◌, subst, arith}
use Rattle.std.specs.Prelude.{Some, ◌==◌, slice_get}
use Rattle.std.specs.List.{list_any}
use Rattle.std.specs.Int.{bit_at}
use Rattle.std.proofs.lemmas.Bool.{both_ways, eqb-true, eq-eqb, cases_Bool, false_from_ne_true}
use Rattle.std.proofs.lemmas.Nat.Bits.{bit_at-zero}
use Rattle.std.proofs.Math.Nat.{eq-or-lt_of_le}
use Rattle.stripe_table.specs.Descriptors.{waits_as, waits_at}
use Rattle.stripe_table.proofs.Steps.{read_is}
use Rattle.stripe_table.proofs.stripe.Stripe.holder_among.Goals as goal

pub loop-listed-init : goal.loop-listed-init
loop-listed-init g c r i d half at h = c.half-listed.ensures i half (r i d at c.args.key h)

pub loop-listed-preserved : goal.loop-listed-preserved
loop-listed-preserved g c r i d half at h =
    let items = c.args.self.now.descriptors.items in
    let bit = c.lowest_bit-bit.result in
    ⊎_elim
    (λ (t : (i % 64 == bit) ≡ true). let e : i % 64 ≡ bit = eqb-true (i % 64) bit t in
    let there : slice_get items (c.args.half * 64 + bit) ≡ Some (Some d) =
    subst (λ (n : ℕ). slice_get items n ≡ Some (Some d)) (omega arith) at in
    absurd (both_ways c.has_key.result c.if-has_key.false (c.has_key.ensures
    ∙ (ap (waits_at c.args.key) (read_is items _ d c.index.result.now there c.index.ensures) ∙ h))))
    (λ (t : (i % 64 == bit) ≡ false). c.without_bit-listed.ensures.others (i % 64) (omega arith)
    (λ e. both_ways (i % 64 == bit) t (eq-eqb (i % 64) bit e)) ∙ c.loop-listed.invariant r i d half at h)
    (cases_Bool (i % 64 == bit))

pub loop-listed-smaller : goal.loop-listed-smaller
loop-listed-smaller g c =
    let new = c.without_bit-listed.result in
    let old = c.loop-listed.listed in
    let bit = c.lowest_bit-bit.result in
    ⊎_elim
    (λ (e : new ≡ old). let wrong : 0 ≡ 1 = sym c.without_bit-listed.ensures.cleared
    ∙ (ap (λ (n : ℕ). bit_at n bit) e ∙ c.lowest_bit-bit.ensures.set) in absurd (omega arith))
    (λ (lt : new < old). lt)
    (eq-or-lt_of_le {n = new} {m = old} c.without_bit-listed.ensures.least)

pub returns-clause-absent : goal.returns-clause-absent
returns-clause-absent g c r i d half at = false_from_ne_true (list_any (waits_as c.args.key) d.waits)
    (λ h.
    let one = c.loop-listed.invariant r i d half at h in
    let none = bit_at-zero (i % 64) in
    let wrong : 0 ≡ 1 = sym none ∙ (ap (λ (n : ℕ). bit_at n (i % 64)) (sym c.loop-listed-test.false) ∙ one) in
    absurd (omega arith))
