use Rattle.std.proofs.Common.{◌≡◌, sym, ap, ◌∙◌, false}
use Rattle.std.specs.Prelude.{not}
use Rattle.std.specs.List.{list_any}
use Rattle.std.proofs.lemmas.Bool.{not-true}
use Rattle.stripe_table.specs.Descriptors.{is_for}
use Rattle.stripe_table.proofs.Lists.{all_pass, none_passes}
use Rattle.stripe_table.proofs.descriptor.OpenDescriptor.take_due.Goals as goal

pub returns-then-is_all_due-clause-taken : goal.returns-then-is_all_due-clause-taken
returns-then-is_all_due-clause-taken g c = let waits = c.args.self.now.waits in
    let none : list_any (λ r. not (is_for c.args.event.now r)) waits ≡ false =
    not-true _ (sym c.is_all_due.ensures ∙ c.if-is_all_due.true) in
    c.take.ensures.list ∙ sym (all_pass (is_for c.args.event.now) waits none)

pub returns-then-is_all_due-clause-left : goal.returns-then-is_all_due-clause-left
returns-then-is_all_due-clause-left g c = let waits = c.args.self.now.waits in
    let none : list_any (λ r. not (is_for c.args.event.now r)) waits ≡ false =
    not-true _ (sym c.is_all_due.ensures ∙ c.if-is_all_due.true) in
    ap (λ l. record c.args.self.now { waits = l })
    (c.take.ensures.empty ∙ sym (none_passes (λ r. not (is_for c.args.event.now r)) waits none))
