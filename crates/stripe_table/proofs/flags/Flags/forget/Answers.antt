use Rattle.std.proofs.Common.{sym, ap, ◌∙◌}
use Rattle.std.specs.Prelude.{remove}
use Rattle.stripe_table.specs.Flags.{key_of, flag_has}
use Rattle.stripe_table.proofs.Lists.{at_remove, all_kept}
use Rattle.stripe_table.proofs.flags.Flags.forget.Goals as goal

pub returns-in-Some : goal.returns-in-Some
returns-in-Some c a =
    let f = c.in-Some.ensures.there in
    c.remove.ensures.items
    ∙ (ap (λ l. remove l c.in-Some.place) c.self.view_is
    ∙ at_remove key_of c.args.key c.args.self.now c.in-Some.place f.0 a f.1 f.2)

pub returns-in_default : goal.returns-in_default
returns-in_default c a = sym (all_kept (flag_has c.args.key) c.args.self.now (c.in_default.ensures.absent a))
