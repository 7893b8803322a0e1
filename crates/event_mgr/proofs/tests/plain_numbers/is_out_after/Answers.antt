use Rattle.std.proofs.Common.{not, ap, sym, ◌∙◌}
use Rattle.std.proofs.lemmas.Bool.{eq-eqb}
use Rattle.event_mgr.proofs.PlainNumbers.{other_back, same_back}
use Rattle.event_mgr.proofs.tests.plain_numbers.is_out_after.Goals as goal

pub returns-then-back-number : goal.returns-then-back-number
returns-then-back-number c ms same =
    same ∙ sym
    (other_back _ _ ms _ c.args.number c.in-GiveBack-Back.is-0 c.in-GiveBack-Back.is-1 c.if-back-number.true)

pub returns-else-back-number : goal.returns-else-back-number
returns-else-back-number c ms same =
    ap not (eq-eqb _ _ c.if-back-number.false) ∙ sym
    (same_back _ _ ms _ c.args.number c.in-GiveBack-Back.is-0 c.in-GiveBack-Back.is-1 c.if-back-number.false)
