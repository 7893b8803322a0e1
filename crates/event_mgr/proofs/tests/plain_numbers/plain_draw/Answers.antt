use Rattle.std.proofs.Common.{reverse, sym, ◌∙◌, arith}
use Rattle.event_mgr.proofs.LeastMissing.{draw_is_least, draw_is_all_out}
use Rattle.event_mgr.proofs.tests.plain_numbers.plain_draw.Goals as goal

pub returns-then-not-is_out : goal.returns-then-not-is_out
returns-then-not-is_out c = draw_is_least (reverse c.args.history.now) _ (record {
  within = c.loop-number-test.true;
  free = sym c.is_out.ensures ∙ c.if-not-is_out.true;
  least = c.loop-number.invariant;
})

pub returns : goal.returns
returns c = draw_is_all_out (reverse c.args.history.now) (λ m l. c.loop-number.invariant m (omega arith))
