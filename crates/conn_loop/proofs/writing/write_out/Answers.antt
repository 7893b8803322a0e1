use Rattle.std.proofs.Common.{arith, length-drop}
use Rattle.std.proofs.lemmas.List.{take_rest}
use Rattle.conn_loop.specs.declared.writing.WriteEnd.TheVariants.{Waits, Fails}
use Rattle.conn_loop.proofs.WritingLemmas.{ran_on, ran_waits, ran_fails, ran_nothing, writes_here}
use Rattle.conn_loop.proofs.WritingLemmas.{writes_whole, some_left}
use Rattle.conn_loop.proofs.writing.write_out.Goals as goal

pub returns-in-Took-eq0-clause-writes : goal.returns-in-Took-eq0-clause-writes
returns-in-Took-eq0-clause-writes g c =
    writes_here Fails c.args.bytes.now c.loop-at.at _ _ _ c.loop-at.invariant.ran
    (ran_nothing c.in-Took-eq0.field-0 _ _ _ c.in-Took-eq0.field-0-test c.in-Took-eq0.ensures.wrote)
    (some_left c.args.bytes.now c.loop-at.at c.loop-at-test.true)

pub returns-in-NotYet-clause-writes : goal.returns-in-NotYet-clause-writes
returns-in-NotYet-clause-writes g c =
    writes_here Waits c.args.bytes.now c.loop-at.at _ _ _ c.loop-at.invariant.ran
    (ran_waits _ _ c.in-NotYet.ensures.wrote) (some_left c.args.bytes.now c.loop-at.at c.loop-at-test.true)

pub returns-in-Failed-clause-writes : goal.returns-in-Failed-clause-writes
returns-in-Failed-clause-writes g c =
    writes_here Fails c.args.bytes.now c.loop-at.at _ _ _ c.loop-at.invariant.ran
    (ran_fails _ _ c.in-Failed.ensures.wrote) (some_left c.args.bytes.now c.loop-at.at c.loop-at-test.true)

pub returns-clause-writes : goal.returns-clause-writes
returns-clause-writes g c =
    writes_whole c.args.bytes.now c.loop-at.at _ _ c.loop-at-test.false c.loop-at.invariant.ran

pub loop-at-preserved : goal.loop-at-preserved
loop-at-preserved g c =
    let was = c.loop-at.invariant in
    let is = c.in-Took.ensures in
    record {
      within =
          omega (arith, simp take_rest at is.within, length-drop c.loop-at.at c.args.bytes.now, was.within);
      ran = ran_on c.args.bytes.now c.loop-at.at c.in-Took.n _ _ _ was.ran is.wrote;
    }
