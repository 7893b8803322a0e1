use Rattle.warp_core.proofs.Serving.{goes_same, goes_then}
use Rattle.warp_core.proofs.KeepingBeats.{on_same, on_then}
use Rattle.warp_core.proofs.turns.serve_row.Goals as goal

pub loop-init : goal.loop-init
loop-init g c = record {
  serves = c.requires;
  goes = goes_same c.args.row.now;
  on = on_same _;
}

pub makes_a_round-requires : goal.makes_a_round-requires
makes_a_round-requires g c = c.loop.invariant.serves

pub loop-preserved : goal.loop-preserved
loop-preserved g c = record {
  serves = c.makes_a_round.ensures.serves;
  goes =
      goes_then c.args.row.now c.loop.row c.makes_a_round.new.row c.loop.invariant.goes
      c.makes_a_round.ensures.goes_on;
  on = on_then _ _ _ c.loop.invariant.on c.makes_a_round.ensures.on;
}

pub returns-then-not-makes_a_round-clause-serves : goal.returns-then-not-makes_a_round-clause-serves
returns-then-not-makes_a_round-clause-serves g c = c.makes_a_round.ensures.serves

pub returns-then-not-makes_a_round-clause-goes_on : goal.returns-then-not-makes_a_round-clause-goes_on
returns-then-not-makes_a_round-clause-goes_on g c =
    goes_then c.args.row.now c.loop.row c.makes_a_round.new.row c.loop.invariant.goes
    c.makes_a_round.ensures.goes_on

pub returns-clause-serves : goal.returns-clause-serves
returns-clause-serves g c = c.loop.invariant.serves

pub returns-clause-goes_on : goal.returns-clause-goes_on
returns-clause-goes_on g c = c.loop.invariant.goes

pub returns-then-not-makes_a_round-clause-on : goal.returns-then-not-makes_a_round-clause-on
returns-then-not-makes_a_round-clause-on g c = on_then _ _ _ c.loop.invariant.on c.makes_a_round.ensures.on

pub returns-clause-on : goal.returns-clause-on
returns-clause-on g c = c.loop.invariant.on
