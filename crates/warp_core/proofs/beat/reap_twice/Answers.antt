use Rattle.turn_cell.specs.Calls.{view_of}
use Rattle.warp_core.proofs.Beating.{reaped_twice}
use Rattle.warp_core.proofs.Serving.{goes_then}
use Rattle.warp_core.proofs.beat.reap_twice.Goals as goal

pub reap-halted-requires : goal.reap-halted-requires
reap-halted-requires g c = c.requires

pub returns-in-Some-clause-serves : goal.returns-in-Some-clause-serves
returns-in-Some-clause-serves g c = c.reap-halted.ensures.serves

pub returns-in-Some-clause-goes_on : goal.returns-in-Some-clause-goes_on
returns-in-Some-clause-goes_on g c = c.reap-halted.ensures.goes_on

pub returns-in-None-clause-goes_on : goal.returns-in-None-clause-goes_on
returns-in-None-clause-goes_on g c =
    goes_then c.args.row.now c.reap-halted.new.row c.reap.new.row c.reap-halted.ensures.goes_on
    c.reap.ensures.goes_on

pub returns-in-None-clause-reaped : goal.returns-in-None-clause-reaped
returns-in-None-clause-reaped g c = λ is.
    reaped_twice (view_of c.args.row.now.runner.cached) (view_of c.reap-halted.new.row.runner.cached)
    (view_of c.reap.new.row.runner.cached)
    (c.reap-halted.ensures.reaped c.in-None.is) (c.reap.ensures.reaped is)
