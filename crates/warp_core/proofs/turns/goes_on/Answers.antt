use Rattle.warp_core.proofs.Serving.{goes_then}
use Rattle.warp_core.proofs.KeepingBeats.{on_then}
use Rattle.warp_core.proofs.turns.goes_on.Goals as goal

pub turn_once-requires : goal.turn_once-requires
turn_once-requires g c = c.requires

pub halt-requires-clause-serves : goal.halt-requires-clause-serves
halt-requires-clause-serves g c = c.turn_once.ensures.serves

pub halt-requires-clause-may_halt : goal.halt-requires-clause-may_halt
halt-requires-clause-may_halt g c = c.in-Some.ensures.may_halt

pub returns-in-None-clause-serves : goal.returns-in-None-clause-serves
returns-in-None-clause-serves g c = c.turn_once.ensures.serves

pub returns-in-None-clause-goes_on : goal.returns-in-None-clause-goes_on
returns-in-None-clause-goes_on g c = c.turn_once.ensures.goes_on

pub returns-in-Some-clause-serves : goal.returns-in-Some-clause-serves
returns-in-Some-clause-serves g c = c.halt.ensures.serves

pub returns-in-Some-clause-goes_on : goal.returns-in-Some-clause-goes_on
returns-in-Some-clause-goes_on g c =
    goes_then c.args.row.now c.turn_once.new.row c.halt.new.row c.turn_once.ensures.goes_on
    c.halt.ensures.goes_on

pub returns-in-None-clause-on : goal.returns-in-None-clause-on
returns-in-None-clause-on g c = c.turn_once.ensures.on

pub returns-in-Some-clause-on : goal.returns-in-Some-clause-on
returns-in-Some-clause-on g c = on_then _ _ _ c.turn_once.ensures.on c.halt.ensures.on
