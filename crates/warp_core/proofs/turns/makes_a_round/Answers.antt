use Rattle.warp_core.proofs.Serving.{goes_then}
use Rattle.warp_core.proofs.KeepingBeats.{on_then}
use Rattle.warp_core.proofs.turns.makes_a_round.Goals as goal

pub beat-requires : goal.beat-requires
beat-requires g c = c.requires

pub halt-requires-clause-serves : goal.halt-requires-clause-serves
halt-requires-clause-serves g c = c.beat.ensures.serves

pub halt-requires-clause-may_halt : goal.halt-requires-clause-may_halt
halt-requires-clause-may_halt g c = c.in-Some.ensures.may_halt

pub returns-in-Some-clause-serves : goal.returns-in-Some-clause-serves
returns-in-Some-clause-serves g c = c.halt.ensures.serves

pub returns-in-Some-clause-goes_on : goal.returns-in-Some-clause-goes_on
returns-in-Some-clause-goes_on g c =
    goes_then c.args.row.now c.beat.new.row c.halt.new.row c.beat.ensures.goes_on c.halt.ensures.goes_on

pub look-requires : goal.look-requires
look-requires g c = c.beat.ensures.serves

pub goes_on-requires : goal.goes_on-requires
goes_on-requires g c = c.look.ensures.serves

pub halt-requires-in-Spent-clause-serves : goal.halt-requires-in-Spent-clause-serves
halt-requires-in-Spent-clause-serves g c = c.look.ensures.serves

pub halt-requires-in-Spent-clause-may_halt : goal.halt-requires-in-Spent-clause-may_halt
halt-requires-in-Spent-clause-may_halt g c =
    record { stops = (c.look.ensures.serves.fits.0, tt); faulted = λ is. absurd (cc) }

pub returns-in-GoesOn-clause-serves : goal.returns-in-GoesOn-clause-serves
returns-in-GoesOn-clause-serves g c = c.goes_on.ensures.serves

pub returns-in-GoesOn-clause-goes_on : goal.returns-in-GoesOn-clause-goes_on
returns-in-GoesOn-clause-goes_on g c =
    goes_then c.args.row.now c.beat.new.row c.goes_on.new.row c.beat.ensures.goes_on
    (goes_then c.beat.new.row c.look.new.row c.goes_on.new.row c.look.ensures.goes_on
    c.goes_on.ensures.goes_on)

pub returns-in-IsOver-clause-serves : goal.returns-in-IsOver-clause-serves
returns-in-IsOver-clause-serves g c = c.look.ensures.serves

pub returns-in-IsOver-clause-goes_on : goal.returns-in-IsOver-clause-goes_on
returns-in-IsOver-clause-goes_on g c =
    goes_then c.args.row.now c.beat.new.row c.look.new.row c.beat.ensures.goes_on c.look.ensures.goes_on

pub returns-in-Spent-clause-serves : goal.returns-in-Spent-clause-serves
returns-in-Spent-clause-serves g c = c.halt-in-Spent.ensures.serves

pub returns-in-Spent-clause-goes_on : goal.returns-in-Spent-clause-goes_on
returns-in-Spent-clause-goes_on g c =
    goes_then c.args.row.now c.beat.new.row c.halt-in-Spent.new.row c.beat.ensures.goes_on
    (goes_then c.beat.new.row c.look.new.row c.halt-in-Spent.new.row c.look.ensures.goes_on
    c.halt-in-Spent.ensures.goes_on)

pub returns-in-Some-clause-beats : goal.returns-in-Some-clause-beats
returns-in-Some-clause-beats g c =
    (c.beat.result, c.beat.new.row, c.beat.ensures.beat, c.halt.ensures.goes_on)

pub returns-in-GoesOn-clause-beats : goal.returns-in-GoesOn-clause-beats
returns-in-GoesOn-clause-beats g c = (
  c.beat.result,
  c.beat.new.row,
  c.beat.ensures.beat,
  goes_then c.beat.new.row c.look.new.row c.goes_on.new.row c.look.ensures.goes_on c.goes_on.ensures.goes_on,
)

pub returns-in-IsOver-clause-beats : goal.returns-in-IsOver-clause-beats
returns-in-IsOver-clause-beats g c =
    (c.beat.result, c.beat.new.row, c.beat.ensures.beat, c.look.ensures.goes_on)

pub returns-in-Spent-clause-beats : goal.returns-in-Spent-clause-beats
returns-in-Spent-clause-beats g c = (
  c.beat.result,
  c.beat.new.row,
  c.beat.ensures.beat,
  goes_then c.beat.new.row c.look.new.row c.halt-in-Spent.new.row c.look.ensures.goes_on
      c.halt-in-Spent.ensures.goes_on,
)

pub returns-in-Some-clause-on : goal.returns-in-Some-clause-on
returns-in-Some-clause-on g c = on_then _ _ _ c.beat.ensures.on c.halt.ensures.on

pub returns-in-GoesOn-clause-on : goal.returns-in-GoesOn-clause-on
returns-in-GoesOn-clause-on g c =
    on_then _ _ _ c.beat.ensures.on (on_then _ _ _ c.look.ensures.on c.goes_on.ensures.on)

pub returns-in-IsOver-clause-on : goal.returns-in-IsOver-clause-on
returns-in-IsOver-clause-on g c = on_then _ _ _ c.beat.ensures.on c.look.ensures.on

pub returns-in-Spent-clause-on : goal.returns-in-Spent-clause-on
returns-in-Spent-clause-on g c =
    on_then _ _ _ c.beat.ensures.on (on_then _ _ _ c.look.ensures.on c.halt-in-Spent.ensures.on)
