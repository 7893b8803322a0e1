use Rattle.std.proofs.Common.{refl, arith}
use Rattle.warp_core.proofs.RowLists.{all_same_by}
use Rattle.warp_core.proofs.KeepingBeats.{each_on_as, each_on_then}
use Rattle.warp_core.proofs.serve.serve_on.Goals as goal

pub loop-init : goal.loop-init
loop-init g c = record {
  some = c.requires.some;
  serve = c.requires.serve;
  limits = c.requires.limit;
  seats = c.requires.seats;
  beats = each_on_as _ _ refl;
}

pub settle-requires-clause-some : goal.settle-requires-clause-some
settle-requires-clause-some g c = c.loop.invariant.some

pub settle-requires-clause-serve : goal.settle-requires-clause-serve
settle-requires-clause-serve g c = c.loop.invariant.serve

pub settle-requires-clause-limit : goal.settle-requires-clause-limit
settle-requires-clause-limit g c = c.loop.invariant.limits

pub settle-requires-clause-seats : goal.settle-requires-clause-seats
settle-requires-clause-seats g c = c.loop.invariant.seats

pub returns-in-Some-settle-clause-serve : goal.returns-in-Some-settle-clause-serve
returns-in-Some-settle-clause-serve g c = c.settle.ensures.serve

pub returns-in-Some-settle-clause-limit : goal.returns-in-Some-settle-clause-limit
returns-in-Some-settle-clause-limit g c = c.settle.ensures.limit

pub returns-in-Some-settle-clause-level : goal.returns-in-Some-settle-clause-level
returns-in-Some-settle-clause-level g c = c.settle.ensures.level

pub returns-in-Some-settle-clause-ends : goal.returns-in-Some-settle-clause-ends
returns-in-Some-settle-clause-ends g c = c.in-Some-settle.ensures.ends

pub returns-in-Some-settle-clause-cause : goal.returns-in-Some-settle-clause-cause
returns-in-Some-settle-clause-cause g c = c.in-Some-settle.ensures.cause

pub turn_all-requires-clause-serve : goal.turn_all-requires-clause-serve
turn_all-requires-clause-serve g c = λ κs lives. c.settle.ensures.serve

pub turn_all-requires-clause-seats : goal.turn_all-requires-clause-seats
turn_all-requires-clause-seats g c = λ κs lives. c.settle.ensures.seats

pub loop-preserved : goal.loop-preserved
loop-preserved g c = record {
  some = (let some = c.loop.invariant.some in omega arith);
  serve = c.turn_all.ensures.serve;
  limits =
      all_same_by (λ row. row.runner.limit) c.args.limit c.settle.new.rows c.turn_all.new.rows
      c.turn_all.ensures.limit c.settle.ensures.limit;
  seats = c.turn_all.ensures.seats;
  beats =
      each_on_then _ _ _ c.loop.invariant.beats
      (each_on_then _ _ _ c.settle.ensures.beats c.turn_all.ensures.beats);
}

pub returns-in-Some-settle-clause-beats : goal.returns-in-Some-settle-clause-beats
returns-in-Some-settle-clause-beats g c =
    each_on_then _ _ _ c.loop.invariant.beats c.settle.ensures.beats
