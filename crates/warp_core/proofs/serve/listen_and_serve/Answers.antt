use Rattle.std.proofs.Common.{arith}
use Rattle.warp_core.proofs.RowLists.{all_same_by}
use Rattle.warp_core.proofs.KeepingBeats.{each_on_then}
use Rattle.warp_core.proofs.serve.listen_and_serve.Goals as goal

pub begin-requires-clause-some : goal.begin-requires-clause-some
begin-requires-clause-some g c = c.requires.some

pub begin-requires-clause-serve : goal.begin-requires-clause-serve
begin-requires-clause-serve g c = c.requires.serve

pub begin-requires-clause-seats : goal.begin-requires-clause-seats
begin-requires-clause-seats g c = c.requires.new.0

pub begin-requires-clause-hands : goal.begin-requires-clause-hands
begin-requires-clause-hands g c = c.requires.new.1

pub begin-requires-clause-listener : goal.begin-requires-clause-listener
begin-requires-clause-listener g c = c.requires.listener

pub serve_on-requires-clause-some : goal.serve_on-requires-clause-some
serve_on-requires-clause-some g c = let some = c.requires.some in omega arith

pub serve_on-requires-clause-serve : goal.serve_on-requires-clause-serve
serve_on-requires-clause-serve g c = λ κs lives. c.begin.ensures.serve

pub serve_on-requires-clause-limit : goal.serve_on-requires-clause-limit
serve_on-requires-clause-limit g c =
    λ κs lives. all_same_by (λ row.
    row.runner.limit) c.args.limit c.args.rows.now c.begin.new.rows c.begin.ensures.limit c.requires.limit

pub serve_on-requires-clause-seats : goal.serve_on-requires-clause-seats
serve_on-requires-clause-seats g c = λ κs lives. c.begin.ensures.seats

pub returns-clause-serve : goal.returns-clause-serve
returns-clause-serve g c = (c.serve_on.ensures.serve, c.serve_on.ensures.limit)

pub returns-clause-level : goal.returns-clause-level
returns-clause-level g c = c.serve_on.ensures.level

pub returns-clause-ends : goal.returns-clause-ends
returns-clause-ends g c = c.serve_on.ensures.ends

pub returns-clause-cause : goal.returns-clause-cause
returns-clause-cause g c = c.serve_on.ensures.cause

pub returns-clause-beats : goal.returns-clause-beats
returns-clause-beats g c = each_on_then _ _ _ c.begin.ensures.beats c.serve_on.ensures.beats
