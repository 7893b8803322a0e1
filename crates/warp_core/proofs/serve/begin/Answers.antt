use Rattle.std.proofs.Common.{get_or}
use Rattle.std.specs.Prelude.{slice_set}
use Rattle.std.proofs.lemmas.Option.{slice_get-get_or}
use Rattle.std.proofs.lemmas.List.Elements.{All-set}
use Rattle.warp_core.specs.Rows.{Serves, beat_of, known_by}
use Rattle.warp_core.specs.SweepTimes.{KeepsOn}
use Rattle.warp_passes.specs.Levels.{HasPassGrown}
use Rattle.warp_core.proofs.RowLists.{each_one, map_one}
use Rattle.warp_core.proofs.Serving.{pass_same}
use Rattle.warp_core.proofs.KeepingBeats.{on_same}
use Rattle.warp_core.proofs.serve.begin.Goals as goal

pub listen-requires-clause-serves : goal.listen-requires-clause-serves
listen-requires-clause-serves g c = c.requires.serve 0 c.index-rows-0.result c.requires.some

pub listen-requires-clause-hand : goal.listen-requires-clause-hand
listen-requires-clause-hand g c = c.requires.hands 0 c.index-rows-0.result c.requires.some

pub listen-requires-clause-listener : goal.listen-requires-clause-listener
listen-requires-clause-listener g c = c.requires.listener

pub returns-clause-serve : goal.returns-clause-serve
returns-clause-serve g c =
    All-set (λ row. Serves g.B.Book.told g.P.Poller.meaning.faults c.args.shared.now row) c.args.rows.now
    0 c.listen.new.row c.listen.ensures.serves c.requires.serve

pub returns-clause-limit : goal.returns-clause-limit
returns-clause-limit g c =
    let xs = c.args.rows.now in
    let x = get_or xs 0 c.index-rows-0.result in
    map_one (λ row. row.runner.limit) xs 0 x c.listen.new.row
    (slice_get-get_or xs 0 c.index-rows-0.result c.requires.some) c.listen.ensures.goes_on.limit

pub returns-clause-seats : goal.returns-clause-seats
returns-clause-seats g c =
    let xs = c.args.rows.now in
    let x = get_or xs 0 c.index-rows-0.result in
    let y = c.listen.new.row in
    c.grown_passes_hold_the_seats.ensures known_by xs (slice_set xs 0 y)
    (each_one HasPassGrown known_by pass_same xs 0 x y
    (slice_get-get_or xs 0 c.index-rows-0.result c.requires.some) c.listen.ensures.goes_on.passes)
    c.requires.seats

pub returns-clause-beats : goal.returns-clause-beats
returns-clause-beats g c =
    let xs = c.args.rows.now in
    each_one KeepsOn (beat_of g.C.Clock.told) on_same xs 0 (get_or xs 0 c.index-rows-0.result) c.listen.new.row
    (slice_get-get_or xs 0 c.index-rows-0.result c.requires.some) c.listen.ensures.on
