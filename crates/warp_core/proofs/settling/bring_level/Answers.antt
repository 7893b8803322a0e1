use Rattle.std.proofs.Common.{map}
use Rattle.warp_core.specs.Rows.{beat_of, known_by}
use Rattle.warp_core.proofs.Levelled.{beats_same, levelled, limits_same, rows_lawful, rows_own}
use Rattle.warp_core.proofs.KeepingBeats.{each_on_as}
use Rattle.warp_core.proofs.settling.bring_level.Goals as goal

pub bring_rows_level-requires-clause-own : goal.bring_rows_level-requires-clause-own
bring_rows_level-requires-clause-own g c =
    rows_own g.B.Book.told g.P.Poller.meaning.faults c.args.shared.now c.args.rows.now c.requires.serve

pub bring_rows_level-requires-clause-seats : goal.bring_rows_level-requires-clause-seats
bring_rows_level-requires-clause-seats g c = c.requires.seats

pub returns-clause-serve : goal.returns-clause-serve
returns-clause-serve g c =
    let told = g.B.Book.told in
    let faults = g.P.Poller.meaning.faults in
    let s = c.args.shared.now in
    let xs = c.args.rows.now in
    let ys = c.bring_rows_level.new.rows in
    let e = c.bring_rows_level.ensures in
    let owns = c.levelled_rows_are_level.ensures.own known_by xs ys
    (rows_lawful s xs (rows_own told faults s xs c.requires.serve)) (rows_lawful s ys e.own) e.keeps in
    levelled told faults g.C.Clock.told s xs ys c.requires.serve e.own owns e.rest

pub returns-clause-limit : goal.returns-clause-limit
returns-clause-limit g c =
    limits_same g.B.Book.told g.P.Poller.meaning.faults g.C.Clock.told c.args.shared.now c.args.rows.now
    c.bring_rows_level.new.rows c.bring_rows_level.ensures.rest

pub returns-clause-seats : goal.returns-clause-seats
returns-clause-seats g c = c.bring_rows_level.ensures.seats

pub returns-clause-level : goal.returns-clause-level
returns-clause-level g c =
    c.levelled_rows_are_level.ensures.level known_by c.args.rows.now c.bring_rows_level.new.rows
    c.bring_rows_level.ensures.level

pub returns-clause-came : goal.returns-clause-came
returns-clause-came g c = c.bring_rows_level.ensures.level

pub returns-clause-keeps : goal.returns-clause-keeps
returns-clause-keeps g c = c.bring_rows_level.ensures.keeps

pub returns-clause-beats : goal.returns-clause-beats
returns-clause-beats g c =
    let xs = c.args.rows.now in
    let ys = c.bring_rows_level.new.rows in
    each_on_as (map (beat_of g.C.Clock.told) xs) (map (beat_of g.C.Clock.told) ys)
    (beats_same g.B.Book.told g.P.Poller.meaning.faults g.C.Clock.told c.args.shared.now xs ys
    c.bring_rows_level.ensures.rest)
