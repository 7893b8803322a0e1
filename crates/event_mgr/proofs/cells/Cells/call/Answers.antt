use Rattle.std.proofs.Common.{sym}
use Rattle.std.proofs.lemmas.Option.{slice_get_read}
use Rattle.turn_cell.specs.Calls.{view_of}
use Rattle.event_mgr.proofs.Places.{at_map}
use Rattle.event_mgr.proofs.cells.Cells.call.Goals as goal

pub returns-clause-step : goal.returns-clause-step
returns-clause-step g c =
    at_map view_of _ c.args.pass.now.passes.items c.args.stripe c.index_mut-mine.result.now c.step.new.pass
    (slice_get_read _ _ _ c.index_mut-mine.result.now
    (sym c.requires.own.passes) c.requires.stripe c.index_mut-mine.ensures.value) c.step.ensures.step
