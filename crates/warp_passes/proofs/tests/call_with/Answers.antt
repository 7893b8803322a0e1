use Rattle.turn_cell.specs.Calls.{view_of}
use Rattle.warp_passes.specs.Passes.{pass_view}
use Rattle.warp_passes.specs.TallyCalls.{called_grown}
use Rattle.warp_passes.proofs.GrownPasses.{tally_grew}
use Rattle.warp_passes.proofs.tests.call_with.Goals as goal

pub returns-in-Accept-clause-grown : goal.returns-in-Accept-clause-grown
returns-in-Accept-clause-grown g c = tally_grew (pass_view c.args.pass.now) (view_of c.accept.new.pass)
    (called_grown _ (view_of c.args.pass.now.tally) c.accept.result
    (view_of c.accept.new.pass) c.accept.ensures.called)

pub returns-in-TurnAway-clause-grown : goal.returns-in-TurnAway-clause-grown
returns-in-TurnAway-clause-grown g c = tally_grew (pass_view c.args.pass.now) (view_of c.turn_away.new.pass)
    (called_grown _ (view_of c.args.pass.now.tally) c.turn_away.result
    (view_of c.turn_away.new.pass) c.turn_away.ensures.called)

pub returns-in-Finish-clause-grown : goal.returns-in-Finish-clause-grown
returns-in-Finish-clause-grown g c = tally_grew (pass_view c.args.pass.now) (view_of c.finish.new.pass)
    (called_grown _ (view_of c.args.pass.now.tally) c.finish.result
    (view_of c.finish.new.pass) c.finish.ensures.called)

pub returns-in-Stop-clause-grown : goal.returns-in-Stop-clause-grown
returns-in-Stop-clause-grown g c = tally_grew (pass_view c.args.pass.now) (view_of c.stop.new.pass)
    (called_grown _ (view_of c.args.pass.now.tally) c.stop.result
    (view_of c.stop.new.pass) c.stop.ensures.called)

pub returns-in-Look-clause-grown : goal.returns-in-Look-clause-grown
returns-in-Look-clause-grown g c = tally_grew (pass_view c.args.pass.now) (view_of c.look.new.pass)
    (called_grown _ (view_of c.args.pass.now.tally) c.look.result
    (view_of c.look.new.pass) c.look.ensures.called)
