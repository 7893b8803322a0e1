use Rattle.std.proofs.Common.{refl, inr}
use Rattle.turn_cell.specs.Calls.{view_of}
use Rattle.timeout_mgr.specs.Calls.{view_of as seen_of}
use Rattle.warp_runner.specs.Acts.{told_of}
use Rattle.warp_runner.proofs.AcceptLemmas.{notes}
use Rattle.warp_runner.proofs.Running.{note_fits}
use Rattle.warp_tally.specs.declared.calls.TallyCall.TheVariants.{Stop}
use Rattle.warp_runner.proofs.runner.ServerRunner.note_stop.Goals as goal

pub returns-clause-fits : goal.returns-clause-fits
returns-clause-fits g c =
    let was = c.args.self.now in
    let t = view_of was.tallied in
    let s = seen_of was.timed in
    let b = g.B.Book.told was.book in
    let q = view_of c.stop.new.pass in
    let n = notes c.calls_of_runs.ensures t q s b (Stop c.args.code)
    (inr (c.args.code, refl)) c.stop.result c.stop.ensures.called in
    λ stop v jobs fits. note_fits was.limit (told_of v t s b) (told_of v q s b) jobs n.0 stop (n.1 v) n.2 fits
