use Rattle.std.specs.Prelude.{List}
use Rattle.std.proofs.Common.{sym, subst}
use Rattle.reg_keys.specs.declared.event.EventName.{EventName}
use Rattle.event_mgr.specs.Manager.{mgr_view}
use Rattle.dispatcher.specs.Runs.{HasMadeCalls}
use Rattle.event_example.proofs.reader.ReaderRunJob.run.Goals as goal

pub returns-in_default-clause-made : goal.returns-in_default-clause-made
returns-in_default-clause-made g c =
    let view = mgr_view c.args.pass.now in
    subst (λ (events : List EventName). HasMadeCalls view events view) (sym c.no_events.ensures)
    (c.calls_of_runs.ensures.none view)

pub returns-in-Over-clause-made : goal.returns-in-Over-clause-made
returns-in-Over-clause-made g c =
    let before = mgr_view c.args.pass.now in
    let after = mgr_view c.close_fd-closed.new.pass in
    subst (λ (events : List EventName). HasMadeCalls before events after) (sym c.no_events-in-Over.ensures)
    (c.calls_of_runs.ensures.closed c.in-Some.job.opening before c.close_fd-closed.result
    after c.close_fd-closed.ensures.step)
