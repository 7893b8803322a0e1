use Rattle.std.specs.Prelude.{List}
use Rattle.std.proofs.Common.{sym, subst}
use Rattle.reg_keys.specs.declared.event.EventName.{EventName}
use Rattle.event_mgr.specs.Manager.{mgr_view}
use Rattle.dispatcher.specs.Runs.{HasMadeCalls}
use Rattle.dispatcher.proofs.tests.plain.WatcherRunJob.run.Goals as goal

pub returns-in_default-clause-made : goal.returns-in_default-clause-made
returns-in_default-clause-made g c =
    let v = mgr_view c.args.pass.now in
    subst (λ (es : List EventName). HasMadeCalls v es v) (sym c.named.ensures)
    (c.calls_of_runs.ensures.none v)

pub returns-in_default-take-2-clause-made : goal.returns-in_default-take-2-clause-made
returns-in_default-take-2-clause-made g c =
    let v = mgr_view c.args.pass.now in
    subst (λ (es : List EventName). HasMadeCalls v es v) (sym c.named-in_default-take-2.ensures)
    (c.calls_of_runs.ensures.none v)
