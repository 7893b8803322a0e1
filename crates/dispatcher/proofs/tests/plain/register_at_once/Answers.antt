use Rattle.std.specs.Prelude.{List, None}
use Rattle.std.proofs.Common.{sym, subst}
use Rattle.reg_keys.specs.declared.event.EventName.{EventName}
use Rattle.reg_keys.specs.declared.registration.Dir.TheVariants.{Read}
use Rattle.stripe_table.specs.declared.load.Payload.TheVariants as Payloads
use Rattle.stripe_table.specs.declared.calls.RegisterReply.TheVariants as Register
use Rattle.event_mgr.specs.Manager.{mgr_view}
use Rattle.dispatcher.specs.Runs.{HasMadeCalls}
use Rattle.dispatcher.proofs.tests.plain.register_at_once.Goals as goal

pub returns-in-Waits-clause-made : goal.returns-in-Waits-clause-made
returns-in-Waits-clause-made g c =
    subst (λ (es : List EventName). HasMadeCalls (mgr_view c.args.pass.now) es (mgr_view c.register.new.pass))
    (sym c.named.ensures)
    (c.calls_of_runs.ensures.registered c.args.opening Read None (Payloads.Job c.args.job)
    (mgr_view c.args.pass.now) (Register.Waits c.in-Waits.field-0 c.in-Waits.event)
    (mgr_view c.register.new.pass) c.in-Waits.ensures.step)

pub returns-in-Shut-clause-made : goal.returns-in-Shut-clause-made
returns-in-Shut-clause-made g c =
    subst (λ (es : List EventName). HasMadeCalls (mgr_view c.args.pass.now) es (mgr_view c.register.new.pass))
    (sym c.named-in-Shut.ensures)
    (c.calls_of_runs.ensures.registered c.args.opening Read None (Payloads.Job c.args.job)
    (mgr_view c.args.pass.now) (Register.Shut c.in-Shut.field-0)
    (mgr_view c.register.new.pass) c.in-Shut.ensures.step)

pub returns-in-Crowded-clause-made : goal.returns-in-Crowded-clause-made
returns-in-Crowded-clause-made g c =
    subst (λ (es : List EventName). HasMadeCalls (mgr_view c.args.pass.now) es (mgr_view c.register.new.pass))
    (sym c.named-in-Crowded.ensures)
    (c.calls_of_runs.ensures.registered c.args.opening Read None (Payloads.Job c.args.job)
    (mgr_view c.args.pass.now) (Register.Crowded c.in-Crowded.field-0)
    (mgr_view c.register.new.pass) c.in-Crowded.ensures.step)

pub returns-clause-made : goal.returns-clause-made
returns-clause-made g c =
    subst (λ (es : List EventName). HasMadeCalls (mgr_view c.args.pass.now) es (mgr_view c.register.new.pass))
    (sym c.named-in-Spent.ensures)
    (c.calls_of_runs.ensures.registered c.args.opening Read None (Payloads.Job c.args.job)
    (mgr_view c.args.pass.now) (Register.Spent c.in-Spent.field-0)
    (mgr_view c.register.new.pass) c.in-Spent.ensures.step)
