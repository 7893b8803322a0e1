use Rattle.std.specs.Prelude.{List, Some}
use Rattle.std.proofs.Common.{sym, subst}
use Rattle.reg_keys.specs.declared.event.EventName.{EventName}
use Rattle.reg_keys.specs.declared.registration.Dir.TheVariants.{Read}
use Rattle.stripe_table.specs.declared.load.Payload.TheVariants as Payloads
use Rattle.event_mgr.specs.Manager.{mgr_view}
use Rattle.dispatcher.specs.Runs.{HasMadeCalls}
use Rattle.event_example.proofs.reader.Reader.wait_again.Goals as goal

pub returns-clause-made : goal.returns-clause-made
returns-clause-made g c =
    let before = mgr_view c.args.pass.now in
    let after = mgr_view c.register-reply.new.pass in
    subst (λ (events : List EventName). HasMadeCalls before events after) (sym c.events_of_reply.ensures)
    (c.calls_of_runs.ensures.registered c.args.job.opening Read (Some c.args.mark)
    (Payloads.Job c.args.job) before c.register-reply.result after c.register-reply.ensures.step)
