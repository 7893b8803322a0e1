use Rattle.std.specs.Prelude.{Some}
use Rattle.stripe_table.specs.declared.load.Payload.TheVariants as Payloads
use Rattle.stripe_table.specs.declared.calls.RegisterReply.TheVariants as Register
use Rattle.event_mgr.specs.Manager.{mgr_view}
use Rattle.event_tests.proofs.Owing.{owes_waits, owes_shut, owes_crowded, owes_spent}
use Rattle.event_tests.proofs.calls.register_again.Goals as goal

pub returns-in-Waits-clause-made : goal.returns-in-Waits-clause-made
returns-in-Waits-clause-made g c =
    c.calls_of_runs.ensures.registered c.args.opening c.args.dir (Some c.args.mark) (Payloads.Job c.args.job)
    (mgr_view c.args.pass.now) (Register.Waits c.in-Waits.field-0 c.in-Waits.event)
    (mgr_view c.register.new.pass) c.in-Waits.ensures.step

pub returns-in-Waits-clause-taken : goal.returns-in-Waits-clause-taken
returns-in-Waits-clause-taken g c finishes jobs owes =
    owes_waits g.T.Load.tag c.calls_weigh.ensures c.args.opening c.args.number finishes
    (mgr_view c.args.pass.now) (mgr_view c.register.new.pass) jobs owes c.args.dir
    (Some c.args.mark) c.args.job c.requires.next c.in-Waits.field-0 c.in-Waits.event c.in-Waits.ensures.step

pub returns-in-Shut-clause-made : goal.returns-in-Shut-clause-made
returns-in-Shut-clause-made g c =
    c.calls_of_runs.ensures.registered c.args.opening c.args.dir (Some c.args.mark)
    (Payloads.Job c.args.job) (mgr_view c.args.pass.now) (Register.Shut c.in-Shut.field-0)
    (mgr_view c.register.new.pass) c.in-Shut.ensures.step

pub returns-in-Shut-clause-taken : goal.returns-in-Shut-clause-taken
returns-in-Shut-clause-taken g c finishes jobs owes =
    owes_shut g.T.Load.tag c.calls_weigh.ensures c.args.opening c.args.number finishes
    (mgr_view c.args.pass.now) (mgr_view c.register.new.pass) jobs owes c.args.dir
    (Some c.args.mark) c.args.job c.requires.next c.in-Shut.field-0 c.in-Shut.ensures.step

pub returns-in-Crowded-clause-made : goal.returns-in-Crowded-clause-made
returns-in-Crowded-clause-made g c =
    c.calls_of_runs.ensures.registered c.args.opening c.args.dir (Some c.args.mark)
    (Payloads.Job c.args.job) (mgr_view c.args.pass.now) (Register.Crowded c.in-Crowded.field-0)
    (mgr_view c.register.new.pass) c.in-Crowded.ensures.step

pub returns-in-Crowded-clause-taken : goal.returns-in-Crowded-clause-taken
returns-in-Crowded-clause-taken g c finishes jobs owes =
    owes_crowded g.T.Load.tag c.calls_weigh.ensures c.args.opening c.args.number finishes
    (mgr_view c.args.pass.now) (mgr_view c.register.new.pass) jobs owes c.args.dir
    (Some c.args.mark) c.args.job c.requires.next c.in-Crowded.field-0 c.in-Crowded.ensures.step

pub returns-clause-made : goal.returns-clause-made
returns-clause-made g c =
    c.calls_of_runs.ensures.registered c.args.opening c.args.dir (Some c.args.mark)
    (Payloads.Job c.args.job) (mgr_view c.args.pass.now) (Register.Spent c.in-Spent.field-0)
    (mgr_view c.register.new.pass) c.in-Spent.ensures.step

pub returns-clause-taken : goal.returns-clause-taken
returns-clause-taken g c finishes jobs owes =
    owes_spent g.T.Load.tag c.calls_weigh.ensures c.args.opening c.args.number finishes
    (mgr_view c.args.pass.now) (mgr_view c.register.new.pass) jobs owes c.args.dir
    (Some c.args.mark) c.args.job c.requires.next c.in-Spent.field-0 c.in-Spent.ensures.step
