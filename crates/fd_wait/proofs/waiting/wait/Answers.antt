use Rattle.std.proofs.Common.{⊎_elim, refl, arith, subst}
use Rattle.std.specs.Prelude.{Some, None, Option}
use Rattle.reg_keys.specs.declared.event.EventName.{EventName}
use Rattle.ready_queue.specs.Calls.{view_of, capacity_of}
use Rattle.event_mgr.specs.Stripes.{stripe_of}
use Rattle.event_mgr.specs.Manager.{mgr_view, EnteredAt}
use Rattle.fd_wait.specs.OwnFlags.{OwnFlag, registers}
use Rattle.fd_wait.proofs.Waited.{Laws, waited}
use Rattle.fd_wait.proofs.waiting.wait.Goals as goal

pub returns-in-Waits-default-Some-clause-waited : goal.returns-in-Waits-default-Some-clause-waited
returns-in-Waits-default-Some-clause-waited g c =
    let laws : Laws = record {
      once = c.legal_runs_once.ensures;
      each = c.legal_draws_each_once.ensures;
      runs = c.legal_runs_what_was_registered.ensures;
      flags = c.legal_tells_of_flags.ensures;
    } in
    let arm = c.in-Waits-default-Some in
    let flag : Option EventName → OwnFlag = λ named.
    record { opening = c.args.opening; dir = c.args.dir; mark = c.args.mark; key = arm.key; named = named } in
    ⊎_elim (λ a.
    waited (capacity_of c.args.queue.now) (flag (Some arm.event)) (mgr_view c.args.passes.now.mgr) _ _
    (view_of c.args.passes.now.queue) _ laws c.ask_until_told.ensures.own.lawful
    (subst (λ named. EnteredAt (stripe_of c.args.opening.fd) (registers (flag named))
    (mgr_view c.args.passes.now.mgr) (mgr_view c.register.new.pass)) arm.field-1-is a.0)
    a.1.0 c.put_until_taken.ensures.put c.ask_until_told.result c.ask_until_told.ensures.asked)
    (λ a. absurd (grind arith)) arm.ensures.step

pub returns-in-Waits-default-None-clause-waited : goal.returns-in-Waits-default-None-clause-waited
returns-in-Waits-default-None-clause-waited g c =
    let laws : Laws = record {
      once = c.legal_runs_once.ensures;
      each = c.legal_draws_each_once.ensures;
      runs = c.legal_runs_what_was_registered.ensures;
      flags = c.legal_tells_of_flags.ensures;
    } in
    let arm = c.in-Waits-default-None in
    let flag : Option EventName → OwnFlag = λ named.
    record { opening = c.args.opening; dir = c.args.dir; mark = c.args.mark; key = arm.key; named = named } in
    ⊎_elim (λ a. waited (capacity_of c.args.queue.now) (flag None) (mgr_view c.args.passes.now.mgr) _ _
    (view_of c.args.passes.now.queue) _ laws c.ask_until_told-in-Waits-default-None.ensures.own.lawful
    (subst (λ named. EnteredAt (stripe_of c.args.opening.fd) (registers (flag named))
    (mgr_view c.args.passes.now.mgr) (mgr_view c.register.new.pass)) arm.field-1-is a.0)
    a.1.0 refl c.ask_until_told-in-Waits-default-None.result
    c.ask_until_told-in-Waits-default-None.ensures.asked)
    (λ a. absurd (grind arith)) arm.ensures.step
