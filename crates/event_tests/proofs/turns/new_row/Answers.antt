use Rattle.std.proofs.Common.{ap, sym, ◌≡◌, ◌∙◌, subst}
use Rattle.reg_keys.specs.declared.opening.Opening.{Opening}
use Rattle.ready_queue.specs.Calls.{IsOf}
use Rattle.event_mgr.specs.Manager.{IsOfMgr, IsMgrSplit, mgr_view}
use Rattle.event_mgr.specs.declared.pass.MgrPass.{MgrPass}
use Rattle.event_tests.specs.declared.job.Job.{Job}
use Rattle.event_tests.specs.Accounting.{Accounts, finishes_in}
use Rattle.event_tests.specs.declared.book.Finish.{Finish}
use Rattle.event_tests.proofs.Owing.{fresh_row}
use Rattle.event_tests.proofs.turns.new_row.Goals as goal

pub returns-clause-serves : goal.returns-clause-serves
returns-clause-serves c =
    let p = c.in_ok-new-2.field-0 in
    let e = c.in_ok-new-2.ensures in
    let own = c.in_ok-own.ensures in (
      (
        subst (λ (m : MgrPass Job). IsOfMgr c.args.mgr.now m) (sym e.mgr) own.other,
        subst (λ q. IsOf c.args.queue.now q) (sym e.queue) c.requires.place,
      ),
      fresh_row (mgr_view c.args.pass.now) (mgr_view c.split.new.pass)
          (mgr_view p.mgr) c.args.book.finished.items c.requires.book
          (subst (λ (m : MgrPass Job).
          IsMgrSplit (mgr_view c.args.pass.now) (mgr_view c.split.new.pass) (mgr_view m))
          (sym e.mgr) own.split),
    )
