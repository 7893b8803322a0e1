use Rattle.std.proofs.Common.{◌∷◌, [], refl, inl, inr, ⊎_elim}
use Rattle.reg_keys.specs.declared.entry.Entry.TheVariants as Entries
use Rattle.reg_keys.specs.declared.entry.ReportOutcome.TheVariants as Reports
use Rattle.ready_queue.specs.Calls.{view_of, capacity_of}
use Rattle.stripe_table.specs.declared.calls.ReportReply.TheVariants.{Noted, Stale, Spent}
use Rattle.event_mgr.specs.Stripes.{stripe_of}
use Rattle.event_mgr.specs.Manager.{mgr_view}
use Rattle.dispatcher.proofs.Steps.{noted_deal_step, nothing_step, spent_step}
use Rattle.dispatcher.proofs.WorkSteps.{report_step}
use Rattle.dispatcher.proofs.WorkSteps as work_steps
use Rattle.dispatcher.proofs.Replies.{noted_entered, report_stale_entered, report_spent, met_either}
use Rattle.dispatcher.proofs.Ends.{deal_any_takes_none}
use Rattle.dispatcher.proofs.turning.report_one.Goals as goal

pub returns-in-Noted-clause-fits : goal.returns-in-Noted-clause-fits
returns-in-Noted-clause-fits g c =
    g.met.X.Runner.laws.fits_reported c.args.runner.now c.args.opening c.args.dirs
    (mgr_view c.args.passes.now.mgr) (Noted c.in-Noted.event) (mgr_view c.report.new.pass)
    [] c.requires.own.0.lawful c.report.ensures.own.lawful c.in-Noted.ensures.step c.requires.fits

pub returns-in-Noted-clause-takes : goal.returns-in-Noted-clause-takes
returns-in-Noted-clause-takes g c =
    let p = c.args.passes.now in
    deal_any_takes_none (λ _. 1) (capacity_of c.args.queue.now) c.in-Noted.event (view_of p.queue) p.hand
    (view_of c.put_or_keep_any.new.pass) c.put_or_keep_any.new.hand c.put_or_keep_any.ensures.put_or_kept

pub returns-in-Noted-clause-reported : goal.returns-in-Noted-clause-reported
returns-in-Noted-clause-reported g c =
    let p = c.args.passes.now in
    let o = c.args.opening in
    let ds = c.args.dirs in
    let v = mgr_view p.mgr in
    let m = mgr_view c.report.new.pass in
    let a = noted_entered o ds v c.in-Noted.event m c.in-Noted.ensures.step in (
      noted_deal_step c.calls_weigh.ensures (capacity_of c.args.queue.now) v m
          (view_of p.queue) (view_of c.put_or_keep_any.new.pass) p.hand c.put_or_keep_any.new.hand
          (stripe_of o.fd) o ds c.in-Noted.event a c.put_or_keep_any.ensures.put_or_kept,
      report_step g.X.Runner.meaning g.met.X.Runner.laws.keeps_same v m c.args.runner.now o ds
          (Reports.Noted c.in-Noted.event) a,
    )

pub returns-in-Stale-clause-fits : goal.returns-in-Stale-clause-fits
returns-in-Stale-clause-fits g c =
    g.met.X.Runner.laws.fits_reported c.args.runner.now c.args.opening c.args.dirs
    (mgr_view c.args.passes.now.mgr) Stale (mgr_view c.report.new.pass)
    [] c.requires.own.0.lawful c.report.ensures.own.lawful c.in-Stale.ensures.step c.requires.fits

pub returns-in-Stale-clause-reported : goal.returns-in-Stale-clause-reported
returns-in-Stale-clause-reported g c =
    let p = c.args.passes.now in
    let o = c.args.opening in
    let ds = c.args.dirs in
    let v = mgr_view p.mgr in
    let m = mgr_view c.report.new.pass in
    let a = report_stale_entered o ds v m c.in-Stale.ensures.step in (
      nothing_step c.calls_weigh.ensures (capacity_of c.args.queue.now) v m (view_of p.queue) p.hand
          (stripe_of o.fd) (Entries.Report o ds Reports.Stale) a refl refl,
      report_step g.X.Runner.meaning g.met.X.Runner.laws.keeps_same v m c.args.runner.now
          o ds Reports.Stale a,
    )

pub returns-in-Spent-clause-fits : goal.returns-in-Spent-clause-fits
returns-in-Spent-clause-fits g c =
    g.met.X.Runner.laws.fits_reported c.args.runner.now c.args.opening c.args.dirs
    (mgr_view c.args.passes.now.mgr) Spent (mgr_view c.report.new.pass)
    [] c.requires.own.0.lawful c.report.ensures.own.lawful c.in-Spent.ensures.step c.requires.fits

pub returns-in-Spent-clause-reported : goal.returns-in-Spent-clause-reported
returns-in-Spent-clause-reported g c =
    let p = c.args.passes.now in
    let o = c.args.opening in
    let ds = c.args.dirs in
    let v = mgr_view p.mgr in
    let m = mgr_view c.report.new.pass in
    let s = stripe_of o.fd in
    let e = Entries.Report o ds Reports.Spent in
    let x = c.args.runner.now in
    let cap = capacity_of c.args.queue.now in
    let r = report_spent o ds v m c.in-Spent.ensures.step in (
      ⊎_elim (λ t. nothing_step c.calls_weigh.ensures cap v m (view_of p.queue) p.hand s e t refl refl)
          (λ t. spent_step c.calls_weigh.ensures cap v m (view_of p.queue) p.hand s t) r,
      met_either s e v m r tt,
      ⊎_elim (λ t.
          inl (report_step g.X.Runner.meaning g.met.X.Runner.laws.keeps_same v m x o ds Reports.Spent t))
          (λ t.
          inr
          (work_steps.spent_step g.X.Runner.meaning g.met.X.Runner.laws.keeps_same v m x ((o, ds) ∷ []) s t))
          r,
    )
