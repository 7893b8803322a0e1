use Rattle.std.proofs.Common.{refl, inl, inr}
use Rattle.reg_keys.specs.declared.entry.Entry.TheVariants as Entries
use Rattle.reg_keys.specs.declared.entry.OpenOutcome.TheVariants as Opens
use Rattle.event_mgr.specs.Manager.{mgr_view}
use Rattle.warp_runner.specs.Acts.{called, found_all_out}
use Rattle.warp_runner.proofs.Doing.{did_nothing}
use Rattle.warp_runner.proofs.Trying.{opened_none, opened_more, opened_last, opened_never}
use Rattle.warp_runner.proofs.calls.open_until_given.Goals as goal

pub loop-init : goal.loop-init
loop-init g c = record {
  own = c.requires;
  tried =
      opened_none (mgr_view c.args.pass.now)
      (did_nothing g.T.Load.tag c.calls_of_runs.ensures c.calls_weigh.ensures (mgr_view c.args.pass.now));
}

pub returns-in-Opened-clause-opened : goal.returns-in-Opened-clause-opened
returns-in-Opened-clause-opened g c =
    opened_last c.calls_of_runs.ensures (mgr_view c.args.pass.now) (mgr_view c.loop.pass)
    (mgr_view c.open.new.pass) c.in-Opened.opening c.loop.invariant.tried c.in-Opened.ensures.opened

pub returns-in-Spent-clause-opened : goal.returns-in-Spent-clause-opened
returns-in-Spent-clause-opened g c =
    opened_never c.calls_of_runs.ensures (mgr_view c.args.pass.now) (mgr_view c.loop.pass)
    (mgr_view c.open.new.pass) c.loop.invariant.tried c.in-Spent.ensures.opened

pub loop-preserved-in-Full : goal.loop-preserved-in-Full
loop-preserved-in-Full g c = record {
  own = c.open.ensures.own;
  tried =
      opened_more c.calls_of_runs.ensures (mgr_view c.args.pass.now) (mgr_view c.loop.pass)
      (mgr_view c.open.new.pass) found_all_out (inl refl) c.loop.invariant.tried c.in-Full.ensures.opened;
}

pub loop-preserved : goal.loop-preserved
loop-preserved g c = record {
  own = c.open.ensures.own;
  tried =
      opened_more c.calls_of_runs.ensures (mgr_view c.args.pass.now) (mgr_view c.loop.pass)
      (mgr_view c.open.new.pass)
      (called (Entries.Open c.in-Taken.field-0.fd (Opens.Taken c.in-Taken.field-0)))
      (inr (c.in-Taken.field-0, refl)) c.loop.invariant.tried c.in-Taken.ensures.opened;
}
