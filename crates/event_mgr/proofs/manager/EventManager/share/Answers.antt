use Rattle.turn_cell.specs.Calls.{view_of}
use Rattle.event_mgr.specs.Rows.{views_of}
use Rattle.event_mgr.specs.Manager.{MgrView, mgr_view}
use Rattle.event_mgr.proofs.ManagerLemmas.{shared_lawful}
use Rattle.event_mgr.proofs.manager.EventManager.share.Goals as goal

pub returns-clause-from : goal.returns-clause-from
returns-clause-from g c =
    let v : MgrView = record { stripes = views_of c.share.new.from; numbers = view_of c.split.new.pass } in
    let w : MgrView = record { stripes = views_of c.share.new.to; numbers = view_of c.join.new.pass } in
    record {
      stripes = c.share.ensures.from;
      numbers = c.in-Ok.ensures.own;
      lawful =
          (shared_lawful (mgr_view c.args.from.now)
          (mgr_view c.args.to.now) v w c.requires.from.lawful c.requires.to.lawful (record {
            stripes = c.share.ensures.shared;
            numbers = record {
              between = view_of c.in-Ok.other;
              split = c.in-Ok.ensures.split;
              joined = c.join.ensures.joined;
            };
          })).0;
    }

pub returns-clause-to : goal.returns-clause-to
returns-clause-to g c =
    let v : MgrView = record { stripes = views_of c.share.new.from; numbers = view_of c.split.new.pass } in
    let w : MgrView = record { stripes = views_of c.share.new.to; numbers = view_of c.join.new.pass } in
    record {
      stripes = c.share.ensures.to;
      numbers = c.join.ensures.own;
      lawful =
          (shared_lawful (mgr_view c.args.from.now)
          (mgr_view c.args.to.now) v w c.requires.from.lawful c.requires.to.lawful (record {
            stripes = c.share.ensures.shared;
            numbers = record {
              between = view_of c.in-Ok.other;
              split = c.in-Ok.ensures.split;
              joined = c.join.ensures.joined;
            };
          })).1;
    }
