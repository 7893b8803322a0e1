use Rattle.turn_cell.specs.Calls.{view_of}
use Rattle.event_mgr.specs.Rows.{views_of}
use Rattle.event_mgr.specs.Manager.{MgrView, mgr_view}
use Rattle.event_mgr.proofs.ManagerLemmas.{joined_lawful}
use Rattle.event_mgr.proofs.manager.EventManager.join.Goals as goal

pub returns-clause-own : goal.returns-clause-own
returns-clause-own g c =
    let w : MgrView = record { stripes = views_of c.join.new.pass; numbers = view_of c.join-2.new.pass } in
    record {
      stripes = c.join.ensures.own;
      numbers = c.join-2.ensures.own;
      lawful =
          joined_lawful (mgr_view c.args.pass.now) (mgr_view c.args.other) w c.requires.own.lawful
          c.requires.other.lawful
          (record { stripes = c.join.ensures.joined; numbers = c.join-2.ensures.joined });
    }
