use Rattle.turn_cell.specs.Calls.{view_of}
use Rattle.event_mgr.specs.Rows.{views_of}
use Rattle.event_mgr.specs.Manager.{MgrView, mgr_view}
use Rattle.event_mgr.proofs.ManagerLemmas.{split_lawful}
use Rattle.event_mgr.proofs.manager.EventManager.split.Goals as goal

pub returns-clause-own : goal.returns-clause-own
returns-clause-own g c =
    let w : MgrView = record { stripes = views_of c.split.new.pass; numbers = view_of c.split-2.new.pass } in
    let o : MgrView =
    record { stripes = views_of c.in_ok-stripes.stripes; numbers = view_of c.in-Ok.numbers } in
    record {
      stripes = c.in_ok-stripes.ensures.own;
      numbers = c.in-Ok.ensures.own;
      lawful =
          (split_lawful (mgr_view c.args.pass.now) w o c.requires.lawful
          (record { stripes = c.in_ok-stripes.ensures.split; numbers = c.in-Ok.ensures.split })).0;
    }

pub returns-clause-other : goal.returns-clause-other
returns-clause-other g c =
    let w : MgrView = record { stripes = views_of c.split.new.pass; numbers = view_of c.split-2.new.pass } in
    let o : MgrView =
    record { stripes = views_of c.in_ok-stripes.stripes; numbers = view_of c.in-Ok.numbers } in
    record {
      stripes = c.in_ok-stripes.ensures.other;
      numbers = c.in-Ok.ensures.other;
      lawful =
          (split_lawful (mgr_view c.args.pass.now) w o c.requires.lawful
          (record { stripes = c.in_ok-stripes.ensures.split; numbers = c.in-Ok.ensures.split })).1;
    }
