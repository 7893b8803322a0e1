use Rattle.std.proofs.Common.{refl}
use Rattle.turn_cell.specs.Calls.{view_of}
use Rattle.event_mgr.specs.Rows.{views_of}
use Rattle.event_mgr.specs.Manager.{mgr_view, MgrView}
use Rattle.event_mgr.proofs.ManagerLemmas.{named_views, tried, tried_lawful}
use Rattle.event_mgr.proofs.manager.EventManager.try_stripe.Goals as goal

pub returns-clause-own : goal.returns-clause-own
returns-clause-own g c =
    let w : MgrView =
    record { stripes = views_of c.try_call.new.pass; numbers = view_of c.args.pass.now.numbers } in
    record {
      stripes = c.try_call.ensures.own;
      numbers = c.requires.own.numbers;
      lawful =
          tried_lawful g.T.Load.tag c.args.call c.legal_names_own_openings.ensures
          c.args.stripe c.requires.stripe c.requires.may (mgr_view c.args.pass.now) w refl
          (named_views c.args.pass.now.stripes.passes.items c.requires.own.stripes.names)
          c.requires.own.lawful c.try_call.result c.try_call.ensures.step;
    }

pub returns-clause-step : goal.returns-clause-step
returns-clause-step g c =
    let w : MgrView =
    record { stripes = views_of c.try_call.new.pass; numbers = view_of c.args.pass.now.numbers } in
    tried g.T.Load.tag c.args.call c.legal_names_own_openings.ensures c.args.stripe
    c.requires.stripe c.requires.may (mgr_view c.args.pass.now) w refl
    (named_views c.args.pass.now.stripes.passes.items c.requires.own.stripes.names)
    c.try_call.result c.try_call.ensures.step
