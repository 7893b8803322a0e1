use Rattle.std.proofs.Common.{refl, sym}
use Rattle.turn_cell.specs.Calls.{view_of}
use Rattle.event_mgr.specs.Rows.{views_of}
use Rattle.event_mgr.specs.Manager.{MgrView, mgr_view}
use Rattle.event_mgr.proofs.ManagerLemmas.{drawn_low, drawn_entry, refused_by_cell}
use Rattle.event_mgr.proofs.manager.EventManager.open_fd.Goals as goal

pub ask_stripe-requires-clause-may : goal.ask_stripe-requires-clause-may
ask_stripe-requires-clause-may g c = (
  sym c.stripe_of_descriptor-stripe.ensures.is,
  drawn_low (view_of c.args.pass.now.numbers)
      (view_of c.step.new.pass) c.in-Done.reply c.in-Drawn.fd c.in-Drawn.is c.in-Done.ensures.step.0,
)

pub returns-clause-step : goal.returns-clause-step
returns-clause-step g c =
    let v = mgr_view c.args.pass.now in
    let u = mgr_view c.ask_stripe.new.pass in
    let w : MgrView = record {
      stripes = views_of c.ask_stripe.new.pass.stripes;
      numbers = view_of c.give_back-in-Spent-ask_stripe.new.pass;
    } in
    refused_by_cell v u w (view_of c.step.new.pass) c.in-Drawn.fd c.stripe_of_descriptor-stripe.result
    (drawn_entry v.numbers
    (view_of c.step.new.pass) c.in-Done.reply c.in-Drawn.fd c.in-Drawn.is c.in-Done.ensures.step.0)
    c.stripe_of_descriptor-stripe.ensures.is refl c.give_back-in-Spent-ask_stripe.ensures.step
    c.in-Spent-ask_stripe.ensures.step.1
