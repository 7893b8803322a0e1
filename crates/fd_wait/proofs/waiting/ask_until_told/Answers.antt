use Rattle.reg_keys.specs.declared.entry.AskOutcome.TheVariants as Asked
use Rattle.event_mgr.specs.Manager.{mgr_view}
use Rattle.fd_wait.proofs.Asked.{asked_none, asked_on, asked_last, asked_spent}
use Rattle.fd_wait.proofs.waiting.ask_until_told.Goals as goal

pub loop-init : goal.loop-init
loop-init g c = record {
  more = tt;
  finite = tt;
  own = c.requires;
  asked = asked_none c.args.key (mgr_view c.args.pass.now) c.requires.lawful;
}

pub returns-in-Ran-clause-asked : goal.returns-in-Ran-clause-asked
returns-in-Ran-clause-asked g c =
    (_, asked_last c.args.key _ _ _ _ c.loop.invariant.asked c.in-Ran.ensures.step)

pub returns-in-Closed-clause-asked : goal.returns-in-Closed-clause-asked
returns-in-Closed-clause-asked g c =
    asked_last c.args.key Asked.Closed _ _ _ c.loop.invariant.asked c.in-Closed.ensures.step

pub returns-in-Spent-clause-asked : goal.returns-in-Spent-clause-asked
returns-in-Spent-clause-asked g c =
    asked_spent c.args.key _ _ _ c.loop.invariant.asked c.in-Spent.ensures.step

pub loop-preserved : goal.loop-preserved
loop-preserved g c = record {
  more = tt;
  finite = tt;
  own = c.ask.ensures.own;
  asked = asked_on c.args.key c.ask.result _ _ _ c.in-Waiting.is c.loop.invariant.asked c.ask.ensures.step;
}
