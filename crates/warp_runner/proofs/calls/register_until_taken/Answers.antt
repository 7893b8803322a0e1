use Rattle.std.proofs.Common.{[], refl, inl, inr, ap, ◌∙◌, subst}
use Rattle.std.specs.Prelude.{◌⊎◌}
use Rattle.std.specs.Option.{option_to_list}
use Rattle.reg_keys.specs.declared.registration.Key.{Key}
use Rattle.reg_keys.specs.declared.entry.RegisterOutcome.TheVariants as Registers
use Rattle.event_mgr.specs.Manager.{mgr_view}
use Rattle.warp_runner.specs.Acts.{nothing}
use Rattle.warp_runner.specs.Calls.{DidAt}
use Rattle.warp_runner.specs.Deeds.{registering}
use Rattle.warp_runner.proofs.Doing.{did_nothing}
use Rattle.warp_runner.proofs.Trying.{tried_none, tried_more, tried_last, tried_spent}
use Rattle.warp_runner.proofs.calls.register_until_taken.Goals as goal

pub loop-init : goal.loop-init
loop-init g c = record {
  own = c.requires;
  same = refl;
  tried =
      tried_none c.args.opening c.args.dir c.args.mark (g.T.Load.tag c.args.job) (mgr_view c.args.pass.now)
      (did_nothing g.T.Load.tag c.calls_of_runs.ensures c.calls_weigh.ensures (mgr_view c.args.pass.now));
}

pub returns-in-Waits-clause-registered : goal.returns-in-Waits-clause-registered
returns-in-Waits-clause-registered g c =
    let v = mgr_view c.loop.pass in
    let w = mgr_view c.register.new.pass in
    let a = c.args in
    tried_last c.calls_of_runs.ensures a.opening a.dir a.mark (g.T.Load.tag a.job)
    (mgr_view a.pass.now) v w c.in-Waits.event c.loop.invariant.tried
    (subst
    (λ n. (key : Key) × DidAt v (registering a.opening a.dir a.mark n (Registers.Waits key c.in-Waits.event))
    (option_to_list c.in-Waits.event) w) c.loop.invariant.same c.in-Waits.ensures.registered)

pub returns-in-Spent-clause-registered : goal.returns-in-Spent-clause-registered
returns-in-Spent-clause-registered g c =
    let v = mgr_view c.loop.pass in
    let w = mgr_view c.register.new.pass in
    let a = c.args in
    tried_spent c.calls_of_runs.ensures a.opening a.dir a.mark (g.T.Load.tag a.job)
    (mgr_view a.pass.now) v w c.loop.invariant.tried
    (subst (λ n. DidAt v nothing [] w ⊎ DidAt v (registering a.opening a.dir a.mark n Registers.Spent) [] w)
    c.loop.invariant.same c.in-Spent.ensures.registered)

pub loop-preserved-in-Crowded : goal.loop-preserved-in-Crowded
loop-preserved-in-Crowded g c =
    let v = mgr_view c.loop.pass in
    let w = mgr_view c.register.new.pass in
    let a = c.args in
    let did = c.in-Crowded.ensures.registered in record {
      own = c.register.ensures.own;
      same = ap (λ x. g.T.Load.tag x) did.0 ∙ c.loop.invariant.same;
      tried =
          tried_more c.calls_of_runs.ensures a.opening a.dir a.mark (g.T.Load.tag a.job)
          (mgr_view a.pass.now) v w Registers.Crowded (inr refl) c.loop.invariant.tried
          (subst (λ n. DidAt v (registering a.opening a.dir a.mark n Registers.Crowded) [] w)
          c.loop.invariant.same did.1);
    }

pub loop-preserved : goal.loop-preserved
loop-preserved g c =
    let v = mgr_view c.loop.pass in
    let w = mgr_view c.register.new.pass in
    let a = c.args in
    let did = c.in-Shut.ensures.registered in record {
      own = c.register.ensures.own;
      same = ap (λ x. g.T.Load.tag x) did.0 ∙ c.loop.invariant.same;
      tried =
          tried_more c.calls_of_runs.ensures a.opening a.dir a.mark (g.T.Load.tag a.job)
          (mgr_view a.pass.now) v w Registers.Shut (inl refl) c.loop.invariant.tried
          (subst (λ n. DidAt v (registering a.opening a.dir a.mark n Registers.Shut) [] w)
          c.loop.invariant.same did.1);
    }
