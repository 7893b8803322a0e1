use Rattle.std.proofs.Common.{◌≡◌, ◌++◌, [], ◌∷◌, refl, ap, ◌∙◌, subst, inl, inr}
use Rattle.timeout_mgr.specs.declared.view.TimeCall.TheVariants.{Cancel}
use Rattle.timeout_mgr.specs.declared.view.CancelOutcome.TheVariants as Cancels
use Rattle.timeout_mgr.specs.declared.view.WatchName.{WatchName}
use Rattle.timeout_mgr.specs.Calls.{HasCancelled, name_of_watch, view_of as seen_of}
use Rattle.timeout_mgr.specs.Passes.{calls_of}
use Rattle.warp_runner.proofs.Cancelling.{tried_more, tried_last}
use Rattle.warp_runner.proofs.ending.cancel.Goals as goal

pub returns-in-Cancelled : goal.returns-in-Cancelled
returns-in-Cancelled g c =
    let w = name_of_watch c.args.watch in
    let before = calls_of (seen_of c.args.pass.now) in
    let now = calls_of (seen_of c.loop.pass) in
    let later = calls_of (seen_of c.cancel.new.pass) in
    let same = c.loop.invariant.same in record {
      own = c.cancel.ensures.own;
      cancels = elim c.in-Cancelled.is [
        | inl is ↦
            tried_last w before now later (Cancel w Cancels.Cancelled) (inl refl) c.loop.invariant.tried
            (subst (λ (n : WatchName). later ≡ now ++ Cancel n Cancels.Cancelled ∷ []) same
            (subst (λ r. HasCancelled c.loop.left (seen_of c.loop.pass) r (seen_of c.cancel.new.pass))
            is c.cancel.ensures.cancels).call)
        | inr is ↦ tried_last w before now later (Cancel w Cancels.Gone) (inr refl) c.loop.invariant.tried
            (subst (λ (n : WatchName). later ≡ now ++ Cancel n Cancels.Gone ∷ []) same
            (subst (λ r. HasCancelled c.loop.left (seen_of c.loop.pass) r (seen_of c.cancel.new.pass))
            is c.cancel.ensures.cancels).call)
      ];
    }

pub loop-preserved : goal.loop-preserved
loop-preserved g c =
    let w = name_of_watch c.args.watch in record {
      own = c.cancel.ensures.own;
      same = ap (λ x. name_of_watch x) c.in-Again.ensures.cancels.0 ∙ c.loop.invariant.same;
      tried =
          tried_more w (calls_of (seen_of c.args.pass.now)) (calls_of (seen_of c.loop.pass))
          (calls_of (seen_of c.cancel.new.pass)) c.loop.invariant.tried
          (subst (λ (n : WatchName). calls_of (seen_of c.cancel.new.pass) ≡ calls_of (seen_of c.loop.pass)
          ++ Cancel n Cancels.Again ∷ []) c.loop.invariant.same c.in-Again.ensures.cancels.1.2.call);
    }
