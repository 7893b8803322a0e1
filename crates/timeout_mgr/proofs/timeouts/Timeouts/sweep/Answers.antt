use Rattle.std.proofs.Common.{◌≡◌, ap, ◌∙◌, ◌++◌, sym, arith}
use Rattle.timeout_mgr.specs.Calls.{list_of}
use Rattle.std.proofs.lemmas.List.{append-nil}
use Rattle.timeout_mgr.proofs.Told.{round_here, few_more, swept_more, swept_last}
use Rattle.timeout_mgr.proofs.timeouts.Timeouts.sweep.Goals as goal
use Rattle.timeout_mgr.proofs.timeouts.Timeouts.sweep.Goals.{in-Some, in_default}

pub loop-slot-init : goal.loop-slot-init
loop-slot-init c = let t = round_here _ _ c.clear.ensures in
    record { own = c.requires.own; goes = λ _. t.0; ends = λ e. absurd (omega (arith, e)); few = t.1 }

pub loop-slot-preserved : goal.loop-slot-preserved
loop-slot-preserved c = let i = c.loop-slot.invariant in
    let lt = c.loop-slot-test.true in
    let e : c.match-sweep_at.out ≡ c.loop-slot.out ++ list_of c.sweep_at.result =
    (elim c.match-sweep_at.branch [
      | in-Some w ↦ w.out-is ∙ (w.push.ensures ∙ ap (λ x. c.loop-slot.out ++ list_of x) (sym w.in-Some.is))
      | in_default w ↦ w.out-is
          ∙ (sym (append-nil c.loop-slot.out) ∙ ap (λ x. c.loop-slot.out ++ list_of x) (sym w.in_default.is))
    ]) in
    let r = i.goes (omega (arith, lt)) in
    record {
      own = c.sweep_at.ensures.own;
      goes = λ h. swept_more _ _ _ _ _ c.loop-slot.pass.seat.me.0 _ r c.sweep_at.ensures.sweeps e h;
      ends =
          λ h.
          swept_last _ _ _ _ _ c.loop-slot.pass.seat.me.0 _ r c.sweep_at.ensures.sweeps e (omega (arith, h));
      few = few_more _ _ _ _ e i.few;
    }

pub returns-clause-sweeps : goal.returns-clause-sweeps
returns-clause-sweeps c = let i = c.loop-slot.invariant in
    let a = c.loop-slot.auto.slot-end in
    let b = c.loop-slot-test.false in
    i.ends (omega (arith, a, b))
