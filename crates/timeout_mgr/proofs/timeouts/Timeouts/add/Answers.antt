use Rattle.std.proofs.Common.{◌≡◌, [], ◌++◌, subst, arith}
use Rattle.timeout_mgr.specs.Calls.{AreTaken, IsTakenAt}
use Rattle.timeout_mgr.proofs.Told.{stays_here, stays_on, then_decides, then_answers, none_taken, next_taken}
use Rattle.timeout_mgr.proofs.timeouts.Timeouts.add.Goals as goal

pub loop-count-init : goal.loop-count-init
loop-count-init c = record { own = c.requires.own; taken = ([], stays_here _, none_taken _) }

pub returns-in-Some-clause-adds : goal.returns-in-Some-clause-adds
returns-in-Some-clause-adds c = let t = c.loop-count.invariant.taken in
    then_decides t.0 _ _ c.loop-count.pass.seat.me.0 _ t.1 c.in-Some.ensures.adds

pub loop-count-preserved : goal.loop-count-preserved
loop-count-preserved c =
    let t = c.loop-count.invariant.taken in
    let n = c.in_default.ensures.adds in
    record {
      own = c.add_at.ensures.own;
      taken = (
        n.0 ++ t.0,
        stays_on t.0 n.0 _ c.loop-count.pass.seat.me.0 _ t.1 n.1,
        next_taken _ _ _ _ t.2 (subst (λ k. IsTakenAt k n.0) c.slot_of.ensures.is n.2),
      );
    }

pub returns-clause-adds : goal.returns-clause-adds
returns-clause-adds c = let t = c.loop-count.invariant.taken in
    let a = c.loop-count.auto.count-end in
    let b = c.loop-count-test.false in
    let all : c.loop-count.count ≡ 4096 = omega (arith, a, b) in (
      c.args.pass.now.next,
      t.0,
      subst (λ n. AreTaken c.args.pass.now.next n t.0) all t.2,
      then_answers _ _ _ c.loop-count.pass.seat.me.0 _ t.1 c.answer.ensures.answers,
    )
