use Rattle.std.proofs.Common.{◌<◌, ◌++◌, ◌∷◌, [], length, ap, ◌∙◌, arith}
use Rattle.poller.specs.declared.limits.TheConstants.{REPORTS}
use Rattle.poller.specs.Polls.{Report}
use Rattle.dispatcher.proofs.Rotates.{pushed, turned_none, turned_length, turned_one, turned_all}
use Rattle.dispatcher.proofs.turning.put_first.Goals.{in-Some, in_default}
use Rattle.dispatcher.proofs.turning.put_first.Goals as goal

pub loop-init : goal.loop-init
loop-init c =
    let x : Report = (c.args.opening, c.args.dirs) in
    let old = c.args.reports.now in
    turned_none x old c.push.new.self
    (pushed c.push.result (length old < REPORTS)
    (old ++ x ∷ []) old c.push.new.self c.push.ensures.room c.requires c.push.ensures.pushed)

pub loop-preserved : goal.loop-preserved
loop-preserved c =
    let x : Report = (c.args.opening, c.args.dirs) in
    let old = c.args.reports.now in
    let long = turned_length c.loop.counter x old c.loop.reports c.loop.invariant in
    elim c.match-pop_first.branch [
      | in-Some w ↦
          let y : Report = (w.in-Some.next, w.in-Some.ready) in
          let rest = c.pop_first.new.self in
          let l = ap length w.in-Some.ensures in
          let room : length rest < REPORTS = omega arith in
          let after = pushed w.push-in-Some.result (length rest < REPORTS) (rest ++ y ∷ []) rest
          w.push-in-Some.new.self w.push-in-Some.ensures.room room w.push-in-Some.ensures.pushed in
          turned_one c.loop.counter x y old c.loop.reports rest c.match-pop_first.reports c.loop.invariant
          (omega arith) w.in-Some.ensures (w.reports-is ∙ after)
      | in_default w ↦ let l = ap length w.in_default.ensures.0 in absurd (omega arith)
    ]

pub returns : goal.returns
returns c =
    turned_all c.loop.counter (c.args.opening, c.args.dirs) c.args.reports.now c.loop.reports c.loop.invariant
    (omega arith)
