use Rattle.std.proofs.Common.{subst, sym}
use Rattle.turn_cell.specs.Calls.{view_of}
use Rattle.timeout_mgr.specs.Calls.{view_of as seen_of}
use Rattle.timeout_mgr.specs.Passes.{calls_of}
use Rattle.warp_runner.specs.Sweeps.{HasSweptOnce}
use Rattle.warp_core.proofs.Beating.{reaped_behind}
use Rattle.warp_core.proofs.Serving.{goes_then}
use Rattle.warp_core.proofs.beat.clean.Goals as goal

pub sweep-requires : goal.sweep-requires
sweep-requires g c = c.requires

pub returns-in-Some-clause-serves : goal.returns-in-Some-clause-serves
returns-in-Some-clause-serves g c = c.sweep.ensures.serves

pub returns-in-Some-clause-goes_on : goal.returns-in-Some-clause-goes_on
returns-in-Some-clause-goes_on g c = c.sweep.ensures.goes_on

pub returns-in-Some-clause-cleaned : goal.returns-in-Some-clause-cleaned
returns-in-Some-clause-cleaned g c = record { swept = c.sweep.ensures.swept; reaped = λ is. absurd (cc) }

pub returns-clause-goes_on : goal.returns-clause-goes_on
returns-clause-goes_on g c =
    goes_then c.args.row.now c.sweep.new.row c.reap_twice-halted.new.row c.sweep.ensures.goes_on
    c.reap_twice-halted.ensures.goes_on

pub returns-clause-cleaned : goal.returns-clause-cleaned
returns-clause-cleaned g c = record {
  swept =
      subst (λ timed.
      HasSweptOnce (calls_of (seen_of c.args.row.now.runner.timed)) (calls_of (seen_of timed)))
      (sym c.reap_twice-halted.ensures.timed) c.sweep.ensures.swept;
  reaped = λ is.
      reaped_behind (view_of c.args.row.now.runner.cached) (view_of c.sweep.new.row.runner.cached)
      (view_of c.reap_twice-halted.new.row.runner.cached)
      c.sweep.ensures.goes_on.passes.cache (c.reap_twice-halted.ensures.reaped is);
}
