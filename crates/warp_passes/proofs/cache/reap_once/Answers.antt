use Rattle.std.proofs.Common.{ap, subst}
use Rattle.turn_cell.specs.Calls.{view_of}
use Rattle.fd_cache.specs.declared.calls.CacheCall.TheVariants as Calls
use Rattle.fd_cache.specs.Calls.{deed_of}
use Rattle.fd_cache.specs.Shared.{EnteredIn}
use Rattle.warp_passes.proofs.CacheDeeds.{reaped, not_reaped}
use Rattle.warp_passes.proofs.cache.reap_once.Goals as goal

pub returns-in-Done-Reaped-clause-cached : goal.returns-in-Done-Reaped-clause-cached
returns-in-Done-Reaped-clause-cached g c =
    let v = view_of c.args.pass.now in
    let w = view_of c.step.new.pass in
    reaped c.in-Done-Reaped.closed v w
    (subst (λ d. EnteredIn d v w) (ap (λ r. deed_of (Calls.Reap c.args.basket) r) c.in-Done-Reaped.field-0-is)
    c.in-Done-Reaped.ensures.step.0)

pub returns-in-Spent-Reap-clause-cached : goal.returns-in-Spent-Reap-clause-cached
returns-in-Spent-Reap-clause-cached g c =
    not_reaped (view_of c.args.pass.now) (view_of c.step.new.pass) c.in-Spent-Reap.ensures.step.1
