use Rattle.turn_cell.specs.Calls.{view_of}
use Rattle.warp_passes.proofs.CacheDeeds.{given_back}
use Rattle.warp_passes.proofs.cache.release.Goals as goal

pub returns-clause-cached : goal.returns-clause-cached
returns-clause-cached g c =
    given_back c.args.lease c.release.result (view_of c.args.pass.now)
    (view_of c.release.new.pass) c.release.ensures.gave_back
