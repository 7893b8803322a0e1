use Rattle.turn_cell.specs.Calls.{view_of}
use Rattle.warp_passes.proofs.CacheDeeds.{acquired}
use Rattle.warp_passes.proofs.cache.acquire.Goals as goal

pub returns-clause-cached : goal.returns-clause-cached
returns-clause-cached g c =
    acquired c.args.path.now c.acquire.result (view_of c.args.pass.now) (view_of c.acquire.new.pass)
    (g.F.Files.told c.args.files.now) (g.F.Files.told c.acquire.new.files) c.acquire.ensures.ran
