use Rattle.fd_cache.proofs.Acquires.{has_released}
use Rattle.fd_cache.proofs.own.release_own.Goals as goal

pub returns : goal.returns
returns g c =
    has_released c.args.lease c.release.result _ _ c.release.ensures.answers c.release.ensures.enters
