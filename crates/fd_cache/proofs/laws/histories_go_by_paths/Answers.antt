use Rattle.fd_cache.proofs.Paths.{goes_by_paths}
use Rattle.fd_cache.proofs.laws.histories_go_by_paths.Goals as goal

pub returns : goal.returns
returns g c = λ past legal. goes_by_paths past legal
