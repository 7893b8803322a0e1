use Rattle.fd_cache.proofs.Account.{accounts}
use Rattle.fd_cache.proofs.laws.histories_account_for_leases.Goals as goal

pub returns : goal.returns
returns g c = λ past legal. accounts past legal
