use Rattle.warp_runner.proofs.runner.ServerRunner.look_up.Goals as goal

pub returns-in-NoMemory-clause-grown : goal.returns-in-NoMemory-clause-grown
returns-in-NoMemory-clause-grown g c = c.acquire.ensures.cached.adds.grown

pub returns-in-Spent-clause-grown : goal.returns-in-Spent-clause-grown
returns-in-Spent-clause-grown g c = c.acquire.ensures.cached.adds.grown
