use Rattle.conn_loop.proofs.laws.moments_grow.Goals as goal

pub returns : goal.returns
returns c = λ old new clock after x. (x.gained, x.grown)
