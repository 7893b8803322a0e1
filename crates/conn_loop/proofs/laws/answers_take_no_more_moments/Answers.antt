use Rattle.conn_loop.specs.Answers.{limit}
use Rattle.conn_loop.proofs.GrowthLemmas.{moments_enough}
use Rattle.conn_loop.proofs.laws.answers_take_no_more_moments.Goals as goal

pub returns : goal.returns
returns c = λ reply s moments later few. moments_enough reply limit s moments later few
