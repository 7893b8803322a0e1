use Rattle.std.proofs.Common.{◌∙◌}
use Rattle.conn_loop.specs.Answers.{limit}
use Rattle.conn_loop.proofs.GrowthLemmas.{answers_stay, closed_stay, finals_stay}
use Rattle.conn_loop.proofs.laws.closed_stays.Goals as goal

pub returns : goal.returns
returns c = record {
  closed = λ s t closed. closed_stay limit s t closed ∙ closed;
  finals = λ s t closed. finals_stay limit s t closed;
  answers = λ reply s t moments closed. answers_stay reply limit s t moments closed;
}
