use Rattle.std.proofs.Common.{◌∙◌, ◌++◌, ap, sym, append-nil, List, [], ℕ}
use Rattle.conn_loop.specs.Answers.{limit, answers_of}
use Rattle.conn_loop.proofs.GrowthLemmas.{answers_grow}
use Rattle.conn_loop.proofs.laws.answers_grow_with_moments.Goals as goal

pub returns : goal.returns
returns c = λ reply s moments later.
    let grown = answers_grow reply limit s [] moments later in
    (grown.0, ap (λ (v : List ℕ). answers_of reply v (moments ++ later)) (sym (append-nil s)) ∙ grown.1)
