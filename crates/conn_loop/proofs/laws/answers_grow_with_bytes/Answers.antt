use Rattle.std.proofs.Common.{◌∙◌, ◌++◌, ap, sym, append-nil, List, [], ℕ}
use Rattle.conn_loop.specs.Answers.{limit, answers_of}
use Rattle.conn_loop.proofs.GrowthLemmas.{answers_grow}
use Rattle.conn_loop.proofs.laws.answers_grow_with_bytes.Goals as goal

pub returns : goal.returns
returns c = λ reply s t moments.
    let grown = answers_grow reply limit s t moments [] in
    (grown.0, ap (λ (ms : List ℕ). answers_of reply (s ++ t) ms) (sym (append-nil moments)) ∙ grown.1)
