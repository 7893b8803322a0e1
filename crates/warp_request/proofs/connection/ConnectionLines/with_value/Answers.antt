use Rattle.std.proofs.Common.{sym, ◌∙◌}
use Rattle.std.proofs.lemmas.Slice.Eq.{bytes_eq-Decides}
use Rattle.warp_request.specs.LimitsAndWords.{keep_alive_word}
use Rattle.warp_request.proofs.ConnectionLemmas.{kept_alone}
use Rattle.warp_request.proofs.connection.ConnectionLines.with_value.Goals as goal

pub returns-then-eq : goal.returns-then-eq
returns-then-eq c =
    kept_alone c.args.self c.args.value.now
    ((bytes_eq-Decides c.args.value.now keep_alive_word).0 (sym c.eq.ensures ∙ c.if-eq.true))
