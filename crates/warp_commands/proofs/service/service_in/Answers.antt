use Rattle.std.proofs.Common.{sym, ◌∙◌}
use Rattle.warp_commands.proofs.WordLemmas.{dispatchers_within}
use Rattle.warp_commands.proofs.service.service_in.Goals as goal

pub returns-clause-ranges : goal.returns-clause-ranges
returns-clause-ranges c = record {
  dispatchers =
      dispatchers_within c.args.dispatchers.now c.in_ok-dispatchers_in.field-0
      (sym c.dispatchers_in.ensures ∙ c.in_ok-dispatchers_in.was);
  connections = c.in_ok-number_from-2.ensures.within.0;
  seconds = c.in_ok-number_from-3.ensures.within.0;
}
