-- Inner: a server over a front, from its first line to its end.
use Rattle.std.proofs.Common.{◌≡◌, ℕ, List, codes, refl, sym, subst, ap, ◌∙◌}
use Rattle.outside.specs.declared.sink.SinkOut.TheVariants.{Stored, Failed}
use Rattle.outside.specs.Counts.{Rises}
use Rattle.outside.specs.SinkCauses.{Puts, SinkTold}
use Rattle.warp_front.specs.Fronts.{FrontTold}
use Rattle.warp_core.specs.declared.served.ServeEnd.{ServeEnd}
use Rattle.warp_commands.specs.declared.status.Status.{Status}
use Rattle.warp_commands.specs.declared.status.Status.TheVariants.{Clean, Cut, Usage, ReadFault, WriteFault}
use Rattle.warp_commands.specs.declared.status.Status.TheVariants.{FileFault, NoMemory, NoSuchFolder}
use Rattle.warp_commands.specs.declared.status.Status.TheVariants.{PollFault, AcceptFault, Spent, OutFault}
use Rattle.warp_commands.specs.declared.status.Status.TheVariants.{CannotListen, NotReady, TurnedAway}
use Rattle.warp_commands.specs.Driven.{Prints, accepted_in, number_line}
use Rattle.warp_commands.specs.Serving.{EndsServing, PrintsServing, listening_line}
use Rattle.warp_commands.proofs.PrintLemmas.{puts_then}

-- the line of an end, after the first line
pub prints_serving : (status : Status) (end : ServeEnd) (out mid printed : SinkTold) → EndsServing status end
    → Puts Stored listening_line out mid
    → Prints status (number_line (codes "connections ") (accepted_in end)) mid printed
    → PrintsServing status (accepted_in end) out printed
prints_serving Clean end out mid printed is first rest =
    puts_then listening_line
    (number_line (codes "connections ") (accepted_in end)) Stored out mid printed first rest
prints_serving OutFault end out mid printed is first rest =
    puts_then listening_line
    (number_line (codes "connections ") (accepted_in end)) Failed out mid printed first rest
prints_serving NoMemory end out mid printed is first rest =
    subst (λ (s : SinkTold). Puts Stored listening_line out s) (sym rest) first
prints_serving PollFault end out mid printed is first rest =
    subst (λ (s : SinkTold). Puts Stored listening_line out s) (sym rest) first
prints_serving AcceptFault end out mid printed is first rest =
    subst (λ (s : SinkTold). Puts Stored listening_line out s) (sym rest) first
prints_serving Spent end out mid printed is first rest =
    subst (λ (s : SinkTold). Puts Stored listening_line out s) (sym rest) first
prints_serving Cut end out mid printed is first rest = absurd is
prints_serving Usage end out mid printed is first rest = absurd is
prints_serving ReadFault end out mid printed is first rest = absurd is
prints_serving WriteFault end out mid printed is first rest = absurd is
prints_serving FileFault end out mid printed is first rest = absurd is
prints_serving NoSuchFolder end out mid printed is first rest = absurd is
prints_serving CannotListen end out mid printed is first rest = absurd is
prints_serving NotReady end out mid printed is first rest = absurd is
prints_serving TurnedAway end out mid printed is first rest = absurd is

-- faults that rose after a call that raised none
pub rises_behind : (old mid new : FrontTold) → mid.faults ≡ old.faults → Rises mid.faults new.faults
    → Rises old.faults new.faults
rises_behind old mid new is rose = subst (λ (n : ℕ). Rises n new.faults) is rose
