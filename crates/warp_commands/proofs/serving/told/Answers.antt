use Rattle.std.proofs.Common.{codes, subst, sym}
use Rattle.warp_core.specs.declared.served.ServeEnd.{ServeEnd}
use Rattle.warp_commands.specs.declared.status.Status.TheVariants.{Clean, OutFault}
use Rattle.warp_commands.specs.Driven.{Prints, accepted_in, number_line}
use Rattle.warp_commands.proofs.serving.told.Goals as goal

pub returns-in-Stored-clause-prints : goal.returns-in-Stored-clause-prints
returns-in-Stored-clause-prints g c =
    subst (λ (end : ServeEnd). Prints Clean (number_line (codes "connections ") (accepted_in end))
    (g.O.Sink.told c.args.out.now) (g.O.Sink.told c.print_line.new.out))
    (sym c.in-Over.is) c.in-Stored.ensures

pub returns-in-Failed-clause-prints : goal.returns-in-Failed-clause-prints
returns-in-Failed-clause-prints g c =
    subst (λ (end : ServeEnd). Prints OutFault (number_line (codes "connections ") (accepted_in end))
    (g.O.Sink.told c.args.out.now) (g.O.Sink.told c.print_line.new.out))
    (sym c.in-Over.is) c.in-Failed.ensures
