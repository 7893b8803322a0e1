use Rattle.std.proofs.Common.{◌++◌, codes, decimal}
use Rattle.warp_commands.proofs.PrintLemmas.{puts_then, puts_whole}
use Rattle.warp_commands.proofs.printing.print_line.Goals as goal

pub returns : goal.returns
returns g c =
    let old = g.O.Sink.told c.args.out.now in
    let mid = g.O.Sink.told c.print_number.new.out in
    puts_then (c.args.name.now ++ decimal c.args.number) (codes "\n") c.put.result old mid
    (g.O.Sink.told c.put.new.self)
    (puts_whole c.print_number.result _ old mid c.in_default.not-Failed c.print_number.ensures)
    c.put.ensures
