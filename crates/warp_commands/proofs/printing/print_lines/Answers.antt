use Rattle.std.proofs.Common.{◌++◌, codes}
use Rattle.outside.specs.declared.sink.SinkOut.TheVariants.{Stored, Failed}
use Rattle.warp_commands.specs.Driven.{number_line}
use Rattle.warp_commands.proofs.PrintLemmas.{puts_part, puts_then, puts_whole}
use Rattle.warp_commands.proofs.printing.print_lines.Goals as goal

pub returns-in-Failed : goal.returns-in-Failed
returns-in-Failed g c =
    let first = number_line (codes "connections ") c.args.connections in
    let second = number_line (codes "requests ") c.args.requests in
    let third = number_line (codes "bytes ") c.args.bytes in
    let old = g.O.Sink.told c.args.out.now in
    let new = g.O.Sink.told c.print_line.new.out in
    puts_part (first ++ second) third old new (puts_part first second old new c.in-Failed.ensures)

pub returns-in-Failed-print_line : goal.returns-in-Failed-print_line
returns-in-Failed-print_line g c =
    let first = number_line (codes "connections ") c.args.connections in
    let second = number_line (codes "requests ") c.args.requests in
    let third = number_line (codes "bytes ") c.args.bytes in
    let old = g.O.Sink.told c.args.out.now in
    let mid = g.O.Sink.told c.print_line.new.out in
    let new = g.O.Sink.told c.print_line-2.new.out in
    puts_part (first ++ second) third old new
    (puts_then first second Failed old mid new
    (puts_whole c.print_line.result first old mid c.in_default.not-Failed c.print_line.ensures)
    c.in-Failed-print_line.ensures)

pub returns : goal.returns
returns g c =
    let first = number_line (codes "connections ") c.args.connections in
    let second = number_line (codes "requests ") c.args.requests in
    let third = number_line (codes "bytes ") c.args.bytes in
    let old = g.O.Sink.told c.args.out.now in
    let mid = g.O.Sink.told c.print_line.new.out in
    let later = g.O.Sink.told c.print_line-2.new.out in
    let new = g.O.Sink.told c.print_line-3.new.out in
    puts_then (first ++ second) third c.print_line-3.result old later new
    (puts_then first second Stored old mid later
    (puts_whole c.print_line.result first old mid c.in_default.not-Failed c.print_line.ensures)
    (puts_whole c.print_line-2.result second mid later c.in_default-print_line.not-Failed
    c.print_line-2.ensures))
    c.print_line-3.ensures
