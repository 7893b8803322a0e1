use Rattle.std.proofs.Common.{ℕ, List, decimal, subst, ◌∙◌}
use Rattle.outside.specs.declared.sink.SinkOut.TheVariants.{Stored}
use Rattle.outside.specs.SinkCauses.{Puts}
use Rattle.warp_commands.proofs.PrintLemmas.{puts_then, puts_whole}
use Rattle.warp_commands.proofs.printing.print_number.Goals as goal

pub returns : goal.returns
returns g c =
    let old = g.O.Sink.told c.args.out.now in
    let mid = g.O.Sink.told c.put.new.self in
    let new = g.O.Sink.told c.put-2.new.self in
    puts_then c.args.name.now (decimal c.args.number) c.put-2.result old mid new
    (subst (λ (piece : List ℕ). Puts Stored piece old mid) c.as_bytes.ensures.value
    (puts_whole c.put.result _ old mid c.in_default.not-Failed c.put.ensures))
    (subst (λ (piece : List ℕ). Puts c.put-2.result piece mid new)
    (c.as_bytes-2.ensures.value ∙ c.format.ensures.text) c.put-2.ensures)
