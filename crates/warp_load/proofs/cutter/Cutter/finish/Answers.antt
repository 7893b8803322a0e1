use Rattle.std.proofs.Common.{map, ap, sym, ◌∙◌}
use Rattle.std.proofs.lemmas.List.{nil_from_length}
use Rattle.warp_load.specs.declared.cutter.Cutter.{Cutter}
use Rattle.warp_load.specs.LoadScripts.{step_shown}
use Rattle.warp_load.proofs.CutterLemmas.{cut_last, cut_whole, pos_of, zero_of}
use Rattle.warp_load.proofs.cutter.Cutter.finish.Goals as goal
use Rattle.warp_load.proofs.cutter.Cutter.finish.Goals.{then-not-is_empty+in_ok-close, else-not-is_empty}

pub returns : goal.returns
returns c = record {
  steps = λ front cut. elim c.if-not-is_empty.branch [
    | then-not-is_empty+in_ok-close w ↦
        cut_last c.args.self front (map step_shown c.if-not-is_empty.self.steps.items) cut
        (sym c.args.self.piece.ok.0) (pos_of c.args.self.piece.len w.if-not-is_empty.ensures)
        (ap (λ (d : Cutter). map step_shown d.steps.items) w.self-is ∙ w.in_ok-close.ensures.step)
    | else-not-is_empty w ↦ ap (λ (d : Cutter). map step_shown d.steps.items) w.self-is
        ∙ cut_whole c.args.self front cut
        (nil_from_length _
        (sym c.args.self.piece.ok.0 ∙ zero_of c.args.self.piece.len w.if-not-is_empty.ensures))
  ];
}
