use Rattle.std.proofs.Common.{◌∙◌}
use Rattle.std.specs.Prelude.{get_or}
use Rattle.std.specs.Arc.{arc_value}
use Rattle.warp_passes.specs.Passes.{lawful_of, pass_view}
use Rattle.warp_commands.specs.Serving.{listening_line}
use Rattle.warp_commands.proofs.PrintLemmas.{puts_whole}
use Rattle.warp_commands.proofs.ServingLemmas.{prints_serving}
use Rattle.warp_commands.proofs.serving.serve.Goals as goal

pub returns : goal.returns
returns g c =
    let left = c.in-Ok-serve_loop.left in
    let served = c.in-Ok-serve_loop.ensures in
    let begun = c.in-Ok.ensures in
    let old = g.O.Sink.told c.args.out.now in
    let mid = g.O.Sink.told c.put.new.self in
    let new = g.O.Sink.told c.told-status.new.out in
    let first = puts_whole c.put.result listening_line old mid c.in_default.not-Failed c.put.ensures in
    record {
      rooted = begun.rooted;
      listened = begun.listened;
      served = record {
        own = served.own;
        level = served.level;
        callbacks =
            c.level_passes_keep_callbacks.ensures pass_view left.passes.items (λ k other here.
            lawful_of (arc_value left.shared) (get_or left.passes.items k other) (served.own k other here))
            served.level served.events;
        adds_up = c.served_runs_add_up.ensures;
        explained = served.explained;
        beats = served.beats;
        count = served.count ∙ begun.count;
        ends = served.ends;
        limit = served.same.0;
        seconds = served.same.1;
      };
      ends = c.told-status.ensures.status;
      prints =
          prints_serving c.told-status.result left.end old mid new c.told-status.ensures.status
          first c.told-status.ensures.prints;
    }
