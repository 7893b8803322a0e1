use Rattle.std.proofs.Common.{◌≡◌, ◌<◌, length, map}
use Rattle.std.specs.Prelude.{All}
use Rattle.warp_passes.specs.Cells.{SeatsAreOnce}
use Rattle.dispatcher.specs.Stripes.{Each}
use Rattle.warp_core.specs.Rows.{Serves, beat_of, known_by}
use Rattle.warp_core.specs.SweepTimes.{KeepsOn}
use Rattle.warp_core.proofs.serve.serve_on.Given as goal

abbrev pub invariant-loop : goal.invariant-loop
invariant-loop g l = record {
  some : 0 < length l.rows;
  serve : All (λ row. Serves g.B.Book.told g.P.Poller.meaning.faults l.shared row) l.rows;
  limits : All (λ row. row.runner.limit ≡ l.limit) l.rows;
  seats : SeatsAreOnce known_by l.rows;
  beats : Each KeepsOn (map (beat_of g.C.Clock.told) l.initial.rows) (map (beat_of g.C.Clock.told) l.rows);
}
