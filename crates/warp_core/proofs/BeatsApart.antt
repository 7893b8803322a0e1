-- The beats of dispatchers that are taken apart, said of their passes and kits.
use Rattle.std.proofs.Common.{◌≡◌, ℕ, List, [], ◌∷◌, map, length, All, sym, ap, subst, arith}
use Rattle.std.specs.Prelude.{Option, None}
use Rattle.std.proofs.lemmas.List.Elements.{All-cons, All-nil, All-head, All-tail}
use Rattle.outside.specs.declared.files.Files.{Ghosts}
use Rattle.outside.specs.Moments.{ClockTold}
use Rattle.timeout_mgr.specs.Calls.{view_of as seen_of}
use Rattle.timeout_mgr.specs.Passes.{calls_of}
use Rattle.warp_jobs.specs.declared.job.Job.{Job}
use Rattle.warp_jobs.specs.declared.kit.Kit.{Kit}
use Rattle.warp_passes.specs.declared.shared.ServePass.{ServePass}
use Rattle.warp_passes.specs.Passes.{pass_view}
use Rattle.warp_core.specs.declared.row.Row.{Row}
use Rattle.warp_core.specs.Beats.{KeptBeats}
use Rattle.warp_core.specs.Making.{HasParts}
use Rattle.warp_core.specs.Rows.{beat_of, last_of, passes_of, seconds_of}
use Rattle.warp_core.specs.SweepTimes.{BeatTold, BeatsOf, FirstKeeps, KeepsBeats, NeverSwept, SweptWhenDue}
use Rattle.warp_core.proofs.RowLists.{head_or}

module _ {J F X : Type 0} {H : Ghosts F X} where
  abbrev HasNever : ServePass J F X H → Type 0
  HasNever pass = NeverSwept (calls_of (pass_view pass).times)

module _ {P F C B G L I X : Type 0} {H : Ghosts F X} (clock : C → ClockTold) where
  others_never : (rows : List (Row P F C B G L I X H))
      → All (λ (x : Option ℕ). x ≡ None) (map (λ b. b.seconds) (map (beat_of clock) rows))
      → All KeepsBeats (map (beat_of clock) rows) → All HasNever (map passes_of rows)
  others_never [] none kept = All-nil HasNever
  others_never (row ∷ rows) none kept =
      let secs = map (λ (b : BeatTold). b.seconds) (map (beat_of clock) rows) in
      let is = All-head (λ (x : Option ℕ). x ≡ None) (seconds_of row.beats) secs none in
      let keeps = All-head KeepsBeats (beat_of clock row) (map (beat_of clock) rows) kept in
      All-cons HasNever (passes_of row) (map passes_of rows)
      (subst (λ (o : Option ℕ). BeatsOf o (last_of row.beats) (clock row.runner.clock)
      (calls_of (seen_of row.runner.timed))) is keeps)
      (others_never rows (All-tail (λ (x : Option ℕ). x ≡ None) (seconds_of row.beats) secs none)
      (All-tail KeepsBeats (beat_of clock row) (map (beat_of clock) rows) kept))

  kept_by : (seconds : ℕ) (rows : List (Row P F C B G L I X H)) (kits : List (Kit P F C B G))
      → map (λ kit. kit.clock) kits ≡ map (λ row. row.runner.clock) rows
      → FirstKeeps seconds (map (beat_of clock) rows) → KeptBeats clock seconds (map passes_of rows) kits
  kept_by seconds [] [] same first = tt
  kept_by seconds [] (kit ∷ kits) same first =
      let n : length (map (λ (k : Kit P F C B G). k.clock) (kit ∷ kits)) ≡ 0 = ap length same in
      absurd (omega arith)
  kept_by seconds (row ∷ rows) [] same first =
      let n : 0 ≡ length (map (λ (r : Row P F C B G L I X H). r.runner.clock) (row ∷ rows)) = ap length same in
      absurd (omega arith)
  kept_by seconds (row ∷ rows) (kit ∷ kits) same first =
      let still : kit.clock ≡ row.runner.clock = ap (head_or kit.clock) same in
      let keeps = All-head KeepsBeats (beat_of clock row) (map (beat_of clock) rows) first.kept in
      let swept = subst (λ (o : Option ℕ). BeatsOf o (last_of row.beats) (clock row.runner.clock)
      (calls_of (seen_of row.runner.timed))) first.first.0 keeps in (
        (
          last_of row.beats,
          subst (λ (k : C). SweptWhenDue seconds (last_of row.beats) (clock k)
              (calls_of (seen_of row.runner.timed))) (sym still) swept,
        ),
        others_never rows first.first.1
            (All-tail KeepsBeats (beat_of clock row) (map (beat_of clock) rows) first.kept),
      )

  pub kept_apart : (seconds : ℕ) (rows : List (Row P F C B G L I X H))
      (passes : List (ServePass (Job P F L I X) F X H)) (kits : List (Kit P F C B G))
      → HasParts rows passes kits → FirstKeeps seconds (map (beat_of clock) rows)
      → KeptBeats clock seconds passes kits
  kept_apart seconds rows passes kits parts first =
      subst (λ (ps : List (ServePass (Job P F L I X) F X H)). KeptBeats clock seconds ps kits)
      (sym parts.passes_are) (kept_by seconds rows kits parts.clocks first)
