-- Inner: dispatchers that are made, and taken apart.
use Rattle.std.specs.Prelude.{◌≡◌, ℕ, List, map, Bool, true, false, Option, Some, None}
use Rattle.std.specs.Arc.{arc_value}
use Rattle.outside.specs.declared.files.Files.{Ghosts}
use Rattle.warp_jobs.specs.declared.job.Job.{Job}
use Rattle.warp_jobs.specs.declared.kit.Kit.{Kit}
use Rattle.warp_passes.specs.declared.shared.Shared.{Shared}
use Rattle.warp_passes.specs.declared.shared.ServePass.{ServePass}
use Rattle.warp_core.specs.declared.row.Row.{Row}
use Rattle.warp_core.specs.Rows.{passes_of}

-- a dispatcher keeps the beats, every so many seconds, or it doesn't
abbrev pub KeepsWhere : Bool → ℕ → Option ℕ → Type 0
KeepsWhere true seconds of = of ≡ Some seconds
KeepsWhere false seconds of = of ≡ None

module _ {P F C B G L I X : Type 0} {H : Ghosts F X} where
  -- a dispatcher calls what all share, and made no turn
  pub record IsPlain (s : Shared (Job P F L I X) F X H) (limit : ℕ)
      (row : Row P F C B G L I X H) : Type 0 where
    pub shared : arc_value row.runner.shared ≡ s
    pub limit_is : row.runner.limit ≡ limit
    pub goes_on : row.halted ≡ None

  -- dispatchers were taken apart into these passes and kits
  pub record HasParts (rows : List (Row P F C B G L I X H)) (passes : List (ServePass (Job P F L I X) F X H))
      (kits : List (Kit P F C B G)) : Type 0 where
    pub passes_are : passes ≡ map passes_of rows
    pub books : map (λ kit. kit.book) kits ≡ map (λ row. row.runner.book) rows
    pub pollers : map (λ kit. kit.poller) kits ≡ map (λ row. row.runner.poller) rows
    pub clocks : map (λ kit. kit.clock) kits ≡ map (λ row. row.runner.clock) rows
