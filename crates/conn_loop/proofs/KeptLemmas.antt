-- What is kept of a call's step.
use Rattle.std.proofs.Common.{◌≡◌, ℕ, ◌+◌, ◌*◌, ◌≤◌, List, Option, Some, None, IfSome, refl, sym, ap, subst}
use Rattle.std.proofs.Common.{arith}
use Rattle.std.specs.Prelude.{◌↔◌, IfNone}
use Rattle.app_trait.specs.Moves.{Moves}
use Rattle.outside.specs.Causes.{LinkTold}
use Rattle.outside.specs.FileCauses.{FilesTold}
use Rattle.conn_loop.specs.declared.step.Step.{Step}
use Rattle.conn_loop.specs.declared.step.Step.TheVariants.{WantRead, WantWrite, WantFile, Done}
use Rattle.conn_loop.specs.declared.step.End.{End}
use Rattle.conn_loop.specs.Causes.{IsCaused, end_of}
use Rattle.conn_loop.specs.Stages.{Stage, body_steps, failing, steps_left, FailsBy}
use Rattle.conn_loop.specs.ConnState.{AsksFor, Counted, IsAsking, IsAskingStage, ConnState}
use Rattle.conn_loop.specs.Steps.{GoesOver, stage_kept, to_go}

-- a fact for where the connection isn't over
pub if_none : (o : Option End) (P : Type 0) → (o ≡ None → P) → IfNone o P
if_none None P x = x refl
if_none (Some end) P x = tt

pub if_some : (o : Option End) (P : End → Type 0) → o ≡ None → IfSome o P
if_some None P is = tt
if_some (Some end) P is = cc

pub if_over : (o : Option End) (end : End) (P : Type 0) → o ≡ Some end → IfNone o P
if_over None end P is = cc
if_over (Some other) end P is = tt

pub if_ended : (o : Option End) (end : End) (P : End → Type 0) → o ≡ Some end → P end → IfSome o P
if_ended None end P is x = cc
if_ended (Some other) end P is x = subst P (let e : end ≡ other = cc in e) x

-- the connection as it is kept
abbrev Kept : Step → ConnState → ConnState
Kept step mid = record mid { over = end_of step; stage = stage_kept step mid.stage }

fails_kept : (step : Step) (old mid : ConnState) (f g : ℕ)
    → FailsBy (failing old.stage) (failing mid.stage) f g
    → IfNone (end_of step) (FailsBy (failing old.stage) (failing (stage_kept step mid.stage)) f g)
fails_kept WantRead old mid f g x = x
fails_kept WantWrite old mid f g x = x
fails_kept WantFile old mid f g x = x
fails_kept (Done end) old mid f g x = tt

pub caused_of : (step : Step) (old mid new : ConnState) (k l : LinkTold) (f g : FilesTold)
    → new ≡ record mid { over = end_of step; stage = stage_kept step mid.stage }
    → GoesOver (Some step) old mid k l f g → IsCaused step old new k l f g
caused_of step old mid new k l f g same x = record {
  fault = x.cause;
  fails =
      subst (λ (c : ConnState).
      IfNone c.over (FailsBy (failing old.stage) (failing c.stage) f.faults g.faults))
      (sym same) (fails_kept step old mid f.faults g.faults x.fails);
}

pub counted_of : (step : Step) (mid new : ConnState) (l : LinkTold)
    → new ≡ record mid { over = end_of step; stage = stage_kept step mid.stage }
    → Counted mid l → Counted new l
counted_of step mid new l same x =
    subst (λ (c : ConnState). Counted c l) (sym same) (record { waits = x.waits; bytes = x.bytes })

asks_at : (step : Step) (moves : Moves) (stage : Stage) → AsksFor moves stage
    → AsksFor moves (stage_kept step stage)
asks_at WantRead moves stage x = x
asks_at WantWrite moves stage x = x
asks_at WantFile moves stage x = x
asks_at (Done end) moves stage x = tt

pub kept_asks : (moves : Moves) (step : Step) (mid new : ConnState)
    → new ≡ record mid { over = end_of step; stage = stage_kept step mid.stage }
    → AsksFor moves mid.stage → AsksFor moves new.stage
kept_asks moves step mid new same x =
    subst (λ (c : ConnState). AsksFor moves c.stage) (sym same) (asks_at step moves mid.stage x)

some_step : (a b : Step) → a ≡ b → Some a ≡ Some b
some_step a b is = ap (λ (s : Step). Some s) is

one_step : (a b : Step) → Some a ≡ Some b → a ≡ b
one_step a b is = cc

file_at : (step : Step) (stage : Stage) → ((Some step ≡ Some WantFile) ↔ IsAskingStage stage)
    → ((step ≡ WantFile) ↔ IsAskingStage (stage_kept step stage))
file_at WantRead stage x = ((λ e. cc), (λ asks. one_step WantRead WantFile (x.1 asks)))
file_at WantWrite stage x = ((λ e. cc), (λ asks. one_step WantWrite WantFile (x.1 asks)))
file_at WantFile stage x = ((λ e. x.0 refl), (λ asks. refl))
file_at (Done end) stage x = ((λ e. cc), (λ asks. absurd asks))

pub kept_file : (step : Step) (mid new : ConnState)
    → new ≡ record mid { over = end_of step; stage = stage_kept step mid.stage }
    → ((Some step ≡ Some WantFile) ↔ IsAsking mid)
    → ((step ≡ WantFile) ↔ IsAsking new)
kept_file step mid new same x =
    subst (λ (c : ConnState). (step ≡ WantFile) ↔ IsAsking c) (sym same) (file_at step mid.stage x)

left_kept : (step : Step) (stage : Stage) (input : List ℕ)
    → steps_left (stage_kept step stage) input ≤ steps_left stage input
left_kept WantRead stage input = omega arith
left_kept WantWrite stage input = omega arith
left_kept WantFile stage input = omega arith
left_kept (Done end) stage input = omega arith

pub kept_fewer : (step : Step) (mid new : ConnState)
    → new ≡ record mid { over = end_of step; stage = stage_kept step mid.stage } → to_go new ≤ to_go mid
kept_fewer step mid new same =
    let is : to_go new ≡ mid.left * (2 * body_steps) + steps_left (stage_kept step mid.stage) mid.input =
    ap (λ (c : ConnState). to_go c) same in
    omega (arith, is, left_kept step mid.stage mid.input)

-- a connection that was over asks for no file
pub over_asks : (end : End) (c : ConnState) → (Done end ≡ WantFile) ↔ ⊥
over_asks end c = ((λ e. cc), (λ x. absurd x))
