-- Why a connection's step came, in the words of a command.
use Rattle.std.proofs.Common.{◌≡◌, ◌≢◌, ℕ, List, ◌++◌, refl, sym, ap, ◌∙◌, subst, inl, inr}
use Rattle.outside.specs.Causes.{LinkTold}
use Rattle.outside.specs.FileCauses.{FilesTold}
use Rattle.outside.specs.Moments.{ClockTold, Gives}
use Rattle.conn_loop.specs.Causes.{Clocked}
use Rattle.conn_loop.specs.ConnState.{ConnState, at_first}
use Rattle.conn_loop.specs.declared.step.Step.{Step}
use Rattle.conn_loop.specs.declared.step.Step.TheVariants.{WantRead, WantWrite, WantFile, Done}
use Rattle.conn_loop.specs.declared.step.End.TheVariants as End
use Rattle.warp_commands.specs.Causes.{IsServeCause, Stays}
use Rattle.warp_commands.specs.Steps.{Brings, status_after}

-- a new connection's moments are those that it gained
pub gives_first : (old new : ConnState) (clock after : ClockTold) → old ≡ at_first
    → Clocked old new clock after → Gives new.moments clock after
gives_first old new clock after is x =
    subst (λ (v : List ℕ). Gives v clock after)
    (sym (x.grown ∙ ap (λ (s : ConnState). s.moments ++ x.gained) is)) x.gave

-- and what stays after it
pub stays_after : (step : Step) (link later : LinkTold) (files since : FilesTold)
    (old new : ConnState) (clock after : ClockTold)
    → Brings step link later files since → Clocked old new clock after
    → Stays link later files since clock after
stays_after step link later files since old new clock after x gave = record {
  of_link = x.of_link;
  counted = x.of_files.later;
  firm = x.of_files.firm;
  looks = x.of_files.looks;
  still = gave.gave.stays;
}

-- what a run of steps leaves is why a command ended
pub caused_after : (step : Step) (link later : LinkTold) (files since : FilesTold) → step ≢ WantFile
    → Brings step link later files since
    → IsServeCause (status_after step) link later files since
caused_after WantRead link later files since stops x = record {
  own = tt;
  was_read = λ e. cc;
  was_there = λ e. cc;
  read_fault = λ e. cc;
  write_fault = λ e. cc;
  file_fault = λ e. cc;
  not_ready = λ e. inl x.waits;
  waits_told = λ other. absurd (other refl);
}
caused_after WantWrite link later files since stops x = record {
  own = tt;
  was_read = λ e. cc;
  was_there = λ e. cc;
  read_fault = λ e. cc;
  write_fault = λ e. cc;
  file_fault = λ e. cc;
  not_ready = λ e. inr x.waits;
  waits_told = λ other. absurd (other refl);
}
caused_after WantFile link later files since stops x = absurd (stops refl)
caused_after (Done End.Clean) link later files since stops x = record {
  own = tt;
  was_read = λ e. cc;
  was_there = λ e. cc;
  read_fault = λ e. cc;
  write_fault = λ e. cc;
  file_fault = λ e. cc;
  not_ready = λ e. cc;
  waits_told = λ other. x.waits;
}
caused_after (Done End.Cut) link later files since stops x = record {
  own = tt;
  was_read = λ e. cc;
  was_there = λ e. cc;
  read_fault = λ e. cc;
  write_fault = λ e. cc;
  file_fault = λ e. cc;
  not_ready = λ e. cc;
  waits_told = λ other. x.waits;
}
caused_after (Done End.ReadFault) link later files since stops x = record {
  own = tt;
  was_read = λ e. cc;
  was_there = λ e. cc;
  read_fault = λ e. x.fault;
  write_fault = λ e. cc;
  file_fault = λ e. cc;
  not_ready = λ e. cc;
  waits_told = λ other. x.waits;
}
caused_after (Done End.WriteFault) link later files since stops x = record {
  own = tt;
  was_read = λ e. cc;
  was_there = λ e. cc;
  read_fault = λ e. cc;
  write_fault = λ e. x.fault;
  file_fault = λ e. cc;
  not_ready = λ e. cc;
  waits_told = λ other. x.waits;
}
caused_after (Done End.FileFault) link later files since stops x = record {
  own = tt;
  was_read = λ e. cc;
  was_there = λ e. cc;
  read_fault = λ e. cc;
  write_fault = λ e. cc;
  file_fault = λ e. x.fault;
  not_ready = λ e. cc;
  waits_told = λ other. x.waits;
}
caused_after (Done End.NoMemory) link later files since stops x = record {
  own = tt;
  was_read = λ e. cc;
  was_there = λ e. cc;
  read_fault = λ e. cc;
  write_fault = λ e. cc;
  file_fault = λ e. cc;
  not_ready = λ e. cc;
  waits_told = λ other. x.waits;
}
