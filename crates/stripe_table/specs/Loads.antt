-- To be believed: what a registration carries.
use Rattle.std.specs.Prelude.{Bool, true, false, Option, Some, None}
use Rattle.stripe_table.specs.declared.load.Payload.{Payload}
use Rattle.stripe_table.specs.declared.load.Payload.TheVariants.{Job, Flag}

module _ {T : Type 0} where
  -- the load is a flag
  abbrev pub is_flag : Payload T → Bool
  is_flag (Job x) = false
  is_flag Flag = true

  -- the job, or nothing for a flag
  abbrev pub job_of : Payload T → Option T
  job_of (Job x) = Some x
  job_of Flag = None
