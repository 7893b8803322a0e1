-- Inner: what becomes of registrations that are taken out of their places.
use Rattle.std.specs.Prelude.{Option, List, [], ◌∷◌, map, if◌then◌else◌}
use Rattle.reg_keys.specs.declared.registration.Key.{Key}
use Rattle.reg_keys.specs.declared.registration.Marks.{Marks}
use Rattle.stripe_table.specs.Loads.{job_of}
use Rattle.stripe_table.specs.Flags.{settled}
use Rattle.stripe_table.specs.Descriptors.{flag_waits}
use Rattle.stripe_table.specs.declared.calls.Fired.{Fired}
use Rattle.stripe_table.specs.declared.descriptor.Registration.{Registration}
use Rattle.stripe_table.specs.declared.flags.FlagState.{FlagState}
use Rattle.stripe_table.specs.declared.flags.FlagState.TheVariants.{Ran, Closed}
use Rattle.stripe_table.specs.declared.flags.UnaskedFlag.{UnaskedFlag}

module _ {T : Type 0} where
  -- a registration that ran, with the marks of its opening
  abbrev pub fired_as : Marks → Registration T → Fired T
  fired_as m r = record { key = record { number = r.key }; dir = r.dir; marks = m; job = job_of r.load }

  -- a registration that a close gave back
  abbrev pub shut_as : Registration T → Key × Option T
  shut_as r = (record { number = r.key }, job_of r.load)

  -- how a flag comes out that an event runs
  abbrev pub run_state : Marks → Registration T → FlagState
  run_state m r = Ran r.dir m

  -- how a flag comes out whose opening is closed
  abbrev pub shut_state : Registration T → FlagState
  shut_state r = Closed

  -- the flags, after this one came out so, if it is one
  abbrev pub told_of : FlagState → Registration T → List UnaskedFlag → List UnaskedFlag
  told_of x r fs = if flag_waits r then map (settled r.key x) fs else fs

  -- the flags, after those among the registrations came out so
  abbrev pub settle_all : (Registration T → FlagState) → List (Registration T)
      → List UnaskedFlag → List UnaskedFlag
  settle_all state [] fs = fs
  settle_all state (r ∷ rs) fs = settle_all state rs (told_of (state r) r fs)
