-- To be believed: what fired and is to be run: the jobs among it, and the keys.
use Rattle.std.specs.Prelude.{ℕ, List, [], ◌∷◌, ◌++◌, map}
use Rattle.reg_keys.specs.declared.opening.Opening.{Opening}
use Rattle.reg_keys.specs.declared.event.EventName.{EventName}
use Rattle.reg_keys.specs.declared.registration.Key.{Key}
use Rattle.reg_keys.specs.declared.registration.Dir.{Dir}
use Rattle.reg_keys.specs.declared.registration.Marks.{Marks}
use Rattle.reg_keys.specs.declared.entry.LoadKind.{LoadKind}
use Rattle.reg_keys.specs.declared.entry.LoadKind.TheVariants.{Job, Flag}
use Rattle.stripe_table.specs.declared.calls.Fired.{Fired}
use Rattle.stripe_table.specs.declared.calls.DispatchReply.{DispatchReply}
use Rattle.stripe_table.specs.declared.calls.DispatchReply.TheVariants.{Ran}
use Rattle.stripe_table.specs.Calls.{kind_of_job, fired_key}
use Rattle.dispatcher.specs.Entries.{Firing, firings}

-- jobs that fired and are still to be run, in order: each with the opening of the event that fired it, and
-- with its key, its direction, the marks of that moment and its tag
abbrev pub Jobs : Type 0
Jobs = List Firing

-- what fired, if it is a job
abbrev pub job_of : Firing → LoadKind → Jobs
job_of f (Job tag) = f ∷ []
job_of f Flag = []

-- the jobs among what fired, in order
abbrev pub jobs_of : List Firing → Jobs
jobs_of [] = []
jobs_of (f ∷ fs) = job_of f f.1.kind ++ jobs_of fs

module _ {T : Type 0} (tag : T → List (List ℕ)) where
  -- a registration that fired, with the opening of the event that fired it
  abbrev pub firing_of : Opening → Fired T → Firing
  firing_of o f = (o, fired_key tag f)

  -- what one registration that fired is to run: its job, if it has one
  abbrev pub job_in : Opening → Fired T → Jobs
  job_in o f = job_of (firing_of o f) (kind_of_job tag f.job)

-- a job that is shut, with the opening, direction and marks with which it fired
abbrev pub job_at : Opening → Key → Dir → Marks → List (List ℕ) → Firing
job_at o key d m tag = (o, record { key = key; dir = d; marks = m; kind = Job tag })

-- the keys that fired, in order
abbrev pub keys_of : List Firing → List Key
keys_of fs = map (λ f. f.1.key) fs

-- the keys of the jobs among those that fired, in order
abbrev pub job_keys_of : List Firing → List Key
job_keys_of [] = []
job_keys_of (f ∷ fs) = keys_of (job_of f f.1.kind) ++ job_keys_of fs

module _ {T : Type 0} (tag : T → List (List ℕ)) where
  -- the jobs that are to be run after a dispatch: those before, and after them those that it fired
  abbrev pub with_fired : EventName → DispatchReply T → Jobs → Jobs
  with_fired x (Ran list e) jobs = jobs ++ jobs_of (firings x.opening (map (fired_key tag) list))
  with_fired x _ jobs = jobs
