-- To be believed: the journal of a dispatcher: the deeds that explain all that it did beside reports and
-- dispatches, each of them lawful.
use Rattle.std.specs.Prelude.{◌≡◌, ◌⊎◌, ℕ, ◌+◌, List, [], ◌∷◌, ◌++◌, Option, Some, None}
use Rattle.reg_keys.specs.declared.opening.Opening.{Opening}
use Rattle.reg_keys.specs.declared.event.EventName.{EventName}
use Rattle.reg_keys.specs.declared.registration.Dirs.{Dirs}
use Rattle.reg_keys.specs.declared.entry.LoadKind.TheVariants as Kinds
use Rattle.reg_keys.specs.declared.entry.Entry.{Entry}
use Rattle.reg_keys.specs.declared.entry.Entry.TheVariants as Entries
use Rattle.reg_keys.specs.declared.entry.ReportOutcome.{ReportOutcome}
use Rattle.reg_keys.specs.declared.entry.DispatchOutcome.{DispatchOutcome}
use Rattle.reg_keys.specs.Tests.{total}
use Rattle.turn_cell.specs.Weights.{weigh}
use Rattle.event_mgr.specs.Manager.{own_weight}
use Rattle.dispatcher.specs.Entries.{Firing}
use Rattle.dispatcher.specs.Firings.{Jobs}
use Rattle.outside.specs.ListenCauses.{ListenerTold}
use Rattle.warp_books.specs.Books.{IsBookOf}
use Rattle.warp_jobs.specs.Held.{Held}
use Rattle.warp_jobs.specs.HeldListener.{HeldListener}
use Rattle.warp_jobs.specs.Tags.{listen_tag}
use Rattle.warp_runner.specs.Acts.{Acts, ServeTold, nothing, fired_weight, all_out_in}
use Rattle.warp_runner.specs.Deeds.{IsConnectionRun, IsJobOf, IsListenerRun, IsNote, IsStarting, IsSweeping}

-- a deed: the job that was run, if any, what was done, and the code with which the
-- dispatcher stopped, if it did
pub record Deed : Type 0 where
  pub job : Jobs
  pub acts : Acts
  pub stopped : Option ℕ

-- what some deeds have, one after another
abbrev pub all_of : {A : Type 0} → (Deed → List A) → List Deed → List A
all_of f [] = []
all_of f (d ∷ ds) = f d ++ all_of f ds

-- a run of a job: of a connection's, or of the listener's
abbrev pub IsRun : ℕ → Firing → Acts → Option ℕ → Type 0
IsRun limit f acts stopped =
    ((h : Held) × IsJobOf h f.1.kind × IsConnectionRun h f.1.marks acts stopped)
    ⊎ ((l : HeldListener) × (f.1.kind ≡ Kinds.Job (listen_tag l))
    × IsListenerRun limit l f.1.marks acts stopped)

-- what each deed is: a run of a job, a job that was dropped, a sweep, a word with the tally, or the
-- beginning. A job that is dropped and a word with the tally stop no dispatcher
abbrev pub IsDeed : ℕ → Deed → Type 0
IsDeed limit d =
    ((f : Firing) × (d.job ≡ f ∷ []) × IsRun limit f d.acts d.stopped)
    ⊎ ((f : Firing) × (d.job ≡ f ∷ []) × (d.acts ≡ nothing) × (d.stopped ≡ None))
    ⊎ ((d.job ≡ []) × IsSweeping d.acts d.stopped)
    ⊎ ((d.job ≡ []) × IsNote d.acts × (d.stopped ≡ None))
    ⊎ ((listener : ListenerTold) × (d.job ≡ []) × IsStarting listener d.acts d.stopped)

-- each deed is one of these
abbrev pub AreDeeds : ℕ → List Deed → Type 0
AreDeeds limit [] = Unit {0}
AreDeeds limit (d ∷ ds) = IsDeed limit d × AreDeeds limit ds

-- the weight is of what jobs and beats do, not of what a turn does
pub record IsOfServer (f : Entry → ℕ) : Type 0 where
  pub reports : (o : Opening) (ds : Dirs) (r : ReportOutcome) → f (Entries.Report o ds r) ≡ 0
  pub dispatches : (x : EventName) (r : DispatchOutcome) → f (Entries.Dispatch x r) ≡ 0

-- The deeds explain what the dispatcher did: whatever an entry weighs that is no report and no dispatch, its
-- own entries weigh what the calls of the deeds weigh; what its dispatches fired are the jobs of the deeds
-- and those that are still to be run; it was told as often as they were that all descriptors are open; its
-- calls on the tally and on the timeouts, and what its book was handed, are those of the deeds, in their
-- order; and each deed is lawful
pub record Explains (limit : ℕ) (deeds : List Deed) (now : ServeTold) (jobs : Jobs) : Type 0 where
  pub calls : (f : Entry → ℕ) → IsOfServer f
      → own_weight f now.mgr ≡ weigh f (all_of (λ d. d.acts.calls) deeds)
  pub fired : (φ : Firing → ℕ)
      → own_weight (fired_weight φ) now.mgr ≡ weigh (λ (d : Deed). total φ d.job) deeds + total φ jobs
  pub all_out : all_out_in now.mgr ≡ weigh (λ (d : Deed). d.acts.all_out) deeds
  pub tallied : now.tallied ≡ all_of (λ d. d.acts.tallied) deeds
  pub timed : now.timed ≡ all_of (λ d. d.acts.timed) deeds
  pub book : IsBookOf (all_of (λ d. d.acts.handed) deeds) now.book
  pub lawful : AreDeeds limit deeds

-- there are such deeds
pub record JournalFits (limit : ℕ) (now : ServeTold) (jobs : Jobs) : Type 0 where
  pub deeds : List Deed
  pub explains : Explains limit deeds now jobs

-- one of some deeds is so
abbrev pub HasOne : (Deed → Type 0) → List Deed → Type 0
HasOne Is [] = ⊥
HasOne Is (d ∷ ds) = Is d ⊎ HasOne Is ds

-- where there is a code, one of the deeds stopped the dispatcher with it
abbrev pub StopsSo : Option ℕ → List Deed → Type 0
StopsSo None ds = Unit {0}
StopsSo (Some code) ds = HasOne (λ d. d.stopped ≡ Some code) ds

-- there are such deeds, and where the dispatcher stops with a code one of them stopped it so
abbrev pub FitsUntil : ℕ → Option ℕ → ServeTold → Jobs → Type 0
FitsUntil limit stop now jobs = (fits : JournalFits limit now jobs) × StopsSo stop fits.deeds

-- there are deeds that explain what the dispatcher did, with no job still to be run, and one of them is so
abbrev pub DidOne : ℕ → (Deed → Type 0) → ServeTold → Type 0
DidOne limit Is now = (fits : JournalFits limit now []) × HasOne Is fits.deeds
