-- What happened that the end of a server rests on.
use Rattle.std.proofs.Common.{◌≡◌, ℕ, List, [], ⊎_elim, All, sym, subst}
use Rattle.std.specs.Prelude.{Option, Some, None, IfSome, IsSomeAnd, Any}
use Rattle.outside.specs.declared.files.Files.{Ghosts}
use Rattle.poller.specs.Faults.{PollerFaults}
use Rattle.warp_books.specs.Books.{BookTold}
use Rattle.warp_jobs.specs.declared.job.Job.{Job}
use Rattle.warp_passes.specs.declared.shared.Shared.{Shared}
use Rattle.warp_passes.specs.Passes.{PassView}
use Rattle.warp_runner.specs.Acts.{ServeTold}
use Rattle.warp_runner.specs.Journal.{Deed, DidOne, FitsUntil}
use Rattle.warp_runner.specs.StoppingLaws.{did_broken, did_starved}
use Rattle.warp_core.specs.declared.row.Row.{Row}
use Rattle.warp_core.specs.declared.row.Halted.{Halted}
use Rattle.warp_core.specs.declared.row.Halted.TheVariants as Halts
use Rattle.warp_core.specs.declared.served.ServeEnd.{ServeEnd}
use Rattle.warp_core.specs.declared.served.ServeEnd.TheVariants.{Over, PollFault, AcceptFault, Spent}
use Rattle.warp_core.specs.declared.served.ServeEnd.TheVariants.{NoMemory}
use Rattle.warp_core.specs.Ends.{HasCause}
use Rattle.warp_core.specs.Rows.{OneDid, Serves, stop_in, told_by}
use Rattle.warp_core.specs.Settling.{EndOf, ShowsOver}

-- the end has a cause among the ones where it has one among the others
pub cause_on : (end : ServeEnd) (S T : (Deed → Type 0) → Type 0) → ((Is : Deed → Type 0) → S Is → T Is)
    → HasCause end S → HasCause end T
cause_on (Over counts) S T on cause = tt
cause_on PollFault S T on cause = tt
cause_on AcceptFault S T on cause = on _ cause
cause_on Spent S T on cause = tt
cause_on NoMemory S T on cause = on _ cause

module _ (limit : ℕ) (end : ServeEnd) (u : ServeTold) where
  abbrev ByOne : ServeEnd → Type 0
  ByOne e = HasCause e (λ Is. DidOne limit Is u)

  -- a dispatcher that stopped with a code did what the end rests on
  caused_by : (code : ℕ) → FitsUntil limit (Some code) u [] → EndOf (Halts.WithCode code) end → ByOne end
  caused_by code fits is = ⊎_elim
      (λ a. subst (λ (e : ServeEnd). ByOne e) (sym a.0)
      (did_broken limit u (subst (λ (n : ℕ). FitsUntil limit (Some n) u []) a.1 fits)))
      (λ b. ⊎_elim
      (λ a. subst (λ (e : ServeEnd). ByOne e) (sym a.0)
      (did_starved limit u (subst (λ (n : ℕ). FitsUntil limit (Some n) u []) a.1 fits)))
      (λ a. subst (λ (e : ServeEnd). ByOne e) (sym a) tt) b) is

  caused : (h : Option Halted) → FitsUntil limit (stop_in h) u [] → IsSomeAnd h (λ k. EndOf k end) → ByOne end
  caused None fits is = absurd is
  caused (Some Halts.PollFault) fits is = subst (λ (e : ServeEnd). ByOne e) (sym is) tt
  caused (Some (Halts.WithCode code)) fits is = caused_by code fits is
  caused (Some Halts.Spent) fits is = subst (λ (e : ServeEnd). ByOne e) (sym is) tt

module _ {P F C B G L I X : Type 0} {H : Ghosts F X} (told : B → BookTold) (faults : P → PollerFaults)
    (s : Shared (Job P F L I X) F X H) where
  -- where one of several dispatchers makes no further turn, its deeds have the cause of the end
  pub caused_halted : (limit : ℕ) (end : ServeEnd) (xs : List (Row P F C B G L I X H))
      → All (λ x. Serves told faults s x) xs → All (λ x. x.runner.limit ≡ limit) xs
      → Any (λ x. IsSomeAnd x.halted (λ h. EndOf h end)) xs → HasCause end (OneDid told limit xs)
  caused_halted limit end xs serve limits any =
      let serves : Serves told faults s any.1 =
      subst (λ (y : Row P F C B G L I X H). Serves told faults s y) any.3 (serve any.0 any.1 any.2) in
      let same : any.1.runner.limit ≡ limit =
      subst (λ (y : Row P F C B G L I X H). y.runner.limit ≡ limit) any.3 (limits any.0 any.1 any.2) in
      let fits : FitsUntil limit (stop_in any.1.halted) (told_by told any.1) [] =
      subst (λ (n : ℕ). FitsUntil n (stop_in any.1.halted) (told_by told any.1) []) same serves.fits in
      cause_on end (λ Is. DidOne limit Is (told_by told any.1)) (OneDid told limit xs)
      (λ Is did. (any.0, any.1, any.2, any.3, did))
      (caused limit end (told_by told any.1) any.1.halted fits any.4)

module _ {A L : Type 0} (known : A → PassView L) where
  -- what a look showed is an end with no such cause
  pub caused_shown : (limit : ℕ) (end : Option ServeEnd) (xs : List A) (S : (Deed → Type 0) → Type 0)
      → ShowsOver known limit end xs → IfSome end (λ e. HasCause e S)
  caused_shown limit None xs S shows = tt
  caused_shown limit (Some (Over counts)) xs S shows = tt
  caused_shown limit (Some PollFault) xs S shows = absurd shows
  caused_shown limit (Some AcceptFault) xs S shows = absurd shows
  caused_shown limit (Some Spent) xs S shows = tt
  caused_shown limit (Some NoMemory) xs S shows = absurd shows
