-- To be believed: what a beat of the dispatcher that keeps the beats does, and what the beats of a whole run
-- come to.
use Rattle.std.specs.Prelude.{◌≡◌, ℕ, List, [], ◌∷◌, ◌++◌, All, Bool, true, false, Option, Some, None}
use Rattle.outside.specs.declared.files.Files.{Ghosts}
use Rattle.outside.specs.Moments.{ClockTold, Gives}
use Rattle.turn_cell.specs.declared.view.View.{View}
use Rattle.turn_cell.specs.Calls.{view_of}
use Rattle.timeout_mgr.specs.Calls.{view_of as seen_of}
use Rattle.timeout_mgr.specs.Passes.{calls_of}
use Rattle.fd_cache.specs.declared.deed.CacheDeed.{CacheDeed}
use Rattle.fd_cache.specs.declared.deed.CacheDeed.TheVariants.{Reaped}
use Rattle.warp_jobs.specs.declared.kit.Kit.{Kit}
use Rattle.warp_passes.specs.declared.shared.ServePass.{ServePass}
use Rattle.warp_passes.specs.Own.{entries_of}
use Rattle.warp_passes.specs.Passes.{pass_view}
use Rattle.warp_runner.specs.Sweeps.{HasSweptOnce}
use Rattle.warp_core.specs.declared.beat.Beats.{Beats}
use Rattle.warp_core.specs.declared.row.Row.{Row}
use Rattle.warp_core.specs.declared.row.Halted.{Halted}
use Rattle.warp_core.specs.Rows.{HasGoneOn}
use Rattle.warp_core.specs.SweepTimes.{IsDueAt, NeverSwept, SweptWhenDue}

-- the one new deed of a pass on the cache is a reap
abbrev pub HasReaped : {L : Type 0} → View (CacheDeed L) → View (CacheDeed L) → Type 0
HasReaped {L} v w = (closed : List L) × (entries_of w ≡ entries_of v ++ Reaped closed ∷ [])

-- the last two deeds of a pass on the cache are reaps, which it did after all that it had done
abbrev pub HasReapedTwice : {L : Type 0} → View (CacheDeed L) → View (CacheDeed L) → Type 0
HasReapedTwice {L} v w =
    (between : List (CacheDeed L)) × (first : List L) × (second : List L)
    × (entries_of w ≡ (entries_of v ++ between) ++ Reaped first ∷ Reaped second ∷ [])

module _ {P F C B G L I X : Type 0} {H : Ghosts F X} where
  -- where a sweep was due: the dispatcher swept once, and where nothing stopped it, it reaped twice
  pub record HasCleaned (old : Row P F C B G L I X H) (result : Option Halted)
      (new : Row P F C B G L I X H) : Type 0 where
    pub swept : HasSweptOnce (calls_of (seen_of old.runner.timed)) (calls_of (seen_of new.runner.timed))
    pub reaped : result ≡ None → HasReapedTwice (view_of old.runner.cached) (view_of new.runner.cached)

  -- no call on the timeouts and on the cache was made
  pub record HasLeftAlone (old : Row P F C B G L I X H) (result : Option Halted)
      (new : Row P F C B G L I X H) : Type 0 where
    pub timed : new.runner.timed ≡ old.runner.timed
    pub cached : new.runner.cached ≡ old.runner.cached
    pub goes_on : result ≡ None

  abbrev pub HasCleanedWhere : Bool → Row P F C B G L I X H → Option Halted → Row P F C B G L I X H → Type 0
  HasCleanedWhere true old result new = HasCleaned old result new
  HasCleanedWhere false old result new = HasLeftAlone old result new

  -- The clock gave a moment, and exactly where a sweep was due at it, the dispatcher swept and reaped. It
  -- remembers the moment of the last sweep, and the seconds
  pub record HasKept (clock : C → ClockTold) (beats : Beats F X H) (old : Row P F C B G L I X H)
      (result : Option Halted) (new : Row P F C B G L I X H) : Type 0 where
    pub now : ℕ
    pub after : C
    pub gives : Gives (now ∷ []) (clock old.runner.clock) (clock after)
    pub due : Bool
    pub left : Beats F X H
    pub keeps : new.beats ≡ Some left
    pub seconds : left.seconds ≡ beats.seconds
    pub is_due : IsDueAt beats.seconds beats.last now due left.last
    pub cleaned : HasCleanedWhere due old result new

  -- a beat: of a dispatcher that keeps no beats it does nothing
  abbrev pub HasBeat : (C → ClockTold) → Option (Beats F X H) → Row P F C B G L I X H
      → Option Halted → Row P F C B G L I X H → Type 0
  HasBeat clock None old result new = HasLeftAlone old result new
  HasBeat clock (Some beats) old result new = HasKept clock beats old result new

  -- a round begins with a beat, after which the dispatcher goes on
  abbrev pub BeginsWithBeat : (C → ClockTold) → Row P F C B G L I X H → Row P F C B G L I X H → Type 0
  BeginsWithBeat clock old new =
      (result : Option Halted) × (between : Row P F C B G L I X H)
      × HasBeat clock old.beats old result between × HasGoneOn between new

module _ {J P F C B G X : Type 0} {H : Ghosts F X} (clock : C → ClockTold) where
  -- The first dispatcher keeps the beats: it swept whenever that was due, by the moments at which its clock was
  -- asked, and at no other time. No other dispatcher swept
  abbrev pub KeptBeats : ℕ → List (ServePass J F X H) → List (Kit P F C B G) → Type 0
  KeptBeats seconds [] [] = Unit {0}
  KeptBeats seconds (pass ∷ passes) (kit ∷ kits) =
      ((last : Option ℕ) × SweptWhenDue seconds last (clock kit.clock) (calls_of (pass_view pass).times))
      × All (λ other. NeverSwept (calls_of (pass_view other).times)) passes
  KeptBeats seconds _ _ = ⊥
