-- A run of a job, and a job that is dropped, in the journal.
use Rattle.std.proofs.Common.{◌≡◌, ℕ, List, [], ◌∷◌, ◌++◌, sym, refl, subst, inl, inr}
use Rattle.std.specs.Prelude.{Option, None}
use Rattle.reg_keys.specs.declared.event.EventName.{EventName}
use Rattle.reg_keys.specs.declared.registration.Marks.{Marks}
use Rattle.reg_keys.specs.declared.entry.LoadKind.TheVariants as Kinds
use Rattle.dispatcher.specs.Entries.{Firing}
use Rattle.dispatcher.specs.Firings.{Jobs}
use Rattle.warp_runner.specs.declared.serving.Ran.{Ran}
use Rattle.warp_runner.specs.Acts.{Acts, Did, ServeTold, nothing}
use Rattle.warp_jobs.specs.Held.{Held}
use Rattle.warp_jobs.specs.HeldListener.{HeldListener}
use Rattle.warp_jobs.specs.Tags.{listen_tag}
use Rattle.warp_runner.specs.Deeds.{IsConnectionRun, IsJobOf, IsListenerRun, IsNote, IsStarting, IsSweeping}
use Rattle.warp_runner.proofs.Registering.{RanSo}
use Rattle.warp_runner.specs.Journal.{JournalFits, FitsUntil}
use Rattle.warp_runner.specs.JournalLaws.{until_last, until_then}
use Rattle.warp_runner.specs.Runs.{HasRun, named}
use Rattle.outside.specs.ListenCauses.{ListenerTold}

module _ (limit : ℕ) (u w : ServeTold) (rest : Jobs) where
  pub run_fits : (f : Firing) (jobs : Jobs) (events : List EventName) (stopped : Option ℕ)
      → jobs ≡ f ∷ [] → HasRun limit f u events stopped w → JournalFits limit u (jobs ++ rest)
      → FitsUntil limit stopped w rest
  run_fits f jobs events stopped is ran fits =
      until_last limit u w (record { job = f ∷ []; acts = ran.0; stopped = stopped }) events rest ran.1
      (inl (f, refl, ran.2))
      (subst (λ (l : Jobs). JournalFits limit u (l ++ rest)) is fits)

  pub dropped_fits : (f : Firing) (stop : Option ℕ) → Did u nothing [] w → FitsUntil limit stop u (f ∷ rest)
      → FitsUntil limit stop w rest
  dropped_fits f stop did fits =
      until_then limit u w (record { job = f ∷ []; acts = nothing; stopped = None })
      [] rest stop did (inr (inl (f, refl, refl, refl))) fits

  module _ (acts : Acts) where
    module _ (stopped : Option ℕ) (events : List EventName) (did : Did u acts events w) where
      module _ (is : IsSweeping acts stopped) where
        pub sweep_fits : (stop : Option ℕ) → FitsUntil limit stop u rest → FitsUntil limit stop w rest
        sweep_fits stop fits =
            until_then limit u w (record { job = []; acts = acts; stopped = stopped }) events rest stop did
            (inr (inr (inl (refl, is)))) fits

        pub sweep_stops : JournalFits limit u rest → FitsUntil limit stopped w rest
        sweep_stops fits =
            until_last limit u w (record { job = []; acts = acts; stopped = stopped }) events rest did
            (inr (inr (inl (refl, is)))) fits

      pub start_fits : (listener : ListenerTold) → IsStarting listener acts stopped
          → JournalFits limit u rest → FitsUntil limit stopped w rest
      start_fits listener is fits =
          until_last limit u w (record { job = []; acts = acts; stopped = stopped }) events rest did
          (inr (inr (inr (inr (listener, refl, is))))) fits

    pub note_fits : (stop : Option ℕ) → Did u acts [] w → IsNote acts → FitsUntil limit stop u rest
        → FitsUntil limit stop w rest
    note_fits stop did is fits =
        until_then limit u w (record { job = []; acts = acts; stopped = None })
        [] rest stop did (inr (inr (inr (inl (refl, is, refl))))) fits

-- ---- a run of a job

module _ (limit : ℕ) (f : Firing) (marks : Marks) (u w : ServeTold) (ran : Ran)
    (same : f.1.marks ≡ marks) where
  pub runs_connection : (h : Held) → IsJobOf h f.1.kind → RanSo u ran w (IsConnectionRun h marks)
      → HasRun limit f u (named ran) ran.stopped w
  runs_connection h kind r =
      (r.0, r.1, inl (h, kind, subst (λ (m : Marks). IsConnectionRun h m r.0 ran.stopped) (sym same) r.2))

  pub runs_listener : (l : HeldListener) → f.1.kind ≡ Kinds.Job (listen_tag l)
      → RanSo u ran w (IsListenerRun limit l marks) → HasRun limit f u (named ran) ran.stopped w
  runs_listener l kind r =
      (r.0, r.1, inr (l, kind, subst (λ (m : Marks). IsListenerRun limit l m r.0 ran.stopped) (sym same) r.2))
