-- What sweeps gave was closed.
use Rattle.std.proofs.Common.{◌≡◌, ◌⊎◌, ℕ, ◌≤◌, List, [], ◌∷◌, ⊎_elim, inl, inr, refl, ap, arith}
use Rattle.outside.specs.declared.files.Files.{Ghosts}
use Rattle.reg_keys.specs.declared.opening.Opening.{Opening}
use Rattle.turn_cell.specs.Weights.{weigh}
use Rattle.turn_cell.specs.ListLaws.{weigh-append}
use Rattle.event_mgr.specs.Manager.{own_weight}
use Rattle.timeout_mgr.specs.Passes.{calls_of}
use Rattle.warp_books.specs.Books.{BookTold}
use Rattle.warp_jobs.specs.declared.kit.Kit.{Kit}
use Rattle.warp_passes.specs.declared.shared.ServePass.{ServePass}
use Rattle.warp_passes.specs.Passes.{pass_view}
use Rattle.warp_runner.specs.Acts.{ServeTold}
use Rattle.warp_runner.specs.Journal.{AreDeeds, Deed, DidOne, HasOne, JournalFits, all_of}
use Rattle.warp_runner.specs.Sweeps.{StopsInSweep, closes, gave}
use Rattle.warp_runner.specs.SweepLaws.{deed_closes}
use Rattle.warp_core.specs.Journals.{AreExplained, SomeDid, told_at}
use Rattle.whole_runs.specs.Accounts.{all_gave, whole}

module _ (o : Opening) where
  journal_closes : (limit : ℕ) (ds : List Deed) → AreDeeds limit ds
      → (weigh (gave o) (all_of (λ d. d.acts.timed) ds) ≤ weigh (closes o) (all_of (λ d. d.acts.calls) ds))
      ⊎ HasOne StopsInSweep ds
  journal_closes limit [] are = inl (omega arith)
  journal_closes limit (d ∷ ds) are = ⊎_elim
      (λ le. ⊎_elim
      (λ more.
      let u = weigh-append (gave o) d.acts.timed (all_of (λ d. d.acts.timed) ds) in
      let v = weigh-append (closes o) d.acts.calls (all_of (λ d. d.acts.calls) ds) in inl (omega arith))
      (λ has. inr (inr has)) (journal_closes limit ds are.1))
      (λ stops. inr (inl stops)) (deed_closes o limit d are.0)

  one_closed : (limit : ℕ) (u : ServeTold) → JournalFits limit u []
      → (weigh (gave o) u.timed ≤ own_weight (closes o) u.mgr) ⊎ DidOne limit StopsInSweep u
  one_closed limit u fits = ⊎_elim
      (λ le.
      let a = fits.explains.calls (closes o) (record { reports = λ p ds r. refl; dispatches = λ x r. refl }) in
      let b = ap (weigh (gave o)) fits.explains.timed in inl (omega arith))
      (λ has. inr (fits, has)) (journal_closes limit fits.deeds fits.explains.lawful)

  module _ {J P F C B G X : Type 0} {H : Ghosts F X} (told : B → BookTold) where
    pub swept_closed : (limit : ℕ) (passes : List (ServePass J F X H)) (kits : List (Kit P F C B G))
        → AreExplained told limit passes kits
        → (all_gave pass_view o passes ≤ whole pass_view (closes o) passes)
        ⊎ SomeDid told limit passes kits StopsInSweep
    swept_closed limit [] [] explained = inl (omega arith)
    swept_closed limit [] (kit ∷ kits) explained = absurd explained
    swept_closed limit (pass ∷ passes) [] explained = absurd explained
    swept_closed limit (pass ∷ passes) (kit ∷ kits) explained = ⊎_elim
        (λ le. ⊎_elim (λ more. inl (omega arith)) (λ did. inr (inr did))
        (swept_closed limit passes kits explained.1))
        (λ did. inr (inl did)) (one_closed limit (told_at told pass kit) explained.0)
