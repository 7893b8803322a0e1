-- What a server hands back, as passes and books.
use Rattle.std.proofs.Common.{◌⊎◌, ℕ, ◌≤◌, List, [], ◌∷◌, All, ⊎_elim, inl, inr, refl, ap}
use Rattle.std.proofs.Common.{arith}
use Rattle.std.specs.Prelude.{get_or}
use Rattle.outside.specs.declared.files.Files.{Ghosts}
use Rattle.reg_keys.specs.declared.opening.Opening.{Opening}
use Rattle.reg_keys.specs.Accounts.{opens}
use Rattle.turn_cell.specs.Weights.{weigh}
use Rattle.event_mgr.specs.Manager.{own_weight}
use Rattle.warp_tally.specs.Accounts.{accepts}
use Rattle.warp_books.specs.Books.{BookTold}
use Rattle.warp_jobs.specs.declared.kit.Kit.{Kit}
use Rattle.warp_passes.specs.declared.shared.Shared.{Shared}
use Rattle.warp_passes.specs.declared.shared.ServePass.{ServePass}
use Rattle.warp_passes.specs.Passes.{PassView, AreOf, IsLawfulPass, lawful_of, pass_view}
use Rattle.warp_runner.specs.Acts.{ServeTold}
use Rattle.warp_runner.specs.Journal.{DidOne, JournalFits}
use Rattle.warp_core.specs.declared.served.Counts.{Counts}
use Rattle.warp_core.specs.declared.served.ServeEnd.{ServeEnd}
use Rattle.warp_core.specs.declared.served.ServeEnd.TheVariants.{Over, PollFault, AcceptFault, Spent}
use Rattle.warp_core.specs.declared.served.ServeEnd.TheVariants.{NoMemory}
use Rattle.warp_core.specs.Ends.{EndsSo, IsOver, tally_weight}
use Rattle.warp_core.specs.Journals.{AreExplained, SomeDid, told_at}
use Rattle.whole_runs.specs.Accounts.{OpensUncounted, OverAddsUp, WhereOver, books_of, whole}
use Rattle.whole_runs.proofs.Flows.{AreExplainedBy}
use Rattle.whole_runs.proofs.Opened.{journal_counts}

module _ {J P F C B G X : Type 0} {H : Ghosts F X} (told : B → BookTold) where
  pub explained_by : (limit : ℕ) (passes : List (ServePass J F X H)) (kits : List (Kit P F C B G))
      → AreExplained told limit passes kits → AreExplainedBy pass_view limit passes (books_of told kits)
  explained_by limit [] [] explained = tt
  explained_by limit [] (kit ∷ kits) explained = absurd explained
  explained_by limit (pass ∷ passes) [] explained = absurd explained
  explained_by limit (pass ∷ passes) (kit ∷ kits) explained =
      (explained.0, explained_by limit passes kits explained.1)

module _ {J F X : Type 0} {H : Ghosts F X} where
  pub all_lawful : (s : Shared J F X H) (passes : List (ServePass J F X H))
      → All (λ pass. AreOf s pass) passes → All (λ pass. IsLawfulPass (pass_view pass)) passes
  all_lawful s passes own k other here = lawful_of s (get_or passes k other) (own k other here)

module _ {A L : Type 0} (known : A → PassView L) where
  pub where_over : (limit : ℕ) (end : ServeEnd) (xs : List A) (faults : ℕ) (books : List BookTold)
      → ((counts : Counts) → IsOver known limit counts xs → OverAddsUp known limit counts xs books)
      → EndsSo known limit end xs faults → WhereOver end (λ counts. OverAddsUp known limit counts xs books)
  where_over limit (Over counts) xs faults books over ends = over counts ends
  where_over limit PollFault xs faults books over ends = tt
  where_over limit AcceptFault xs faults books over ends = tt
  where_over limit Spent xs faults books over ends = tt
  where_over limit NoMemory xs faults books over ends = tt

-- each opening that one dispatcher made was counted, or one of its deeds made it apart
one_counted : (o : Opening) (limit : ℕ) (u : ServeTold)
    → JournalFits limit u [] → (own_weight (opens o) u.mgr ≤ weigh (accepts o) u.tallied)
    ⊎ DidOne limit (OpensUncounted o) u
one_counted o limit u fits = ⊎_elim
    (λ le.
    let a = fits.explains.calls (opens o) (record { reports = λ p ds r. refl; dispatches = λ x r. refl }) in
    let b = ap (weigh (accepts o)) fits.explains.tallied in inl (omega arith))
    (λ has. inr (fits, has)) (journal_counts o limit fits.deeds fits.explains.lawful)

module _ {J P F C B G X : Type 0} {H : Ghosts F X} (told : B → BookTold) (o : Opening) where
  pub openings_counted : (limit : ℕ) (passes : List (ServePass J F X H)) (kits : List (Kit P F C B G))
      → AreExplained told limit passes kits
      → (whole pass_view (opens o) passes ≤ tally_weight pass_view (accepts o) passes)
      ⊎ SomeDid told limit passes kits (OpensUncounted o)
  openings_counted limit [] [] explained = inl (omega arith)
  openings_counted limit [] (kit ∷ kits) explained = absurd explained
  openings_counted limit (pass ∷ passes) [] explained = absurd explained
  openings_counted limit (pass ∷ passes) (kit ∷ kits) explained = ⊎_elim
      (λ le. ⊎_elim (λ more. inl (omega arith)) (λ did. inr (inr did))
      (openings_counted limit passes kits explained.1))
      (λ did. inr (inl did)) (one_counted o limit (told_at told pass kit) explained.0)
