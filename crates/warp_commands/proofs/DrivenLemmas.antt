-- Inner: what a server that served a load leaves, with pollers that never fail.
use Rattle.std.proofs.Common.{◌≡◌, ℕ, ◌+◌, List, [], ◌∷◌, ◌++◌, length, Result, Ok, Err, IfOk, refl, sym, ap}
use Rattle.std.proofs.Common.{◌∙◌, subst, zero-add}
use Rattle.std.specs.Prelude.{All, get_or}
use Rattle.std.proofs.lemmas.List.Elements.{All-push}
use Rattle.std.specs.Arc.{arc_value}
use Rattle.outside.specs.declared.files.Files.{Ghosts}
use Rattle.turn_cell.specs.Weights.{weigh}
use Rattle.poller.specs.Faults.{PollerFaults}
use Rattle.warp_books.specs.declared.sum_book.SumBook.{SumBook}
use Rattle.warp_books.specs.Books.{IsBookOf}
use Rattle.warp_books.specs.EndCounts.{book_told}
use Rattle.warp_jobs.specs.declared.job.Job.{Job}
use Rattle.warp_jobs.specs.declared.kit.Kit.{Kit}
use Rattle.warp_passes.specs.Levels.{ArePassesLevel}
use Rattle.warp_passes.specs.declared.shared.ServePass.{ServePass}
use Rattle.warp_passes.specs.Passes.{AreOf, IsLawfulPass, lawful_of, pass_view}
use Rattle.warp_core.specs.declared.served.Served.{Served}
use Rattle.warp_core.specs.Ends.{EndsSo}
use Rattle.warp_core.specs.Journals.{AreExplained}
use Rattle.warp_core.specs.Events.{KeepAllEvents}
use Rattle.whole_runs.specs.Accounts.{ServedAddsUp}
use Rattle.warp_commands.specs.Headline.{KeepsCallbacks}
use Rattle.warp_commands.specs.Driven.{WasDriven}

module _ {P F C G : Type 0} where
  -- pollers that never fail have no faults together
  no_polls : (faults : P → PollerFaults) → ((p : P) → (faults p).polls ≡ 0)
      → (kits : List (Kit P F C SumBook G)) → weigh (λ kit. (faults kit.poller).polls) kits ≡ 0
  no_polls faults none [] = refl
  no_polls faults none (kit ∷ kits) =
      ap (λ n. n + weigh (λ kit. (faults kit.poller).polls) kits) (none kit.poller)
      ∙ zero-add _ ∙ no_polls faults none kits

  -- a kit more, whose book was handed nothing either
  pub empty_books : (kits more : List (Kit P F C SumBook G)) (kit : Kit P F C SumBook G)
      → more ≡ kits ++ kit ∷ []
      → All (λ kit. IsBookOf [] (book_told kit.book)) kits → IsBookOf [] (book_told kit.book)
      → All (λ kit. IsBookOf [] (book_told kit.book)) more
  empty_books kits more kit is all one =
      subst (λ (xs : List (Kit P F C SumBook G)). All (λ kit. IsBookOf [] (book_told kit.book)) xs) (sym is)
      (All-push (λ (kit : Kit P F C SumBook G). IsBookOf [] (book_told kit.book)) kits kit all one)

module _ {P F C G L I X : Type 0} {H : Ghosts F X} where
  -- what a server left, where its pollers never fail
  pub was_driven : (faults : P → PollerFaults) → ((p : P) → (faults p).polls ≡ 0)
      → (connections dispatchers count : ℕ) (s : Served P F C SumBook G L I X H)
      → count ≡ dispatchers
      → All (λ pass. AreOf (arc_value s.shared) pass) s.passes.items
      → ArePassesLevel pass_view s.passes.items
      → ((xs : List (ServePass (Job P F L I X) F X H)) → All (λ x. IsLawfulPass (pass_view x)) xs
      → ArePassesLevel pass_view xs → KeepAllEvents pass_view xs → KeepsCallbacks pass_view xs)
      → KeepAllEvents pass_view s.passes.items
      → ServedAddsUp book_told connections s
      → AreExplained book_told connections s.passes.items s.kits.items
      → length s.kits.items ≡ count
      → EndsSo pass_view connections s.end s.passes.items
      (weigh (λ kit. (faults kit.poller).polls) s.kits.items)
      → (s.limit ≡ connections) × (s.seconds ≡ 30)
      → WasDriven connections dispatchers s
  was_driven faults none connections dispatchers count s is own level law events adds_up explained counted ends same =
      record {
        own = own;
        level = level;
        callbacks =
            law s.passes.items
            (λ k other here.
            lawful_of (arc_value s.shared) (get_or s.passes.items k other) (own k other here))
            level events;
        adds_up = adds_up;
        explained = explained;
        count = counted ∙ is;
        ends =
            subst (λ (n : ℕ). EndsSo pass_view connections s.end s.passes.items n)
            (no_polls faults none s.kits.items) ends;
        limit = same.0;
        seconds = same.1;
      }
