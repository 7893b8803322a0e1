-- To be believed: what a server hands back of its dispatchers, each one's pass and kit at the same place.
use Rattle.std.specs.Prelude.{◌⊎◌, ℕ, List, [], ◌∷◌}
use Rattle.outside.specs.declared.files.Files.{Ghosts}
use Rattle.warp_books.specs.Books.{BookTold}
use Rattle.warp_jobs.specs.declared.kit.Kit.{Kit}
use Rattle.warp_passes.specs.declared.shared.ServePass.{ServePass}
use Rattle.warp_passes.specs.Passes.{pass_view}
use Rattle.warp_runner.specs.Acts.{ServeTold, told_of}
use Rattle.warp_runner.specs.Journal.{Deed, DidOne, JournalFits}

module _ {J P F C B G X : Type 0} {H : Ghosts F X} (told : B → BookTold) where
  -- what is known of what a dispatcher did, by its pass and its book
  abbrev pub told_at : ServePass J F X H → Kit P F C B G → ServeTold
  told_at pass kit = let v = pass_view pass in told_of v.mgr v.tally v.times (told kit.book)

  -- at each place there is a pass and a kit, and a journal, which begins with nothing, explains all that they
  -- say: the pass's calls, and what the kit's book was handed
  abbrev pub AreExplained : ℕ → List (ServePass J F X H) → List (Kit P F C B G) → Type 0
  AreExplained limit [] [] = Unit {0}
  AreExplained limit (pass ∷ passes) (kit ∷ kits) =
      JournalFits limit (told_at pass kit) [] × AreExplained limit passes kits
  AreExplained limit _ _ = ⊥

  -- at some place a journal explains what the pass and the kit say, in which one deed is so
  abbrev pub SomeDid : ℕ → List (ServePass J F X H) → List (Kit P F C B G) → (Deed → Type 0) → Type 0
  SomeDid limit (pass ∷ passes) (kit ∷ kits) Is =
      DidOne limit Is (told_at pass kit) ⊎ SomeDid limit passes kits Is
  SomeDid limit _ _ Is = ⊥
