-- Dispatchers that are made of new passes and empty books serve.
use Rattle.std.proofs.Common.{◌≡◌, ℕ, List, [], ◌∷◌, map, get_or, All, sym, ap, ◌∙◌, subst, arith}
use Rattle.std.specs.Prelude.{Option, None}
use Rattle.outside.specs.declared.files.Files.{Ghosts}
use Rattle.outside.specs.Moments.{ClockTold}
use Rattle.turn_cell.specs.Calls.{view_of}
use Rattle.fd_cache.specs.declared.lease.Lease.{Lease}
use Rattle.poller.specs.Faults.{PollerFaults}
use Rattle.warp_books.specs.Books.{BookTold, IsBookOf}
use Rattle.warp_jobs.specs.declared.job.Job.{Job}
use Rattle.warp_jobs.specs.declared.kit.Kit.{Kit}
use Rattle.warp_passes.specs.declared.shared.Shared.{Shared}
use Rattle.warp_passes.specs.declared.shared.ServePass.{ServePass}
use Rattle.warp_passes.specs.Passes.{PassView, AreOf, IsLawfulPass, lawful_of, pass_view}
use Rattle.warp_passes.specs.Levels.{AreNewPasses, DidNothing, IsNew}
use Rattle.std.proofs.lemmas.List.Elements.{All-cons, All-head, All-tail}
use Rattle.level.specs.ListLaws.{map_map}
use Rattle.warp_runner.specs.Journal.{FitsUntil}
use Rattle.warp_core.specs.declared.row.Row.{Row}
use Rattle.warp_core.specs.declared.row.Halted.{Halted}
use Rattle.warp_core.specs.Making.{IsPlain}
use Rattle.warp_core.specs.Rows.{HaltsBy, Serves, beat_of, known_by, last_of, passes_of, stop_in, told_by}
use Rattle.warp_core.specs.SweepTimes.{KeepsBeats}
use Rattle.warp_core.proofs.Apart.{all_parts}
use Rattle.warp_core.proofs.Keeping.{keeps_first}
use Rattle.warp_core.proofs.KeepingBeats.{kept_first}
use Rattle.warp_core.proofs.Levelled.{fits_first}

-- what holds of each part holds of what it is a part of
of_map : {A B : Type 0} (f : A → B) (P : B → Type 0) (xs : List A) → All P (map f xs) → All (λ x. P (f x)) xs
of_map f P [] all = λ k d h. absurd (omega arith)
of_map f P (x ∷ xs) all =
    All-cons (λ y. P (f y)) x xs (All-head P (f x) (map f xs) all)
    (of_map f P xs (All-tail P (f x) (map f xs) all))

pub each_row : {A B : Type 0} (f : A → B) (P : B → Type 0) (xs : List A) (ys : List B)
    → map f xs ≡ ys → All P ys → All (λ x. P (f x)) xs
each_row f P xs ys same all = of_map f P xs (subst (All P) (sym same) all)

module _ {P F C B G L I X : Type 0} {H : Ghosts F X} (told : B → BookTold) (faults : P → PollerFaults)
    (s : Shared (Job P F L I X) F X H) (limit : ℕ) where
  pub new_serve : (rows : List (Row P F C B G L I X H)) (passes : List (ServePass (Job P F L I X) F X H))
      (kits : List (Kit P F C B G))
      → map passes_of rows ≡ passes → map (λ row. row.runner.book) rows ≡ map (λ kit. kit.book) kits
      → All (IsPlain s limit) rows → AreNewPasses s passes
      → All (λ kit. IsBookOf [] (told kit.book)) kits
      → ((v : PassView (Lease F X H)) → IsLawfulPass v → IsNew v → DidNothing v)
      → All (λ row. Serves told faults s row) rows
  new_serve rows passes kits same books plain new empty law k d lt =
      let row = get_or rows k d in
      let own : AreOf s (passes_of row) =
      each_row passes_of (λ p. AreOf s p) rows passes same new.own k d lt in
      let is_new : IsNew (pass_view (passes_of row)) =
      each_row passes_of (λ p. IsNew (pass_view p)) rows passes same new.new k d lt in
      let none : DidNothing (known_by row) = law (known_by row) (lawful_of s (passes_of row) own) is_new in
      let all : All (λ b. IsBookOf [] (told b)) (map (λ (kit : Kit P F C B G). kit.book) kits) =
      all_parts (λ b. IsBookOf [] (told b)) (λ kit. kit.book) kits empty in
      let book : IsBookOf [] (told row.runner.book) = each_row (λ (r : Row P F C B G L I X H). r.runner.book)
      (λ b. IsBookOf [] (told b)) rows (map (λ (kit : Kit P F C B G). kit.book) kits) books all k d lt in
      record {
        own = record { passes = own; shared = (plain k d lt).shared };
        fits =
            subst (λ (h : Option Halted). FitsUntil row.runner.limit (stop_in h) (told_by told row) [])
            (sym (plain k d lt).goes_on)
            (fits_first row.runner.limit
            (told_by told row) none.calls none.draws none.tallied none.timed book);
        halts =
            subst (λ (h : Option Halted).
            HaltsBy (faults row.runner.poller).polls (view_of row.runner.tallied) h)
            (sym (plain k d lt).goes_on) tt;
        events = keeps_first (known_by row) is_new none;
      }

  -- and their beats are kept
  pub new_beats : (clock : C → ClockTold) (rows : List (Row P F C B G L I X H))
      (passes : List (ServePass (Job P F L I X) F X H))
      → map passes_of rows ≡ passes → AreNewPasses s passes
      → ((v : PassView (Lease F X H)) → IsLawfulPass v → IsNew v → DidNothing v)
      → All (λ row. last_of row.beats ≡ None) rows → All KeepsBeats (map (beat_of clock) rows)
  new_beats clock rows passes same new law fresh = all_parts KeepsBeats (beat_of clock) rows (λ k d lt.
      let row = get_or rows k d in
      let own : AreOf s (passes_of row) =
      each_row passes_of (λ p. AreOf s p) rows passes same new.own k d lt in
      let is_new : IsNew (pass_view (passes_of row)) =
      each_row passes_of (λ p. IsNew (pass_view p)) rows passes same new.new k d lt in
      let none : DidNothing (known_by row) = law (known_by row) (lawful_of s (passes_of row) own) is_new in
      kept_first (beat_of clock row) (fresh k d lt) none.timed)

  pub new_limits : (rows : List (Row P F C B G L I X H)) → All (IsPlain s limit) rows
      → All (λ row. row.runner.limit ≡ limit) rows
  new_limits rows plain k d lt = (plain k d lt).limit_is

-- new passes in rows hold each seat once, and have empty hands
module _ {P F C B G L I X : Type 0} {H : Ghosts F X} (s : Shared (Job P F L I X) F X H) where
  pub known_rows : (rows : List (Row P F C B G L I X H)) (passes : List (ServePass (Job P F L I X) F X H))
      → map passes_of rows ≡ passes → map known_by rows ≡ map pass_view passes
  known_rows rows passes same = map_map pass_view passes_of rows ∙ ap (map pass_view) same

  pub new_hands : (rows : List (Row P F C B G L I X H)) (passes : List (ServePass (Job P F L I X) F X H))
      → map passes_of rows ≡ passes → AreNewPasses s passes
      → All (λ row. row.disp.hand ≡ []) rows
  new_hands rows passes same new k d lt =
      (each_row passes_of (λ p. IsNew (pass_view p)) rows passes same new.new k d lt).hand
