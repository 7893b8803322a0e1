-- What holds of dispatchers that are taken apart, said of their passes and kits.
use Rattle.std.proofs.Common.{◌≡◌, ℕ, zero, suc, ◌<◌, List, [], ◌∷◌, map, length, get_or, inl, inr, All, sym}
use Rattle.std.proofs.Common.{ap, ◌∙◌, subst, arith}
use Rattle.std.proofs.lemmas.List.Elements.{All-cons, All-nil, All-head, All-tail}
use Rattle.outside.specs.declared.files.Files.{Ghosts}
use Rattle.turn_cell.specs.Weights.{weigh}
use Rattle.level.specs.Leveling.{IsLevel}
use Rattle.std.proofs.lemmas.List.{length-map}
use Rattle.level.specs.ListLaws.{map_map, weigh_map}
use Rattle.event_mgr.specs.Manager.{stripe_view}
use Rattle.poller.specs.Faults.{PollerFaults}
use Rattle.warp_tally.specs.declared.calls.TallyEntry.{TallyEntry}
use Rattle.warp_books.specs.Books.{BookTold}
use Rattle.warp_jobs.specs.declared.job.Job.{Job}
use Rattle.warp_jobs.specs.declared.kit.Kit.{Kit}
use Rattle.warp_passes.specs.declared.shared.Shared.{Shared}
use Rattle.warp_passes.specs.declared.shared.ServePass.{ServePass}
use Rattle.warp_passes.specs.Own.{entries_of}
use Rattle.warp_passes.specs.Passes.{PassView, AreOf, pass_view}
use Rattle.warp_passes.specs.Levels.{ArePassesLevel}
use Rattle.warp_runner.specs.Journal.{Deed, DidOne, JournalFits}
use Rattle.warp_core.specs.declared.row.Row.{Row}
use Rattle.warp_core.specs.declared.served.ServeEnd.{ServeEnd}
use Rattle.warp_core.specs.declared.served.ServeEnd.TheVariants.{Over, PollFault, AcceptFault, Spent}
use Rattle.warp_core.specs.declared.served.ServeEnd.TheVariants.{NoMemory}
use Rattle.warp_tally.specs.Accounts.{accepts, accepts_any, finishes, finishes_any, turns_away}
use Rattle.warp_core.specs.Ends.{EndsSo, HasCause}
use Rattle.warp_core.specs.Events.{KeepsEvents}
use Rattle.warp_core.specs.Stops.{stops}
use Rattle.warp_core.specs.Journals.{AreExplained, SomeDid}
use Rattle.warp_core.specs.Making.{HasParts}
use Rattle.warp_core.specs.Rows.{OneDid, Serves, known_by, passes_of, told_by}
use Rattle.warp_core.proofs.Caused.{cause_on}
use Rattle.warp_core.proofs.RowLists.{head_or, tail_of}

module _ {A B L : Type 0} (known : B → PassView L) (part : A → B) where
  -- passes are level as what holds them is
  pub level_parts : (xs : List A) → ArePassesLevel (λ x. known (part x)) xs
      → ArePassesLevel known (map part xs)
  level_parts xs level = record {
    mgr = record {
      stripes =
          λ s low.
          subst IsLevel (map_map (λ y. stripe_view s (known y).mgr) part xs) (level.mgr.stripes s low);
      numbers = subst IsLevel (map_map (λ y. (known y).mgr.numbers) part xs) level.mgr.numbers;
    };
    queue = subst IsLevel (map_map (λ y. (known y).queue) part xs) level.queue;
    cache = subst IsLevel (map_map (λ y. (known y).cache) part xs) level.cache;
    tally = subst IsLevel (map_map (λ y. (known y).tally) part xs) level.tally;
  }

  tally_parts : (f : TallyEntry → ℕ) (xs : List A)
      → weigh (λ y. weigh f (entries_of (known y).tally)) (map part xs)
      ≡ weigh (λ x. weigh f (entries_of (known (part x)).tally)) xs
  tally_parts f xs = weigh_map part (λ y. weigh f (entries_of (known y).tally)) xs

  -- and the end rests on the same
  pub end_parts : (limit : ℕ) (end : ServeEnd) (xs : List A) (m n : ℕ) → m ≡ n
      → EndsSo (λ x. known (part x)) limit end xs n → EndsSo known limit end (map part xs) m
  end_parts limit (Over counts) xs m n same so = record {
    limit_is = so.limit_is;
    accepted =
        let a = so.accepted in
        let b = tally_parts accepts_any xs in
        let c = tally_parts turns_away xs in
        omega arith;
    turned = so.turned ∙ sym (tally_parts turns_away xs);
    finished = tally_parts finishes_any xs ∙ (so.finished ∙ sym (tally_parts accepts_any xs));
    each = λ o. tally_parts (finishes o) xs ∙ (so.each o ∙ sym (tally_parts (accepts o) xs));
  }
  end_parts limit PollFault xs m n same so = omega arith
  end_parts limit AcceptFault xs m n same so = let a = tally_parts (stops 9) xs in omega arith
  end_parts limit Spent xs m n same so = tt
  end_parts limit NoMemory xs m n same so = let a = tally_parts (stops 6) xs in omega arith

-- what is told of each of two lists is the same, where the lists say the same of it
pub weigh_told : {A B C : Type 0} (f : C → ℕ) (g : A → C) (h : B → C) (xs : List A) (ys : List B)
    → map g xs ≡ map h ys → weigh (λ x. f (g x)) xs ≡ weigh (λ y. f (h y)) ys
weigh_told f g h xs ys same = sym (weigh_map g f xs) ∙ (ap (weigh f) same ∙ weigh_map h f ys)

-- what holds of the parts of each
pub all_parts : {A B : Type 0} (P : B → Type 0) (part : A → B) (xs : List A)
    → All (λ x. P (part x)) xs → All P (map part xs)
all_parts P part [] all = All-nil P
all_parts P part (x ∷ xs) all =
    All-cons P (part x) (map part xs) (All-head (λ y. P (part y)) x xs all)
    (all_parts P part xs (All-tail (λ y. P (part y)) x xs all))

module _ {P F C B G L I X : Type 0} {H : Ghosts F X} (told : B → BookTold) (faults : P → PollerFaults)
    (s : Shared (Job P F L I X) F X H) (limit : ℕ) where
  explained_by : (rows : List (Row P F C B G L I X H)) (kits : List (Kit P F C B G))
      → map (λ kit. kit.book) kits ≡ map (λ row. row.runner.book) rows
      → All (λ row. Serves told faults s row) rows → All (λ row. row.runner.limit ≡ limit) rows
      → AreExplained told limit (map passes_of rows) kits
  explained_by [] [] same serve limits = tt
  explained_by [] (kit ∷ kits) same serve limits =
      let n : length (map (λ (k : Kit P F C B G). k.book) (kit ∷ kits)) ≡ 0 = ap length same in
      absurd (omega arith)
  explained_by (row ∷ rows) [] same serve limits =
      let n : 0 ≡ length (map (λ (r : Row P F C B G L I X H). r.runner.book) (row ∷ rows)) = ap length same in
      absurd (omega arith)
  explained_by (row ∷ rows) (kit ∷ kits) same serve limits =
      let serves = All-head (λ z. Serves told faults s z) row rows serve in
      let book : kit.book ≡ row.runner.book = ap (head_or kit.book) same in
      let limit_is = All-head (λ (z : Row P F C B G L I X H). z.runner.limit ≡ limit) row rows limits in
      let one : JournalFits limit (told_by told row) [] =
      subst (λ (n : ℕ). JournalFits n (told_by told row) []) limit_is serves.fits.0 in (
        subst (λ (b : B). JournalFits limit (record (told_by told row) { book = told b }) []) (sym book) one,
        explained_by rows kits (ap tail_of same) (All-tail (λ z. Serves told faults s z) row rows serve)
            (All-tail (λ (z : Row P F C B G L I X H). z.runner.limit ≡ limit) row rows limits),
      )

  -- what one of them did stands at its place
  did_at : (Is : Deed → Type 0) (rows : List (Row P F C B G L I X H)) (kits : List (Kit P F C B G))
      → map (λ kit. kit.book) kits ≡ map (λ row. row.runner.book) rows
      → (k : ℕ) (one : Row P F C B G L I X H) → k < length rows → get_or rows k one ≡ one
      → DidOne limit Is (told_by told one) → SomeDid told limit (map passes_of rows) kits Is
  did_at Is [] kits same k one lt at did = absurd (omega arith)
  did_at Is (row ∷ rows) [] same k one lt at did =
      let n : 0 ≡ length (map (λ (r : Row P F C B G L I X H). r.runner.book) (row ∷ rows)) = ap length same in
      absurd (omega arith)
  did_at Is (row ∷ rows) (kit ∷ kits) same zero one lt at did =
      let book : kit.book ≡ row.runner.book = ap (head_or kit.book) same in
      inl (subst (λ (b : B). DidOne limit Is (record (told_by told row) { book = told b })) (sym book)
      (subst (λ (r : Row P F C B G L I X H). DidOne limit Is (told_by told r)) (sym at) did))
  did_at Is (row ∷ rows) (kit ∷ kits) same (suc k) one lt at did =
      inr (did_at Is rows kits (ap tail_of same) k one (omega arith) at did)

  pub caused_apart : (end : ServeEnd) (rows : List (Row P F C B G L I X H))
      (passes : List (ServePass (Job P F L I X) F X H)) (kits : List (Kit P F C B G))
      → HasParts rows passes kits
      → HasCause end (OneDid told limit rows) → HasCause end (SomeDid told limit passes kits)
  caused_apart end rows passes kits parts cause =
      subst (λ (ps : List (ServePass (Job P F L I X) F X H)). HasCause end (SomeDid told limit ps kits))
      (sym parts.passes_are)
      (cause_on end (OneDid told limit rows) (SomeDid told limit (map passes_of rows) kits)
      (λ Is any. did_at Is rows kits parts.books any.0 any.1 any.2 any.3 any.4) cause)

  pub explained_apart : (rows : List (Row P F C B G L I X H))
      (passes : List (ServePass (Job P F L I X) F X H)) (kits : List (Kit P F C B G))
      → HasParts rows passes kits
      → All (λ row. Serves told faults s row) rows → All (λ row. row.runner.limit ≡ limit) rows
      → AreExplained told limit passes kits
  explained_apart rows passes kits parts serve limits =
      subst (λ (ps : List (ServePass (Job P F L I X) F X H)). AreExplained told limit ps kits)
      (sym parts.passes_are)
      (explained_by rows kits parts.books serve limits)

  pub served_own : (rows : List (Row P F C B G L I X H))
      (passes : List (ServePass (Job P F L I X) F X H)) (kits : List (Kit P F C B G))
      → HasParts rows passes kits
      → All (λ row. Serves told faults s row) rows → All (λ pass. AreOf s pass) passes
  served_own rows passes kits parts serve = subst (All (λ pass. AreOf s pass)) (sym parts.passes_are)
      (all_parts (λ pass. AreOf s pass) passes_of rows (λ k d lt. (serve k d lt).own.passes))

  pub served_events : (rows : List (Row P F C B G L I X H))
      (passes : List (ServePass (Job P F L I X) F X H)) (kits : List (Kit P F C B G))
      → HasParts rows passes kits
      → All (λ row. Serves told faults s row) rows → All (λ pass. KeepsEvents (pass_view pass)) passes
  served_events rows passes kits parts serve =
      subst (All (λ pass. KeepsEvents (pass_view pass))) (sym parts.passes_are)
      (all_parts (λ pass. KeepsEvents (pass_view pass)) passes_of rows (λ k d lt. (serve k d lt).events))

  pub served_level : (rows : List (Row P F C B G L I X H))
      (passes : List (ServePass (Job P F L I X) F X H)) (kits : List (Kit P F C B G))
      → HasParts rows passes kits
      → ArePassesLevel known_by rows → ArePassesLevel pass_view passes
  served_level rows passes kits parts level =
      subst (ArePassesLevel pass_view) (sym parts.passes_are) (level_parts pass_view passes_of rows level)

  pub served_ends : (end : ServeEnd) (rows : List (Row P F C B G L I X H))
      (passes : List (ServePass (Job P F L I X) F X H)) (kits : List (Kit P F C B G))
      → HasParts rows passes kits
      → EndsSo known_by limit end rows (weigh (λ row. (faults row.runner.poller).polls) rows)
      → EndsSo pass_view limit end passes (weigh (λ kit. (faults kit.poller).polls) kits)
  served_ends end rows passes kits parts ends =
      let m = weigh (λ (kit : Kit P F C B G). (faults kit.poller).polls) kits in
      let n = weigh (λ (row : Row P F C B G L I X H). (faults row.runner.poller).polls) rows in
      subst (λ (ps : List (ServePass (Job P F L I X) F X H)). EndsSo pass_view limit end ps m)
      (sym parts.passes_are)
      (end_parts pass_view passes_of limit end rows m n (weigh_told (λ (p : P). (faults p).polls)
      (λ kit. kit.poller) (λ row. row.runner.poller) kits rows parts.pollers) ends)

  pub served_count : (rows : List (Row P F C B G L I X H))
      (passes : List (ServePass (Job P F L I X) F X H)) (kits : List (Kit P F C B G))
      → HasParts rows passes kits → length kits ≡ length rows
  served_count rows passes kits parts =
      sym (length-map kits (λ (kit : Kit P F C B G). kit.book))
      ∙ (ap length parts.books ∙ length-map rows (λ (row : Row P F C B G L I X H). row.runner.book))
