-- Dispatchers serve on where their passes were brought level.
use Rattle.std.proofs.Common.{◌≡◌, ℕ, List, [], ◌∷◌, map, get_or, All, sym, ap, ◌∙◌, subst}
use Rattle.std.proofs.Common.{arith}
use Rattle.std.proofs.lemmas.List.Elements.{All-cons, All-nil, All-head, All-tail}
use Rattle.std.specs.Prelude.{Option, Some, None}
use Rattle.outside.specs.declared.files.Files.{Ghosts}
use Rattle.outside.specs.Moments.{ClockTold}
use Rattle.reg_keys.specs.declared.entry.Entry.{Entry}
use Rattle.turn_cell.specs.declared.view.View.{View}
use Rattle.turn_cell.specs.Calls.{view_of}
use Rattle.turn_cell.specs.Weights.{weigh}
use Rattle.timeout_mgr.specs.Passes.{calls_of}
use Rattle.event_mgr.specs.Manager.{own_weight, number_weight}
use Rattle.event_mgr.specs.declared.numbers.NumbersEntry.{NumbersEntry}
use Rattle.level.specs.ListLaws.{map_map}
use Rattle.poller.specs.Faults.{PollerFaults}
use Rattle.dispatcher.specs.Stripes.{Each}
use Rattle.dispatcher.specs.Firings.{Jobs}
use Rattle.warp_tally.specs.declared.calls.TallyEntry.{TallyEntry}
use Rattle.warp_books.specs.Books.{BookTold, IsBookOf}
use Rattle.warp_jobs.specs.declared.job.Job.{Job}
use Rattle.warp_passes.specs.declared.shared.Shared.{Shared}
use Rattle.warp_passes.specs.Own.{entries_of}
use Rattle.warp_passes.specs.Passes.{IsLawfulPass, lawful_of}
use Rattle.warp_passes.specs.Levels.{OwnsTheSame}
use Rattle.warp_runner.specs.Acts.{ServeTold, fired_weight, is_all_out}
use Rattle.warp_runner.specs.Journal.{Deed, FitsUntil, all_of}
use Rattle.warp_core.specs.declared.row.Row.{Row}
use Rattle.warp_core.specs.declared.row.Halted.{Halted}
use Rattle.warp_core.specs.declared.row.Halted.TheVariants as Halts
use Rattle.warp_core.specs.Rows.{Beside, IsRowOf, HaltsBy, Serves, beside_of, known_by, passes_of, stop_in}
use Rattle.warp_core.specs.Rows.{beat_of, told_by}
use Rattle.warp_core.specs.Stops.{stops}
use Rattle.warp_core.proofs.Keeping.{keeps_levelled}
use Rattle.warp_core.proofs.RowLists.{head_or, tail_of}

-- a journal explains as much where what was done weighs the same and is the same
pub fits_same : (limit : ℕ) (stop : Option ℕ) (u w : ServeTold) (jobs : Jobs)
    → ((f : Entry → ℕ) → own_weight f w.mgr ≡ own_weight f u.mgr)
    → ((f : NumbersEntry → ℕ) → number_weight f w.mgr ≡ number_weight f u.mgr)
    → w.tallied ≡ u.tallied → w.timed ≡ u.timed → w.book ≡ u.book → FitsUntil limit stop u jobs
    → FitsUntil limit stop w jobs
fits_same limit stop u w jobs calls draws tallied timed book fits = (
  record {
    deeds = fits.0.deeds;
    explains = record {
      calls = λ f of. calls f ∙ fits.0.explains.calls f of;
      fired = λ φ. calls (fired_weight φ) ∙ fits.0.explains.fired φ;
      all_out = draws (λ e. is_all_out e.call e.reply) ∙ fits.0.explains.all_out;
      tallied = tallied ∙ fits.0.explains.tallied;
      timed = timed ∙ fits.0.explains.timed;
      book =
          subst (λ (b : BookTold). IsBookOf (all_of (λ (d : Deed). d.acts.handed) fits.0.deeds) b)
          (sym book) fits.0.explains.book;
      lawful = fits.0.explains.lawful;
    };
  },
  fits.1,
)

-- nothing was done
pub fits_first : (limit : ℕ) (w : ServeTold) → ((f : Entry → ℕ) → own_weight f w.mgr ≡ 0)
    → ((f : NumbersEntry → ℕ) → number_weight f w.mgr ≡ 0)
    → w.tallied ≡ [] → w.timed ≡ [] → IsBookOf [] w.book → FitsUntil limit None w []
fits_first limit w calls draws tallied timed book = (
  record {
    deeds = [];
    explains = record {
      calls = λ f of. calls f;
      fired = λ φ. calls (fired_weight φ);
      all_out = draws (λ e. is_all_out e.call e.reply);
      tallied = tallied;
      timed = timed;
      book = book;
      lawful = tt;
    };
  },
  tt,
)

halts_cases : (p q : ℕ) (t u : View TallyEntry) (h : Option Halted) → q ≡ p → entries_of u ≡ entries_of t
    → HaltsBy p t h → HaltsBy q u h
halts_cases p q t u None polls tally halts = tt
halts_cases p q t u (Some Halts.PollFault) polls tally halts = omega arith
halts_cases p q t u (Some (Halts.WithCode code)) polls tally halts =
    let e = ap (weigh (stops code)) tally in
    omega arith
halts_cases p q t u (Some Halts.Spent) polls tally halts = tt

halts_same : (p q : ℕ) (t u : View TallyEntry) (h k : Option Halted) → q ≡ p → entries_of u ≡ entries_of t
    → k ≡ h → HaltsBy p t h → HaltsBy q u k
halts_same p q t u h k polls tally same halts =
    subst (λ z. HaltsBy q u z) (sym same) (halts_cases p q t u h polls tally halts)

module _ {P F C B G L I X : Type 0} {H : Ghosts F X} (told : B → BookTold) (faults : P → PollerFaults)
    (clock : C → ClockTold) (s : Shared (Job P F L I X) F X H) where
  levelled_one : (x y : Row P F C B G L I X H) → Serves told faults s x → IsRowOf s y
      → OwnsTheSame (known_by x) (known_by y)
      → beside_of told faults clock y ≡ beside_of told faults clock x → Serves told faults s y
  levelled_one x y serves own owns beside =
      let timed : calls_of (known_by y).times ≡ calls_of (known_by x).times =
      ap (λ (z : Beside). calls_of z.passes.times) beside in
      let book : told y.runner.book ≡ told x.runner.book = ap (λ (z : Beside). z.book) beside in
      let limit : y.runner.limit ≡ x.runner.limit = ap (λ (z : Beside). z.limit) beside in record {
        own = own;
        fits = subst (λ (n : ℕ). FitsUntil n (stop_in y.halted) (told_by told y) []) (sym limit)
            (subst (λ (h : Option Halted). FitsUntil x.runner.limit (stop_in h) (told_by told y) [])
            (sym (ap (λ (z : Beside). z.halted) beside))
            (fits_same x.runner.limit (stop_in x.halted) (told_by told x) (told_by told y)
            [] owns.calls owns.draws owns.tallied timed book serves.fits));
        halts =
            halts_same (faults x.runner.poller).polls (faults y.runner.poller).polls
            (view_of x.runner.tallied) (view_of y.runner.tallied) x.halted y.halted
            (ap (λ (z : Beside). z.polls) beside) owns.tallied
            (ap (λ (z : Beside). z.halted) beside) serves.halts;
        events =
            keeps_levelled (known_by x) (known_by y) owns (ap (λ (z : Beside). z.passes.hand) beside)
            serves.events;
      }

  pub levelled : (xs ys : List (Row P F C B G L I X H)) → All (λ x. Serves told faults s x) xs
      → All (λ y. IsRowOf s y) ys
      → Each OwnsTheSame (map known_by xs) (map known_by ys)
      → map (beside_of told faults clock) ys ≡ map (beside_of told faults clock) xs → All (λ y. Serves told faults s y) ys
  levelled [] [] all own owns same = All-nil (λ y. Serves told faults s y)
  levelled [] (y ∷ ys) all own owns same = absurd owns
  levelled (x ∷ xs) [] all own owns same = absurd owns
  levelled (x ∷ xs) (y ∷ ys) all own owns same = All-cons (λ z. Serves told faults s z) y ys
      (levelled_one x y (All-head (λ z. Serves told faults s z) x xs all)
      (All-head (λ z. IsRowOf s z) y ys own) owns.0 (ap (head_or (beside_of told faults clock x)) same))
      (levelled xs ys (All-tail (λ z. Serves told faults s z) x xs all)
      (All-tail (λ z. IsRowOf s z) y ys own) owns.1 (ap tail_of same))

  pub limits_same : (xs ys : List (Row P F C B G L I X H))
      → map (beside_of told faults clock) ys ≡ map (beside_of told faults clock) xs
      → map (λ row. row.runner.limit) ys ≡ map (λ row. row.runner.limit) xs
  limits_same xs ys same = map_map (λ (z : Beside). z.limit) (beside_of told faults clock) ys
      ∙ (ap (map (λ (z : Beside). z.limit)) same
      ∙ sym (map_map (λ (z : Beside). z.limit) (beside_of told faults clock) xs))

  pub beats_same : (xs ys : List (Row P F C B G L I X H))
      → map (beside_of told faults clock) ys ≡ map (beside_of told faults clock) xs
      → map (beat_of clock) ys ≡ map (beat_of clock) xs
  beats_same xs ys same = map_map (λ (z : Beside). z.beats) (beside_of told faults clock) ys
      ∙ (ap (map (λ (z : Beside). z.beats)) same
      ∙ sym (map_map (λ (z : Beside). z.beats) (beside_of told faults clock) xs))

module _ {P F C B G L I X : Type 0} {H : Ghosts F X} (told : B → BookTold) (faults : P → PollerFaults)
    (s : Shared (Job P F L I X) F X H) where
  pub rows_own : (xs : List (Row P F C B G L I X H)) → All (λ x. Serves told faults s x) xs
      → All (λ x. IsRowOf s x) xs
  rows_own xs all k d lt = (all k d lt).own

module _ {P F C B G L I X : Type 0} {H : Ghosts F X} (s : Shared (Job P F L I X) F X H) where
  pub rows_lawful : (xs : List (Row P F C B G L I X H)) → All (λ x. IsRowOf s x) xs
      → All (λ x. IsLawfulPass (known_by x)) xs
  rows_lawful xs own k d lt = lawful_of s (passes_of (get_or xs k d)) (own k d lt).passes
