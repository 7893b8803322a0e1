-- A connection is counted as finished and handed to the book.
use Rattle.std.proofs.Common.{◌≡◌, ℕ, List, [], ◌∷◌, ◌++◌, sym, refl, ap, ◌∙◌, subst, inl, inr, arith}
use Rattle.std.proofs.Common.{append-nil}
use Rattle.std.specs.Prelude.{Option, Some, None}
use Rattle.turn_cell.specs.declared.view.View.{View}
use Rattle.event_mgr.specs.Manager.{MgrView}
use Rattle.dispatcher.specs.Runs.{CallsOfRuns}
use Rattle.timeout_mgr.specs.declared.view.TimeView.{TimeView}
use Rattle.warp_tally.specs.declared.calls.Counted.{Counted}
use Rattle.warp_tally.specs.declared.calls.Counted.TheVariants.{Yes, No, NoMemory}
use Rattle.warp_tally.specs.declared.calls.TallyCall.TheVariants.{Finish}
use Rattle.warp_tally.specs.declared.calls.TallyEntry.{TallyEntry}
use Rattle.warp_tally.specs.declared.calls.TallyReply.{TallyReply}
use Rattle.warp_passes.specs.TallyCalls.{TallyEntered, TallySpent}
use Rattle.warp_books.specs.Books.{BookTold, FinishedTold, BookHasTaken, IsBookOf}
use Rattle.warp_runner.specs.Acts.{Acts, Did, told_of, nothing}
use Rattle.warp_runner.specs.Deeds.{IsHanding, handed_by, handing, spent}

-- what handing over comes to
abbrev pub HandsOver : View TallyEntry → TimeView → BookTold → View TallyEntry → TimeView
    → BookTold → FinishedTold → Option ℕ → Type 0
HandsOver t s b u r c h stopped =
    (acts : Acts) × ((v : MgrView) → Did (told_of v t s b) acts [] (told_of v u r c))
    × IsHanding h acts stopped

module _ {T : Type 0} {tag : T → List (List ℕ)} (rules : CallsOfRuns tag) (t u : View TallyEntry)
    (s : TimeView) (b c : BookTold) (h : FinishedTold) where
  -- the finish has this reply, and the book was handed so much
  hands : (r : TallyReply) → TallyEntered (record { call = Finish h.opening; reply = r }) t u
      → ((before : List FinishedTold) → IsBookOf before b → IsBookOf (before ++ handed_by r.counted h) c)
      → HandsOver t s b u s c h None
  hands r entered book = (
    handing h r,
    λ v. record {
      made = rules.none v;
      grew = λ f. omega arith;
      fires_none = λ φ. refl;
      all_out = omega arith;
      tallied = entered.own;
      timed = sym (append-nil _);
      book = book;
    },
    inl (r, refl, refl),
  )

  pub hands_counted : (r : TallyReply) → TallyEntered (record { call = Finish h.opening; reply = r }) t u
      → r.counted ≡ Yes
      → ((ds : List FinishedTold) (d : FinishedTold) (x y : BookTold) → IsBookOf ds x
      → BookHasTaken d x y → IsBookOf (ds ++ d ∷ []) y)
      → BookHasTaken h b c → HandsOver t s b u s c h None
  hands_counted r entered did add taken = hands r entered (λ before is.
      subst (λ (k : Counted). IsBookOf (before ++ handed_by k h) c) (sym did) (add before h b c is taken))

  hands_uncounted : (r : TallyReply) → TallyEntered (record { call = Finish h.opening; reply = r }) t u
      → handed_by r.counted h ≡ [] → c ≡ b
      → HandsOver t s b u s c h None
  hands_uncounted r entered none same = hands r entered (λ before is.
      subst (λ (l : List FinishedTold). IsBookOf (before ++ l) c) (sym none)
      (subst (λ (x : BookTold). IsBookOf (before ++ []) x) (sym same)
      (subst (λ (l : List FinishedTold). IsBookOf l b) (sym (append-nil before)) is)))

  pub hands_no : (r : TallyReply) → TallyEntered (record { call = Finish h.opening; reply = r }) t u
      → r.counted ≡ No → c ≡ b → HandsOver t s b u s c h None
  hands_no r entered not same = hands_uncounted r entered (ap (λ (k : Counted). handed_by k h) not) same

  pub hands_no_memory : (r : TallyReply) → TallyEntered (record { call = Finish h.opening; reply = r }) t u
      → r.counted ≡ NoMemory → c ≡ b → HandsOver t s b u s c h None
  hands_no_memory r entered not same =
      hands_uncounted r entered (ap (λ (k : Counted). handed_by k h) not) same

  pub hands_none : TallySpent t u → c ≡ b → HandsOver t s b u s c h (Some spent)
  hands_none stays same = (
    nothing,
    λ v. record {
      made = rules.none v;
      grew = λ f. omega arith;
      fires_none = λ φ. refl;
      all_out = omega arith;
      tallied = stays.own ∙ sym (append-nil _);
      timed = sym (append-nil _);
      book =
          λ before is.
          subst (λ (x : BookTold). IsBookOf (before ++ []) x) (sym same)
          (subst (λ (l : List FinishedTold). IsBookOf l b) (sym (append-nil before)) is);
    },
    inr (refl, refl),
  )
