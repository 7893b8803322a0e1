-- What adds up, once all passes are level: what ended was registered, and each opening was made once.
use Rattle.std.proofs.Common.{◌≡◌, ℕ, zero, suc, ◌+◌, ◌≤◌, ◌<◌, ◌^◌, List, [], ◌∷◌, ◌++◌, length, All, Bool, true}
use Rattle.std.proofs.Common.{false, ⊎_elim, inl, inr, refl, sym, ap, ◌∙◌, subst, arith}
use Rattle.std.specs.Prelude.{IfSome, ◌==◌, ◌&&◌}
use Rattle.std.proofs.lemmas.Bool.{eqb-true, eqb-false, eq-eqb, ne_eqb, cases_Bool}
use Rattle.std.proofs.lemmas.List.Elements.{All-nil}
use Rattle.reg_keys.specs.declared.opening.Opening.{Opening}
use Rattle.reg_keys.specs.declared.entry.LoadKind.{LoadKind}
use Rattle.reg_keys.specs.declared.entry.Entry.{Entry}
use Rattle.reg_keys.specs.declared.entry.Entry.TheVariants as Entries
use Rattle.reg_keys.specs.declared.entry.OpenOutcome.TheVariants as Opens
use Rattle.reg_keys.specs.declared.registration.Key.{Key}
use Rattle.reg_keys.specs.Tests.{one_if, same, total}
use Rattle.reg_keys.specs.Promises.{weight}
use Rattle.reg_keys.specs.Accounts.{EndsWhatWasRegistered, opens}
use Rattle.reg_keys.specs.AllStripes.{AreLegal, HappensOnce, sum_below}
use Rattle.reg_keys.specs.Replies.{IsLegal}
use Rattle.turn_cell.specs.declared.view.View.{View}
use Rattle.turn_cell.specs.Weights.{weigh}
use Rattle.turn_cell.specs.ListLaws.{weigh_same}
use Rattle.event_mgr.specs.Stripes.{past_in}
use Rattle.event_mgr.specs.Manager.{own_weight, seen_in}
use Rattle.warp_tally.specs.declared.calls.TallyEntry.{TallyEntry}
use Rattle.warp_tally.specs.Tallies.{IsTallyPast}
use Rattle.warp_tally.specs.Accounts.{FollowsAccepts, accepts, accepts_any, finishes, finishes_any}
use Rattle.warp_books.specs.Books.{BookTold, FinishedTold}
use Rattle.warp_passes.specs.Passes.{PassView, IsLawfulPass}
use Rattle.warp_passes.specs.Levels.{ArePassesLevel, PassesAddUp}
use Rattle.warp_core.specs.declared.served.Counts.{Counts}
use Rattle.warp_core.specs.Ends.{IsOver, tally_weight}
use Rattle.whole_runs.specs.Registrations.{CountsFor, MayLackOne, registers, taken}
use Rattle.whole_runs.proofs.Flows.{AllCount, AreExplainedBy, Handed, accepted, accepts_of, ended, is_handed}
use Rattle.whole_runs.proofs.Flows.{of_job, opens_of}
use Rattle.whole_runs.specs.Accounts.{AreCounted, AreTaken, BooksAddUp, IsAllClean, IsCounted, IsUncapped}
use Rattle.whole_runs.specs.Accounts.{OpeningsAddUp, OverAddsUp, RunsAddUp, WaitsAddUp, any, whole}
use Rattle.whole_runs.proofs.Chains.{above, registered, registered_all, sum_le}
use Rattle.whole_runs.proofs.AllFlows.{AllFlows, AllOf, all_flows, own_end, own_le, own_none}
use Rattle.whole_runs.proofs.Openings.{same_self, same_turned}
use Rattle.whole_runs.proofs.PassFlows.{own_same}

-- what laws below say of every legal history, and of every past of a tally
abbrev pub EndsRegistered : Type 0
EndsRegistered = (s : ℕ) (c : ℕ) (past : List Entry) → IsLegal s c past → EndsWhatWasRegistered past

abbrev pub StripesHappenOnce : Type 0
StripesHappenOnce =
    (firsts : ℕ → ℕ) (pasts : ℕ → List Entry) → AreLegal firsts pasts → HappensOnce firsts pasts

abbrev pub FinishesFollow : Type 0
FinishesFollow = (past : List TallyEntry) → IsTallyPast past → FollowsAccepts past

-- ---- the same opening

opens_same : (o : Opening) (e : Entry) → opens_of (same o) e ≡ opens o e
opens_same o (Entries.Open fd (Opens.Opened p)) = ap one_if (same_turned o p)
opens_same o _ = refl

-- ---- each that was handed over is among all

module _ (all : List Handed) where
  abbrev IsThere : Handed → Type 0
  IsThere h = 1 ≤ total (is_handed (same h.0.opening) h.1) all

  there_in : (hs : List Handed) → ((f : Handed → ℕ) → total f hs ≤ total f all) → AllOf IsThere hs
  there_in [] le = tt
  there_in (h ∷ hs) le = (
    (let a = le (is_handed (same h.0.opening) h.1) in
        let b : is_handed (same h.0.opening) h.1 h ≡ 1 =
        ap (λ t. one_if (t && (h.1 == h.1))) (same_self h.0.opening) ∙ ap one_if (eq-eqb h.1 h.1 refl) in
        omega arith),
    there_in hs (λ f. let a = le f in omega arith),
  )

counted_of : {Q : Handed → Type 0} (many : Opening → ℕ) (hs : List Handed) → AllOf Q hs
    → ((h : Handed) → Q h → many h.0.opening ≡ h.1) → AllCount hs
    → AllOf (λ (h : Handed). CountsFor h.0.end h.0.waits (many h.0.opening)) hs
counted_of many [] a is count = tt
counted_of many (h ∷ hs) a is count =
    (subst (CountsFor h.0.end h.0.waits) (sym (is h a.0)) count.0, counted_of many hs a.1 is count.1)

-- ---- sums of waits, and of how often each was registered

waits_least : (hs : List Handed) → AllCount hs
    → total (λ (h : Handed). h.0.waits) hs + total (λ (h : Handed). own_end h.0.end) hs
    ≤ total (λ (h : Handed). h.1) hs
waits_least [] count = omega arith
waits_least (h ∷ hs) count = let r = waits_least hs count.1 in ⊎_elim
    (λ e. let o =
    own_le h.0.end in least_one h.1 h.0.waits (own_end h.0.end) (total (λ (k : Handed). k.0.waits) hs)
    (total (λ (k : Handed). own_end k.0.end) hs) (total (λ (k : Handed). k.1) hs) e o r)
    (λ p. least_none h.1 h.0.waits (own_end h.0.end)
    (total (λ (k : Handed). k.0.waits) hs) (total (λ (k : Handed). own_end k.0.end) hs)
    (total (λ (k : Handed). k.1) hs) p.1 (own_none h.0.end p.0) r)
    count.0
  where
    least_one : (n w o ws os ns : ℕ) → n ≡ w + 1 → o ≤ 1 → ws + os ≤ ns → w + ws + (o + os) ≤ n + ns
    least_one n w o ws os ns e l r = omega arith

    least_none : (n w o ws os ns : ℕ) → n ≡ w → o ≡ 0 → ws + os ≤ ns → w + ws + (o + os) ≤ n + ns
    least_none n w o ws os ns e l r = omega arith

waits_most : (hs : List Handed) → AllCount hs
    → total (λ (h : Handed). h.1) hs ≤ total (λ (h : Handed). h.0.waits) hs + length hs
waits_most [] count = omega arith
waits_most (h ∷ hs) count =
    let r = waits_most hs count.1 in
    ⊎_elim (λ e. omega arith) (λ p. let e = p.1 in omega arith) count.0

waits_clean : (hs : List Handed) → AllCount hs → AllOf (λ (h : Handed). MayLackOne h.0.end → ⊥) hs
    → total (λ (h : Handed). h.1) hs ≡ total (λ (h : Handed). h.0.waits) hs + length hs
waits_clean [] count clean = omega arith
waits_clean (h ∷ hs) count clean =
    let r = waits_clean hs count.1 clean.1 in
    ⊎_elim (λ e. omega arith) (λ p. absurd (clean.0 p.0)) count.0

-- ---- the totals

module _ {A L : Type 0} (known : A → PassView L) (limit : ℕ) (x : A) (ys : List A) (books : List BookTold)
    (ends : EndsRegistered) (once : StripesHappenOnce) (follow : FinishesFollow) (up : PassesAddUp known x ys)
    (flows : AllFlows known limit (x ∷ ys) books) where
  abbrev xs : List A
  xs = x ∷ ys

  abbrev past : ℕ → List Entry
  past s = past_in (seen_in s (known x).mgr)

  -- what ended was accepted
  ended_le : (these : Opening → Bool) (k : ℕ)
      → whole known (ended these k) xs ≤ whole known (accepted these k) xs
  ended_le these k =
      let a = up.mgr.entries (ended these k) in
      let b = up.mgr.entries (accepted these k) in
      let c = sum_le (λ s. weight (ended these k) (past s)) (λ s. weight (accepted these k) (past s)) 32
      (λ s lt. ends s 1 (past s) (up.mgr.legal s lt) (λ key o kind. of_job these k kind)) in
      omega arith

  opens_le : (o : Opening) → whole known (opens o) xs ≤ 1
  opens_le o =
      let a = up.mgr.entries (opens o) in
      let b = (once (λ s. 1) past up.mgr.legal).openings o in
      omega arith

  opens_are : (o : Opening) → whole known (opens_of (same o)) xs ≡ whole known (opens o) xs
  opens_are o =
      weigh_same (λ y. own_weight (opens_of (same o)) (known y).mgr) (λ y. own_weight (opens o) (known y).mgr)
      xs (λ y. own_same (opens_of (same o)) (opens o) (known y).mgr (opens_same o))

  accepts_le : (o : Opening) → tally_weight known (accepts o) xs ≤ whole known (opens o) xs
  accepts_le o =
      let a = flows.openings (same o) in
      let b = opens_are o in omega arith

  -- how many there were behind each number of registrations: of none, those that were counted as accepted
  many_at : (Opening → Bool) → ℕ → ℕ
  many_at these zero = tally_weight known (accepts_of these) xs
  many_at these (suc k) = whole known (accepted these k) xs

  falls : (these : Opening → Bool) (c : ℕ)
      → many_at these (suc c) + total (is_handed these c) flows.handed ≤ many_at these c
  unfolding many_at
  falls these zero = flows.first these
  falls these (suc k) =
      let a = flows.next these k in
      let b = ended_le these k in omega arith

  registered_is : (h : Handed) → IsThere flows.handed h → whole known (registers (same h.0.opening)) xs ≡ h.1
  unfolding many_at
  registered_is h there =
      let these = same h.0.opening in
      let m = flows.most + h.1 in
      let begins : many_at these 0 ≤ 1 = (let a = accepts_le h.0.opening in
      let b = opens_le h.0.opening in
      omega arith) in
      let a = registered (many_at these) (λ c. total (is_handed these c) flows.handed)
      (falls these) begins h.1 m there (omega arith) in
      let b = flows.numbers these m (omega arith) in omega arith

  are_counted : AreCounted known xs books
  are_counted = flows.kept (IsCounted known xs)
      (counted_of (λ o. whole known (registers (same o)) xs) flows.handed
      (there_in flows.handed flows.handed (λ f. omega arith)) registered_is flows.count)

  module _ (counts : Counts) (over : IsOver known limit counts xs) where
    -- all that were accepted are as many as the numbers of registrations together
    registered_together : whole known (registers any) xs ≡ total (λ (h : Handed). h.1) flows.handed
    unfolding many_at
    registered_together =
        let num : Handed → ℕ = λ h. h.1 in
        let m = flows.most + above num flows.handed in
        let begins : many_at any 0 ≡ length flows.handed = sym over.finished ∙ sym flows.many in
        let a = registered_all num flows.handed (many_at any) (falls any) begins m (omega arith) in
        let b = flows.numbers any m (omega arith) in omega arith

    waits_add_up : All IsUncapped books → WaitsAddUp known xs books
    waits_add_up small =
        let w = flows.waits small in
        let r = registered_together in
        let m = flows.many in record {
          least =
              let a = waits_least flows.handed flows.count in
              let o = flows.own in omega arith;
          most = let a = waits_most flows.handed flows.count in omega arith;
          clean = λ clean. let a = waits_clean flows.handed flows.count (flows.clean clean) in omega arith;
        }

  openings_add_up : OpeningsAddUp known xs
  openings_add_up = record {
    finished =
        λ o.
        let a = up.tallied (finishes o) in
        let b = up.tallied (accepts o) in
        let c = (follow _ up.right).each o in
        omega arith;
    accepted = accepts_le;
    opened = opens_le;
    turned = flows.links;
  }

  finished_once : (o : Opening) → tally_weight known (finishes o) xs ≤ 1
  finished_once o =
      let a = openings_add_up.finished o in
      let b = accepts_le o in
      let c = opens_le o in omega arith

  books_add_up : BooksAddUp known limit xs books
  books_add_up = record {
    counted = flows.lists;
    own = flows.took;
    each = flows.each;
    once = λ o.
        let a = flows.each o in
        let b = finished_once o in omega arith;
  }

  pub runs_add_up : RunsAddUp known limit xs books
  runs_add_up = record { each = are_counted; openings = openings_add_up; taken_by = books_add_up }

  pub over_adds_up : (counts : Counts) → limit < 2 ^ 64 → IsOver known limit counts xs
      → OverAddsUp known limit counts xs books
  over_adds_up counts fits over = record {
    limit_is = over.limit_is;
    accepted =
        let a = over.accepted in
        let b = over.turned in
        let c = over.finished in omega arith;
    turned =
        let a = over.turned in
        let b = flows.links in omega arith;
    each_finished = over.each;
    ends =
        let a = over.limit_is in
        let b = over.accepted in
        let c = over.turned in
        let d = over.finished in
        let e = flows.many in
        let f = flows.kinds (omega arith) in omega arith;
    waits = waits_add_up counts over;
  }

-- no passes, and no books
module _ {A L : Type 0} (known : A → PassView L) where
  none_counted : AreCounted known [] []
  none_counted = All-nil (λ (b : BookTold). IfSome b.kept (λ ds. All (λ d. IsCounted known [] d) ds))

  pub no_runs_add_up : (limit : ℕ) (books : List BookTold) (lists : List (List FinishedTold))
      → AreTaken known limit [] books lists → RunsAddUp known limit [] books
  no_runs_add_up limit [] [] taken_by = record {
    each = none_counted;
    openings = record {
      finished = λ o. omega arith;
      accepted = λ o. omega arith;
      opened = λ o. omega arith;
      turned = omega arith;
    };
    taken_by = record { counted = []; own = tt; each = λ o. refl; once = λ o. omega arith };
  }
  no_runs_add_up limit [] (ds ∷ lists) taken_by = absurd taken_by
  no_runs_add_up limit (b ∷ books) [] taken_by = absurd taken_by
  no_runs_add_up limit (b ∷ books) (ds ∷ lists) taken_by = absurd taken_by

  pub none_over : (limit : ℕ) (counts : Counts) (books : List BookTold) (lists : List (List FinishedTold))
      → AreTaken known limit [] books lists
      → IsOver known limit counts [] → OverAddsUp known limit counts [] books
  none_over limit counts [] [] taken_by over = record {
    limit_is = over.limit_is;
    accepted =
        let a = over.accepted in
        let b = over.turned in omega arith;
    turned = let b = over.turned in omega arith;
    each_finished = over.each;
    ends =
        let a = over.limit_is in
        let b = over.accepted in
        let c = over.turned in omega arith;
    waits = λ small. record { least = omega arith; most = omega arith; clean = λ clean. omega arith };
  }
  none_over limit counts [] (ds ∷ lists) taken_by over = absurd taken_by
  none_over limit counts (b ∷ books) [] taken_by over = absurd taken_by
  none_over limit counts (b ∷ books) (ds ∷ lists) taken_by over = absurd taken_by

-- passes that are level, with books, of which journals explain what they say
module _ {A L : Type 0} (known : A → PassView L) where
  -- what passes that are level did together adds up
  abbrev pub AddUpAll : Type 0
  AddUpAll =
      (x : A) (ys : List A) → All (λ y. IsLawfulPass (known y)) (x ∷ ys) → ArePassesLevel known (x ∷ ys)
      → PassesAddUp known x ys

  pub all_runs : (limit : ℕ) (xs : List A) (books : List BookTold) → EndsRegistered
      → StripesHappenOnce → FinishesFollow → AddUpAll
      → All (λ y. IsLawfulPass (known y)) xs → ArePassesLevel known xs → AreExplainedBy known limit xs books
      → RunsAddUp known limit xs books
  all_runs limit [] books ends once follow up lawful level explained =
      let flows = all_flows known limit [] books explained in
      no_runs_add_up known limit books flows.lists flows.took
  all_runs limit (x ∷ ys) books ends once follow up lawful level explained =
      runs_add_up known limit x ys books ends once follow (up x ys lawful level)
      (all_flows known limit (x ∷ ys) books explained)

  pub all_over : (limit : ℕ) (counts : Counts) (xs : List A) (books : List BookTold) → limit < 2 ^ 64
      → EndsRegistered → StripesHappenOnce → FinishesFollow → AddUpAll
      → All (λ y. IsLawfulPass (known y)) xs → ArePassesLevel known xs → AreExplainedBy known limit xs books
      → IsOver known limit counts xs → OverAddsUp known limit counts xs books
  all_over limit counts [] books fits ends once follow up lawful level explained over =
      let flows = all_flows known limit [] books explained in
      none_over known limit counts books flows.lists flows.took over
  all_over limit counts (x ∷ ys) books fits ends once follow up lawful level explained over =
      over_adds_up known limit x ys books ends once follow (up x ys lawful level)
      (all_flows known limit (x ∷ ys) books explained) counts fits over
