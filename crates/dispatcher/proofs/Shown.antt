-- What the entries of a call show, stripe by stripe.
use Rattle.std.proofs.Common.{◌≡◌, ◌≢◌, ℕ, zero, suc, ⊎_elim, List, [], ◌∷◌, ◌++◌, map, true, false, Bool}
use Rattle.std.proofs.Common.{sym, refl, ap, ◌∙◌, subst}
use Rattle.std.specs.Prelude.{slice_get, ◌==◌, if◌then◌else◌}
use Rattle.std.proofs.lemmas.List.{append_assoc, append-nil}
use Rattle.std.proofs.lemmas.Bool.{eq-eqb, ne_eqb, cond-true, cond-false}
use Rattle.reg_keys.specs.declared.opening.Opening.{Opening}
use Rattle.reg_keys.specs.declared.entry.Entry.{Entry}
use Rattle.reg_keys.specs.declared.entry.Entry.TheVariants.{Open, Report, Register, Withdraw, Ask, Dispatch}
use Rattle.reg_keys.specs.declared.entry.Entry.TheVariants.{Close}
use Rattle.turn_cell.specs.declared.view.View.{View}
use Rattle.turn_cell.specs.History.{Log, entries_in}
use Rattle.turn_cell.specs.ListLaws.{same_or}
use Rattle.event_mgr.specs.Stripes.{stripe_of, StripeEntered, StripeSpent}
use Rattle.event_mgr.specs.Manager.{MgrView, EnteredAt, SpentAt, own_in, own_by}
use Rattle.event_mgr.specs.Laws.{entered_own, others_own, stripe_before, stripe_after}
use Rattle.dispatcher.specs.Entries.{IsOfRun, fired_by, reported_by}
use Rattle.dispatcher.specs.Stripes.{Each, PassShows, shown_in, of_stripe, AreOfRun}
use Rattle.dispatcher.specs.Runs.{RunsAt, RunMade}
use Rattle.dispatcher.specs.declared.runner.AfterRun.{AfterRun}

module _ {X : Type 0} where
  pub of_stripe-append : (s : ℕ) (xs ys : List (Opening × X))
      → of_stripe s (xs ++ ys) ≡ of_stripe s xs ++ of_stripe s ys
  of_stripe-append s [] ys = refl
  of_stripe-append s (x ∷ xs) ys = by_test (stripe_of x.0.fd == s) (of_stripe-append s xs ys)
    where
      by_test : (b : Bool) → of_stripe s (xs ++ ys) ≡ of_stripe s xs ++ of_stripe s ys
          → (if b then x ∷ of_stripe s (xs ++ ys) else of_stripe s (xs ++ ys))
          ≡ (if b then x ∷ of_stripe s xs else of_stripe s xs) ++ of_stripe s ys
      by_test true r = λ i. x ∷ r i
      by_test false r = r

  -- what belongs to one opening is of its stripe, and of no other
  pub of_stripe_here : (o : Opening) (xs : List X)
      → of_stripe (stripe_of o.fd) (map (λ x. (o, x)) xs) ≡ map (λ x. (o, x)) xs
  of_stripe_here o [] = refl
  of_stripe_here o (x ∷ xs) =
      cond-true (stripe_of o.fd == stripe_of o.fd) _ _ (eq-eqb (stripe_of o.fd) (stripe_of o.fd) refl)
      ∙ ap (λ (l : List (Opening × X)). (o, x) ∷ l) (of_stripe_here o xs)

  pub of_stripe_there : (o : Opening) (t : ℕ) (xs : List X) → t ≢ stripe_of o.fd
      → of_stripe t (map (λ x. (o, x)) xs) ≡ []
  of_stripe_there o t [] n = refl
  of_stripe_there o t (x ∷ xs) n =
      cond-false (stripe_of o.fd == t) _ _ (ne_eqb (stripe_of o.fd) t (λ e. n (sym e)))
      ∙ of_stripe_there o t xs n

module _ {X : Type 0} (show : Entry → List X) where
  pub shown-append : (ds es : Log Entry) → shown_in show (ds ++ es) ≡ shown_in show ds ++ shown_in show es
  shown-append [] es = refl
  shown-append (d ∷ ds) es =
      ap (λ (l : List X). show d.1 ++ l) (shown-append ds es)
      ∙ sym (append_assoc (show d.1) (shown_in show ds) (shown_in show es))

  pub shown-one : (l : Log Entry) (m : Log Entry) (n : ℕ) (e : Entry)
      → m ≡ l ++ (n, e) ∷ [] → shown_in show m ≡ shown_in show l ++ show e
  shown-one l m n e is =
      ap (shown_in show) is
      ∙ (shown-append l ((n, e) ∷ []) ∙ ap (λ (k : List X). shown_in show l ++ k) (append-nil (show e)))

module _ {X : Type 0} (show : Entry → List (Opening × X)) where
  -- nothing is shown where the own entries are what they were
  pub shows_same : (v w : MgrView) → ((t : ℕ) → own_in t w ≡ own_in t v) → PassShows show v [] w
  shows_same v w same t = ap (shown_in show) (same t) ∙ sym (append-nil (shown_in show (own_in t v)))

  pub shows_then : (u v w : MgrView) (xs ys : List (Opening × X)) → PassShows show u xs v
      → PassShows show v ys w → PassShows show u (xs ++ ys) w
  shows_then u v w xs ys p q t =
      q t ∙ (ap (λ (l : List (Opening × X)). l ++ of_stripe t ys) (p t)
      ∙ (append_assoc (shown_in show (own_in t u)) (of_stripe t xs) (of_stripe t ys)
      ∙ ap (λ (l : List (Opening × X)). shown_in show (own_in t u) ++ l) (sym (of_stripe-append t xs ys))))

  -- an entry shows what is of its stripe
  pub shows_entered : (s : ℕ) (e : Entry) (v w : MgrView) → EnteredAt s e v w → of_stripe s (show e) ≡ show e
      → ((t : ℕ) → t ≢ s → of_stripe t (show e) ≡ []) → PassShows show v (show e) w
  shows_entered s e v w a here there t = ⊎_elim
      (λ (i : t ≡ s). let o = entered_own s e v w a in
      subst (λ (k : ℕ). shown_in show (own_in k w) ≡ shown_in show (own_in k v) ++ of_stripe k (show e))
      (sym i) (shown-one show (own_in s v) (own_in s w) o.0 e o.1
      ∙ ap (λ (l : List (Opening × X)). shown_in show (own_in s v) ++ l) (sym here)))
      (λ (n : t ≢ s). ap (shown_in show) (others_own s (StripeEntered s e) v w a t n)
      ∙ (sym (append-nil (shown_in show (own_in t v)))
      ∙ ap (λ (l : List (Opening × X)). shown_in show (own_in t v) ++ l) (sym (there t n))))
      (same_or t s)

  -- one that shows nothing
  pub shows_nothing : (s : ℕ) (e : Entry) (v w : MgrView) → EnteredAt s e v w
      → show e ≡ [] → PassShows show v [] w
  shows_nothing s e v w a none = subst (λ (l : List (Opening × X)). PassShows show v l w) none
      (shows_entered s e v w a (ap (of_stripe s) none ∙ sym none) (λ t n. ap (of_stripe t) none))

-- a cell that is spent gets no entry
spent_own_in : (s : ℕ) (v w : MgrView) → SpentAt s v w → (t : ℕ) → own_in t w ≡ own_in t v
spent_own_in s v w a t = ⊎_elim
    (λ (i : t ≡ s).
    subst (λ (k : ℕ). own_in k w ≡ own_in k v) (sym i) (ap own_by (stripe_after s (StripeSpent s) v w a)
    ∙ ((λ i. entries_in (a.stripe.moved.unmoved.classes i) (a.stripe.moved.unmoved.seen i))
    ∙ sym (ap own_by (stripe_before s (StripeSpent s) v w a)))))
    (λ (n : t ≢ s). others_own s (StripeSpent s) v w a t n)
    (same_or t s)

pub shows_spent : {X : Type 0} (show : Entry → List (Opening × X)) (s : ℕ) (v w : MgrView)
    → SpentAt s v w → PassShows show v [] w
shows_spent show s v w a = shows_same show v w (spent_own_in s v w a)

-- what a run made at each stripe
run_own : (vs ws : List (View Entry)) → Each RunsAt vs ws → (t : ℕ)
    → (es : Log Entry) × (own_by (slice_get ws t) ≡ own_by (slice_get vs t) ++ es) × AreOfRun es
run_own [] [] a t = ([], refl, tt)
run_own [] (w ∷ ws) a t = absurd a
run_own (v ∷ vs) [] a t = absurd a
run_own (v ∷ vs) (w ∷ ws) a zero = (a.0.made, a.0.own, a.0.calls)
run_own (v ∷ vs) (w ∷ ws) a (suc t) = run_own vs ws a.1 t

fires_none : (e : Entry) → IsOfRun e → fired_by e ≡ []
fires_none (Open fd r) a = refl
fires_none (Report o ds r) a = absurd a
fires_none (Register o d m k r) a = refl
fires_none (Withdraw k r) a = refl
fires_none (Ask k r) a = refl
fires_none (Dispatch x r) a = absurd a
fires_none (Close o r) a = refl

reports_none : (e : Entry) → IsOfRun e → reported_by e ≡ []
reports_none (Open fd r) a = refl
reports_none (Report o ds r) a = absurd a
reports_none (Register o d m k r) a = refl
reports_none (Withdraw k r) a = refl
reports_none (Ask k r) a = refl
reports_none (Dispatch x r) a = absurd a
reports_none (Close o r) a = refl

shown_none : {X : Type 0} (show : Entry → List X) → ((e : Entry) → IsOfRun e → show e ≡ [])
    → (es : Log Entry) → AreOfRun es → shown_in show es ≡ []
shown_none show none [] a = refl
shown_none {X} show none (e ∷ es) a =
    ap (λ (l : List X). l ++ shown_in show es) (none e.1 a.0) ∙ shown_none show none es a.1

shows_run : {X : Type 0} (show : Entry → List (Opening × X)) → ((e : Entry) → IsOfRun e → show e ≡ [])
    → (v : MgrView) (r : AfterRun) (w : MgrView) → RunMade v r w → PassShows show v [] w
shows_run {X} show none v r w k t = let o = run_own v.stripes w.stripes k.stripes t in
    ap (shown_in show) o.1
    ∙ (shown-append show (own_in t v) o.0
    ∙ ap (λ (l : List (Opening × X)). shown_in show (own_in t v) ++ l) (shown_none show none o.0 o.2))

-- a run dispatches nothing and reports nothing
pub run_fires_none : (v : MgrView) (r : AfterRun) (w : MgrView) → RunMade v r w → PassShows fired_by v [] w
run_fires_none v r w k = shows_run fired_by fires_none v r w k

pub run_reports_none : (v : MgrView) (r : AfterRun) (w : MgrView) → RunMade v r w
    → PassShows reported_by v [] w
run_reports_none v r w k = shows_run reported_by reports_none v r w k
