-- Each number is drawn in its own stripe.
use Rattle.std.proofs.Common.{◌≡◌, ℕ, ◌+◌, ◌%◌, ◌≤◌, ◌<◌, ⊎_elim, List, [], ◌∷◌, true, sym, refl, ap, ◌∙◌}
use Rattle.std.proofs.Common.{subst, false, arith}
use Rattle.std.specs.Prelude.{None, ◌==◌}
use Rattle.std.proofs.lemmas.Bool.{eqb-true, eqb-false, cases_Bool}
use Rattle.reg_keys.specs.declared.limits.TheConstants.{STRIPES}
use Rattle.reg_keys.specs.declared.opening.Opening.{Opening}
use Rattle.reg_keys.specs.declared.registration.Key.{Key}
use Rattle.reg_keys.specs.declared.entry.LoadKind.{LoadKind}
use Rattle.reg_keys.specs.declared.entry.FiredKey.{FiredKey}
use Rattle.reg_keys.specs.declared.entry.OpenOutcome.TheVariants as Opens
use Rattle.reg_keys.specs.declared.entry.ReportOutcome.TheVariants as Reports
use Rattle.reg_keys.specs.declared.entry.RegisterOutcome.TheVariants as Registers
use Rattle.reg_keys.specs.declared.entry.DispatchOutcome.TheVariants as Dispatches
use Rattle.reg_keys.specs.declared.entry.Entry.{Entry}
use Rattle.reg_keys.specs.declared.entry.Entry.TheVariants.{Open, Report, Register, Withdraw, Ask, Dispatch}
use Rattle.reg_keys.specs.declared.entry.Entry.TheVariants.{Close}
use Rattle.reg_keys.specs.Tests.{same_key, one_if, total}
use Rattle.reg_keys.specs.Histories.{next_number, keys_run}
use Rattle.reg_keys.specs.Replies.{reply_of, IsLegal}
use Rattle.reg_keys.specs.Promises.{weight, times, times_run}
use Rattle.reg_keys.specs.Accounts.{draws, opens, weight_ended, weight_accepted, DrawsInItsStripe}
use Rattle.reg_keys.proofs.RightReplies.{next_key, ran_by, event_case, open_case, report_case, register_case}
use Rattle.reg_keys.proofs.RightReplies.{dispatch_case}
use Rattle.reg_keys.proofs.Drawing.{opens_le, total_le}
use Rattle.reg_keys.proofs.EndsRegistered.{ends_what_was_registered}

module _ (s c : ℕ) (low : s < STRIPES) where
  -- a number that an entry draws is of the stripe
  abbrev InStripe : Entry → Type 0
  InStripe e = (n : ℕ) → 1 ≤ draws n e → n % STRIPES ≡ s

  of_stripe : (past : List Entry) → next_number s c past % STRIPES ≡ s
  of_stripe past = omega arith

  one : (a n : ℕ) → a % STRIPES ≡ s → 1 ≤ one_if (a == n) → n % STRIPES ≡ s
  one a n at h =
      ⊎_elim (λ e. ap (λ (m : ℕ). m % STRIPES) (sym (eqb-true a n e)) ∙ at) (λ e. let z =
      ap one_if e in absurd (omega arith)) (cases_Bool (a == n))

  two : (a b n : ℕ) → a % STRIPES ≡ s → b % STRIPES ≡ s → 1 ≤ one_if (a == n) + one_if (b == n)
      → n % STRIPES ≡ s
  two a b n at bt h =
      ⊎_elim (λ e. ap (λ (m : ℕ). m % STRIPES) (sym (eqb-true a n e)) ∙ at) (λ e. let z =
      ap one_if e in one b n bt (omega arith)) (cases_Bool (a == n))

  none : (e : Entry) → ((n : ℕ) → draws n e ≡ 0) → InStripe e
  none e z n h = let a = z n in absurd (omega arith)

  drawn : (past : List Entry) (e : Entry) → InStripe (reply_of s c past e)
  drawn past (Open fd x) =
      open_case s c past fd (λ y. InStripe (Open fd y))
      (λ o _. none (Open fd (Opens.Taken o)) (λ _. refl)) (λ _ _. none (Open fd Opens.Spent) (λ _. refl))
      (λ _ _ n h. one (next_number s c past) n (of_stripe past) h)
  drawn past (Report o ds x) =
      report_case s c past o ds (λ y. InStripe (Report o ds y))
      (λ _. none (Report o ds Reports.Stale) (λ _. refl))
      (λ _ _. none (Report o ds Reports.Spent) (λ _. refl))
      (λ _ _. let before = Report o ds (Reports.Noted None) ∷ past in
      event_case s c before o (λ e. InStripe (Report o ds (Reports.Noted e)))
      (λ _ _ n h. one (next_number s c before) n (of_stripe before) h)
      (λ _. none (Report o ds (Reports.Noted None)) (λ _. refl)))
  drawn past (Register o d m kind x) =
      register_case s c past o d m kind (λ y. InStripe (Register o d m kind y))
      (λ _. none (Register o d m kind Registers.Shut) (λ _. refl))
      (λ _ _. none (Register o d m kind Registers.Crowded) (λ _. refl))
      (λ _ _ _. none (Register o d m kind Registers.Spent) (λ _. refl))
      (λ _ _ _.
      let key = next_key s c past in
      let before = Register o d m kind (Registers.Waits key None) ∷ past in
      event_case s c before o (λ e. InStripe (Register o d m kind (Registers.Waits key e)))
      (λ _ _ n h. two key.number (next_number s c before) n (of_stripe past) (of_stripe before) h)
      (λ _ n h. one key.number n (of_stripe past) (omega arith)))
  drawn past (Withdraw k x) = none (reply_of s c past (Withdraw k x)) (λ _. refl)
  drawn past (Ask k x) = none (reply_of s c past (Ask k x)) (λ _. refl)
  drawn past (Dispatch x y) =
      dispatch_case s c past x (λ y. InStripe (Dispatch x y))
      (λ _. none (Dispatch x Dispatches.Stale) (λ _. refl))
      (λ _ _. none (Dispatch x Dispatches.Spent) (λ _. refl))
      (λ _ _.
      let ran = ran_by s c past x in
      let before = Dispatch x (Dispatches.Ran ran None) ∷ past in
      event_case s c before x.opening (λ e. InStripe (Dispatch x (Dispatches.Ran ran e)))
      (λ _ _ n h. one (next_number s c before) n (of_stripe before) h)
      (λ _. none (Dispatch x (Dispatches.Ran ran None)) (λ _. refl)))
  drawn past (Close o x) = none (reply_of s c past (Close o x)) (λ _. refl)

  all_drawn : (past : List Entry) → IsLegal s c past → (n : ℕ) → 1 ≤ weight (draws n) past → n % STRIPES ≡ s
  all_drawn [] l n h = absurd (omega arith)
  all_drawn (e ∷ past) l n h =
      ⊎_elim (λ (is : (draws n e == 0) ≡ true). let z =
      eqb-true (draws n e) 0 is in all_drawn past l.0 n (omega arith))
      (λ (is : (draws n e == 0) ≡ false). let z = eqb-false (draws n e) 0 is in
      subst (λ (x : Entry). InStripe x) (sym l.1) (drawn past e) n (omega arith))
      (cases_Bool (draws n e == 0))

  -- a key that ran was accepted, and so drawn
  ran_le : (k : Key) (e : Entry) → times_run k e ≤ weight_ended (λ l o kind. one_if (same_key l k)) e
  ran_le k (Open fd r) = omega arith
  ran_le k (Report p ds r) = omega arith
  ran_le k (Register p d m kind r) = omega arith
  ran_le k (Withdraw l r) = omega arith
  ran_le k (Ask l r) = omega arith
  ran_le k (Dispatch x (Dispatches.Ran ran e)) = same_times ran
    where
      same_times : (ran : List FiredKey)
          → times k (keys_run ran) ≤ total (λ (r : FiredKey). one_if (same_key r.key k)) ran
      same_times [] = omega arith
      same_times (r ∷ ran) = let a = same_times ran in omega arith
  ran_le k (Dispatch x Dispatches.Stale) = omega arith
  ran_le k (Dispatch x Dispatches.Spent) = omega arith
  ran_le k (Close p r) = omega arith

  accepted_le : (k : Key) (e : Entry)
      → weight_accepted (λ l o kind. one_if (same_key l k)) e ≤ draws k.number e
  accepted_le k (Open fd r) = omega arith
  accepted_le k (Report p ds r) = omega arith
  accepted_le k (Register p d m kind (Registers.Waits key e)) = omega arith
  accepted_le k (Register p d m kind Registers.Shut) = omega arith
  accepted_le k (Register p d m kind Registers.Crowded) = omega arith
  accepted_le k (Register p d m kind Registers.Spent) = omega arith
  accepted_le k (Withdraw l r) = omega arith
  accepted_le k (Ask l r) = omega arith
  accepted_le k (Dispatch x r) = omega arith
  accepted_le k (Close p r) = omega arith

  pub draws_in_its_stripe : (past : List Entry) → IsLegal s c past → DrawsInItsStripe s past
  draws_in_its_stripe past l = record {
    numbers = all_drawn past l;
    openings =
        λ o h.
        let a = total_le (opens o) (draws o.number) (opens_le o) past in
        all_drawn past l o.number (omega arith);
    runs =
        λ k h.
        let f : Key → Opening → LoadKind → ℕ = λ l o kind. one_if (same_key l k) in
        let a = total_le (times_run k) (weight_ended f) (ran_le k) past in
        let b = ends_what_was_registered s c past l f in
        let d = total_le (weight_accepted f) (draws k.number) (accepted_le k) past in
        all_drawn past l k.number (omega arith);
  }
