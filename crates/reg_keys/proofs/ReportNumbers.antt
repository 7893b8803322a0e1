-- The numbers of reports: each is drawn once, of the stripe, and what marks show.
use Rattle.std.proofs.Common.{◌≡◌, ℕ, ◌%◌, ◌≤◌, ◌<◌, ◌⊎◌, inl, inr, ⊎_elim, List, [], ◌∷◌, true, false, refl}
use Rattle.std.proofs.Common.{ap, arith}
use Rattle.std.specs.Prelude.{◌==◌, ◌&&◌}
use Rattle.std.proofs.lemmas.Bool.{cond_both, eqb-true, eq-eqb, cases_Bool}
use Rattle.reg_keys.specs.declared.limits.TheConstants.{STRIPES}
use Rattle.reg_keys.specs.declared.opening.Opening.{Opening}
use Rattle.reg_keys.specs.declared.registration.Dir.{Dir}
use Rattle.reg_keys.specs.declared.entry.OpenOutcome.TheVariants as Opens
use Rattle.reg_keys.specs.declared.entry.ReportOutcome.TheVariants as Reports
use Rattle.reg_keys.specs.declared.entry.Entry.{Entry}
use Rattle.reg_keys.specs.declared.entry.Entry.TheVariants.{Open, Report, Register, Withdraw, Ask, Dispatch}
use Rattle.reg_keys.specs.declared.entry.Entry.TheVariants.{Close}
use Rattle.reg_keys.specs.Tests.{same, has_dir, one_if}
use Rattle.reg_keys.specs.Histories.{next_number, mark_of}
use Rattle.reg_keys.specs.Replies.{IsLegal}
use Rattle.reg_keys.specs.Accounts.{times_reported, NumbersReportsAlone}
use Rattle.reg_keys.proofs.Drawing.{drawn_once}

module _ (s c : ℕ) where
  reported_in : s < STRIPES → (past : List Entry) (n : ℕ) → 1 ≤ times_reported s c n past → n % STRIPES ≡ s
  reported_in low [] n h = absurd (omega arith)
  reported_in low (Report o ds (Reports.Noted e) ∷ past) n h = ⊎_elim
      (λ (is : (next_number s c past == n) ≡ true). let e =
      eqb-true (next_number s c past) n is in omega arith)
      (λ (is : (next_number s c past == n) ≡ false). let z : one_if (next_number s c past == n) ≡ 0 =
      ap one_if is in reported_in low past n (omega arith))
      (cases_Bool (next_number s c past == n))
  reported_in low (Report o ds Reports.Stale ∷ past) n h = reported_in low past n h
  reported_in low (Report o ds Reports.Spent ∷ past) n h = reported_in low past n h
  reported_in low (Open fd x ∷ past) n h = reported_in low past n h
  reported_in low (Register o d m kind x ∷ past) n h = reported_in low past n h
  reported_in low (Withdraw k x ∷ past) n h = reported_in low past n h
  reported_in low (Ask k x ∷ past) n h = reported_in low past n h
  reported_in low (Dispatch x y ∷ past) n h = reported_in low past n h
  reported_in low (Close o x ∷ past) n h = reported_in low past n h

  -- a mark that is the opening's number or a report's
  abbrev IsMark : List Entry → Opening → ℕ → Type 0
  IsMark past o n = (n ≡ o.number) ⊎ (1 ≤ times_reported s c n past)

  marked : (past : List Entry) (o : Opening) (d : Dir) → IsMark past o (mark_of s c past o d)
  marked [] o d = inl refl
  marked (Report p ds (Reports.Noted e) ∷ past) o d =
      cond_both (same p o && has_dir ds d) (next_number s c past) (mark_of s c past o d)
      (IsMark (Report p ds (Reports.Noted e) ∷ past) o)
      (λ _. let z : one_if (next_number s c past == next_number s c past) ≡ 1 =
      ap one_if (eq-eqb (next_number s c past) (next_number s c past) refl) in inr (omega arith))
      (λ _. ⊎_elim (λ is. inl is)
      (λ (h : 1 ≤ times_reported s c (mark_of s c past o d) past). inr (omega arith)) (marked past o d))
  marked (Report p ds Reports.Stale ∷ past) o d = marked past o d
  marked (Report p ds Reports.Spent ∷ past) o d = marked past o d
  marked (Open fd (Opens.Opened p) ∷ past) o d =
      cond_both (same p o) o.number (mark_of s c past o d) (IsMark (Open fd (Opens.Opened p) ∷ past) o)
      (λ _. inl refl) (λ _. marked past o d)
  marked (Open fd (Opens.Taken p) ∷ past) o d = marked past o d
  marked (Open fd Opens.Spent ∷ past) o d = marked past o d
  marked (Register p x m kind y ∷ past) o d = marked past o d
  marked (Withdraw k x ∷ past) o d = marked past o d
  marked (Ask k x ∷ past) o d = marked past o d
  marked (Dispatch x y ∷ past) o d = marked past o d
  marked (Close p x ∷ past) o d = marked past o d

  pub numbers_reports_alone : s < STRIPES → (past : List Entry) → IsLegal s c past
      → NumbersReportsAlone s c past
  numbers_reports_alone low past l =
      record { once = (drawn_once s c past l).most; stripe = reported_in low past; marks = marked past }
