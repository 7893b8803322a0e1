-- No number is drawn twice, for reports as for the others.
use Rattle.std.proofs.Common.{◌≡◌, ℕ, ◌+◌, ◌≤◌, ◌<◌, ◌⊎◌, inl, inr, ⊎_elim, List, [], ◌∷◌, true, sym, refl}
use Rattle.std.proofs.Common.{ap, subst, arith}
use Rattle.std.specs.Prelude.{Some, None, ◌==◌}
use Rattle.std.proofs.lemmas.Bool.{both_ways, eqb-true, cases_Bool, eq-eqb}
use Rattle.reg_keys.specs.declared.opening.Opening.{Opening}
use Rattle.reg_keys.specs.declared.registration.Key.{Key}
use Rattle.reg_keys.specs.declared.entry.OpenOutcome.TheVariants as Opens
use Rattle.reg_keys.specs.declared.entry.ReportOutcome.TheVariants as Reports
use Rattle.reg_keys.specs.declared.entry.RegisterOutcome.TheVariants as Registers
use Rattle.reg_keys.specs.declared.entry.WithdrawOutcome.TheVariants as Withdraws
use Rattle.reg_keys.specs.declared.entry.DispatchOutcome.TheVariants as Dispatches
use Rattle.reg_keys.specs.declared.entry.CloseOutcome.TheVariants as Closes
use Rattle.reg_keys.specs.declared.entry.Entry.{Entry}
use Rattle.reg_keys.specs.declared.entry.Entry.TheVariants.{Open, Report, Register, Withdraw, Ask, Dispatch}
use Rattle.reg_keys.specs.declared.entry.Entry.TheVariants.{Close}
use Rattle.reg_keys.specs.Tests.{same, one_if, total}
use Rattle.reg_keys.specs.Histories.{next_number}
use Rattle.reg_keys.specs.Replies.{ask_reply, reply_of, IsLegal}
use Rattle.reg_keys.specs.Promises.{weight, times_run, times_ended}
use Rattle.reg_keys.specs.Accounts.{draws, times_reported, opens, DrawsEachOnce}
use Rattle.reg_keys.specs.ListLaws.{same_is}
use Rattle.reg_keys.proofs.RightReplies.{next_opening, next_key, next_event, ran_by, shut_by, event_case}
use Rattle.reg_keys.proofs.RightReplies.{open_case, report_case, register_case, withdraw_case, dispatch_case}
use Rattle.reg_keys.proofs.RightReplies.{close_case}
use Rattle.reg_keys.proofs.EndsOnce.{ends_once}

-- a number is drawn once at most, and none from n on has been drawn
pub record DrawnOnce (u : ℕ → ℕ) (n : ℕ) : Type 0 where
  pub most : (k : ℕ) → u k ≤ 1
  pub new : (k : ℕ) → n ≤ k → u k ≡ 0

-- one number is another or isn't
one_of : (a k : ℕ) → (((a == k) ≡ true) × (a ≡ k) × (one_if (a == k) ≡ 1))
    ⊎ ((a ≡ k → ⊥) × (one_if (a == k) ≡ 0))
one_of a k =
    ⊎_elim (λ h. inl (h, eqb-true a k h, ap one_if h))
    (λ h. inr (λ e. both_ways (a == k) h (eq-eqb a k e), ap one_if h)) (cases_Bool (a == k))

module _ (s c : ℕ) where
  -- how often a number was drawn, for a report or for what shows it
  abbrev drawn : ℕ → List Entry → ℕ
  drawn k past = times_reported s c k past + weight (draws k) past

  abbrev Drawn : List Entry → Type 0
  Drawn past = DrawnOnce (λ k. drawn k past) (next_number s c past)

  idle : (past : List Entry) (e : Entry) → ((k : ℕ) → drawn k (e ∷ past) ≡ drawn k past)
      → next_number s c past ≤ next_number s c (e ∷ past) → Drawn past → Drawn (e ∷ past)
  idle past e z le r = record {
    most = λ k.
        let a = r.most k in
        let b = z k in omega arith;
    new = λ k h.
        let a = r.new k (omega arith) in
        let b = z k in omega arith;
  }

  -- a later number is drawn
  later : (past : List Entry) (e : Entry) (a : ℕ) → next_number s c past ≤ a
      → ((k : ℕ) → drawn k (e ∷ past) ≡ one_if (a == k) + drawn k past) → a < next_number s c (e ∷ past)
      → Drawn past → Drawn (e ∷ past)
  later past e a is d lt r = record {
    most =
        λ k.
        let x = r.most k in
        let y = d k in
        ⊎_elim (λ h.
        let q = h.1 in
        let o = h.2 in
        let z = r.new k (omega arith) in
        omega arith) (λ h. let o = h.1 in omega arith) (one_of a k);
    new =
        λ k h.
        let x = r.new k (omega arith) in
        let y = d k in
        ⊎_elim (λ g. let q = g.1 in absurd (omega arith)) (λ g. let o = g.1 in omega arith) (one_of a k);
  }

  -- the next number and a later one are drawn
  two_more : (past : List Entry) (e : Entry) (a b : ℕ) → a ≡ next_number s c past → a < b
      → ((k : ℕ) → drawn k (e ∷ past) ≡ one_if (a == k) + one_if (b == k) + drawn k past)
      → b < next_number s c (e ∷ past) → Drawn past → Drawn (e ∷ past)
  two_more past e a b is more d lt r = record {
    most = λ k.
        let x = r.most k in
        let y = d k in ⊎_elim
        (λ h.
        let q = h.1 in
        let o = h.2 in
        let z = r.new k (omega arith) in
        ⊎_elim (λ g. let p = g.1 in absurd (omega arith)) (λ g. let p = g.1 in omega arith) (one_of b k))
        (λ h. let o = h.1 in ⊎_elim (λ g.
        let q = g.1 in
        let p = g.2 in
        let z = r.new k (omega arith) in
        omega arith) (λ g. let p =
        g.1 in omega arith) (one_of b k)) (one_of a k);
    new =
        λ k h.
        let x = r.new k (omega arith) in
        let y = d k in
        ⊎_elim (λ g. let q = g.1 in absurd (omega arith)) (λ g. let o = g.1 in ⊎_elim (λ f. let q =
        f.1 in absurd (omega arith)) (λ f. let p = f.1 in omega arith) (one_of b k)) (one_of a k);
  }

  step : (past : List Entry) → Drawn past → (e : Entry) → Drawn (reply_of s c past e ∷ past)
  step past r (Open fd x) =
      open_case s c past fd (λ y. Drawn (Open fd y ∷ past))
      (λ o _. idle past (Open fd (Opens.Taken o)) (λ _. omega arith) (omega arith) r)
      (λ _ _. idle past (Open fd Opens.Spent) (λ _. omega arith) (omega arith) r)
      (λ _ _. later past (Open fd (Opens.Opened (next_opening s c past fd))) (next_number s c past)
      (omega arith) (λ _. omega arith) (omega arith) r)
  step past r (Report o ds x) =
      report_case s c past o ds (λ y. Drawn (Report o ds y ∷ past))
      (λ _. idle past (Report o ds Reports.Stale) (λ _. omega arith) (omega arith) r)
      (λ _ _. idle past (Report o ds Reports.Spent) (λ _. omega arith) (omega arith) r)
      (λ _ _.
      let before = Report o ds (Reports.Noted None) ∷ past in
      event_case s c before o (λ e. Drawn (Report o ds (Reports.Noted e) ∷ past))
      (λ _ _. two_more past (Report o ds (Reports.Noted (Some (next_event s c before o))))
      (next_number s c past) (next_number s c before) refl (omega arith) (λ _. omega arith) (omega arith) r)
      (λ _. later past (Report o ds (Reports.Noted None)) (next_number s c past) (omega arith)
      (λ _. omega arith) (omega arith) r))
  step past r (Register o d m kind x) =
      register_case s c past o d m kind (λ y. Drawn (Register o d m kind y ∷ past))
      (λ _. idle past (Register o d m kind Registers.Shut) (λ _. omega arith) (omega arith) r)
      (λ _ _. idle past (Register o d m kind Registers.Crowded) (λ _. omega arith) (omega arith) r)
      (λ _ _ _. idle past (Register o d m kind Registers.Spent) (λ _. omega arith) (omega arith) r)
      (λ _ _ _.
      let key = next_key s c past in
      let before = Register o d m kind (Registers.Waits key None) ∷ past in
      event_case s c before o (λ e. Drawn (Register o d m kind (Registers.Waits key e) ∷ past))
      (λ _ _. two_more past (Register o d m kind (Registers.Waits key (Some (next_event s c before o))))
      key.number (next_number s c before) refl (omega arith) (λ _. omega arith) (omega arith) r)
      (λ _. later past (Register o d m kind (Registers.Waits key None)) key.number (omega arith)
      (λ _. omega arith) (omega arith) r))
  step past r (Withdraw k x) =
      withdraw_case s c past k (λ y. Drawn (Withdraw k y ∷ past))
      (λ _. idle past (Withdraw k Withdraws.Gone) (λ _. omega arith) (omega arith) r)
      (λ w _ _. idle past (Withdraw k (Withdraws.Back w.kind)) (λ _. omega arith) (omega arith) r)
  step past r (Ask k x) = idle past (Ask k (ask_reply past k)) (λ _. omega arith) (omega arith) r
  step past r (Dispatch x y) =
      dispatch_case s c past x (λ y. Drawn (Dispatch x y ∷ past))
      (λ _. idle past (Dispatch x Dispatches.Stale) (λ _. omega arith) (omega arith) r)
      (λ _ _. idle past (Dispatch x Dispatches.Spent) (λ _. omega arith) (omega arith) r)
      (λ _ _.
      let ran = ran_by s c past x in
      let before = Dispatch x (Dispatches.Ran ran None) ∷ past in
      event_case s c before x.opening (λ e. Drawn (Dispatch x (Dispatches.Ran ran e) ∷ past))
      (λ _ _. later past (Dispatch x (Dispatches.Ran ran (Some (next_event s c before x.opening))))
      (next_number s c before) (omega arith) (λ _. omega arith) (omega arith) r)
      (λ _. idle past (Dispatch x (Dispatches.Ran ran None)) (λ _. omega arith) (omega arith) r))
  step past r (Close o x) =
      close_case s c past o (λ y. Drawn (Close o y ∷ past))
      (λ _. idle past (Close o Closes.NotOpen) (λ _. omega arith) (omega arith) r)
      (λ _. idle past (Close o (Closes.Shut (shut_by s c past o))) (λ _. omega arith) (omega arith) r)

  pub drawn_once : (past : List Entry) → IsLegal s c past → Drawn past
  drawn_once [] l = record { most = λ _. omega arith; new = λ _ _. refl }
  drawn_once (e ∷ past) l =
      subst (λ (x : Entry). Drawn (x ∷ past)) (sym l.1) (step past (drawn_once past l.0) e)

-- an entry that makes an opening draws its number
pub opens_le : (o : Opening) (e : Entry) → opens o e ≤ draws o.number e
opens_le o (Open fd (Opens.Opened p)) =
    ⊎_elim (λ h.
    let q : p.number ≡ o.number = ap (λ (z : Opening). z.number) (same_is p o h) in
    let a : one_if (same p o) ≡ 1 = ap one_if h in
    let b : one_if (p.number == o.number) ≡ 1 = ap one_if (eq-eqb p.number o.number q) in
    omega arith)
    (λ h. let a : one_if (same p o) ≡ 0 = ap one_if h in omega arith) (cases_Bool (same p o))
opens_le o (Open fd (Opens.Taken p)) = omega arith
opens_le o (Open fd Opens.Spent) = omega arith
opens_le o (Report p ds r) = omega arith
opens_le o (Register p d m kind r) = omega arith
opens_le o (Withdraw k r) = omega arith
opens_le o (Ask k r) = omega arith
opens_le o (Dispatch x r) = omega arith
opens_le o (Close p r) = omega arith

runs_le : (k : Key) (e : Entry) → times_run k e ≤ times_ended k e
runs_le k (Open fd r) = omega arith
runs_le k (Report p ds r) = omega arith
runs_le k (Register p d m kind r) = omega arith
runs_le k (Withdraw l r) = omega arith
runs_le k (Ask l r) = omega arith
runs_le k (Dispatch x (Dispatches.Ran ran e)) = omega arith
runs_le k (Dispatch x Dispatches.Stale) = omega arith
runs_le k (Dispatch x Dispatches.Spent) = omega arith
runs_le k (Close p r) = omega arith

pub total_le : {A : Type 0} (f g : A → ℕ) → ((x : A) → f x ≤ g x) → (xs : List A) → total f xs ≤ total g xs
total_le f g le [] = omega arith
total_le f g le (x ∷ xs) =
    let a = le x in
    let r = total_le f g le xs in omega arith

pub draws_each_once : (s c : ℕ) (past : List Entry) → IsLegal s c past → DrawsEachOnce past
draws_each_once s c past l = record {
  numbers = λ n. let a = (drawn_once s c past l).most n in omega arith;
  openings =
      λ o.
      let a = (drawn_once s c past l).most o.number in
      let b = total_le (opens o) (draws o.number) (opens_le o) past in
      omega arith;
  runs =
      λ k.
      let a = (ends_once s c past l).most k in
      let b = total_le (times_run k) (times_ended k) (runs_le k) past in
      omega arith;
}
