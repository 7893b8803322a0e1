-- What was opened is live or was closed, and what was closed stays closed.
use Rattle.std.proofs.Common.{◌≡◌, ℕ, ◌≤◌, ◌⊎◌, inl, inr, ⊎_elim, List, [], ◌∷◌, ◌++◌, true, false, Bool, sym}
use Rattle.std.proofs.Common.{refl, ap, ◌∙◌, subst, arith}
use Rattle.std.specs.Prelude.{Some, None, ◌==◌}
use Rattle.std.proofs.lemmas.Bool.{both_ways, eq-eqb, cond_both, false_from_ne_true}
use Rattle.reg_keys.specs.declared.opening.Opening.{Opening}
use Rattle.reg_keys.specs.declared.entry.OpenOutcome.TheVariants as Opens
use Rattle.reg_keys.specs.declared.entry.CloseOutcome.TheVariants as Closes
use Rattle.reg_keys.specs.declared.entry.ShutKey.{ShutKey}
use Rattle.reg_keys.specs.declared.entry.Entry.{Entry}
use Rattle.reg_keys.specs.declared.entry.Entry.TheVariants.{Open, Report, Register, Withdraw, Ask, Dispatch}
use Rattle.reg_keys.specs.declared.entry.Entry.TheVariants.{Close}
use Rattle.reg_keys.specs.Tests.{same, one_if}
use Rattle.reg_keys.specs.Histories.{is_it, owner_of, is_live}
use Rattle.reg_keys.specs.Replies.{report_reply, register_reply, withdraw_reply, ask_reply, dispatch_reply}
use Rattle.reg_keys.specs.Replies.{reply_of, IsLegal}
use Rattle.reg_keys.specs.Promises.{weight}
use Rattle.reg_keys.specs.Accounts.{opens, closes, ClosesWhatItOpened, ClosesForGood}
use Rattle.reg_keys.specs.ListLaws.{same_is, same_self}
use Rattle.reg_keys.specs.Laws.{total_append}
use Rattle.reg_keys.proofs.RightReplies.{next_opening, shut_by, open_case, close_case}
use Rattle.reg_keys.proofs.Sound.{live_opened, live_past_opened, live_closed, live_past_closed}
use Rattle.reg_keys.proofs.Drawing.{draws_each_once}
use Rattle.reg_keys.proofs.Reuse.{legal_before}

-- a test that is not true weighs nothing, and one that is weighs one
one_of : (b : Bool) → ((b ≡ true) × (one_if b ≡ 1)) ⊎ ((b ≡ false) × (one_if b ≡ 0))
one_of true = inl (refl, refl)
one_of false = inr (refl, refl)

-- two tests that imply each other weigh the same
weighs_same : (a b : Bool) → (a ≡ true → b ≡ true) → (b ≡ true → a ≡ true) → one_if a ≡ one_if b
weighs_same true true f g = refl
weighs_same true false f g = absurd (both_ways false refl (f refl))
weighs_same false true f g = absurd (both_ways false refl (g refl))
weighs_same false false f g = refl

-- an opening of a free descriptor isn't live
free_is_dead : (past : List Entry) (o : Opening) → owner_of past o.fd ≡ None → is_live past o ≡ false
free_is_dead past o free = ap (is_it o) free

module _ (s c : ℕ) where
  opened : (past : List Entry) → ClosesWhatItOpened past → (fd : ℕ) → owner_of past fd ≡ None
      → ClosesWhatItOpened (Open fd (Opens.Opened (next_opening s c past fd)) ∷ past)
  opened past r fd free p =
      let o : Opening = next_opening s c past fd in
      let a = r p in ⊎_elim
      (λ h.
      let q : o ≡ p = same_is o p h.0 in
      let x = h.1 in
      let at : fd ≡ p.fd = ap (λ (z : Opening). z.fd) q in
      let old : one_if (is_live past p) ≡ 0 =
      ap one_if (free_is_dead past p (ap (owner_of past) (sym at) ∙ free)) in
      let new : one_if (is_live (Open fd (Opens.Opened o) ∷ past) p) ≡ 1 = ap one_if
      (subst (λ (z : Opening). is_live (Open fd (Opens.Opened o) ∷ past) z ≡ true) q (live_new past fd)) in
      omega arith)
      (λ h.
      let x = h.1 in
      let y = weighs_same (is_live (Open fd (Opens.Opened o) ∷ past) p) (is_live past p)
      (λ l. ⊎_elim (λ q.
      absurd (both_ways (same o p) h.0 (subst (λ (z : Opening). same o z ≡ true) q (same_self o))))
      (λ z. z) (live_opened past fd o p l))
      (live_past_opened past fd o p free) in omega arith)
      (one_of (same o p))
    where
      live_new : (past : List Entry) (fd : ℕ)
          → is_live (Open fd (Opens.Opened (next_opening s c past fd)) ∷ past) (next_opening s c past fd)
          ≡ true
      live_new past fd =
          let o : Opening = next_opening s c past fd in
          cond_both (fd == fd) (Some o) (owner_of past fd) (λ w. is_it o w ≡ true) (λ _. same_self o)
          (λ off. absurd (both_ways (fd == fd) off (eq-eqb-self fd)))
        where
          eq-eqb-self : (n : ℕ) → (n == n) ≡ true
          eq-eqb-self n = eq-eqb n n refl

  closed : (past : List Entry) → ClosesWhatItOpened past → (o : Opening) (xs : List ShutKey)
      → is_live past o ≡ true → ClosesWhatItOpened (Close o (Closes.Shut xs) ∷ past)
  closed past r o xs live p = let a = r p in ⊎_elim
      (λ h.
      let q : o ≡ p = same_is o p h.0 in
      let x = h.1 in
      let old : one_if (is_live past p) ≡ 1 =
      ap one_if (subst (λ (z : Opening). is_live past z ≡ true) q live) in
      let new : one_if (is_live (Close o (Closes.Shut xs) ∷ past) p) ≡ 0 = ap one_if
      (false_from_ne_true (is_live (Close o (Closes.Shut xs) ∷ past) p)
      (λ l. both_ways (same o p) (live_closed past o p xs l).1 h.0)) in
      omega arith)
      (λ h.
      let x = h.1 in
      let y = weighs_same (is_live (Close o (Closes.Shut xs) ∷ past) p) (is_live past p) (λ l.
      (live_closed past o p xs l).0) (live_past_closed past o p xs h.0) in
      omega arith)
      (one_of (same o p))

  -- an entry that opens and closes nothing
  idle : (past : List Entry) (e : Entry) → ClosesWhatItOpened past → ((p : Opening) → closes p e ≡ 0)
      → ((p : Opening) → opens p e ≡ 0) → ((p : Opening) → is_live (e ∷ past) p ≡ is_live past p)
      → ClosesWhatItOpened (e ∷ past)
  idle past e r c o live p =
      let a = r p in
      let x = c p in
      let y = o p in
      let z = ap one_if (live p) in
      omega arith

  step : (past : List Entry) → ClosesWhatItOpened past → (e : Entry)
      → ClosesWhatItOpened (reply_of s c past e ∷ past)
  step past r (Open fd x) =
      open_case s c past fd (λ y. ClosesWhatItOpened (Open fd y ∷ past))
      (λ o _. idle past (Open fd (Opens.Taken o)) r (λ _. refl) (λ _. refl) (λ _. refl))
      (λ _ _. idle past (Open fd Opens.Spent) r (λ _. refl) (λ _. refl) (λ _. refl))
      (λ free _. opened past r fd free)
  step past r (Report o ds x) =
      idle past (Report o ds (report_reply s c past o ds)) r (λ _. refl) (λ _. refl) (λ _. refl)
  step past r (Register o d m kind x) =
      idle past (Register o d m kind (register_reply s c past o d m kind)) r (λ _. refl)
      (λ _. refl) (λ _. refl)
  step past r (Withdraw k x) =
      idle past (Withdraw k (withdraw_reply past k)) r (λ _. refl) (λ _. refl) (λ _. refl)
  step past r (Ask k x) = idle past (Ask k (ask_reply past k)) r (λ _. refl) (λ _. refl) (λ _. refl)
  step past r (Dispatch x y) =
      idle past (Dispatch x (dispatch_reply s c past x)) r (λ _. refl) (λ _. refl) (λ _. refl)
  step past r (Close o x) =
      close_case s c past o (λ y. ClosesWhatItOpened (Close o y ∷ past))
      (λ _. idle past (Close o Closes.NotOpen) r (λ _. refl) (λ _. refl) (λ _. refl))
      (λ live. closed past r o (shut_by s c past o) live)

  pub closes_what_it_opened : (past : List Entry) → IsLegal s c past → ClosesWhatItOpened past
  closes_what_it_opened [] l = λ o. refl
  closes_what_it_opened (e ∷ past) l =
      subst (λ (x : Entry). ClosesWhatItOpened (x ∷ past)) (sym l.1)
      (step past (closes_what_it_opened past l.0) e)

  pub closes_for_good : (later past : List Entry) → IsLegal s c (later ++ past) → ClosesForGood later past
  closes_for_good later past l = record {
    closed = closed_is;
    gone =
        λ o made dead.
        let a = closes_what_it_opened past (legal_before s c later past l) o in
        let b = ap one_if dead in
        closed_is o (omega arith);
  }
    where
      closed_is : (o : Opening) → 1 ≤ weight (closes o) past → is_live (later ++ past) o ≡ false
      closed_is o h =
          let a = closes_what_it_opened (later ++ past) l o in
          let b = (draws_each_once s c (later ++ past) l).openings o in
          let d = total_append (closes o) later past in
          ⊎_elim (λ x. let y = x.1 in absurd (omega arith)) (λ x. x.0) (one_of (is_live (later ++ past) o))
