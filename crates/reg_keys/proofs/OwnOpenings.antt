-- What replies name is their own: openings of their descriptors, events of their
-- openings, keys of their stripe.
use Rattle.std.proofs.Common.{◌≡◌, ℕ, ◌<◌, ⊎_elim, List, [], ◌∷◌, sym, refl, subst, false, arith}
use Rattle.std.specs.Prelude.{Some, None, ◌==◌}
use Rattle.std.proofs.lemmas.Bool.{leb-false, eqb-true, cond_both}
use Rattle.std.proofs.lemmas.Option.{none-some, same_Some}
use Rattle.reg_keys.specs.declared.limits.TheConstants.{STRIPES, LAST_COUNT}
use Rattle.reg_keys.specs.declared.opening.Opening.{Opening}
use Rattle.reg_keys.specs.declared.entry.OpenOutcome.TheVariants as Opens
use Rattle.reg_keys.specs.declared.entry.ReportOutcome.TheVariants as Reports
use Rattle.reg_keys.specs.declared.entry.RegisterOutcome.TheVariants as Registers
use Rattle.reg_keys.specs.declared.entry.DispatchOutcome.TheVariants as Dispatches
use Rattle.reg_keys.specs.declared.entry.Entry.{Entry}
use Rattle.reg_keys.specs.declared.entry.Entry.TheVariants.{Open, Report, Register, Withdraw, Ask, Dispatch}
use Rattle.reg_keys.specs.declared.entry.Entry.TheVariants.{Close}
use Rattle.reg_keys.specs.Histories.{count_after, is_it, owner_of}
use Rattle.reg_keys.specs.Replies.{is_spent, event_named, reply_of, IsLegal}
use Rattle.reg_keys.specs.OwnOpenings.{IsOpeningOf, IsNamedFor, NamesItsOwn, NamesOwnOpenings}
use Rattle.reg_keys.proofs.RightReplies.{next_opening, next_key, ran_by, event_case, open_case, report_case}
use Rattle.reg_keys.proofs.RightReplies.{register_case, withdraw_case, ask_case, dispatch_case, close_case}

module _ (s c : ℕ) (low : s < STRIPES) where
  abbrev OwnsOwn : List Entry → Type 0
  OwnsOwn past = (fd : ℕ) (o : Opening) → owner_of past fd ≡ Some o → IsOpeningOf s fd o

  -- the opening that is made next
  made : (past : List Entry) (fd : ℕ) → is_spent c past ≡ false → IsOpeningOf s fd (next_opening s c past fd)
  made past fd free =
      let lt = leb-false LAST_COUNT (count_after c past) free in
      record { descriptor = refl; stripe = omega arith; small = omega arith }

  named_for : (past : List Entry) (o : Opening) → IsNamedFor o (event_named s c past o)
  named_for past o = event_case s c past o (IsNamedFor o) (λ _ _. refl) (λ _. tt)

  opened_more : (past : List Entry) (own : OwnsOwn past) (fd : ℕ) (o : Opening) → IsOpeningOf s fd o
      → OwnsOwn (Open fd (Opens.Opened o) ∷ past)
  opened_more past own fd o of at p =
      cond_both (fd == at) (Some o) (owner_of past at) (λ w. w ≡ Some p → IsOpeningOf s at p)
      (λ here is. subst (λ (x : ℕ × Opening). IsOpeningOf s x.0 x.1)
      (λ i. (eqb-true fd at here i, same_Some o p is i)) of)
      (λ _ is. own at p is)

  -- a reply names its own, and so do the openings that have a descriptor after it
  abbrev Both : List Entry → Entry → Type 0
  Both past e = NamesItsOwn s e × OwnsOwn (e ∷ past)

  step : (past : List Entry) → OwnsOwn past → (e : Entry) → Both past (reply_of s c past e)
  step past own (Open fd x) =
      open_case s c past fd (λ y. Both past (Open fd y)) (λ o is. (own fd o is, own)) (λ _ _. (tt, own))
      (λ _ free. (made past fd free, opened_more past own fd (next_opening s c past fd) (made past fd free)))
  step past own (Report o ds x) =
      report_case s c past o ds (λ y. Both past (Report o ds y)) (λ _. (tt, own)) (λ _ _. (tt, own))
      (λ _ _. (named_for (Report o ds (Reports.Noted None) ∷ past) o, own))
  step past own (Register o d m kind x) =
      register_case s c past o d m kind (λ y. Both past (Register o d m kind y)) (λ _. (tt, own))
      (λ _ _. (tt, own)) (λ _ _ _. (tt, own))
      (λ _ _ _. (
        (omega arith, named_for (Register o d m kind (Registers.Waits (next_key s c past) None) ∷ past) o),
        own,
      ))
  step past own (Withdraw k x) =
      withdraw_case s c past k (λ y. Both past (Withdraw k y)) (λ _. (tt, own)) (λ _ _ _. (tt, own))
  step past own (Ask k x) =
      ask_case s c past k (λ y. Both past (Ask k y)) (λ _. (tt, own)) (λ _ _ _. (tt, own))
  step past own (Dispatch x y) =
      dispatch_case s c past x (λ y. Both past (Dispatch x y)) (λ _. (tt, own)) (λ _ _. (tt, own))
      (λ _ _. (named_for (Dispatch x (Dispatches.Ran (ran_by s c past x) None) ∷ past) x.opening, own))
  step past own (Close o x) = close_case s c past o (λ y. Both past (Close o y)) (λ _. (tt, own))
      (λ _. (
        tt,
        λ fd p.
            cond_both (is_it o (owner_of past fd)) None (owner_of past fd)
            (λ w. w ≡ Some p → IsOpeningOf s fd p)
            (λ _ is. absurd (none-some p is)) (λ _ is. own fd p is),
      ))

  pub names_own_openings : (past : List Entry) → IsLegal s c past → NamesOwnOpenings s past
  names_own_openings [] l = record { replies = λ e i. absurd i; owners = λ fd o is. absurd (none-some o is) }
  names_own_openings (x ∷ past) l =
      let r = names_own_openings past l.0 in
      let n : Both past x = subst (Both past) (sym l.1) (step past r.owners x) in
      record {
        replies =
            λ e i. ⊎_elim (λ (is : e ≡ x). subst (NamesItsOwn s) (sym is) n.0) (λ there. r.replies e there) i;
        owners = n.1;
      }
