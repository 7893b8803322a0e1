-- A mark is an opening's number or older than the next number, and it never falls while the opening is live.
use Rattle.std.proofs.Common.{◌≡◌, ℕ, ◌+◌, ◌≤◌, ◌<◌, ◌⊎◌, ⊎_elim, inl, inr, List, [], ◌∷◌, ◌++◌, sym, refl}
use Rattle.std.proofs.Common.{ap, ◌∙◌, subst, arith}
use Rattle.std.specs.Prelude.{Option, None, ◌&&◌}
use Rattle.std.proofs.lemmas.Bool.{cond_both}
use Rattle.reg_keys.specs.declared.opening.Opening.{Opening}
use Rattle.reg_keys.specs.declared.event.EventName.{EventName}
use Rattle.reg_keys.specs.declared.registration.Dir.{Dir}
use Rattle.reg_keys.specs.declared.registration.Dirs.{Dirs}
use Rattle.reg_keys.specs.declared.entry.OpenOutcome.TheVariants as Opens
use Rattle.reg_keys.specs.declared.entry.ReportOutcome.TheVariants as Reports
use Rattle.reg_keys.specs.declared.entry.RegisterOutcome.TheVariants as Registers
use Rattle.reg_keys.specs.declared.entry.DispatchOutcome.TheVariants as Dispatches
use Rattle.reg_keys.specs.declared.entry.Entry.{Entry}
use Rattle.reg_keys.specs.declared.entry.Entry.TheVariants.{Open, Report, Register, Withdraw, Ask, Dispatch}
use Rattle.reg_keys.specs.declared.entry.Entry.TheVariants.{Close}
use Rattle.reg_keys.specs.Tests.{same, has_dir}
use Rattle.reg_keys.specs.Histories.{count_after, next_number, mark_of}
use Rattle.reg_keys.specs.Replies.{event_named, reply_of, IsLegal}
use Rattle.reg_keys.specs.ListLaws.{same_is}
use Rattle.reg_keys.proofs.RightReplies.{next_opening, next_key, ran_by, open_case, report_case}
use Rattle.reg_keys.proofs.RightReplies.{register_case, withdraw_case, dispatch_case, close_case}
use Rattle.reg_keys.proofs.Sound.{named_more}

module _ (s c : ℕ) (o : Opening) (d : Dir) where
  -- the number of a report is drawn by it
  report_more : (past : List Entry) (p : Opening) (ds : Dirs) (e : Option EventName)
      → next_number s c past < next_number s c (Report p ds (Reports.Noted e) ∷ past)
  report_more past p ds e = let a = named_more e (count_after c past + 1) in omega arith

  -- what an entry does to the numbers and to this mark: the numbers grow, and the mark stays, is the
  -- opening's number, or is the next one
  abbrev Marked : List Entry → Entry → Type 0
  Marked past e =
      (next_number s c past ≤ next_number s c (e ∷ past))
      × ((mark_of s c (e ∷ past) o d ≡ mark_of s c past o d)
      ⊎ (((mark_of s c (e ∷ past) o d ≡ o.number) × (next_number s c past ≡ o.number))
      ⊎ ((mark_of s c (e ∷ past) o d ≡ next_number s c past)
      × (next_number s c past < next_number s c (e ∷ past)))))

  opened_marked : (past : List Entry) (fd : ℕ)
      → Marked past (Open fd (Opens.Opened (next_opening s c past fd)))
  opened_marked past fd = (
    omega arith,
    cond_both (same (next_opening s c past fd) o) o.number (mark_of s c past o d)
        (λ n. (n ≡ mark_of s c past o d) ⊎ (((n ≡ o.number) × (next_number s c past ≡ o.number))
        ⊎ ((n ≡ next_number s c past)
        × (next_number s c past
        < next_number s c (Open fd (Opens.Opened (next_opening s c past fd)) ∷ past)))))
        (λ is. inr (inl (refl, ap (λ (z : Opening). z.number) (same_is (next_opening s c past fd) o is))))
        (λ _. inl refl),
  )

  noted_marked : (past : List Entry) (p : Opening) (ds : Dirs) (e : Option EventName)
      → Marked past (Report p ds (Reports.Noted e))
  noted_marked past p ds e = let a = report_more past p ds e in (
    omega arith,
    cond_both (same p o && has_dir ds d) (next_number s c past) (mark_of s c past o d)
        (λ n. (n ≡ mark_of s c past o d) ⊎ (((n ≡ o.number) × (next_number s c past ≡ o.number))
        ⊎ ((n ≡ next_number s c past)
        × (next_number s c past < next_number s c (Report p ds (Reports.Noted e) ∷ past)))))
        (λ _. inr (inr (refl, a))) (λ _. inl refl),
  )

  marked : (past : List Entry) (e : Entry) → Marked past (reply_of s c past e)
  marked past (Open fd x) =
      open_case s c past fd (λ y. Marked past (Open fd y)) (λ _ _. (omega arith, inl refl))
      (λ _ _. (omega arith, inl refl)) (λ _ _. opened_marked past fd)
  marked past (Report p ds x) =
      report_case s c past p ds (λ y. Marked past (Report p ds y))
      (λ _. (omega arith, inl refl)) (λ _ _. (omega arith, inl refl))
      (λ _ _. noted_marked past p ds (event_named s c (Report p ds (Reports.Noted None) ∷ past) p))
  marked past (Register p x m kind r) =
      register_case s c past p x m kind (λ y. Marked past (Register p x m kind y))
      (λ _. (omega arith, inl refl)) (λ _ _. (omega arith, inl refl)) (λ _ _ _. (omega arith, inl refl))
      (λ _ _ _. let a = named_more (event_named s c
      (Register p x m kind (Registers.Waits (next_key s c past) None) ∷ past) p) (count_after c past + 1) in
      (omega arith, inl refl))
  marked past (Withdraw k x) =
      withdraw_case s c past k (λ y. Marked past (Withdraw k y)) (λ _. (omega arith, inl refl))
      (λ _ _ _. (omega arith, inl refl))
  marked past (Ask k x) = (omega arith, inl refl)
  marked past (Dispatch x y) =
      dispatch_case s c past x (λ y. Marked past (Dispatch x y)) (λ _. (omega arith, inl refl))
      (λ _ _. (omega arith, inl refl))
      (λ _ _. let a = named_more (event_named s c
      (Dispatch x (Dispatches.Ran (ran_by s c past x) None) ∷ past) x.opening) (count_after c past) in
      (omega arith, inl refl))
  marked past (Close p x) =
      close_case s c past p (λ y. Marked past (Close p y)) (λ _. (omega arith, inl refl))
      (λ _. (omega arith, inl refl))

  -- a mark of an opening that was made is older than the next number
  mark_or_old : (past : List Entry) → IsLegal s c past
      → (mark_of s c past o d ≡ o.number) ⊎ (mark_of s c past o d < next_number s c past)
  mark_or_old [] l = inl refl
  mark_or_old (e ∷ past) l =
      let a = subst (Marked past) (sym l.1) (marked past e) in
      let le = a.0 in ⊎_elim
      (λ same. ⊎_elim (λ x. inl (same ∙ x)) (λ x. inr (omega arith)) (mark_or_old past l.0))
      (λ b. ⊎_elim (λ x. inl x.0) (λ x.
      let y = x.0 in
      let z = x.1 in inr (omega arith)) b) a.1

  pub mark_old : (past : List Entry) → IsLegal s c past → o.number < next_number s c past
      → mark_of s c past o d < next_number s c past
  mark_old past l old = ⊎_elim (λ x. omega arith) (λ x. x) (mark_or_old past l)

  -- a mark of an opening that was made never falls
  pub mark_grows : (later past : List Entry) → IsLegal s c (later ++ past)
      → o.number < next_number s c past → (o.number < next_number s c (later ++ past))
      × (mark_of s c past o d ≤ mark_of s c (later ++ past) o d)
  mark_grows [] past l old = (old, omega arith)
  mark_grows (e ∷ later) past l old =
      let r = mark_grows later past l.0 old in
      let older = r.0 in
      let le = r.1 in
      let a = subst (Marked (later ++ past)) (sym l.1) (marked (later ++ past) e) in
      let more = a.0 in
      let m = mark_old (later ++ past) l.0 older in (
        omega arith,
        ⊎_elim (λ x. omega arith) (λ b. ⊎_elim (λ x. let y = x.1 in absurd (omega arith)) (λ x. let y =
            x.0 in omega arith) b) a.1,
      )
