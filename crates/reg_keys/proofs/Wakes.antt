-- Every lawful step of the device world keeps that no wake-up is lost.
use Rattle.std.proofs.Common.{◌≡◌, ℕ, ◌+◌, ◌-◌, ◌≤◌, ◌<◌, ◌⊎◌, ⊎_elim, inl, inr, List, [], ◌∷◌, true, false}
use Rattle.std.proofs.Common.{Bool, sym, refl, ap, ◌∙◌, subst, arith}
use Rattle.std.specs.Prelude.{Option, Some, None, if◌then◌else◌, ◌&&◌, ◌||◌, ◌==◌, not}
use Rattle.std.proofs.lemmas.Bool.{both_ways, cond_both, and_parts, and_from, or_left, or_right, eqb-true}
use Rattle.std.proofs.lemmas.Bool.{cases_Bool, cond-false, false_from_ne_true}
use Rattle.reg_keys.specs.declared.opening.Opening.{Opening}
use Rattle.reg_keys.specs.declared.event.EventName.{EventName}
use Rattle.reg_keys.specs.declared.registration.Key.{Key}
use Rattle.reg_keys.specs.declared.registration.Dir.{Dir}
use Rattle.reg_keys.specs.declared.registration.Dirs.{Dirs}
use Rattle.reg_keys.specs.declared.entry.LoadKind.{LoadKind}
use Rattle.reg_keys.specs.declared.entry.OpenOutcome.TheVariants as Opens
use Rattle.reg_keys.specs.declared.entry.ReportOutcome.TheVariants as Reports
use Rattle.reg_keys.specs.declared.entry.RegisterOutcome.{RegisterOutcome}
use Rattle.reg_keys.specs.declared.entry.RegisterOutcome.TheVariants as Registers
use Rattle.reg_keys.specs.declared.entry.WithdrawOutcome.TheVariants as Withdraws
use Rattle.reg_keys.specs.declared.entry.DispatchOutcome.TheVariants as Dispatches
use Rattle.reg_keys.specs.declared.entry.CloseOutcome.TheVariants as Closes
use Rattle.reg_keys.specs.declared.entry.Entry.{Entry}
use Rattle.reg_keys.specs.declared.entry.Entry.TheVariants.{Open, Report, Register, Withdraw, Ask, Dispatch}
use Rattle.reg_keys.specs.declared.entry.Entry.TheVariants.{Close}
use Rattle.reg_keys.specs.Tests.{same, same_key, same_dir, has_dir}
use Rattle.reg_keys.specs.Histories.{count_after, next_number, is_live, mark_of, names_mark, ready_bits}
use Rattle.reg_keys.specs.Histories.{Registered, waiting}
use Rattle.reg_keys.specs.Replies.{event_named, ask_reply, reply_of, IsLegal}
use Rattle.reg_keys.specs.World.{World, first_world, WorldStep, Ready, Use, Poll, MakeReport, Blocked, Call}
use Rattle.reg_keys.specs.World.{hands_left, tries_left, by_dir, truth_opened, world_after, MayCall, MayCome}
use Rattle.reg_keys.specs.World.{world_at, IsLawful, IsComing, LosesNoWakeUp}
use Rattle.reg_keys.specs.ListLaws.{same_is, same_self, same_key_self, same_dir_is, in_some}
use Rattle.reg_keys.proofs.RightReplies.{next_opening, next_key, ran_by, shut_by, open_case, report_case}
use Rattle.reg_keys.proofs.RightReplies.{register_case, withdraw_case, dispatch_case, close_case}
use Rattle.reg_keys.proofs.Sound.{sound, named_more, live_opened, live_closed}
use Rattle.reg_keys.proofs.Reuse.{legal_before}
use Rattle.reg_keys.proofs.Marking.{mark_old, mark_grows}

-- ---- one opening and direction, at which a table is changed where b holds

used_at : (b t : Bool) (X : Type 0) → (t ≡ true → X) → (if b then false else t) ≡ true → X
used_at true t X f on = absurd (both_ways false refl on)
used_at false t X f on = f on

module _ {C : Type 0} where
  ready_at : (b t : Bool) (n h : ℕ) → (t ≡ true → ((1 ≤ n) ⊎ (1 ≤ h)) ⊎ C) → (if b then true else t) ≡ true
      → ((1 ≤ (if b then n + 1 else n)) ⊎ (1 ≤ h)) ⊎ C
  ready_at true t n h f on = inl (inl (omega arith))
  ready_at false t n h f on = f on

  polled_at : (b : Bool) (n h k : ℕ) → ((1 ≤ n) ⊎ (1 ≤ h)) ⊎ C
      → ((1 ≤ (if b then n - k else n)) ⊎ (1 ≤ (if b then h + 1 else h))) ⊎ C
  polled_at true n h k f = inl (inr (omega arith))
  polled_at false n h k f = f

  -- a report takes a hand, and then the direction is no longer to come but is reported
  noted_at : (b : Bool) (n h : ℕ) → (b ≡ true → C) → ((1 ≤ n) ⊎ (1 ≤ h)) ⊎ C
      → ((1 ≤ n) ⊎ (1 ≤ (if b then h - 1 else h))) ⊎ C
  noted_at true n h told f = inr (told refl)
  noted_at false n h told f = f

  -- a hand stays where the report doesn't name its direction
  kept_at : (b : Bool) (n h : ℕ) → b ≡ false → ((1 ≤ n) ⊎ (1 ≤ h)) ⊎ C
      → ((1 ≤ n) ⊎ (1 ≤ (if b then h - 1 else h))) ⊎ C
  kept_at true n h off f = absurd (both_ways true off refl)
  kept_at false n h off f = f

-- what is known of a world that began with nothing
pub record Awake (s c : ℕ) (w : World) : Type 0 where
  pub ready : (o : Opening) (d : Dir) → is_live w.past o ≡ true → w.truth o d ≡ true
      → IsComing w o d ⊎ (ready_bits s c w.past o d ≡ true)
  pub tried : (o : Opening) (d : Dir) (m : ℕ) → 1 ≤ w.tries o d m → is_live w.past o ≡ true
      → w.truth o d ≡ true → IsComing w o d ⊎ (m < mark_of s c w.past o d)
  pub marks : (o : Opening) (d : Dir) (m : ℕ) → 1 ≤ w.tries o d m → is_live w.past o ≡ true
      → m ≤ mark_of s c w.past o d
  -- who tried, tried an opening that was made
  pub old : (o : Opening) (d : Dir) (m : ℕ) → 1 ≤ w.tries o d m → o.number < next_number s c w.past

module _ (s c : ℕ) where
  -- ---- steps of the devices

  ready_step : (w : World) → Awake s c w → (o : Opening) (d : Dir) → Awake s c (world_after s c w (Ready o d))
  ready_step w r o d = record {
    ready =
        λ p e live on.
        ready_at (same o p && same_dir d e) (w.truth p e) (w.edges p e) (w.hands p e)
        (λ t. r.ready p e live t) on;
    tried =
        λ p e m i live on.
        ready_at (same o p && same_dir d e) (w.truth p e) (w.edges p e) (w.hands p e)
        (λ t. r.tried p e m i live t) on;
    marks = r.marks;
    old = r.old;
  }

  use_step : (w : World) → Awake s c w → (o : Opening) (d : Dir) → Awake s c (world_after s c w (Use o d))
  use_step w r o d = record {
    ready = λ p e live on. used_at (same o p && same_dir d e) (w.truth p e) _ (λ t. r.ready p e live t) on;
    tried =
        λ p e m i live on.
        used_at (same o p && same_dir d e) (w.truth p e) _ (λ t. r.tried p e m i live t) on;
    marks = r.marks;
    old = r.old;
  }

  poll_step : (w : World) → Awake s c w → (o : Opening) (d : Dir) (n : ℕ)
      → Awake s c (world_after s c w (Poll o d n))
  poll_step w r o d n = record {
    ready =
        λ p e live on.
        polled_at (same o p && same_dir d e) (w.edges p e) (w.hands p e) n (r.ready p e live on);
    tried =
        λ p e m i live on.
        polled_at (same o p && same_dir d e) (w.edges p e) (w.hands p e) n (r.tried p e m i live on);
    marks = r.marks;
    old = r.old;
  }

  -- a try is new, or was there
  try_cases : (b : Bool) (n : ℕ) → 1 ≤ (if b then n + 1 else n) → (b ≡ true) ⊎ (1 ≤ n)
  try_cases true n h = inl refl
  try_cases false n h = inr h

  blocked_step : (w : World) → IsLegal s c w.past → Awake s c w → (o : Opening) (d : Dir) (m : ℕ)
      → MayCome s c w (Blocked o d m) → Awake s c (world_after s c w (Blocked o d m))
  blocked_step w l r o d m may =
      let split = may.1 in
      let grown = mark_grows s c o d split.0 split.1 (subst (IsLegal s c) split.2 l)
      ((sound s c split.1 (legal_before s c split.0 split.1 (subst (IsLegal s c) split.2 l))).live_old
      o split.3) in
      let here : (p : Opening) (e : Dir) (n : ℕ) → (same o p && same_dir d e && (m == n)) ≡ true
      → (o ≡ p) × (d ≡ e) × (m ≡ n) = λ p e n h.
      let a = and_parts (same o p && same_dir d e) (m == n) h in
      let b = and_parts (same o p) (same_dir d e) a.0 in
      (same_is o p b.0, same_dir_is d e b.1, eqb-true m n a.1) in
      record {
        ready = r.ready;
        tried =
            λ p e n i live on. ⊎_elim (λ h. let q =
            here p e n h in absurd (both_ways (w.truth p e)
            (ap (λ (x : Opening). w.truth x e) (sym q.0) ∙ (ap (w.truth o) (sym q.1) ∙ may.0)) on))
            (λ h. r.tried p e n h live on)
            (try_cases (same o p && same_dir d e && (m == n)) (w.tries p e n) i);
        marks =
            λ p e n i live.
            ⊎_elim (λ h.
            let q = here p e n h in
            subst (λ (x : Opening). n ≤ mark_of s c w.past x e) q.0 (subst
            (λ (x : Dir). n ≤ mark_of s c w.past o x) q.1 (subst (λ (x : ℕ). x ≤ mark_of s c w.past o d) q.2
            (let le = grown.1 in
            let is = split.4 in
            let mark = ap (λ (h : List Entry). mark_of s c h o d) split.2 in
            omega arith))))
            (λ h. r.marks p e n h live) (try_cases (same o p && same_dir d e && (m == n)) (w.tries p e n) i);
        old =
            λ p e n i. ⊎_elim (λ h. let q =
            here p e n h in subst (λ (x : Opening). x.number < next_number s c w.past) q.0 (let a = grown.0 in
            let b = ap (next_number s c) split.2 in
            omega arith))
            (λ h. r.old p e n h) (try_cases (same o p && same_dir d e && (m == n)) (w.tries p e n) i);
      }

  -- ---- reports

  stale_step : (w : World) → Awake s c w → (o : Opening) (ds : Dirs) → is_live w.past o ≡ false → Awake s c
      (record w { past = Report o ds Reports.Stale ∷ w.past; hands = hands_left Reports.Stale o ds w.hands })
  stale_step w r o ds dead =
      let not_it : (p : Opening) (e : Dir) → is_live w.past p ≡ true → (same o p && has_dir ds e) ≡ true
      → ⊥ = λ p e live h. both_ways (is_live w.past o) dead (subst (λ (x : Opening). is_live w.past x ≡ true)
      (sym (same_is o p (and_parts (same o p) (has_dir ds e) h).0)) live) in
      record {
        ready =
            λ p e live on.
            noted_at (same o p && has_dir ds e) (w.edges p e) (w.hands p e) (λ h. absurd (not_it p e live h))
            (r.ready p e live on);
        tried =
            λ p e m i live on.
            noted_at (same o p && has_dir ds e) (w.edges p e) (w.hands p e) (λ h. absurd (not_it p e live h))
            (r.tried p e m i live on);
        marks = r.marks;
        old = r.old;
      }

  -- a bit that a report may set
  set_or : {X : Type 0} (b t : Bool) → X ⊎ (t ≡ true) → X ⊎ ((b || t) ≡ true)
  set_or b t f = ⊎_elim (λ x. inl x) (λ h. inr (or_right b t h)) f

  noted_step : (w : World) → IsLegal s c w.past → Awake s c w
      → (o : Opening) (ds : Dirs) (x : Option EventName) → Awake s c (record w {
        past = Report o ds (Reports.Noted x) ∷ w.past;
        hands = hands_left (Reports.Noted x) o ds w.hands;
      })
  noted_step w l r o ds x = let more = named_more x (count_after c w.past + 1) in record {
    ready =
        λ p e live on.
        noted_at (same o p && has_dir ds e) (w.edges p e) (w.hands p e)
        (λ h. or_left (same o p && has_dir ds e) (ready_bits s c w.past p e) h)
        (set_or (same o p && has_dir ds e) (ready_bits s c w.past p e) (r.ready p e live on));
    tried =
        λ p e m i live on.
        let le = r.marks p e m i live in
        let lt = mark_old s c p e w.past l (r.old p e m i) in
        cond_both (same o p && has_dir ds e) (next_number s c w.past) (mark_of s c w.past p e)
        (λ n. ((1 ≤ w.edges p e) ⊎ (1 ≤ hands_left (Reports.Noted x) o ds w.hands p e)) ⊎ (m < n))
        (λ _. inr (omega arith))
        (λ h. kept_at (same o p && has_dir ds e) (w.edges p e) (w.hands p e) h (r.tried p e m i live on));
    marks =
        λ p e m i live.
        let le = r.marks p e m i live in
        let lt = mark_old s c p e w.past l (r.old p e m i) in
        cond_both (same o p && has_dir ds e) (next_number s c w.past) (mark_of s c w.past p e)
        (λ n. m ≤ n) (λ _. omega arith) (λ _. le);
    old = λ p e m i. let a = r.old p e m i in omega arith;
  }

  report_step : (w : World) → IsLegal s c w.past → Awake s c w → (o : Opening) (ds : Dirs)
      → Awake s c (world_after s c w (MakeReport o ds))
  report_step w l r o ds =
      report_case s c w.past o ds
      (λ y. Awake s c (record w { past = Report o ds y ∷ w.past; hands = hands_left y o ds w.hands }))
      (λ dead. stale_step w r o ds dead)
      (λ _ _. record { ready = r.ready; tried = r.tried; marks = r.marks; old = r.old })
      (λ _ _. noted_step w l r o ds (event_named s c (Report o ds (Reports.Noted None) ∷ w.past) o))

  -- ---- calls

  -- a call that changes no bit, mark or truth, and after which no more is live
  plain : (w : World) → Awake s c w → (e : Entry) (tries : Opening → Dir → ℕ → ℕ)
      → next_number s c w.past ≤ next_number s c (e ∷ w.past)
      → ((o : Opening) → is_live (e ∷ w.past) o ≡ true → is_live w.past o ≡ true)
      → ((o : Opening) (d : Dir) → ready_bits s c (e ∷ w.past) o d ≡ ready_bits s c w.past o d)
      → ((o : Opening) (d : Dir) → mark_of s c (e ∷ w.past) o d ≡ mark_of s c w.past o d)
      → ((o : Opening) (d : Dir) (m : ℕ) → tries o d m ≤ w.tries o d m)
      → Awake s c (record w { past = e ∷ w.past; tries = tries })
  plain w r e tries le live bits mark fewer = record {
    ready = λ o d l on. ⊎_elim (λ x. inl x) (λ x. inr (bits o d ∙ x)) (r.ready o d (live o l) on);
    tried =
        λ o d m i l on.
        let a = fewer o d m in
        let is = mark o d in
        ⊎_elim (λ x. inl x) (λ x. inr (omega arith)) (r.tried o d m (omega arith) (live o l) on);
    marks =
        λ o d m i l.
        let a = fewer o d m in
        let is = mark o d in
        let b = r.marks o d m (omega arith) (live o l) in
        omega arith;
    old = λ o d m i.
        let a = fewer o d m in
        let b = r.old o d m (omega arith) in omega arith;
  }

  opened_step : (w : World) → Awake s c w → (fd : ℕ) (a b : Bool)
      → let o : Opening = next_opening s c w.past fd in
      Awake s c (record w {
        past = Open fd (Opens.Opened o) ∷ w.past;
        truth = truth_opened (Open fd (Opens.Opened o)) a b w.truth;
      })
  opened_step w r fd a b =
      let o : Opening = next_opening s c w.past fd in
      let here = Open fd (Opens.Opened o) in
      let other : (p : Opening) → p.number < next_number s c w.past → same o p ≡ true → ⊥ = λ p lt h.
      let n : o.number ≡ p.number = ap (λ (z : Opening). z.number) (same_is o p h) in
      omega arith in
      let was_live : (p : Opening) → p.number < next_number s c w.past → is_live (here ∷ w.past) p ≡ true
      → is_live w.past p ≡ true = λ p lt l. ⊎_elim (λ is. let n : o.number ≡ p.number =
      ap (λ (z : Opening). z.number) is in absurd (omega arith)) (λ x. x) (live_opened w.past fd o p l) in
      record {
        ready =
            λ p e l on.
            ⊎_elim (λ (h : same o p ≡ true). inr (or_left (same o p) (ready_bits s c w.past p e) h))
            (λ (h : same o p ≡ false). let was = ⊎_elim (λ (is : o ≡ p).
            absurd (both_ways (same o p) h (subst (λ (x : Opening). same o x ≡ true) is (same_self o)))) (λ x.
            x) (live_opened w.past fd o p l) in
            set_or (same o p) (ready_bits s c w.past p e)
            (r.ready p e was (sym (cond-false (same o p) (by_dir a b e) (w.truth p e) h) ∙ on)))
            (cases_Bool (same o p));
        tried =
            λ p e m i l on.
            let lt = r.old p e m i in
            let off = false_from_ne_true (same o p) (other p lt) in
            subst (λ (n : ℕ). IsComing w p e ⊎ (m < n))
            (sym (cond-false (same o p) p.number (mark_of s c w.past p e) off))
            (r.tried p e m i (was_live p lt l)
            (sym (cond-false (same o p) (by_dir a b e) (w.truth p e) off) ∙ on));
        marks =
            λ p e m i l.
            let lt = r.old p e m i in
            let off = false_from_ne_true (same o p) (other p lt) in
            subst (λ (n : ℕ). m ≤ n) (sym (cond-false (same o p) p.number (mark_of s c w.past p e) off))
            (r.marks p e m i (was_live p lt l));
        old = λ p e m i. let lt = r.old p e m i in omega arith;
      }

  -- fewer tries are left
  fewer_tries : (e : Entry) (tries : Opening → Dir → ℕ → ℕ) (p : Opening) (x : Dir) (n : ℕ)
      → tries_left e tries p x n ≤ tries p x n
  fewer_tries (Register o d (Some m) kind r) tries p x n =
      cond_both (same o p && same_dir d x && (m == n)) (tries p x n - 1) (tries p x n)
      (λ k. k ≤ tries p x n) (λ _. omega arith) (λ _. omega arith)
  fewer_tries (Register o d None kind r) tries p x n = omega arith
  fewer_tries (Open fd r) tries p x n = omega arith
  fewer_tries (Report o ds r) tries p x n = omega arith
  fewer_tries (Withdraw k r) tries p x n = omega arith
  fewer_tries (Ask k r) tries p x n = omega arith
  fewer_tries (Dispatch y r) tries p x n = omega arith
  fewer_tries (Close o r) tries p x n = omega arith

  -- a bit that a registration clears where b holds
  cleared_at : {X : Type 0} (b t : Bool) → (b ≡ true → X) → X ⊎ (t ≡ true) → X ⊎ ((not b && t) ≡ true)
  cleared_at true t cleared f = inl (cleared refl)
  cleared_at false t cleared f = f

  named_some : (now : ℕ) (m : Option ℕ) → names_mark now m ≡ true → m ≡ Some now
  named_some now None h = absurd (both_ways false refl h)
  named_some now (Some m) h = ap (λ (n : ℕ). Some n) (eqb-true m now h)

  waits_step : (w : World) → Awake s c w
      → (o : Opening) (d : Dir) (m : Option ℕ) (kind : LoadKind) (r0 : RegisterOutcome)
      → MayCall w (Register o d m kind r0) → (k : Key) (x : Option EventName) → Awake s c (record w {
        past = Register o d m kind (Registers.Waits k x) ∷ w.past;
        tries = tries_left (Register o d m kind r0) w.tries;
      })
  waits_step w r o d m kind r0 may k x = let more = named_more x (count_after c w.past + 1) in record {
    ready =
        λ p e l on. cleared_at (same o p && same_dir d e && names_mark (mark_of s c w.past o d) m)
        (ready_bits s c w.past p e) (λ h.
        let a = and_parts (same o p && same_dir d e) (names_mark (mark_of s c w.past o d) m) h in
        let b = and_parts (same o p) (same_dir d e) a.0 in
        cleared p e l on (same_is o p b.0) (same_dir_is d e b.1) (named_some (mark_of s c w.past o d) m a.1))
        (r.ready p e l on);
    tried =
        λ p e n i l on.
        let a = fewer_tries (Register o d m kind r0) w.tries p e n in
        r.tried p e n (omega arith) l on;
    marks =
        λ p e n i l.
        let a = fewer_tries (Register o d m kind r0) w.tries p e n in
        r.marks p e n (omega arith) l;
    old =
        λ p e n i.
        let a = fewer_tries (Register o d m kind r0) w.tries p e n in
        let b = r.old p e n (omega arith) in
        omega arith;
  }
    where
      -- who names the mark of now holds a try with it, and nothing was reported since
      cleared : (p : Opening) (e : Dir) → is_live w.past p ≡ true → w.truth p e ≡ true → o ≡ p
          → d ≡ e → m ≡ Some (mark_of s c w.past o d) → IsComing w p e
      cleared p e l on op de is =
          let held : 1 ≤ w.tries o d (mark_of s c w.past o d) =
          subst (λ (y : Option ℕ). MayCall w (Register o d y kind r0)) is may in
          let there : 1 ≤ w.tries p e (mark_of s c w.past p e) =
          subst (λ (y : Opening). 1 ≤ w.tries y e (mark_of s c w.past y e)) op
          (subst (λ (y : Dir). 1 ≤ w.tries o y (mark_of s c w.past o y)) de held) in
          ⊎_elim (λ x. x) (λ x. absurd (omega arith)) (r.tried p e (mark_of s c w.past p e) there l on)

  call_step : (w : World) → IsLegal s c w.past → Awake s c w → (e : Entry) (a b : Bool) → MayCall w e
      → Awake s c (world_after s c w (Call e a b))
  call_step w l r (Open fd x) a b may =
      open_case s c w.past fd
      (λ y. Awake s c (record w { past = Open fd y ∷ w.past; truth = truth_opened (Open fd y) a b w.truth }))
      (λ o _. plain w r (Open fd (Opens.Taken o)) w.tries (omega arith) (λ _ h. h) (λ _ _. refl)
      (λ _ _. refl) (λ _ _ _. omega arith))
      (λ _ _. plain w r (Open fd Opens.Spent) w.tries (omega arith)
      (λ _ h. h) (λ _ _. refl) (λ _ _. refl) (λ _ _ _. omega arith))
      (λ _ _. opened_step w r fd a b)
  call_step w l r (Report o ds x) a b may = absurd may
  call_step w l r (Register o d m kind x) a b may =
      let call = Register o d m kind x in
      register_case s c w.past o d m kind
      (λ y. Awake s c (record w { past = Register o d m kind y ∷ w.past; tries = tries_left call w.tries }))
      (λ _. plain w r (Register o d m kind Registers.Shut) (tries_left call w.tries)
      (omega arith) (λ _ h. h) (λ _ _. refl) (λ _ _. refl) (fewer_tries call w.tries))
      (λ _ _. plain w r (Register o d m kind Registers.Crowded) (tries_left call w.tries) (omega arith)
      (λ _ h. h) (λ _ _. refl) (λ _ _. refl) (fewer_tries call w.tries))
      (λ _ _ _. plain w r (Register o d m kind Registers.Spent) (tries_left call w.tries) (omega arith)
      (λ _ h. h) (λ _ _. refl) (λ _ _. refl) (fewer_tries call w.tries))
      (λ _ _ _. waits_step w r o d m kind x may (next_key s c w.past)
      (event_named s c (Register o d m kind (Registers.Waits (next_key s c w.past) None) ∷ w.past) o))
  call_step w l r (Withdraw k x) a b may =
      withdraw_case s c w.past k (λ y. Awake s c (record w { past = Withdraw k y ∷ w.past }))
      (λ _. plain w r (Withdraw k Withdraws.Gone) w.tries (omega arith) (λ _ h. h) (λ _ _. refl)
      (λ _ _. refl) (λ _ _ _. omega arith))
      (λ v _ _. plain w r (Withdraw k (Withdraws.Back v.kind)) w.tries (omega arith) (λ _ h. h)
      (λ _ _. refl) (λ _ _. refl) (λ _ _ _. omega arith))
  call_step w l r (Ask k x) a b may =
      plain w r (Ask k (ask_reply w.past k)) w.tries (omega arith) (λ _ h. h) (λ _ _. refl)
      (λ _ _. refl) (λ _ _ _. omega arith)
  call_step w l r (Dispatch x y) a b may =
      dispatch_case s c w.past x (λ y. Awake s c (record w { past = Dispatch x y ∷ w.past }))
      (λ _. plain w r (Dispatch x Dispatches.Stale) w.tries (omega arith) (λ _ h. h) (λ _ _. refl)
      (λ _ _. refl) (λ _ _ _. omega arith))
      (λ _ _. plain w r (Dispatch x Dispatches.Spent) w.tries (omega arith) (λ _ h. h)
      (λ _ _. refl) (λ _ _. refl) (λ _ _ _. omega arith))
      (λ _ _.
      let n = event_named s c (Dispatch x (Dispatches.Ran (ran_by s c w.past x) None) ∷ w.past) x.opening in
      let more = named_more n (count_after c w.past) in
      plain w r (Dispatch x (Dispatches.Ran (ran_by s c w.past x) n)) w.tries (omega arith)
      (λ _ h. h) (λ _ _. refl) (λ _ _. refl) (λ _ _ _. omega arith))
  call_step w l r (Close o x) a b may =
      close_case s c w.past o (λ y. Awake s c (record w { past = Close o y ∷ w.past }))
      (λ _. plain w r (Close o Closes.NotOpen) w.tries (omega arith) (λ _ h. h) (λ _ _. refl)
      (λ _ _. refl) (λ _ _ _. omega arith))
      (λ _. plain w r (Close o (Closes.Shut (shut_by s c w.past o))) w.tries (omega arith) (λ p h.
      (live_closed w.past o p (shut_by s c w.past o) h).0) (λ _ _. refl) (λ _ _. refl) (λ _ _ _. omega arith))

  -- ---- every step

  right_twice : (past : List Entry) (e : Entry)
      → reply_of s c past e ≡ reply_of s c past (reply_of s c past e)
  right_twice past (Open fd r) = refl
  right_twice past (Report o ds r) = refl
  right_twice past (Register o d m kind r) = refl
  right_twice past (Withdraw k r) = refl
  right_twice past (Ask k r) = refl
  right_twice past (Dispatch x r) = refl
  right_twice past (Close o r) = refl

  legal_step : (w : World) → IsLegal s c w.past → (x : WorldStep) → IsLegal s c (world_after s c w x).past
  legal_step w l (Ready o d) = l
  legal_step w l (Use o d) = l
  legal_step w l (Poll o d n) = l
  legal_step w l (MakeReport o ds) = (l, refl)
  legal_step w l (Blocked o d m) = l
  legal_step w l (Call e a b) = (l, right_twice w.past e)

  step : (w : World) → IsLegal s c w.past → Awake s c w → (x : WorldStep) → MayCome s c w x
      → Awake s c (world_after s c w x)
  step w l r (Ready o d) may = ready_step w r o d
  step w l r (Use o d) may = use_step w r o d
  step w l r (Poll o d n) may = poll_step w r o d n
  step w l r (MakeReport o ds) may = report_step w l r o ds
  step w l r (Blocked o d m) may = blocked_step w l r o d m may
  step w l r (Call e a b) may = call_step w l r e a b may

  awake_at : (w : World) → IsLegal s c w.past → Awake s c w → (xs : List WorldStep) → IsLawful s c w xs
      → IsLegal s c (world_at s c w xs).past × Awake s c (world_at s c w xs)
  awake_at w l r [] h = (l, r)
  awake_at w l r (x ∷ xs) h = awake_at (world_after s c w x) (legal_step w l x) (step w l r x h.0) xs h.1

  wakes : (w : World) → IsLegal s c w.past → Awake s c w → LosesNoWakeUp s c w
  wakes w l r = record {
    ready = r.ready;
    tried = r.tried;
    marks = r.marks;
    wakes =
        λ v i on. ⊎_elim (λ x. inl x) (λ x.
        inr (in_some (λ (u : Registered). same_key u.key v.key && ready_bits s c w.past u.opening u.dir) v
        (waiting w.past) i
        (and_from (same_key v.key v.key) (ready_bits s c w.past v.opening v.dir) (same_key_self v.key) x)))
        (r.ready v.opening v.dir ((sound s c w.past l).held v i).live on);
  }

  pub loses_no_wake_up : (truth : Opening → Dir → Bool) (xs : List WorldStep)
      → IsLawful s c (first_world truth) xs → LosesNoWakeUp s c (world_at s c (first_world truth) xs)
  loses_no_wake_up truth xs h = let a = awake_at (first_world truth) tt (record {
    ready = λ o d live on. absurd (both_ways false refl live);
    tried = λ o d m i live on. absurd (both_ways false refl live);
    marks = λ o d m i live. absurd (both_ways false refl live);
    old = λ o d m i. absurd (omega arith);
  }) xs h in
      wakes (world_at s c (first_world truth) xs) a.0 a.1
