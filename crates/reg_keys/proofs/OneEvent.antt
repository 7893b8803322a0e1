-- Each legal entry keeps at most one event out for each opening, and one where a key is due.
use Rattle.std.proofs.Common.{◌≡◌, ℕ, ◌≤◌, ⊎_elim, List, [], ◌∷◌, ◌++◌, true, false, Bool, sym, refl, ap, ◌∙◌}
use Rattle.std.proofs.Common.{subst, arith}
use Rattle.std.specs.Prelude.{Option, None, not, ◌&&◌, ◌==◌}
use Rattle.std.specs.List.{list_any}
use Rattle.std.proofs.lemmas.Bool.{both_ways, or_cases, and_parts, and_from, cases_Bool, not-true}
use Rattle.std.proofs.lemmas.Bool.{not_from_false, false_from_ne_true, and_left, and_right}
use Rattle.reg_keys.specs.declared.opening.Opening.{Opening}
use Rattle.reg_keys.specs.declared.event.EventName.{EventName}
use Rattle.reg_keys.specs.declared.registration.Key.{Key}
use Rattle.reg_keys.specs.declared.registration.Dir.{Dir}
use Rattle.reg_keys.specs.declared.registration.Dir.TheVariants.{Read, Write}
use Rattle.reg_keys.specs.declared.registration.Dirs.{Dirs}
use Rattle.reg_keys.specs.declared.entry.LoadKind.{LoadKind}
use Rattle.reg_keys.specs.declared.entry.FiredKey.{FiredKey}
use Rattle.reg_keys.specs.declared.entry.OpenOutcome.TheVariants as Opens
use Rattle.reg_keys.specs.declared.entry.ReportOutcome.TheVariants as Reports
use Rattle.reg_keys.specs.declared.entry.RegisterOutcome.TheVariants as Registers
use Rattle.reg_keys.specs.declared.entry.DispatchOutcome.TheVariants as Dispatches
use Rattle.reg_keys.specs.declared.entry.CloseOutcome.TheVariants as Closes
use Rattle.reg_keys.specs.declared.entry.Entry.{Entry}
use Rattle.reg_keys.specs.declared.entry.Entry.TheVariants.{Open, Report, Register, Withdraw, Ask, Dispatch}
use Rattle.reg_keys.specs.declared.entry.Entry.TheVariants.{Close}
use Rattle.reg_keys.specs.Tests.{same, same_event, has_dir, one_if, how_many}
use Rattle.reg_keys.specs.Histories.{ready_bits, Registered, waiting, is_due, has_due, due_in, EventOut}
use Rattle.reg_keys.specs.Histories.{is_of, events_out}
use Rattle.reg_keys.specs.Replies.{event_named, reply_of, IsLegal}
use Rattle.reg_keys.specs.Promises.{HasOneEventEach}
use Rattle.reg_keys.specs.ListLaws.{same_is, same_self, in_some, same_turned, many_append, many_none}
use Rattle.reg_keys.specs.ListLaws.{many_some, some_append, some_more, many_filter_le, many_filter_same}
use Rattle.reg_keys.specs.ListLaws.{many_filter_none, some_filter, some_in, some_more_in}
use Rattle.reg_keys.proofs.RightReplies.{next_opening, next_key, next_event, ran_by, shut_by, event_case}
use Rattle.reg_keys.proofs.RightReplies.{open_case, report_case, register_case, withdraw_case, dispatch_case}
use Rattle.reg_keys.proofs.RightReplies.{close_case}
use Rattle.reg_keys.proofs.Sound.{Sound, sound, left_of_other}

-- at most one of these events is of an opening, and exactly one where the opening is due
pub record OneEach (outs : List EventOut) (due : Opening → Bool) : Type 0 where
  pub most : (o : Opening) → how_many (is_of o) outs ≤ 1
  pub one : (o : Opening) → due o ≡ true → how_many (is_of o) outs ≡ 1

apart_turned : (o p : Opening) → same o p ≡ false → same p o ≡ false
apart_turned o p e = false_from_ne_true (same p o) (λ t. both_ways (same o p) e (same_turned p o t))

not_here : (o p q : Opening) → same o p ≡ false → same p q ≡ true → same o q ≡ false
not_here o p q off on = subst (λ (y : Opening). same o y ≡ false) (same_is p q on) off

-- one call of an opening names an event where it has to, and the other openings stay as they were
module _ (outs : List EventOut) (due : Opening → Bool) (o : Opening)
    (most : (p : Opening) → how_many (is_of p) outs ≤ 1)
    (others : (p : Opening) → same o p ≡ false → due p ≡ true → how_many (is_of p) outs ≡ 1) where
  with_event : (x : EventOut) → x.event.opening ≡ o → list_any (is_of o) outs ≡ false
      → OneEach (outs ++ x ∷ []) due
  with_event x is none_out =
      let here : (p : Opening) → one_if (is_of p x) ≡ one_if (same p o) =
      λ p. ap (λ (q : Opening). one_if (same p q)) is in
      let both : (p : Opening) → (how_many (is_of p) (outs ++ x ∷ []) ≤ 1)
      × (due p ≡ true → how_many (is_of p) (outs ++ x ∷ []) ≡ 1) = λ p.
      let m = many_append (is_of p) outs (x ∷ []) in
      let a = most p in
      let b = here p in
      ⊎_elim
      (λ (h : same o p ≡ true).
      let q : o ≡ p = same_is o p h in
      let z : how_many (is_of p) outs ≡ 0 =
      subst (λ (y : Opening). how_many (is_of y) outs ≡ 0) q (many_none (is_of o) outs none_out) in
      let w : one_if (same p o) ≡ 1 = ap one_if (same_turned o p h) in (omega arith, λ _. omega arith))
      (λ (h : same o p ≡ false). let w : one_if (same p o) ≡ 0 =
      ap one_if (apart_turned o p h) in (omega arith, λ d. let e = others p h d in omega arith))
      (cases_Bool (same o p)) in
      record { most = λ p. (both p).0; one = λ p. (both p).1 }

  with_none : (due o ≡ true → list_any (is_of o) outs ≡ true) → OneEach outs due
  with_none out = record {
    most = most;
    one = λ p d. ⊎_elim
        (λ (h : same o p ≡ true).
        let q : o ≡ p = same_is o p h in
        let one = many_some (is_of p) outs (subst (λ (y : Opening). list_any (is_of y) outs ≡ true) q
        (out (subst (λ (y : Opening). due y ≡ true) (sym q) d))) in
        let a = most p in
        omega arith)
        (λ (h : same o p ≡ false). others p h d) (cases_Bool (same o p));
  }

module _ (s c : ℕ) where
  abbrev pub Lively : List Entry → Type 0
  Lively past = OneEach (events_out s c past) (has_due s c past)

  -- what is due of another opening was due before
  due_before_report : (past : List Entry) (o p : Opening) (ds : Dirs) (e : Option EventName)
      → same o p ≡ false → has_due s c (Report o ds (Reports.Noted e) ∷ past) p ≡ true
      → has_due s c past p ≡ true
  due_before_report past o p ds e off due =
      some_more (is_due s c (Report o ds (Reports.Noted e) ∷ past) p) (is_due s c past p) (λ w d. let a =
      and_parts (same p w.opening) _ d in
      let out : (same o w.opening && has_dir ds w.dir) ≡ false =
      and_left (same o w.opening) (has_dir ds w.dir) (not_here o p w.opening off a.0) in
      and_from (same p w.opening) (ready_bits s c past w.opening w.dir) a.0 (⊎_elim
      (λ x. absurd (both_ways _ out x)) (λ x. x) (or_cases _ (ready_bits s c past w.opening w.dir) a.1)))
      (waiting past) due

  due_before_register : (past : List Entry) (o p : Opening) (d : Dir)
      (m : Option ℕ) (kind : LoadKind) (key : Key) (e : Option EventName)
      → same o p ≡ false → has_due s c (Register o d m kind (Registers.Waits key e) ∷ past) p ≡ true
      → has_due s c past p ≡ true
  due_before_register past o p d m kind key e off due =
      let here = Register o d m kind (Registers.Waits key e) ∷ past in
      let w0 : Registered = record { key = key; opening = o; dir = d; kind = kind } in
      ⊎_elim (λ x. some_more (is_due s c here p) (is_due s c past p) (λ w y. let a =
      and_parts (same p w.opening) _ y in and_from (same p w.opening) (ready_bits s c past w.opening w.dir)
      a.0 (and_parts _ (ready_bits s c past w.opening w.dir) a.1).1) (waiting past) x)
      (λ x. ⊎_elim (λ y. let a =
      and_parts (same p o) _ y in absurd (both_ways (same o p) off (same_turned p o a.0)))
      (λ y. absurd (both_ways false refl y)) (or_cases (is_due s c here p w0) false x))
      (some_append (is_due s c here p) (waiting past) (w0 ∷ []) due)

  report_lively : (past : List Entry) → Lively past → (o : Opening) (ds : Dirs) → Lively
      (Report o ds (Reports.Noted (event_named s c (Report o ds (Reports.Noted None) ∷ past) o)) ∷ past)
  report_lively past r o ds = let before = Report o ds (Reports.Noted None) ∷ past in
      let others : (p : Opening) → same o p ≡ false → has_due s c before p ≡ true
      → how_many (is_of p) (events_out s c past) ≡ 1 =
      λ p off due. r.one p (due_before_report past o p ds None off due) in
      event_case s c before o (λ e. Lively (Report o ds (Reports.Noted e) ∷ past))
      (λ due none_out. with_event (events_out s c past) (has_due s c before) o r.most others (record {
        event = next_event s c before o;
        read = due_in s c before o Read;
        write = due_in s c before o Write;
      }) refl none_out)
      (λ out. with_none (events_out s c past) (has_due s c before) o r.most others out)

  register_lively : (past : List Entry) → Lively past
      → (o : Opening) (d : Dir) (m : Option ℕ) (kind : LoadKind) (key : Key)
      → Lively (Register o d m kind
      (Registers.Waits key (event_named s c (Register o d m kind (Registers.Waits key None) ∷ past) o))
      ∷ past)
  register_lively past r o d m kind key =
      let before = Register o d m kind (Registers.Waits key None) ∷ past in
      let others : (p : Opening) → same o p ≡ false → has_due s c before p ≡ true
      → how_many (is_of p) (events_out s c past) ≡ 1 =
      λ p off due. r.one p (due_before_register past o p d m kind key None off due) in
      event_case s c before o (λ e. Lively (Register o d m kind (Registers.Waits key e) ∷ past))
      (λ due none_out. with_event (events_out s c past) (has_due s c before) o r.most others (record {
        event = next_event s c before o;
        read = due_in s c before o Read;
        write = due_in s c before o Write;
      }) refl none_out)
      (λ out. with_none (events_out s c past) (has_due s c before) o r.most others out)

  dispatch_lively : (past : List Entry) → Lively past → (x : EventName) (ran : List FiredKey)
      → Lively (Dispatch x
      (Dispatches.Ran ran (event_named s c (Dispatch x (Dispatches.Ran ran None) ∷ past) x.opening)) ∷ past)
  dispatch_lively past r x ran =
      let o = x.opening in
      let before = Dispatch x (Dispatches.Ran ran None) ∷ past in
      let left = λ (y : EventOut). not (same_event x y.event) in
      let fewer : (p : Opening) → how_many (is_of p) (events_out s c before) ≤ 1 = λ p.
      let a = r.most p in
      let b = many_filter_le (is_of p) left (events_out s c past) in
      omega arith in
      let others : (p : Opening) → same o p ≡ false → has_due s c before p ≡ true
      → how_many (is_of p) (events_out s c before) ≡ 1 = λ p off due.
      many_filter_same (is_of p) left (λ y h.
      not_from_false _ (and_right (x.number == y.event.number) _ (not_here o p y.event.opening off h)))
      (events_out s c past) ∙ r.one p (some_filter (is_due s c past p) _ (waiting past) due) in
      event_case s c before o (λ e. Lively (Dispatch x (Dispatches.Ran ran e) ∷ past))
      (λ due none_out. with_event (events_out s c before) (has_due s c before) o fewer others (record {
        event = next_event s c before o;
        read = due_in s c before o Read;
        write = due_in s c before o Write;
      }) refl none_out)
      (λ out. with_none (events_out s c before) (has_due s c before) o fewer others out)

  close_lively : (past : List Entry) → Lively past → (o : Opening)
      → Lively (Close o (Closes.Shut (shut_by s c past o)) ∷ past)
  close_lively past r o =
      let after = Close o (Closes.Shut (shut_by s c past o)) ∷ past in
      let left = λ (y : EventOut). not (is_of o y) in
      let both : (p : Opening) → (how_many (is_of p) (events_out s c after) ≤ 1)
      × (has_due s c after p ≡ true → how_many (is_of p) (events_out s c after) ≡ 1) = λ p. ⊎_elim
      (λ (h : same o p ≡ true). let q : o ≡ p = same_is o p h in
      let z = many_filter_none (is_of p) left
      (λ y a b. both_ways (is_of o y) (not-true _ b) (subst (λ (v : Opening). is_of v y ≡ true) (sym q) a))
      (events_out s c past) in (
        omega arith,
        λ due.
            let k = some_in (is_due s c after p) (waiting after) due in
            absurd (both_ways (same o k.0.opening) (left_of_other (waiting past) o k.0 k.1)
            (subst (λ (v : Opening). same v k.0.opening ≡ true) (sym q)
            (and_parts (same p k.0.opening) _ k.2).0)),
      ))
      (λ (h : same o p ≡ false).
      let z = many_filter_same (is_of p) left (λ y a.
      not_from_false _ (not_here o p y.event.opening h a)) (events_out s c past) in
      let a = r.most p in
      (omega arith, λ due. z ∙ r.one p (some_filter (is_due s c past p) _ (waiting past) due)))
      (cases_Bool (same o p)) in
      record { most = λ p. (both p).0; one = λ p. (both p).1 }

  open_lively : (past : List Entry) → Lively past → Sound s c past → (fd : ℕ)
      → Lively (Open fd (Opens.Opened (next_opening s c past fd)) ∷ past)
  open_lively past r ok fd =
      let o = next_opening s c past fd in
      let after = Open fd (Opens.Opened o) ∷ past in
      record {
        most = r.most;
        one =
            λ p due.
            r.one p (some_more_in (is_due s c after p) (is_due s c past p) (waiting past) (λ w i d. let a =
            and_parts (same p w.opening) _ d in
            and_from (same p w.opening) (ready_bits s c past w.opening w.dir) a.0 (⊎_elim (λ x.
            let b = ok.live_old w.opening (ok.held w i).live in
            let n : o.number ≡ w.opening.number = ap (λ (z : Opening). z.number) (same_is o w.opening x) in
            absurd (omega arith))
            (λ x. x) (or_cases (same o w.opening) (ready_bits s c past w.opening w.dir) a.1)))
            due);
      }

  step : (past : List Entry) → Lively past → Sound s c past → (e : Entry)
      → Lively (reply_of s c past e ∷ past)
  step past r ok (Open fd x) =
      open_case s c past fd (λ y. Lively (Open fd y ∷ past)) (λ _ _. r) (λ _ _. r)
      (λ _ _. open_lively past r ok fd)
  step past r ok (Report o ds x) =
      report_case s c past o ds (λ y. Lively (Report o ds y ∷ past)) (λ _. r) (λ _ _. r)
      (λ _ _. report_lively past r o ds)
  step past r ok (Register o d m kind x) =
      register_case s c past o d m kind (λ y. Lively (Register o d m kind y ∷ past)) (λ _. r) (λ _ _. r)
      (λ _ _ _. r) (λ _ _ _. register_lively past r o d m kind (next_key s c past))
  step past r ok (Withdraw k x) = withdraw_case s c past k (λ y. Lively (Withdraw k y ∷ past)) (λ _. r)
      (λ w _ _.
      record { most = r.most; one = λ p due. r.one p (some_filter (is_due s c past p) _ (waiting past) due) })
  step past r ok (Ask k x) = r
  step past r ok (Dispatch x y) =
      dispatch_case s c past x (λ y. Lively (Dispatch x y ∷ past)) (λ _. r) (λ _ _. r)
      (λ _ _. dispatch_lively past r x (ran_by s c past x))
  step past r ok (Close o x) =
      close_case s c past o (λ y. Lively (Close o y ∷ past)) (λ _. r) (λ _. close_lively past r o)

  pub lively : (past : List Entry) → IsLegal s c past → Lively past
  lively [] l = record { most = λ _. omega arith; one = λ _ h. absurd (both_ways false refl h) }
  lively (e ∷ past) l =
      subst (λ (x : Entry). Lively (x ∷ past)) (sym l.1) (step past (lively past l.0) (sound s c past l.0) e)

  pub has_one_event_each : (past : List Entry) → IsLegal s c past → HasOneEventEach s c past
  has_one_event_each past l = let r = lively past l in record {
    most = r.most;
    one =
        λ w i ready. r.one w.opening (in_some (is_due s c past w.opening) w (waiting past) i (and_from
        (same w.opening w.opening) (ready_bits s c past w.opening w.dir) (same_self w.opening) ready));
  }
