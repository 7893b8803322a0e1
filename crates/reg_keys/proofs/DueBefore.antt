-- An event that is out runs only keys that were due.
use Rattle.std.proofs.Common.{◌≡◌, ℕ, ◌≤◌, ◌<◌, ⊎_elim, List, [], ◌∷◌, true, sym, refl, ap, ◌∙◌, subst, arith}
use Rattle.std.specs.Prelude.{Option, Some, None, ◌&&◌}
use Rattle.std.proofs.lemmas.Bool.{and_parts, and_from}
use Rattle.reg_keys.specs.declared.opening.Opening.{Opening}
use Rattle.reg_keys.specs.declared.event.EventName.{EventName}
use Rattle.reg_keys.specs.declared.registration.Key.{Key}
use Rattle.reg_keys.specs.declared.registration.Dir.{Dir}
use Rattle.reg_keys.specs.declared.registration.Dir.TheVariants.{Read, Write}
use Rattle.reg_keys.specs.declared.registration.Dirs.{Dirs}
use Rattle.reg_keys.specs.declared.entry.LoadKind.{LoadKind}
use Rattle.reg_keys.specs.declared.entry.FiredKey.{FiredKey}
use Rattle.reg_keys.specs.declared.entry.OpenOutcome.TheVariants as Opens
use Rattle.reg_keys.specs.declared.entry.ReportOutcome.TheVariants as Reports
use Rattle.reg_keys.specs.declared.entry.RegisterOutcome.TheVariants as Registers
use Rattle.reg_keys.specs.declared.entry.WithdrawOutcome.TheVariants as Withdraws
use Rattle.reg_keys.specs.declared.entry.DispatchOutcome.TheVariants as Dispatches
use Rattle.reg_keys.specs.declared.entry.CloseOutcome.TheVariants as Closes
use Rattle.reg_keys.specs.declared.entry.Entry.{Entry}
use Rattle.reg_keys.specs.declared.entry.Entry.TheVariants.{Open, Report, Register, Withdraw, Ask, Dispatch}
use Rattle.reg_keys.specs.declared.entry.Entry.TheVariants.{Close}
use Rattle.reg_keys.specs.Tests.{same, same_key, same_dir, IsIn}
use Rattle.reg_keys.specs.Histories.{next_number, ready_bits, Registered, waiting, is_due, due_in, IsDue}
use Rattle.reg_keys.specs.Histories.{EventOut, put_out, events_out}
use Rattle.reg_keys.specs.Replies.{event_named, dir_out, ask_reply, reply_of, IsLegal}
use Rattle.reg_keys.specs.Promises.{WasDue}
use Rattle.reg_keys.specs.ListLaws.{same_is, same_key_self, same_dir_is, in_append, in_one, in_filter}
use Rattle.reg_keys.specs.ListLaws.{in_some, some_in}
use Rattle.reg_keys.proofs.RightReplies.{next_opening, next_key, next_event, ran_by, shut_by, event_case}
use Rattle.reg_keys.proofs.RightReplies.{open_case, report_case, register_case, withdraw_case, dispatch_case}
use Rattle.reg_keys.proofs.RightReplies.{close_case}

module _ (s c : ℕ) where
  pub was_due_later : (e : Entry) (past : List Entry) (k : Key) → WasDue s c k past → WasDue s c k (e ∷ past)
  was_due_later e past k h = (e ∷ h.0, h.1, ap (λ l. e ∷ l) h.2, h.3)

  -- a key of an opening and a direction of which one is due is due itself
  due_too : (past : List Entry) (o : Opening) (w : Registered) → IsIn w (waiting past)
      → same o w.opening ≡ true → due_in s c past o w.dir ≡ true → IsDue s c past w.key
  due_too past o w i of due =
      let k = some_in (λ (v : Registered). is_due s c past o v && same_dir w.dir v.dir) (waiting past) due in
      let a = and_parts (is_due s c past o k.0) (same_dir w.dir k.0.dir) k.2 in
      let b = and_parts (same o k.0.opening) (ready_bits s c past k.0.opening k.0.dir) a.0 in
      let q : k.0.opening ≡ w.opening = sym (same_is o k.0.opening b.0) ∙ same_is o w.opening of in
      let d : k.0.dir ≡ w.dir = sym (same_dir_is w.dir k.0.dir a.1) in
      let ready : ready_bits s c past w.opening w.dir
      ≡ true = subst (λ (x : Dir). ready_bits s c past w.opening x ≡ true) d
      (subst (λ (x : Opening). ready_bits s c past x k.0.dir ≡ true) q b.1) in
      in_some (λ (v : Registered). same_key v.key w.key && ready_bits s c past v.opening v.dir) w
      (waiting past) i
      (and_from (same_key w.key w.key) (ready_bits s c past w.opening w.dir) (same_key_self w.key) ready)

  -- each of these events is older than the next number, and the keys that it would run were due
  abbrev pub WereDue : List Entry → List EventOut → Type 0
  WereDue past outs =
      (x : EventOut) → IsIn x outs → (x.event.number < next_number s c past)
      × ((w : Registered) → IsIn w (waiting past) → same x.event.opening w.opening ≡ true
      → w.key.number < x.event.number → dir_out x w.dir ≡ true → WasDue s c w.key past)

  dir_is : (past : List Entry) (e : EventName) (d : Dir) → dir_out
      (record { event = e; read = due_in s c past e.opening Read; write = due_in s c past e.opening Write }) d
      ≡ due_in s c past e.opening d
  dir_is past e Read = refl
  dir_is past e Write = refl

  put_due : (past : List Entry) (outs : List EventOut) (e : EventName) → e.number < next_number s c past
      → WereDue past outs → WereDue past (put_out s c past (Some e) outs)
  put_due past outs e old r x i =
      let y : EventOut =
      record { event = e; read = due_in s c past e.opening Read; write = due_in s c past e.opening Write } in
      ⊎_elim (λ a. r x a) (λ a. subst (λ (z : EventOut). (z.event.number < next_number s c past)
      × ((w : Registered) → IsIn w (waiting past) → same z.event.opening w.opening ≡ true
      → w.key.number < z.event.number → dir_out z w.dir ≡ true → WasDue s c w.key past))
      (sym (in_one x y a)) (
        old,
        λ w j of le has. ([], past, refl, due_too past e.opening w j of (sym (dir_is past e w.dir) ∙ has)),
      )) (in_append x outs (y ∷ []) i)

  -- an entry after which fewer wait and fewer events are out
  carried : (e : Entry) (past : List Entry) (outs : List EventOut)
      → next_number s c past ≤ next_number s c (e ∷ past)
      → ((w : Registered) → IsIn w (waiting (e ∷ past)) → IsIn w (waiting past))
      → ((x : EventOut) → IsIn x outs → IsIn x (events_out s c past))
      → WereDue past (events_out s c past) → WereDue (e ∷ past) outs
  carried e past outs le fewer less r x i =
      let a = r x (less x i) in
      let old = a.0 in
      (omega arith, λ w j of le has. was_due_later e past w.key (a.1 w (fewer w j) of le has))

  abbrev pub EventsWereDue : List Entry → Type 0
  EventsWereDue past = WereDue past (events_out s c past)

  report_due : (past : List Entry) → EventsWereDue past → (o : Opening) (ds : Dirs)
      → EventsWereDue
      (Report o ds (Reports.Noted (event_named s c (Report o ds (Reports.Noted None) ∷ past) o)) ∷ past)
  report_due past r o ds =
      let before = Report o ds (Reports.Noted None) ∷ past in
      event_case s c before o (λ e. EventsWereDue (Report o ds (Reports.Noted e) ∷ past))
      (λ _ _. let e = next_event s c before o in put_due (Report o ds (Reports.Noted (Some e)) ∷ past)
      (events_out s c past) e (omega arith) (carried (Report o ds (Reports.Noted (Some e))) past
      (events_out s c past) (omega arith) (λ _ i. i) (λ _ i. i) r))
      (λ _. carried (Report o ds (Reports.Noted None)) past (events_out s c past) (omega arith)
      (λ _ i. i) (λ _ i. i) r)

  -- a new registration is younger than each event that was out
  young : (past : List Entry) → EventsWereDue past
      → (o : Opening) (d : Dir) (m : Option ℕ) (kind : LoadKind) (e : Option EventName) → next_number s c past
      ≤ next_number s c (Register o d m kind (Registers.Waits (next_key s c past) e) ∷ past)
      → WereDue (Register o d m kind (Registers.Waits (next_key s c past) e) ∷ past) (events_out s c past)
  young past r o d m kind e le x i =
      let a = r x i in
      let old = a.0 in
      let w0 : Registered = record { key = next_key s c past; opening = o; dir = d; kind = kind } in (
        omega arith,
        λ w j of lt has.
            ⊎_elim
            (λ b. was_due_later (Register o d m kind (Registers.Waits (next_key s c past) e)) past w.key
            (a.1 w b of lt has))
            (λ b. let n : w.key.number ≡ next_number s c past =
            ap (λ (v : Registered). v.key.number) (in_one w w0 b) in absurd (omega arith))
            (in_append w (waiting past) (w0 ∷ []) j),
      )

  register_due : (past : List Entry) → EventsWereDue past
      → (o : Opening) (d : Dir) (m : Option ℕ) (kind : LoadKind)
      → EventsWereDue (Register o d m kind (Registers.Waits (next_key s c past)
      (event_named s c (Register o d m kind (Registers.Waits (next_key s c past) None) ∷ past) o)) ∷ past)
  register_due past r o d m kind =
      let key = next_key s c past in
      let before = Register o d m kind (Registers.Waits key None) ∷ past in
      event_case s c before o (λ e. EventsWereDue (Register o d m kind (Registers.Waits key e) ∷ past))
      (λ _ _. let e =
      next_event s c before o in put_due (Register o d m kind (Registers.Waits key (Some e)) ∷ past)
      (events_out s c past) e (omega arith) (young past r o d m kind (Some e) (omega arith)))
      (λ _. young past r o d m kind None (omega arith))

  dispatch_due : (past : List Entry) → EventsWereDue past → (x : EventName) (ran : List FiredKey)
      → EventsWereDue (Dispatch x
      (Dispatches.Ran ran (event_named s c (Dispatch x (Dispatches.Ran ran None) ∷ past) x.opening)) ∷ past)
  dispatch_due past r x ran =
      let before = Dispatch x (Dispatches.Ran ran None) ∷ past in
      let outs = events_out s c before in
      event_case s c before x.opening (λ e. EventsWereDue (Dispatch x (Dispatches.Ran ran e) ∷ past))
      (λ _ _.
      let e = next_event s c before x.opening in
      put_due (Dispatch x (Dispatches.Ran ran (Some e)) ∷ past) outs e (omega arith)
      (carried (Dispatch x (Dispatches.Ran ran (Some e))) past outs (omega arith)
      (λ w i. (in_filter _ w (waiting past) i).0) (λ y i. (in_filter _ y (events_out s c past) i).0) r))
      (λ _. carried (Dispatch x (Dispatches.Ran ran None)) past outs (omega arith)
      (λ w i. (in_filter _ w (waiting past) i).0) (λ y i. (in_filter _ y (events_out s c past) i).0) r)

  idle : (e : Entry) (past : List Entry) → next_number s c (e ∷ past) ≡ next_number s c past
      → waiting (e ∷ past) ≡ waiting past → events_out s c (e ∷ past) ≡ events_out s c past
      → EventsWereDue past → EventsWereDue (e ∷ past)
  idle e past n w o r =
      carried e past (events_out s c (e ∷ past)) (omega arith) (λ v i. subst (IsIn v) w i)
      (λ x i. subst (IsIn x) o i) r

  step : (past : List Entry) → EventsWereDue past → (e : Entry) → EventsWereDue (reply_of s c past e ∷ past)
  step past r (Open fd x) =
      open_case s c past fd (λ y. EventsWereDue (Open fd y ∷ past))
      (λ o _. idle (Open fd (Opens.Taken o)) past refl refl refl r)
      (λ _ _. idle (Open fd Opens.Spent) past refl refl refl r)
      (λ _ _. carried (Open fd (Opens.Opened (next_opening s c past fd))) past (events_out s c past)
      (omega arith) (λ _ i. i) (λ _ i. i) r)
  step past r (Report o ds x) =
      report_case s c past o ds (λ y. EventsWereDue (Report o ds y ∷ past))
      (λ _. idle (Report o ds Reports.Stale) past refl refl refl r)
      (λ _ _. idle (Report o ds Reports.Spent) past refl refl refl r) (λ _ _. report_due past r o ds)
  step past r (Register o d m kind x) =
      register_case s c past o d m kind (λ y. EventsWereDue (Register o d m kind y ∷ past))
      (λ _. idle (Register o d m kind Registers.Shut) past refl refl refl r)
      (λ _ _. idle (Register o d m kind Registers.Crowded) past refl refl refl r)
      (λ _ _ _. idle (Register o d m kind Registers.Spent) past refl refl refl r)
      (λ _ _ _. register_due past r o d m kind)
  step past r (Withdraw k x) =
      withdraw_case s c past k (λ y. EventsWereDue (Withdraw k y ∷ past))
      (λ _. idle (Withdraw k Withdraws.Gone) past refl refl refl r)
      (λ w _ _. carried (Withdraw k (Withdraws.Back w.kind)) past (events_out s c past) (omega arith)
      (λ v i. (in_filter _ v (waiting past) i).0) (λ _ i. i) r)
  step past r (Ask k x) = idle (Ask k (ask_reply past k)) past refl refl refl r
  step past r (Dispatch x y) =
      dispatch_case s c past x (λ y. EventsWereDue (Dispatch x y ∷ past))
      (λ _. idle (Dispatch x Dispatches.Stale) past refl refl refl r)
      (λ _ _. idle (Dispatch x Dispatches.Spent) past refl refl refl r)
      (λ _ _. dispatch_due past r x (ran_by s c past x))
  step past r (Close o x) =
      close_case s c past o (λ y. EventsWereDue (Close o y ∷ past))
      (λ _. idle (Close o Closes.NotOpen) past refl refl refl r)
      (λ _. carried (Close o (Closes.Shut (shut_by s c past o))) past
      (events_out s c (Close o (Closes.Shut (shut_by s c past o)) ∷ past)) (omega arith)
      (λ v i. (in_filter _ v (waiting past) i).0) (λ y i. (in_filter _ y (events_out s c past) i).0) r)

  pub events_were_due : (past : List Entry) → IsLegal s c past → EventsWereDue past
  events_were_due [] l = λ x i. absurd i
  events_were_due (e ∷ past) l =
      subst (λ (x : Entry). EventsWereDue (x ∷ past)) (sym l.1) (step past (events_were_due past l.0) e)
