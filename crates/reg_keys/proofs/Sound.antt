-- What waits is live, older than the next number, and was registered; what is live was never closed.
use Rattle.std.proofs.Common.{◌≡◌, ℕ, ◌+◌, ◌≤◌, ◌<◌, ◌⊎◌, inl, inr, ⊎_elim, List, [], ◌∷◌, map, true, false}
use Rattle.std.proofs.Common.{sym, refl, ap, ◌∙◌, subst, arith}
use Rattle.std.specs.Prelude.{Option, Some, None, filter, not, ◌==◌}
use Rattle.std.specs.List.{list_any}
use Rattle.std.proofs.lemmas.Bool.{both_ways, eqb-true, not-true, false_from_ne_true, cond_both, or_from}
use Rattle.reg_keys.specs.declared.opening.Opening.{Opening}
use Rattle.reg_keys.specs.declared.event.EventName.{EventName}
use Rattle.reg_keys.specs.declared.registration.Key.{Key}
use Rattle.reg_keys.specs.declared.registration.Dir.{Dir}
use Rattle.reg_keys.specs.declared.entry.LoadKind.{LoadKind}
use Rattle.reg_keys.specs.declared.entry.ShutKey.{ShutKey}
use Rattle.reg_keys.specs.declared.entry.OpenOutcome.TheVariants as Opens
use Rattle.reg_keys.specs.declared.entry.ReportOutcome.TheVariants as Reports
use Rattle.reg_keys.specs.declared.entry.RegisterOutcome.TheVariants as Registers
use Rattle.reg_keys.specs.declared.entry.WithdrawOutcome.TheVariants as Withdraws
use Rattle.reg_keys.specs.declared.entry.DispatchOutcome.TheVariants as Dispatches
use Rattle.reg_keys.specs.declared.entry.CloseOutcome.TheVariants as Closes
use Rattle.reg_keys.specs.declared.entry.Entry.{Entry}
use Rattle.reg_keys.specs.declared.entry.Entry.TheVariants.{Open, Report, Register, Withdraw, Ask, Dispatch}
use Rattle.reg_keys.specs.declared.entry.Entry.TheVariants.{Close}
use Rattle.reg_keys.specs.Tests.{same, same_key, IsIn}
use Rattle.reg_keys.specs.Histories.{count_named, count_after, next_number, is_it, owner_of, is_live}
use Rattle.reg_keys.specs.Histories.{Registered, without, keys_shut, waiting}
use Rattle.reg_keys.specs.Replies.{shut_as, event_named, reply_of, IsLegal}
use Rattle.reg_keys.specs.Promises.{shuts, WasRegistered}
use Rattle.reg_keys.specs.ListLaws.{same_is, in_append, in_one, in_filter, in_kept, in_some, in_map}
use Rattle.reg_keys.specs.ListLaws.{same_key_self}
use Rattle.reg_keys.proofs.RightReplies.{next_opening, next_key, ran_by, shut_by, open_case, report_case}
use Rattle.reg_keys.proofs.RightReplies.{register_case, withdraw_case, dispatch_case, close_case}

pub named_more : (e : Option EventName) (n : ℕ) → n ≤ count_named e n
named_more None n = omega arith
named_more (Some e) n = omega arith

module _ (past : List Entry) where
  -- ---- what is live after an opening and after a close
  pub live_opened : (fd : ℕ) (o p : Opening) → is_live (Open fd (Opens.Opened o) ∷ past) p ≡ true
      → (o ≡ p) ⊎ (is_live past p ≡ true)
  live_opened fd o p =
      cond_both (fd == p.fd) (Some o) (owner_of past p.fd)
      (λ w. is_it p w ≡ true → (o ≡ p) ⊎ (is_live past p ≡ true)) (λ _ h. inl (sym (same_is p o h)))
      (λ _ h. inr h)

  pub live_past_opened : (fd : ℕ) (o p : Opening) → owner_of past fd ≡ None → is_live past p ≡ true
      → is_live (Open fd (Opens.Opened o) ∷ past) p ≡ true
  live_past_opened fd o p free h =
      cond_both (fd == p.fd) (Some o) (owner_of past p.fd) (λ w. is_it p w ≡ true)
      (λ at. absurd
      (both_ways (is_live past p) (ap (is_it p) (ap (owner_of past) (sym (eqb-true fd p.fd at)) ∙ free)) h))
      (λ _. h)

  pub live_closed : (o p : Opening) (xs : List ShutKey) → is_live (Close o (Closes.Shut xs) ∷ past) p ≡ true
      → (is_live past p ≡ true) × (same o p ≡ false)
  live_closed o p xs =
      cond_both (is_it o (owner_of past p.fd)) None (owner_of past p.fd)
      (λ w. is_it p w ≡ true → (is_live past p ≡ true) × (same o p ≡ false))
      (λ _ h. absurd (both_ways false refl h))
      (λ off h. (
        h,
        false_from_ne_true (same o p) (λ is. both_ways (is_it o (owner_of past p.fd)) off
            (subst (λ (q : Opening). is_it q (owner_of past p.fd) ≡ true) (sym (same_is o p is)) h)),
      ))

  pub live_past_closed : (o p : Opening) (xs : List ShutKey) → same o p ≡ false → is_live past p ≡ true
      → is_live (Close o (Closes.Shut xs) ∷ past) p ≡ true
  live_past_closed o p xs off h =
      cond_both (is_it o (owner_of past p.fd)) None (owner_of past p.fd) (λ w. is_it p w ≡ true)
      (λ on. absurd (both_ways (same o p) off (by_owner (owner_of past p.fd) on h))) (λ _. h)
    where
      by_owner : (w : Option Opening) → is_it o w ≡ true → is_it p w ≡ true → same o p ≡ true
      by_owner None a b = absurd (both_ways false refl a)
      by_owner (Some q) a b = subst (λ (x : Opening). same o x ≡ true) (sym (same_is p q b)) a

-- a registration that is left after a close is of another opening
pub left_of_other : (ws : List Registered) (o : Opening) (w : Registered)
    → IsIn w (without (keys_shut (map shut_as (filter (λ (w : Registered). same o w.opening) ws))) ws)
    → same o w.opening ≡ false
left_of_other ws o w i =
    let a = in_filter (λ (w : Registered). not (list_any (λ k. same_key k w.key)
    (keys_shut (map shut_as (filter (λ (w : Registered). same o w.opening) ws))))) w ws i in
    false_from_ne_true (same o w.opening) (λ on. both_ways _ (not-true _ a.1)
    (in_some (λ k. same_key k w.key) w.key _ (in_map (λ (x : ShutKey). x.key) (shut_as w) _
    (in_map shut_as w _ (in_kept (λ (w : Registered). same o w.opening) w ws a.0 on))) (same_key_self w.key)))

pub record Held (n : ℕ) (past : List Entry) (w : Registered) : Type 0 where
  pub live : is_live past w.opening ≡ true
  pub old : w.key.number < n
  pub registered : WasRegistered w past

pub record Sound (s c : ℕ) (past : List Entry) : Type 0 where
  pub live_old : (o : Opening) → is_live past o ≡ true → o.number < next_number s c past
  pub held : (w : Registered) → IsIn w (waiting past) → Held (next_number s c past) past w
  pub unshut : (o : Opening) → is_live past o ≡ true → list_any (shuts o) past ≡ false
  pub new_unshut : (o : Opening) → next_number s c past ≤ o.number → list_any (shuts o) past ≡ false

module _ (s c : ℕ) where
  grown : (past : List Entry) (e : Entry) (w : Registered) → next_number s c past ≤ next_number s c (e ∷ past)
      → is_live (e ∷ past) w.opening ≡ true → Held (next_number s c past) past w
      → Held (next_number s c (e ∷ past)) (e ∷ past) w
  grown past e w le live h = let old = h.old in record {
    live = live;
    old = omega arith;
    registered = (h.registered.0, h.registered.1, inr h.registered.2);
  }

  -- an entry that changes no opening, and after which fewer registrations wait
  fewer : (past : List Entry) (e : Entry) → Sound s c past → next_number s c past ≤ next_number s c (e ∷ past)
      → ((o : Opening) → is_live (e ∷ past) o ≡ is_live past o) → ((o : Opening) → shuts o e ≡ false)
      → ((w : Registered) → IsIn w (waiting (e ∷ past)) → IsIn w (waiting past)) → Sound s c (e ∷ past)
  fewer past e r le same_live no_shut sub = record {
    live_old = λ o h. let a = r.live_old o (sym (same_live o) ∙ h) in omega arith;
    held = λ w i. let a = r.held w (sub w i) in grown past e w le (same_live w.opening ∙ a.live) a;
    unshut =
        λ o h. or_from (shuts o e) (list_any (shuts o) past) (no_shut o) (r.unshut o (sym (same_live o) ∙ h));
    new_unshut =
        λ o h. or_from (shuts o e) (list_any (shuts o) past) (no_shut o) (r.new_unshut o (omega arith));
  }

  idle : (past : List Entry) (e : Entry) → Sound s c past → next_number s c (e ∷ past) ≡ next_number s c past
      → ((o : Opening) → is_live (e ∷ past) o ≡ is_live past o) → ((o : Opening) → shuts o e ≡ false)
      → waiting (e ∷ past) ≡ waiting past → Sound s c (e ∷ past)
  idle past e r n l z is = fewer past e r (omega arith) l z (λ w i. subst (IsIn w) is i)

  opened_sound : (past : List Entry) → Sound s c past → (fd : ℕ) → owner_of past fd ≡ None
      → Sound s c (Open fd (Opens.Opened (next_opening s c past fd)) ∷ past)
  opened_sound past r fd free = let o : Opening = next_opening s c past fd in record {
    live_old =
        λ p h. ⊎_elim (λ is. let a : o.number ≡ p.number =
        ap (λ (z : Opening). z.number) is in omega arith) (λ x. let a =
        r.live_old p x in omega arith) (live_opened past fd o p h);
    held =
        λ w i.
        let a = r.held w i in
        grown past (Open fd (Opens.Opened o)) w (omega arith)
        (live_past_opened past fd o w.opening free a.live) a;
    unshut =
        λ p h. ⊎_elim (λ is. r.new_unshut p (let a : o.number ≡ p.number =
        ap (λ (z : Opening). z.number) is in omega arith)) (λ x. r.unshut p x) (live_opened past fd o p h);
    new_unshut = λ p h. r.new_unshut p (omega arith);
  }

  registered_sound : (past : List Entry) → Sound s c past
      → (o : Opening) (d : Dir) (m : Option ℕ) (kind : LoadKind) (e : Option EventName)
      → is_live past o ≡ true → Sound s c (Register o d m kind (Registers.Waits (next_key s c past) e) ∷ past)
  registered_sound past r o d m kind e live =
      let key : Key = next_key s c past in
      let w0 : Registered = record { key = key; opening = o; dir = d; kind = kind } in
      let more = named_more e (count_after c past + 1) in
      let entry : Entry = Register o d m kind (Registers.Waits key e) in record {
        live_old = λ p h. let a = r.live_old p h in omega arith;
        held = λ w i. ⊎_elim (λ x. let a = r.held w x in grown past entry w (omega arith) a.live a)
            (λ x. subst (Held (next_number s c (entry ∷ past)) (entry ∷ past)) (sym (in_one w w0 x))
            (record { live = live; old = omega arith; registered = (m, e, inl refl) }))
            (in_append w (waiting past) (w0 ∷ []) i);
        unshut = r.unshut;
        new_unshut = λ p h. r.new_unshut p (omega arith);
      }

  closed_sound : (past : List Entry) → Sound s c past → (o : Opening) → is_live past o ≡ true
      → Sound s c (Close o (Closes.Shut (shut_by s c past o)) ∷ past)
  closed_sound past r o live =
      let xs = shut_by s c past o in
      let entry : Entry = Close o (Closes.Shut xs) in
      record {
        live_old = λ p h. r.live_old p (live_closed past o p xs h).0;
        held =
            λ w i.
            let a = r.held w (in_filter _ w (waiting past) i).0 in
            grown past entry w (omega arith)
            (live_past_closed past o w.opening xs (left_of_other (waiting past) o w i) a.live) a;
        unshut =
            λ p h.
            let a = live_closed past o p xs h in
            or_from (same o p) (list_any (shuts p) past) a.1 (r.unshut p a.0);
        new_unshut =
            λ p h. or_from (same o p) (list_any (shuts p) past) (false_from_ne_true (same o p) (λ is.
            let a = r.live_old o live in
            let b : o.number ≡ p.number = ap (λ (z : Opening). z.number) (same_is o p is) in
            absurd (omega arith)))
            (r.new_unshut p h);
      }

  step : (past : List Entry) → Sound s c past → (e : Entry) → Sound s c (reply_of s c past e ∷ past)
  step past r (Open fd x) =
      open_case s c past fd (λ y. Sound s c (Open fd y ∷ past))
      (λ o _. idle past (Open fd (Opens.Taken o)) r refl (λ _. refl) (λ _. refl) refl)
      (λ _ _. idle past (Open fd Opens.Spent) r refl (λ _. refl) (λ _. refl) refl)
      (λ free _. opened_sound past r fd free)
  step past r (Report o ds x) =
      report_case s c past o ds (λ y. Sound s c (Report o ds y ∷ past))
      (λ _. idle past (Report o ds Reports.Stale) r refl (λ _. refl) (λ _. refl) refl)
      (λ _ _. idle past (Report o ds Reports.Spent) r refl (λ _. refl) (λ _. refl) refl)
      (λ _ _.
      let e = event_named s c (Report o ds (Reports.Noted None) ∷ past) o in
      let a = named_more e (count_after c past + 1) in
      fewer past (Report o ds (Reports.Noted e)) r (omega arith) (λ _. refl) (λ _. refl) (λ _ i. i))
  step past r (Register o d m kind x) =
      register_case s c past o d m kind (λ y. Sound s c (Register o d m kind y ∷ past))
      (λ _. idle past (Register o d m kind Registers.Shut) r refl (λ _. refl) (λ _. refl) refl)
      (λ _ _. idle past (Register o d m kind Registers.Crowded) r refl (λ _. refl) (λ _. refl) refl)
      (λ _ _ _. idle past (Register o d m kind Registers.Spent) r refl (λ _. refl) (λ _. refl) refl)
      (λ live _ _. registered_sound past r o d m kind _ live)
  step past r (Withdraw k x) =
      withdraw_case s c past k (λ y. Sound s c (Withdraw k y ∷ past))
      (λ _. idle past (Withdraw k Withdraws.Gone) r refl (λ _. refl) (λ _. refl) refl)
      (λ w _ _. fewer past (Withdraw k (Withdraws.Back w.kind)) r (omega arith) (λ _. refl)
      (λ _. refl) (λ v i. (in_filter _ v (waiting past) i).0))
  step past r (Ask k x) = idle past (Ask k _) r refl (λ _. refl) (λ _. refl) refl
  step past r (Dispatch x y) =
      dispatch_case s c past x (λ y. Sound s c (Dispatch x y ∷ past))
      (λ _. idle past (Dispatch x Dispatches.Stale) r refl (λ _. refl) (λ _. refl) refl)
      (λ _ _. idle past (Dispatch x Dispatches.Spent) r refl (λ _. refl) (λ _. refl) refl)
      (λ _ _.
      let ran = ran_by s c past x in
      let e = event_named s c (Dispatch x (Dispatches.Ran ran None) ∷ past) x.opening in
      let a = named_more e (count_after c past) in
      fewer past (Dispatch x (Dispatches.Ran ran e)) r (omega arith) (λ _. refl) (λ _. refl)
      (λ v i. (in_filter _ v (waiting past) i).0))
  step past r (Close o x) =
      close_case s c past o (λ y. Sound s c (Close o y ∷ past))
      (λ _. idle past (Close o Closes.NotOpen) r refl (λ _. refl) (λ _. refl) refl)
      (λ live. closed_sound past r o live)

  pub sound : (past : List Entry) → IsLegal s c past → Sound s c past
  sound [] l = record {
    live_old = λ o h. absurd (both_ways false refl h);
    held = λ w i. absurd i;
    unshut = λ o h. absurd (both_ways false refl h);
    new_unshut = λ o h. refl;
  }
  sound (e ∷ past) l = subst (λ (x : Entry). Sound s c (x ∷ past)) (sym l.1) (step past (sound past l.0) e)
