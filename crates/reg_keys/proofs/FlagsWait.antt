-- The flags that wait are those whose owners are told so.
use Rattle.std.proofs.Common.{◌≡◌, ℕ, ◌+◌, ◌≤◌, ◌<◌, ⊎_elim, inl, List, [], ◌∷◌, ◌++◌, map, true, false, Bool}
use Rattle.std.proofs.Common.{sym, refl, ap, ◌∙◌, subst, arith}
use Rattle.std.specs.Prelude.{Option, None, filter, not, ◌&&◌, ◌||◌, if◌then◌else◌}
use Rattle.std.specs.List.{list_any}
use Rattle.std.proofs.lemmas.Bool.{both_ways, and_parts, eqb-true, cases_Bool, false_from_ne_true, ne_eqb}
use Rattle.std.proofs.lemmas.List.Folds.{list_any-append}
use Rattle.std.proofs.lemmas.Map.Views.{any-filter_same}
use Rattle.std.proofs.Math.Bool.{and-false, and-or_distrib_left, or-false}
use Rattle.reg_keys.specs.declared.opening.Opening.{Opening}
use Rattle.reg_keys.specs.declared.event.EventName.{EventName}
use Rattle.reg_keys.specs.declared.registration.Key.{Key}
use Rattle.reg_keys.specs.declared.registration.Dir.{Dir}
use Rattle.reg_keys.specs.declared.entry.LoadKind.{LoadKind}
use Rattle.reg_keys.specs.declared.entry.LoadKind.TheVariants.{Job, Flag}
use Rattle.reg_keys.specs.declared.entry.FiredKey.{FiredKey}
use Rattle.reg_keys.specs.declared.entry.ShutKey.{ShutKey}
use Rattle.reg_keys.specs.declared.entry.OpenOutcome.TheVariants as Opens
use Rattle.reg_keys.specs.declared.entry.ReportOutcome.TheVariants as Reports
use Rattle.reg_keys.specs.declared.entry.RegisterOutcome.TheVariants as Registers
use Rattle.reg_keys.specs.declared.entry.WithdrawOutcome.TheVariants as Withdraws
use Rattle.reg_keys.specs.declared.entry.AskOutcome.TheVariants as Asks
use Rattle.reg_keys.specs.declared.entry.DispatchOutcome.TheVariants as Dispatches
use Rattle.reg_keys.specs.declared.entry.CloseOutcome.TheVariants as Closes
use Rattle.reg_keys.specs.declared.entry.Entry.{Entry}
use Rattle.reg_keys.specs.declared.entry.Entry.TheVariants.{Open, Report, Register, Withdraw, Ask, Dispatch}
use Rattle.reg_keys.specs.declared.entry.Entry.TheVariants.{Close}
use Rattle.reg_keys.specs.Tests.{same_key, one_if, how_many, IsIn}
use Rattle.reg_keys.specs.Histories.{count_after, next_number, Registered, without, keys_run, keys_shut}
use Rattle.reg_keys.specs.Histories.{waiting, Standing, StillWaits, HasRun, WasShut, Unasked, standing_run}
use Rattle.reg_keys.specs.Histories.{flag_run, flag_shut, not_asked, unasked}
use Rattle.reg_keys.specs.Replies.{is_flag, told, event_named, reply_of, IsLegal}
use Rattle.reg_keys.specs.Consistency.{waits_as_flag, still_waits, told_to_wait}
use Rattle.reg_keys.specs.ListLaws.{same_key_is, same_key_self, many_append, many_filter_le, in_filter}
use Rattle.reg_keys.specs.ListLaws.{some_in}
use Rattle.reg_keys.proofs.RightReplies.{next_opening, next_key, ran_by, shut_by, open_case, report_case}
use Rattle.reg_keys.proofs.RightReplies.{register_case, withdraw_case, ask_case, dispatch_case, close_case}
use Rattle.reg_keys.proofs.Sound.{named_more}
use Rattle.reg_keys.specs.Laws.{at_key, at_most_one}
use Rattle.reg_keys.proofs.EndsOnce.{waits_once}

-- ---- no flag is asked for twice

abbrev at_flag : Key → Unasked → Bool
at_flag k f = same_key f.key k

-- at most one flag has a key, and none has one from n on
pub record AskedOnce (fs : List Unasked) (n : ℕ) : Type 0 where
  pub most : (k : Key) → how_many (at_flag k) fs ≤ 1
  pub new : (k : Key) → n ≤ k.number → how_many (at_flag k) fs ≡ 0

many_map : (g : Unasked → Unasked) → ((f : Unasked) → (g f).key ≡ f.key) → (k : Key) (fs : List Unasked)
    → how_many (at_flag k) (map g fs) ≡ how_many (at_flag k) fs
many_map g key_is k [] = refl
many_map g key_is k (f ∷ fs) =
    let r = many_map g key_is k fs in
    let e : one_if (same_key (g f).key k) ≡ one_if (same_key f.key k) =
    ap (λ (l : Key). one_if (same_key l k)) (key_is f) in
    omega arith

less : (p : Unasked → Bool) (fs : List Unasked) (n m : ℕ) → n ≤ m → AskedOnce fs n → AskedOnce (filter p fs) m
less p fs n m le r = record {
  most = λ k.
      let a = r.most k in
      let b = many_filter_le (at_flag k) p fs in omega arith;
  new = λ k h.
      let a = r.new k (omega arith) in
      let b = many_filter_le (at_flag k) p fs in omega arith;
}

grown : (fs : List Unasked) (n m : ℕ) → n ≤ m → AskedOnce fs n → AskedOnce fs m
grown fs n m le r = record { most = r.most; new = λ k h. r.new k (omega arith) }

mapped : (g : Unasked → Unasked) → ((f : Unasked) → (g f).key ≡ f.key) → (fs : List Unasked) (n m : ℕ)
    → n ≤ m → AskedOnce fs n → AskedOnce (map g fs) m
mapped g key_is fs n m le r = record {
  most = λ k.
      let a = r.most k in
      let b = many_map g key_is k fs in omega arith;
  new = λ k h.
      let a = r.new k (omega arith) in
      let b = many_map g key_is k fs in omega arith;
}

one_more : (fs : List Unasked) (f : Unasked) (n m : ℕ) → f.key.number ≡ n → n < m
    → AskedOnce fs n → AskedOnce (fs ++ f ∷ []) m
one_more fs f n m is lt r = record {
  most = λ k.
      let a = many_append (at_flag k) fs (f ∷ []) in
      let b = r.most k in ⊎_elim
      (λ (h : same_key f.key k ≡ true).
      let z = r.new k (let i = eqb-true f.key.number k.number h in omega arith) in
      let x = ap one_if h in
      omega arith)
      (λ (h : same_key f.key k ≡ false). let x = ap one_if h in omega arith) (cases_Bool (same_key f.key k));
  new =
      λ k h.
      let a = many_append (at_flag k) fs (f ∷ []) in
      let b = r.new k (omega arith) in
      let x : one_if (same_key f.key k) ≡ 0 = ap one_if (ne_eqb f.key.number k.number (λ i. omega arith)) in
      omega arith;
}

-- ---- tests on what is left

none_more : (a t : Bool) → (a || ((t && false) || false)) ≡ a
none_more true t = refl
none_more false true = refl
none_more false false = refl

and_none : (a b : Bool) → (a && (false && b)) ≡ false
and_none true b = refl
and_none false b = refl

abbrev flag_at : Key → Registered → Bool
flag_at k w = same_key w.key k && is_flag w.kind

abbrev waits_at : Key → Unasked → Bool
waits_at k f = same_key f.key k && still_waits f.standing

any_without : (k : Key) (ks : List Key) (ws : List Registered) → list_any (flag_at k) (without ks ws)
    ≡ (not (list_any (λ l. same_key l k) ks) && list_any (flag_at k) ws)
any_without k ks ws =
    any-filter_same (flag_at k) (λ (w : Registered). not (list_any (λ l. same_key l w.key) ks))
    (not (list_any (λ l. same_key l k) ks))
    (λ w h. ap (λ (x : Key). not (list_any (λ l. same_key l x) ks))
    (same_key_is w.key k (and_parts (same_key w.key k) (is_flag w.kind) h).0))
    ws

any_asked : (k key : Key) (fs : List Unasked)
    → list_any (waits_at k) (not_asked key fs) ≡ (not (same_key key k) && list_any (waits_at k) fs)
any_asked k key fs =
    any-filter_same (waits_at k) (λ (f : Unasked). not (same_key key f.key)) (not (same_key key k))
    (λ f h. ap (λ (x : Key). not (same_key key x))
    (same_key_is f.key k (and_parts (same_key f.key k) (still_waits f.standing) h).0))
    fs

-- a change that ends the wait of some keys
any_map : (g : Unasked → Unasked) (k : Key) (gone : Key → Bool) → ((f : Unasked) → (g f).key ≡ f.key)
    → ((f : Unasked) → still_waits (g f).standing ≡ (not (gone f.key) && still_waits f.standing))
    → (fs : List Unasked) → list_any (waits_at k) (map g fs) ≡ (not (gone k) && list_any (waits_at k) fs)
any_map g k gone key_is ends [] = sym (and-false (not (gone k)))
any_map g k gone key_is ends (f ∷ fs) =
    (λ i. one i || any_map g k gone key_is ends fs i)
    ∙ sym (and-or_distrib_left (not (gone k)) (waits_at k f) (list_any (waits_at k) fs))
  where
    by_case : (t : Bool) → same_key f.key k ≡ t
        → (t && still_waits (g f).standing) ≡ (not (gone k) && (t && still_waits f.standing))
    by_case true is =
        ends f ∙ ap (λ (l : Key). not (gone l) && still_waits f.standing) (same_key_is f.key k is)
    by_case false is = sym (and_none (not (gone k)) (still_waits f.standing))

    one : waits_at k (g f) ≡ (not (gone k) && waits_at k f)
    one =
        ap (λ (l : Key). same_key l k && still_waits (g f).standing) (key_is f)
        ∙ subst (λ t. (t && still_waits (g f).standing) ≡ (not (gone k) && (t && still_waits f.standing)))
        refl (by_case (same_key f.key k) refl)

run_ends : (ran : List FiredKey) (k : Key) (now : Standing) → still_waits (standing_run k ran now)
    ≡ (not (list_any (λ l. same_key l k) (keys_run ran)) && still_waits now)
run_ends [] k now = refl
run_ends (r ∷ ran) k now = by_case (same_key r.key k) (run_ends ran k now)
  where
    by_case : (t : Bool) → still_waits (standing_run k ran now)
        ≡ (not (list_any (λ l. same_key l k) (keys_run ran)) && still_waits now)
        → still_waits (if t then HasRun r.dir r.marks else standing_run k ran now)
        ≡ (not (t || list_any (λ l. same_key l k) (keys_run ran)) && still_waits now)
    by_case true h = refl
    by_case false h = h

shut_ends : (t : Bool) (now : Standing)
    → still_waits (if t then WasShut else now) ≡ (not t && still_waits now)
shut_ends true now = refl
shut_ends false now = refl

-- ---- every entry

pub record FlagsAgree (s c : ℕ) (past : List Entry) : Type 0 where
  pub agree : (k : Key) → waits_as_flag past k ≡ told_to_wait past k
  pub once : AskedOnce (unasked past) (next_number s c past)

module _ (s c : ℕ) where
  idle : (past : List Entry) (e : Entry) → FlagsAgree s c past
      → next_number s c past ≤ next_number s c (e ∷ past) → waiting (e ∷ past) ≡ waiting past
      → unasked (e ∷ past) ≡ unasked past → FlagsAgree s c (e ∷ past)
  idle past e r le w u = record {
    agree = λ k. ap (list_any (flag_at k)) w ∙ (r.agree k ∙ ap (list_any (waits_at k)) (sym u));
    once =
        subst (λ fs. AskedOnce fs (next_number s c (e ∷ past))) (sym u)
        (grown (unasked past) (next_number s c past) (next_number s c (e ∷ past)) le r.once);
  }

  registered : (past : List Entry) → FlagsAgree s c past
      → (o : Opening) (d : Dir) (m : Option ℕ) (kind : LoadKind) (e : Option EventName)
      → FlagsAgree s c (Register o d m kind (Registers.Waits (next_key s c past) e) ∷ past)
  registered past r o d m (Job tag) e =
      let key = next_key s c past in
      let w : Registered = record { key = key; opening = o; dir = d; kind = Job tag } in
      let more = named_more e (count_after c past + 1) in
      record {
        agree =
            λ k. list_any-append (flag_at k) (waiting past) (w ∷ [])
            ∙ (none_more (waits_as_flag past k) (same_key key k) ∙ r.agree k);
        once =
            grown (unasked past) (next_number s c past)
            (next_number s c (Register o d m (Job tag) (Registers.Waits key e) ∷ past)) (omega arith) r.once;
      }
  registered past r o d m Flag e =
      let key = next_key s c past in
      let w : Registered = record { key = key; opening = o; dir = d; kind = Flag } in
      let f : Unasked = record { key = key; opening = o; standing = StillWaits } in
      let more = named_more e (count_after c past + 1) in
      record {
        agree =
            λ k. list_any-append (flag_at k) (waiting past) (w ∷ [])
            ∙ (ap (λ b. b || ((same_key key k && true) || false)) (r.agree k)
            ∙ sym (list_any-append (waits_at k) (unasked past) (f ∷ [])));
        once =
            one_more (unasked past) f (next_number s c past)
            (next_number s c (Register o d m Flag (Registers.Waits key e) ∷ past)) refl (omega arith) r.once;
      }

  -- what isn't a flag leaves no flag when it goes
  unflagged : (past : List Entry) → IsLegal s c past → (k : Key) (w : Registered) → IsIn w (waiting past)
      → w.key ≡ k → is_flag w.kind ≡ false → waits_as_flag past k ≡ false
  unflagged past l k w i is off =
      false_from_ne_true (waits_as_flag past k) (λ h.
      let a = some_in (flag_at k) (waiting past) h in
      let b = and_parts (same_key a.0.key k) (is_flag a.0.kind) a.2 in
      let one : a.0 ≡ w = at_most_one (at_key k) (waiting past) a.0 w (waits_once s c past l k) a.1 i b.0
      (subst (λ (x : Key). same_key x k ≡ true) (sym is) (same_key_self k)) in
      both_ways (is_flag w.kind) off (ap (λ (x : Registered). is_flag x.kind) (sym one) ∙ b.1))

  -- a flag that doesn't wait leaves none that does when it goes
  unwaiting : (past : List Entry) → FlagsAgree s c past → (k : Key) (f : Unasked) → IsIn f (unasked past)
      → f.key ≡ k → still_waits f.standing ≡ false → told_to_wait past k ≡ false
  unwaiting past r k f i is off =
      false_from_ne_true (told_to_wait past k) (λ h.
      let a = some_in (waits_at k) (unasked past) h in
      let b = and_parts (same_key a.0.key k) (still_waits a.0.standing) a.2 in
      let one : a.0 ≡ f = at_most_one (at_flag k) (unasked past) a.0 f (r.once.most k) a.1 i b.0
      (subst (λ (x : Key). same_key x k ≡ true) (sym is) (same_key_self k)) in
      both_ways (still_waits f.standing) off (ap (λ (x : Unasked). still_waits x.standing) (sym one) ∙ b.1))

  -- a key that is taken out and wasn't there changes nothing
  same_left : (key k : Key) (x : Bool) → (key ≡ k → x ≡ false) → (not (same_key key k) && x) ≡ x
  same_left key k x gone = by_case (same_key key k) refl
    where
      by_case : (t : Bool) → same_key key k ≡ t → (not t && x) ≡ x
      by_case true is = sym (gone (same_key_is key k is))
      by_case false is = refl

  withdrawn : (past : List Entry) → IsLegal s c past → FlagsAgree s c past → (key : Key) (w : Registered)
      → IsIn w (waiting past) → w.key ≡ key → (kind : LoadKind) → w.kind ≡ kind
      → FlagsAgree s c (Withdraw key (Withdraws.Back kind) ∷ past)
  withdrawn past l r key w i is Flag kind_is = record {
    agree =
        λ k. any_without k (key ∷ []) (waiting past)
        ∙ (ap (λ b. not b && waits_as_flag past k) (or-false (same_key key k))
        ∙ (ap (λ b. not (same_key key k) && b) (r.agree k) ∙ sym (any_asked k key (unasked past))));
    once = less _ (unasked past) (next_number s c past) (next_number s c past) (omega arith) r.once;
  }
  withdrawn past l r key w i is (Job tag) kind_is = record {
    agree =
        λ k. any_without k (key ∷ []) (waiting past)
        ∙ (ap (λ b. not b && waits_as_flag past k) (or-false (same_key key k))
        ∙ (same_left key k (waits_as_flag past k) (λ e. unflagged past l k w i (is ∙ e) (ap is_flag kind_is))
        ∙ r.agree k));
    once = r.once;
  }

  answered : (past : List Entry) → FlagsAgree s c past → (key : Key) (f : Unasked) → IsIn f (unasked past)
      → f.key ≡ key → (now : Standing) → f.standing ≡ now → FlagsAgree s c (Ask key (told now) ∷ past)
  answered past r key f i is StillWaits now_is = idle past (Ask key Asks.Waiting) r (omega arith) refl refl
  answered past r key f i is (HasRun d m) now_is = record {
    agree =
        λ k. r.agree k ∙ sym (any_asked k key (unasked past) ∙ same_left key k (told_to_wait past k)
        (λ e. unwaiting past r k f i (is ∙ e) (ap still_waits now_is)));
    once = less _ (unasked past) (next_number s c past) (next_number s c past) (omega arith) r.once;
  }
  answered past r key f i is WasShut now_is = record {
    agree =
        λ k. r.agree k ∙ sym (any_asked k key (unasked past) ∙ same_left key k (told_to_wait past k)
        (λ e. unwaiting past r k f i (is ∙ e) (ap still_waits now_is)));
    once = less _ (unasked past) (next_number s c past) (next_number s c past) (omega arith) r.once;
  }

  ran : (past : List Entry) → FlagsAgree s c past
      → (x : EventName) (list : List FiredKey) (e : Option EventName)
      → FlagsAgree s c (Dispatch x (Dispatches.Ran list e) ∷ past)
  ran past r x list e = let more = named_more e (count_after c past) in record {
    agree =
        λ k. any_without k (keys_run list) (waiting past)
        ∙ (ap (λ b. not (list_any (λ l. same_key l k) (keys_run list)) && b) (r.agree k)
        ∙ sym (any_map (flag_run list) k (λ key. list_any (λ l. same_key l key) (keys_run list))
        (λ _. refl) (λ f. run_ends list f.key f.standing) (unasked past)));
    once =
        mapped (flag_run list) (λ _. refl) (unasked past) (next_number s c past)
        (next_number s c (Dispatch x (Dispatches.Ran list e) ∷ past)) (omega arith) r.once;
  }

  shut : (past : List Entry) → FlagsAgree s c past → (o : Opening) (xs : List ShutKey)
      → FlagsAgree s c (Close o (Closes.Shut xs) ∷ past)
  shut past r o xs = record {
    agree =
        λ k. any_without k (keys_shut xs) (waiting past)
        ∙ (ap (λ b. not (list_any (λ l. same_key l k) (keys_shut xs)) && b) (r.agree k)
        ∙ sym (any_map (flag_shut xs) k (λ key. list_any (λ l. same_key l key) (keys_shut xs)) (λ _. refl)
        (λ f. shut_ends (list_any (λ l. same_key l f.key) (keys_shut xs)) f.standing) (unasked past)));
    once =
        mapped (flag_shut xs) (λ _. refl) (unasked past) (next_number s c past)
        (next_number s c past) (omega arith) r.once;
  }

  step : (past : List Entry) → IsLegal s c past → FlagsAgree s c past → (e : Entry)
      → FlagsAgree s c (reply_of s c past e ∷ past)
  step past l r (Open fd x) =
      open_case s c past fd (λ y. FlagsAgree s c (Open fd y ∷ past))
      (λ o _. idle past (Open fd (Opens.Taken o)) r (omega arith) refl refl)
      (λ _ _. idle past (Open fd Opens.Spent) r (omega arith) refl refl)
      (λ _ _. idle past (Open fd (Opens.Opened (next_opening s c past fd))) r (omega arith) refl refl)
  step past l r (Report o ds x) =
      report_case s c past o ds (λ y. FlagsAgree s c (Report o ds y ∷ past))
      (λ _. idle past (Report o ds Reports.Stale) r (omega arith) refl refl)
      (λ _ _. idle past (Report o ds Reports.Spent) r (omega arith) refl refl)
      (λ _ _.
      let e = event_named s c (Report o ds (Reports.Noted None) ∷ past) o in
      let more = named_more e (count_after c past + 1) in
      idle past (Report o ds (Reports.Noted e)) r (omega arith) refl refl)
  step past l r (Register o d m kind x) =
      register_case s c past o d m kind (λ y. FlagsAgree s c (Register o d m kind y ∷ past))
      (λ _. idle past (Register o d m kind Registers.Shut) r (omega arith) refl refl)
      (λ _ _. idle past (Register o d m kind Registers.Crowded) r (omega arith) refl refl)
      (λ _ _ _. idle past (Register o d m kind Registers.Spent) r (omega arith) refl refl)
      (λ _ _ _. registered past r o d m kind
      (event_named s c (Register o d m kind (Registers.Waits (next_key s c past) None) ∷ past) o))
  step past l r (Withdraw k x) =
      withdraw_case s c past k (λ y. FlagsAgree s c (Withdraw k y ∷ past))
      (λ _. idle past (Withdraw k Withdraws.Gone) r (omega arith) refl refl)
      (λ w ws is. let a = in_filter (at_key k) w (waiting past) (subst (IsIn w) (sym is) (inl refl)) in
      withdrawn past l r k w a.0 (same_key_is w.key k a.1) w.kind refl)
  step past l r (Ask k x) =
      ask_case s c past k (λ y. FlagsAgree s c (Ask k y ∷ past))
      (λ _. idle past (Ask k Asks.Unknown) r (omega arith) refl refl)
      (λ f fs is. let a = in_filter (at_flag k) f (unasked past) (subst (IsIn f) (sym is) (inl refl)) in
      answered past r k f a.0 (same_key_is f.key k a.1) f.standing refl)
  step past l r (Dispatch x y) =
      dispatch_case s c past x (λ y. FlagsAgree s c (Dispatch x y ∷ past))
      (λ _. idle past (Dispatch x Dispatches.Stale) r (omega arith) refl refl)
      (λ _ _. idle past (Dispatch x Dispatches.Spent) r (omega arith) refl refl)
      (λ _ _. ran past r x (ran_by s c past x)
      (event_named s c (Dispatch x (Dispatches.Ran (ran_by s c past x) None) ∷ past) x.opening))
  step past l r (Close o x) =
      close_case s c past o (λ y. FlagsAgree s c (Close o y ∷ past))
      (λ _. idle past (Close o Closes.NotOpen) r (omega arith) refl refl)
      (λ _. shut past r o (shut_by s c past o))

  pub flags_agree : (past : List Entry) → IsLegal s c past → FlagsAgree s c past
  flags_agree [] l =
      record { agree = λ _. refl; once = record { most = λ _. omega arith; new = λ _ _. refl } }
  flags_agree (e ∷ past) l =
      subst (λ (x : Entry). FlagsAgree s c (x ∷ past)) (sym l.1) (step past l.0 (flags_agree past l.0) e)
