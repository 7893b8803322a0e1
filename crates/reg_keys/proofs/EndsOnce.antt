-- Each key stands in at most one Ran list, Back reply or Shut list, and waits at most once.
use Rattle.std.proofs.Common.{◌≡◌, ℕ, ◌+◌, ◌≤◌, ⊎_elim, List, [], ◌∷◌, map, true, false, Bool, sym, refl, ap}
use Rattle.std.proofs.Common.{subst, arith}
use Rattle.std.specs.Prelude.{Option, None, filter, not, ◌==◌}
use Rattle.std.specs.List.{list_any}
use Rattle.std.proofs.lemmas.Bool.{both_ways, or_parts, eqb-true, cases_Bool, not-true, ne_eqb}
use Rattle.reg_keys.specs.declared.opening.Opening.{Opening}
use Rattle.reg_keys.specs.declared.event.EventName.{EventName}
use Rattle.reg_keys.specs.declared.registration.Key.{Key}
use Rattle.reg_keys.specs.declared.registration.Dir.{Dir}
use Rattle.reg_keys.specs.declared.entry.LoadKind.{LoadKind}
use Rattle.reg_keys.specs.declared.entry.FiredKey.{FiredKey}
use Rattle.reg_keys.specs.declared.entry.ShutKey.{ShutKey}
use Rattle.reg_keys.specs.declared.entry.OpenOutcome.TheVariants as Opens
use Rattle.reg_keys.specs.declared.entry.ReportOutcome.TheVariants as Reports
use Rattle.reg_keys.specs.declared.entry.RegisterOutcome.TheVariants as Registers
use Rattle.reg_keys.specs.declared.entry.WithdrawOutcome.TheVariants as Withdraws
use Rattle.reg_keys.specs.declared.entry.DispatchOutcome.TheVariants as Dispatches
use Rattle.reg_keys.specs.declared.entry.CloseOutcome.TheVariants as Closes
use Rattle.reg_keys.specs.declared.entry.Entry.{Entry}
use Rattle.reg_keys.specs.declared.entry.Entry.TheVariants.{Open, Report, Register, Withdraw, Ask, Dispatch}
use Rattle.reg_keys.specs.declared.entry.Entry.TheVariants.{Close}
use Rattle.reg_keys.specs.Tests.{same, same_key, one_if, how_many}
use Rattle.reg_keys.specs.Histories.{count_after, next_number, marks_of, Registered, without, keys_run}
use Rattle.reg_keys.specs.Histories.{keys_shut, waiting}
use Rattle.reg_keys.specs.Replies.{fires, fired_as, shut_as, event_named, ask_reply, reply_of, IsLegal}
use Rattle.reg_keys.specs.Promises.{weight, times, times_ended}
use Rattle.reg_keys.specs.ListLaws.{many_append, many_filter_le, many_filter_none, split_filter}
use Rattle.reg_keys.specs.Laws.{at_key}
use Rattle.reg_keys.proofs.RightReplies.{next_opening, next_key, ran_by, shut_by, open_case, report_case}
use Rattle.reg_keys.proofs.RightReplies.{register_case, withdraw_case, dispatch_case, close_case}
use Rattle.reg_keys.proofs.Sound.{named_more}

-- the keys of a list of answers are those of the registrations that it answers for
module _ {B : Type 0} (m : B → Key) (b : Registered → B) (key_is : (w : Registered) → m (b w) ≡ w.key)
    (p : Registered → Bool) where
  times_le : (k : Key) (ws : List Registered) → times k (map m (map b (filter p ws))) ≤ how_many (at_key k) ws
  times_le k [] = omega arith
  times_le k (w ∷ ws) =
      let r = times_le k ws in
      let e : one_if (same_key (m (b w)) k) ≡ one_if (same_key w.key k) =
      ap (λ (l : Key). one_if (same_key l k)) (key_is w) in
      split_filter p w ws (λ l. times k (map m (map b l)) ≤ how_many (at_key k) (w ∷ ws))
      (λ _. omega arith) (λ _. omega arith)

some_times : (k : Key) (ks : List Key) → list_any (λ l. same_key l k) ks ≡ false → times k ks ≡ 0
some_times k [] e = refl
some_times k (x ∷ xs) e =
    let a = or_parts (same_key x k) _ e in
    let r = some_times k xs a.1 in
    let z : one_if (same_key x k) ≡ 0 = ap one_if a.0 in
    omega arith

-- what is taken out and what is left is no more than there was
taken_out : (k : Key) (ks : List Key) (ws : List Registered) → times k ks ≤ how_many (at_key k) ws
    → times k ks + how_many (at_key k) (without ks ws) ≤ how_many (at_key k) ws
taken_out k ks ws le = ⊎_elim
    (λ (h : list_any (λ l. same_key l k) ks ≡ true).
    let z = many_filter_none (at_key k) (λ (w : Registered). not (list_any (λ l. same_key l w.key) ks))
    (λ w a b. both_ways _ (not-true _ b) (subst (λ (n : ℕ). list_any (λ (l : Key). l.number == n) ks ≡ true)
    (sym (eqb-true w.key.number k.number a)) h)) ws in omega arith)
    (λ (h : list_any (λ l. same_key l k) ks ≡ false).
    let z = some_times k ks h in
    let r = many_filter_le (at_key k) (λ (w : Registered). not (list_any (λ l. same_key l w.key) ks)) ws in
    omega arith)
    (cases_Bool (list_any (λ l. same_key l k) ks))

-- u is how often each key has stood in a list so far, ws is what waits, and n is the next number
pub record EndsOnce (u : Key → ℕ) (ws : List Registered) (n : ℕ) : Type 0 where
  pub most : (k : Key) → u k + how_many (at_key k) ws ≤ 1
  pub new : (k : Key) → n ≤ k.number → u k + how_many (at_key k) ws ≡ 0

module _ (s c : ℕ) where
  abbrev pub KeysEndOnce : List Entry → Type 0
  KeysEndOnce past = EndsOnce (λ k. weight (times_ended k) past) (waiting past) (next_number s c past)

  grown : (u : Key → ℕ) (ws : List Registered) (n m : ℕ) → n ≤ m → EndsOnce u ws n
      → EndsOnce (λ k. 0 + u k) ws m
  grown u ws n m le r = record {
    most = λ k. let a = r.most k in omega arith;
    new = λ k h. let a = r.new k (omega arith) in omega arith;
  }

  less : (u : Key → ℕ) (ws : List Registered) (n m : ℕ) (ks : List Key) → n ≤ m
      → ((k : Key) → times k ks ≤ how_many (at_key k) ws) → EndsOnce u ws n
      → EndsOnce (λ k. times k ks + u k) (without ks ws) m
  less u ws n m ks le all r = record {
    most = λ k.
        let a = taken_out k ks ws (all k) in
        let b = r.most k in omega arith;
    new = λ k h.
        let a = taken_out k ks ws (all k) in
        let b = r.new k (omega arith) in omega arith;
  }

  one_more : (past : List Entry) → KeysEndOnce past
      → (o : Opening) (d : Dir) (m : Option ℕ) (kind : LoadKind) (e : Option EventName)
      → KeysEndOnce (Register o d m kind (Registers.Waits (next_key s c past) e) ∷ past)
  one_more past r o d m kind e =
      let key : Key = next_key s c past in
      let w0 : Registered = record { key = key; opening = o; dir = d; kind = kind } in
      let more = named_more e (count_after c past + 1) in
      record {
        most = λ k.
            let a = many_append (at_key k) (waiting past) (w0 ∷ []) in
            let b = r.most k in ⊎_elim
            (λ (h : same_key key k ≡ true).
            let z = r.new k (let i = eqb-true key.number k.number h in omega arith) in
            let x = ap one_if h in
            omega arith)
            (λ (h : same_key key k ≡ false). let x =
            ap one_if h in omega arith) (cases_Bool (same_key key k));
        new =
            λ k h.
            let a = many_append (at_key k) (waiting past) (w0 ∷ []) in
            let b = r.new k (omega arith) in
            let x : one_if (same_key key k) ≡ 0 = ap one_if (ne_eqb key.number k.number (λ i. omega arith)) in
            omega arith;
      }

  -- the first registration that was found under a key has this key
  found_at : (k : Key) (ws : List Registered) (w : Registered) (rest : List Registered)
      → filter (at_key k) ws ≡ w ∷ rest → 1 ≤ how_many (at_key k) ws
  found_at k [] w rest = λ e. absurd (grind arith)
  found_at k (x ∷ xs) w rest =
      split_filter (at_key k) x xs (λ l. l ≡ w ∷ rest → 1 ≤ how_many (at_key k) (x ∷ xs))
      (λ kept e. let a : one_if (same_key x.key k) ≡ 1 = ap one_if kept in omega arith) (λ _ e. let a =
      found_at k xs w rest e in omega arith)

  found_key : (k key : Key) (ws : List Registered) (w : Registered) (rest : List Registered)
      → filter (at_key key) ws ≡ w ∷ rest → times k (key ∷ []) ≤ how_many (at_key k) ws
  found_key k key ws w rest is = ⊎_elim
      (λ (h : same_key key k ≡ true).
      let o = ap one_if h in
      let a = found_at key ws w rest is in
      let b = subst (λ (n : ℕ).
      1 ≤ how_many (λ (v : Registered). v.key.number == n) ws) (eqb-true key.number k.number h) a in
      omega arith)
      (λ (h : same_key key k ≡ false). let o = ap one_if h in omega arith) (cases_Bool (same_key key k))

  idle : (past : List Entry) (e : Entry) → KeysEndOnce past → ((k : Key) → times_ended k e ≡ 0)
      → next_number s c past ≤ next_number s c (e ∷ past) → waiting (e ∷ past) ≡ waiting past
      → KeysEndOnce (e ∷ past)
  idle past e r z le is = record {
    most = λ k.
        let a = r.most k in
        let b = z k in
        let x = ap (how_many (at_key k)) is in omega arith;
    new =
        λ k h.
        let a = r.new k (omega arith) in
        let b = z k in
        let x = ap (how_many (at_key k)) is in
        omega arith;
  }

  step : (past : List Entry) → KeysEndOnce past → (e : Entry) → KeysEndOnce (reply_of s c past e ∷ past)
  step past r (Open fd x) =
      open_case s c past fd (λ y. KeysEndOnce (Open fd y ∷ past))
      (λ o _. idle past (Open fd (Opens.Taken o)) r (λ _. refl) (omega arith) refl)
      (λ _ _. idle past (Open fd Opens.Spent) r (λ _. refl) (omega arith) refl)
      (λ _ _. idle past (Open fd (Opens.Opened (next_opening s c past fd))) r (λ _. refl) (omega arith) refl)
  step past r (Report o ds x) =
      report_case s c past o ds (λ y. KeysEndOnce (Report o ds y ∷ past))
      (λ _. idle past (Report o ds Reports.Stale) r (λ _. refl) (omega arith) refl)
      (λ _ _. idle past (Report o ds Reports.Spent) r (λ _. refl) (omega arith) refl)
      (λ _ _.
      let e = event_named s c (Report o ds (Reports.Noted None) ∷ past) o in
      let a = named_more e (count_after c past + 1) in
      idle past (Report o ds (Reports.Noted e)) r (λ _. refl) (omega arith) refl)
  step past r (Register o d m kind x) =
      register_case s c past o d m kind (λ y. KeysEndOnce (Register o d m kind y ∷ past))
      (λ _. idle past (Register o d m kind Registers.Shut) r (λ _. refl) (omega arith) refl)
      (λ _ _. idle past (Register o d m kind Registers.Crowded) r (λ _. refl) (omega arith) refl)
      (λ _ _ _. idle past (Register o d m kind Registers.Spent) r (λ _. refl) (omega arith) refl)
      (λ _ _ _. one_more past r o d m kind _)
  step past r (Withdraw k x) =
      withdraw_case s c past k (λ y. KeysEndOnce (Withdraw k y ∷ past))
      (λ _. idle past (Withdraw k Withdraws.Gone) r (λ _. refl) (omega arith) refl)
      (λ w rest is. less (λ l. weight (times_ended l) past) (waiting past) (next_number s c past)
      (next_number s c past) (k ∷ []) (omega arith) (λ l. found_key l k (waiting past) w rest is) r)
  step past r (Ask k x) = idle past (Ask k (ask_reply past k)) r (λ _. refl) (omega arith) refl
  step past r (Dispatch x y) =
      dispatch_case s c past x (λ y. KeysEndOnce (Dispatch x y ∷ past))
      (λ _. idle past (Dispatch x Dispatches.Stale) r (λ _. refl) (omega arith) refl)
      (λ _ _. idle past (Dispatch x Dispatches.Spent) r (λ _. refl) (omega arith) refl)
      (λ _ _.
      let ran = ran_by s c past x in
      let e = event_named s c (Dispatch x (Dispatches.Ran ran None) ∷ past) x.opening in
      let a = named_more e (count_after c past) in
      less (λ l. weight (times_ended l) past) (waiting past) (next_number s c past)
      (next_number s c (Dispatch x (Dispatches.Ran ran e) ∷ past)) (keys_run ran) (omega arith)
      (λ l. times_le (λ (f : FiredKey). f.key) (fired_as (marks_of s c past x.opening))
      (λ _. refl) (fires s c past x) l (waiting past)) r)
  step past r (Close o x) =
      close_case s c past o (λ y. KeysEndOnce (Close o y ∷ past))
      (λ _. idle past (Close o Closes.NotOpen) r (λ _. refl) (omega arith) refl)
      (λ _. less (λ l. weight (times_ended l) past) (waiting past) (next_number s c past)
      (next_number s c past) (keys_shut (shut_by s c past o)) (omega arith)
      (λ l. times_le (λ (f : ShutKey). f.key) shut_as (λ _. refl) (λ (w : Registered). same o w.opening) l
      (waiting past)) r)

  pub ends_once : (past : List Entry) → IsLegal s c past → KeysEndOnce past
  ends_once [] l = record { most = λ _. omega arith; new = λ _ _. refl }
  ends_once (e ∷ past) l =
      subst (λ (x : Entry). KeysEndOnce (x ∷ past)) (sym l.1) (step past (ends_once past l.0) e)

  -- no key waits twice
  pub waits_once : (past : List Entry) → IsLegal s c past → (k : Key) → how_many (at_key k) (waiting past) ≤ 1
  waits_once past l k = let a = (ends_once past l).most k in omega arith
