-- The place of a key in a reply is its own: after its registration, under its own opening, and due.
use Rattle.std.proofs.Common.{◌≡◌, ℕ, ◌≤◌, ⊎_elim, inl, List, [], ◌∷◌, ◌++◌, map, true, Bool, sym, refl, ap}
use Rattle.std.proofs.Common.{◌∙◌, subst, arith}
use Rattle.std.specs.Prelude.{None, filter, ◌&&◌, ◌==◌, nat_lt}
use Rattle.std.specs.List.{list_any}
use Rattle.std.proofs.lemmas.Bool.{and_parts, ltb-true, eqb-true, cases_Bool}
use Rattle.reg_keys.specs.declared.opening.Opening.{Opening}
use Rattle.reg_keys.specs.declared.event.EventName.{EventName}
use Rattle.reg_keys.specs.declared.registration.Key.{Key}
use Rattle.reg_keys.specs.declared.entry.FiredKey.{FiredKey}
use Rattle.reg_keys.specs.declared.entry.ShutKey.{ShutKey}
use Rattle.reg_keys.specs.declared.entry.WithdrawOutcome.TheVariants as Withdraws
use Rattle.reg_keys.specs.declared.entry.DispatchOutcome.TheVariants as Dispatches
use Rattle.reg_keys.specs.declared.entry.CloseOutcome.TheVariants as Closes
use Rattle.reg_keys.specs.declared.entry.Entry.{Entry}
use Rattle.reg_keys.specs.declared.entry.Entry.TheVariants.{Open, Report, Register, Withdraw, Ask, Dispatch}
use Rattle.reg_keys.specs.declared.entry.Entry.TheVariants.{Close}
use Rattle.reg_keys.specs.Tests.{same, same_key, same_event, IsIn}
use Rattle.reg_keys.specs.Histories.{marks_of, Registered, waiting, EventOut, events_out}
use Rattle.reg_keys.specs.Replies.{dir_out, event_has, fires, fired_as, shut_as, event_named, reply_of}
use Rattle.reg_keys.specs.Replies.{IsLegal}
use Rattle.reg_keys.specs.Promises.{times, times_run, times_ended, WasDue, IsOfOpening, IsOwnPlace, RunsOnce}
use Rattle.reg_keys.specs.ListLaws.{same_is, same_key_is, many_none, in_filter, some_in, map_in}
use Rattle.reg_keys.proofs.RightReplies.{ran_by, shut_by, withdraw_case, dispatch_case, close_case}
use Rattle.reg_keys.proofs.Sound.{Sound, sound}
use Rattle.reg_keys.proofs.EndsOnce.{ends_once}
use Rattle.reg_keys.proofs.DueBefore.{EventsWereDue, events_were_due}

-- a key that stands in a list of keys is one of them
stands_in : (k : Key) (ks : List Key) → 1 ≤ times k ks → (l : Key) × IsIn l ks × (l ≡ k)
stands_in k ks h =
    ⊎_elim (λ e. let a = some_in (λ l. same_key l k) ks e in (a.0, a.1, same_key_is a.0 k a.2)) (λ e. let z =
    many_none (λ l. same_key l k) ks e in absurd (omega arith)) (cases_Bool (list_any (λ l. same_key l k) ks))

-- a key in a list of answers is that of a registration that it answers for
answered_for : {B : Type 0} (m : B → Key) (b : Registered → B) → ((w : Registered) → m (b w) ≡ w.key)
    → (p : Registered → Bool) (k : Key) (ws : List Registered) → 1 ≤ times k (map m (map b (filter p ws)))
    → (w : Registered) × IsIn w ws × (p w ≡ true) × (w.key ≡ k)
answered_for m b key_is p k ws h =
    let a = stands_in k (map m (map b (filter p ws))) h in
    let x = map_in m a.0 (map b (filter p ws)) a.1 in
    let y = map_in b x.0 (filter p ws) x.1 in
    let z = in_filter p y.0 ws y.1 in
    (y.0, z.0, z.1, sym (key_is y.0) ∙ (ap m (sym y.2) ∙ (sym x.2 ∙ a.2)))

module _ (s c : ℕ) (past : List Entry) (ok : Sound s c past) where
  place : (k : Key) (e : Entry) (w : Registered) → IsIn w (waiting past) → w.key ≡ k → IsOfOpening w.opening e
      → (1 ≤ times_run k e → WasDue s c k past) → IsOwnPlace s c k e past
  place k e w i is of due = let h = ok.held w i in record {
    registration = w;
    of_key = is;
    registered = h.registered;
    own = of;
    not_shut = ok.unshut w.opening h.live;
    was_due = due;
  }

  first_in : (k : Key) (ws : List Registered) (w : Registered) (rest : List Registered)
      → filter (λ (w : Registered). same_key w.key k) ws ≡ w ∷ rest → IsIn w ws × (w.key ≡ k)
  first_in k ws w rest is =
      let a = in_filter (λ (w : Registered). same_key w.key k) w ws (subst (IsIn w) (sym is) (inl refl)) in
      (a.0, same_key_is w.key k a.1)

  ran_was_due : EventsWereDue s c past → (x : EventName) (w : Registered) → IsIn w (waiting past)
      → fires s c past x w ≡ true → WasDue s c w.key past
  ran_was_due due x w i h =
      let a = and_parts (same x.opening w.opening && nat_lt w.key.number x.number)
      (event_has s c past x w.dir) h in
      let b = and_parts (same x.opening w.opening) (nat_lt w.key.number x.number) a.0 in
      let y = some_in (λ (y : EventOut). same_event x y.event && dir_out y w.dir) (events_out s c past) a.1 in
      let d = and_parts (same_event x y.0.event) (dir_out y.0 w.dir) y.2 in
      let q = and_parts (x.number == y.0.event.number) (same x.opening y.0.event.opening) d.0 in
      let n : x.number ≡ y.0.event.number = eqb-true x.number y.0.event.number q.0 in
      let lt = ltb-true w.key.number x.number b.1 in
      (due y.0 y.1).1 w i
      (subst (λ (o : Opening). same o w.opening ≡ true) (same_is x.opening y.0.event.opening q.1) b.0)
      (omega arith) d.1

  no_place : (k : Key) (e : Entry) → times_ended k e ≡ 0 → 1 ≤ times_ended k e → IsOwnPlace s c k e past
  no_place k e z h = absurd (omega arith)

  own_place : EventsWereDue s c past → (k : Key) (e : Entry) → 1 ≤ times_ended k (reply_of s c past e)
      → IsOwnPlace s c k (reply_of s c past e) past
  own_place due k (Open fd x) = no_place k (reply_of s c past (Open fd x)) refl
  own_place due k (Report o ds x) = no_place k (reply_of s c past (Report o ds x)) refl
  own_place due k (Register o d m kind x) = no_place k (reply_of s c past (Register o d m kind x)) refl
  own_place due k (Ask key x) = no_place k (reply_of s c past (Ask key x)) refl
  own_place due k (Withdraw key x) =
      withdraw_case s c past key
      (λ y. 1 ≤ times_ended k (Withdraw key y) → IsOwnPlace s c k (Withdraw key y) past)
      (λ _ h. absurd (omega arith))
      (λ w rest is h.
      let f = first_in key (waiting past) w rest is in
      let t = stands_in k (key ∷ []) h in
      place k (Withdraw key (Withdraws.Back w.kind)) w f.0 (f.1 ∙ (sym (one_only t.0 key t.1) ∙ t.2)) tt
      (λ n. absurd (omega arith)))
    where
      one_only : (l m : Key) → IsIn l (m ∷ []) → l ≡ m
      one_only l m i = ⊎_elim (λ e. e) (λ a. absurd a) i
  own_place due k (Dispatch x y) =
      dispatch_case s c past x (λ y. 1 ≤ times_ended k (Dispatch x y) → IsOwnPlace s c k (Dispatch x y) past)
      (λ _ h. absurd (omega arith)) (λ _ _ h. absurd (omega arith))
      (λ _ _ h.
      let a = answered_for (λ (f : FiredKey). f.key) (fired_as (marks_of s c past x.opening)) (λ _.
      refl) (fires s c past x) k (waiting past) h in
      let of = and_parts (same x.opening a.0.opening) _ (and_parts
      (same x.opening a.0.opening && nat_lt a.0.key.number x.number) (event_has s c past x a.0.dir) a.2).0 in
      place k (Dispatch x (Dispatches.Ran (ran_by s c past x)
      (event_named s c (Dispatch x (Dispatches.Ran (ran_by s c past x) None) ∷ past) x.opening)))
      a.0 a.1 a.3 of.0 (λ _. subst (λ (l : Key). WasDue s c l past) a.3 (ran_was_due due x a.0 a.1 a.2)))
  own_place due k (Close o x) =
      close_case s c past o (λ y. 1 ≤ times_ended k (Close o y) → IsOwnPlace s c k (Close o y) past)
      (λ _ h. absurd (omega arith))
      (λ _ h. let a = answered_for (λ (f : ShutKey). f.key) shut_as (λ _.
      refl) (λ (w : Registered). same o w.opening) k (waiting past) h in
      place k (Close o (Closes.Shut (shut_by s c past o))) a.0 a.1 a.3 a.2 (λ n. absurd (omega arith)))

module _ (s c : ℕ) where
  -- the entries before one are a legal history
  pub legal_before : (later : List Entry) (past : List Entry) → IsLegal s c (later ++ past) → IsLegal s c past
  legal_before [] past l = l
  legal_before (e ∷ later) past l = legal_before later past l.0

  pub runs_once : (past : List Entry) → IsLegal s c past → RunsOnce s c past
  runs_once past l = record {
    once = λ k. let a = (ends_once s c past l).most k in omega arith;
    own = λ k later e earlier is h. let at = legal_before later (e ∷ earlier) (subst (IsLegal s c) is l) in
        subst (λ (x : Entry). IsOwnPlace s c k x earlier) (sym at.1)
        (own_place s c earlier (sound s c earlier at.0) (events_were_due s c earlier at.0) k e
        (subst (λ (x : Entry). 1 ≤ times_ended k x) at.1 h));
  }
