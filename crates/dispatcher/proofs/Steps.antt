-- Each kind of step of a turn keeps the account of events.
use Rattle.std.proofs.Common.{◌≡◌, ℕ, ◌⊎◌, inl, inr, ⊎_elim, List, [], ◌∷◌, ◌++◌, sym, refl, ap, subst, arith}
use Rattle.std.specs.Prelude.{Option, Some, None}
use Rattle.std.specs.Option.{option_to_list}
use Rattle.std.proofs.lemmas.List.{append-nil}
use Rattle.reg_keys.specs.declared.opening.Opening.{Opening}
use Rattle.reg_keys.specs.declared.event.EventName.{EventName}
use Rattle.reg_keys.specs.declared.registration.Dirs.{Dirs}
use Rattle.reg_keys.specs.declared.entry.FiredKey.{FiredKey}
use Rattle.reg_keys.specs.declared.entry.Entry.{Entry}
use Rattle.reg_keys.specs.declared.entry.Entry.TheVariants as Entries
use Rattle.reg_keys.specs.declared.entry.ReportOutcome.TheVariants as Reports
use Rattle.reg_keys.specs.declared.entry.DispatchOutcome.TheVariants as Dispatches
use Rattle.turn_cell.specs.declared.view.View.{View}
use Rattle.turn_cell.specs.Weights.{weigh}
use Rattle.turn_cell.specs.ListLaws.{weigh-append}
use Rattle.ready_queue.specs.declared.rule.Move.{Move}
use Rattle.ready_queue.specs.declared.rule.Move.TheVariants.{Put, Taken}
use Rattle.ready_queue.specs.Calls.{HasMoved, WasFull}
use Rattle.event_mgr.specs.Manager.{MgrView, EnteredAt, SpentAt}
use Rattle.event_mgr.specs.Weighing.{CallsWeigh}
use Rattle.dispatcher.specs.declared.runner.AfterRun.{AfterRun}
use Rattle.dispatcher.specs.Entries.{named_by, dispatched_by}
use Rattle.dispatcher.specs.Books.{Book, IsBalanced, IsAccounted}
use Rattle.dispatcher.specs.Enqueue.{IsPutOrKept, IsPutOrKeptAny}
use Rattle.dispatcher.specs.Runs.{RunMade, events_of, pair_of}
use Rattle.dispatcher.specs.Laws.{grown_same}
use Rattle.dispatcher.proofs.Within.{moved_grown, full_here}
use Rattle.dispatcher.proofs.Weighs.{run_dispatches_none, put_weighs, taken_weighs}
use Rattle.dispatcher.proofs.Accounts.{left_same, accounted_then, accounted_same}

abbrev pub book : MgrView → View Move → List EventName → List EventName → List EventName → Book
book m q hand loose next = record { mgr = m; queue = q; hand = hand; loose = loose; next = next }

module _ (capacity : ℕ) where
  -- an event was put
  pub put_step : (m : MgrView) (v w : View Move) (hand : List EventName)
      (e : EventName) (loose next : List EventName)
      → HasMoved capacity (Put e) v w
      → IsAccounted capacity (book m v hand (e ∷ loose) next) (book m w hand loose next)
  put_step m v w hand e loose next k = record {
    balanced =
        λ h.
        let p = put_weighs h capacity v w (Put e) k in
        let t = taken_weighs h capacity v w (Put e) k in
        omega arith;
    takes = λ h. let t = taken_weighs h capacity v w (Put e) k in omega arith;
    full = inr (record {
      hand = left_same hand;
      others = λ h. let t = taken_weighs h capacity v w (Put e) k in omega arith;
    });
    queue = moved_grown capacity (Put e) v w k;
  }

  -- the queue was full, and the event stays in the hand
  pub keep_step : (m : MgrView) (v w : View Move) (hand : List EventName)
      (e : EventName) (loose next : List EventName) → WasFull capacity v w
      → IsAccounted capacity (book m v hand (e ∷ loose) next) (book m w (hand ++ e ∷ []) loose next)
  keep_step m v w hand e loose next k =
      let f = full_here capacity v w k in
      subst (λ (z : View Move).
      IsAccounted capacity (book m v hand (e ∷ loose) next) (book m z (hand ++ e ∷ []) loose next))
      (sym k.same) (record {
        balanced = λ h. let a = weigh-append h hand (e ∷ []) in omega arith;
        takes = λ h. omega arith;
        full = inl (full_here capacity v v (subst (λ (z : View Move). WasFull capacity v z) k.same k));
        queue = grown_same v;
      })

  -- the queue was full, and the event is dispatched next
  pub next_step : (m : MgrView) (v w : View Move) (hand : List EventName) (e : EventName)
      → WasFull capacity v w → IsAccounted capacity (book m v hand (e ∷ []) []) (book m w hand [] (e ∷ []))
  next_step m v w hand e k =
      subst (λ (z : View Move). IsAccounted capacity (book m v hand (e ∷ []) []) (book m z hand [] (e ∷ [])))
      (sym k.same) (record {
        balanced = λ h. omega arith;
        takes = λ h. omega arith;
        full = inl (full_here capacity v v (subst (λ (z : View Move). WasFull capacity v z) k.same k));
        queue = grown_same v;
      })

  -- the first event of the hand was taken out
  pub pop_step : (m : MgrView) (v : View Move) (e : EventName) (hand : List EventName)
      → IsAccounted capacity (book m v (e ∷ hand) [] []) (book m v hand (e ∷ []) [])
  pop_step m v e hand = record {
    balanced = λ h. omega arith;
    takes = λ h. omega arith;
    full = inr (record { hand = (e ∷ [], refl); others = λ h. omega arith });
    queue = grown_same v;
  }

  -- an event was taken, and is dispatched next
  pub take_step : (m : MgrView) (v w : View Move) (hand : List EventName) (e : EventName)
      → HasMoved capacity (Taken e) v w
      → IsAccounted capacity (book m v hand [] []) (book m w hand [] (e ∷ []))
  take_step m v w hand e k = record {
    balanced =
        λ h.
        let p = put_weighs h capacity v w (Taken e) k in
        let t = taken_weighs h capacity v w (Taken e) k in
        omega arith;
    takes = λ h. let t = taken_weighs h capacity v w (Taken e) k in omega arith;
    full = inr (record {
      hand = left_same hand;
      others = λ h. let t = taken_weighs h capacity v w (Taken e) k in omega arith;
    });
    queue = moved_grown capacity (Taken e) v w k;
  }

  -- a run gave the events that it named
  pub run_step : (v w : MgrView) (q : View Move) (hand : List EventName) (r : AfterRun) → RunMade v r w
      → IsAccounted capacity (book v q hand [] []) (book w q hand (events_of (pair_of r)) [])
  run_step v w q hand r k = record {
    balanced = λ h.
        let i = k.named h in
        let j = run_dispatches_none h v r w k in omega arith;
    takes = λ h. let j = run_dispatches_none h v r w k in omega arith;
    full = inr (record {
      hand = left_same hand;
      others = λ h. let j = run_dispatches_none h v r w k in omega arith;
    });
    queue = grown_same q;
  }

  -- an event was dealt with
  pub deal_step : (m : MgrView) (v w : View Move)
      (xs ys : List EventName) (e : EventName) (loose : List EventName)
      → IsPutOrKept capacity e v xs w ys
      → IsAccounted capacity (book m v xs (e ∷ loose) []) (book m w ys loose [])
  deal_step m v w xs ys e loose d = ⊎_elim
      (λ (t : HasMoved capacity (Put e) v w × (ys ≡ xs)).
      subst (λ (l : List EventName). IsAccounted capacity (book m v xs (e ∷ loose) []) (book m w l loose []))
      (sym t.1) (put_step m v w xs e loose [] t.0))
      (λ (t : WasFull capacity v w × (ys ≡ xs ++ e ∷ [])).
      subst (λ (l : List EventName). IsAccounted capacity (book m v xs (e ∷ loose) []) (book m w l loose []))
      (sym t.1) (keep_step m v w xs e loose [] t.0))
      d

  pub deal_any_step : (m : MgrView) (v w : View Move) (xs ys : List EventName)
      (o : Option EventName) (loose : List EventName)
      → IsPutOrKeptAny capacity o v xs w ys
      → IsAccounted capacity (book m v xs (option_to_list o ++ loose) []) (book m w ys loose [])
  deal_any_step m v w xs ys None loose d =
      subst (λ (z : View Move). IsAccounted capacity (book m v xs loose []) (book m z ys loose [])) (sym d.0)
      (subst (λ (l : List EventName). IsAccounted capacity (book m v xs loose []) (book m v l loose []))
      (sym d.1) (accounted_same capacity (book m v xs loose [])))
  deal_any_step m v w xs ys (Some e) loose d = deal_step m v w xs ys e loose d

  pub deal_one_step : (m : MgrView) (v w : View Move) (xs ys : List EventName) (o : Option EventName)
      → IsPutOrKeptAny capacity o v xs w ys
      → IsAccounted capacity (book m v xs (option_to_list o) []) (book m w ys [] [])
  deal_one_step m v w xs ys o d =
      subst (λ (l : List EventName). IsAccounted capacity (book m v xs l []) (book m w ys [] []))
      (append-nil (option_to_list o)) (deal_any_step m v w xs ys o [] d)

  -- a run, and what became of its events
  pub run_deal_step : (v w : MgrView) (q r s : View Move) (xs ys zs : List EventName) (result : AfterRun)
      → RunMade v result w → IsPutOrKeptAny capacity (pair_of result).first q xs r ys
      → IsPutOrKeptAny capacity (pair_of result).second r ys s zs
      → IsAccounted capacity (book v q xs [] []) (book w s zs [] [])
  run_deal_step v w q r s xs ys zs result k one two =
      let p = pair_of result in
      let b : Book = book v q xs [] [] in
      let c : Book = book w q xs (events_of p) [] in
      let d : Book = book w r ys (option_to_list p.second) [] in
      let e : Book = book w s zs [] [] in
      accounted_then capacity b c e (run_step v w q xs result k)
      (accounted_then capacity c d e (deal_any_step w q r xs ys p.first (option_to_list p.second) one)
      (deal_one_step w r s ys zs p.second two))

-- Steps that are calls of the manager: what each adds is a law of its calls
module _ {T : Type 0} {tag : T → List (List ℕ)} (law : CallsWeigh tag) where
  module _ (capacity : ℕ) where
    -- a call was entered that named these events, and dispatched those
    entered_step : (s : ℕ) (x : Entry) (v w : MgrView) (q : View Move) (hand named gone : List EventName)
        → EnteredAt s x v w → named_by x ≡ named → dispatched_by x ≡ gone
        → IsAccounted capacity (book v q hand [] gone) (book w q hand named [])
    entered_step s x v w q hand named gone a n d = record {
      balanced =
          λ h.
          let i = law.entered s x v w a (λ y. weigh h (named_by y)) in
          let j = law.entered s x v w a (λ y. weigh h (dispatched_by y)) in
          let k = ap (weigh h) n in
          let l = ap (weigh h) d in
          omega arith;
      takes =
          λ h.
          let j = law.entered s x v w a (λ y. weigh h (dispatched_by y)) in
          let l = ap (weigh h) d in
          omega arith;
      full = inr (record {
        hand = left_same hand;
        others =
            λ h.
            let j = law.entered s x v w a (λ y. weigh h (dispatched_by y)) in
            let l = ap (weigh h) d in
            omega arith;
      });
      queue = grown_same q;
    }

    pub ran_step : (v w : MgrView) (q : View Move) (hand : List EventName)
        (s : ℕ) (e : EventName) (rs : List FiredKey) (n : Option EventName)
        → EnteredAt s (Entries.Dispatch e (Dispatches.Ran rs n)) v w
        → IsAccounted capacity (book v q hand [] (e ∷ [])) (book w q hand (option_to_list n) [])
    ran_step v w q hand s e rs n a =
        entered_step s (Entries.Dispatch e (Dispatches.Ran rs n)) v w q hand (option_to_list n)
        (e ∷ []) a refl refl

    pub stale_step : (v w : MgrView) (q : View Move) (hand : List EventName) (s : ℕ) (e : EventName)
        → EnteredAt s (Entries.Dispatch e Dispatches.Stale) v w
        → IsAccounted capacity (book v q hand [] (e ∷ [])) (book w q hand [] [])
    stale_step v w q hand s e a =
        entered_step s (Entries.Dispatch e Dispatches.Stale) v w q hand [] (e ∷ []) a refl refl

    pub noted_step : (v w : MgrView) (q : View Move) (hand : List EventName)
        (s : ℕ) (o : Opening) (ds : Dirs) (n : Option EventName)
        → EnteredAt s (Entries.Report o ds (Reports.Noted n)) v w
        → IsAccounted capacity (book v q hand [] []) (book w q hand (option_to_list n) [])
    noted_step v w q hand s o ds n a =
        entered_step s (Entries.Report o ds (Reports.Noted n)) v w q hand (option_to_list n) [] a refl refl

    -- a call was entered that names nothing and dispatches nothing
    pub nothing_step : (v w : MgrView) (q : View Move) (hand : List EventName) (s : ℕ) (x : Entry)
        → EnteredAt s x v w → named_by x ≡ [] → dispatched_by x
        ≡ [] → IsAccounted capacity (book v q hand [] []) (book w q hand [] [])
    nothing_step v w q hand s x a n d = entered_step s x v w q hand [] [] a n d

    -- no call was entered
    pub spent_step : (v w : MgrView) (q : View Move) (hand : List EventName) (s : ℕ) → SpentAt s v w
        → IsAccounted capacity (book v q hand [] []) (book w q hand [] [])
    spent_step v w q hand s a = record {
      balanced =
          λ h.
          let i = law.spent s v w a (λ y. weigh h (named_by y)) in
          let j = law.spent s v w a (λ y. weigh h (dispatched_by y)) in
          omega arith;
      takes = λ h. let j = law.spent s v w a (λ y. weigh h (dispatched_by y)) in omega arith;
      full = inr (record {
        hand = left_same hand;
        others = λ h. let j = law.spent s v w a (λ y. weigh h (dispatched_by y)) in omega arith;
      });
      queue = grown_same q;
    }

    -- a dispatch, and what became of the event that it named
    pub ran_deal_step : (v w : MgrView) (q r : View Move) (xs ys : List EventName)
        (s : ℕ) (e : EventName) (rs : List FiredKey) (n : Option EventName)
        → EnteredAt s (Entries.Dispatch e (Dispatches.Ran rs n)) v w → IsPutOrKeptAny capacity n q xs r ys
        → IsAccounted capacity (book v q xs [] (e ∷ [])) (book w r ys [] [])
    ran_deal_step v w q r xs ys s e rs n a d =
        accounted_then capacity (book v q xs [] (e ∷ [])) (book w q xs (option_to_list n) [])
        (book w r ys [] []) (ran_step v w q xs s e rs n a) (deal_one_step capacity w q r xs ys n d)

    -- a report, and what became of the event that it named
    pub noted_deal_step : (v w : MgrView) (q r : View Move) (xs ys : List EventName)
        (s : ℕ) (o : Opening) (ds : Dirs) (n : Option EventName)
        → EnteredAt s (Entries.Report o ds (Reports.Noted n)) v w → IsPutOrKeptAny capacity n q xs r ys
        → IsAccounted capacity (book v q xs [] []) (book w r ys [] [])
    noted_deal_step v w q r xs ys s o ds n a d =
        accounted_then capacity (book v q xs [] []) (book w q xs (option_to_list n) []) (book w r ys [] [])
        (noted_step v w q xs s o ds n a) (deal_one_step capacity w q r xs ys n d)

  -- a dispatch was refused, and the event is the last in the hand
  pub refused_balanced : (v w : MgrView) (q : View Move) (hand : List EventName) (s : ℕ) (e : EventName)
      → EnteredAt s (Entries.Dispatch e Dispatches.Spent) v w ⊎ SpentAt s v w
      → IsBalanced (book v q hand [] (e ∷ [])) (book w q (hand ++ e ∷ []) [] [])
  refused_balanced v w q hand s e c h =
      let a = weigh-append h hand (e ∷ []) in
      let x : Entry = Entries.Dispatch e Dispatches.Spent in
      ⊎_elim
      (λ (t : EnteredAt s x v w).
      let i = law.entered s x v w t (λ y. weigh h (named_by y)) in
      let j = law.entered s x v w t (λ y. weigh h (dispatched_by y)) in
      omega arith)
      (λ (t : SpentAt s v w).
      let i = law.spent s v w t (λ y. weigh h (named_by y)) in
      let j = law.spent s v w t (λ y. weigh h (dispatched_by y)) in
      omega arith)
      c
