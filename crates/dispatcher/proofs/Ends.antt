-- Parts of a turn that go on, and parts that end it, one after another.
use Rattle.std.proofs.Common.{◌≡◌, ℕ, suc, ◌⊎◌, inl, inr, ⊎_elim, List, [], ◌∷◌, ◌++◌, length, map, refl, sym}
use Rattle.std.proofs.Common.{ap, ◌∙◌, subst, arith}
use Rattle.std.specs.Prelude.{Option, Some, None, Result, Ok, Err, IfOk, IfErr, MatchOption}
use Rattle.std.proofs.lemmas.List.{append-nil}
use Rattle.reg_keys.specs.declared.opening.Opening.{Opening}
use Rattle.reg_keys.specs.declared.event.EventName.{EventName}
use Rattle.reg_keys.specs.declared.entry.FiredKey.{FiredKey}
use Rattle.stripe_table.specs.declared.calls.Fired.{Fired}
use Rattle.stripe_table.specs.Calls.{fired_key}
use Rattle.turn_cell.specs.declared.view.View.{View}
use Rattle.turn_cell.specs.View.{own_entries}
use Rattle.ready_queue.specs.declared.rule.Move.{Move}
use Rattle.ready_queue.specs.declared.rule.Move.TheVariants.{Put}
use Rattle.ready_queue.specs.Weights.{weigh_taken}
use Rattle.ready_queue.specs.Calls.{view_of, HasMoved, WasFull}
use Rattle.reg_keys.specs.declared.entry.Entry.{Entry}
use Rattle.poller.specs.Polls.{Report}
use Rattle.event_mgr.specs.Manager.{MgrView, EnteredAt, SpentAt, mgr_view}
use Rattle.dispatcher.specs.Meanings.{RunnerMeaning}
use Rattle.dispatcher.specs.declared.pass.DispPass.{DispPass}
use Rattle.dispatcher.specs.declared.outcome.Halt.{Halt}
use Rattle.dispatcher.specs.Entries.{firings, fired_by, reported_by}
use Rattle.dispatcher.specs.Books.{IsAccounted}
use Rattle.dispatcher.specs.Enqueue.{IsPutOrKept, IsPutOrKeptAny}
use Rattle.dispatcher.specs.Firings.{job_keys_of}
use Rattle.dispatcher.specs.Turns.{book_of, book_with, work_with, HasRunKeys, HasHalted, HasMetSpent}
use Rattle.dispatcher.specs.Turns.{HasReportedOne, HasLeftReports, RefusedAt}
use Rattle.dispatcher.specs.declared.outcome.Halt.TheVariants as Halts
use Rattle.dispatcher.specs.declared.outcome.ReportOut.TheVariants as R
use Rattle.dispatcher.specs.Laws.{grown_then}
use Rattle.dispatcher.proofs.Accounts.{balanced_then, accounted_then}
use Rattle.dispatcher.proofs.Weighs.{taken_weighs}
use Rattle.dispatcher.proofs.Works.{work, worked_then, more_pairs, RunKeys}
use Rattle.dispatcher.proofs.WorkSteps.{idle_step, spent_step}
use Rattle.dispatcher.proofs.Replies.{cause_later, met_later}

-- an event that is dealt with isn't taken
pub deal_takes_none : (h : EventName → ℕ) (capacity : ℕ) (e : EventName)
    (v : View Move) (xs : List EventName) (w : View Move) (ys : List EventName)
    → IsPutOrKept capacity e v xs w ys → weigh_taken h (own_entries w) ≡ weigh_taken h (own_entries v)
deal_takes_none h capacity e v xs w ys d = ⊎_elim
    (λ (t : HasMoved capacity (Put e) v w × (ys ≡ xs)). let k =
    taken_weighs h capacity v w (Put e) t.0 in omega arith)
    (λ (t : WasFull capacity v w × (ys ≡ xs ++ e ∷ [])).
    ap (λ (z : View Move). weigh_taken h (own_entries z)) t.0.same)
    d

pub deal_any_takes_none : (h : EventName → ℕ) (capacity : ℕ) (o : Option EventName)
    (v : View Move) (xs : List EventName) (w : View Move) (ys : List EventName)
    → IsPutOrKeptAny capacity o v xs w ys → weigh_taken h (own_entries w) ≡ weigh_taken h (own_entries v)
deal_any_takes_none h capacity None v xs w ys d = ap (λ (z : View Move). weigh_taken h (own_entries z)) d.0
deal_any_takes_none h capacity (Some e) v xs w ys d = deal_takes_none h capacity e v xs w ys d

-- what is said of one answer gives what is said of it elsewhere
pub ok_map : {A E : Type 0} (P Q : A → Type 0) (r : Result A E) → ((x : A) → P x → Q x) → IfOk r P → IfOk r Q
ok_map P Q (Ok x) f k = f x k
ok_map P Q (Err e) f k = tt

pub err_map : {A E : Type 0} (P Q : E → Type 0) (r : Result A E) → ((x : E) → P x → Q x)
    → IfErr r P → IfErr r Q
err_map P Q (Ok x) f k = tt
err_map P Q (Err e) f k = f e k

-- the first item of a list that begins with x was taken out
pub popped_rest : {A : Type 0} (r : Option A) (xs ys : List A) (x : A) (rest : List A)
    → MatchOption r ((xs ≡ []) × (ys ≡ [])) (λ z. xs ≡ z ∷ ys) → xs ≡ x ∷ rest → xs ≡ x ∷ ys
popped_rest None xs ys x rest k is = let e = k.0 in absurd (cc)
popped_rest (Some z) xs ys x rest k is = cc

-- as much fired as the list has
pub firings_length : (o : Opening) (rs : List FiredKey) → length (firings o rs) ≡ length rs
firings_length o [] = refl
firings_length o (r ∷ rs) = ap suc (firings_length o rs)

pub fired_length : {T : Type 0} (tag : T → List (List ℕ)) (o : Opening) (list : List (Fired T))
    → length (firings o (map (fired_key tag) list)) ≡ length list
fired_length tag o [] = refl
fired_length tag o (f ∷ fs) = ap suc (fired_length tag o fs)

-- where nothing was refused
pub none_refused : (halt : Halt) (reported : List Report) → RefusedAt halt [] reported
none_refused (Halts.Stop code) reported = refl
none_refused Halts.Spent reported = inl refl

module _ {X P : Type 0} (meaning : RunnerMeaning X P)
    (on : (x y z : X) → meaning.keeps x y → meaning.keeps y z → meaning.keeps x z) where
  -- a part went on, and the next one ended the turn
  pub halted_then : {T : Type 0} (capacity n : ℕ) (loose next later coming : List EventName) (p : DispPass T)
      (x : X) (q : DispPass T) (y : X) (halt : Halt) (r : DispPass T) (z : X)
      → IsAccounted capacity (book_with loose next p) (book_with later coming q)
      → HasRunKeys meaning n (work_with [] [] p) x (work_with [] [] q) y
      → HasHalted meaning later coming [] q y halt r z → HasHalted meaning loose next [] p x halt r z
  halted_then capacity n loose next later coming p x q y halt r z a w k = record {
    balanced =
        balanced_then (book_with loose next p) (book_with later coming q)
        (book_with [] [] r) a.balanced k.balanced;
    queue = grown_then (view_of p.queue) (view_of q.queue) (view_of r.queue) a.queue k.queue;
    back = k.back;
    work =
        worked_then meaning on (job_keys_of k.back) (work_with [] [] p) x (work_with [] [] q) y
        (work_with k.back [] r) z w.0 k.work;
    cause = cause_later (mgr_view p.mgr) (mgr_view q.mgr) halt (mgr_view r.mgr) w.0.grown k.cause;
  }

  -- a part went on over pairs, and the next one ended the turn
  pub left_then : {T : Type 0} (capacity n : ℕ) (p : DispPass T) (x : X) (pairs : List Report)
      (q : DispPass T) (y : X) (left : List Report) (halt : Halt) (r : DispPass T) (z : X)
      → IsAccounted capacity (book_of p) (book_of q)
      → HasRunKeys meaning n (work_with [] pairs p) x (work_with [] left q) y
      → HasHalted meaning [] [] [] q y halt r z → HasLeftReports meaning p x pairs halt r z left
  left_then capacity n p x pairs q y left halt r z a w k = record {
    balanced = balanced_then (book_of p) (book_of q) (book_of r) a.balanced k.balanced;
    queue = grown_then (view_of p.queue) (view_of q.queue) (view_of r.queue) a.queue k.queue;
    back = k.back;
    refused = [];
    rest = left;
    work =
        worked_then meaning on (job_keys_of k.back) (work_with [] pairs p) x (work_with [] left q) y
        (work_with k.back left r) z w.0
        (more_pairs meaning (job_keys_of k.back) (mgr_view q.mgr) (mgr_view r.mgr) [] k.back
        [] [] left y z k.work);
    left_is = refl;
    was_last = none_refused halt _;
    cause = cause_later (mgr_view p.mgr) (mgr_view q.mgr) halt (mgr_view r.mgr) w.0.grown k.cause;
  }

  -- a part went on over pairs, and the report of the next one was refused as spent
  pub left_refused : {T : Type 0} (capacity n : ℕ) (p : DispPass T) (x : X) (pairs : List Report)
      (q : DispPass T) (y : X) (pair : Report) (rest left : List Report) (r : DispPass T)
      → IsAccounted capacity (book_of p) (book_of q)
      → HasRunKeys meaning n (work_with [] pairs p) x (work_with [] left q) y
      → left ≡ pair ∷ rest → HasReportedOne meaning capacity pair q y R.Spent r
      → HasLeftReports meaning p x pairs Halts.Spent r y left
  unfolding worked_then more_pairs
  left_refused {T} capacity n p x pairs q y pair rest left r a w is k =
      let w' =
      subst (λ (l : List Report). HasRunKeys meaning n (work_with [] pairs p) x (work_with [] l q) y) is w in
      let b = accounted_then capacity (book_of p) (book_of q) (book_of r) a k.0 in
      let c : HasMetSpent (mgr_view p.mgr) (mgr_view r.mgr) =
      met_later (mgr_view p.mgr) (mgr_view q.mgr) (mgr_view r.mgr) w.0.grown k.1 in
      ⊎_elim
      (λ (t : HasRunKeys meaning 0 (work_with [] (pair ∷ []) q) y (work_with [] [] r) y). record {
        balanced = b.balanced;
        queue = b.queue;
        back = [];
        refused = pair ∷ [];
        rest = rest;
        work =
            worked_then meaning on [] (work_with [] pairs p) x
            (work_with [] (pair ∷ rest) q) y (work_with [] rest r) y w'.0
            (more_pairs meaning [] (mgr_view q.mgr) (mgr_view r.mgr) [] [] (pair ∷ []) [] rest y y t.0);
        left_is = is;
        was_last = inr (
          w'.0.reported,
          pair,
          refl,
          ap (λ (l : List Report). w'.0.reported ++ l) (sym (t.0.each_once ∙ append-nil t.0.reported)),
        );
        cause = c;
      })
      (λ (t : HasRunKeys meaning 0 (work_with [] (pair ∷ []) q) y (work_with [] (pair ∷ []) r) y). record {
        balanced = b.balanced;
        queue = b.queue;
        back = [];
        refused = [];
        rest = pair ∷ rest;
        work =
            worked_then meaning on [] (work_with [] pairs p) x
            (work_with [] (pair ∷ rest) q) y (work_with [] (pair ∷ rest) r) y w'.0
            (more_pairs meaning [] (mgr_view q.mgr) (mgr_view r.mgr)
            [] [] (pair ∷ []) (pair ∷ []) rest y y t.0);
        left_is = is;
        was_last = inl refl;
        cause = c;
      })
      k.2

module _ {X P : Type 0} (meaning : RunnerMeaning X P) (same : (x : X) → meaning.keeps x x) where
  -- a call was refused as spent, with an entry or without one
  pub refused_work : (v w : MgrView) (x : X) (ps : List Report) (s : ℕ) (e : Entry)
      → EnteredAt s e v w ⊎ SpentAt s v w
      → fired_by e ≡ [] → reported_by e ≡ [] → RunKeys meaning 0 (work v [] ps) x (work w [] ps) x
  refused_work v w x ps s e c f r =
      ⊎_elim (λ t. idle_step meaning same v w x ps s e t f r) (λ t. spent_step meaning same v w x ps s t) c
