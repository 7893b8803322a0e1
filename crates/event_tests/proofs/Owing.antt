-- What a run's calls do to the account, with the run's job in hand.
use Rattle.std.proofs.Common.{◌≡◌, ℕ, ◌+◌, ◌≤◌, ⊎_elim, List, [], ◌∷◌, ◌++◌, map, true, false, Bool, sym}
use Rattle.std.proofs.Common.{refl, ap, ◌∙◌, subst, arith}
use Rattle.std.specs.Prelude.{Option, Some, ◌==◌, ◌&&◌}
use Rattle.std.proofs.lemmas.Bool.{eqb-true, eqb-false, eq-eqb, ne_eqb, cases_Bool}
use Rattle.reg_keys.specs.declared.opening.Opening.{Opening}
use Rattle.reg_keys.specs.declared.event.EventName.{EventName}
use Rattle.reg_keys.specs.declared.registration.Key.{Key}
use Rattle.reg_keys.specs.declared.registration.Dir.{Dir}
use Rattle.reg_keys.specs.declared.entry.LoadKind.{LoadKind}
use Rattle.reg_keys.specs.declared.entry.LoadKind.TheVariants as Kinds
use Rattle.reg_keys.specs.declared.entry.Entry.{Entry}
use Rattle.reg_keys.specs.declared.entry.Entry.TheVariants as Entries
use Rattle.reg_keys.specs.declared.entry.RegisterOutcome.{RegisterOutcome}
use Rattle.reg_keys.specs.declared.entry.RegisterOutcome.TheVariants as Registers
use Rattle.reg_keys.specs.declared.entry.CloseOutcome.TheVariants as Closes
use Rattle.reg_keys.specs.Tests.{one_if}
use Rattle.stripe_table.specs.declared.load.Payload.{Payload}
use Rattle.stripe_table.specs.declared.load.Payload.TheVariants as Payloads
use Rattle.stripe_table.specs.declared.calls.RegisterReply.{RegisterReply}
use Rattle.stripe_table.specs.declared.calls.RegisterReply.TheVariants as Register
use Rattle.stripe_table.specs.Calls.{shut_key, kind_of_job}
use Rattle.event_mgr.specs.declared.answers.CloseOut.{CloseOut}
use Rattle.event_mgr.specs.declared.answers.CloseOut.TheVariants as Close
use Rattle.reg_keys.specs.declared.registration.Marks.{Marks}
use Rattle.event_mgr.specs.Manager.{MgrView, IsMgrSplit, own_weight, HasRegistered, HasClosed}
use Rattle.event_mgr.specs.Weighing.{CallsWeigh, Gained, Kept}
use Rattle.event_mgr.specs.Laws.{split_weighs}
use Rattle.stripe_table.specs.declared.calls.Fired.{Fired}
use Rattle.reg_keys.specs.Laws.{total_append}
use Rattle.dispatcher.specs.Entries.{Firing}
use Rattle.dispatcher.specs.Firings.{Jobs, job_in, job_at, firing_of}
use Rattle.event_tests.specs.declared.book.Finish.{Finish}
use Rattle.event_tests.specs.Laws.{pending_one}
use Rattle.event_tests.specs.Accounting.{tag_of, is_job, of_job, accepted, ended, finishes_in, pending}
use Rattle.event_tests.specs.Accounting.{Accounts, Owes}

-- the next job's number is the next one
next_is : (o : Opening) (k a b n : ℕ) → is_job o (k + 1) a b (n + 1) ≡ is_job o k a b n
next_is o k a b n = ap (λ t. ((a == o.number) && (b == o.fd)) && t) (⊎_elim
    (λ (h : (n == k) ≡ true). let e = eqb-true n k h in eq-eqb (n + 1) (k + 1) (omega arith) ∙ sym h)
    (λ (h : (n == k) ≡ false). let e =
    eqb-false n k h in ne_eqb (n + 1) (k + 1) (λ (s : n + 1 ≡ k + 1). e (omega arith)) ∙ sym h)
    (cases_Bool (n == k)))

module _ {T : Type 0} (tag : T → List (List ℕ)) (weigh : CallsWeigh tag) (p : Opening) (n : ℕ)
    (finishes : Opening → ℕ → ℕ) (v w : MgrView) (jobs : Jobs) (owes : Owes p n finishes v jobs) where
  -- an entry that accepts nothing
  owes_gained : (e : Entry) → Gained e v w → ((o : Opening) (k : ℕ) → accepted o k e ≡ 0)
      → Owes p n finishes w jobs
  owes_gained e a none o k =
      let x = a (accepted o (k + 1)) in
      let y = a (ended o k) in
      let z = none o (k + 1) in
      let q = owes o k in omega arith

  -- no entry
  owes_kept : Kept v w → Owes p n finishes w jobs
  owes_kept a o k =
      let x = a (accepted o (k + 1)) in
      let y = a (ended o k) in
      let q = owes o k in omega arith

  pub owes_closed : (o : Opening) (r : CloseOut T) → HasClosed tag o v r w → Owes p n finishes w jobs
  owes_closed o (Close.Shut list) h =
      owes_gained (Entries.Close o (Closes.Shut (map (shut_key tag) list)))
      (weigh.closed o v (Close.Shut list) w h) (λ _ _. refl)
  owes_closed o Close.NotOpen h =
      owes_gained (Entries.Close o Closes.NotOpen) (weigh.closed o v Close.NotOpen w h) (λ _ _. refl)
  owes_closed o Close.Spent h = owes_kept (weigh.closed o v Close.Spent w h)

  module _ (d : Dir) (m : Option ℕ) (job : T) (next : tag job ≡ tag_of p (n + 1)) where
    -- the entry of the registration with this outcome
    abbrev entry : RegisterOutcome → Entry
    entry x = Entries.Register p d m (Kinds.Job (tag job)) x

    pub owes_waits : (key : Key) (e : Option EventName)
        → HasRegistered tag p d m (Payloads.Job job) v (Register.Waits key e) w → Accounts finishes w jobs
    owes_waits key e h o k = ⊎_elim
        (λ (t : Gained (entry (Registers.Waits key e)) v w).
        let x = t (accepted o (k + 1)) in
        let y = t (ended o k) in
        let a : of_job o (k + 1) (Kinds.Job (tag job)) ≡ one_if (is_job o (k + 1) p.number p.fd (n + 1)) =
        ap (λ l. of_job o (k + 1) (Kinds.Job l)) next in
        let b : one_if (is_job o (k + 1) p.number p.fd (n + 1)) ≡ one_if (is_job o k p.number p.fd n) =
        ap one_if (next_is o k p.number p.fd n) in
        let q = owes o k in omega arith)
        (λ t. let z = t.0 in absurd (cc))
        (weigh.registered_by p d m (Payloads.Job job) v (Register.Waits key e) w h)

    pub owes_shut : (back : Payload T) → HasRegistered tag p d m (Payloads.Job job) v (Register.Shut back) w
        → Owes p n finishes w jobs
    owes_shut back h = ⊎_elim
        (λ t. owes_gained (entry Registers.Shut) t (λ _ _. refl))
        (λ t. let z = t.0 in absurd (cc))
        (weigh.registered_by p d m (Payloads.Job job) v (Register.Shut back) w h)

    pub owes_crowded : (back : Payload T)
        → HasRegistered tag p d m (Payloads.Job job) v (Register.Crowded back) w → Owes p n finishes w jobs
    owes_crowded back h = ⊎_elim
        (λ t. owes_gained (entry Registers.Crowded) t (λ _ _. refl))
        (λ t. let z = t.0 in absurd (cc))
        (weigh.registered_by p d m (Payloads.Job job) v (Register.Crowded back) w h)

    pub owes_spent : (back : Payload T) → HasRegistered tag p d m (Payloads.Job job) v (Register.Spent back) w
        → Owes p n finishes w jobs
    owes_spent back h = ⊎_elim
        (λ t. owes_gained (entry Registers.Spent) t (λ _ _. refl))
        (λ t. owes_kept t.1)
        (weigh.registered_by p d m (Payloads.Job job) v (Register.Spent back) w h)

-- the job that a run was given is in hand
pub owes_from : {T : Type 0} (tag : T → List (List ℕ)) (q : Opening) (f : Fired T) (job : T)
    (p : Opening) (n : ℕ) (finishes : Opening → ℕ → ℕ) (v : MgrView) (rest : Jobs)
    → Some job ≡ f.job → tag job ≡ tag_of p n → Accounts finishes v (job_in tag q f ++ rest)
    → Owes p n finishes v rest
owes_from tag q f job p n finishes v rest is next acc o k =
    let a = acc o k in
    let b = total_append (λ (x : Firing). of_job o k x.1.kind) (job_in tag q f) rest in
    let c = pending_one o k (firing_of tag q f) (kind_of_job tag f.job) refl in
    let d : of_job o k (kind_of_job tag f.job) ≡ of_job o k (Kinds.Job (tag job)) =
    ap (λ j. of_job o k (kind_of_job tag j)) (sym is) in
    let e : of_job o k (Kinds.Job (tag job)) ≡ one_if (is_job o k p.number p.fd n) =
    ap (λ l. of_job o k (Kinds.Job l)) next in
    omega arith

-- one connection more is finished
pub finished_one : (xs : List Finish) (f : Finish) (o : Opening) (k : ℕ) → finishes_in (xs ++ f ∷ []) o k
    ≡ finishes_in xs o k + one_if (is_job o k f.opening.number f.opening.fd f.number)
finished_one xs f o k =
    let a = total_append (λ (g : Finish).
    one_if (is_job o k g.opening.number g.opening.fd g.number)) xs (f ∷ []) in
    omega arith

-- the job in hand was finished
pub finished_on : (p : Opening) (n : ℕ) (finishes later : Opening → ℕ → ℕ) (v : MgrView) (jobs : Jobs)
    → ((o : Opening) (k : ℕ) → later o k ≤ finishes o k + one_if (is_job o k p.number p.fd n))
    → Owes p n finishes v jobs → Accounts later v jobs
finished_on p n finishes later v jobs f owes o k =
    let a = f o k in
    let b = owes o k in omega arith

-- a job that was given to shut is in hand
pub owes_shut_job : (o : Opening) (key : Key) (d : Dir) (m : Marks) (p : Opening)
    (n : ℕ) (finishes : Opening → ℕ → ℕ) (v : MgrView) (rest : Jobs)
    → Accounts finishes v (job_at o key d m (tag_of p n) ∷ rest) → Owes p n finishes v rest
owes_shut_job o key d m p n finishes v rest acc q k = let a = acc q k in omega arith

-- a pass that was split off another one has made no call
pub fresh_accounts : (u v w : MgrView) → IsMgrSplit u v w → Accounts (finishes_in []) w []
fresh_accounts u v w s o k = let a = (split_weighs (accepted o (k + 1)) u v w s).1 in omega arith

-- and so has a row's, whose book is empty
pub fresh_row : (u v w : MgrView) (finished : List Finish) → finished ≡ [] → IsMgrSplit u v w
    → Accounts (finishes_in finished) w []
fresh_row u v w finished none s =
    subst (λ (l : List Finish). Accounts (finishes_in l) w []) (sym none) (fresh_accounts u v w s)
