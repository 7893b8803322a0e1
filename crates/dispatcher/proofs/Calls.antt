-- What a run's calls come to: each call of the manager that a run may make, and several of them.
use Rattle.std.proofs.Common.{◌≡◌, ℕ, ⊎_elim, List, [], ◌∷◌, ◌++◌, map, sym, refl, ap, ◌∙◌, subst, arith}
use Rattle.std.specs.Prelude.{Option}
use Rattle.std.proofs.lemmas.List.{append_assoc, append-nil}
use Rattle.reg_keys.specs.declared.opening.Opening.{Opening}
use Rattle.reg_keys.specs.declared.event.EventName.{EventName}
use Rattle.reg_keys.specs.declared.registration.Key.{Key}
use Rattle.reg_keys.specs.declared.registration.Dir.{Dir}
use Rattle.reg_keys.specs.declared.entry.Entry.{Entry}
use Rattle.reg_keys.specs.declared.entry.Entry.TheVariants as Entries
use Rattle.reg_keys.specs.declared.entry.OpenOutcome.TheVariants as Opens
use Rattle.reg_keys.specs.declared.entry.RegisterOutcome.TheVariants as Registers
use Rattle.reg_keys.specs.declared.entry.WithdrawOutcome.TheVariants as Withdraws
use Rattle.reg_keys.specs.declared.entry.AskOutcome.TheVariants as Asks
use Rattle.reg_keys.specs.declared.entry.CloseOutcome.TheVariants as Closes
use Rattle.turn_cell.specs.declared.view.View.{View}
use Rattle.turn_cell.specs.Weights.{weigh}
use Rattle.turn_cell.specs.History.{Log}
use Rattle.turn_cell.specs.View.{own_entries, seat_of}
use Rattle.turn_cell.specs.ListLaws.{weigh-append, begins_two, begins_one}
use Rattle.stripe_table.specs.declared.load.Payload.{Payload}
use Rattle.stripe_table.specs.declared.calls.RegisterReply.{RegisterReply}
use Rattle.stripe_table.specs.declared.calls.RegisterReply.TheVariants as Register
use Rattle.stripe_table.specs.Calls.{kind_of, kind_of_job, shut_key}
use Rattle.event_mgr.specs.declared.numbers.NumbersEntry.{NumbersEntry}
use Rattle.event_mgr.specs.declared.answers.OpenOut.{OpenOut}
use Rattle.event_mgr.specs.declared.answers.OpenOut.TheVariants as Open
use Rattle.event_mgr.specs.declared.answers.WithdrawOut.{WithdrawOut}
use Rattle.event_mgr.specs.declared.answers.WithdrawOut.TheVariants as Withdraw
use Rattle.event_mgr.specs.declared.answers.AskOut.{AskOut}
use Rattle.event_mgr.specs.declared.answers.AskOut.TheVariants as Ask
use Rattle.event_mgr.specs.declared.answers.CloseOut.{CloseOut}
use Rattle.event_mgr.specs.declared.answers.CloseOut.TheVariants as Close
use Rattle.event_mgr.specs.Rows.{At}
use Rattle.event_mgr.specs.Stripes.{stripe_of, StripeEntered, StripeSpent, NumbersEntered, NumbersSpent}
use Rattle.event_mgr.specs.Stripes.{GivenBack}
use Rattle.event_mgr.specs.Manager.{MgrView, EnteredAt, SpentAt, DrewInVain, HasOpened, HasRegistered}
use Rattle.event_mgr.specs.Manager.{HasWithdrawn, HasAsked, HasClosed}
use Rattle.event_mgr.specs.Weighing.{CallsWeigh}
use Rattle.dispatcher.specs.Entries.{named_by, IsOfRun}
use Rattle.dispatcher.specs.Stripes.{Each, HasGrown, AreOfRun, weigh_shown}
use Rattle.dispatcher.specs.Runs.{RunsAt, HasMadeCalls, named_by_register}
use Rattle.dispatcher.specs.Laws.{grown_same, grown_then, grown_as, each_same, each_set, each_then}
use Rattle.dispatcher.specs.Laws.{entered_stripe}

-- ---- one stripe

runs_nothing : (v : View Entry) → RunsAt v v
runs_nothing v =
    record { grown = grown_same v; made = []; own = sym (append-nil (own_entries v)); calls = tt }

of_run_both : (xs ys : Log Entry) → AreOfRun xs → AreOfRun ys → AreOfRun (xs ++ ys)
of_run_both [] ys a b = b
of_run_both (x ∷ xs) ys a b = (a.0, of_run_both xs ys a.1 b)

runs_then : (u v w : View Entry) → RunsAt u v → RunsAt v w → RunsAt u w
runs_then u v w a b = record {
  grown = grown_then u v w a.grown b.grown;
  made = a.made ++ b.made;
  own = b.own ∙ (ap (λ (l : Log Entry). l ++ b.made) a.own ∙ append_assoc (own_entries u) a.made b.made);
  calls = of_run_both a.made b.made a.calls b.calls;
}

runs_entered : (s : ℕ) (e : Entry) → IsOfRun e → (x y : View Entry) → StripeEntered s e x y → RunsAt x y
runs_entered s e of x y k =
    record { grown = entered_stripe s e x y k; made = (seat_of x, e) ∷ []; own = k.own; calls = (of, tt) }

spent_stripe : (s : ℕ) (x y : View Entry) → StripeSpent s x y → HasGrown x y
spent_stripe s x y k = grown_as x y k.unmoved.name k.unmoved.seen k.unmoved.classes (λ _. k.met_spent)

runs_spent : (s : ℕ) (x y : View Entry) → StripeSpent s x y → RunsAt x y
runs_spent s x y k = record {
  grown = spent_stripe s x y k;
  made = [];
  own = (λ i. own_of (k.unmoved.seen i) (k.unmoved.classes i)) ∙ sym (append-nil (own_entries x));
  calls = tt;
}
  where
    own_of : Log Entry → List (ℕ × ℕ) → Log Entry
    own_of seen classes = own_entries (record x { seen = seen; classes = classes })

-- ---- the numbers

numbers_grown : (e : NumbersEntry) (x y : View NumbersEntry) → NumbersEntered e x y → HasGrown x y
numbers_grown e x y k = record {
  name = k.name;
  classes = k.classes;
  seen = begins_two x.seen k.between ((seat_of x, e) ∷ []) y.seen k.seen;
  own = begins_one (own_entries x) ((seat_of x, e) ∷ []) (own_entries y) k.own;
  met = λ m. k.met_spent ∙ m;
}

numbers_spent_grown : (x y : View NumbersEntry) → NumbersSpent x y → HasGrown x y
numbers_spent_grown x y k = grown_as x y k.unmoved.name k.unmoved.seen k.unmoved.classes (λ _. k.met_spent)

back_grown : (fd : ℕ) (x y : View NumbersEntry) → GivenBack fd x y → HasGrown x y
back_grown fd x y b = ⊎_elim (λ t. numbers_grown _ x y t.1) (λ t. numbers_spent_grown x y t) b

-- ---- several calls

pub calls_none : (v : MgrView) → HasMadeCalls v [] v
calls_none v = record {
  stripes = each_same RunsAt runs_nothing v.stripes;
  numbers = grown_same v.numbers;
  named = λ h. omega arith;
}

pub calls_then : (u : MgrView) (xs : List EventName) (v : MgrView) (ys : List EventName) (w : MgrView)
    → HasMadeCalls u xs v → HasMadeCalls v ys w → HasMadeCalls u (xs ++ ys) w
calls_then u xs v ys w a b = record {
  stripes = each_then RunsAt runs_then u.stripes v.stripes w.stripes a.stripes b.stripes;
  numbers = grown_then u.numbers v.numbers w.numbers a.numbers b.numbers;
  named = λ h.
      let x = a.named h in
      let y = b.named h in
      let z = weigh-append h xs ys in omega arith;
}

-- ---- one call

module _ {T : Type 0} {tag : T → List (List ℕ)} (law : CallsWeigh tag) (s : ℕ) (v w : MgrView)
    (grown : HasGrown v.numbers w.numbers) where
  -- the view before, where the numbers are as after
  abbrev between : MgrView
  between = record { stripes = v.stripes; numbers = w.numbers }

  runs_at : (R : View Entry → View Entry → Type 0) → ((x y : View Entry) → R x y → RunsAt x y)
      → At s R v.stripes w.stripes → Each RunsAt v.stripes w.stripes
  runs_at R of a =
      subst (λ (l : List (View Entry)). Each RunsAt v.stripes l) (sym a.others)
      (each_set RunsAt runs_nothing v.stripes s a.before a.after a.there (of a.before a.after a.moved))

  calls_at : (e : Entry) → IsOfRun e → At s (StripeEntered s e) v.stripes w.stripes
      → HasMadeCalls v (named_by e) w
  calls_at e of a = record {
    stripes = runs_at (StripeEntered s e) (runs_entered s e of) a;
    numbers = grown;
    named =
        λ h. law.entered s e between w (record { stripe = a; numbers = refl }) (λ t. weigh h (named_by t));
  }

  calls_spent : At s (StripeSpent s) v.stripes w.stripes → HasMadeCalls v [] w
  calls_spent a = record {
    stripes = runs_at (StripeSpent s) (runs_spent s) a;
    numbers = grown;
    named =
        λ h.
        let k : weigh_shown named_by h w ≡ weigh_shown named_by h v =
        law.spent s between w (record { stripe = a; numbers = refl }) (λ t. weigh h (named_by t)) in
        omega arith;
  }

same_grown : (v w : MgrView) → w.numbers ≡ v.numbers → HasGrown v.numbers w.numbers
same_grown v w e = subst (λ z. HasGrown v.numbers z) (sym e) (grown_same v.numbers)

-- no stripe has changed
still : (v w : MgrView) → w.stripes ≡ v.stripes → HasGrown v.numbers w.numbers → HasMadeCalls v [] w
still v w e grown = record {
  stripes =
      subst (λ (l : List (View Entry)). Each RunsAt v.stripes l) (sym e)
      (each_same RunsAt runs_nothing v.stripes);
  numbers = grown;
  named =
      λ h.
      let k : weigh_shown named_by h w ≡ weigh_shown named_by h v =
      ap (λ l. weigh_shown named_by h (record { stripes = l; numbers = v.numbers })) e in
      omega arith;
}

module _ {T : Type 0} {tag : T → List (List ℕ)} (law : CallsWeigh tag) where
  -- an entry that a run may make, in one stripe
  pub calls_entered : (s : ℕ) (e : Entry) (v w : MgrView) → IsOfRun e → EnteredAt s e v w
      → HasMadeCalls v (named_by e) w
  calls_entered s e v w of a = calls_at law s v w (same_grown v w a.numbers) e of a.stripe

  -- no entry, since the stripe's cell is spent
  pub calls_refused : (s : ℕ) (v w : MgrView) → SpentAt s v w → HasMadeCalls v [] w
  calls_refused s v w a = calls_spent law s v w (same_grown v w a.numbers) a.stripe

  in_vain : (v w : MgrView) → DrewInVain v w → HasMadeCalls v [] w
  in_vain v w k =
      let s = stripe_of k.fd in
      let grown = grown_then v.numbers k.drawn w.numbers
      (numbers_grown _ v.numbers k.drawn k.drew) (back_grown k.fd k.drawn w.numbers k.back) in
      let a = k.refused in
      ⊎_elim
      (λ t. calls_at law s v w grown (Entries.Open k.fd Opens.Spent) tt
      (record { before = a.before; after = a.after; there = a.there; others = a.others; moved = t }))
      (λ t. calls_spent law s v w grown
      (record { before = a.before; after = a.after; there = a.there; others = a.others; moved = t }))
      a.moved

  pub calls_opened : (v : MgrView) (r : OpenOut) (w : MgrView) → HasOpened v r w → HasMadeCalls v [] w
  calls_opened v (Open.Opened o) w k =
      calls_at law (stripe_of o.fd) v w (numbers_grown _ v.numbers w.numbers k.0.numbers)
      (Entries.Open o.fd (Opens.Opened o)) tt k.0.stripe
  calls_opened v Open.Full w k = still v w k.1 (numbers_grown _ v.numbers w.numbers k.0)
  calls_opened v (Open.Taken o) w k =
      calls_at law (stripe_of o.fd) v w (numbers_grown _ v.numbers w.numbers k.numbers)
      (Entries.Open o.fd (Opens.Taken o)) tt k.stripe
  calls_opened v Open.Spent w k =
      ⊎_elim (λ t. still v w t.1 (numbers_spent_grown v.numbers w.numbers t.0)) (λ t. in_vain v w t) k

  pub calls_registered : (o : Opening) (d : Dir) (m : Option ℕ)
      (load : Payload T) (v : MgrView) (r : RegisterReply T) (w : MgrView)
      → HasRegistered tag o d m load v r w → HasMadeCalls v (named_by_register r) w
  calls_registered o d m load v (Register.Waits key e) w k =
      ⊎_elim (λ t. calls_entered (stripe_of o.fd)
      (Entries.Register o d m (kind_of tag load) (Registers.Waits key e)) v w tt t.0)
      (λ t. let z = t.0 in absurd (cc)) k
  calls_registered o d m load v (Register.Shut back) w k =
      ⊎_elim (λ t.
      calls_entered (stripe_of o.fd) (Entries.Register o d m (kind_of tag load) Registers.Shut) v w tt t.0)
      (λ t. let z = t.0 in absurd (cc)) k
  calls_registered o d m load v (Register.Crowded back) w k =
      ⊎_elim (λ t.
      calls_entered (stripe_of o.fd) (Entries.Register o d m (kind_of tag load) Registers.Crowded) v w tt t.0)
      (λ t. let z = t.0 in absurd (cc)) k
  calls_registered o d m load v (Register.Spent back) w k =
      ⊎_elim (λ t.
      calls_entered (stripe_of o.fd) (Entries.Register o d m (kind_of tag load) Registers.Spent) v w tt t.0)
      (λ t. calls_refused (stripe_of o.fd) v w t.1) k

  pub calls_withdrawn : (key : Key) (v : MgrView) (r : WithdrawOut T) (w : MgrView)
      → HasWithdrawn tag key v r w → HasMadeCalls v [] w
  calls_withdrawn key v (Withdraw.Back job) w k =
      calls_entered (stripe_of key.number)
      (Entries.Withdraw key (Withdraws.Back (kind_of_job tag job))) v w tt k
  calls_withdrawn key v Withdraw.Gone w k =
      calls_entered (stripe_of key.number) (Entries.Withdraw key Withdraws.Gone) v w tt k
  calls_withdrawn key v Withdraw.Spent w k = calls_refused (stripe_of key.number) v w k

  pub calls_closed : (o : Opening) (v : MgrView) (r : CloseOut T) (w : MgrView)
      → HasClosed tag o v r w → HasMadeCalls v [] w
  calls_closed o v (Close.Shut list) w k =
      calls_at law (stripe_of o.fd) v w (back_grown o.fd v.numbers w.numbers k.numbers)
      (Entries.Close o (Closes.Shut (map (shut_key tag) list))) tt k.stripe
  calls_closed o v Close.NotOpen w k =
      calls_entered (stripe_of o.fd) (Entries.Close o Closes.NotOpen) v w tt k
  calls_closed o v Close.Spent w k = calls_refused (stripe_of o.fd) v w k

  pub calls_asked : (key : Key) (v : MgrView) (r : AskOut) (w : MgrView) → HasAsked key v r w
      → HasMadeCalls v [] w
  calls_asked key v Ask.Waiting w k =
      calls_entered (stripe_of key.number) (Entries.Ask key Asks.Waiting) v w tt k
  calls_asked key v (Ask.Ran d m) w k =
      calls_entered (stripe_of key.number) (Entries.Ask key (Asks.Ran d m)) v w tt k
  calls_asked key v Ask.Closed w k =
      calls_entered (stripe_of key.number) (Entries.Ask key Asks.Closed) v w tt k
  calls_asked key v Ask.Unknown w k =
      calls_entered (stripe_of key.number) (Entries.Ask key Asks.Unknown) v w tt k
  calls_asked key v Ask.Spent w k = calls_refused (stripe_of key.number) v w k
