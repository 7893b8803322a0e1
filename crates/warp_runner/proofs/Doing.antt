-- What each call does, as acts, and how acts go together.
use Rattle.std.proofs.Common.{◌≡◌, ℕ, List, [], ◌++◌, map, sym, refl, ap, ◌∙◌, subst, inl, inr, ⊎_elim, arith}
use Rattle.std.proofs.Common.{append-nil, append_assoc}
use Rattle.std.specs.Prelude.{◌⊎◌, Option}
use Rattle.std.specs.Option.{option_to_list}
use Rattle.reg_keys.specs.declared.opening.Opening.{Opening}
use Rattle.reg_keys.specs.declared.event.EventName.{EventName}
use Rattle.reg_keys.specs.declared.registration.Key.{Key}
use Rattle.reg_keys.specs.declared.registration.Dir.{Dir}
use Rattle.reg_keys.specs.declared.entry.LoadKind.TheVariants as Kinds
use Rattle.reg_keys.specs.declared.entry.Entry.{Entry}
use Rattle.reg_keys.specs.declared.entry.Entry.TheVariants as Entries
use Rattle.reg_keys.specs.declared.entry.OpenOutcome.TheVariants as Opens
use Rattle.reg_keys.specs.declared.entry.RegisterOutcome.{RegisterOutcome}
use Rattle.reg_keys.specs.declared.entry.RegisterOutcome.TheVariants as Registers
use Rattle.reg_keys.specs.declared.entry.CloseOutcome.{CloseOutcome}
use Rattle.reg_keys.specs.declared.entry.CloseOutcome.TheVariants as Closes
use Rattle.stripe_table.specs.declared.load.Payload.{Payload}
use Rattle.stripe_table.specs.declared.load.Payload.TheVariants as Payloads
use Rattle.stripe_table.specs.declared.calls.RegisterReply.{RegisterReply}
use Rattle.stripe_table.specs.declared.calls.RegisterReply.TheVariants as Register
use Rattle.stripe_table.specs.Calls.{shut_key}
use Rattle.turn_cell.specs.declared.view.View.{View}
use Rattle.turn_cell.specs.ListLaws.{weigh-append}
use Rattle.event_mgr.specs.declared.answers.CloseOut.TheVariants as Close
use Rattle.event_mgr.specs.declared.answers.OpenOut.{OpenOut}
use Rattle.event_mgr.specs.declared.answers.OpenOut.TheVariants as Open
use Rattle.event_mgr.specs.declared.numbers.NumbersEntry.{NumbersEntry}
use Rattle.event_mgr.specs.Stripes.{GivenBack}
use Rattle.event_mgr.specs.declared.numbers.NumbersCall.TheVariants.{Draw}
use Rattle.event_mgr.specs.declared.numbers.NumbersReply.TheVariants.{Drawn}
use Rattle.event_mgr.specs.Manager.{MgrView, DrewInVain, HasOpened, HasRegistered, HasClosed}
use Rattle.event_mgr.specs.Laws.{numbers_weigh, opened_numbers, taken_numbers, full_numbers, back_numbers}
use Rattle.event_mgr.specs.Weighing.{CallsWeigh, Gained, Kept}
use Rattle.dispatcher.specs.Entries.{Firing}
use Rattle.dispatcher.specs.Runs.{CallsOfRuns, HasMadeCalls}
use Rattle.timeout_mgr.specs.declared.view.TimeView.{TimeView}
use Rattle.timeout_mgr.specs.declared.view.TimeCall.{TimeCall}
use Rattle.timeout_mgr.specs.Passes.{calls_of}
use Rattle.warp_tally.specs.declared.calls.TallyEntry.{TallyEntry}
use Rattle.warp_books.specs.Books.{BookTold, FinishedTold, IsBookOf}
use Rattle.warp_runner.specs.Acts.{Acts, Did, ServeTold, told_of, nothing, called, watched, then}
use Rattle.warp_runner.specs.Acts.{fired_weight, is_all_out, all_out_in}
use Rattle.warp_runner.specs.JournalLaws.{all_out_kept}
use Rattle.warp_runner.specs.Calls.{DidAt, HasOpenedIt, IsJob}

-- ---- acts that go together

pub did_then : {T : Type 0} {tag : T → List (List ℕ)} (rules : CallsOfRuns tag) (u v w : ServeTold)
    (a b : Acts) (xs ys : List EventName)
    → Did u a xs v → Did v b ys w → Did u (then a b) (xs ++ ys) w
did_then rules u v w a b xs ys x y = record {
  made = rules.several u.mgr xs v.mgr ys w.mgr x.made y.made;
  grew = λ f.
      let p = x.grew f in
      let q = y.grew f in
      let z = weigh-append f a.calls b.calls in omega arith;
  fires_none =
      λ φ.
      let p = x.fires_none φ in
      let q = y.fires_none φ in
      let z = weigh-append (fired_weight φ) a.calls b.calls in
      omega arith;
  all_out =
      let p = x.all_out in
      let q = y.all_out in omega arith;
  tallied =
      y.tallied ∙ ap (λ (l : List TallyEntry). l ++ b.tallied) x.tallied
      ∙ append_assoc u.tallied a.tallied b.tallied;
  timed = y.timed ∙ ap (λ (l : List TimeCall). l ++ b.timed) x.timed ∙ append_assoc u.timed a.timed b.timed;
  book =
      λ before is.
      subst (λ (l : List FinishedTold). IsBookOf l w.book) (append_assoc before a.handed b.handed)
      (y.book (before ++ a.handed) (x.book before is));
}

-- nothing was done with the book
pub kept_book : (b : BookTold) (before : List FinishedTold) → IsBookOf before b → IsBookOf (before ++ []) b
kept_book b before is = subst (λ (l : List FinishedTold). IsBookOf l b) (sym (append-nil before)) is

-- ---- calls on the manager

-- how often the pass was told that all descriptors are open
abbrev counts_all_out : NumbersEntry → ℕ
counts_all_out e = is_all_out e.call e.reply

back_stays : (fd : ℕ) (v w : MgrView) → GivenBack fd v.numbers w.numbers → all_out_in w ≡ all_out_in v
back_stays fd v w h = ⊎_elim (λ x. x) (λ x. let y = x.1 in omega arith) (back_numbers counts_all_out fd v w h)

did_gained : (e : Entry) (events : List EventName) (v w : MgrView) → HasMadeCalls v events w
    → all_out_in w ≡ all_out_in v → Gained e v w → ((φ : Firing → ℕ) → fired_weight φ e ≡ 0)
    → DidAt v (called e) events w
did_gained e events v w made numbers gained none t s b = record {
  made = made;
  grew = λ f. let x = gained f in omega arith;
  fires_none = λ φ. let x = none φ in omega arith;
  all_out = omega arith;
  tallied = sym (append-nil _);
  timed = sym (append-nil _);
  book = kept_book b;
}

did_kept : (v w : MgrView) → HasMadeCalls v [] w → all_out_in w ≡ all_out_in v → Kept v w
    → DidAt v nothing [] w
did_kept v w made numbers kept t s b = record {
  made = made;
  grew = λ f. let x = kept f in omega arith;
  fires_none = λ φ. refl;
  all_out = omega arith;
  tallied = sym (append-nil _);
  timed = sym (append-nil _);
  book = kept_book b;
}

-- nothing was done at all
pub did_none : {T : Type 0} {tag : T → List (List ℕ)} (rules : CallsOfRuns tag) (u : ServeTold)
    → Did u nothing [] u
did_none rules u = record {
  made = rules.none u.mgr;
  grew = λ f. omega arith;
  fires_none = λ φ. refl;
  all_out = omega arith;
  tallied = sym (append-nil _);
  timed = sym (append-nil _);
  book = kept_book u.book;
}

module _ {T : Type 0} (tag : T → List (List ℕ)) (rules : CallsOfRuns tag) (weighs : CallsWeigh tag) where
  pub did_nothing : (v : MgrView) → DidAt v nothing [] v
  did_nothing v = did_kept v v (rules.none v) refl (λ f. refl)

  module _ (o : Opening) (v w : MgrView) where
    pub did_shut_these : (list : List (Key × Option T)) → HasClosed tag o v (Close.Shut list) w
        → DidAt v (called (Entries.Close o (Closes.Shut (map (shut_key tag) list)))) [] w
    did_shut_these list h =
        did_gained _ [] v w (rules.closed o v (Close.Shut list) w h) (back_stays o.fd v w h.numbers)
        (weighs.closed o v (Close.Shut list) w h) (λ _. refl)

    pub did_shut : (list : List (Key × Option T)) → HasClosed tag o v (Close.Shut list) w
        → (s : CloseOutcome) × DidAt v (called (Entries.Close o s)) [] w
    did_shut list h = (Closes.Shut (map (shut_key tag) list), did_shut_these list h)

    pub did_find_closed : HasClosed tag o v Close.NotOpen w
        → DidAt v (called (Entries.Close o Closes.NotOpen)) [] w
    did_find_closed h =
        did_gained _ [] v w (rules.closed o v Close.NotOpen w h) (all_out_kept v w h.numbers)
        (weighs.closed o v Close.NotOpen w h) (λ _. refl)

    pub did_not_open : HasClosed tag o v Close.NotOpen w
        → (s : CloseOutcome) × DidAt v (called (Entries.Close o s)) [] w
    did_not_open h = (Closes.NotOpen, did_find_closed h)

    pub did_close_spent : HasClosed tag o v Close.Spent w → DidAt v nothing [] w
    did_close_spent h =
        did_kept v w (rules.closed o v Close.Spent w h) (all_out_kept v w h.numbers)
        (weighs.closed o v Close.Spent w h)

    module _ (d : Dir) (m : Option ℕ) (job : T) where
      numbers : (r : RegisterReply T) → HasRegistered tag o d m (Payloads.Job job) v r w
          → all_out_in w ≡ all_out_in v
      numbers r h = ⊎_elim (λ t. all_out_kept v w t.0.numbers) (λ t. all_out_kept v w t.1.numbers) h

      abbrev entry : RegisterOutcome → Entry
      entry out = Entries.Register o d m (Kinds.Job (tag job)) out

      pub did_wait : (key : Key) (e : Option EventName)
          → HasRegistered tag o d m (Payloads.Job job) v (Register.Waits key e) w
          → DidAt v (called (entry (Registers.Waits key e))) (option_to_list e) w
      did_wait key e h = ⊎_elim
          (λ (t : Gained (entry (Registers.Waits key e)) v w).
          did_gained (entry (Registers.Waits key e)) (option_to_list e) v w (rules.registered o d m
          (Payloads.Job job) v (Register.Waits key e) w h) (numbers (Register.Waits key e) h) t (λ _. refl))
          (λ t. let z = t.0 in absurd (cc))
          (weighs.registered_by o d m (Payloads.Job job) v (Register.Waits key e) w h)

      pub did_crowd : (back : Payload T)
          → HasRegistered tag o d m (Payloads.Job job) v (Register.Crowded back) w
          → DidAt v (called (entry Registers.Crowded)) [] w
      did_crowd back h = ⊎_elim
          (λ (t : Gained (entry Registers.Crowded) v w). did_gained (entry Registers.Crowded)
          [] v w (rules.registered o d m (Payloads.Job job) v (Register.Crowded back) w h)
          (numbers (Register.Crowded back) h) t (λ _. refl))
          (λ t. let z = t.0 in absurd (cc))
          (weighs.registered_by o d m (Payloads.Job job) v (Register.Crowded back) w h)

      pub did_find_shut : (back : Payload T)
          → HasRegistered tag o d m (Payloads.Job job) v (Register.Shut back) w
          → DidAt v (called (entry Registers.Shut)) [] w
      did_find_shut back h = ⊎_elim
          (λ (t : Gained (entry Registers.Shut) v w). did_gained (entry Registers.Shut)
          [] v w (rules.registered o d m (Payloads.Job job) v (Register.Shut back) w h)
          (numbers (Register.Shut back) h) t (λ _. refl))
          (λ t. let z = t.0 in absurd (cc))
          (weighs.registered_by o d m (Payloads.Job job) v (Register.Shut back) w h)

      pub did_find_spent : (back : Payload T)
          → HasRegistered tag o d m (Payloads.Job job) v (Register.Spent back) w
          → DidAt v nothing [] w ⊎ DidAt v (called (entry Registers.Spent)) [] w
      did_find_spent back h = ⊎_elim
          (λ (t : Gained (entry Registers.Spent) v w). inr (did_gained (entry Registers.Spent)
          [] v w (rules.registered o d m (Payloads.Job job) v (Register.Spent back) w h)
          (numbers (Register.Spent back) h) t (λ _. refl)))
          (λ t. inl (did_kept v w (rules.registered o d m (Payloads.Job job) v (Register.Spent back) w h)
          (numbers (Register.Spent back) h) t.1))
          (weighs.registered_by o d m (Payloads.Job job) v (Register.Spent back) w h)

module _ {T : Type 0} (tag : T → List (List ℕ)) (rules : CallsOfRuns tag) (weighs : CallsWeigh tag)
    (v w : MgrView) where
  pub did_open : (o : Opening) → HasOpened v (Open.Opened o) w → HasOpenedIt v (Open.Opened o) w
  did_open o h = (
    did_gained (Entries.Open o.fd (Opens.Opened o)) [] v w (rules.opened v (Open.Opened o) w h)
        (let x =
        opened_numbers counts_all_out o v w h in omega arith) (weighs.opened v (Open.Opened o) w h)
        (λ _. refl),
    h.1,
  )

  pub did_find_taken : (o : Opening) → HasOpened v (Open.Taken o) w → HasOpenedIt v (Open.Taken o) w
  did_find_taken o h =
      did_gained (Entries.Open o.fd (Opens.Taken o)) [] v w (rules.opened v (Open.Taken o) w h)
      (let x =
      taken_numbers counts_all_out o v w h in omega arith) (weighs.opened v (Open.Taken o) w h) (λ _. refl)

  pub did_find_full : HasOpened v Open.Full w → HasOpenedIt v Open.Full w
  did_find_full h = λ t s b. record {
    made = rules.opened v Open.Full w h;
    grew = λ f. let x = weighs.opened v Open.Full w h f in omega arith;
    fires_none = λ φ. refl;
    all_out = full_numbers counts_all_out v w h;
    tallied = sym (append-nil _);
    timed = sym (append-nil _);
    book = kept_book b;
  }

  numbers_vain : HasOpened v Open.Spent w → all_out_in w ≡ all_out_in v
  numbers_vain h = ⊎_elim
      (λ x. back_stays 0 v w (inr x.0))
      (λ (k : DrewInVain v w). let m : MgrView = record { stripes = v.stripes; numbers = k.drawn } in
      let x =
      numbers_weigh counts_all_out (record { call = Draw; reply = Drawn k.fd }) v.numbers k.drawn k.drew in
      let y = back_stays k.fd m w k.back in omega arith) h

  pub did_find_none : HasOpened v Open.Spent w → HasOpenedIt v Open.Spent w
  did_find_none h = ⊎_elim
      (λ (k : Kept v w). inl (did_kept v w (rules.opened v Open.Spent w h) (numbers_vain h) k))
      (λ (k : (fd : ℕ) × Gained (Entries.Open fd Opens.Spent) v w). inr (
        k.0,
        did_gained (Entries.Open k.0 Opens.Spent) [] v w (rules.opened v Open.Spent w h)
            (numbers_vain h) k.1 (λ _. refl),
      ))
      (weighs.opened v Open.Spent w h)

  pub did_opens : (r : OpenOut) → HasOpened v r w → HasOpenedIt v r w
  did_opens (Open.Opened o) h = did_open o h
  did_opens Open.Full h = did_find_full h
  did_opens (Open.Taken o) h = did_find_taken o h
  did_opens Open.Spent h = did_find_none h

-- ---- calls on the timeouts

pub did_watch : {T : Type 0} {tag : T → List (List ℕ)} (rules : CallsOfRuns tag) (v : MgrView)
    (t : View TallyEntry) (s r : TimeView) (b : BookTold) (cs : List TimeCall)
    → calls_of r ≡ calls_of s ++ cs → Did (told_of v t s b) (watched cs) [] (told_of v t r b)
did_watch rules v t s r b cs is = record {
  made = rules.none v;
  grew = λ f. omega arith;
  fires_none = λ φ. refl;
  all_out = omega arith;
  tallied = sym (append-nil _);
  timed = is;
  book = kept_book b;
}

-- ---- what comes back of a refused registration is its job

pub same_job : {T : Type 0} (back : Payload T) (x y : T) → back ≡ Payloads.Job x
    → back ≡ Payloads.Job y → x ≡ y
same_job back x y e f = let z : Payloads.Job x ≡ Payloads.Job y = sym e ∙ f in cc

module _ {T : Type 0} (tag : T → List (List ℕ)) (o : Opening) (d : Dir) (m : Option ℕ) (job : T)
    (v w : MgrView) (back : Payload T) where
  pub crowd_back : HasRegistered tag o d m (Payloads.Job job) v (Register.Crowded back) w
      → back ≡ Payloads.Job job
  crowd_back h = ⊎_elim (λ t. t.1) (λ t. let z = t.0 in absurd (cc)) h

  pub shut_back : HasRegistered tag o d m (Payloads.Job job) v (Register.Shut back) w
      → back ≡ Payloads.Job job
  shut_back h = ⊎_elim (λ t. t.1) (λ t. let z = t.0 in absurd (cc)) h

  pub is_job : back ≡ Payloads.Job job → IsJob back
  is_job e = subst (λ (l : Payload T). IsJob l) (sym e) tt
