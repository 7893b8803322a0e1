-- What a wait says, from its registration and its asks.
use Rattle.std.proofs.Common.{◌≡◌, ℕ, inl, inr, List, [], ◌∷◌, ◌++◌, refl, subst}
use Rattle.reg_keys.specs.declared.registration.Dir.{Dir}
use Rattle.reg_keys.specs.declared.registration.Marks.{Marks}
use Rattle.reg_keys.specs.declared.entry.AskOutcome.{AskOutcome}
use Rattle.reg_keys.specs.declared.entry.AskOutcome.TheVariants as Asked
use Rattle.reg_keys.specs.declared.entry.Entry.{Entry}
use Rattle.reg_keys.specs.declared.entry.Entry.TheVariants.{Ask}
use Rattle.reg_keys.specs.Tests.{IsIn}
use Rattle.reg_keys.specs.Replies.{IsLegal}
use Rattle.reg_keys.specs.Promises.{RunsOnce}
use Rattle.reg_keys.specs.Accounts.{DrawsEachOnce, RunsWhatWasRegistered, TellsOfFlags}
use Rattle.reg_keys.specs.ListLaws.{in_map}
use Rattle.reg_keys.specs.Laws.{in_right}
use Rattle.turn_cell.specs.declared.view.View.{View}
use Rattle.event_mgr.specs.Stripes.{stripe_of, past_in, StripeEntered}
use Rattle.event_mgr.specs.Manager.{MgrView, IsLawful, OnlyAt, EnteredAt}
use Rattle.fd_wait.specs.OwnFlags.{OwnFlag, registers, FlagRan, WasShut}
use Rattle.ready_queue.specs.declared.rule.Move.{Move}
use Rattle.fd_wait.specs.declared.waiting.WaitOut.{WaitOut}
use Rattle.fd_wait.specs.declared.waiting.WaitOut.TheVariants.{Ready, Closed, Shut, Crowded, Spent}
use Rattle.fd_wait.specs.Waiting.{HasMade, asks, MetSpent, HasPutNamed, AsksUntil, HasWaited}
use Rattle.fd_wait.proofs.Made.{made_one, made_then, made_in_past, only_imp, only_then, there_after}
use Rattle.fd_wait.proofs.OwnFlags.{has_run, was_shut}

-- the laws of legal histories that are cited
pub record Laws : Type 0 where
  pub once : (s : ℕ) (c : ℕ) (past : List Entry) → IsLegal s c past → RunsOnce s c past
  pub each : (s : ℕ) (c : ℕ) (past : List Entry) → IsLegal s c past → DrawsEachOnce past
  pub runs : (s : ℕ) (c : ℕ) (past : List Entry) → IsLegal s c past → RunsWhatWasRegistered past
  pub flags : (s : ℕ) (c : ℕ) (past : List Entry) → IsLegal s c past → TellsOfFlags past

module _ (flag : OwnFlag) (u v w : MgrView) where
  abbrev place : ℕ
  place = stripe_of flag.opening.fd

  abbrev Made : List AskOutcome → View Entry → View Entry → Type 0
  Made rs x y = HasMade (registers flag ∷ asks flag.key rs) x y

  -- the registration, and then the asks
  registered_asked : (rs : List AskOutcome) (Then : View Entry → Type 0) → stripe_of flag.key.number ≡ place
      → EnteredAt place (registers flag) u v
      → OnlyAt (stripe_of flag.key.number) (λ x y. HasMade (asks flag.key rs) x y × Then y) v w
      → OnlyAt place (λ x z. Made rs x z × Then z) u w
  registered_asked rs Then same a b =
      let after : View Entry → View Entry → Type 0 = λ x y. HasMade (asks flag.key rs) x y × Then y in
      only_imp place (λ x z. (y : View Entry) × StripeEntered place (registers flag) x y × after y z)
      (λ x z. Made rs x z × Then z) u w
      (λ x z t. (
        made_then (registers flag ∷ []) (asks flag.key rs) x t.0 z
            (made_one place (registers flag) x t.0 t.1) t.2.0,
        t.2.1,
      ))
      (only_then place (StripeEntered place (registers flag)) after u v w a
      (subst (λ s. OnlyAt s after v w) same b))

  -- what stands at the place is legal
  legal_after : (R : View Entry → View Entry → Type 0) → IsLawful w → (a : OnlyAt place R u w)
      → IsLegal place 1 (past_in a.stripe.after.seen)
  legal_after R lawful a = lawful.legal place a.stripe.after (there_after place R u w a)

  -- a fact of what stands at the place afterwards is added
  with_fact : (R : View Entry → View Entry → Type 0) (F : View Entry → Type 0) → (a : OnlyAt place R u w)
      → F a.stripe.after → OnlyAt place (λ x y. R x y × F y) u w
  with_fact R F a f = record {
    stripe = record {
      before = a.stripe.before;
      after = a.stripe.after;
      there = a.stripe.there;
      others = a.stripe.others;
      moved = (a.stripe.moved, f);
    };
    numbers = a.numbers;
  }

  last_in : (rs : List AskOutcome) (r : AskOutcome)
      → IsIn (Ask flag.key r) (registers flag ∷ asks flag.key (rs ++ r ∷ []))
  last_in rs r = inr (in_map (λ o. Ask flag.key o) r (rs ++ r ∷ []) (in_right r rs (r ∷ []) (inl refl)))

  module _ (laws : Laws) (lawful : IsLawful w) (same : stripe_of flag.key.number ≡ place)
      (a : EnteredAt place (registers flag) u v) where
    -- the flag ran
    pub was_ready : (rs : List AskOutcome) (d : Dir) (marks : Marks)
        → OnlyAt (stripe_of flag.key.number)
        (λ x y. HasMade (asks flag.key (rs ++ Asked.Ran d marks ∷ [])) x y × Unit {0}) v w
        → (d ≡ flag.dir) × OnlyAt place
        (λ x y. Made (rs ++ Asked.Ran d marks ∷ []) x y × FlagRan flag marks (past_in y.seen)) u w
    was_ready rs d marks b = let R : View Entry → View Entry → Type 0 = Made (rs ++ Asked.Ran d marks ∷ []) in
        let made : OnlyAt place R u w = only_imp place (λ x y. R x y × Unit {0}) R u w (λ x y t. t.0)
        (registered_asked (rs ++ Asked.Ran d marks ∷ []) (λ y. Unit {0}) same a b) in
        let es = registers flag ∷ asks flag.key (rs ++ Asked.Ran d marks ∷ []) in
        let past = past_in made.stripe.after.seen in
        let legal = legal_after R lawful made in
        let mine : IsIn (registers flag) past =
        made_in_past es made.stripe.before made.stripe.after (registers flag) made.stripe.moved (inl refl) in
        let told : IsIn (Ask flag.key (Asked.Ran d marks)) past =
        made_in_past es made.stripe.before made.stripe.after
        (Ask flag.key (Asked.Ran d marks)) made.stripe.moved (last_in rs (Asked.Ran d marks)) in
        let ran = has_run past (laws.each place 1 past legal) flag mine place 1 (laws.once place 1 past legal)
        (laws.runs place 1 past legal) (laws.flags place 1 past legal) d marks told in
        (ran.0, with_fact R (λ y. FlagRan flag marks (past_in y.seen)) made ran.1)

    -- its opening was closed
    pub was_closed : (rs : List AskOutcome)
        → OnlyAt (stripe_of flag.key.number)
        (λ x y. HasMade (asks flag.key (rs ++ Asked.Closed ∷ [])) x y × Unit {0}) v w
        → OnlyAt place (λ x y. Made (rs ++ Asked.Closed ∷ []) x y × WasShut flag (past_in y.seen)) u w
    was_closed rs b = let R : View Entry → View Entry → Type 0 = Made (rs ++ Asked.Closed ∷ []) in
        let made : OnlyAt place R u w = only_imp place (λ x y. R x y × Unit {0}) R u w (λ x y t. t.0)
        (registered_asked (rs ++ Asked.Closed ∷ []) (λ y. Unit {0}) same a b) in
        let es = registers flag ∷ asks flag.key (rs ++ Asked.Closed ∷ []) in
        let past = past_in made.stripe.after.seen in
        let legal = legal_after R lawful made in
        let mine : IsIn (registers flag) past =
        made_in_past es made.stripe.before made.stripe.after (registers flag) made.stripe.moved (inl refl) in
        let told : IsIn (Ask flag.key Asked.Closed) past = made_in_past es made.stripe.before
        made.stripe.after (Ask flag.key Asked.Closed) made.stripe.moved (last_in rs Asked.Closed) in
        with_fact R (λ y. WasShut flag (past_in y.seen)) made
        (was_shut past (laws.each place 1 past legal) flag mine place 1 (laws.once place 1 past legal)
        (laws.flags place 1 past legal) told)

    -- the cell was found spent
    pub was_spent : (rs : List AskOutcome)
        → OnlyAt (stripe_of flag.key.number) (λ x y. HasMade (asks flag.key (rs ++ [])) x y × MetSpent y) v w
        → OnlyAt place (λ x y. Made (rs ++ []) x y × MetSpent y) u w
    was_spent rs b = registered_asked (rs ++ []) MetSpent same a b

module _ (capacity : ℕ) (flag : OwnFlag) (u v w : MgrView) (q r : View Move) (laws : Laws)
    (lawful : IsLawful w) where
  -- what each answer says, once the flag waits and its event was put
  pub waited : EnteredAt (stripe_of flag.opening.fd) (registers flag) u v
      → stripe_of flag.key.number ≡ stripe_of flag.opening.fd → HasPutNamed capacity flag.named q r
      → (out : WaitOut) → AsksUntil flag.key v out w
      → HasWaited capacity flag.opening flag.dir flag.mark u q out w r
  waited a same put (Ready marks) b =
      let k = was_ready flag u v w laws lawful same a b.1.tries b.0 marks b.1.made in
      record {
        key = flag.key;
        named = flag.named;
        tries = b.1.tries;
        undecided = b.1.undecided;
        put = put;
        made =
            subst (λ d. OnlyAt (stripe_of flag.opening.fd) (λ x y. HasMade (registers flag ∷ asks flag.key
            (b.1.tries ++ Asked.Ran d marks ∷ [])) x y × FlagRan flag marks (past_in y.seen)) u w) k.0 k.1;
      }
  waited a same put Closed b = record {
    key = flag.key;
    named = flag.named;
    tries = b.tries;
    undecided = b.undecided;
    put = put;
    made = was_closed flag u v w laws lawful same a b.tries b.made;
  }
  waited a same put Spent b = inr (record {
    key = flag.key;
    named = flag.named;
    tries = b.tries;
    undecided = b.undecided;
    put = put;
    made = was_spent flag u v w laws lawful same a b.tries b.made;
  })
  waited a same put Shut b = absurd b
  waited a same put Crowded b = absurd b
