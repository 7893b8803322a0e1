-- What the manager's calls say, out of what the calls on its cells say.
use Rattle.std.proofs.Common.{◌≡◌, ℕ, ◌+◌, ◌<◌, ◌/◌, ◌⊎◌, inl, inr, List, ◌∷◌, ◌++◌, map, length, sym, refl}
use Rattle.std.proofs.Common.{ap, ◌∙◌, subst, arith}
use Rattle.std.specs.Prelude.{slice_get, Some, nat_lt}
use Rattle.std.proofs.lemmas.Bool.{cond_both}
use Rattle.std.proofs.lemmas.Option.{slice_get_within}
use Rattle.std.proofs.lemmas.List.{length-set}
use Rattle.reg_keys.specs.declared.entry.OpenOutcome.TheVariants as Opens
use Rattle.reg_keys.specs.declared.entry.Entry.{Entry}
use Rattle.reg_keys.specs.declared.entry.Entry.TheVariants as Entries
use Rattle.reg_keys.specs.OwnOpenings.{NamesItsOwn, NamesOwnOpenings}
use Rattle.reg_keys.specs.Replies.{IsLegal}
use Rattle.turn_cell.specs.declared.pass.Pass.{Pass}
use Rattle.turn_cell.specs.declared.pass.Stepped.{Stepped}
use Rattle.turn_cell.specs.declared.pass.Stepped.TheVariants as Whole
use Rattle.turn_cell.specs.declared.pass.Tried.{Tried}
use Rattle.turn_cell.specs.declared.pass.Tried.TheVariants as Try
use Rattle.turn_cell.specs.declared.view.View.{View}
use Rattle.turn_cell.specs.History.{Log, longer}
use Rattle.turn_cell.specs.Calls.{view_of, IsStep, HasStepped, Entered, IsRefused, IsSplit, IsJoined}
use Rattle.stripe_table.specs.Calls.{entry_of, IsAnswerTo, IsOfStripe}
use Rattle.stripe_table.specs.declared.stripe.Stripe.{Stripe}
use Rattle.stripe_table.specs.declared.calls.StripeCall.{StripeCall}
use Rattle.stripe_table.specs.declared.calls.Reply.{Reply}
use Rattle.event_mgr.specs.Numbers.{numbers_past, IsNumbersPast}
use Rattle.event_mgr.specs.declared.numbers.NumbersEntry.{NumbersEntry}
use Rattle.event_mgr.specs.declared.numbers.NumbersCall.{NumbersCall}
use Rattle.event_mgr.specs.declared.numbers.NumbersCall.TheVariants.{Draw, GiveBack}
use Rattle.event_mgr.specs.declared.numbers.NumbersReply.{NumbersReply}
use Rattle.event_mgr.specs.declared.numbers.NumbersReply.TheVariants.{Drawn}
use Rattle.event_mgr.proofs.LeastMissing.{IsDrawReply, draw_kind}
use Rattle.event_mgr.specs.declared.numbers.Numbers.{Numbers}
use Rattle.event_mgr.specs.Rows.{At, name_at}
use Rattle.event_mgr.specs.declared.answers.OpenOut.TheVariants as Open
use Rattle.event_mgr.specs.Stripes.{stripe_of, past_in, StripeEntered, StripeSpent, StripeTried}
use Rattle.event_mgr.specs.Stripes.{StripeTriedSpent, GivenBack}
use Rattle.event_mgr.specs.Manager.{MgrView, IsLawful, EnteredAt, SpentAt, TriedAt, Drew, HasOpened}
use Rattle.event_mgr.specs.Manager.{IsMgrSplit, IsMgrJoined, IsMgrShared}
use Rattle.event_mgr.specs.Kinds.{HasCalled, HasTried}
use Rattle.turn_cell.specs.ListLaws.{some_at}
use Rattle.event_mgr.proofs.Places.{each_set, at_imp, at_there, map_at}
use Rattle.event_mgr.proofs.StripeLemmas.{stripe_stands, stripe_name, stripe_entered, stripe_spent}
use Rattle.event_mgr.proofs.StripeLemmas.{numbers_stand, numbers_name, numbers_entered, numbers_spent}
use Rattle.event_mgr.proofs.StripeLemmas.{entered_last, numbers_last}
use Rattle.event_mgr.proofs.KindLemmas.{answered}

-- the views of a row know their stripes' names
abbrev pub AreNamed : List (View Entry) → Type 0
AreNamed vs = (i : ℕ) (x : View Entry) → slice_get vs i ≡ Some x → x.name ≡ name_at i

pub named_views : {P : Type 0} (ps : List (Pass P Entry))
    → ((i : ℕ) (y : Pass P Entry) → slice_get ps i ≡ Some y → (view_of y).name ≡ name_at i)
    → AreNamed (map view_of ps)
named_views ps names i x e =
    let y = map_at view_of ps i x e in
    ap (λ (v : View Entry). v.name) (sym y.2) ∙ names i y.0 y.1

-- what was seen stays legal, where one stripe's history grew by a legal entry
module _ (v w : MgrView) (l : IsLawful v) where
  pub lawful_at : (s : ℕ) (R : View Entry → View Entry → Type 0)
      → ((x y : View Entry) → slice_get v.stripes s ≡ Some x → R x y
      → IsLegal s 1 (past_in x.seen) → IsLegal s 1 (past_in y.seen))
      → At s R v.stripes w.stripes → IsNumbersPast (numbers_past w.numbers.seen) → IsLawful w
  lawful_at s R keeps a numbers = record {
    many = ap length a.others ∙ (length-set v.stripes s a.after ∙ l.many);
    legal =
        λ t y e. each_set (λ t y. IsLegal t 1 (past_in y.seen)) v.stripes s a.after
        (keeps a.before a.after a.there a.moved (l.legal s a.before a.there)) l.legal t y
        (ap (λ (vs : List (View Entry)). slice_get vs t) (sym a.others) ∙ e);
    numbers = numbers;
  }

module _ {T : Type 0} (tag : T → List (List ℕ)) (call : StripeCall T) where
  -- what each answer of a call says of one stripe's views
  abbrev Steps : Stepped (Stripe T) (StripeCall T) (Reply T) Entry → View Entry → View Entry → Type 0
  Steps r x y = HasStepped (stripe_stands tag) stripe_name (entry_of tag) IsAnswerTo call x r y

  abbrev Tries : Tried (Stripe T) (StripeCall T) (Reply T) Entry → View Entry → View Entry → Type 0
  Tries r x y = IsStep (stripe_stands tag) stripe_name (entry_of tag) IsAnswerTo call x r y

  module _ (s : ℕ) (x y : View Entry) (name : x.name ≡ name_at s) where
    -- the history of the stripe stays legal
    steps_legal : (r : Stepped (Stripe T) (StripeCall T) (Reply T) Entry) → Steps r x y
        → IsLegal s 1 (past_in x.seen) → IsLegal s 1 (past_in y.seen)
    steps_legal (Whole.Done reply) k old = (stripe_entered tag s x y name (entry_of tag call reply) k.0).legal
    steps_legal (Whole.Spent back) k old =
        subst (λ (h : Log Entry). IsLegal s 1 (past_in h)) (sym k.1.unmoved.seen) old

    tries_legal : (r : Tried (Stripe T) (StripeCall T) (Reply T) Entry) → Tries r x y
        → IsLegal s 1 (past_in x.seen) → IsLegal s 1 (past_in y.seen)
    tries_legal (Try.Done reply) k old = (stripe_entered tag s x y name (entry_of tag call reply) k.0).legal
    tries_legal (Try.Busy count back) k old =
        subst (λ (h : Log Entry). IsLegal s 1 (past_in h)) (sym (ap (λ (z : View Entry). z.seen) k.2.1)) old
    tries_legal (Try.Spent back) k old =
        subst (λ (h : Log Entry). IsLegal s 1 (past_in h)) (sym k.1.unmoved.seen) old

  module _ (names_own : (s c : ℕ) (past : List Entry) → s < 32 → IsLegal s c past → NamesOwnOpenings s past)
      (s : ℕ) (small : s < 32) (may : IsOfStripe s call) (v w : MgrView) (same : w.numbers ≡ v.numbers)
      (names : AreNamed v.stripes) where
    -- what the reply of the entry that was made names is its own
    names_its_own : (e : Entry) (x y : View Entry) → StripeEntered s e x y → NamesItsOwn s e
    names_its_own e x y k =
        (names_own s 1 (e ∷ past_in (x.seen ++ k.between)) small (entered_last s e x y k)).replies e
        (inl refl)

    pub called : (r : Stepped (Stripe T) (StripeCall T) (Reply T) Entry) → At s (Steps r) v.stripes w.stripes
        → HasCalled tag s call v r w
    called (Whole.Done reply) a =
        let e = entry_of tag call reply in
        let k = stripe_entered tag s a.before a.after (names s a.before a.there) e a.moved.0 in
        answered s tag (λ e. EnteredAt s e v w) call reply may a.moved.2
        (record {
          stripe =
              at_there s (Steps (Whole.Done reply)) (StripeEntered s e) v.stripes w.stripes
              (λ x y there k. stripe_entered tag s x y (names s x there) e k.0) a;
          numbers = same;
        })
        (names_its_own e a.before a.after k)
    called (Whole.Spent back) a = (
      a.moved.0,
      record {
        stripe =
            at_there s (Steps (Whole.Spent back)) (StripeSpent s) v.stripes w.stripes
            (λ x y there k. stripe_spent tag s x y (names s x there) k.1) a;
        numbers = same;
      },
    )

    pub tried : (r : Tried (Stripe T) (StripeCall T) (Reply T) Entry) → At s (Tries r) v.stripes w.stripes
        → HasTried tag s call v r w
    tried (Try.Done reply) a =
        let e = entry_of tag call reply in
        let k = stripe_entered tag s a.before a.after (names s a.before a.there) e a.moved.0 in
        answered s tag (λ e. TriedAt s e v w) call reply may a.moved.2
        (record {
          stripe =
              at_there s (Tries (Try.Done reply)) (StripeTried s e) v.stripes w.stripes
              (λ x y there k. (stripe_entered tag s x y (names s x there) e k.0, k.1)) a;
          numbers = same;
        })
        (names_its_own e a.before a.after k)
    tried (Try.Busy count back) a = (
      a.moved.0,
      (
        refl,
        record {
          stripe =
              at_imp s (Tries (Try.Busy count back))
              (λ x y. (count ≡ y.found / 2) × IsRefused x y) v.stripes w.stripes (λ x y k. (k.1, k.2)) a;
          numbers = same;
        },
      ),
    )
    tried (Try.Spent back) a = (
      a.moved.0,
      record {
        stripe =
            at_there s (Tries (Try.Spent back)) (StripeTriedSpent s) v.stripes w.stripes
            (λ x y there k. (stripe_spent tag s x y (names s x there) k.1, k.2)) a;
        numbers = same;
      },
    )

    module _ (l : IsLawful v) where
      still_numbers : IsNumbersPast (numbers_past w.numbers.seen)
      still_numbers =
          subst (λ (x : View NumbersEntry). IsNumbersPast (numbers_past x.seen)) (sym same) l.numbers

      pub called_lawful : (r : Stepped (Stripe T) (StripeCall T) (Reply T) Entry)
          → At s (Steps r) v.stripes w.stripes → IsLawful w
      called_lawful r a =
          lawful_at v w l s (Steps r)
          (λ x y at k old. steps_legal s x y (names s x at) r k old) a still_numbers

      pub tried_lawful : (r : Tried (Stripe T) (StripeCall T) (Reply T) Entry)
          → At s (Tries r) v.stripes w.stripes → IsLawful w
      tried_lawful r a =
          lawful_at v w l s (Tries r)
          (λ x y at k old. tries_legal s x y (names s x at) r k old) a still_numbers

-- ---- numbers

abbrev pub numbers_entry : NumbersCall → NumbersReply → NumbersEntry
numbers_entry call reply = record { call = call; reply = reply }

-- the entry tells all of a reply
abbrev pub numbers_answer : NumbersCall → NumbersReply → Type 0
numbers_answer call reply = Unit {0}

pub given_back : (fd : ℕ) (v w : View NumbersEntry)
    (r : Stepped Numbers NumbersCall NumbersReply NumbersEntry)
    → HasStepped numbers_stand numbers_name numbers_entry numbers_answer (GiveBack fd) v r w
    → GivenBack fd v w
given_back fd v w (Whole.Done reply) s = inl (reply, numbers_entered _ v w s.0)
given_back fd v w (Whole.Spent back) s = inr (numbers_spent v w s.1)

-- what is known once a number was drawn
abbrev pub after_draw : MgrView → View NumbersEntry → MgrView
after_draw v n = record { stripes = v.stripes; numbers = n }

-- the number was given back once the cell of its stripe was found spent
pub refused_by_cell : (v u w : MgrView) (n : View NumbersEntry) (fd s : ℕ) → Drew fd v.numbers n
    → s ≡ stripe_of fd → w.stripes ≡ u.stripes → GivenBack fd u.numbers w.numbers
    → SpentAt s (after_draw v n) u → HasOpened v Open.Spent w
refused_by_cell v u w n fd s drew at same back a = inr (record {
  fd = fd;
  drawn = n;
  drew = drew;
  refused =
      subst (λ (x : ℕ × List (View Entry)).
      At x.0 (λ x y. StripeEntered (stripe_of fd) (Entries.Open fd Opens.Spent) x y
      ⊎ StripeSpent (stripe_of fd) x y) v.stripes x.1) (λ i. (at i, sym same i)) (at_imp s (StripeSpent s)
      (λ x y. StripeEntered (stripe_of fd) (Entries.Open fd Opens.Spent) x y ⊎ StripeSpent (stripe_of fd) x y)
      v.stripes u.stripes (λ x y k. inr (subst (λ (t : ℕ). StripeSpent t x y) at k)) a.stripe);
  back = subst (λ (m : View NumbersEntry). GivenBack fd m w.numbers) a.numbers back;
})

-- ---- whole passes

module _ {E : Type 0} (K : Log E → Type 0) where
  -- a fact of both is one of the longer
  either_longer : (xs ys : Log E) → K xs → K ys → K (longer xs ys)
  either_longer xs ys x y = cond_both (nat_lt (length xs) (length ys)) ys xs K (λ _. y) (λ _. x)

  joined_keeps : (v o w : View E) → IsJoined v o w → K v.seen → K o.seen → K w.seen
  joined_keeps v o w j x y = subst (λ (z : View E). K z.seen) (sym j.both) (either_longer v.seen o.seen x y)

  split_keeps : (v w o : View E) → IsSplit v w o → K v.seen → K w.seen × K o.seen
  split_keeps v w o s x =
      (subst (λ (z : View E). K z.seen) (sym s.left) x, subst (λ (z : View E). K z.seen) (sym s.right) x)

abbrev RightSeen : Log NumbersEntry → Type 0
RightSeen h = IsNumbersPast (numbers_past h)

abbrev LegalSeen : ℕ → Log Entry → Type 0
LegalSeen s h = IsLegal s 1 (past_in h)

pub joined_lawful : (v o w : MgrView) → IsLawful v → IsLawful o → IsMgrJoined v o w → IsLawful w
joined_lawful v o w lv lo j =
    let n = lv.many in
    let m = lo.many in
    let k = j.stripes.many in record {
      many = k ∙ n;
      legal =
          λ s z e.
          let t = slice_get_within w.stripes s z e in
          let x = some_at v.stripes s (omega arith) in
          let y = some_at o.stripes s (omega arith) in
          joined_keeps (LegalSeen s) x.0 y.0 z (j.stripes.each s x.0 y.0 z x.1 y.1 e)
          (lv.legal s x.0 x.1) (lo.legal s y.0 y.1);
      numbers = joined_keeps RightSeen v.numbers o.numbers w.numbers j.numbers lv.numbers lo.numbers;
    }

pub split_lawful : (v w o : MgrView) → IsLawful v → IsMgrSplit v w o → IsLawful w × IsLawful o
split_lawful v w o l j =
    let n = l.many in
    let k = j.stripes.many in
    let i = j.stripes.many_new in (
      record {
        many = k ∙ n;
        legal =
            λ s z e.
            let t = slice_get_within w.stripes s z e in
            let x = some_at v.stripes s (omega arith) in
            let y = some_at o.stripes s (omega arith) in
            (split_keeps (LegalSeen s) x.0 z y.0 (j.stripes.each s x.0 z y.0 x.1 e y.1)
            (l.legal s x.0 x.1)).0;
        numbers = (split_keeps RightSeen v.numbers w.numbers o.numbers j.numbers l.numbers).0;
      },
      record {
        many = i ∙ n;
        legal =
            λ s z e.
            let t = slice_get_within o.stripes s z e in
            let x = some_at v.stripes s (omega arith) in
            let y = some_at w.stripes s (omega arith) in
            (split_keeps (LegalSeen s) x.0 y.0 z (j.stripes.each s x.0 y.0 z x.1 y.1 e)
            (l.legal s x.0 x.1)).1;
        numbers = (split_keeps RightSeen v.numbers w.numbers o.numbers j.numbers l.numbers).1;
      },
    )

-- a number that was drawn is that of a descriptor
pub drawn_low : (v w : View NumbersEntry) (r : NumbersReply) (fd : ℕ) → r ≡ Drawn fd
    → Entered numbers_stand numbers_name (numbers_entry Draw r) v w → fd < 4096
drawn_low v w r fd is k = let n = numbers_entered (numbers_entry Draw r) v w k in
    subst IsDrawReply is
    (draw_kind (numbers_past (v.seen ++ n.between)) r (numbers_last (numbers_entry Draw r) v w n).0)

pub drawn_entry : (v w : View NumbersEntry) (r : NumbersReply) (fd : ℕ) → r ≡ Drawn fd
    → Entered numbers_stand numbers_name (numbers_entry Draw r) v w → Drew fd v w
drawn_entry v w r fd is k =
    numbers_entered (numbers_entry Draw (Drawn fd)) v w
    (subst (λ (x : NumbersReply). Entered numbers_stand numbers_name (numbers_entry Draw x) v w) is k)

-- what one pass told another
pub shared_lawful : (v w v' w' : MgrView) → IsLawful v → IsLawful w → IsMgrShared v w v' w'
    → IsLawful v' × IsLawful w'
shared_lawful v w v' w' l m j =
    let n = l.many in
    let n' = m.many in
    let k = j.stripes.many in
    let k' = j.stripes.many_other in
    let cut = split_keeps RightSeen v.numbers v'.numbers j.numbers.between j.numbers.split l.numbers in (
      record {
        many = k ∙ n;
        legal =
            λ s z e.
            let t = slice_get_within v'.stripes s z e in
            let x = some_at v.stripes s (omega arith) in
            let y = some_at w.stripes s (omega arith) in
            let u = some_at w'.stripes s (omega arith) in
            let h = j.stripes.each s x.0 y.0 z u.0 x.1 y.1 e u.1 in
            (split_keeps (LegalSeen s) x.0 z h.between h.split (l.legal s x.0 x.1)).0;
        numbers = cut.0;
      },
      record {
        many = k' ∙ n';
        legal =
            λ s z e.
            let t = slice_get_within w'.stripes s z e in
            let x = some_at v.stripes s (omega arith) in
            let y = some_at w.stripes s (omega arith) in
            let u = some_at v'.stripes s (omega arith) in
            let h = j.stripes.each s x.0 y.0 u.0 z x.1 y.1 u.1 e in
            joined_keeps (LegalSeen s) y.0 h.between z h.joined (m.legal s y.0 y.1)
            (split_keeps (LegalSeen s) x.0 u.0 h.between h.split (l.legal s x.0 x.1)).1;
        numbers =
            joined_keeps RightSeen w.numbers j.numbers.between w'.numbers j.numbers.joined m.numbers cut.1;
      },
    )
