-- Inner: laws that crates above cite: what the entries of all stripes weigh together, what is known of one
-- stripe, and what the entries of the numbers weigh, as calls are made.
use Rattle.std.proofs.Common.{◌≡◌, ◌≢◌, ℕ, suc, ◌+◌, ◌/◌, List, [], ◌∷◌, ◌++◌, length, set, sym, refl, ap}
use Rattle.std.proofs.Common.{◌∙◌, arith, ◌⊎◌, inl, inr, ⊎_elim}
use Rattle.std.specs.Prelude.{slice_get, Some}
use Rattle.reg_keys.specs.declared.entry.Entry.{Entry}
use Rattle.turn_cell.specs.declared.view.View.{View}
use Rattle.turn_cell.specs.Weights.{weigh}
use Rattle.turn_cell.specs.History.{Log, entries_in}
use Rattle.turn_cell.specs.View.{own_entries, seat_of}
use Rattle.turn_cell.specs.Calls.{IsRefused, IsSplit, IsJoined}
use Rattle.turn_cell.specs.ListLaws.{weigh-append, weigh_one, weigh_set, get_else, get_here}
use Rattle.event_mgr.specs.Stripes.{StripeEntered, StripeSpent, StripeTried, StripeTriedSpent, NumbersEntered}
use Rattle.event_mgr.specs.Stripes.{GivenBack}
use Rattle.event_mgr.specs.declared.answers.Held.{Held}
use Rattle.event_mgr.specs.Manager.{MgrView, OnlyAt, EnteredAt, SpentAt, TriedAt, TriedSpentAt, BusyAt}
use Rattle.event_mgr.specs.Manager.{own_weight, own_in, seen_in, own_by, seen_by, IsMgrSplit, IsMgrJoined}
use Rattle.event_mgr.specs.Manager.{HasOpened, number_weight}
use Rattle.reg_keys.specs.declared.opening.Opening.{Opening}
use Rattle.event_mgr.specs.declared.answers.OpenOut.TheVariants as Open
use Rattle.event_mgr.specs.declared.numbers.NumbersEntry.{NumbersEntry}
use Rattle.event_mgr.specs.declared.numbers.NumbersCall.TheVariants.{Draw, GiveBack}
use Rattle.event_mgr.specs.declared.numbers.NumbersReply.{NumbersReply}
use Rattle.event_mgr.specs.declared.numbers.NumbersReply.TheVariants.{Drawn, AllOut}

-- what a pass's own entries weigh
abbrev own_weighs : (Entry → ℕ) → View Entry → ℕ
own_weighs f x = weigh (λ (e : ℕ × Entry). f e.1) (own_entries x)

-- ---- one call

module _ (f : Entry → ℕ) (s : ℕ) (v w : MgrView) where
  weighs_at : (R : View Entry → View Entry → Type 0) (n : ℕ)
      → ((x y : View Entry) → R x y → own_weighs f y ≡ own_weighs f x + n) → OnlyAt s R v w
      → own_weight f w ≡ own_weight f v + n
  weighs_at R n rise a =
      let h = weigh_set (own_weighs f) v.stripes s a.stripe.after a.stripe.before a.stripe.there in
      let r = rise a.stripe.before a.stripe.after a.stripe.moved in
      let i : own_weight f w ≡ weigh (own_weighs f) (set v.stripes s a.stripe.after) =
      ap (weigh (own_weighs f)) a.stripe.others in
      omega arith

  weighs_same : (R : View Entry → View Entry → Type 0)
      → ((x y : View Entry) → R x y → own_entries y ≡ own_entries x) → OnlyAt s R v w
      → own_weight f w ≡ own_weight f v
  weighs_same R same a =
      let h = weighs_at R 0 (λ x y r. let e : own_weighs f y ≡ own_weighs f x =
      ap (weigh (λ (e : ℕ × Entry). f e.1)) (same x y r) in omega arith) a in
      omega arith

  rise : (e : Entry) (x y : View Entry) → StripeEntered s e x y → own_weighs f y ≡ own_weighs f x + f e
  rise e x y k =
      let o : own_weighs f y ≡ weigh (λ (e : ℕ × Entry). f e.1) (own_entries x ++ (seat_of x, e) ∷ []) =
      ap (weigh (λ (e : ℕ × Entry). f e.1)) k.own in
      let a = weigh-append (λ (e : ℕ × Entry). f e.1) (own_entries x) ((seat_of x, e) ∷ []) in
      let b = weigh_one (λ (e : ℕ × Entry). f e.1) (seat_of x, e) in
      omega arith

  -- a call that is entered adds what its entry weighs
  pub entered_weighs : (e : Entry) → EnteredAt s e v w → own_weight f w ≡ own_weight f v + f e
  entered_weighs e a = weighs_at (StripeEntered s e) (f e) (rise e) a

  -- and so does one that was tried
  pub tried_weighs : (e : Entry) → TriedAt s e v w → own_weight f w ≡ own_weight f v + f e
  tried_weighs e a = weighs_at (StripeTried s e) (f e) (λ x y r. rise e x y r.0) a

own_as : (x y : View Entry) → y.seen ≡ x.seen → y.classes ≡ x.classes → own_entries y ≡ own_entries x
own_as x y seen classes = λ i. entries_in (classes i) (seen i)

spent_own : (s : ℕ) (x y : View Entry) → StripeSpent s x y → own_entries y ≡ own_entries x
spent_own s x y k = own_as x y k.unmoved.seen k.unmoved.classes

-- what was refused adds no entry
pub refused_own : (x y : View Entry) → IsRefused x y → own_entries y ≡ own_entries x
refused_own x y k = own_as x y (ap (λ (z : View Entry). z.seen) k.1) (ap (λ (z : View Entry). z.classes) k.1)

module _ (f : Entry → ℕ) (s : ℕ) (v w : MgrView) where
  -- a call that is refused as spent adds nothing
  pub spent_weighs : SpentAt s v w → own_weight f w ≡ own_weight f v
  spent_weighs = weighs_same f s v w (StripeSpent s) (spent_own s)

  -- and so with one that was tried
  pub tried_spent_weighs : TriedSpentAt s v w → own_weight f w ≡ own_weight f v
  tried_spent_weighs = weighs_same f s v w (StripeTriedSpent s) (λ x y r. spent_own s x y r.0)

  -- a try that finds the stripe busy adds nothing
  pub busy_weighs : (held : Held) → BusyAt s held v w → own_weight f w ≡ own_weight f v
  busy_weighs held b =
      weighs_same f s v w (λ x y. (held.count ≡ y.found / 2) × IsRefused x y)
      (λ x y r. refused_own x y r.1) b.1

-- ---- one stripe

module _ (s : ℕ) (R : View Entry → View Entry → Type 0) (v w : MgrView) (a : OnlyAt s R v w) where
  -- of every other stripe as much is known as before
  pub others_seen : (t : ℕ) → t ≢ s → seen_in t w ≡ seen_in t v
  others_seen t n =
      ap seen_by (ap (λ (l : List (View Entry)). slice_get l t) a.stripe.others
      ∙ get_else v.stripes s t a.stripe.after n)

  -- and of the pass's own entries there are as many
  pub others_own : (t : ℕ) → t ≢ s → own_in t w ≡ own_in t v
  others_own t n =
      ap own_by (ap (λ (l : List (View Entry)). slice_get l t) a.stripe.others
      ∙ get_else v.stripes s t a.stripe.after n)

  -- what is known of the stripe before
  pub stripe_before : slice_get v.stripes s ≡ Some a.stripe.before
  stripe_before = a.stripe.there

  -- what is known of the stripe after
  pub stripe_after : slice_get w.stripes s ≡ Some a.stripe.after
  stripe_after =
      ap (λ (l : List (View Entry)). slice_get l s) a.stripe.others
      ∙ get_here v.stripes s a.stripe.after a.stripe.before a.stripe.there

-- the entry is the last of the pass's own in its stripe
pub entered_own : (s : ℕ) (e : Entry) (v w : MgrView) → EnteredAt s e v w
    → (n : ℕ) × (own_in s w ≡ own_in s v ++ (n, e) ∷ [])
entered_own s e v w a = (
  seat_of a.stripe.before,
  ap own_by (stripe_after s (StripeEntered s e) v w a)
      ∙ (a.stripe.moved.own
      ∙ ap (λ (l : Log Entry). l ++ (seat_of a.stripe.before, e) ∷ []) (sym (ap own_by a.stripe.there))),
)

-- ---- splitting and joining

module _ (f : Entry → ℕ) where
  joins : (vs os ws : List (View Entry)) → length os ≡ length vs → length ws ≡ length vs
      → ((i : ℕ) (v o w : View Entry) → slice_get vs i ≡ Some v → slice_get os i ≡ Some o
      → slice_get ws i ≡ Some w → IsJoined v o w)
      → weigh (own_weighs f) ws ≡ weigh (own_weighs f) vs + weigh (own_weighs f) os
  joins [] [] [] l m each = refl
  joins [] [] (w ∷ ws) l m each = absurd (omega arith)
  joins [] (o ∷ os) ws l m each = absurd (omega arith)
  joins (v ∷ vs) [] ws l m each = absurd (omega arith)
  joins (v ∷ vs) (o ∷ os) [] l m each = absurd (omega arith)
  joins (v ∷ vs) (o ∷ os) (w ∷ ws) l m each =
      let here = (each 0 v o w refl refl refl).weighs (λ (e : ℕ × Entry). f e.1) in
      let rest =
      joins vs os ws (omega arith) (omega arith) (λ i a b c ea eb ec. each (suc i) a b c ea eb ec) in
      omega arith

  -- what is joined weighs what both weigh
  pub joined_weighs : (v o w : MgrView) → length o.stripes ≡ length v.stripes → IsMgrJoined v o w
      → own_weight f w ≡ own_weight f v + own_weight f o
  joined_weighs v o w l j = joins v.stripes o.stripes w.stripes l j.stripes.many j.stripes.each

  splits : (vs ws os : List (View Entry)) → length ws ≡ length vs → length os ≡ length vs
      → ((i : ℕ) (v w o : View Entry) → slice_get vs i ≡ Some v → slice_get ws i ≡ Some w
      → slice_get os i ≡ Some o → IsSplit v w o)
      → (weigh (own_weighs f) ws ≡ weigh (own_weighs f) vs) × (weigh (own_weighs f) os ≡ 0)
  splits [] [] [] l m each = (refl, refl)
  splits [] [] (o ∷ os) l m each = absurd (omega arith)
  splits [] (w ∷ ws) os l m each = absurd (omega arith)
  splits (v ∷ vs) [] os l m each = absurd (omega arith)
  splits (v ∷ vs) (w ∷ ws) [] l m each = absurd (omega arith)
  splits (v ∷ vs) (w ∷ ws) (o ∷ os) l m each =
      let here = each 0 v w o refl refl refl in
      let rest = splits vs ws os (omega arith) (omega arith)
      (λ i a b c ea eb ec. each (suc i) a b c ea eb ec) in
      let own : own_weighs f w ≡ own_weighs f v = ap (weigh (λ (e : ℕ × Entry). f e.1)) here.own in
      let none : own_weighs f o ≡ 0 = ap (weigh (λ (e : ℕ × Entry). f e.1)) here.none in
      let r0 = rest.0 in
      let r1 = rest.1 in (omega arith, omega arith)

  -- what is split off weighs nothing, and the rest weighs what it did
  pub split_weighs : (v w o : MgrView) → IsMgrSplit v w o
      → (own_weight f w ≡ own_weight f v) × (own_weight f o ≡ 0)
  split_weighs v w o s = splits v.stripes w.stripes o.stripes s.stripes.many s.stripes.many_new s.stripes.each

-- ---- the numbers

module _ (f : NumbersEntry → ℕ) where
  abbrev own_numbers : View NumbersEntry → ℕ
  own_numbers x = weigh (λ (e : ℕ × NumbersEntry). f e.1) (own_entries x)

  -- a call that is entered in the numbers adds what its entry weighs
  pub numbers_weigh : (e : NumbersEntry) (x y : View NumbersEntry) → NumbersEntered e x y
      → own_numbers y ≡ own_numbers x + f e
  numbers_weigh e x y k =
      let g : ℕ × NumbersEntry → ℕ = λ e. f e.1 in
      let o = ap (weigh g) k.own in
      let a = weigh-append g (own_entries x) ((seat_of x, e) ∷ []) in
      let b = weigh_one g (seat_of x, e) in
      omega arith

  -- an opening that finds its number free draws it
  pub opened_numbers : (o : Opening) (v w : MgrView) → HasOpened v (Open.Opened o) w
      → number_weight f w ≡ number_weight f v + f (record { call = Draw; reply = Drawn o.fd })
  opened_numbers o v w h =
      numbers_weigh (record { call = Draw; reply = Drawn o.fd }) v.numbers w.numbers h.0.numbers

  -- and so does one that finds the descriptor taken
  pub taken_numbers : (o : Opening) (v w : MgrView) → HasOpened v (Open.Taken o) w
      → number_weight f w ≡ number_weight f v + f (record { call = Draw; reply = Drawn o.fd })
  taken_numbers o v w h =
      numbers_weigh (record { call = Draw; reply = Drawn o.fd }) v.numbers w.numbers h.numbers

  -- an opening that finds all numbers out is told so
  pub full_numbers : (v w : MgrView) → HasOpened v Open.Full w
      → number_weight f w ≡ number_weight f v + f (record { call = Draw; reply = AllOut })
  full_numbers v w h = numbers_weigh (record { call = Draw; reply = AllOut }) v.numbers w.numbers h.0

  -- to give a number back adds an entry or none
  pub back_numbers : (fd : ℕ) (v w : MgrView) → GivenBack fd v.numbers w.numbers
      → (number_weight f w ≡ number_weight f v)
      ⊎ ((r : NumbersReply)
      × (number_weight f w ≡ number_weight f v + f (record { call = GiveBack fd; reply = r })))
  back_numbers fd v w b = ⊎_elim
      (λ t. inr (t.0, numbers_weigh (record { call = GiveBack fd; reply = t.0 }) v.numbers w.numbers t.1))
      (λ t. inl (λ i. own_of (t.unmoved.seen i) (t.unmoved.classes i))) b
    where
      own_of : Log NumbersEntry → List (ℕ × ℕ) → ℕ
      own_of seen classes = own_numbers (record v.numbers { seen = seen; classes = classes })
