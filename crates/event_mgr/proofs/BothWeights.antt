-- What opening and closing add: to the own entries of a stripe, and to what was seen of it.
use Rattle.std.proofs.Common.{◌≡◌, ℕ, ◌+◌, ◌⊎◌, inl, inr, ⊎_elim, List, ◌∷◌, ◌++◌, map, sym, refl, ap, ◌∙◌}
use Rattle.std.proofs.Common.{subst, false, arith}
use Rattle.std.specs.Prelude.{slice_get, Option}
use Rattle.reg_keys.specs.declared.registration.Key.{Key}
use Rattle.reg_keys.specs.declared.opening.Opening.{Opening}
use Rattle.reg_keys.specs.declared.entry.Entry.{Entry}
use Rattle.reg_keys.specs.declared.entry.Entry.TheVariants as Entries
use Rattle.reg_keys.specs.declared.entry.OpenOutcome.TheVariants as Opens
use Rattle.reg_keys.specs.declared.entry.CloseOutcome.TheVariants as Closes
use Rattle.reg_keys.specs.declared.entry.ShutKey.{ShutKey}
use Rattle.reg_keys.specs.Tests.{one_if}
use Rattle.reg_keys.specs.Histories.{is_live}
use Rattle.reg_keys.specs.Replies.{IsLegal}
use Rattle.reg_keys.specs.Promises.{weight}
use Rattle.reg_keys.specs.Accounts.{closes, ClosesForGood}
use Rattle.reg_keys.specs.ListLaws.{same_self}
use Rattle.turn_cell.specs.declared.view.View.{View}
use Rattle.turn_cell.specs.View.{seat_of}
use Rattle.turn_cell.specs.ListLaws.{get_here}
use Rattle.stripe_table.specs.Calls.{shut_key}
use Rattle.event_mgr.specs.Weighing.{Gained, Kept, OpenGained, CloseGained, CallsWeigh}
use Rattle.event_mgr.specs.declared.answers.OpenOut.{OpenOut}
use Rattle.event_mgr.specs.declared.answers.CloseOut.{CloseOut}
use Rattle.event_mgr.specs.declared.answers.OpenOut.TheVariants as Open
use Rattle.event_mgr.specs.declared.answers.CloseOut.TheVariants as Close
use Rattle.event_mgr.specs.Rows.{At}
use Rattle.event_mgr.specs.Stripes.{stripe_of, past_in, StripeEntered, StripeSpent}
use Rattle.event_mgr.specs.Manager.{MgrView, DrewInVain, HasOpened, HasClosed, IsClosedForGood, own_weight}
use Rattle.event_mgr.specs.Manager.{seen_in, seen_by}
use Rattle.event_mgr.proofs.StripeLemmas.{past_in-more}
use Rattle.event_mgr.specs.Laws.{entered_weighs, spent_weighs}
use Rattle.event_mgr.proofs.Seen.{legal_seen}

module _ (s : ℕ) (v w : MgrView) where
  -- the view before, with the numbers as they are after
  abbrev between : MgrView
  between = record { stripes = v.stripes; numbers = w.numbers }

  pub at_weighs : (f : Entry → ℕ) (e : Entry) → At s (StripeEntered s e) v.stripes w.stripes
      → own_weight f w ≡ own_weight f v + f e
  at_weighs f e a = entered_weighs f s between w e (record { stripe = a; numbers = refl })

  pub at_spent_weighs : (f : Entry → ℕ) → At s (StripeSpent s) v.stripes w.stripes
      → own_weight f w ≡ own_weight f v
  at_spent_weighs f a = spent_weighs f s between w (record { stripe = a; numbers = refl })

  -- the entry is the latest of the past
  pub at_seen : (e : Entry) → At s (StripeEntered s e) v.stripes w.stripes
      → (earlier : List Entry) × (past_in (seen_in s w) ≡ e ∷ earlier)
  at_seen e a = let k = a.moved in (
    past_in (a.before.seen ++ k.between),
    ap past_in (ap seen_by
        (ap (λ (l : List (View Entry)). slice_get l s) a.others
        ∙ get_here v.stripes s a.after a.before a.there)
        ∙ k.seen) ∙ past_in-more (a.before.seen ++ k.between) (seat_of a.before) e,
  )

-- ---- opening

module _ (f : Entry → ℕ) (v w : MgrView) where
  same_weighs : w.stripes ≡ v.stripes → own_weight f w ≡ own_weight f v
  same_weighs e = ap (λ l. own_weight f (record { stripes = l; numbers = v.numbers })) e

  pub opened_weighs : (o : Opening) → HasOpened v (Open.Opened o) w
      → own_weight f w ≡ own_weight f v + f (Entries.Open o.fd (Opens.Opened o))
  opened_weighs o h = at_weighs (stripe_of o.fd) v w f (Entries.Open o.fd (Opens.Opened o)) h.0.stripe

  pub taken_weighs : (o : Opening) → HasOpened v (Open.Taken o) w
      → own_weight f w ≡ own_weight f v + f (Entries.Open o.fd (Opens.Taken o))
  taken_weighs o h = at_weighs (stripe_of o.fd) v w f (Entries.Open o.fd (Opens.Taken o)) h.stripe

  pub full_weighs : HasOpened v Open.Full w → own_weight f w ≡ own_weight f v
  full_weighs h = same_weighs h.1

  in_vain_weighs : DrewInVain v w → (own_weight f w ≡ own_weight f v)
      ⊎ ((fd : ℕ) × (own_weight f w ≡ own_weight f v + f (Entries.Open fd Opens.Spent)))
  in_vain_weighs k = let a = k.refused in ⊎_elim
      (λ t. inr (
        k.fd,
        at_weighs (stripe_of k.fd) v w f (Entries.Open k.fd Opens.Spent)
            (record { before = a.before; after = a.after; there = a.there; others = a.others; moved = t }),
      ))
      (λ t. inl (at_spent_weighs (stripe_of k.fd) v w f
      (record { before = a.before; after = a.after; there = a.there; others = a.others; moved = t })))
      a.moved

  -- an opening that was refused as spent has an entry or none
  pub open_spent_weighs : HasOpened v Open.Spent w → (own_weight f w ≡ own_weight f v)
      ⊎ ((fd : ℕ) × (own_weight f w ≡ own_weight f v + f (Entries.Open fd Opens.Spent)))
  open_spent_weighs h = ⊎_elim (λ t. inl (same_weighs t.1)) in_vain_weighs h

  module _ {T : Type 0} (tag : T → List (List ℕ)) where
    pub closed_weighs : (o : Opening) (r : List (Key × Option T)) → HasClosed tag o v (Close.Shut r) w
        → own_weight f w ≡ own_weight f v + f (Entries.Close o (Closes.Shut (map (shut_key tag) r)))
    closed_weighs o r h =
        at_weighs (stripe_of o.fd) v w f (Entries.Close o (Closes.Shut (map (shut_key tag) r))) h.stripe

-- ---- closed for good

closes_first : (o : Opening) (xs : List ShutKey) (past : List Entry)
    → (n : ℕ) × (weight (closes o) (Entries.Close o (Closes.Shut xs) ∷ past) ≡ 1 + n)
closes_first o xs past =
    let a : one_if _ ≡ 1 = ap one_if (same_self o) in
    (weight (closes o) past, ap (λ n. n + weight (closes o) past) a)

-- after a close the opening is live in nothing that is seen from then on
pub closed_for_good :
    ((s c : ℕ) (later past : List Entry) → IsLegal s c (later ++ past) → ClosesForGood later past)
    → {T : Type 0} (tag : T → List (List ℕ)) (o : Opening) → IsClosedForGood tag o
closed_for_good closes_for_good tag o r v w u later h lawful on =
    let s = stripe_of o.fd in
    let xs = map (shut_key tag) r in
    let a = at_seen s v w (Entries.Close o (Closes.Shut xs)) h.stripe in
    let legal = subst (λ (l : List Entry). IsLegal s 1 l) on (legal_seen u lawful s) in
    let c = closes_first o xs a.0 in
    let n = ap (weight (closes o)) a.1 in
    let m = c.1 in
    subst (λ (l : List Entry). is_live l o ≡ false) (sym on)
    ((closes_for_good s 1 later (past_in (seen_in s w)) legal).closed o (omega arith))

-- ---- what each call adds, all together

module _ {T : Type 0} (tag : T → List (List ℕ)) (v w : MgrView) where
  open_gained : (r : OpenOut) → HasOpened v r w → OpenGained v r w
  open_gained (Open.Opened o) h = λ f. opened_weighs f v w o h
  open_gained Open.Full h = λ f. full_weighs f v w h
  open_gained (Open.Taken o) h = λ f. taken_weighs f v w o h
  open_gained Open.Spent h = ⊎_elim (λ t. inl (λ f. full_stripes f t.1)) in_vain h
    where
      full_stripes : (f : Entry → ℕ) → w.stripes ≡ v.stripes → own_weight f w ≡ own_weight f v
      full_stripes f e = ap (λ l. own_weight f (record { stripes = l; numbers = v.numbers })) e

      in_vain : DrewInVain v w → Kept v w ⊎ ((fd : ℕ) × Gained (Entries.Open fd Opens.Spent) v w)
      in_vain k = let a = k.refused in ⊎_elim
          (λ t. inr (
            k.fd,
            λ f.
                at_weighs (stripe_of k.fd) v w f (Entries.Open k.fd Opens.Spent)
                (record {
                  before = a.before;
                  after = a.after;
                  there = a.there;
                  others = a.others;
                  moved = t;
                }),
          ))
          (λ t. inl (λ f. at_spent_weighs (stripe_of k.fd) v w f
          (record { before = a.before; after = a.after; there = a.there; others = a.others; moved = t })))
          a.moved

  close_gained : (o : Opening) (r : CloseOut T) → HasClosed tag o v r w → CloseGained tag o v r w
  close_gained o (Close.Shut list) h = λ f. closed_weighs f v w tag o list h
  close_gained o Close.NotOpen h =
      λ f. entered_weighs f (stripe_of o.fd) v w (Entries.Close o Closes.NotOpen) h
  close_gained o Close.Spent h = λ f. spent_weighs f (stripe_of o.fd) v w h

pub calls_weigh_all : {T : Type 0} (tag : T → List (List ℕ)) → CallsWeigh tag
calls_weigh_all tag = record {
  entered = λ s e v w a f. entered_weighs f s v w e a;
  spent = λ s v w a f. spent_weighs f s v w a;
  opened = λ v r w h. open_gained tag v w r h;
  reported_by =
      λ o ds v r w h.
      ⊎_elim (λ t. inl (λ f. entered_weighs f (stripe_of o.fd) v w _ t.0))
      (λ t. inr (t.0, λ f. spent_weighs f (stripe_of o.fd) v w t.1)) h;
  registered_by =
      λ o d m load v r w h.
      ⊎_elim (λ t. inl (λ f. entered_weighs f (stripe_of o.fd) v w _ t.0))
      (λ t. inr (t.0, λ f. spent_weighs f (stripe_of o.fd) v w t.1)) h;
  dispatched_by =
      λ x v r w h.
      ⊎_elim (λ t. inl (λ f. entered_weighs f (stripe_of x.opening.fd) v w _ t.0))
      (λ t. inr (t.0, λ f. spent_weighs f (stripe_of x.opening.fd) v w t.1)) h;
  closed = λ o v r w h. close_gained tag v w o r h;
}
