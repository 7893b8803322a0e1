-- What the manager tells of an entry, out of what the turn cell tells: of the part no more than its name, and
-- that the history is legal under it.
use Rattle.std.proofs.Common.{◌≡◌, ℕ, ◌+◌, List, [], ◌∷◌, ◌++◌, map, refl, ap, ◌∙◌, subst}
use Rattle.std.proofs.lemmas.List.{map-append, reverse-append}
use Rattle.reg_keys.specs.declared.entry.Entry.{Entry}
use Rattle.std.specs.Prelude.{reverse}
use Rattle.reg_keys.specs.Histories.{past_of}
use Rattle.reg_keys.specs.Replies.{IsLegal}
use Rattle.reg_keys.specs.Laws.{past_of-more}
use Rattle.turn_cell.specs.declared.view.View.{View}
use Rattle.turn_cell.specs.History.{Log}
use Rattle.turn_cell.specs.View.{seat_of}
use Rattle.turn_cell.specs.Calls.{Entered, WasSpent}
use Rattle.stripe_table.specs.Represents.{Represents}
use Rattle.stripe_table.specs.declared.stripe.Stripe.{Stripe}
use Rattle.event_mgr.specs.Numbers.{numbers_past, IsNumbersPast}
use Rattle.event_mgr.specs.RepresentsNumbers.{RepresentsNumbers}
use Rattle.event_mgr.specs.declared.numbers.Numbers.{Numbers}
use Rattle.event_mgr.specs.declared.numbers.NumbersEntry.{NumbersEntry}
use Rattle.event_mgr.specs.Rows.{name_at}
use Rattle.event_mgr.specs.Stripes.{past_in, StripeEntered, StripeSpent, NumbersEntered, NumbersSpent}

-- a legal history, for the stripe and the first count that a name tells
abbrev IsLegalFor : List ℕ → Log Entry → Type 0
IsLegalFor (s ∷ c ∷ []) h = IsLegal s c (past_in h)
IsLegalFor _ h = ⊥

module _ {T : Type 0} where
  abbrev pub stripe_name : Stripe T → List ℕ
  stripe_name st = st.stripe ∷ st.first ∷ []

module _ {T : Type 0} (tag : T → List (List ℕ)) where
  abbrev pub stripe_stands : Stripe T → Log Entry → Type 0
  stripe_stands st h = Represents tag (past_in h) st

  module _ (s : ℕ) (v w : View Entry) (name : v.name ≡ name_at s) where
    pub stripe_entered : (e : Entry) → Entered stripe_stands stripe_name e v w → StripeEntered s e v w
    stripe_entered e k = record {
      between = k.between;
      seen = k.seen;
      foreign = k.foreign;
      own = k.own;
      legal = subst (λ (n : List ℕ). IsLegalFor n w.seen) (k.is_part.1 ∙ (k.name ∙ name)) k.is_part.0.legal;
      name = k.name;
      classes = k.classes;
      are = k.are;
      met_spent = k.met_spent;
      found = k.found;
      short = k.short;
    }

    pub stripe_spent : WasSpent stripe_stands stripe_name v w → StripeSpent s v w
    stripe_spent k = record {
      unmoved = k.unmoved;
      log = k.log;
      ahead = k.ahead;
      full = k.full;
      legal = subst (λ (n : List ℕ). IsLegalFor n k.log) (k.is_part.1 ∙ name) k.is_part.0.legal;
      found = k.found;
      met_spent = k.met_spent;
    }

abbrev pub numbers_stand : Numbers → Log NumbersEntry → Type 0
numbers_stand n h = RepresentsNumbers (numbers_past h) n

abbrev pub numbers_name : Numbers → List ℕ
numbers_name n = []

pub numbers_entered : (e : NumbersEntry) (v w : View NumbersEntry) → Entered numbers_stand numbers_name e v w
    → NumbersEntered e v w
numbers_entered e v w k = record {
  between = k.between;
  seen = k.seen;
  foreign = k.foreign;
  own = k.own;
  right = k.is_part.0.right;
  name = k.name;
  classes = k.classes;
  are = k.are;
  met_spent = k.met_spent;
  found = k.found;
  short = k.short;
}

pub numbers_spent : (v w : View NumbersEntry) → WasSpent numbers_stand numbers_name v w → NumbersSpent v w
numbers_spent v w k = record {
  unmoved = k.unmoved;
  log = k.log;
  ahead = k.ahead;
  full = k.full;
  right = k.is_part.0.right;
  found = k.found;
  met_spent = k.met_spent;
}

-- the past with one entry more
pub past_in-more : (l : Log Entry) (n : ℕ) (e : Entry) → past_in (l ++ (n, e) ∷ []) ≡ e ∷ past_in l
past_in-more l n e =
    ap past_of (map-append (λ (x : ℕ × Entry). x.1) l ((n, e) ∷ []))
    ∙ past_of-more (map (λ (x : ℕ × Entry). x.1) l) e

-- the entry that was made is legal after those before it
pub entered_last : (s : ℕ) (e : Entry) (v w : View Entry) → (k : StripeEntered s e v w)
    → IsLegal s 1 (e ∷ past_in (v.seen ++ k.between))
entered_last s e v w k =
    subst (IsLegal s 1) (ap past_in k.seen ∙ past_in-more (v.seen ++ k.between) (seat_of v) e) k.legal

-- the past of the numbers with one entry more, and the entry after those before it
pub numbers_past-more : (l : Log NumbersEntry) (n : ℕ) (e : NumbersEntry)
    → numbers_past (l ++ (n, e) ∷ []) ≡ e ∷ numbers_past l
numbers_past-more l n e =
    ap reverse (map-append (λ (x : ℕ × NumbersEntry). x.1) l ((n, e) ∷ []))
    ∙ reverse-append (map (λ (x : ℕ × NumbersEntry). x.1) l) (e ∷ [])

pub numbers_last : (e : NumbersEntry) (v w : View NumbersEntry) → (k : NumbersEntered e v w)
    → IsNumbersPast (e ∷ numbers_past (v.seen ++ k.between))
numbers_last e v w k =
    subst IsNumbersPast
    (ap numbers_past k.seen ∙ numbers_past-more (v.seen ++ k.between) (seat_of v) e) k.right
