-- To be believed: what a call adds to the history of a stripe or of the numbers, over what its pass knows
-- before and after. Of the part no more is told than that the history is legal.
use Rattle.std.specs.Prelude.{◌≡◌, ℕ, ◌+◌, ◌*◌, ◌%◌, ◌^◌, ◌<◌, ◌⊎◌, List, [], ◌∷◌, ◌++◌, map, length, true}
use Rattle.reg_keys.specs.declared.entry.Entry.{Entry}
use Rattle.reg_keys.specs.Histories.{past_of}
use Rattle.reg_keys.specs.Replies.{IsLegal}
use Rattle.turn_cell.specs.declared.view.View.{View}
use Rattle.turn_cell.specs.Classes.{AreClasses}
use Rattle.turn_cell.specs.History.{Log, Foreign, Ahead}
use Rattle.turn_cell.specs.View.{own_entries, seat_of}
use Rattle.turn_cell.specs.Calls.{IsUnmoved}
use Rattle.event_mgr.specs.Numbers.{numbers_past, IsNumbersPast}
use Rattle.event_mgr.specs.declared.numbers.NumbersCall.TheVariants.{GiveBack}
use Rattle.event_mgr.specs.declared.numbers.NumbersReply.{NumbersReply}
use Rattle.event_mgr.specs.declared.numbers.NumbersEntry.{NumbersEntry}

-- the stripe of a descriptor, or of the number of a key
abbrev pub stripe_of : ℕ → ℕ
stripe_of n = n % 32

-- the entries of a stripe's history without their seats, the latest first
abbrev pub past_in : Log Entry → List Entry
past_in h = past_of (map (λ e. e.1) h)

-- The history of stripe s got this entry, and is legal with it
pub record StripeEntered (s : ℕ) (e : Entry) (v w : View Entry) : Type 0 where
  -- what the pass had seen, then entries of other passes alone, then this call's
  pub between : Log Entry
  pub seen : w.seen ≡ (v.seen ++ between) ++ (seat_of v, e) ∷ []
  pub foreign : Foreign v.classes between
  -- of the pass's own entries this call's alone is new
  pub own : own_entries w ≡ own_entries v ++ (seat_of v, e) ∷ []
  -- each reply of the history is the one that the definitions give
  pub legal : IsLegal s 1 (past_in w.seen)
  pub name : w.name ≡ v.name
  pub classes : w.classes ≡ v.classes
  pub are : AreClasses v.classes
  pub met_spent : w.met_spent ≡ v.met_spent
  -- the last word that the pass found was an even one, twice the number of the entries before this
  pub found : w.found ≡ 2 * length (v.seen ++ between)
  pub short : length (v.seen ++ between) < 2 ^ 62

-- No call was entered in the history of stripe s, since it has 2 ^ 62 entries; it is legal
pub record StripeSpent (s : ℕ) (v w : View Entry) : Type 0 where
  -- the pass has seen nothing more, and its entries are what they were
  pub unmoved : IsUnmoved v w
  -- the whole history goes on from what the pass has seen by entries of other passes
  pub log : Log Entry
  pub ahead : Ahead v.classes v.seen log
  pub full : length log ≡ 2 ^ 62
  pub legal : IsLegal s 1 (past_in log)
  -- the word of that many entries was found
  pub found : w.found ≡ 2 ^ 63
  pub met_spent : w.met_spent ≡ true

-- one `fetch_or` was made, and the entry came into the stripe's history
abbrev pub StripeTried : ℕ → Entry → View Entry → View Entry → Type 0
StripeTried s e v w = StripeEntered s e v w × (w.tries ≡ v.tries + 1)

-- one `fetch_or` was made, and no call was entered, since the stripe's cell has 2 ^ 62 entries
abbrev pub StripeTriedSpent : ℕ → View Entry → View Entry → Type 0
StripeTriedSpent s v w = StripeSpent s v w × (w.tries ≡ v.tries + 1)

-- The history of the numbers got this entry, and each of its replies is the right one
pub record NumbersEntered (e : NumbersEntry) (v w : View NumbersEntry) : Type 0 where
  pub between : Log NumbersEntry
  pub seen : w.seen ≡ (v.seen ++ between) ++ (seat_of v, e) ∷ []
  pub foreign : Foreign v.classes between
  pub own : own_entries w ≡ own_entries v ++ (seat_of v, e) ∷ []
  pub right : IsNumbersPast (numbers_past w.seen)
  pub name : w.name ≡ v.name
  pub classes : w.classes ≡ v.classes
  pub are : AreClasses v.classes
  pub met_spent : w.met_spent ≡ v.met_spent
  pub found : w.found ≡ 2 * length (v.seen ++ between)
  pub short : length (v.seen ++ between) < 2 ^ 62

-- No call was entered in the history of the numbers, since it has 2 ^ 62 entries
pub record NumbersSpent (v w : View NumbersEntry) : Type 0 where
  pub unmoved : IsUnmoved v w
  pub log : Log NumbersEntry
  pub ahead : Ahead v.classes v.seen log
  pub full : length log ≡ 2 ^ 62
  pub right : IsNumbersPast (numbers_past log)
  pub found : w.found ≡ 2 ^ 63
  pub met_spent : w.met_spent ≡ true

-- the number was given back, with whatever reply, if the cell of the numbers isn't spent
abbrev pub GivenBack : ℕ → View NumbersEntry → View NumbersEntry → Type 0
GivenBack fd v w =
    ((r : NumbersReply) × NumbersEntered (record { call = GiveBack fd; reply = r }) v w) ⊎ NumbersSpent v w
