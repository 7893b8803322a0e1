-- To be believed: what passes of a manager have seen and made together, once they were brought level.
use Rattle.std.specs.Prelude.{◌≡◌, ℕ, ◌<◌, List, ◌∷◌, map}
use Rattle.reg_keys.specs.declared.entry.Entry.{Entry}
use Rattle.reg_keys.specs.Promises.{weight}
use Rattle.reg_keys.specs.AllStripes.{sum_below, AreLegal}
use Rattle.turn_cell.specs.declared.view.View.{View}
use Rattle.turn_cell.specs.Weights.{weigh}
use Rattle.level.specs.Leveling.{IsLevel}
use Rattle.level.specs.Meanings.{PassMeaning}
use Rattle.event_mgr.specs.Numbers.{numbers_past, IsNumbersPast}
use Rattle.event_mgr.specs.Stripes.{past_in}
use Rattle.event_mgr.specs.Manager.{MgrView, mgr_view, stripe_view, seen_in, IsOfMgr, own_weight}
use Rattle.event_mgr.specs.Manager.{number_weight}
use Rattle.event_mgr.specs.declared.numbers.NumbersEntry.{NumbersEntry}
use Rattle.event_mgr.specs.declared.pass.MgrPass.{MgrPass}
use Rattle.event_mgr.specs.declared.manager.EventManager.{EventManager}

-- the cells that a pass of a manager holds a pass of: one for each stripe, and that of the numbers
pub data MgrCell : Type 0 where
  AtStripe : (s : ℕ) → s < 32 → MgrCell
  AtNumbers : MgrCell

-- what an entry is in the history of each
abbrev pub entry_at : MgrCell → Type 0
entry_at (AtStripe s low) = Entry
entry_at AtNumbers = NumbersEntry

-- what a pass knows of each
abbrev pub known_at : (k : MgrCell) → MgrView → View (entry_at k)
known_at (AtStripe s low) v = stripe_view s v
known_at AtNumbers v = v.numbers

-- what is told of a pass of a manager, so that it can be brought level with others
abbrev pub mgr_meaning : {T : Type 0} → PassMeaning (MgrPass T) (EventManager T)
mgr_meaning = record {
  cell = MgrCell;
  entry = entry_at;
  view = λ k p. known_at k (mgr_view p);
  is_of = λ m p. IsOfMgr m p;
}

-- whatever holds passes of a manager, by the function from each to what its pass knows
module _ {A : Type 0} (known : A → MgrView) where
  -- the passes have seen one history of each stripe and one of the numbers, and each of
  -- their entries is one pass's own
  pub record AreLevel (xs : List A) : Type 0 where
    pub stripes : (s : ℕ) → s < 32 → IsLevel (map (λ x. stripe_view s (known x)) xs)
    pub numbers : IsLevel (map (λ x. (known x).numbers) xs)

  -- What all passes made together is what the first, like each of them, has seen: one legal
  -- history for each stripe and one for the numbers. Whatever entries weigh, the passes' own weigh
  -- together what these histories weigh
  pub record AddUp (x : A) (xs : List A) : Type 0 where
    pub legal : AreLegal (λ s. 1) (λ s. past_in (seen_in s (known x)))
    pub entries : (f : Entry → ℕ) → weigh (λ y. own_weight f (known y)) (x ∷ xs)
        ≡ sum_below 32 (λ s. weight f (past_in (seen_in s (known x))))
    pub right : IsNumbersPast (numbers_past (known x).numbers.seen)
    pub draws : (f : NumbersEntry → ℕ)
        → weigh (λ y. number_weight f (known y)) (x ∷ xs) ≡ weigh (λ e. f e.1) (known x).numbers.seen
