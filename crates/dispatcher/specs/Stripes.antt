-- To be believed: what is said of the 32 stripes together. There is one history for each stripe and none for
-- all, so what has an order has it stripe by stripe, and everything else is said in sums.
use Rattle.std.specs.Prelude.{◌≡◌, ℕ, ◌==◌, List, [], ◌∷◌, ◌++◌, filter, true}
use mathlib.Core.List.{IsPrefix}
use Rattle.reg_keys.specs.declared.opening.Opening.{Opening}
use Rattle.reg_keys.specs.declared.event.EventName.{EventName}
use Rattle.reg_keys.specs.declared.entry.Entry.{Entry}
use Rattle.turn_cell.specs.declared.view.View.{View}
use Rattle.turn_cell.specs.Weights.{weigh}
use Rattle.turn_cell.specs.History.{Log}
use Rattle.turn_cell.specs.View.{own_entries}
use Rattle.event_mgr.specs.Stripes.{stripe_of}
use Rattle.event_mgr.specs.Manager.{MgrView, own_in, own_weight}
use Rattle.dispatcher.specs.Entries.{IsOfRun}

-- two rows of the same length, where R holds at each place
abbrev pub Each : {V : Type 0} → (V → V → Type 0) → List V → List V → Type 0
Each R [] [] = Unit {0}
Each R (v ∷ vs) (w ∷ ws) = R v w × Each R vs ws
Each R _ _ = ⊥

-- the pass has seen what it had seen, and maybe more, its own entries are those that it had, and maybe more,
-- and where it has met a spent cell it doesn't forget that
pub record HasGrown {E : Type 0} (v w : View E) : Type 0 where
  pub name : w.name ≡ v.name
  pub classes : w.classes ≡ v.classes
  pub seen : IsPrefix v.seen w.seen
  pub own : IsPrefix (own_entries v) (own_entries w)
  pub met : v.met_spent ≡ true → w.met_spent ≡ true

-- each of the 33 passes has grown
pub record AllGrown (v w : MgrView) : Type 0 where
  pub stripes : Each HasGrown v.stripes w.stripes
  pub numbers : HasGrown v.numbers w.numbers

-- what a list of entries shows, in order
abbrev pub shown_in : {X : Type 0} → (Entry → List X) → Log Entry → List X
shown_in show [] = []
shown_in show (e ∷ es) = show e.1 ++ shown_in show es

-- of things that belong to openings those that belong to one stripe
abbrev pub of_stripe : {X : Type 0} → ℕ → List (Opening × X) → List (Opening × X)
of_stripe s xs = filter (λ x. stripe_of x.0.fd == s) xs

-- the own entries that the pass gained show these things: at each stripe those of that stripe, in order
abbrev pub PassShows : {X : Type 0} → (Entry → List (Opening × X)) → MgrView → List (Opening × X)
    → MgrView → Type 0
PassShows show v xs w = (s : ℕ) → shown_in show (own_in s w) ≡ shown_in show (own_in s v) ++ of_stripe s xs

-- what the own entries of all stripes weigh, by the events that they show
abbrev pub weigh_shown : (Entry → List EventName) → (EventName → ℕ) → MgrView → ℕ
weigh_shown show h v = own_weight (λ e. weigh h (show e)) v

-- each entry of a list is of a call that a run may make
abbrev pub AreOfRun : Log Entry → Type 0
AreOfRun [] = Unit {0}
AreOfRun (e ∷ es) = IsOfRun e.1 × AreOfRun es
