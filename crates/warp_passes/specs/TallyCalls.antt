-- To be believed: what a call on the tally says, over what its pass knows before and after.
use Rattle.std.specs.Prelude.{◌≡◌, ◌⊎◌, List, [], ◌∷◌, ◌++◌, true}
use Rattle.turn_cell.specs.declared.view.View.{View}
use Rattle.turn_cell.specs.declared.pass.Pass.{Pass}
use Rattle.turn_cell.specs.declared.cell.TurnCell.{TurnCell}
use Rattle.turn_cell.specs.Calls.{view_of, IsOf}
use Rattle.warp_tally.specs.declared.calls.TallyCall.{TallyCall}
use Rattle.warp_tally.specs.declared.calls.TallyCall.TheVariants.{Accept, TurnAway, Finish, Stop, Look}
use Rattle.warp_tally.specs.declared.calls.Counted.{Counted}
use Rattle.warp_tally.specs.declared.calls.Counted.TheVariants.{Yes, No, NoMemory}
use Rattle.warp_tally.specs.declared.calls.TallyReply.{TallyReply}
use Rattle.warp_tally.specs.declared.calls.TallyEntry.{TallyEntry}
use Rattle.warp_tally.specs.declared.tally.Tally.{Tally}
use Rattle.warp_tally.specs.Tallies.{tally_past, IsTallyPast}
use Rattle.dispatcher.specs.Stripes.{HasGrown}
use Rattle.warp_passes.specs.Own.{entries_of}
use Rattle.warp_passes.specs.declared.tally.TallyOut.{TallyOut}
use Rattle.warp_passes.specs.declared.tally.TallyOut.TheVariants.{Done, Spent}

-- the pass is of the cell, and in what it has seen each reply is the one that its call must have
pub record IsTallyOf (c : TurnCell Tally TallyCall TallyReply TallyEntry)
    (p : Pass Tally TallyEntry) : Type 0 where
  pub cell : IsOf c p
  pub right : IsTallyPast (tally_past (view_of p).seen)

-- which calls may count, may not count, or may want memory
abbrev pub MayAnswer : TallyCall → Counted → Type 0
MayAnswer (Accept o) counted = (counted ≡ Yes) ⊎ (counted ≡ NoMemory)
MayAnswer TurnAway counted = counted ≡ Yes
MayAnswer (Finish o) counted = (counted ≡ Yes) ⊎ (counted ≡ No)
MayAnswer (Stop code) counted = (counted ≡ Yes) ⊎ (counted ≡ No)
MayAnswer Look counted = counted ≡ No

-- The call was made: of all that the pass did its entry alone is new. It is the latest of a past that goes on
-- from what the pass had seen, in which each reply is the one that its call must have
pub record TallyEntered (e : TallyEntry) (v w : View TallyEntry) : Type 0 where
  pub own : entries_of w ≡ entries_of v ++ e ∷ []
  pub counted : MayAnswer e.call e.reply.counted
  -- the calls that others made meanwhile, the latest first
  pub between : List TallyEntry
  pub latest : tally_past w.seen ≡ e ∷ (between ++ tally_past v.seen)
  pub right : IsTallyPast (tally_past w.seen)
  pub classes : w.classes ≡ v.classes
  pub met_spent : w.met_spent ≡ v.met_spent
  pub grown : HasGrown v w

-- No call was made, since the cell has 2 ^ 62 entries: the pass did what it had done, and has seen what it
-- had seen
pub record TallySpent (v w : View TallyEntry) : Type 0 where
  pub own : entries_of w ≡ entries_of v
  pub seen : w.seen ≡ v.seen
  pub classes : w.classes ≡ v.classes
  pub met_spent : w.met_spent ≡ true
  pub grown : HasGrown v w

-- what an answer to a call says
abbrev pub HasCalled : TallyCall → View TallyEntry → TallyOut → View TallyEntry → Type 0
HasCalled call v (Done reply) w = TallyEntered (record { call = call; reply = reply }) v w
HasCalled call v Spent w = TallySpent v w

-- so by any answer the pass has grown: its seats are the same, and it forgot nothing
abbrev pub called_grown : (call : TallyCall) (v : View TallyEntry) (r : TallyOut) (w : View TallyEntry)
    → HasCalled call v r w → HasGrown v w
called_grown call v (Done reply) w e = e.grown
called_grown call v Spent w e = e.grown
