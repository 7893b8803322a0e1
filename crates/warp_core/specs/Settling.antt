-- Inner: what a look at the tally says of the end.
use Rattle.std.specs.Prelude.{◌≡◌, ℕ, ◌+◌, ◌⊎◌, List, slice_get, slice_set, Option, Some, None}
use Rattle.turn_cell.specs.declared.view.View.{View}
use Rattle.warp_tally.specs.declared.calls.TallyCall.TheVariants.{Look}
use Rattle.warp_tally.specs.declared.calls.TallyReply.{TallyReply}
use Rattle.warp_tally.specs.declared.calls.TallyEntry.{TallyEntry}
use Rattle.warp_passes.specs.Passes.{PassView}
use Rattle.warp_passes.specs.TallyCalls.{TallyEntered}
use Rattle.warp_core.specs.Ends.{IsOver}
use Rattle.warp_core.specs.declared.row.Halted.{Halted}
use Rattle.warp_core.specs.declared.row.Halted.TheVariants as Halts
use Rattle.warp_core.specs.declared.served.Counts.{Counts}
use Rattle.warp_core.specs.declared.served.ServeEnd.{ServeEnd}
use Rattle.warp_core.specs.declared.served.ServeEnd.TheVariants.{Over, PollFault, AcceptFault, Spent}
use Rattle.warp_core.specs.declared.served.ServeEnd.TheVariants.{NoMemory}

-- a look showed that as many links were accepted as was to be, and that each is finished or was turned away
pub record HasSeenOver (limit : ℕ) (counts : Counts) (v w : View TallyEntry) : Type 0 where
  pub reply : TallyReply
  pub entered : TallyEntered (record { call = Look; reply = reply }) v w
  pub limit_is : reply.accepted ≡ limit
  pub accepted : counts.accepted ≡ reply.accepted
  pub turned : counts.turned ≡ reply.turned
  pub all : reply.finished + reply.turned ≡ reply.accepted

-- what the first dispatcher says of the end, if it does
abbrev pub SaysSo : ℕ → Option ServeEnd → View TallyEntry → View TallyEntry → Type 0
SaysSo limit (Some (Over counts)) v w = HasSeenOver limit counts v w
SaysSo limit (Some Spent) v w = Unit {0}
SaysSo limit (Some PollFault) v w = ⊥
SaysSo limit (Some AcceptFault) v w = ⊥
SaysSo limit (Some NoMemory) v w = ⊥
SaysSo limit None v w = Unit {0}

-- the end where a dispatcher makes no further turn
abbrev pub EndOf : Halted → ServeEnd → Type 0
EndOf Halts.PollFault end = end ≡ PollFault
EndOf (Halts.WithCode code) end =
    ((end ≡ AcceptFault) × (code ≡ 9)) ⊎ ((end ≡ NoMemory) × (code ≡ 6)) ⊎ (end ≡ Spent)
EndOf Halts.Spent end = end ≡ Spent

module _ {A L : Type 0} (known : A → PassView L) where
  -- the first of several looked, and said so
  pub record HasLooked (limit : ℕ) (end : Option ServeEnd) (xs ys : List A) : Type 0 where
    pub before : A
    pub after : A
    pub there : slice_get xs 0 ≡ Some before
    pub left : ys ≡ slice_set xs 0 after
    pub says : SaysSo limit end (known before).tally (known after).tally

  -- what was said of the end holds of all together
  abbrev pub ShowsOver : ℕ → Option ServeEnd → List A → Type 0
  ShowsOver limit (Some (Over counts)) xs = IsOver known limit counts xs
  ShowsOver limit (Some Spent) xs = Unit {0}
  ShowsOver limit (Some PollFault) xs = ⊥
  ShowsOver limit (Some AcceptFault) xs = ⊥
  ShowsOver limit (Some NoMemory) xs = ⊥
  ShowsOver limit None xs = Unit {0}
