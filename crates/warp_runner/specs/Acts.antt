-- To be believed: what a dispatcher did, step by step, beside the reports and dispatches of its turns.
use Rattle.std.specs.Prelude.{◌≡◌, ℕ, ◌+◌, List, [], ◌∷◌, ◌++◌}
use Rattle.reg_keys.specs.declared.event.EventName.{EventName}
use Rattle.reg_keys.specs.declared.entry.Entry.{Entry}
use Rattle.reg_keys.specs.declared.entry.Entry.TheVariants as Entries
use Rattle.reg_keys.specs.declared.entry.DispatchOutcome.TheVariants as Dispatches
use Rattle.reg_keys.specs.Tests.{total}
use Rattle.turn_cell.specs.Weights.{weigh}
use Rattle.turn_cell.specs.declared.view.View.{View}
use Rattle.turn_cell.specs.declared.pass.Pass.{Pass}
use Rattle.turn_cell.specs.declared.cell.TurnCell.{TurnCell}
use Rattle.event_mgr.specs.declared.numbers.NumbersCall.{NumbersCall}
use Rattle.event_mgr.specs.declared.numbers.NumbersCall.TheVariants.{Draw}
use Rattle.event_mgr.specs.declared.numbers.NumbersReply.{NumbersReply}
use Rattle.event_mgr.specs.declared.numbers.NumbersReply.TheVariants.{AllOut}
use Rattle.event_mgr.specs.Manager.{MgrView, own_weight, number_weight}
use Rattle.timeout_mgr.specs.declared.view.TimeCall.{TimeCall}
use Rattle.timeout_mgr.specs.declared.view.TimeView.{TimeView}
use Rattle.timeout_mgr.specs.declared.timeouts.TimePass.{TimePass}
use Rattle.timeout_mgr.specs.declared.timeouts.Timeouts.{Timeouts}
use Rattle.timeout_mgr.specs.Calls.{IsOf}
use Rattle.timeout_mgr.specs.Passes.{calls_of}
use Rattle.fd_cache.specs.declared.deed.CacheDeed.{CacheDeed}
use Rattle.dispatcher.specs.Entries.{Firing, firings}
use Rattle.dispatcher.specs.Firings.{jobs_of}
use Rattle.dispatcher.specs.Runs.{HasMadeCalls}
use Rattle.dispatcher.specs.Stripes.{HasGrown}
use Rattle.warp_tally.specs.declared.calls.TallyCall.{TallyCall}
use Rattle.warp_tally.specs.declared.calls.TallyReply.{TallyReply}
use Rattle.warp_tally.specs.declared.calls.TallyEntry.{TallyEntry}
use Rattle.warp_tally.specs.declared.tally.Tally.{Tally}
use Rattle.warp_passes.specs.CacheCalls.{IsCacheOf}
use Rattle.warp_passes.specs.TallyCalls.{IsTallyOf}
use Rattle.warp_passes.specs.Own.{entries_of}
use Rattle.warp_books.specs.Books.{FinishedTold, BookTold, IsBookOf}

-- what is known of what a dispatcher did so far: what its pass on the manager knows, its calls on the tally
-- and on the timeouts in their order, and its book
pub record ServeTold : Type 0 where
  pub mgr : MgrView
  pub tallied : List TallyEntry
  pub timed : List TimeCall
  pub book : BookTold

-- the same by what each of its passes knows
abbrev pub told_of : MgrView → View TallyEntry → TimeView → BookTold → ServeTold
told_of mgr tally times book =
    record { mgr = mgr; tallied = entries_of tally; timed = calls_of times; book = book }

-- some of what it did: calls on stripes, how often it was told that all descriptors are open, calls on the
-- tally and on the timeouts, each kind in its order, and what it handed to its book
pub record Acts : Type 0 where
  pub calls : List Entry
  pub all_out : ℕ
  pub tallied : List TallyEntry
  pub timed : List TimeCall
  pub handed : List FinishedTold

-- nothing
abbrev pub nothing : Acts
nothing = record { calls = []; all_out = 0; tallied = []; timed = []; handed = [] }

-- one call on a stripe
abbrev pub called : Entry → Acts
called e = record { calls = e ∷ []; all_out = 0; tallied = []; timed = []; handed = [] }

-- a draw that was answered that all descriptors are open
abbrev pub found_all_out : Acts
found_all_out = record { calls = []; all_out = 1; tallied = []; timed = []; handed = [] }

-- one call on the tally
abbrev pub counted : TallyEntry → Acts
counted e = record { calls = []; all_out = 0; tallied = e ∷ []; timed = []; handed = [] }

-- some calls on the timeouts
abbrev pub watched : List TimeCall → Acts
watched cs = record { calls = []; all_out = 0; tallied = []; timed = cs; handed = [] }

-- one act after another
abbrev pub then : Acts → Acts → Acts
then a b = record {
  calls = a.calls ++ b.calls;
  all_out = a.all_out + b.all_out;
  tallied = a.tallied ++ b.tallied;
  timed = a.timed ++ b.timed;
  handed = a.handed ++ b.handed;
}

-- one for a draw that was answered that all descriptors are open
abbrev pub is_all_out : NumbersCall → NumbersReply → ℕ
is_all_out Draw AllOut = 1
is_all_out _ _ = 0

-- how often a pass was told that all descriptors are open
abbrev pub all_out_in : MgrView → ℕ
all_out_in v = number_weight (λ e. is_all_out e.call e.reply) v

-- what the jobs weigh that an entry fired
abbrev pub fired_weight : (Firing → ℕ) → Entry → ℕ
fired_weight φ (Entries.Dispatch x (Dispatches.Ran ran e)) = total φ (jobs_of (firings x.opening ran))
fired_weight φ _ = 0

-- the book was handed these besides, in this order
abbrev pub IsBookThen : List FinishedTold → BookTold → BookTold → Type 0
IsBookThen handed b c = (before : List FinishedTold) → IsBookOf before b → IsBookOf (before ++ handed) c

-- Exactly this was done: the pass's own entries weigh more by those of the calls, whatever an entry
-- weighs, none of them dispatched anything, and they named exactly these events; it was told so often more
-- that all descriptors are open; the calls on the tally and on the timeouts, and what the book was handed,
-- came to the end of what there was
pub record Did (u : ServeTold) (acts : Acts) (events : List EventName) (w : ServeTold) : Type 0 where
  pub made : HasMadeCalls u.mgr events w.mgr
  pub grew : (f : Entry → ℕ) → own_weight f w.mgr ≡ own_weight f u.mgr + weigh f acts.calls
  pub fires_none : (φ : Firing → ℕ) → weigh (fired_weight φ) acts.calls ≡ 0
  pub all_out : all_out_in w.mgr ≡ all_out_in u.mgr + acts.all_out
  pub tallied : w.tallied ≡ u.tallied ++ acts.tallied
  pub timed : w.timed ≡ u.timed ++ acts.timed
  pub book : IsBookThen acts.handed u.book w.book

module _ {P C R L : Type 0} where
  -- the passes are of the timeouts, of the cell of the cache and of that of the tally,
  -- and what they have seen is right
  pub record AreOfCells (times : Timeouts) (timed : TimePass) (cache : TurnCell P C R (CacheDeed L))
      (cached : Pass P (CacheDeed L))
      (tally : TurnCell Tally TallyCall TallyReply TallyEntry)
      (tallied : Pass Tally TallyEntry) : Type 0 where
    pub of_times : IsOf times timed
    pub of_cache : IsCacheOf cache cached
    pub of_tally : IsTallyOf tally tallied

-- the passes of the two cells have seen what they had seen and maybe more, and did what
-- they had done and maybe more
pub record HaveGrown {L : Type 0} (c d : View (CacheDeed L)) (t u : View TallyEntry) : Type 0 where
  pub cached : HasGrown c d
  pub tallied : HasGrown t u
