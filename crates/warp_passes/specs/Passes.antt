-- To be believed: what a pass of each shared thing knows, what it says to be a pass of them, to be new, and
-- to be split.
use Rattle.std.specs.Prelude.{◌≡◌, ℕ, List, [], ◌∷◌}
use Rattle.outside.specs.declared.files.Files.{Ghosts}
use Rattle.reg_keys.specs.declared.event.EventName.{EventName}
use Rattle.turn_cell.specs.declared.view.View.{View}
use Rattle.turn_cell.specs.View.{first_view}
use Rattle.turn_cell.specs.Calls.{view_of, IsSplit}
use Rattle.ready_queue.specs.declared.rule.Move.{Move}
use Rattle.ready_queue.specs.History.{IsQueueHistory}
use Rattle.ready_queue.specs.Calls as Queue
use Rattle.timeout_mgr.specs.declared.view.TimeView.{TimeView}
use Rattle.timeout_mgr.specs.Passes as Times
use Rattle.timeout_mgr.specs.Calls as TimeCalls
use Rattle.event_mgr.specs.Manager.{MgrView, mgr_view, IsLawful, IsMgrSplit}
use Rattle.event_mgr.specs.Manager as Manager
use Rattle.dispatcher.specs.Turns as Turns
use Rattle.fd_cache.specs.declared.lease.Lease.{Lease}
use Rattle.fd_cache.specs.declared.deed.CacheDeed.{CacheDeed}
use Rattle.fd_cache.specs.History.{IsCacheHistory}
use Rattle.fd_cache.specs.Represents.{past_of}
use Rattle.warp_tally.specs.declared.calls.TallyEntry.{TallyEntry}
use Rattle.warp_tally.specs.Tallies.{tally_past, IsTallyPast}
use Rattle.warp_passes.specs.CacheCalls.{IsCacheOf}
use Rattle.warp_passes.specs.TallyCalls.{IsTallyOf}
use Rattle.warp_passes.specs.declared.shared.Shared.{Shared}
use Rattle.warp_passes.specs.declared.shared.ServePass.{ServePass}

-- what a pass of each shared thing knows, and the events in its hand. What is lent of the cache is of type L
pub record PassView (L : Type 0) : Type 0 where
  pub mgr : MgrView
  pub queue : View Move
  pub hand : List EventName
  pub times : TimeView
  pub cache : View (CacheDeed L)
  pub tally : View TallyEntry

-- what of it isn't levelled: the hand, and what the pass of the timeouts knows
pub record PassRest : Type 0 where
  pub hand : List EventName
  pub times : TimeView

-- what was seen of the queue is a history of one of the capacity that the pass knows: a put finds room, and
-- what is taken is the first that is held
abbrev pub IsQueuePast : View Move → Type 0
IsQueuePast v = (capacity : ℕ) × (v.name ≡ capacity ∷ []) × IsQueueHistory capacity v.seen

module _ {L : Type 0} where
  -- what of a pass isn't levelled
  abbrev pub rest_of : PassView L → PassRest
  rest_of v = record { hand = v.hand; times = v.times }

  -- what was seen of each history is right: each move of the queue was allowed where it was made, and of each
  -- cell each reply is the one that its call must have
  pub record IsLawfulPass (v : PassView L) : Type 0 where
    pub mgr : IsLawful v.mgr
    pub queue : IsQueuePast v.queue
    pub cache : IsCacheHistory (past_of v.cache.seen)
    pub tally : IsTallyPast (tally_past v.tally.seen)

  -- the first pass: all seats of all cells, nothing seen, nothing done, and an empty hand
  pub record IsFirst (v : PassView L) : Type 0 where
    pub mgr : Manager.IsFirst v.mgr
    pub queue : v.queue ≡ first_view (8192 ∷ [])
    pub hand : v.hand ≡ []
    pub times : v.times ≡ Times.first_view
    pub cache : v.cache ≡ first_view []
    pub tally : v.tally ≡ first_view []

  -- A pass that knew v was split: it knows w, and the new one o. Of each cell and of the queue its entries
  -- stay its own, the new one has none, and the two share its seats. Of the timeouts the new one has seen as
  -- much and did nothing. The hand stays, and the new one is empty
  pub record IsPassSplit (v w o : PassView L) : Type 0 where
    pub mgr : IsMgrSplit v.mgr w.mgr o.mgr
    pub queue : IsSplit v.queue w.queue o.queue
    pub hand : w.hand ≡ v.hand
    pub empty : o.hand ≡ []
    pub times : w.times ≡ v.times
    pub timeless : o.times ≡ record Times.first_view { seen = v.times.seen }
    pub cache : IsSplit v.cache w.cache o.cache
    pub tally : IsSplit v.tally w.tally o.tally

module _ {J F X : Type 0} {G : Ghosts F X} where
  -- what the pass knows
  abbrev pub pass_view : ServePass J F X G → PassView (Lease F X G)
  pass_view p = record {
    mgr = mgr_view p.disp.mgr;
    queue = Queue.view_of p.disp.queue;
    hand = p.disp.hand;
    times = TimeCalls.view_of p.times;
    cache = view_of p.cache;
    tally = view_of p.tally;
  }

  -- each pass is of its thing, and what it has seen is right
  pub record AreOf (s : Shared J F X G) (p : ServePass J F X G) : Type 0 where
    pub disp : Turns.AreOf s.mgr s.queue p.disp
    pub times : TimeCalls.IsOf s.times p.times
    pub cache : IsCacheOf s.cache p.cache
    pub tally : IsTallyOf s.tally p.tally

  -- so what a pass of them has seen is lawful
  abbrev pub lawful_of : (s : Shared J F X G) (p : ServePass J F X G) → AreOf s p → IsLawfulPass (pass_view p)
  lawful_of s p o = record {
    mgr = o.disp.0.lawful;
    queue = (Queue.capacity_of s.queue, o.disp.1.1, o.disp.1.2);
    cache = o.cache.legal;
    tally = o.tally.right;
  }
