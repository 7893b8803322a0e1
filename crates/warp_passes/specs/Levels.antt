-- To be believed: what passes of the shared things did together, once they were brought level. It is said of
-- a list of anything that holds such a pass, by the function to what that knows.
use Rattle.std.specs.Prelude.{◌≡◌, ℕ, List, [], ◌∷◌, map, All}
use Rattle.outside.specs.declared.files.Files.{Ghosts}
use Rattle.reg_keys.specs.declared.entry.Entry.{Entry}
use Rattle.reg_keys.specs.Tests.{total}
use Rattle.turn_cell.specs.Weights.{weigh}
use Rattle.turn_cell.specs.View.{own_entries}
use Rattle.level.specs.Leveling.{IsLevel, IsFresh}
use Rattle.level.specs.Meanings.{HoldAllSeats}
use Rattle.ready_queue.specs.declared.rule.Move.{Move}
use Rattle.timeout_mgr.specs.Passes as Times
use Rattle.event_mgr.specs.Manager.{own_weight, number_weight}
use Rattle.event_mgr.specs.Level as Mgr
use Rattle.event_mgr.specs.declared.numbers.NumbersEntry.{NumbersEntry}
use Rattle.dispatcher.specs.Stripes.{HasGrown, AllGrown}
use Rattle.fd_cache.specs.declared.deed.CacheDeed.{CacheDeed}
use Rattle.fd_cache.specs.History.{IsCacheHistory}
use Rattle.fd_cache.specs.Represents.{past_of}
use Rattle.warp_tally.specs.declared.calls.TallyEntry.{TallyEntry}
use Rattle.warp_tally.specs.Tallies.{tally_past, IsTallyPast}
use Rattle.warp_passes.specs.Own.{entries_of}
use Rattle.warp_passes.specs.Passes.{PassView, IsQueuePast, AreOf, pass_view}
use Rattle.warp_passes.specs.Cells.{ServeCell, known_at, serve_meaning}
use Rattle.warp_passes.specs.declared.shared.Shared.{Shared}
use Rattle.warp_passes.specs.declared.shared.ServePass.{ServePass}

module _ {L : Type 0} where
  -- a pass has seen nothing of any cell, did nothing, and has an empty hand. The queue holds up to 8,192 events
  pub record IsNew (v : PassView L) : Type 0 where
    pub cells : (k : ServeCell) → (name : List ℕ) × IsFresh name (known_at k v)
    pub queue : IsFresh (8192 ∷ []) v.queue
    pub hand : v.hand ≡ []
    pub times : v.times ≡ Times.first_view

  -- the pass did nothing: it has no entry of its own on any cell, and made no call on the timeouts
  pub record DidNothing (v : PassView L) : Type 0 where
    pub calls : (f : Entry → ℕ) → own_weight f v.mgr ≡ 0
    pub draws : (f : NumbersEntry → ℕ) → number_weight f v.mgr ≡ 0
    pub moved : own_entries v.queue ≡ []
    pub cached : entries_of v.cache ≡ []
    pub tallied : entries_of v.tally ≡ []
    pub timed : Times.calls_of v.times ≡ []

  -- what the pass did is what it had done: of the manager in weights, of the queue, the cache and the tally as
  -- lists
  pub record OwnsTheSame (v w : PassView L) : Type 0 where
    pub calls : (f : Entry → ℕ) → own_weight f w.mgr ≡ own_weight f v.mgr
    pub draws : (f : NumbersEntry → ℕ) → number_weight f w.mgr ≡ number_weight f v.mgr
    pub moved : own_entries w.queue ≡ own_entries v.queue
    pub cached : entries_of w.cache ≡ entries_of v.cache
    pub tallied : entries_of w.tally ≡ entries_of v.tally

  -- of each cell the pass has grown: its seats are the same, it forgot nothing, and its entries are those
  -- that it had and maybe more
  pub record HasPassGrown (v w : PassView L) : Type 0 where
    pub mgr : AllGrown v.mgr w.mgr
    pub queue : HasGrown v.queue w.queue
    pub cache : HasGrown v.cache w.cache
    pub tally : HasGrown v.tally w.tally

-- whatever holds passes of the shared things, by the function from each to what its pass knows
module _ {A L : Type 0} (known : A → PassView L) where
  -- the passes have seen one history of each cell, and each of its entries is one pass's own
  pub record ArePassesLevel (xs : List A) : Type 0 where
    pub mgr : Mgr.AreLevel (λ x. (known x).mgr) xs
    pub queue : IsLevel (map (λ x. (known x).queue) xs)
    pub cache : IsLevel (map (λ x. (known x).cache) xs)
    pub tally : IsLevel (map (λ x. (known x).tally) xs)

  -- What all passes did together is what the first, like each of them, has seen: on each cell one history
  -- whose replies are right, and of the queue one whose moves were allowed. Whatever entries weigh, what the
  -- passes did weighs together what these histories weigh
  pub record PassesAddUp (x : A) (xs : List A) : Type 0 where
    pub mgr : Mgr.AddUp (λ y. (known y).mgr) x xs
    pub allowed : IsQueuePast (known x).queue
    pub moved : (f : ℕ × Move → ℕ) → weigh (λ y. weigh f (own_entries (known y).queue)) (x ∷ xs)
        ≡ weigh f (known x).queue.seen
    pub legal : IsCacheHistory (past_of (known x).cache.seen)
    pub cached : (f : CacheDeed L → ℕ) → weigh (λ y. weigh f (entries_of (known y).cache)) (x ∷ xs)
        ≡ weigh f (past_of (known x).cache.seen)
    pub right : IsTallyPast (tally_past (known x).tally.seen)
    pub tallied : (f : TallyEntry → ℕ) → weigh (λ y. weigh f (entries_of (known y).tally)) (x ∷ xs)
        ≡ total f (tally_past (known x).tally.seen)

module _ {J F X : Type 0} {G : Ghosts F X} where
  -- passes that a server begins with: each is of the shared things and new, and of each cell each number is a
  -- seat of exactly one of them
  pub record AreNewPasses (s : Shared J F X G) (ps : List (ServePass J F X G)) : Type 0 where
    pub own : All (λ p. AreOf s p) ps
    pub new : All (λ p. IsNew (pass_view p)) ps
    pub seats : HoldAllSeats serve_meaning ps
