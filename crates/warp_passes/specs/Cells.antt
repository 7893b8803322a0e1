-- To be believed: the cells that a pass of each shared thing holds a pass of, so that passes can be brought
-- level. The queue is one of them: it is no turn cell, but its passes are split and joined as those of one are.
use Rattle.std.specs.Prelude.{List, map}
use Rattle.outside.specs.declared.files.Files.{Ghosts}
use Rattle.turn_cell.specs.declared.view.View.{View}
use Rattle.level.specs.Leveling.{HasShared, HoldsEachOnce, KeepsOwn, BroughtLevel}
use Rattle.level.specs.Meanings.{PassMeaning}
use Rattle.event_mgr.specs.Level.{MgrCell}
use Rattle.event_mgr.specs.Level as Mgr
use Rattle.ready_queue.specs.declared.rule.Move.{Move}
use Rattle.fd_cache.specs.declared.deed.CacheDeed.{CacheDeed}
use Rattle.warp_tally.specs.declared.calls.TallyEntry.{TallyEntry}
use Rattle.warp_passes.specs.Passes.{PassView, PassRest, AreOf, pass_view, rest_of}
use Rattle.warp_passes.specs.Rows.{RowMeaning}
use Rattle.warp_passes.specs.declared.shared.Shared.{Shared}
use Rattle.warp_passes.specs.declared.shared.ServePass.{ServePass}

-- the cells: those of the manager, which are one for each stripe and that of the numbers, the queue, the cell
-- of the cache, and that of the tally. The timeouts are none
pub data ServeCell : Type 0 where
  AtMgr : MgrCell → ServeCell
  AtQueue : ServeCell
  AtCache : ServeCell
  AtTally : ServeCell

-- what an entry is in the history of each
abbrev pub entry_at : Type 0 → ServeCell → Type 0
entry_at L (AtMgr k) = Mgr.entry_at k
entry_at L AtQueue = Move
entry_at L AtCache = CacheDeed L
entry_at L AtTally = TallyEntry

module _ {L : Type 0} where
  -- what a pass knows of each
  abbrev pub known_at : (k : ServeCell) → PassView L → View (entry_at L k)
  known_at (AtMgr k) v = Mgr.known_at k v.mgr
  known_at AtQueue v = v.queue
  known_at AtCache v = v.cache
  known_at AtTally v = v.tally

  -- of each cell, the pass that knew v, and then v', told the one that knew w, and then w', what it had seen
  abbrev pub ArePassesShared : PassView L → PassView L → PassView L → PassView L → Type 0
  ArePassesShared v w v' w' =
      (k : ServeCell) → HasShared (known_at k v) (known_at k w) (known_at k v') (known_at k w')

  -- The same three things that levelling says of any passes, of whatever holds a pass of each shared thing,
  -- by the function to what that knows
  module _ {A : Type 0} (known : A → PassView L) where
    -- of each cell, each number is a seat of exactly one of the passes
    abbrev pub SeatsAreOnce : List A → Type 0
    SeatsAreOnce xs = (k : ServeCell) → HoldsEachOnce (map (λ x. known_at k (known x)) xs)

    -- of each cell, no pass made a call, and none forgot anything
    abbrev pub OwnIsKept : List A → List A → Type 0
    OwnIsKept xs ys =
        (k : ServeCell) → KeepsOwn (map (λ x. known_at k (known x)) xs) (map (λ x. known_at k (known x)) ys)

    -- of each cell, the passes of xs were brought to one history, and are those of ys
    abbrev pub CameLevel : List A → List A → Type 0
    CameLevel xs ys =
        (k : ServeCell)
        → BroughtLevel (map (λ x. known_at k (known x)) xs) (map (λ x. known_at k (known x)) ys)

  -- what levelling is told of whatever holds a pass of each shared thing: what its pass knows, and that it is
  -- a pass of them
  abbrev pub meaning_by : {A O : Type 0} → (A → PassView L) → (O → A → Type 0) → PassMeaning A O
  meaning_by known is_of =
      record { cell = ServeCell; entry = entry_at L; view = λ k x. known_at k (known x); is_of = is_of }

module _ {J F X : Type 0} {G : Ghosts F X} where
  -- the same of a pass alone
  abbrev pub serve_meaning : PassMeaning (ServePass J F X G) (Shared J F X G)
  serve_meaning = meaning_by pass_view AreOf

  -- a pass alone as a row
  abbrev pub pass_row : RowMeaning (ServePass J F X G) (Shared J F X G)
  pass_row = record { passes = serve_meaning; beside = PassRest; rest = λ p. rest_of (pass_view p) }
