-- To be believed: what is kept of a row.
use Rattle.std.specs.Prelude.{[]}
use Rattle.ready_queue.specs.declared.queue.ReadyQueue.{ReadyQueue}
use Rattle.event_mgr.specs.declared.manager.EventManager.{EventManager}
use Rattle.event_mgr.specs.Manager.{mgr_view}
use Rattle.dispatcher.specs.Turns.{AreOf}
use Rattle.dispatcher.specs.declared.pass.DispPass.{DispPass}
use Rattle.event_tests.specs.declared.book.Book.{Book}
use Rattle.event_tests.specs.Accounting.{Accounts, finishes_in}

-- the passes are of the manager and of the queue, and the account of the row's book and
-- of its own entries is kept
abbrev pub ServesRow : {T : Type 0} → EventManager T → ReadyQueue → DispPass T → Book → Type 0
ServesRow m q pass book = AreOf m q pass × Accounts (finishes_in book.finished.items) (mgr_view pass.mgr) []
