-- To be believed: what the ends that a book counts rest on, in the calls of the dispatcher that has the book.
use Rattle.std.specs.Prelude.{ℕ, ◌+◌, ◌≤◌, List, [], ◌∷◌, false}
use Rattle.reg_keys.specs.declared.entry.LoadKind.{LoadKind}
use Rattle.reg_keys.specs.declared.entry.LoadKind.TheVariants.{Job, Flag}
use Rattle.reg_keys.specs.declared.entry.Entry.{Entry}
use Rattle.reg_keys.specs.declared.entry.Entry.TheVariants.{Register, Close}
use Rattle.reg_keys.specs.declared.entry.RegisterOutcome.TheVariants as Registers
use Rattle.reg_keys.specs.declared.entry.CloseOutcome.TheVariants as Closes
use Rattle.reg_keys.specs.Tests.{one_if, total}
use Rattle.turn_cell.specs.Weights.{weigh}
use Rattle.timeout_mgr.specs.declared.view.TimeCall.{TimeCall}
use Rattle.timeout_mgr.specs.declared.view.TimeCall.TheVariants.{Add, Tickle}
use Rattle.timeout_mgr.specs.declared.view.AddOutcome.TheVariants as Adds
use Rattle.timeout_mgr.specs.Passes.{calls_of}
use Rattle.event_mgr.specs.Manager.{own_weight}
use Rattle.warp_books.specs.declared.finish.Finish.TheVariants.{TimedOut, TurnedAway}
use Rattle.warp_books.specs.declared.finish.Turned.TheVariants.{Watches, Crowded, Shut}
use Rattle.warp_books.specs.Books.{BookTold}
use Rattle.warp_passes.specs.Passes.{PassView}
use Rattle.whole_runs.specs.Registrations.{is_connections}

-- one for an add that found no watch free
abbrev pub finds_no_watch : TimeCall → ℕ
finds_no_watch (Add o Adds.Full) = 1
finds_no_watch _ = 0

-- one for a tickle that found its watch gone
abbrev pub finds_watch_gone : TimeCall → ℕ
finds_watch_gone (Tickle w false) = 1
finds_watch_gone _ = 0

-- one for a registration of a connection that was refused, since too many waited under its opening
abbrev pub finds_crowd : Entry → ℕ
finds_crowd (Register o d m (Job tag) Registers.Crowded) = one_if (is_connections tag)
finds_crowd _ = 0

-- one for a registration of a connection that was refused, since its opening was closed
abbrev pub finds_shut : Entry → ℕ
finds_shut (Register o d m (Job tag) Registers.Shut) = one_if (is_connections tag)
finds_shut _ = 0

-- one for a connection's job
abbrev pub is_connections_job : LoadKind → ℕ
is_connections_job (Job tag) = one_if (is_connections tag)
is_connections_job Flag = 0

-- how many connections waited under an opening as it was closed
abbrev pub lets_go : Entry → ℕ
lets_go (Close o (Closes.Shut list)) = total (λ x. is_connections_job x.kind) list
lets_go _ = 0

-- whatever holds passes of the shared things, by the function from each to what its pass knows
module _ {A L : Type 0} (known : A → PassView L) where
  -- The connections that a book counts as turned away or timed out are no more than what the pass's own calls
  -- found: adds that found no watch free; registrations that were refused, since too many waited or the
  -- opening was closed; and tickles that found the watch gone, with what closes let go, as a sweep's do
  pub record EndsRest (x : A) (b : BookTold) : Type 0 where
    pub watches : b.sums.ends (TurnedAway Watches) ≤ weigh finds_no_watch (calls_of (known x).times)
    pub crowded : b.sums.ends (TurnedAway Crowded) ≤ own_weight finds_crowd (known x).mgr
    pub shut : b.sums.ends (TurnedAway Shut) ≤ own_weight finds_shut (known x).mgr
    pub timed_out : b.sums.ends TimedOut
        ≤ weigh finds_watch_gone (calls_of (known x).times) + own_weight lets_go (known x).mgr

  -- so at each place
  abbrev pub AllEndsRest : List A → List BookTold → Type 0
  AllEndsRest [] [] = Unit {0}
  AllEndsRest (x ∷ xs) (b ∷ books) = EndsRest x b × AllEndsRest xs books
  AllEndsRest _ _ = ⊥
