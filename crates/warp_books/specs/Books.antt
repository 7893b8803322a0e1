-- To be believed: what is known of a finished connection and of a book that takes such,
-- and what a book's numbers are.
use Rattle.std.specs.Prelude.{◌≡◌, ℕ, ◌+◌, ◌-◌, ◌^◌, min, ◌==◌, Bool, if◌then◌else◌, List, [], ◌∷◌, ◌++◌}
use Rattle.std.specs.Prelude.{length, Option, Some, IfSome}
use Rattle.reg_keys.specs.declared.opening.Opening.{Opening}
use Rattle.reg_keys.specs.Tests.{one_if, total}
use Rattle.outside.specs.Causes.{LinkTold}
use Rattle.conn_loop.specs.declared.step.End.TheVariants.{Clean, Cut, ReadFault, WriteFault, FileFault}
use Rattle.conn_loop.specs.declared.step.End.TheVariants.{NoMemory}
use Rattle.warp_books.specs.declared.finish.Turned.TheVariants.{Watches, Crowded, Poller, Shut}
use Rattle.warp_books.specs.declared.finish.Finish.{Finish}
use Rattle.warp_books.specs.declared.finish.Finish.TheVariants.{Ended, TimedOut, TurnedAway}

-- a finished connection
pub record FinishedTold : Type 0 where
  pub opening : Opening
  pub link : LinkTold
  pub moments : List ℕ
  pub bytes : ℕ
  pub waits : ℕ
  pub end : Finish

-- a number that stops at 2^64 - 1
abbrev pub capped : ℕ → ℕ
capped n = min n (2 ^ 64 - 1)

-- the number of a kind of end, which no other kind has
abbrev pub kind_number : Finish → ℕ
kind_number (Ended Clean) = 0
kind_number (Ended Cut) = 1
kind_number (Ended ReadFault) = 2
kind_number (Ended WriteFault) = 3
kind_number (Ended FileFault) = 4
kind_number (Ended NoMemory) = 5
kind_number TimedOut = 6
kind_number (TurnedAway Watches) = 7
kind_number (TurnedAway Crowded) = 8
kind_number (TurnedAway Poller) = 9
kind_number (TurnedAway Shut) = 10

-- the same kind of end
abbrev pub same_kind : Finish → Finish → Bool
same_kind a b = kind_number a == kind_number b

-- how many ended in each way, and how many moments, bytes and waits there were
pub record Sums : Type 0 where
  pub ends : Finish → ℕ
  pub moments : ℕ
  pub bytes : ℕ
  pub waits : ℕ

-- one connection more, where no number goes beyond 2^64 - 1
pub record HasAdded (d : FinishedTold) (s t : Sums) : Type 0 where
  pub ends : (k : Finish) → t.ends k ≡ (if same_kind k d.end then capped (s.ends k + 1) else s.ends k)
  pub moments : t.moments ≡ capped (s.moments + length d.moments)
  pub bytes : t.bytes ≡ capped (s.bytes + d.bytes)
  pub waits : t.waits ≡ capped (s.waits + d.waits)

-- what is known of a book: its sums, and, where it keeps what it was handed, the list of that
pub record BookTold : Type 0 where
  pub sums : Sums
  pub kept : Option (List FinishedTold)

-- A book took this connection. A list that it still tells has it at the end of what it told before
pub record BookHasTaken (d : FinishedTold) (b c : BookTold) : Type 0 where
  pub sums : HasAdded d b.sums c.sums
  pub kept : IfSome c.kept
      (λ now. (before : List FinishedTold) × (b.kept ≡ Some before) × (now ≡ before ++ d ∷ []))

-- The book was handed these connections, in this order. Each of its numbers is the sum over them, up to
-- 2^64 - 1, and a list that it tells is the list of them
pub record IsBookOf (ds : List FinishedTold) (b : BookTold) : Type 0 where
  pub ends : (k : Finish) → b.sums.ends k ≡ capped (total (λ d. one_if (same_kind k d.end)) ds)
  pub moments : b.sums.moments ≡ capped (total (λ d. length d.moments) ds)
  pub bytes : b.sums.bytes ≡ capped (total (λ d. d.bytes) ds)
  pub waits : b.sums.waits ≡ capped (total (λ d. d.waits) ds)
  pub kept : IfSome b.kept (λ now. now ≡ ds)
