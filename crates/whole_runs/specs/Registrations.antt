-- To be believed: how the registrations that were accepted of connections are counted.
use Rattle.std.specs.Prelude.{◌≡◌, ◌⊎◌, ℕ, ◌+◌, ◌&&◌, List, [], ◌∷◌, Bool, true, false}
use Rattle.reg_keys.specs.declared.opening.Opening.{Opening}
use Rattle.reg_keys.specs.declared.entry.LoadKind.TheVariants.{Job}
use Rattle.reg_keys.specs.declared.entry.Entry.{Entry}
use Rattle.reg_keys.specs.declared.entry.Entry.TheVariants.{Open, Register}
use Rattle.reg_keys.specs.declared.entry.OpenOutcome.TheVariants.{Taken}
use Rattle.reg_keys.specs.declared.entry.RegisterOutcome.TheVariants.{Waits}
use Rattle.reg_keys.specs.Tests.{one_if}
use Rattle.conn_loop.specs.declared.step.End.TheVariants.{Clean, Cut, ReadFault, WriteFault, FileFault}
use Rattle.conn_loop.specs.declared.step.End.TheVariants.{NoMemory}
use Rattle.warp_books.specs.declared.finish.Finish.{Finish}
use Rattle.warp_books.specs.declared.finish.Finish.TheVariants.{Ended, TimedOut, TurnedAway}

-- the tag is a connection's: its first list has two numbers, and that of the listener's has four
abbrev pub is_connections : List (List ℕ) → Bool
is_connections ((number ∷ fd ∷ []) ∷ more) = true
is_connections _ = false

-- one for a registration of a connection's job that was accepted, under an opening of these
abbrev pub registers : (Opening → Bool) → Entry → ℕ
registers these (Register o d m (Job tag) (Waits key e)) = one_if (is_connections tag && these o)
registers these _ = 0

-- one for a descriptor that was found taken
abbrev pub taken : Entry → ℕ
taken (Open fd (Taken o)) = 1
taken _ = 0

-- an end with which a connection may have waited as often as it was registered: one that
-- isn't its own, or want of memory
abbrev pub MayLackOne : Finish → Type 0
MayLackOne (Ended Clean) = ⊥
MayLackOne (Ended Cut) = ⊥
MayLackOne (Ended ReadFault) = ⊥
MayLackOne (Ended WriteFault) = ⊥
MayLackOne (Ended FileFault) = ⊥
MayLackOne (Ended NoMemory) = Unit {0}
MayLackOne TimedOut = Unit {0}
MayLackOne (TurnedAway cause) = Unit {0}

-- a connection that ended so and waited so often was registered so often: once more than it
-- waited, or, with some ends, as often
abbrev pub CountsFor : Finish → ℕ → ℕ → Type 0
CountsFor end waits many = (many ≡ waits + 1) ⊎ (MayLackOne end × (many ≡ waits))
