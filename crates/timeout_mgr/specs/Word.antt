-- Inner: how a slot's word is packed into one number, which the rule over the table and
-- the private steps speak of.
use Rattle.std.specs.Prelude.{ℕ, ◌+◌, ◌*◌, ◌/◌, ◌%◌, zero, suc}
use Rattle.timeout_mgr.specs.declared.word.SlotState.{SlotState}
use Rattle.timeout_mgr.specs.declared.word.SlotState.TheVariants.{Free, Making, Active, Inactive, Leaving}
use Rattle.timeout_mgr.specs.declared.word.Word.{Word}

-- the number of a state
abbrev pub code_of : SlotState → ℕ
code_of Free = 0
code_of Making = 1
code_of Active = 2
code_of Inactive = 3
code_of Leaving = 4

-- the number of a word
abbrev pub bits_of : Word → ℕ
bits_of w = 8 * w.uses + code_of w.state

-- the state that has this number, and `Leaving` beyond the last
abbrev pub state_at : ℕ → SlotState
state_at zero = Free
state_at (suc zero) = Making
state_at (suc (suc zero)) = Active
state_at (suc (suc (suc zero))) = Inactive
state_at (suc (suc (suc (suc n)))) = Leaving

-- the word that has this number
abbrev pub word_of : ℕ → Word
word_of n = record { uses = n / 8; state = state_at (n % 8) }
