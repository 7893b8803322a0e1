-- Inner: what the laws of a link and of a listener ask for: the bytes that a link gave begin its input,
-- and no two plans have one number.
use Rattle.std.specs.Prelude.{◌≡◌, ℕ, zero, suc, ◌+◌, ◌≤◌, Bool, IsTrue, List, [], ◌∷◌, ◌++◌, Some, length}
use Rattle.std.specs.Prelude.{drop, take, slice_get}
use Rattle.std.proofs.Common.{sym, ap, ◌∙◌, add-zero, add-suc, suc-add, zero-add}
use Rattle.std.proofs.lemmas.List.{take-append-drop, take_all}
use Rattle.std.proofs.lemmas.Option.{none-some, same_Some}
use Rattle.outside.specs.ListenCauses.{HaveNumbersApart, Plan}
use Rattle.poller.specs.declared.script.Script.{Script}
use Rattle.poller.specs.Scripts.{plans_from}

-- the bytes given begin the input, and are all of it once it is over
pub follows : (input : List ℕ) (given : ℕ) (ended : Bool) → (IsTrue ended → length input ≤ given)
    → ((rest : List ℕ) × (input ≡ take given input ++ rest)) × (IsTrue ended → input ≡ take given input)
follows input given ended over =
    ((drop given input, sym (take-append-drop given input)), λ e. sym (take_all given input (over e)))

-- the plan at a place is numbered by it
pub number_at : (scripts : List Script) (m n : ℕ) (p : Plan) → slice_get (plans_from m scripts) n ≡ Some p
    → p.0 ≡ m + n
number_at [] m n p at = absurd (none-some p at)
number_at (s ∷ ss) m zero p at = sym (ap (λ (q : Plan). q.0) (same_Some _ _ at)) ∙ sym (add-zero m)
number_at (s ∷ ss) m (suc n) p at = number_at ss (suc m) n p at ∙ (suc-add m n ∙ sym (add-suc m n))

-- no two plans have one number
pub numbers_apart : (scripts : List Script) → HaveNumbersApart (plans_from 0 scripts)
numbers_apart scripts i j p q at at' same =
    sym (zero-add i)
    ∙ (sym (number_at scripts 0 i p at) ∙ (same ∙ (number_at scripts 0 j q at' ∙ zero-add j)))
