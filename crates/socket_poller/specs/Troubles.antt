-- To be believed: what the numbers of errors of an accept say, those of Linux.
use Rattle.std.specs.Prelude.{ℕ, ◌==◌, List, [], ◌∷◌, if◌then◌else◌}
use Rattle.std.specs.List.{list_any}
use Rattle.socket_poller.specs.declared.trouble.Trouble.{Trouble}
use Rattle.socket_poller.specs.declared.trouble.Trouble.TheVariants.{Empty, Gone, Full, Broken}

-- no memory, or no descriptor
abbrev pub full_numbers : List ℕ
full_numbers = 12 ∷ 23 ∷ 24 ∷ 105 ∷ []

-- what befell one connection alone
abbrev pub gone_numbers : List ℕ
gone_numbers = 1 ∷ 64 ∷ 71 ∷ 92 ∷ 95 ∷ 100 ∷ 101 ∷ 103 ∷ 104 ∷ 110 ∷ 112 ∷ 113 ∷ []

-- 11: none waits
abbrev pub trouble_of_number : ℕ → Trouble
trouble_of_number n =
    if n == 11 then Empty
    else if list_any (λ m. m == n) full_numbers then Full
    else if list_any (λ m. m == n) gone_numbers then Gone
    else Broken
