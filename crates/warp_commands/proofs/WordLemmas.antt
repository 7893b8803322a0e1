-- Inner: what the words of a command give, and a word that is cut at its first dot.
use Rattle.std.proofs.Common.{◌≡◌, ℕ, ◌<◌, ◌≤◌, ◌&&◌, Bool, true, false, List, length, Option, Some, None}
use Rattle.std.proofs.Common.{MatchOption, option_and_then, nat_le, if◌then◌else◌, refl, arith}
use Rattle.std.proofs.lemmas.Bool.Decides.{nat_tests}
use Rattle.std.specs.Prelude.{◌==◌}
use Rattle.std.specs.Borrow.{Bor}
use Rattle.std.specs.List.{before_first, after_first, position_or_len}
use Rattle.warp_load.specs.LoadWords.{dispatchers_read, number_read, number_within}
use Rattle.warp_commands.specs.ServiceWords.{dot_split, parts_shown}

-- two parts stand round the first dot, and there are none where a word has no dot
pub parted_at : (word : List ℕ) (r : Option (Bor (List ℕ) × Bor (List ℕ)))
    → MatchOption r (position_or_len (λ b. b == 46) word ≡ length word)
    (λ x. (position_or_len (λ b. b == 46) word < length word) × (x.0.now ≡ before_first (λ b. b == 46) word)
    × (x.1.now ≡ after_first (λ b. b == 46) word))
    → parts_shown r ≡ dot_split word
parted_at word None is = grind (arith, nat_tests)
parted_at word (Some x) is = grind (arith, nat_tests)

-- a number in a range
within_range : (n d : ℕ) → number_within 1 64 n ≡ Some d → (1 ≤ d) × (d ≤ 64)
within_range n d is = (grind (arith, nat_tests), grind (arith, nat_tests))

of_number : (n : Option ℕ) (d : ℕ) → option_and_then (number_within 1 64) n ≡ Some d → (1 ≤ d) × (d ≤ 64)
of_number None d is = cc
of_number (Some n) d is = within_range n d is

-- dispatchers that were read are 1 to 64
pub dispatchers_within : (word : List ℕ) (d : ℕ) → dispatchers_read word ≡ Some d → (1 ≤ d) × (d ≤ 64)
unfolding dispatchers_read
dispatchers_within word d is = of_number (number_read word) d is
