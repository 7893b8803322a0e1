-- To be believed: how the words that name a load are read.
use Rattle.std.specs.Prelude.{ℕ, Bool, ◌&&◌, List, length, Option, Some, None, nat_le, option_and_then}
use Rattle.std.specs.Prelude.{option_map, if◌then◌else◌}
use Rattle.std.specs.List.{list_all}
use Rattle.std.specs.Char.{is_ascii_digit}
use Rattle.std.specs.Str.Parse.{digits_value}
use Rattle.warp_load.specs.declared.load.Load.{Load}
use Rattle.warp_load.specs.LoadRanges.{is_load}

-- 1 to 10 decimal digits, the first of which may be zeros, and no sign
abbrev pub is_number : List ℕ → Bool
is_number word = nat_le 1 (length word) && nat_le (length word) 10 && list_all is_ascii_digit word

-- the number that a word is
unfoldable pub number_read : List ℕ → Option ℕ
number_read word = if is_number word then Some (digits_value 10 word) else None

-- a number that is in a range
abbrev pub number_within : ℕ → ℕ → ℕ → Option ℕ
number_within least most n = if nat_le least n && nat_le n most then Some n else None

-- how many dispatchers a word asks for, 1 to 64
unfoldable pub dispatchers_read : List ℕ → Option ℕ
dispatchers_read word = option_and_then (number_within 1 64) (number_read word)

-- three numbers that are a load
abbrev pub as_load : ℕ → ℕ → ℕ → Option (ℕ × ℕ × ℕ)
as_load seed connections requests =
    if is_load seed connections requests then Some (seed, connections, requests) else None

-- the load that three words name: its seed, its connections and the requests of each
unfoldable pub load_read : List ℕ → List ℕ → List ℕ → Option (ℕ × ℕ × ℕ)
load_read seed connections requests =
    option_and_then (λ s. option_and_then (λ c. option_and_then (λ r. as_load s c r)
    (number_read requests)) (number_read connections)) (number_read seed)

-- the numbers of a load
abbrev pub load_shown : Option Load → Option (ℕ × ℕ × ℕ)
load_shown load = option_map (λ l. (l.seed, l.connections, l.requests)) load
