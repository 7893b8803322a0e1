-- To be believed: how the words that name a service are read.
use Rattle.std.specs.Prelude.{ℕ, ◌≤◌, ◌==◌, List, [], ◌∷◌, length, Option, Some, None, IfSome}
use Rattle.std.specs.Prelude.{option_and_then, option_map, nat_lt, if◌then◌else◌}
use Rattle.std.specs.Borrow.{Bor}
use Rattle.std.specs.List.{before_first, after_first, position_or_len}
use Rattle.warp_load.specs.LoadWords.{dispatchers_read, number_read, number_within}
use Rattle.warp_commands.specs.declared.service.Service.{Service}

-- what stands before the first dot, and what after it, where there is one
abbrev pub dot_split : List ℕ → Option (List ℕ × List ℕ)
dot_split word =
    if nat_lt (position_or_len (λ b. b == 46) word) (length word)
    then Some (before_first (λ b. b == 46) word, after_first (λ b. b == 46) word)
    else None

-- two texts
abbrev pub parts_shown : Option (Bor (List ℕ) × Bor (List ℕ)) → Option (List ℕ × List ℕ)
parts_shown parts = option_map (λ x. (x.0.now, x.1.now)) parts

-- a number of 0 to 255
abbrev pub octet_read : List ℕ → Option ℕ
octet_read word = option_and_then (number_within 0 255) (number_read word)

-- four numbers of 0 to 255
abbrev pub octets_read : (first second third fourth : List ℕ) → Option (List ℕ)
octets_read first second third fourth =
    option_and_then (λ a. option_and_then (λ b. option_and_then (λ c. option_map (λ d. a ∷ b ∷ c ∷ d ∷ [])
    (octet_read fourth)) (octet_read third)) (octet_read second)) (octet_read first)

-- an address of IPv4: four numbers of 0 to 255, with a dot between each two
unfoldable pub address_read : List ℕ → Option (List ℕ)
address_read word =
    option_and_then (λ x. option_and_then (λ y. option_and_then (λ z. octets_read x.0 y.0 z.0 z.1)
    (dot_split y.1)) (dot_split x.1)) (dot_split word)

-- what a server is to do
pub record ServiceTold : Type 0 where
  pub address : List ℕ
  pub port : ℕ
  pub dispatchers : ℕ
  pub connections : ℕ
  pub seconds : ℕ

-- the service that five words name: an address, a port of 1 to 65,535, 1 to 64 dispatchers, 1 to
-- 4,294,967,295 connections, and 1 to 86,400 seconds
unfoldable pub service_read : (address port dispatchers connections seconds : List ℕ) → Option ServiceTold
service_read address port dispatchers connections seconds =
    option_and_then (λ a. option_and_then (λ p. option_and_then (λ d. option_and_then (λ c.
    option_map (λ s. record { address = a; port = p; dispatchers = d; connections = c; seconds = s })
    (option_and_then (number_within 1 86400) (number_read seconds)))
    (option_and_then (number_within 1 4294967295) (number_read connections)))
    (dispatchers_read dispatchers))
    (option_and_then (number_within 1 65535) (number_read port)))
    (address_read address)

-- what a service says
abbrev pub service_shown : Service → ServiceTold
service_shown s = record {
  address = s.address;
  port = s.port;
  dispatchers = s.dispatchers;
  connections = s.connections;
  seconds = s.seconds;
}

-- the numbers of a service lie in their ranges
pub record IsService (s : Service) : Type 0 where
  pub dispatchers : (1 ≤ s.dispatchers) × (s.dispatchers ≤ 64)
  pub connections : 1 ≤ s.connections
  pub seconds : 1 ≤ s.seconds

-- so they do where there is one
abbrev pub HasRanges : Option Service → Type 0
HasRanges s = IfSome s IsService
