-- To be believed: of which size a load is.
use Rattle.std.specs.Prelude.{ℕ, ◌*◌, ◌≤◌, Bool, ◌&&◌, nat_le}

-- the seed has 32 bits, 1 to 4,000 connections have 1 to 1,000 requests each, and there are at most 20,000
-- requests in all
abbrev pub is_load : (seed connections requests : ℕ) → Bool
is_load seed connections requests =
    nat_le seed 4294967295
    && (nat_le 1 connections && nat_le connections 4000)
    && (nat_le 1 requests && nat_le requests 1000)
    && nat_le (connections * requests) 20000

-- the same, number by number
pub record HasRanges (seed connections requests : ℕ) : Type 0 where
  pub seed_fits : seed ≤ 4294967295
  pub some_connections : 1 ≤ connections
  pub connections_fit : connections ≤ 4000
  pub some_requests : 1 ≤ requests
  pub requests_fit : requests ≤ 1000
  pub total_fits : connections * requests ≤ 20000
