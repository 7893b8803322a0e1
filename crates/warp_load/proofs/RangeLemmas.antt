-- What a load's ranges say of its numbers.
use Rattle.std.proofs.Common.{◌≡◌, ℕ, ◌≤◌, true, arith}
use Rattle.std.specs.Prelude.{IsTrue, nat_le}
use Rattle.std.proofs.lemmas.Bool.{and_parts}
use Rattle.std.proofs.lemmas.Bool.Decides.{nat_tests}
use Rattle.warp_load.specs.LoadRanges.{HasRanges, is_load}

-- what a test of an order says
pub at_most : (m n : ℕ) → nat_le m n ≡ true → m ≤ n
at_most m n test = grind (arith, nat_tests)

pub ranges : (seed connections requests : ℕ) → IsTrue (is_load seed connections requests)
    → HasRanges seed connections requests
ranges seed connections requests load =
    let three = and_parts _ _ load in
    let two = and_parts _ _ three.0 in
    let one = and_parts _ _ two.0 in
    let of_connections = and_parts _ _ one.1 in
    let of_requests = and_parts _ _ two.1 in
    record {
      seed_fits = at_most _ _ one.0;
      some_connections = at_most _ _ of_connections.0;
      connections_fit = at_most _ _ of_connections.1;
      some_requests = at_most _ _ of_requests.0;
      requests_fit = at_most _ _ of_requests.1;
      total_fits = at_most _ _ three.1;
    }
