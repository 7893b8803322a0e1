use Rattle.std.proofs.Common.{◌≡◌, ℕ, ◌*◌, length, ap, sym, ◌∙◌, arith}
use Rattle.std.specs.Prelude.{sum_by}
use Rattle.std.specs.List.{range_with_len}
use Rattle.conn_loop.specs.Answers.{finals_of}
use Rattle.warp_load.specs.LoadScripts.{load_room}
use Rattle.warp_load.specs.LoadTotals.{load_answers}
use Rattle.warp_load.specs.Requests.{load_input}
use Rattle.warp_load.proofs.LoadLists.{sum_next, sum_same}
use Rattle.warp_load.proofs.RangeLemmas.{ranges}
use Rattle.warp_load.proofs.sums.expected.Goals as goal

pub loop-connection-preserved : goal.loop-connection-preserved
loop-connection-preserved c =
    let load = c.args.load in
    let few = (ranges load.seed load.connections load.requests load.in_range).requests_fit in
    record {
      counted = omega (
        arith,
        c.loop-connection.invariant.counted,
        c.room-bytes.ensures.room,
        sum_next (λ i. load_room load.seed load.requests i) c.loop-connection.connection,
      );
      most = omega (arith, few, c.loop-connection.invariant.most, c.room-bytes.ensures.most);
    }

pub returns-clause-total : goal.returns-clause-total
returns-clause-total c =
    let load = c.args.load in
    let few = (ranges load.seed load.connections load.requests load.in_range).requests_fit in
    let all : c.loop-connection.connection ≡ load.connections = omega arith in
    let numbers = range_with_len 0 load.connections in
    let finals : load.connections * load.requests
    ≡ sum_by (λ i. finals_of (load_input load.seed load.requests i)) numbers =
    sym (sum_same load.requests 0 load.connections) ∙ sym
    (λ k. sum_by (λ i. c.each_request_is_answered.ensures.finals load.seed load.requests i few k) numbers) in
    let bytes : c.loop-connection.bytes
    ≡ sum_by (λ i. length (load_answers load.seed load.requests i)) numbers =
    c.loop-connection.invariant.counted
    ∙ ap (λ (n : ℕ). sum_by (λ i. load_room load.seed load.requests i) (range_with_len 0 n)) all
    ∙ sym (λ k. sum_by (λ i. c.answers_fill_the_room.ensures load.seed load.requests i few k) numbers) in
    λ k. (finals k, bytes k)

pub returns-clause-small : goal.returns-clause-small
returns-clause-small c =
    let load = c.args.load in
    let in_range = ranges load.seed load.connections load.requests load.in_range in
    let all : c.loop-connection.connection ≡ load.connections = omega arith in
    (in_range.total_fits, omega (arith, all, in_range.connections_fit, c.loop-connection.invariant.most))
