use Rattle.std.proofs.Common.{◌≡◌, ℕ, ◌+◌, ap, ◌∙◌, arith}
use Rattle.std.specs.Prelude.{sum_by}
use Rattle.warp_load.specs.LoadScripts.{answer_length, closing_length, load_room}
use Rattle.warp_load.specs.Requests.{request_kinds}
use Rattle.warp_load.proofs.LoadLists.{answer_length-le, lengths_next}
use Rattle.warp_load.proofs.RangeLemmas.{ranges}
use Rattle.warp_load.proofs.sums.room.Goals as goal

pub overflow_add-bytes : goal.overflow_add-bytes
overflow_add-bytes c =
    let load = c.args.load.now in
    let few = (ranges load.seed load.connections load.requests load.in_range).requests_fit in
    omega (
      arith,
      few,
      c.loop-request.invariant.most,
      c.answer_length-bytes.ensures.length,
      answer_length-le c.of.result,
    )

pub loop-request-preserved : goal.loop-request-preserved
loop-request-preserved c =
    let kind = c.of.result in
    let length : c.answer_length-bytes.result ≡ answer_length kind = c.answer_length-bytes.ensures.length in
    let same : answer_length kind ≡ answer_length _ = ap answer_length c.of.ensures.kind in
    record {
      counted = omega (
        arith,
        c.loop-request.invariant.counted,
        length,
        same,
        lengths_next c.args.load.now.seed c.loop-request.request c.args.connection,
      );
      most = omega (arith, c.loop-request.invariant.most, length, answer_length-le kind);
    }

pub returns-clause-room : goal.returns-clause-room
unfolding load_room
returns-clause-room c =
    let load = c.args.load.now in
    let all : c.loop-request.request ≡ load.requests = omega arith in
    c.loop-request.invariant.counted
    ∙ ap (λ (n : ℕ).
    sum_by answer_length (request_kinds load.seed n c.args.connection) + closing_length load.requests) all
