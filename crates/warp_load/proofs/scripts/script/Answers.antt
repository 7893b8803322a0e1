use Rattle.std.proofs.Common.{◌≡◌, ℕ, ◌+◌, ◌++◌, List, length, ap, sym, subst, ◌∙◌, arith}
use Rattle.warp_load.specs.Cutting.{IsCut}
use Rattle.warp_load.specs.Requests.{load_input, request_bytes, request_kind}
use Rattle.warp_load.proofs.LoadLists.{input_none, input_next, length-request_bytes}
use Rattle.warp_load.proofs.RangeLemmas.{ranges}
use Rattle.warp_load.proofs.scripts.script.Goals as goal

pub loop-request-init : goal.loop-request-init
loop-request-init c = record {
  cut =
      subst (λ (t : List ℕ). IsCut c.new-cutter.result t)
      (sym (input_none c.args.load.now.seed c.args.connection)) c.new-cutter.ensures.cut;
  small = c.new-cutter.ensures.small;
  seed = c.new-cutter.ensures.numbers.0;
  connection = c.new-cutter.ensures.numbers.1;
  few = omega (arith, c.new-cutter.ensures.none);
}

pub add-requires-clause-few : goal.add-requires-clause-few
add-requires-clause-few c =
    let load = c.args.load.now in
    omega (
      arith,
      (ranges load.seed load.connections load.requests load.in_range).requests_fit,
      c.loop-request.invariant.few,
      ap length c.bytes.ensures.bytes,
      length-request_bytes c.of.result,
    )

pub loop-request-preserved : goal.loop-request-preserved
loop-request-preserved c =
    let load = c.args.load.now in
    let bytes : c.bytes.result.now
    ≡ request_bytes (request_kind load.seed c.args.connection c.loop-request.request) =
    c.bytes.ensures.bytes ∙ ap request_bytes c.of.ensures.kind in
    let input : load_input load.seed c.loop-request.request c.args.connection ++ c.bytes.result.now
    ≡ load_input load.seed (c.loop-request.request + 1) c.args.connection =
    ap (λ (t : List ℕ). load_input load.seed c.loop-request.request c.args.connection ++ t) bytes
    ∙ sym (input_next load.seed c.loop-request.request c.args.connection) in
    record {
      cut =
          subst (λ (t : List ℕ). IsCut c.add.new.self t) input
          (c.in_ok-add.ensures.cut (load_input load.seed c.loop-request.request c.args.connection)
          c.loop-request.invariant.cut);
      small = record {
        seed = omega (arith, c.add.ensures.same.seed, c.loop-request.invariant.small.seed);
        connection = omega (arith, c.add.ensures.same.connection, c.loop-request.invariant.small.connection);
      };
      seed = c.add.ensures.same.seed ∙ c.loop-request.invariant.seed;
      connection = c.add.ensures.same.connection ∙ c.loop-request.invariant.connection;
      few = omega (
        arith,
        c.loop-request.invariant.few,
        c.in_ok-add.ensures.few,
        ap length c.bytes.ensures.bytes,
        length-request_bytes c.of.result,
      );
    }
