use Rattle.std.proofs.Common.{◌≡◌, ℕ, ◌+◌, ◌%◌, ◌∷◌, ◌++◌, [], List, map, ap, sym, ◌∙◌, arith}
use Rattle.std.specs.List.{range_with_len}
use Rattle.warp_load.specs.LoadFolder.{rounds}
use Rattle.warp_load.proofs.LoadLists.{map_next}
use Rattle.warp_load.proofs.folder.rounds_of.Goals as goal

pub loop-k-preserved : goal.loop-k-preserved
loop-k-preserved c =
    let byte : ℕ → ℕ = λ k. c.args.from + k % c.args.period in
    c.in_ok-push.ensures.items ∙ ap (λ (t : List ℕ). t ++ byte c.loop-k.k ∷ []) c.loop-k.invariant
    ∙ sym (map_next byte c.loop-k.k)

pub returns : goal.returns
unfolding rounds
returns c =
    let all : c.loop-k.k ≡ c.args.count = omega arith in
    record {
      bytes =
          c.loop-k.invariant
          ∙ ap (λ (n : ℕ). map (λ k. c.args.from + k % c.args.period) (range_with_len 0 n)) all;
    }
