use Rattle.std.proofs.Common.{◌≡◌, ℕ, ◌+◌, ◌∷◌, ◌++◌, [], List, length, length-append, map, vec_len, Vec}
use Rattle.std.proofs.Common.{Global, ap, ◌∙◌, arith}
use Rattle.poller.specs.declared.script.ScriptStep.{ScriptStep}
use Rattle.warp_load.specs.declared.cutter.Cutter.{Cutter}
use Rattle.warp_load.specs.Cutting.{IsSameCutter, next_length}
use Rattle.warp_load.specs.LoadScripts.{piece_allowance, step_shown}
use Rattle.warp_load.proofs.CutLemmas.{piece_length-pos}
use Rattle.warp_load.proofs.CutterLemmas.{cut_step}
use Rattle.warp_load.proofs.cutter.Cutter.fill.Goals as goal

pub returns-in_ok-close-clause-cut : goal.returns-in_ok-close-clause-cut
returns-in_ok-close-clause-cut c front before =
    let old : Cutter = c.args.self.now in
    let new : Cutter = c.close.new.self in
    let roomy : Cutter = c.make_room.new.self in
    let same : IsSameCutter old new = record {
      seed = c.close.ensures.same.seed ∙ c.make_room.ensures.same.seed;
      connection = c.close.ensures.same.connection ∙ c.make_room.ensures.same.connection;
    } in
    let piece : c.extend_from_slice.new.self.items ≡ old.piece.items ++ c.args.bytes.now =
    c.in_ok-extend_from_slice.ensures.items
    ∙ ap (λ (t : List ℕ). t ++ c.args.bytes.now) c.make_room.ensures.piece.0 in
    let steps = c.make_room.ensures.steps in
    let seed = c.make_room.ensures.same.seed in
    let connection = c.make_room.ensures.same.connection in
    let count : vec_len roomy.steps ≡ vec_len old.steps =
    ap (λ (v : Vec ScriptStep Global). vec_len v) steps in
    let shown : map step_shown roomy.steps.items ≡ map step_shown old.steps.items =
    ap (λ (v : Vec ScriptStep Global). map step_shown v.items) steps in
    let next : next_length roomy ≡ next_length old = cc in
    let long : length (old.piece.items ++ c.args.bytes.now) ≡ next_length old =
    omega (
      arith,
      next,
      length-append old.piece.items c.args.bytes.now,
      old.piece.ok.0,
      c.if-len-next_length.true,
      c.len.ensures,
      c.in_ok-extend_from_slice.ensures.len,
      c.make_room.ensures.piece.1,
      c.next_length.ensures.length,
    ) in
    let more : map step_shown new.steps.items ≡ map step_shown old.steps.items
    ++ (old.piece.items ++ c.args.bytes.now, piece_allowance old.seed old.connection (vec_len old.steps))
    ∷ [] =
    cc c.in_ok-close.ensures.step in
    cut_step old new front c.args.bytes.now same long more c.in_ok-close.ensures.empty.0
    c.in_ok-close.ensures.empty.1 (c.in_ok-close.ensures.one ∙ ap (λ (n : ℕ). n + 1) count) before

pub returns-in_ok-close-clause-short : goal.returns-in_ok-close-clause-short
returns-in_ok-close-clause-short c =
    let d = c.close.new.self in
    omega (arith, c.in_ok-close.ensures.empty, piece_length-pos d.seed d.connection d.steps.len)
