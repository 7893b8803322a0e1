use Rattle.std.proofs.Common.{List, length, sym, ap, ◌∙◌, ◌≡◌, arith}
use Rattle.std.proofs.Math.Seq.{take-length}
use Rattle.poller.specs.declared.laid_script.Reached.{Reached}
use Rattle.poller.specs.declared.script.ScriptStep.{ScriptStep}
use Rattle.poller.specs.NetLinks.{script_of}
use Rattle.poller.specs.Scripts.{pieces_in}
use Rattle.poller.proofs.LaidScriptLemmas.{reach_read}
use Rattle.poller.proofs.LinkLemmas.{pieces_within}
use Rattle.poller.proofs.mem_link.MemLink.reach.Goals as goal

pub index-requires : goal.index-requires
index-requires c = let count = c.args.self.now.laid.count in omega (arith, count, c.requires)

pub returns-clause-input : goal.returns-clause-input
returns-clause-input c =
    let laid = c.args.self.now.laid in
    let count = laid.count in
    sym (reach_read (λ (r : Reached). r.input) c.args.self.now.script.reached.items
    c.args.delivered c.index.result.now (omega (arith, count, c.requires)) c.index.ensures)
    ∙ laid.inputs c.args.delivered c.requires

pub returns-clause-within : goal.returns-clause-within
returns-clause-within c =
    let laid = c.args.self.now.laid in
    let steps : List ScriptStep = script_of c.args.self.now.seat in
    let count = laid.count in
    let a = laid.inputs c.args.delivered c.requires in
    let b = reach_read (λ (r : Reached). r.input) c.args.self.now.script.reached.items c.args.delivered
    c.index.result.now (omega (arith, count, c.requires)) c.index.ensures in
    let w : length c.args.self.now.script.input.items ≡ length (pieces_in steps) =
    ap length laid.whole ∙ ap (λ (t : List ScriptStep). length (pieces_in t)) (take-length steps) in
    let p = pieces_within steps c.args.delivered in omega (arith, a, b, w, p)

pub returns-clause-allowance : goal.returns-clause-allowance
returns-clause-allowance c =
    let laid = c.args.self.now.laid in
    let count = laid.count in
    sym (reach_read (λ (r : Reached). r.allowance) c.args.self.now.script.reached.items
    c.args.delivered c.index.result.now (omega (arith, count, c.requires)) c.index.ensures)
    ∙ laid.allowances c.args.delivered c.requires
