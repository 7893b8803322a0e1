use Rattle.std.proofs.Common.{rules, ◌≡◌, ◌+◌, length, set, refl, sym, ap, ◌∙◌, subst, arith}
use Rattle.std.specs.Prelude.{slice_get, Some}
use Rattle.std.proofs.lemmas.Option.{slice_get_read}
use Rattle.event_mgr.proofs.RowLemmas.{Through, SplitsTo, AreOfFirst, row_set, first_next, first_whole}
use Rattle.event_mgr.proofs.RowLemmas.{through_next, all_split}
use Rattle.event_mgr.proofs.cells.Cells.split.Goals as goal

pub loop-stripe-preserved : goal.loop-stripe-preserved
loop-stripe-preserved g c =
    let v = c.loop-stripe.invariant in
    let i = c.loop-stripe.stripe in
    let lt = c.loop-stripe-test.true in
    let own = v.own in
    let end = v.end in
    let n = own.cells in
    let m = own.passes in
    let cell : slice_get c.args.self.now.cells.items i ≡ Some c.index.result.now =
    slice_get_read _ _ i c.index.result.now refl (omega arith) c.index.ensures in
    let mine : slice_get c.loop-stripe.pass.passes.items i ≡ Some c.index_mut-mine.result.now =
    slice_get_read _ _ i c.index_mut-mine.result.now refl (omega arith) c.index_mut-mine.ensures.value in
    let name = own.names i c.index_mut-mine.result.now mine in
    let left = c.in-Ok.ensures.split.left in
    let right = c.in-Ok.ensures.split.right in
    let items = c.push_reserved.ensures.items in
    record {
      end = end;
      room = search rules;
      own =
          row_set c.args.self.now.cells.items c.loop-stripe.pass.passes.items i c.index.result.now
          c.split.new.pass cell (c.split.ensures.own ∙ ap (λ t. t.table.shared.table_id) c.deref.ensures)
          (ap (λ w. w.name) left ∙ name) own;
      first =
          subst (AreOfFirst c.args.self.now.cells.items) (sym items)
          (first_next c.args.self.now.cells.items c.loop-stripe.passes.items i
          c.index.result.now c.in-Ok.other v.through.count cell (c.in-Ok.ensures.other
          ∙ ap (λ t. t.table.shared.table_id) c.deref.ensures) (ap (λ w. w.name) right ∙ name) v.first);
      through =
          subst (λ os. Through SplitsTo c.args.pass.now.passes.items
          (set c.loop-stripe.pass.passes.items i c.split.new.pass) os (i + 1))
          (sym items)
          (through_next SplitsTo c.args.pass.now.passes.items c.loop-stripe.pass.passes.items
          c.loop-stripe.passes.items i c.index_mut-mine.result.now c.split.new.pass c.in-Ok.other
          mine c.in-Ok.ensures.split v.through);
    }

pub returns-clause-other : goal.returns-clause-other
returns-clause-other g c =
    let v = c.loop-stripe.invariant in
    let n = v.own.cells in
    let end = v.end in
    let count = v.through.count in
    let test = c.loop-stripe-test.false in
    let most = c.loop-stripe.auto.stripe-end in
    first_whole c.args.self.now.cells.items c.loop-stripe.passes.items n (omega arith) v.first

pub returns-clause-split : goal.returns-clause-split
returns-clause-split g c =
    let v = c.loop-stripe.invariant in
    let n = v.own.cells in
    let m = c.requires.passes in
    let end = v.end in
    let test = c.loop-stripe-test.false in
    let most = c.loop-stripe.auto.stripe-end in
    let all : c.loop-stripe.stripe ≡ length c.args.pass.now.passes.items = omega arith in
    all_split c.args.pass.now.passes.items c.loop-stripe.pass.passes.items c.loop-stripe.passes.items (subst
    (Through SplitsTo c.args.pass.now.passes.items c.loop-stripe.pass.passes.items c.loop-stripe.passes.items)
    all v.through)
