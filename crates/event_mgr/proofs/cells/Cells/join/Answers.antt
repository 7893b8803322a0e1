use Rattle.std.proofs.Common.{rules, ◌≡◌, ◌+◌, [], ◌∷◌, length, refl, sym, ap, ◌∙◌, arith}
use Rattle.std.specs.Prelude.{slice_get, Some}
use Rattle.std.proofs.lemmas.Option.{slice_get_read}
use Rattle.std.proofs.lemmas.List.{length-append}
use Rattle.event_mgr.proofs.Places.{get_behind}
use Rattle.event_mgr.proofs.RowLemmas.{JoinsTo, row_set, back_start, back_next_at, all_joined}
use Rattle.event_mgr.proofs.cells.Cells.join.Goals as goal

pub loop-last-init : goal.loop-last-init
loop-last-init g c = record {
  own = c.requires.own;
  back = back_start JoinsTo _ _ (c.requires.own.passes ∙ sym c.requires.other.passes);
}

pub join-requires-clause-own : goal.join-requires-clause-own
join-requires-clause-own g c =
    let v = c.loop-last.invariant in
    let i = c.len-stripe.result in
    let own = v.own in
    let few = v.back.few in
    let n = own.cells in
    let m = own.passes in
    let o = c.requires.other.passes in
    let len : i ≡ length c.pop.new.self.items = search rules in
    let was : length c.loop-last.others.items ≡ length c.pop.new.self.items + 1 =
    ap length c.in-Some.ensures.items ∙ length-append c.pop.new.self.items (c.in-Some.last ∷ []) in
    let cell : slice_get c.args.self.now.cells.items i ≡ Some c.index.result.now =
    slice_get_read _ _ i c.index.result.now refl (omega arith) c.index.ensures in
    let mine : slice_get c.loop-last.pass.passes.items i ≡ Some c.index_mut-mine.result.now =
    slice_get_read _ _ i c.index_mut-mine.result.now refl (omega arith) c.index_mut-mine.ensures.value in
    own.each i c.index.result.now c.index_mut-mine.result.now cell mine
    ∙ ap (λ t. t.table.shared.table_id) (sym c.deref.ensures)

pub join-requires-clause-other : goal.join-requires-clause-other
join-requires-clause-other g c =
    let v = c.loop-last.invariant in
    let i = c.len-stripe.result in
    let own = v.own in
    let few = v.back.few in
    let n = own.cells in
    let o = c.requires.other.passes in
    let len : i ≡ length c.pop.new.self.items = search rules in
    let was : length c.loop-last.others.items ≡ length c.pop.new.self.items + 1 =
    ap length c.in-Some.ensures.items ∙ length-append c.pop.new.self.items (c.in-Some.last ∷ []) in
    let cell : slice_get c.args.self.now.cells.items i ≡ Some c.index.result.now =
    slice_get_read _ _ i c.index.result.now refl (omega arith) c.index.ensures in
    let here : slice_get c.loop-last.others.items i
    ≡ Some c.in-Some.last = ap (slice_get c.loop-last.others.items) len
    ∙ (ap (λ l. slice_get l (length c.pop.new.self.items)) c.in-Some.ensures.items
    ∙ get_behind c.pop.new.self.items [] c.in-Some.last) in
    c.requires.other.each i c.index.result.now c.in-Some.last cell (v.back.same i c.in-Some.last here)
    ∙ ap (λ t. t.table.shared.table_id) (sym c.deref.ensures)

pub loop-last-preserved : goal.loop-last-preserved
loop-last-preserved g c =
    let v = c.loop-last.invariant in
    let i = c.len-stripe.result in
    let own = v.own in
    let few = v.back.few in
    let n = own.cells in
    let m = own.passes in
    let o = c.requires.other.passes in
    let len : i ≡ length c.pop.new.self.items = search rules in
    let was : length c.loop-last.others.items ≡ length c.pop.new.self.items + 1 =
    ap length c.in-Some.ensures.items ∙ length-append c.pop.new.self.items (c.in-Some.last ∷ []) in
    let cell : slice_get c.args.self.now.cells.items i ≡ Some c.index.result.now =
    slice_get_read _ _ i c.index.result.now refl (omega arith) c.index.ensures in
    let mine : slice_get c.loop-last.pass.passes.items i ≡ Some c.index_mut-mine.result.now =
    slice_get_read _ _ i c.index_mut-mine.result.now refl (omega arith) c.index_mut-mine.ensures.value in
    record {
      own =
          row_set c.args.self.now.cells.items c.loop-last.pass.passes.items i c.index.result.now
          c.join.new.pass cell (c.join.ensures.own ∙ ap (λ t. t.table.shared.table_id) c.deref.ensures)
          (ap (λ w. w.name) c.join.ensures.joined.both ∙ own.names i c.index_mut-mine.result.now mine) own;
      back =
          back_next_at JoinsTo c.args.pass.now.passes.items c.args.other.passes.items
          c.loop-last.pass.passes.items c.loop-last.others.items c.pop.new.self.items i
          c.index_mut-mine.result.now c.join.new.pass c.in-Some.last len c.in-Some.ensures.items
          mine c.join.ensures.joined v.back;
    }

pub returns-clause-joined : goal.returns-clause-joined
returns-clause-joined g c = let none : length c.loop-last.others.items ≡ 0 = search rules in
    all_joined c.args.pass.now.passes.items c.args.other.passes.items c.loop-last.pass.passes.items
    c.loop-last.others.items none c.loop-last.invariant.back
