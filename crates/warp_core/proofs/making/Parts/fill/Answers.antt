use Rattle.std.proofs.Common.{◌≡◌, length, refl, arith}
use Rattle.std.specs.Vec.Iter.{into_iter_items}
use Rattle.warp_core.specs.Rows.{passes_of}
use Rattle.warp_core.proofs.Filling.{all_moved, all_told, length_push, moved_on, told_on}
use Rattle.warp_core.proofs.making.Parts.fill.Goals as goal

pub loop-row-preserved-in-Some : goal.loop-row-preserved-in-Some
loop-row-preserved-in-Some g c =
    let v = c.loop-row.invariant in
    let row = c.in-Some.row in
    let next = c.in-Some.ensures.steps in
    let put = c.push_reserved.ensures in
    let also = c.push_reserved-in-loop-row.ensures in
    let its = into_iter_items c.loop-row.row-iterator in
    let left = into_iter_items c.next.new.self in
    let one = length_push c.loop-row.passes.items c.push_reserved.new.self.items (passes_of row) put.items in
    let two = length_push c.loop-row.kits.items c.push_reserved-in-loop-row.new.self.items _ also.items in
    let many = v.many in
    let both = v.both in
    let room = v.room in
    let space = v.space in
    let step = next.1 in
    let cap = put.capacity in
    let caps = also.capacity in record {
      many = omega arith;
      both = omega arith;
      room = omega arith;
      space = omega arith;
      passes =
          moved_on passes_of c.loop-row.passes.items c.push_reserved.new.self.items row its
          left _ next.0 put.items v.passes;
      books =
          told_on (λ r. r.runner.book) (λ k. k.book) c.loop-row.kits.items
          c.push_reserved-in-loop-row.new.self.items _ row its left _ next.0 also.items refl v.books;
      pollers =
          told_on (λ r. r.runner.poller) (λ k. k.poller) c.loop-row.kits.items
          c.push_reserved-in-loop-row.new.self.items _ row its left _ next.0 also.items refl v.pollers;
      clocks =
          told_on (λ r. r.runner.clock) (λ k. k.clock) c.loop-row.kits.items
          c.push_reserved-in-loop-row.new.self.items _ row its left _ next.0 also.items refl v.clocks;
    }

pub loop-row-preserved : goal.loop-row-preserved
loop-row-preserved g c =
    let v = c.loop-row.invariant in
    let row = c.in-Some.row in
    let next = c.in-Some.ensures.steps in
    let put = c.push_reserved.ensures in
    let also = c.push_reserved-in-loop-row.ensures in
    let its = into_iter_items c.loop-row.row-iterator in
    let left = into_iter_items c.next.new.self in
    let one = length_push c.loop-row.passes.items c.push_reserved.new.self.items (passes_of row) put.items in
    let two = length_push c.loop-row.kits.items c.push_reserved-in-loop-row.new.self.items _ also.items in
    let many = v.many in
    let both = v.both in
    let room = v.room in
    let space = v.space in
    let step = next.1 in
    let cap = put.capacity in
    let caps = also.capacity in record {
      many = omega arith;
      both = omega arith;
      room = omega arith;
      space = omega arith;
      passes =
          moved_on passes_of c.loop-row.passes.items c.push_reserved.new.self.items row its
          left _ next.0 put.items v.passes;
      books =
          told_on (λ r. r.runner.book) (λ k. k.book) c.loop-row.kits.items
          c.push_reserved-in-loop-row.new.self.items _ row its left _ next.0 also.items refl v.books;
      pollers =
          told_on (λ r. r.runner.poller) (λ k. k.poller) c.loop-row.kits.items
          c.push_reserved-in-loop-row.new.self.items _ row its left _ next.0 also.items refl v.pollers;
      clocks =
          told_on (λ r. r.runner.clock) (λ k. k.clock) c.loop-row.kits.items
          c.push_reserved-in-loop-row.new.self.items _ row its left _ next.0 also.items refl v.clocks;
    }

pub returns : goal.returns
returns g c =
    let v = c.loop-row.invariant in
    let its = into_iter_items c.loop-row.row-iterator in
    let none = c.in-None.ensures.steps.0 in
    let many = v.many in
    let both = v.both in
    let all : length c.loop-row.passes.items ≡ length c.args.rows.items = omega arith in
    let also : length c.loop-row.kits.items ≡ length c.args.rows.items = omega arith in record {
      passes_are = all_moved passes_of c.loop-row.passes.items its c.args.rows.items v.passes all;
      books =
          all_told (λ r. r.runner.book)
          (λ k. k.book) c.loop-row.kits.items its c.args.rows.items v.books also;
      pollers =
          all_told (λ r. r.runner.poller)
          (λ k. k.poller) c.loop-row.kits.items its c.args.rows.items v.pollers also;
      clocks =
          all_told (λ r. r.runner.clock)
          (λ k. k.clock) c.loop-row.kits.items its c.args.rows.items v.clocks also;
    }
