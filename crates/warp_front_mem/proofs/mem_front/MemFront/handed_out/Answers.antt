use Rattle.std.proofs.Common.{ap, length, length-append, ◌∙◌, arith}
use Rattle.warp_front_mem.proofs.KitLemmas.{more_books, more_rooted}
use Rattle.warp_front_mem.proofs.mem_front.MemFront.handed_out.Goals as goal

pub loop-given-preserved : goal.loop-given-preserved
loop-given-preserved g c = record {
  within = omega (arith, c.loop-given-test.true);
  count =
      omega
      (arith, c.loop-given.invariant.count, simp length-append at (ap length c.push_reserved.ensures.items));
  room = c.push_reserved.ensures.capacity ∙ c.loop-given.invariant.room;
  enough = c.loop-given.invariant.enough;
  books =
      more_books _ _ _ c.push_reserved.ensures.items c.loop-given.invariant.books c.in_ok-kit.ensures.book;
  there =
      more_rooted g.F.Files.told c.args.root.now _ _ _ c.push_reserved.ensures.items
      c.loop-given.invariant.there c.in_ok-kit.ensures.there;
  listener = c.rooted.ensures.listener ∙ c.loop-given.invariant.listener;
  told = c.rooted.ensures.told ∙ c.loop-given.invariant.told;
}
