use Rattle.std.proofs.Common.{◌≡◌, ◌≤◌, [], length}
use Rattle.std.specs.Prelude.{All, vec_capacity}
use Rattle.warp_books.specs.Books.{IsBookOf}
use Rattle.warp_front_mem.specs.MemFronts.{IsRootedAt, front_told}
use Rattle.warp_books.specs.EndCounts.{book_told}
use Rattle.warp_front_mem.proofs.mem_front.MemFront.handed_out.Given as goal

-- this many kits were taken, with empty books and below the root
abbrev pub invariant-loop-given : goal.invariant-loop-given
invariant-loop-given g l = record {
  within : l._given ≤ l.count;
  count : length l.given.items ≡ l._given;
  room : vec_capacity l.given ≡ l.count;
  enough : l.count ≤ length l.fn.self.kits.items;
  books : All (λ kit. IsBookOf [] (book_told kit.book)) l.given.items;
  there : All (λ kit. IsRootedAt l.root (g.F.Files.told kit.files)) l.given.items;
  listener : l.self.listener ≡ l.fn.self.listener;
  told : front_told l.self ≡ front_told l.fn.self;
}
