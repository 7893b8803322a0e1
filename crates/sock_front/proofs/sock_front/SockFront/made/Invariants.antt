use Rattle.std.proofs.Common.{◌≡◌, ◌+◌, [], length}
use Rattle.std.specs.Prelude.{All}
use Rattle.std.specs.Vec.Iter.{into_iter_len}
use Rattle.warp_books.specs.Books.{IsBookOf}
use Rattle.warp_books.specs.EndCounts.{book_told}
use Rattle.sock_front.proofs.sock_front.SockFront.made.Given as goal

abbrev pub invariant-loop-poller : goal.invariant-loop-poller
invariant-loop-poller g l = record {
  count : length l.kits.items + into_iter_len l.poller-iterator ≡ l.fn.count;
  books : All (λ kit. IsBookOf [] (book_told kit.book)) l.kits.items;
}
