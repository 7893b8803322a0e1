use Rattle.std.proofs.Common.{◌≡◌, ◌+◌, [], length, vec_len}
use Rattle.std.specs.Prelude.{All}
use Rattle.std.specs.Vec.Iter.{into_iter_len}
use Rattle.warp_books.specs.Books.{IsBookOf}
use Rattle.warp_books.specs.EndCounts.{book_told}
use Rattle.drive_tests.proofs.tests.loads.kits_of.Given as goal

-- each poller that was taken has its kit, and no book was handed anything
abbrev pub invariant-loop-poller : goal.invariant-loop-poller
invariant-loop-poller l = record {
  count : length l.kits.items + into_iter_len l.poller-iterator ≡ vec_len l.fn.pollers;
  books : All (λ kit. IsBookOf [] (book_told kit.book)) l.kits.items;
}
