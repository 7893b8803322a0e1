use Rattle.std.proofs.Common.{[]}
use Rattle.std.specs.Prelude.{All}
use Rattle.warp_books.specs.Books.{IsBookOf}
use Rattle.warp_books.specs.EndCounts.{book_told}
use Rattle.serve_tests.proofs.tests.kits_of.Given as goal

abbrev pub invariant-loop-made : goal.invariant-loop-made
invariant-loop-made l = All (λ kit. IsBookOf [] (book_told kit.book)) l.kits.items
