-- Kits whose books were handed nothing.
use Rattle.std.proofs.Common.{◌≡◌, List, [], ◌∷◌, ◌++◌, sym, subst}
use Rattle.std.specs.Prelude.{All}
use Rattle.std.proofs.lemmas.List.Elements.{All-push}
use Rattle.warp_books.specs.declared.sum_book.SumBook.{SumBook}
use Rattle.warp_books.specs.Books.{IsBookOf}
use Rattle.warp_books.specs.EndCounts.{book_told}
use Rattle.warp_jobs.specs.declared.kit.Kit.{Kit}

-- a kit more, whose book was handed nothing either
pub empty_books : {P F C G : Type 0} → (kits more : List (Kit P F C SumBook G)) (kit : Kit P F C SumBook G)
    → more ≡ kits ++ kit ∷ []
    → All (λ kit. IsBookOf [] (book_told kit.book)) kits → IsBookOf [] (book_told kit.book)
    → All (λ kit. IsBookOf [] (book_told kit.book)) more
empty_books {P} {F} {C} {G} kits more kit is all one =
    subst (λ (xs : List (Kit P F C SumBook G)). All (λ kit. IsBookOf [] (book_told kit.book)) xs) (sym is)
    (All-push (λ (kit : Kit P F C SumBook G). IsBookOf [] (book_told kit.book)) kits kit all one)
