-- One kit more is handed out.
use Rattle.std.proofs.Common.{◌≡◌, ℕ, List, [], ◌∷◌, ◌++◌, sym, subst}
use Rattle.std.specs.Prelude.{All}
use Rattle.std.proofs.lemmas.List.Elements.{All-push}
use Rattle.outside.specs.FileCauses.{FilesTold}
use Rattle.piece_net.specs.declared.piece_poller.PiecePoller.{PiecePoller}
use Rattle.warp_books.specs.Books.{IsBookOf}
use Rattle.warp_jobs.specs.declared.kit.Kit.{Kit}
use Rattle.warp_books.specs.declared.sum_book.SumBook.{SumBook}
use Rattle.warp_front_mem.specs.MemFronts.{IsRootedAt}
use Rattle.warp_books.specs.EndCounts.{book_told}

module _ {F C G : Type 0} where
  -- its book is empty too
  pub more_books : (kits more : List (Kit PiecePoller F C SumBook G)) (kit : Kit PiecePoller F C SumBook G)
      → more ≡ kits ++ kit ∷ []
      → All (λ kit. IsBookOf [] (book_told kit.book)) kits → IsBookOf [] (book_told kit.book)
      → All (λ kit. IsBookOf [] (book_told kit.book)) more
  more_books kits more kit is all one =
      subst (λ (xs : List (Kit PiecePoller F C SumBook G)). All (λ kit. IsBookOf [] (book_told kit.book)) xs)
      (sym is)
      (All-push (λ (kit : Kit PiecePoller F C SumBook G). IsBookOf [] (book_told kit.book)) kits kit all one)

  -- its files lie below the root too
  pub more_rooted : (told : F → FilesTold) (root : List ℕ)
      (kits more : List (Kit PiecePoller F C SumBook G)) (kit : Kit PiecePoller F C SumBook G)
      → more ≡ kits ++ kit ∷ []
      → All (λ kit. IsRootedAt root (told kit.files)) kits → IsRootedAt root (told kit.files)
      → All (λ kit. IsRootedAt root (told kit.files)) more
  more_rooted told root kits more kit is all one =
      subst (λ (xs : List (Kit PiecePoller F C SumBook G)). All (λ kit. IsRootedAt root (told kit.files)) xs)
      (sym is)
      (All-push (λ (kit : Kit PiecePoller F C SumBook G). IsRootedAt root (told kit.files)) kits kit all one)
