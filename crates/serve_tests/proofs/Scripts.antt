-- A script that is made event by event, and kits that are made one by one.
use Rattle.std.proofs.Common.{◌≡◌, List, [], ◌∷◌, ◌++◌, sym, subst}
use Rattle.std.specs.Prelude.{All}
use Rattle.std.proofs.lemmas.List.Elements.{All-push}
use Rattle.outside.specs.declared.piece_link.PieceLink.{PieceLink}
use Rattle.outside.specs.ListenCauses.{IsUntouched}
use Rattle.outside.specs.PieceLink.{told_of as link_told}
use Rattle.piece_net.specs.AcceptEvents.{GivesUntouched}
use Rattle.piece_net.specs.declared.piece_listener.AcceptEvent.{AcceptEvent}
use Rattle.piece_net.specs.declared.piece_listener.AcceptEvent.TheVariants.{Fail, Give}
use Rattle.warp_books.specs.Books.{IsBookOf}
use Rattle.warp_books.specs.EndCounts.{book_told}
use Rattle.warp_books.specs.declared.sum_book.SumBook.{SumBook}
use Rattle.warp_jobs.specs.declared.kit.Kit.{Kit}

-- an accept that fails gives no link
pub fails : GivesUntouched Fail
fails = λ link is. cc

-- a link of which nothing was asked yet is given as such
pub gives : (link : PieceLink) → IsUntouched (link_told link) → GivesUntouched (Give link)
gives link untouched =
    λ other is.
    let same : link ≡ other = cc in
    subst (λ (given : PieceLink). IsUntouched (link_told given)) same untouched

-- one event more
pub more_events : (events more : List AcceptEvent) (event : AcceptEvent) → more ≡ events ++ event ∷ []
    → All GivesUntouched events → GivesUntouched event → All GivesUntouched more
more_events events more event is all one =
    subst (All GivesUntouched) (sym is) (All-push GivesUntouched events event all one)

-- one kit more, whose book is empty too
pub more_kits : {P F C G : Type 0} → (kits more : List (Kit P F C SumBook G)) (kit : Kit P F C SumBook G)
    → more ≡ kits ++ kit ∷ []
    → All (λ kit. IsBookOf [] (book_told kit.book)) kits → IsBookOf [] (book_told kit.book)
    → All (λ kit. IsBookOf [] (book_told kit.book)) more
more_kits {P} {F} {C} {G} kits more kit is all one =
    subst (λ (xs : List (Kit P F C SumBook G)). All (λ kit. IsBookOf [] (book_told kit.book)) xs) (sym is)
    (All-push (λ (kit : Kit P F C SumBook G). IsBookOf [] (book_told kit.book)) kits kit all one)
