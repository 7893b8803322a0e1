use Rattle.warp_books.proofs.Adding.{adds_up}
use Rattle.warp_books.proofs.laws.books_add_up.Goals as goal

pub returns : goal.returns
returns c = adds_up
