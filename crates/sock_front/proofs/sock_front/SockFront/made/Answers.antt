use Rattle.std.proofs.Common.{[], ap, subst, sym, length, length-append, arith}
use Rattle.std.specs.Prelude.{All}
use Rattle.std.proofs.lemmas.List.Elements.{All-push}
use Rattle.warp_books.specs.Books.{IsBookOf}
use Rattle.warp_books.specs.EndCounts.{book_told}
use Rattle.sock_front.proofs.sock_front.SockFront.made.Goals as goal

pub loop-poller-preserved : goal.loop-poller-preserved
loop-poller-preserved g c = record {
  count = omega (
    arith,
    c.loop-poller.invariant.count,
    c.in-Some.ensures.steps.1,
    simp length-append at (ap length c.in_ok-push.ensures.items),
  );
  books =
      subst (λ xs. All (λ kit. IsBookOf [] (book_told kit.book)) xs) (sym c.in_ok-push.ensures.items)
      (All-push (λ kit. IsBookOf [] (book_told kit.book)) c.loop-poller.kits.items c.in_ok-kit.field-0
      c.loop-poller.invariant.books c.in_ok-kit.ensures);
}
