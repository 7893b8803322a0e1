use Rattle.std.proofs.Common.{ap, arith}
use Rattle.event_tests.specs.Accounting.{finishes_in}
use Rattle.event_tests.specs.declared.book.Finish.{Finish}
use Rattle.event_tests.proofs.Owing.{finished_one}
use Rattle.event_tests.proofs.book.Book.finish.Goals as goal

pub returns : goal.returns
returns c o k =
    let f : Finish = record { opening = c.args.opening; number = c.args.number; read = c.args.read } in
    let old = c.args.self.now.finished.items in
    let a = ap (λ xs. finishes_in xs o k) c.push_reserved.ensures.items in
    let b = finished_one old f o k in
    omega (arith, a, b)
