use Rattle.std.proofs.Common.{ap, subst, Err}
use Rattle.httparse.specs.Spans.{RequestExceeds}
use Rattle.warp_request.proofs.ShownLemmas.{by_error}
use Rattle.warp_request.proofs.heads.read_head.Goals as goal

pub returns-in-Err : goal.returns-in-Err
returns-in-Err c =
    by_error c.args.window.now _ c.requires.fits c.in-Err.ensures.invalid
    (λ e.
    subst (λ n. RequestExceeds n c.args.window.now) c.requires.room (c.in-Err.ensures.too_many (ap Err e)))
