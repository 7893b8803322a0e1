use Rattle.std.proofs.Common.{◌≡◌, ◌++◌, length, sym, ap, ◌∙◌, length-append, arith}
use Rattle.fd_cache.specs.History.{closed, closed_at}
use Rattle.fd_cache.specs.Shelf.{at}
use Rattle.fd_cache.proofs.Reaping.{closed_more, closed_none, sweeps_all, sweeps_more, sweeps_none}
use Rattle.fd_cache.proofs.shelf.Shelf.reap.Goals as goal

pub loop-k-init : goal.loop-k-init
loop-k-init g c = record {
  sweeps = sweeps_none c.args.self.now;
  closes = c.requires ∙ sym (closed_none _);
  few = omega (arith, ap (λ ls. length ls) c.requires);
  size = λ some. absurd (omega arith);
}

pub loop-k-preserved : goal.loop-k-preserved
loop-k-preserved g c =
    let k = c.loop-k.k in
    let old = c.args.self.now in
    let cur = c.loop-k.self in
    let so_far = c.loop-k.invariant.sweeps in
    let size : length cur ≡ 256 = c.reap_at.ensures.size in
    let same : at k cur ≡ at k old = so_far.same_after k (omega arith) in
    record {
      sweeps = rw c.reap_at.ensures.swept (sweeps_more k old cur (omega arith) so_far);
      closes =
          c.reap_at.ensures.closed ∙ ap (λ ls. ls ++ closed_at (at k cur)) c.loop-k.invariant.closes
          ∙ ap (λ p. closed k (λ e. at e old) ++ closed_at p) same ∙ sym (closed_more k (λ e. at e old));
      few = omega (
        arith,
        ap (λ ls. length ls) c.reap_at.ensures.closed,
        length-append c.loop-k.basket (closed_at (at k cur)),
        c.reap_at.ensures.few,
        c.loop-k.invariant.few,
      );
      size = λ some. sym so_far.size ∙ size;
    }

pub returns-clause-swept : goal.returns-clause-swept
returns-clause-swept g c =
    rw c.note_all.ensures
    (sweeps_all c.loop-k.k c.args.self.now c.loop-k.self (omega arith) c.loop-k.invariant.sweeps
    (c.loop-k.invariant.size (omega arith)))
