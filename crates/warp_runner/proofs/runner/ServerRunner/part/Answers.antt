use Rattle.std.proofs.Common.{refl, ap, subst, inl, inr}
use Rattle.std.specs.Prelude.{Some}
use Rattle.turn_cell.specs.Calls.{view_of}
use Rattle.fd_cache.specs.declared.acquired.ReleaseOut.TheVariants.{Released, Spent}
use Rattle.timeout_mgr.specs.Calls.{name_of_watch, view_of as seen_of}
use Rattle.warp_runner.specs.Deeds.{finished_held, spent}
use Rattle.warp_runner.specs.Leases.{HasGivenBack}
use Rattle.warp_runner.proofs.EndingLemmas.{parts}
use Rattle.warp_runner.proofs.runner.ServerRunner.part.Goals as goal

pub returns-in-Ok-clause-did : goal.returns-in-Ok-clause-did
returns-in-Ok-clause-did g c =
    let was = c.args.self.now in
    let handed = c.hand-stopped.new.self in
    let left = c.give_back.new.self in
    let rest = c.give_back.ensures.rest in
    parts c.calls_of_runs.ensures (view_of was.tallied) (view_of handed.tallied) (view_of left.tallied)
    (seen_of was.timed) (seen_of c.cancel.new.pass) (seen_of handed.timed) (seen_of left.timed)
    (g.B.Book.told was.book) (g.B.Book.told handed.book) (g.B.Book.told left.book)
    (name_of_watch c.finish-done.result.watch) c.args.session.watch
    _ (finished_held c.args.session c.args.end) c.hand-stopped.result c.hand-stopped.result
    c.finish-done.ensures.watch c.cancel.ensures.cancels c.finish-done.ensures.done c.hand-stopped.ensures.did
    (inl refl)
    (ap (λ k. view_of k) rest.1) (ap (λ k. seen_of k) rest.0) (ap (λ k. g.B.Book.told k) rest.3)

pub returns-in-Err-clause-did : goal.returns-in-Err-clause-did
returns-in-Err-clause-did g c =
    let was = c.args.self.now in
    let handed = c.hand-stopped.new.self in
    let left = c.give_back.new.self in
    let rest = c.give_back.ensures.rest in
    parts c.calls_of_runs.ensures (view_of was.tallied) (view_of handed.tallied) (view_of left.tallied)
    (seen_of was.timed) (seen_of c.cancel.new.pass) (seen_of handed.timed) (seen_of left.timed)
    (g.B.Book.told was.book) (g.B.Book.told handed.book) (g.B.Book.told left.book)
    (name_of_watch c.finish-done.result.watch) c.args.session.watch
    _ (finished_held c.args.session c.args.end) c.hand-stopped.result (Some spent)
    c.finish-done.ensures.watch c.cancel.ensures.cancels c.finish-done.ensures.done c.hand-stopped.ensures.did
    (inr refl)
    (ap (λ k. view_of k) rest.1) (ap (λ k. seen_of k) rest.0) (ap (λ k. g.B.Book.told k) rest.3)

pub returns-in-Ok-clause-gave : goal.returns-in-Ok-clause-gave
returns-in-Ok-clause-gave g c =
    let done = c.finish-done in (
      done.result.lease,
      done.ensures.lease,
      done.ensures.entry,
      inl (subst (λ v. HasGivenBack done.result.lease Released v (view_of c.give_back.new.self.cached))
          (ap (λ k. view_of k) c.hand-stopped.ensures.cached) c.in-Ok.ensures.gave),
    )

pub returns-in-Err-clause-gave : goal.returns-in-Err-clause-gave
returns-in-Err-clause-gave g c =
    let done = c.finish-done in (
      done.result.lease,
      done.ensures.lease,
      done.ensures.entry,
      inr (
        refl,
        subst (λ v. HasGivenBack done.result.lease Spent v (view_of c.give_back.new.self.cached))
            (ap (λ k. view_of k) c.hand-stopped.ensures.cached) c.in-Err.ensures.gave,
      ),
    )
