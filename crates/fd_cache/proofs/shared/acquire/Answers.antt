use Rattle.std.proofs.Common.{refl, subst, ◌∙◌, ap}
use Rattle.turn_cell.specs.Calls.{view_of}
use Rattle.fd_cache.specs.declared.calls.CacheCall.TheVariants as Calls
use Rattle.fd_cache.specs.declared.deed.CacheDeed.TheVariants as Deeds
use Rattle.fd_cache.specs.Calls.{deed_of, number_of}
use Rattle.fd_cache.specs.Shared.{EnteredIn, HasShared}
use Rattle.fd_cache.proofs.Acquires.{shared_fresh}
use Rattle.fd_cache.proofs.shared.acquire.Goals as goal

pub returns-in-Done-Hit-clause-ran : goal.returns-in-Done-Hit-clause-ran
returns-in-Done-Hit-clause-ran g c =
    let v = view_of c.args.pass.now in
    let w = view_of c.step.new.pass in
    let lease = c.in-Done-Hit.lease in
    let deed = ap (λ r. deed_of (Calls.Acquire c.in-Ok.asked) r) c.in-Done-Hit.field-0-is
    ∙ ap (λ x. Deeds.Hit (number_of lease.entry) x lease) c.in-Ok.ensures.ok in
    HasShared.hit lease refl (subst (λ d. EnteredIn d v w) deed c.in-Done-Hit.ensures.step.0) refl

pub returns-in-Done-Fresh-clause-ran : goal.returns-in-Done-Fresh-clause-ran
returns-in-Done-Fresh-clause-ran g c =
    let v = view_of c.args.pass.now in
    let u = view_of c.step.new.pass in
    let k = c.in-Done-Fresh.ticket.entry in
    let deed = ap (λ r. deed_of (Calls.Acquire c.in-Ok.asked) r) c.in-Done-Fresh.field-0-is
    ∙ ap (λ x. Deeds.Fresh k x) c.in-Ok.ensures.ok in
    shared_fresh _ k _ v u _ _ _
    (subst (λ d. EnteredIn d v u) deed c.in-Done-Fresh.ensures.step.0) c.look.ensures.ended
