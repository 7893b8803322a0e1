use Rattle.std.proofs.Common.{◌≡◌, ◌∙◌, ap, sym, subst, Option, Some, option_map, ℕ}
use Rattle.fd_cache.specs.declared.lease.Lease.{Lease}
use Rattle.conn_loop.specs.declared.phase.Phase.{Phase}
use Rattle.conn_loop.specs.Phases.{HasLease}
use Rattle.conn_loop.proofs.conn.Conn.read_part.Goals as goal

pub invariant_of-self : goal.invariant_of-self
invariant_of-self g c =
    let inside = c.self.inside in
    let size_of : Option (Lease g.row.F.Denot g.row.F-File.Denot g.F.Files) → Option ℕ =
    λ o. option_map (λ lease. lease.size) o in
    let held : size_of inside.lease ≡ Some c.in-Sending.size =
    subst (λ (p : Phase). HasLease p (size_of inside.lease)) c.in-Sending.is c.self.invariant.3 in
    let lease : Some c.in-Some.lease ≡ inside.lease = sym c.in-Some.is in (
      c.self.invariant.0,
      c.self.invariant.1,
      c.phase_read-self-inside.ensures.1 _ _,
      c.phase_read-self-inside.ensures.3 _ (ap (λ (n : ℕ). Some n) c.part-part.ensures.size
          ∙ ap (λ (o : Option (Lease g.row.F.Denot g.row.F-File.Denot g.F.Files)). size_of o) lease ∙ held),
    )
