use Rattle.std.proofs.Common.{sym, subst, inl, refl, arith}
use Rattle.std.specs.Prelude.{IsSomeAnd, string_bytes}
use Rattle.fd_cache.specs.declared.deed.CacheDeed.TheVariants as Deeds
use Rattle.fd_cache.specs.History.{IsLeasedOut}
use Rattle.fd_cache.specs.Shelf.{at}
use Rattle.fd_cache.proofs.Entries.{entered, own_lent, own_set}
use Rattle.fd_cache.proofs.Replies.{leased_out}
use Rattle.fd_cache.proofs.cache.Cache.acquire_at.Goals as goal

pub returns-then-is_leased_out-clause-enters : goal.returns-then-is_leased_out-clause-enters
returns-then-is_leased_out-clause-enters g c = λ past r.
    let x = string_bytes c.args.path in
    let shelf = c.args.self.now.shelf in
    let out = leased_out x (at c.args.k shelf) c.requires.there
    (c.is_leased_out.ensures.full.0 c.if-is_leased_out.true) in
    let full = subst (λ p. IsSomeAnd p (IsLeasedOut x)) (sym (r.entries c.args.k)) out in
    entered (Deeds.Bypass x) past shelf shelf r (inl (c.args.k, full)) (λ e. refl)

pub invariant_of-self : goal.invariant_of-self
invariant_of-self g c =
    record {
      own =
          rw c.lend.ensures.lent
          (own_set _ c.args.self.now.shelf c.args.k _
          (omega (arith, c.requires.inside, c.lend.ensures.size)) c.args.self.now.own
          (own_lent _ c.args.k (at c.args.k c.args.self.now.shelf)
          (λ s i l. c.args.self.now.own c.args.k s i l)));
    }
