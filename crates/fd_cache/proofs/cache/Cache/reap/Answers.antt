use Rattle.std.proofs.Common.{sym, ◌∙◌}
use Rattle.fd_cache.specs.declared.deed.CacheDeed.TheVariants as Deeds
use Rattle.fd_cache.proofs.Entries.{entered, own_swept}
use Rattle.fd_cache.proofs.Reaping.{closed_same}
use Rattle.fd_cache.proofs.cache.Cache.reap.Goals as goal

pub returns : goal.returns
returns g c = λ past r.
    entered (Deeds.Reaped c.reap.new.basket) past c.args.self.now.shelf c.reap.new.self r
    (c.reap.ensures.closed ∙ sym (closed_same 256 _ _ r.entries)) (λ e. sym (c.reap.ensures.swept e))

pub invariant_of-self : goal.invariant_of-self
invariant_of-self g c = record {
  own = own_swept _ c.args.self.now.shelf c.reap.new.self c.args.self.now.own c.reap.ensures.swept;
}
