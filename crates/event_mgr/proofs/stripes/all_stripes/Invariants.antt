use Rattle.std.proofs.Common.{◌≡◌, length, vec_capacity}
use Rattle.event_mgr.specs.Rows.{AreUnused}
use Rattle.event_mgr.proofs.StripeLemmas.{stripe_stands, stripe_name}
use Rattle.event_mgr.proofs.stripes.all_stripes.Given as goal

abbrev pub invariant-loop-stripe : goal.invariant-loop-stripe
invariant-loop-stripe g l = record {
  count : length l.parts.items ≡ l.stripe;
  room : vec_capacity l.parts ≡ 32;
  fresh : AreUnused (stripe_stands g.T.Load.tag) stripe_name l.parts.items;
}
