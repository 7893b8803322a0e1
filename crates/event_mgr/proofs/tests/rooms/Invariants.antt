use Rattle.std.proofs.Common.{◌≡◌, [], ◌∷◌, Bool, length, vec_capacity}
use Rattle.event_mgr.specs.Rows.{AreUnused}
use Rattle.event_mgr.proofs.tests.rooms.Given as goal

abbrev pub invariant-loop-stripe : goal.invariant-loop-stripe
invariant-loop-stripe l = record {
  count : length l.rooms.items ≡ l.stripe;
  room : vec_capacity l.rooms ≡ 32;
  fresh : AreUnused {E = Bool} (λ r h. Unit {0}) (λ r. r.stripe ∷ 1 ∷ []) l.rooms.items;
}
