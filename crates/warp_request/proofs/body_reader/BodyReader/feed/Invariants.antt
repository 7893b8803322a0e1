use Rattle.std.proofs.Common.{◌≡◌, ◌≢◌, ◌<◌, ◌≤◌, ◌-◌, ◌++◌, ℕ, List, length, take}
use Rattle.warp_request.specs.declared.body_reader.BodyState.TheVariants as States
use Rattle.warp_request.specs.declared.verdict.Framing.{Framing}
use Rattle.warp_request.specs.Body.{body_of, more}
use Rattle.warp_request.specs.BodyReader.{Represents, state_of}
use Rattle.warp_request.proofs.body_reader.BodyReader.feed.Given as goal

abbrev pub invariant-loop-used : goal.invariant-loop-used
invariant-loop-used l = record {
  within : l.used ≤ length l.piece;
  stands : (framing : Framing) (fed : List ℕ) → Represents l.fn.self framing fed
      → Represents l.self framing (fed ++ take l.used l.piece);
  first : (framing : Framing) (fed : List ℕ) → Represents l.fn.self framing fed → (n : ℕ)
      → n < l.used → body_of framing (fed ++ take n l.piece) ≡ more;
  ended : state_of l.fn.self ≢ States.More → (l.used ≡ 0) × (l.self ≡ l.fn.self);
}

abbrev pub decreases-loop-used : goal.decreases-loop-used
decreases-loop-used l = length l.piece - l.used
