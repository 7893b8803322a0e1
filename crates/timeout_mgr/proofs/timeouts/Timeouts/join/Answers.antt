use Rattle.std.proofs.Common.{ap, ◌∙◌, arith}
use Rattle.timeout_mgr.proofs.Passes.{joins, is_joined}
use Rattle.timeout_mgr.proofs.Steps.{compares}
use Rattle.timeout_mgr.proofs.timeouts.Timeouts.join.Goals as goal

pub join_seat-requires : goal.join_seat-requires
join_seat-requires c = let sized = c.args.self.now.sized in (
  c.requires.own,
  c.requires.other,
  c.args.other.rests.1,
  omega arith,
  joins _ _ _ _ c.args.pass.now.rests.0 c.args.other.rests.0,
)

pub load-requires : goal.load-requires
load-requires c = let sized = c.args.self.now.sized in
    (c.join_seat.ensures.0 ∙ c.requires.own, omega arith, compares _ _ _ _ (omega arith))

pub returns-clause-joined : goal.returns-clause-joined
returns-clause-joined c = is_joined _ _ _ _ (ap (λ m. m.0) c.join_seat.ensures.2) c.load.ensures.2.0
