use Rattle.std.proofs.Common.{◌≡◌, ◌≤◌, take}
use Rattle.poller.specs.Rounds.{reports_of}
use Rattle.piece_net.proofs.piece_poller.PiecePoller.go_round.Given as goal

-- the openings before this place were reported
abbrev pub invariant-loop-place : goal.invariant-loop-place
invariant-loop-place l = (l.place ≤ l.count) × (l.out ≡ reports_of (take l.place l.self.openings.items))
