use Rattle.std.proofs.Common.{◌≡◌, ◌≤◌, ◌++◌, drop, length, take}
use Rattle.piece_net.specs.PiecePolls.{without}
use Rattle.piece_net.proofs.piece_poller.PiecePoller.place_of.Given as goal

-- no opening before this place has the descriptor
abbrev pub invariant-loop-place : goal.invariant-loop-place
invariant-loop-place l =
    (l.place ≤ length l.self.openings.items)
    × (without l.fd l.self.openings.items ≡ take l.place l.self.openings.items
    ++ without l.fd (drop l.place l.self.openings.items))
