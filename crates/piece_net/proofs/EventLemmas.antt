-- The first of the events that are left, and the others.
use Rattle.std.proofs.Common.{◌≡◌, ℕ, suc, ◌+◌, ◌<◌, List, [], ◌∷◌, length, drop, Some, refl, sym, subst}
use Rattle.std.proofs.Common.{arith}
use Rattle.std.specs.Prelude.{All}
use Rattle.outside.specs.declared.piece_link.PieceLink.{PieceLink}
use Rattle.outside.specs.ListenCauses.{IsUntouched}
use Rattle.outside.specs.PieceLink.{told_of as link_told}
use Rattle.piece_net.specs.AcceptEvents.{GivesUntouched}
use Rattle.piece_net.specs.declared.piece_listener.AcceptEvent.{AcceptEvent}
use Rattle.piece_net.specs.declared.piece_listener.AcceptEvent.TheVariants.{Give}

-- nothing was asked of the link that the first event gives
pub first_given : (old new : List AcceptEvent) (link : PieceLink) → old ≡ Give link ∷ new
    → All GivesUntouched old → IsUntouched (link_told link)
first_given old new link is all = subst (All GivesUntouched) is all 0 (Give link) (omega arith) link refl

behind : (events : List AcceptEvent) → All GivesUntouched events → All GivesUntouched (drop 1 events)
behind [] all = λ k d lt. absurd (omega (arith, lt))
behind (event ∷ events) all = λ k d lt. all (suc k) d (omega (arith, lt))

-- the others give links of which nothing was asked
pub others_given : (old new : List AcceptEvent) → new ≡ drop 1 old → All GivesUntouched old
    → All GivesUntouched new
others_given old new is all = subst (All GivesUntouched) (sym is) (behind old all)
