-- To be believed: what the events of a scripted listener say, accept by accept.
use Rattle.std.specs.Prelude.{◌≡◌, List, [], ◌∷◌, Option, Some, None}
use Rattle.std.specs.Option.{ForSome}
use Rattle.outside.specs.declared.listener.AcceptOut.{AcceptOut}
use Rattle.outside.specs.declared.listener.AcceptOut.TheVariants as Accepts
use Rattle.outside.specs.declared.piece_link.PieceLink.{PieceLink}
use Rattle.outside.specs.ListenCauses.{IsUntouched}
use Rattle.outside.specs.PieceLink.{told_of as link_told}
use Rattle.piece_net.specs.declared.piece_listener.AcceptEvent.{AcceptEvent}
use Rattle.piece_net.specs.declared.piece_listener.AcceptEvent.TheVariants as Events

-- the link that an event gives
abbrev pub link_given : AcceptEvent → Option PieceLink
link_given (Events.Give link) = Some link
link_given Events.NotYet = None
link_given Events.Fail = None

-- an event gives no link but one of which nothing was asked yet
abbrev pub GivesUntouched : AcceptEvent → Type 0
GivesUntouched event = ForSome (link_given event) (λ link. IsUntouched (link_told link))

-- an accept answers what the next event says, and leaves the events after it; after the
-- last one no connection is there
abbrev pub PlaysAccept : (old new : List AcceptEvent) → AcceptOut PieceLink → Type 0
PlaysAccept [] new result = (result ≡ Accepts.NotYet) × (new ≡ [])
PlaysAccept (Events.Give link ∷ more) new result = (result ≡ Accepts.Accepted link) × (new ≡ more)
PlaysAccept (Events.NotYet ∷ more) new result = (result ≡ Accepts.NotYet) × (new ≡ more)
PlaysAccept (Events.Fail ∷ more) new result = (result ≡ Accepts.Failed) × (new ≡ more)
