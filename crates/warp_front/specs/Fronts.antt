-- To be believed: what contracts know of a front, and what each call makes of it.
use Rattle.std.specs.Prelude.{◌≡◌, ℕ, ◌≤◌, Bool, List, Option, Some, None}
use Rattle.outside.specs.Counts.{Rises}
use Rattle.outside.specs.ListenCauses.{ListenerTold}
use Rattle.warp_front.specs.declared.front.ListenOut.{ListenOut}
use Rattle.warp_front.specs.declared.front.ListenOut.TheVariants as Listens
use Rattle.warp_front.specs.declared.front.KitsOut.{KitsOut}
use Rattle.warp_front.specs.declared.front.KitsOut.TheVariants as Kits

-- what contracts know of a front
pub record FrontTold : Type 0 where
  -- the address and the port of the last call to listen that didn't want memory
  pub place : Option (List ℕ × ℕ)
  -- the root of the last call for kits that didn't
  pub root : Option (List ℕ)
  -- how many faults there were
  pub faults : ℕ

-- the listener that an answer gives has a property
abbrev pub IfListening : {X : Type 0} → ListenOut X → (X → Type 0) → Type 0
IfListening (Listens.Listening listener) P = P listener
IfListening Listens.Failed P = Unit {0}
IfListening Listens.NoMemory P = Unit {0}

-- the kits that an answer gives have a property
abbrev pub IfMade : {K : Type 0} → KitsOut K → (List K → Type 0) → Type 0
IfMade (Kits.Made kits) P = P kits.items
IfMade Kits.Failed P = Unit {0}
IfMade Kits.NoMemory P = Unit {0}

-- nothing was asked of a listener
pub record IsUnheard (listener : ListenerTold) : Type 0 where
  pub accepted : listener.accepted ≡ 0
  pub waits : listener.waits ≡ 0
  pub faults : listener.faults ≡ 0
  pub failed_row : listener.failed_row ≡ 0

-- a call to listen: where it failed, the count of faults rose, which never falls; what was asked is
-- kept, unless memory was wanted
abbrev pub AskedToListen : {X : Type 0} → ListenOut X → List ℕ → ℕ → (old new : FrontTold) → Type 0
AskedToListen (Listens.Listening listener) address port old new =
    new ≡ record old { place = Some (address, port) }
AskedToListen Listens.Failed address port old new =
    Rises old.faults new.faults × (new ≡ record old { place = Some (address, port); faults = new.faults })
AskedToListen Listens.NoMemory address port old new = new ≡ old

-- a call for kits: where it failed, the count of faults rose; what was asked is kept,
-- unless memory was wanted
abbrev pub AskedForKits : {K : Type 0} → KitsOut K → List ℕ → (old new : FrontTold) → Type 0
AskedForKits (Kits.Made kits) root old new = new ≡ record old { root = Some root }
AskedForKits Kits.Failed root old new =
    Rises old.faults new.faults × (new ≡ record old { root = Some root; faults = new.faults })
AskedForKits Kits.NoMemory root old new = new ≡ old
