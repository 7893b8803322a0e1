-- To be believed: what a front over sockets tells.
use Rattle.std.specs.Prelude.{option_map, string_bytes}
use Rattle.warp_front.specs.Fronts.{FrontTold}
use Rattle.sock_front.specs.declared.sock_front.SockFront.{SockFront}

-- where it was to listen last, the root of the kits that it was asked for last, and how
-- many faults there were
abbrev pub told_of : {R : Type 0} → SockFront R → FrontTold
told_of front = record {
  place = option_map (λ place. (place.address, place.port)) front.place;
  root = option_map string_bytes front.root;
  faults = front.faults.n;
}
