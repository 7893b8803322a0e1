-- To be believed: a front in memory, what it will hand out and what it tells.
use Rattle.std.specs.Prelude.{◌≡◌, ℕ, ◌⊎◌, Bool, false, IsTrue, List, All, Option, Some, None, option_map}
use Rattle.std.specs.Prelude.{string_bytes}
use Rattle.outside.specs.declared.files.RootOut.TheVariants.{Present}
use Rattle.outside.specs.FileCauses.{FilesTold}
use Rattle.piece_net.specs.declared.piece_listener.PieceListener.{PieceListener}
use Rattle.warp_front.specs.declared.front.ListenOut.{ListenOut}
use Rattle.warp_front.specs.declared.front.ListenOut.TheVariants as Listens
use Rattle.warp_front.specs.Fronts.{FrontTold}
use Rattle.warp_front_mem.specs.declared.mem_front.MemFront.{MemFront}

-- where it was to listen last, the root of the kits that it was asked for last, and how
-- many faults there were
abbrev pub front_told : {F C G : Type 0} → MemFront F C G → FrontTold
front_told front = record {
  place = option_map (λ place. (place.address, place.port)) front.place;
  root = option_map string_bytes front.root;
  faults = front.faults.n;
}

-- nothing was asked of it
abbrev pub fresh_front : FrontTold
fresh_front = record { place = None; root = None; faults = 0 }

-- a call to listen hands the listener out, once, and fails exactly where it was to fail
-- or the listener was handed out
abbrev pub HandsOut : Bool → Option PieceListener → ListenOut PieceListener → Option PieceListener → Type 0
HandsOut failing old (Listens.Listening listener) new =
    (failing ≡ false) × (old ≡ Some listener) × (new ≡ None)
HandsOut failing old Listens.Failed new = (IsTrue failing ⊎ (old ≡ None)) × (new ≡ old)
HandsOut failing old Listens.NoMemory new = ⊥

-- the last look of files for their root was for this one, and it was there
abbrev pub IsRootedAt : List ℕ → FilesTold → Type 0
IsRootedAt root files = files.rooted ≡ Some (root, Present)
