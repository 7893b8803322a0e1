-- To be believed: what goes between a connection and the one who keeps files.
use Rattle.std.specs.Prelude.{◌≡◌, ◌⊎◌, ℕ, List, Option, Some, None, IfSome}
use Rattle.outside.specs.Folder.{Folder, file_at}
use Rattle.conn_loop.specs.declared.step.End.TheVariants.{FileFault, NoMemory}
use Rattle.conn_loop.specs.declared.supply.Supply.{Supply}
use Rattle.conn_loop.specs.declared.supply.Supply.TheVariants as supply
use Rattle.conn_loop.specs.Stages.{failing}
use Rattle.conn_loop.specs.ConnState.{ConnState, HoldsNothing, IsAsking}

-- where the folder is told, the file of a lease has the wanted path, and an absent file is absent there
abbrev pub Supplies : {X : Type 0} → Option Folder → (path_of : X → List ℕ) → (wanted : List ℕ)
    → Supply X → Type 0
Supplies folder path_of wanted (supply.Leased lease) = IfSome folder (λ f. path_of lease ≡ wanted)
Supplies folder path_of wanted supply.Absent = IfSome folder (λ f. file_at f wanted ≡ None)
Supplies folder path_of wanted supply.Failed = Unit {0}
Supplies folder path_of wanted supply.NoMemory = Unit {0}

-- what is supplied is held, with its entry, or the connection is to end by it
abbrev pub Holds : {X : Type 0} → (path_of : X → List ℕ) → (entry_of : X → Option ℕ)
    → Supply X → ConnState → Type 0
Holds path_of entry_of (supply.Leased lease) c =
    (c.lease ≡ Some (path_of lease)) × (c.entry ≡ entry_of lease) × (failing c.stage ≡ None)
Holds path_of entry_of supply.Absent c = HoldsNothing c × (failing c.stage ≡ None)
Holds path_of entry_of supply.Failed c = HoldsNothing c × (failing c.stage ≡ Some FileFault)
Holds path_of entry_of supply.NoMemory c = HoldsNothing c × (failing c.stage ≡ Some NoMemory)

-- a lease of this path and this entry is given back, or it stays; none stays where a file is wanted,
-- or where the connection is over
pub record GivesLease (given : Option (List ℕ)) (entry : Option ℕ) (old new : ConnState) : Type 0 where
  pub whole : ((given ≡ old.lease) × (entry ≡ old.entry) × HoldsNothing new)
      ⊎ ((given ≡ None) × (entry ≡ None) × (new.lease ≡ old.lease) × (new.entry ≡ old.entry))
  pub asking : IsAsking new → HoldsNothing new
  pub over : IfSome new.over (λ end. HoldsNothing new)
