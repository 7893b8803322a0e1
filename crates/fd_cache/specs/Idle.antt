-- Inner: the leases of an entry that came back, as a list.
use Rattle.std.specs.Prelude.{List, [], ◌∷◌}
use Rattle.fd_cache.specs.declared.entry.Idle.{Idle}
use Rattle.fd_cache.specs.declared.entry.Idle.TheVariants as Held

-- the last one first
abbrev pub idle_list : {L : Type 0} → Idle L → List L
idle_list Held.None = []
idle_list (Held.One last) = last ∷ []
idle_list (Held.Two last first) = last ∷ first ∷ []
