-- Inner: what is done to flags.
use Rattle.std.specs.Prelude.{ℕ, ◌==◌, Bool, true, false, List, [], ◌∷◌, ◌++◌, filter, not, if◌then◌else◌}
use Rattle.reg_keys.specs.declared.opening.Opening.{Opening}
use Rattle.stripe_table.specs.declared.flags.FlagState.{FlagState}
use Rattle.stripe_table.specs.declared.flags.FlagState.TheVariants.{Waiting, Ran, Closed}
use Rattle.stripe_table.specs.declared.flags.UnaskedFlag.{UnaskedFlag}

-- the number of a flag
abbrev pub key_of : UnaskedFlag → ℕ
key_of f = f.key

-- the flag has this number
abbrev pub flag_has : ℕ → UnaskedFlag → Bool
flag_has k f = f.key == k

-- the flag with this key is in this state
abbrev pub settled : ℕ → FlagState → UnaskedFlag → UnaskedFlag
settled k x f = record f { state = if k == f.key then x else f.state }

-- how the flag came out is known
abbrev pub is_settled : UnaskedFlag → Bool
is_settled f = elim f.state [ Waiting ↦ false | Ran d m ↦ true | Closed ↦ true ]

-- the flags, with one more that waits if a registration brings one
abbrev pub begun : Bool → ℕ → Opening → List UnaskedFlag → List UnaskedFlag
begun true k o fs = fs ++ record { key = k; opening = o; state = Waiting } ∷ []
begun false k o fs = fs

-- the flags without the one of a registration that is taken back, if it brought one
abbrev pub ended : Bool → ℕ → List UnaskedFlag → List UnaskedFlag
ended true k fs = filter (λ f. not (flag_has k f)) fs
ended false k fs = fs
