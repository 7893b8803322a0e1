-- To be believed: what contracts know of a sink, and what putting a piece makes of it.
use Rattle.std.specs.Prelude.{◌≡◌, ℕ, ◌≤◌, List, ◌++◌, take, length, Option, option_map}
use Rattle.outside.specs.declared.sink.SinkOut.{SinkOut}
use Rattle.outside.specs.declared.sink.SinkOut.TheVariants.{Stored, Failed}
use Rattle.outside.specs.Counts.{Rises}

-- what contracts know of a sink
pub record SinkTold : Type 0 where
  -- the bytes stored so far, where they are told
  pub stored : Option (List ℕ)
  -- how many faults there were
  pub faults : ℕ

-- a prefix of the piece was stored, and the count of faults rose
pub record PutsSome (piece : List ℕ) (old new : SinkTold) : Type 0 where
  pub size : ℕ
  pub within : size ≤ length piece
  pub stores : new.stored ≡ option_map (λ bytes. bytes ++ take size piece) old.stored
  pub later : old.faults ≤ new.faults
  pub failed : Rises old.faults new.faults

-- all of the piece was stored and no fault was counted, or it failed
abbrev pub Puts : SinkOut → List ℕ → SinkTold → SinkTold → Type 0
Puts Stored piece old new = new ≡ record old { stored = option_map (λ bytes. bytes ++ piece) old.stored }
Puts Failed piece old new = PutsSome piece old new
