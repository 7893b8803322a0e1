-- To be believed: what contracts know of a row that holds passes of turn cells beside other things.
use Rattle.level.specs.Meanings.{PassMeaning}

-- what is told of a row
pub record RowMeaning (P O : Type 0) : Type 1 where
  -- the passes that it holds, and what they are of
  pub passes : PassMeaning P O
  -- what else it holds
  pub beside : Type 0
  pub rest : P → beside
