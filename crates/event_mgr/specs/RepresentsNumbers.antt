-- Inner: what the part of the numbers stands for.
use Rattle.std.specs.Prelude.{◌<◌, List, All}
use Rattle.event_mgr.specs.declared.numbers.NumbersEntry.{NumbersEntry}
use Rattle.event_mgr.specs.declared.numbers.Numbers.{Numbers}
use Rattle.reg_keys.specs.declared.limits.TheConstants.{DESCRIPTORS}
use Rattle.event_mgr.specs.FreeNumbers.{ShowsOut}
use Rattle.event_mgr.specs.Numbers.{is_among, numbers_out, IsNumbersPast}

-- each reply of the past was right, and the bitmap shows which numbers are out after it
pub record RepresentsNumbers (past : List NumbersEntry) (n : Numbers) : Type 0 where
  pub right : IsNumbersPast past
  pub within : All (λ m. m < DESCRIPTORS) (numbers_out past)
  pub shows : ShowsOut (is_among (numbers_out past)) n.free
