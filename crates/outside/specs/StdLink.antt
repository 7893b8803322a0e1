-- To be believed: what a link over a reader and a writer of std tells: its counts of faults.
use Rattle.std.specs.Prelude.{None}
use Rattle.outside.specs.declared.std_link.StdLink.{StdLink}
use Rattle.outside.specs.Causes.{LinkTold}
use Rattle.outside.specs.Counts.{nothing_counted}

-- it tells no bytes, and never answers that the caller must wait
abbrev pub told_of : {R W : Type 0} → StdLink R W → LinkTold
told_of link = record {
  taken = None;
  sent = None;
  ended = None;
  plan = None;
  faults = record { reads = link.read_faults.n; writes = link.write_faults.n };
  waits = nothing_counted;
}
