-- To be believed: what a link over a socket tells: its counts of faults and of waits.
use Rattle.std.specs.Prelude.{◌≡◌, ◌<◌, ◌↔◌, ℕ, Bool, false, IsTrue, None}
use Rattle.outside.specs.declared.link.ReadOut.{ReadOut}
use Rattle.outside.specs.declared.link.ReadOut.TheVariants.{Got}
use Rattle.outside.specs.Causes.{LinkTold}
use Rattle.socket_poller.specs.declared.sock_link.SockLink.{SockLink}

-- it tells no bytes
abbrev pub told_of : SockLink → LinkTold
told_of link = record {
  taken = None;
  sent = None;
  ended = None;
  plan = None;
  faults = record { reads = link.read_faults.n; writes = link.write_faults.n };
  waits = record { reads = link.read_waits.n; writes = link.write_waits.n };
}

-- whether a link takes it that nothing more is there: only where a read filled less than its buffer
abbrev pub IsDrained : ReadOut → ℕ → Bool → Type 0
IsDrained (Got n) size drained = IsTrue drained ↔ (n < size)
IsDrained _ size drained = drained ≡ false
