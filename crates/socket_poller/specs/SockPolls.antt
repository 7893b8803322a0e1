-- To be believed: what a poll of sockets owes.
use Rattle.std.specs.Prelude.{◌≡◌, ℕ, Bool, true, false, not, ◌||◌, List, []}
use Rattle.mio.specs.Events.{items}
use Rattle.slab.specs.Slab.{slab_len}
use Rattle.poller.specs.declared.poller.PollOut.{PollOut}
use Rattle.poller.specs.declared.poller.PollOut.TheVariants.{Polled}
use Rattle.poller.specs.Faults.{PollerFaults, PollsLeave}
use Rattle.poller.specs.Polls.{Report}
use Rattle.socket_poller.specs.Reports.{reports_of}
use Rattle.socket_poller.specs.declared.sock_poller.SockPoller.{SockPoller}

-- how many faults there were
abbrev pub faults_of : {R : Type 0} → SockPoller R → PollerFaults
faults_of p = record { links = p.add_faults.n; polls = p.poll_faults.n }

-- how many links linger with a poller
abbrev pub lingering_of : {R : Type 0} → SockPoller R → ℕ
lingering_of p = slab_len p.lingerers.places

-- there was none
abbrev pub no_faults : PollerFaults
no_faults = record { links = 0; polls = 0 }

-- a poll: whoever mustn't wait and was answered by the system last is told nothing, without the system; every
-- other poll asks it, and its reports are those of the events that it gave
pub record IsPoll {R : Type 0} (old : SockPoller R) (idle : Bool) (result : PollOut)
    (out : List Report) (new : SockPoller R) : Type 0 where
  pub asks : new.asked ≡ (idle || not old.asked)
  pub rests : new.asked ≡ false → (result ≡ Polled) × (out ≡ [])
  pub tells : new.asked ≡ true → result ≡ Polled → out ≡ reports_of (items new.events)
  pub leaves : PollsLeave (faults_of old) (faults_of new)
