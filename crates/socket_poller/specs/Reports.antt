-- To be believed: the reports that the events of the system make.
use Rattle.std.specs.Prelude.{Bool, true, false, ◌||◌, Option, Some, None, List, if◌then◌else◌, nat_lt}
use Rattle.std.specs.List.{filter_map}
use Rattle.mio.specs.declared.event.event.Event.{Event}
use Rattle.mio.specs.Event.{event_token, is_error, is_read_closed, is_readable, is_writable, is_write_closed}
use Rattle.reg_keys.specs.Token.{opening_of}
use Rattle.reg_keys.specs.declared.registration.Dirs.{Dirs}
use Rattle.reg_keys.specs.declared.registration.Dirs.TheVariants as Ways
use Rattle.poller.specs.Polls.{Report}

-- whether an event says that a read has something to tell
abbrev pub reads : Event → Bool
reads e = is_readable e || is_read_closed e || is_error e

-- whether an event says that a write has something to tell
abbrev pub writes : Event → Bool
writes e = is_writable e || is_write_closed e || is_error e

-- whether an event says that the peer will send no more, or that the socket failed
abbrev pub ends_reading : Event → Bool
ends_reading e = is_read_closed e || is_error e

-- the directions of two tests, of reading and of writing: both where neither holds
abbrev pub dirs_if : Bool → Bool → Dirs
dirs_if true true = Ways.Both
dirs_if true false = Ways.Read
dirs_if false true = Ways.Write
dirs_if false false = Ways.Both

-- the directions that an event names
abbrev pub dirs_of : Event → Dirs
dirs_of e = dirs_if (reads e) (writes e)

-- the report that an event makes, by its token: the last 1,024 tokens are those of links that linger
abbrev pub report_of : Event → Option Report
report_of e =
    if nat_lt (event_token e).0 18446744073709550592
    then Some (opening_of (event_token e).0, dirs_of e)
    else None

-- the reports that events make, in order
abbrev pub reports_of : List Event → List Report
reports_of events = filter_map report_of events
