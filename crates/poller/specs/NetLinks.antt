-- To be believed: a link of a memory net: what its script has, what was delivered of it,
-- and what it gave and took.
use Rattle.std.specs.Prelude.{◌≡◌, ℕ, ◌+◌, ◌-◌, ◌≤◌, ◌==◌, Bool, false, List, [], ◌∷◌, Option, Some}
use Rattle.std.specs.Prelude.{if◌then◌else◌, length, drop, take, min, slice_index}
use Rattle.atomic_table.specs.Seated.{TableId}
use Rattle.outside.specs.Causes.{LinkTold, bytes_got}
use Rattle.outside.specs.Counts.{Counts, nothing_counted}
use Rattle.outside.specs.Room.{RoomState}
use Rattle.outside.specs.declared.link.ReadOut.{ReadOut}
use Rattle.outside.specs.declared.link.ReadOut.TheVariants as Reads
use Rattle.outside.specs.declared.link.WriteOut.{WriteOut}
use Rattle.outside.specs.declared.link.WriteOut.TheVariants as Writes
use Rattle.poller.specs.declared.mem_link.MemLink.{MemLink}
use Rattle.poller.specs.declared.script.Script.{Script}
use Rattle.poller.specs.declared.script.ScriptStep.{ScriptStep}
use Rattle.poller.specs.Deliveries.{limits_of}
use Rattle.poller.specs.LinkSeats.{DeliveryState, LinkSeatState}
use Rattle.poller.specs.Scripts.{allowed_in, pieces_in, room_at, steps_at}

-- the number and the steps of its script, how many of them it last found delivered and how often it looked,
-- how many bytes it gave, whether it answered that the input is over, what was sent with the room for it, and
-- the way of its word into a poller, until it was added to one
pub record NetLink : Type 0 where
  pub number : ℕ
  pub steps : List ScriptStep
  pub delivered : ℕ
  pub looks : ℕ
  pub given : ℕ
  pub ended : Bool
  pub room : RoomState
  pub delivery : Option DeliveryState

-- the number of a seat's script
abbrev pub number_of : LinkSeatState → ℕ
number_of seat = seat.word - 1

-- the steps of a seat's script
abbrev pub script_of : LinkSeatState → List ScriptStep
script_of seat = steps_at seat.scripts (number_of seat)

-- what a link stands for
abbrev pub net_link_of : MemLink → NetLink
net_link_of link = record {
  number = number_of link.seat;
  steps = script_of link.seat;
  delivered = link.seat.delivered;
  looks = link.seat.looks;
  given = link.given;
  ended = link.ended;
  room = link.room;
  delivery = link.seat.delivery;
}

-- how many answers were that the caller must wait, of reads and of writes
abbrev pub waits_of : MemLink → Counts
waits_of link = record { reads = link.read_waits.n; writes = link.write_waits.n }

-- the whole input
abbrev pub input_of : NetLink → List ℕ
input_of l = pieces_in l.steps

-- the bytes that were given
abbrev pub given_of : NetLink → List ℕ
given_of l = take l.given (input_of l)

-- it tells its bytes and its plan, and no fault
abbrev pub told_of : MemLink → LinkTold
told_of link =
    let l = net_link_of link in
    record {
      taken = Some (given_of l);
      sent = Some l.room.stored;
      ended = Some l.ended;
      plan = Some (l.number, input_of l);
      faults = nothing_counted;
      waits = waits_of link;
    }

-- the link of the script with a number, of which nothing was asked yet: its word is one more than its number,
-- and it carries the seat that delivers its word, which raises it once for each step
abbrev pub fresh_net_link : TableId → List Script → ℕ → NetLink
fresh_net_link table scripts n = record {
  number = n;
  steps = steps_at scripts n;
  delivered = 0;
  looks = 0;
  given = 0;
  ended = false;
  room = record { stored = []; size = room_at scripts n };
  delivery = Some (record {
    table = table;
    word = n + 1;
    delivered = 0;
    limit = slice_index (limits_of scripts) (n + 1);
    left = 0;
    looks = 0;
  });
}

-- the bytes that were delivered and not given
abbrev pub there_of : NetLink → List ℕ
there_of l = drop l.given (pieces_in (take l.delivered l.steps))

-- all steps were delivered
abbrev pub is_whole : NetLink → Bool
is_whole l = l.delivered == length l.steps

-- what a read answers, where these bytes are there: as many as fit; where there are none, that the input is
-- over once all steps were delivered, and else that the caller must wait
abbrev pub net_read_answer : Bool → List ℕ → ℕ → ReadOut
net_read_answer whole [] size = if whole then Reads.End else Reads.NotYet
net_read_answer whole (byte ∷ bytes) size = Reads.Got (min (length (byte ∷ bytes)) size)

-- how many bytes a link can take: once all steps were delivered what its room leaves, and before that no more
-- than what the allowances leave
abbrev pub can_take : NetLink → ℕ
can_take l =
    let free = l.room.size - length l.room.stored in
    if is_whole l then free else min free (allowed_in (take l.delivered l.steps) - length l.room.stored)

-- what a write answers to a piece of a length: as much as the link can take, or that the caller
-- must wait where that is nothing
abbrev pub net_write_answer : ℕ → ℕ → WriteOut
net_write_answer size can = if min size can == 0 then Writes.NotYet else Writes.Took (min size can)

-- a read finds by one load how many steps were delivered, and answers by what is there then
pub record ReadsNet (old new : NetLink) (result : ReadOut) (buf : List ℕ) : Type 0 where
  pub later : old.delivered ≤ new.delivered
  pub most : new.delivered ≤ length old.steps
  pub looked : new.looks ≡ old.looks + 1
  pub others : new
      ≡ record old { delivered = new.delivered; looks = new.looks; given = new.given; ended = new.ended }
  pub answer : result ≡ net_read_answer (is_whole new) (there_of (record old { delivered = new.delivered }))
      (length buf)
  pub bytes : bytes_got result buf ≡ bytes_got result (there_of (record old { delivered = new.delivered }))
  pub gives : new.given ≡ old.given + length (bytes_got result buf)

-- a write finds by one load how many steps were delivered, and takes what the link can take then
pub record WritesNet (old new : NetLink) (size : ℕ) (result : WriteOut) : Type 0 where
  pub later : old.delivered ≤ new.delivered
  pub most : new.delivered ≤ length old.steps
  pub looked : new.looks ≡ old.looks + 1
  pub others : new ≡ record old { delivered = new.delivered; looks = new.looks; room = new.room }
  pub answer : result ≡ net_write_answer size (can_take (record old { delivered = new.delivered }))

-- a link of which nothing changed but what it carries for a poller
pub record IsSameLink (old new : MemLink) : Type 0 where
  pub link : net_link_of new ≡ record (net_link_of old) { delivery = new.seat.delivery }
  pub waits : waits_of new ≡ waits_of old

-- a seat that a link may have: it isn't the listener's
abbrev pub IsLinks : LinkSeatState → Type 0
IsLinks seat = 1 ≤ seat.word
