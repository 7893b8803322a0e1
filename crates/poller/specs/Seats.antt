-- Inner: what the calls on a net's words say of the seat that makes them.
use Rattle.std.specs.Prelude.{◌≡◌, ℕ, List, []}
use Rattle.atomic_table.specs.Seated.{TableId}
use Rattle.atomic_table.specs.declared.shared.Seat.{Seat}
use Rattle.poller.specs.declared.net.Net.{Net}
use Rattle.poller.specs.declared.script.Script.{Script}
use Rattle.poller.specs.declared.seat_knowledge.Role.TheVariants.{Delivers, Reads}
use Rattle.poller.specs.declared.seat_knowledge.SeatKnowledge.{SeatKnowledge}
use Rattle.poller.specs.Deliveries.{limits_of}

-- which net it is
abbrev pub table_of : Net → TableId
table_of net = net.table.shared.table_id

-- the scripts that the net was made of
abbrev pub scripts_of : Net → List Script
scripts_of net = net.table.shared.key.items

-- what a seat knows
abbrev pub knowledge_of : Seat ℕ SeatKnowledge → SeatKnowledge
knowledge_of seat = seat.me.0

-- the seat is one of the net's
abbrev pub IsOf : Net → Seat ℕ SeatKnowledge → Type 0
IsOf net seat =
    (seat.table_id ≡ table_of net) × (seat.me.1 ≡ [])
    × ((knowledge_of seat).limits ≡ limits_of (scripts_of net))

-- the seat reads a word
abbrev pub IsReader : Seat ℕ SeatKnowledge → ℕ → Type 0
IsReader seat word = (knowledge_of seat).role ≡ Reads word

-- the seat raises a word that another seat reads, and no other word
abbrev pub IsDeliverer : Seat ℕ SeatKnowledge → ℕ → Type 0
IsDeliverer seat word = (knowledge_of seat).role ≡ Delivers word
