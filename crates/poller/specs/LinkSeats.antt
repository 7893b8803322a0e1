-- Inner: what a link or a listener knows of its net, and what a poller has of it.
use Rattle.std.specs.Prelude.{◌≡◌, ℕ, ◌≤◌, ◌<◌, Bool, false, List, Option, Some, IfSome, length, nat_lt}
use Rattle.std.specs.Prelude.{slice_index}
use Rattle.atomic_table.specs.Seated.{TableId}
use Rattle.atomic_table.specs.declared.shared.Seat.{Seat}
use Rattle.poller.specs.declared.net.Net.{Net}
use Rattle.poller.specs.declared.script.Script.{Script}
use Rattle.poller.specs.declared.seat_knowledge.Role.TheVariants.{Raises}
use Rattle.poller.specs.declared.seat_knowledge.SeatKnowledge.{SeatKnowledge}
use Rattle.poller.specs.Deliveries.{limits_of}
use Rattle.poller.specs.Seats.{IsDeliverer, IsOf, IsReader, scripts_of, knowledge_of, table_of}

-- the seat that delivers a word: the net and the word, how many steps were delivered and how many
-- there are, what was last found in the word's note, which is 0 where the link hadn't left, and
-- how often a poller looked there
pub record DeliveryState : Type 0 where
  pub table : TableId
  pub word : ℕ
  pub delivered : ℕ
  pub limit : ℕ
  pub left : ℕ
  pub looks : ℕ

-- what a link or a listener knows of its net: the net and its scripts, its word, how many steps it last found
-- delivered and how often it looked, and the seat that delivers its word, until a poller has it
pub record LinkSeatState : Type 0 where
  pub table : TableId
  pub scripts : List Script
  pub word : ℕ
  pub delivered : ℕ
  pub looks : ℕ
  pub delivery : Option DeliveryState

-- the fields of a seat that delivers, as they are known
abbrev pub delivery_state : Net → Seat ℕ SeatKnowledge → ℕ → ℕ → ℕ → DeliveryState
delivery_state net seat word delivered limit = record {
  table = table_of net;
  word = word;
  delivered = delivered;
  limit = limit;
  left = (knowledge_of seat).left;
  looks = (knowledge_of seat).looks;
}

-- a seat that delivers raises its word, and knows how often
pub record IsDeliverySeat (net : Net) (seat : Seat ℕ SeatKnowledge) (word delivered limit : ℕ)
    (left : Bool) : Type 0 where
  pub own : IsOf net seat
  pub inside : word < length (limits_of (scripts_of net))
  pub alone : IsDeliverer seat word
  pub known : (knowledge_of seat).seen ≡ delivered
  pub most : limit ≡ slice_index (limits_of (scripts_of net)) word
  pub within : delivered ≤ limit
  pub noted : left ≡ nat_lt 0 (knowledge_of seat).left

-- a link's seat reads its word and hasn't noted that it leaves, and the seat that delivers the word, where it
-- has it, is of the same net and word
pub record IsLinkSeat (net : Net) (seat : Seat ℕ SeatKnowledge) (word : ℕ)
    (delivery : Option DeliveryState) : Type 0 where
  pub own : IsOf net seat
  pub inside : word < length (limits_of (scripts_of net))
  pub reads : IsReader seat word
  pub stands : (knowledge_of seat).gone ≡ false
  pub has_delivery : IfSome delivery (λ f.
      (f.table ≡ table_of net) × (f.word ≡ word) × (f.limit ≡ slice_index (limits_of (scripts_of net)) word))

-- the words of a net that weren't dealt: the net, its scripts, and the next word
pub record DealerState : Type 0 where
  pub table : TableId
  pub scripts : List Script
  pub next : ℕ

-- a dealer's seat raises the words from the next one on, none of which was raised or is read by anyone
pub record IsDealer (net : Net) (seat : Seat ℕ SeatKnowledge) (next : ℕ) : Type 0 where
  pub own : IsOf net seat
  pub within : next ≤ length (limits_of (scripts_of net))
  pub raises : (knowledge_of seat).role ≡ Raises next (length (limits_of (scripts_of net)))
  pub fresh : ((knowledge_of seat).seen ≡ 0) × ((knowledge_of seat).looks ≡ 0)
      × ((knowledge_of seat).left ≡ 0) × ((knowledge_of seat).gone ≡ false)

-- the seat that delivers the next word
abbrev pub fresh_delivery : DealerState → DeliveryState
fresh_delivery d = record {
  table = d.table;
  word = d.next;
  delivered = 0;
  limit = slice_index (limits_of d.scripts) d.next;
  left = 0;
  looks = 0;
}

-- the seat that reads the next word, with the one that delivers it
abbrev pub fresh_link_seat : DealerState → LinkSeatState
fresh_link_seat d = record {
  table = d.table;
  scripts = d.scripts;
  word = d.next;
  delivered = 0;
  looks = 0;
  delivery = Some (fresh_delivery d);
}
