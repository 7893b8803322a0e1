-- To be believed: where each event is that a call named, from a server's beginning to its end.
-- It is said in weights. With 1 for one event and 0 for the others a weight counts, so an equation of weights
-- that holds for every weight is one of events counted with repeats.
use Rattle.std.specs.Prelude.{◌≡◌, ℕ, ◌+◌, ◌<◌, ◌≤◌, List, [], ◌∷◌}
use Rattle.reg_keys.specs.declared.event.EventName.{EventName}
use Rattle.reg_keys.specs.Histories.{EventOut, events_out}
use Rattle.reg_keys.specs.Tests.{one_if, same_event, IsIn}
use Rattle.turn_cell.specs.Weights.{weigh}
use Rattle.ready_queue.specs.History.{held_after}
use Rattle.event_mgr.specs.Manager.{seen_in}
use Rattle.event_mgr.specs.Stripes.{past_in}
use Rattle.dispatcher.specs.Entries.{named_by, dispatched_by}
use Rattle.dispatcher.specs.Stripes.{weigh_shown}
use Rattle.dispatcher.specs.Books.{Book, got, placed}
use Rattle.warp_passes.specs.Passes.{PassView, IsQueuePast}

module _ {L : Type 0} where
  -- the book of a dispatcher between two turns, by what its passes know and the events in its hand
  abbrev pub book_in : PassView L → Book
  book_in v = record { mgr = v.mgr; queue = v.queue; hand = v.hand; loose = []; next = [] }

  -- Since the beginning each event that the dispatcher's calls named, and each that it took from the queue, was
  -- put into the queue, was dispatched or is in its hand, as often as it was got
  abbrev pub KeepsEvents : PassView L → Type 0
  KeepsEvents v = (weight : EventName → ℕ) → got weight (book_in v) ≡ placed weight (book_in v)

-- the weight that counts one event
abbrev pub is_event : EventName → EventName → ℕ
is_event e x = one_if (same_event x e)

-- whatever holds passes of the shared things, by the function from each to what its pass knows
module _ {A L : Type 0} (known : A → PassView L) where
  -- the events that the calls of all dispatchers named
  abbrev pub all_named : (EventName → ℕ) → List A → ℕ
  all_named weight xs = weigh (λ x. weigh_shown named_by weight (known x).mgr) xs

  -- those that all of them dispatched
  abbrev pub all_dispatched : (EventName → ℕ) → List A → ℕ
  all_dispatched weight xs = weigh (λ x. weigh_shown dispatched_by weight (known x).mgr) xs

  -- those that lie in the queue, by what one of them has seen of its history
  abbrev pub queued : (EventName → ℕ) → A → ℕ
  queued weight x = weigh weight (held_after (known x).queue.seen)

  -- those in all hands
  abbrev pub all_in_hand : (EventName → ℕ) → List A → ℕ
  all_in_hand weight xs = weigh (λ x. weigh weight (known x).hand) xs

  -- An event is named once at most, and one that is out in a stripe's history was. Each that was named is in one
  -- place: by the queue's one history, whose moves were allowed, it lies in the queue, or it was dispatched, or it
  -- is in a hand. So of an event that is out, how often it is in any of these comes to one
  pub record ArePlaced (x : A) (xs : List A) : Type 0 where
    pub once : (e : EventName) → all_named (is_event e) (x ∷ xs) ≤ 1
    pub out : (s : ℕ) → s < 32 → (o : EventOut) → IsIn o (events_out s 1 (past_in (seen_in s (known x).mgr)))
        → all_named (is_event o.event) (x ∷ xs) ≡ 1
    pub allowed : IsQueuePast (known x).queue
    pub places : (weight : EventName → ℕ)
        → all_named weight (x ∷ xs)
        ≡ queued weight x + all_dispatched weight (x ∷ xs) + all_in_hand weight (x ∷ xs)

  -- the same of a list of them, the first of which has seen all histories, like each of them
  abbrev pub KeepAllEvents : List A → Type 0
  KeepAllEvents [] = Unit {0}
  KeepAllEvents (x ∷ xs) = ArePlaced x xs
