-- What a step of the queue showed, seen from further off; and how the queue's pass grows.
use Rattle.std.proofs.Common.{◌≡◌, ℕ, List, [], ◌∷◌, length, sym, ap, ◌∙◌, subst}
use mathlib.Core.List.{IsPrefix}
use Rattle.reg_keys.specs.declared.event.EventName.{EventName}
use Rattle.turn_cell.specs.declared.view.View.{View}
use Rattle.turn_cell.specs.History.{Log, entries_in, Ahead}
use Rattle.turn_cell.specs.View.{own_entries, seat_of}
use Rattle.turn_cell.specs.Laws.{entries_in_ahead}
use Rattle.ready_queue.specs.declared.rule.Move.{Move}
use Rattle.ready_queue.specs.History.{QueueLog, held_after, IsQueueHistory}
use Rattle.ready_queue.specs.Calls.{HasMoved, WasFull, WasEmpty}
use Rattle.dispatcher.specs.Stripes.{HasGrown}
use Rattle.dispatcher.specs.Books.{WasWithin, WasFullWithin, WasEmptyWithin}
use Rattle.turn_cell.specs.ListLaws.{prefix_refl, prefix_trans, begins_two, begins_one}

pub moved_grown : (capacity : ℕ) (m : Move) (v w : View Move) → HasMoved capacity m v w → HasGrown v w
moved_grown capacity m v w k = record {
  name = ap (λ (z : View Move). z.name) k.rest;
  classes = ap (λ (z : View Move). z.classes) k.rest;
  seen = begins_two v.seen k.between ((seat_of v, m) ∷ []) w.seen k.seen;
  own = begins_one (own_entries v) ((seat_of v, m) ∷ []) (own_entries w) k.own;
  met = λ h. ap (λ (z : View Move). z.met_spent) k.rest ∙ h;
}

module _ (capacity : ℕ) (P : List EventName → Type 0) where
  pub within_later : (u v w : View Move) → WasWithin capacity P u v → HasGrown v w → WasWithin capacity P u w
  within_later u v w k g = record {
    log = k.log;
    begins = k.begins;
    own = prefix_trans (entries_in u.classes k.log) (own_entries v) (own_entries w) k.own g.own;
    legal = k.legal;
    was = k.was;
  }

  pub within_sooner : (u v w : View Move) → HasGrown u v → WasWithin capacity P v w → WasWithin capacity P u w
  within_sooner u v w g k = record {
    log = k.log;
    begins = prefix_trans u.seen v.seen k.log g.seen k.begins;
    own = subst (λ (c : List (ℕ × ℕ)). IsPrefix (entries_in c k.log) (own_entries w)) g.classes k.own;
    legal = k.legal;
    was = k.was;
  }

  -- a step of a call that moved nothing
  at_step : (v w : View Move) (log : QueueLog) → w ≡ v → Ahead v.classes v.seen log
      → IsQueueHistory capacity log → P (held_after log) → WasWithin capacity P v w
  at_step v w log same ahead legal was =
      let own : entries_in v.classes log ≡ own_entries v =
      ap (entries_in v.classes) ahead.1 ∙ entries_in_ahead v.classes v.seen ahead.0 ahead.2 in
      record {
        log = log;
        begins = begins_one v.seen ahead.0 log ahead.1;
        own =
            subst (λ (z : View Move). IsPrefix (entries_in v.classes log) (own_entries z)) (sym same)
            (subst (λ (l : Log Move). IsPrefix l (own_entries v)) (sym own) (prefix_refl (own_entries v)));
        legal = legal;
        was = was;
      }

pub full_here : (capacity : ℕ) (v w : View Move) → WasFull capacity v w → WasFullWithin capacity v w
full_here capacity v w k =
    at_step capacity (λ events. length events ≡ capacity) v w k.log k.same k.ahead k.legal k.full

pub empty_here : (capacity : ℕ) (v w : View Move) → WasEmpty capacity v w → WasEmptyWithin capacity v w
empty_here capacity v w k = at_step capacity (λ events. events ≡ []) v w k.log k.same k.ahead k.legal k.empty
