-- What the calls say, from what their steps told.
use Rattle.std.proofs.Common.{◌≡◌, ℕ, [], ◌∷◌, ◌++◌, length, sym, ap, ◌∙◌}
use Rattle.std.proofs.lemmas.List.{nil_from_length}
use Rattle.crossbeam_queue.specs.Fifo.{Held}
use Rattle.turn_cell.specs.declared.view.View.{View}
use Rattle.turn_cell.specs.Classes.{AreClasses, first_of}
use Rattle.turn_cell.specs.History.{Foreign, entries_in}
use Rattle.turn_cell.specs.View.{own_entries}
use Rattle.ready_queue.specs.declared.rule.Move.{Move}
use Rattle.ready_queue.specs.History.{QueueLog}
use Rattle.ready_queue.specs.Rule.{saw, AddsMove, Learned}
use Rattle.ready_queue.specs.Calls.{untold, HasMoved, WasFull, WasEmpty}

abbrev Known : Type 0
Known = View Move

-- what a law says of own entries, of this pass and this move
abbrev OwnGrows : Known → Move → Type 0
OwnGrows v m =
    (between : QueueLog) → AreClasses v.classes → Foreign v.classes between
    → entries_in v.classes ((v.seen ++ between) ++ (first_of v.classes, m) ∷ [])
    ≡ own_entries v ++ (first_of v.classes, m) ∷ []

pub has_moved : (capacity : ℕ) (m : Move) (v w : Known) → OwnGrows v m
    → v.name ≡ capacity ∷ [] → AddsMove m v w → HasMoved capacity m (untold v) (untold w)
has_moved capacity m v w grows name h = record {
  between = h.0;
  seen = ap (λ (x : Known). x.seen) h.1;
  foreign = h.2;
  own = ap own_entries h.1 ∙ grows h.0 h.3 h.2;
  rest = ap untold h.1 ∙ ap (λ (l : QueueLog). saw l (untold v)) (sym (ap (λ (x : Known). x.seen) h.1));
  legal = h.4 capacity name;
}

pub was_full : (capacity : ℕ) (v w : Known) → w ≡ v → v.name ≡ capacity ∷ [] → Held capacity (Learned v)
    → WasFull capacity (untold v) (untold w)
was_full capacity v w same name h = record {
  same = ap untold same;
  log = h.2.log;
  ahead = h.2.ahead;
  legal = h.2.legal capacity name;
  full = ap length h.2.holds ∙ h.1;
}

pub was_empty : (capacity : ℕ) (v w : Known) → w ≡ v → v.name ≡ capacity ∷ [] → Held 0 (Learned v)
    → WasEmpty capacity (untold v) (untold w)
was_empty capacity v w same name h = record {
  same = ap untold same;
  log = h.2.log;
  ahead = h.2.ahead;
  legal = h.2.legal capacity name;
  empty = h.2.holds ∙ nil_from_length h.0 h.1;
}
