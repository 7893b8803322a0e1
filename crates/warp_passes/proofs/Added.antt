-- What a step on a cell adds to what its pass did.
use Rattle.std.proofs.Common.{◌≡◌, ℕ, List, [], ◌∷◌, ◌++◌, map, sym, ap, ◌∙◌}
use Rattle.std.proofs.lemmas.List.{map-append, append-nil, append_assoc}
use Rattle.turn_cell.specs.declared.view.View.{View}
use Rattle.turn_cell.specs.History.{Log, entries_in}
use Rattle.turn_cell.specs.View.{own_entries, seat_of}
use Rattle.turn_cell.specs.Calls.{Entered, WasSpent}
use Rattle.turn_cell.specs.ListLaws.{begins_one, begins_two}
use Rattle.dispatcher.specs.Laws.{grown_as, grown_same, grown_then}
use Rattle.warp_passes.specs.Own.{entries_of, Adds}

module _ {E : Type 0} where
  pub adds_none : (v : View E) → Adds [] v v
  adds_none v = record { own = sym (append-nil (entries_of v)); grown = grown_same v }

  pub adds_then : (xs ys : List E) (u v w : View E) → Adds xs u v → Adds ys v w → Adds (xs ++ ys) u w
  adds_then xs ys u v w a b = record {
    own = b.own ∙ (ap (λ (l : List E). l ++ ys) a.own ∙ append_assoc (entries_of u) xs ys);
    grown = grown_then u v w a.grown b.grown;
  }

module _ {P E : Type 0} (stands : P → Log E → Type 0) (name_of : P → List ℕ) where
  pub entered_adds : (e : E) (v w : View E) → Entered stands name_of e v w → Adds (e ∷ []) v w
  entered_adds e v w s = record {
    own = ap (map (λ (x : ℕ × E). x.1)) s.own
        ∙ map-append (λ (x : ℕ × E). x.1) (own_entries v) ((seat_of v, e) ∷ []);
    grown = record {
      name = s.name;
      classes = s.classes;
      seen = begins_two v.seen s.between ((seat_of v, e) ∷ []) w.seen s.seen;
      own = begins_one (own_entries v) ((seat_of v, e) ∷ []) (own_entries w) s.own;
      met = λ m. s.met_spent ∙ m;
    };
  }

  pub spent_adds : (v w : View E) → WasSpent {E = E} stands name_of v w → Adds [] v w
  spent_adds v w s = record {
    own = ap (map (λ (x : ℕ × E). x.1)) same ∙ sym (append-nil (entries_of v));
    grown = grown_as v w s.unmoved.name s.unmoved.seen s.unmoved.classes (λ _. s.met_spent);
  }
    where
      same : own_entries w ≡ own_entries v
      same = λ k. entries_in (s.unmoved.classes k) (s.unmoved.seen k)
