-- To cut a pass in two, and to join two passes, keeps the rule of a turn cell.
use Rattle.std.proofs.Common.{◌≡◌, ℕ, ◌≢◌, ⊎_elim, List, set, false, sym, refl, subst, true≢false}
use Rattle.std.specs.Prelude.{Option}
use mathlib.Core.Option.{some}
use lib.ListN.{get_elem?}
use Rattle.atomic_table.specs.Table.{State, Splits, Joins}
use Rattle.atomic_table.proofs.Lists.{at_set, at_snoc}
use Rattle.turn_cell.specs.declared.view.Turn.TheVariants.{Idle}
use Rattle.turn_cell.specs.declared.view.View.{View}
use Rattle.turn_cell.specs.Classes.{Within, Apart}
use Rattle.turn_cell.specs.History.{Log}
use Rattle.turn_cell.specs.View.{left_of, right_of, both_of, gone_view}
use Rattle.turn_cell.specs.Rule.{Sees, KnowsTurn, Kept}
use Rattle.turn_cell.specs.ClassLaws.{left_within, right_within, halves_apart, halved_are, other_are}
use Rattle.turn_cell.specs.ClassLaws.{halved_firsts, other_out, are_append}
use Rattle.turn_cell.specs.Laws.{stays_elsewhere, only_outside, ahead_less, firsts_each, firsts_both}
use Rattle.turn_cell.specs.Laws.{cut_apart, joined_apart, joined}

module _ {E P : Type 0} (stands : P → Log E → Type 0) (name_of : P → List ℕ) (name : List ℕ) where
  abbrev St : Type 0
  St = State (Option P) (View E)

  abbrev Rule : St → Type 0
  Rule = Kept stands name_of name

  pub splits : (id : ℕ) (v : View E) → v.turn ≡ Idle → v.gone ≡ false
      → Splits Rule id v (left_of v) (right_of v)
  splits id v idle fresh s r at =
      let see = r.sights id v at fresh in
      let l : View E = left_of v in
      let n : View E = right_of v in
      let vs : List (View E) = set s.views id l in
      let inside : (k : ℕ) → Within k l.classes → Within k v.classes = λ k. left_within k v.classes see.1 in
      let inside' : (k : ℕ) → Within k n.classes → Within k v.classes = λ k. right_within k v.classes in
      let seen_l : Sees name r.log l = (
        see.0,
        halved_are v.classes see.1,
        ahead_less v.classes l.classes v.seen r.log inside see.2,
        firsts_each v.classes l.classes r.log (λ k. halved_firsts k v.classes see.1) see.3,
        see.4,
      ) in
      let seen_n : Sees name r.log n = (
        see.0,
        other_are v.classes see.1,
        ahead_less v.classes n.classes v.seen r.log inside' see.2,
        firsts_each v.classes n.classes r.log
            (λ k o. only_outside k n.classes (other_out k v.classes see.1 o)) see.3,
        tt,
      ) in record {
        log = r.log;
        holder = r.holder;
        word = r.word;
        short = r.short;
        home = r.home;
        turns =
            λ j d e. ⊎_elim
            (stays_elsewhere (λ j (d : View E). KnowsTurn stands name_of r.holder r.log s.homes j d.turn)
            s.views id l (subst (KnowsTurn stands name_of r.holder r.log s.homes id) (sym idle) tt)
            (λ j d _. r.turns j d) j d)
            (λ (t : n ≡ d).
            subst (λ (x : View E). KnowsTurn stands name_of r.holder r.log s.homes j x.turn) t tt)
            (at_snoc vs n d j e);
        sights =
            λ j d e u. ⊎_elim (λ h. stays_elsewhere (λ j (d : View E).
            d.gone ≡ false → Sees name r.log d) s.views id l (λ _. seen_l) (λ j d _. r.sights j d) j d h u)
            (λ (t : n ≡ d). subst (Sees name r.log) t seen_n) (at_snoc vs n d j e);
        apart =
            cut_apart (λ (d : View E). d.classes) (λ (d : View E). d.gone) s.views id v l n at fresh
            inside inside' (halves_apart v.classes see.1) r.apart;
      }

  pub joins : (id : ℕ) (v : View E) (other : ℕ) (w : View E) → v.turn ≡ Idle → v.gone ≡ false
      → w.gone ≡ false → Joins Rule id v other w (both_of v w) gone_view
  joins id v other w idle fresh fresh' s r at apart there =
      let b : View E = both_of v w in
      let vs : List (View E) = set s.views id b in
      let old : get_elem? s.views other ≡ some w = ⊎_elim (λ (t : (other ≡ id) × (b ≡ w)). absurd (apart t.0))
      (λ (t : (other ≢ id) × (get_elem? s.views other ≡ some w)). t.1) (at_set s.views id other b w there) in
      let sv = r.sights id v at fresh in
      let sw = r.sights other w old fresh' in
      let two : Apart v.classes w.classes = r.apart id other v w (λ e. apart (sym e)) at old fresh fresh' in
      let fit = joined v.classes w.classes v.seen w.seen r.log sv.2 sw.2 in
      let sees : Sees name r.log b = (
        sv.0,
        are_append v.classes w.classes sv.1 sw.1 two,
        fit.0,
        firsts_both v.classes w.classes r.log sv.3 sw.3,
        fit.1,
      ) in record {
        log = r.log;
        holder = r.holder;
        word = r.word;
        short = r.short;
        home = r.home;
        turns =
            stays_elsewhere (λ j (d : View E). KnowsTurn stands name_of r.holder r.log s.homes j d.turn)
            vs other gone_view tt
            (λ j d _.
            stays_elsewhere (λ j (d : View E). KnowsTurn stands name_of r.holder r.log s.homes j d.turn)
            s.views id b (subst (KnowsTurn stands name_of r.holder r.log s.homes id) (sym idle) tt)
            (λ j d _. r.turns j d) j d);
        sights =
            stays_elsewhere (λ j (d : View E). d.gone ≡ false → Sees name r.log d) vs other gone_view
            (λ u. absurd (true≢false u))
            (λ j d _. stays_elsewhere (λ j (d : View E). d.gone ≡ false → Sees name r.log d) s.views id b
            (λ _. sees) (λ j d _. r.sights j d) j d);
        apart =
            joined_apart (λ (d : View E). d.classes) (λ (d : View E). d.gone) s.views id other v w
            b gone_view apart at old fresh fresh' refl refl r.apart;
      }
