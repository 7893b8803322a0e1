-- Each step keeps the rule of the queue.
use Rattle.std.proofs.Common.{◌≡◌, ℕ, ◌%◌, ◌^◌, ◌<◌, ◌≢◌, inl, ⊎_elim, List, [], ◌∷◌, ◌++◌, length, set}
use Rattle.std.proofs.Common.{false, sym, refl, ap, ◌∙◌, subst, arith, true≢false}
use Rattle.std.specs.Prelude.{Some}
use mathlib.Core.Option.{some}
use lib.ListN.{get_elem?}
use Rattle.crossbeam_queue.proofs.Lists.{at_set, at_snoc}
use Rattle.crossbeam_queue.specs.Fifo.{Pushes, Pops, Forks, Merges, Learns}
use Rattle.reg_keys.specs.declared.event.EventName.{EventName}
use Rattle.turn_cell.specs.declared.view.View.{View}
use Rattle.turn_cell.specs.Classes.{Within, Apart, first_of}
use Rattle.turn_cell.specs.History.{Foreign, AtFirsts}
use Rattle.turn_cell.specs.View.{seat_of, left_of, right_of, both_of, gone_view}
use Rattle.turn_cell.specs.ClassLaws.{left_within, right_within, halves_apart, halved_are, other_are}
use Rattle.turn_cell.specs.ClassLaws.{halved_firsts, other_out, are_append, append_full, halved_full}
use Rattle.turn_cell.specs.ClassLaws.{other_full}
use Rattle.turn_cell.specs.Laws.{one_item_at, stays_elsewhere, first_within, only_first, only_outside}
use Rattle.turn_cell.specs.Laws.{firsts_snoc, ahead_snoc, ahead_here, firsts_before, ahead_less, firsts_each}
use Rattle.turn_cell.specs.Laws.{firsts_both, narrowed_apart, cut_apart, joined_apart, joined}
use Rattle.ready_queue.specs.declared.rule.Move.{Move}
use Rattle.ready_queue.specs.declared.rule.Move.TheVariants.{Put, Taken}
use Rattle.ready_queue.specs.History.{QueueLog, after, behind, held_after, MayMove, IsQueueHistory}
use Rattle.ready_queue.specs.Rule.{Sees, Kept, newcomer, made_for, saw, AddsMove, Learned}
use Rattle.ready_queue.proofs.Moves.{held_snoc, legal_snoc}

abbrev Known : Type 0
Known = View Move

-- a queue has one capacity
one_capacity : (a b : ℕ) → a ∷ [] ≡ b ∷ [] → a ≡ b
one_capacity a b e = ap first e
  where
    first : List ℕ → ℕ
    first [] = 0
    first (x ∷ xs) = x

legal_by_name : (capacity : ℕ) (log : QueueLog) (name : List ℕ)
    → name ≡ capacity ∷ [] → IsQueueHistory capacity log → (c : ℕ) → name ≡ c ∷ [] → IsQueueHistory c log
legal_by_name capacity log name is legal c at =
    subst (λ (n : ℕ). IsQueueHistory n log) (one_capacity capacity c (sym is ∙ at)) legal

-- the pass moves
moves : (items : List EventName) (views : List Known) (r : Kept items views)
    (port : ℕ) (v : Known) (m : Move) (items' : List EventName)
    → get_elem? views port ≡ some v → v.gone ≡ false
    → MayMove r.capacity (held_after r.log) m → after (held_after r.log) m ≡ items'
    → (w : Known) × Kept items' (set views port w) × AddsMove m v w
moves items views r port v m items' at fresh may is = let see = r.sights port v at fresh in
    let x : ℕ × Move = (seat_of v, m) in
    let log' : QueueLog = r.log ++ x ∷ [] in
    let w : Known = saw log' v in
    let legal' : IsQueueHistory r.capacity log' = legal_snoc r.capacity [] r.log x r.legal may in
    let inside : Within x.0 v.classes = first_within v.classes see.2 see.1 in (
      w,
      record {
        capacity = r.capacity;
        log = log';
        legal = legal';
        holds = held_snoc [] r.log x ∙ is;
        sights = stays_elsewhere (λ j (d : Known). d.gone ≡ false → Sees r.capacity log' d) views port w
            (λ _. (
              see.0,
              see.1,
              see.2,
              ahead_here v.classes log',
              firsts_snoc v.classes r.log x see.4 (only_first v.classes see.1),
              see.5,
            ))
            (λ j d ne e u.
            let k = r.sights j d e u in
            let out : ¬ (Within x.0 d.classes) =
            λ h. r.apart port j v d (λ q. ne (sym q)) at e fresh u x.0 inside h in (
              k.0,
              k.1,
              k.2,
              ahead_snoc d.classes d.seen r.log x k.3 out,
              firsts_snoc d.classes r.log x k.4 (only_outside x.0 d.classes out),
              k.5,
            ));
        apart =
            narrowed_apart (λ (d : Known). d.classes) (λ (d : Known). d.gone) views port v w at fresh
            (λ n h. h) r.apart;
      },
      (
        see.3.0,
        ap (λ (l : QueueLog). saw (l ++ x ∷ []) v) see.3.1,
        see.3.2,
        see.1,
        legal_by_name r.capacity log' v.name see.0 legal',
      ),
    )

pub puts : (n port : ℕ) (v : Known) (e : EventName) → v.gone ≡ false
    → v.name ≡ n ∷ [] → Pushes Kept n port v e (λ w. AddsMove (Put e) v w)
puts n port v e fresh name items views room r at = let see = r.sights port v at fresh in
    let short : length (held_after r.log) < r.capacity =
    let a = ap length r.holds in
    let b = one_capacity _ _ (sym see.0 ∙ name) in
    omega arith in
    moves items views r port v (Put e) (items ++ e ∷ []) at fresh short
    (ap (λ (l : List EventName). l ++ e ∷ []) r.holds)

pub takes : (port : ℕ) (v : Known) → v.gone ≡ false → Pops Kept port v (λ e w. AddsMove (Taken e) v w)
takes port v fresh e items views r at =
    moves (e ∷ items) views r port v (Taken e) items at fresh
    (r.holds ∙ ap (λ (l : List EventName). e ∷ l) (sym (ap behind r.holds))) (ap behind r.holds)

pub learns : (port : ℕ) (v : Known) → v.gone ≡ false → Learns Kept port v (Learned v)
learns port v fresh items views r at = let see = r.sights port v at fresh in record {
  log = r.log;
  ahead = see.3;
  legal = legal_by_name r.capacity r.log v.name see.0 r.legal;
  holds = r.holds;
  fits = see.5;
  are = see.1;
  firsts = firsts_before v.classes v.seen see.3.0 (subst (AtFirsts v.classes) see.3.1 see.4);
}

-- a pass is cut in two
pub halves : (port : ℕ) (v : Known) → v.gone ≡ false → Forks Kept port v (left_of v) (right_of v)
halves port v fresh items views r at =
    let see = r.sights port v at fresh in
    let l : Known = left_of v in
    let n : Known = right_of v in
    let vs : List Known = set views port l in
    let inside : (k : ℕ) → Within k l.classes → Within k v.classes = λ k. left_within k v.classes see.1 in
    let inside' : (k : ℕ) → Within k n.classes → Within k v.classes = λ k. right_within k v.classes in
    let seen_l : Sees r.capacity r.log l = (
      see.0,
      halved_are v.classes see.1,
      halved_full v.classes see.2,
      ahead_less v.classes l.classes v.seen r.log inside see.3,
      firsts_each v.classes l.classes r.log (λ k. halved_firsts k v.classes see.1) see.4,
      see.5,
    ) in
    let seen_n : Sees r.capacity r.log n = (
      see.0,
      other_are v.classes see.1,
      other_full v.classes see.2,
      ahead_less v.classes n.classes v.seen r.log inside' see.3,
      firsts_each v.classes n.classes r.log
          (λ k o. only_outside k n.classes (other_out k v.classes see.1 o)) see.4,
      tt,
    ) in record {
      capacity = r.capacity;
      log = r.log;
      legal = r.legal;
      holds = r.holds;
      sights =
          λ j d e u. ⊎_elim (λ h. stays_elsewhere (λ j (d : Known). d.gone ≡ false → Sees r.capacity r.log d)
          views port l (λ _. seen_l) (λ j d _. r.sights j d) j d h u)
          (λ (t : n ≡ d). subst (Sees r.capacity r.log) t seen_n) (at_snoc vs n d j e);
      apart =
          cut_apart (λ (d : Known). d.classes) (λ (d : Known). d.gone) views port v l n at fresh
          inside inside' (halves_apart v.classes see.1) r.apart;
    }

-- two passes are put together
pub merges : (port : ℕ) (v : Known) (other : ℕ) (w : Known) → v.gone ≡ false → w.gone ≡ false
    → Merges Kept port v other w (both_of v w) gone_view
merges port v other w fresh fresh' items views r at apart there =
    let b : Known = both_of v w in
    let vs : List Known = set views port b in
    let old : get_elem? views other ≡ some w = ⊎_elim (λ (t : (other ≡ port) × (b ≡ w)). absurd (apart t.0))
    (λ (t : (other ≢ port) × (get_elem? views other ≡ some w)). t.1) (at_set views port other b w there) in
    let sv = r.sights port v at fresh in
    let sw = r.sights other w old fresh' in
    let two : Apart v.classes w.classes = r.apart port other v w (λ e. apart (sym e)) at old fresh fresh' in
    let fit = joined v.classes w.classes v.seen w.seen r.log sv.3 sw.3 in
    let sees_b : Sees r.capacity r.log b = (
      sv.0,
      are_append v.classes w.classes sv.1 sw.1 two,
      append_full v.classes w.classes sv.2,
      fit.0,
      firsts_both v.classes w.classes r.log sv.4 sw.4,
      fit.1,
    ) in record {
      capacity = r.capacity;
      log = r.log;
      legal = r.legal;
      holds = r.holds;
      sights =
          stays_elsewhere (λ j (d : Known). d.gone ≡ false → Sees r.capacity r.log d) vs other gone_view
          (λ u. absurd (true≢false u))
          (λ j d _. stays_elsewhere (λ j (d : Known). d.gone ≡ false → Sees r.capacity r.log d) views port b
          (λ _. sees_b) (λ j d _. r.sights j d) j d);
      apart =
          joined_apart (λ (d : Known). d.classes) (λ (d : Known). d.gone) views port other v w b
          gone_view apart at old fresh fresh' refl refl r.apart;
    }

pub starts : Kept [] (newcomer ∷ [])
starts = record {
  capacity = 0;
  log = [];
  legal = tt;
  holds = refl;
  sights =
      λ j v e _. (let h =
      one_item_at newcomer j v e in subst (Sees 0 []) h.1
      (refl, (omega arith, (λ n _ w. w), tt), (λ e. absurd (grind arith)), ([], refl, tt), tt, tt));
  apart =
      λ i j v w ne ei ej _ _.
      absurd (ne ((one_item_at newcomer i v ei).0 ∙ sym (one_item_at newcomer j w ej).0));
}

-- the pass that has every seat names the capacity of a queue that nothing was put into
pub begins : (port c : ℕ) → Forks Kept port newcomer (made_for (Some c) newcomer) gone_view
begins port c items views r at =
    let v : Known = newcomer in
    let l : Known = made_for (Some c) v in
    let n : Known = gone_view in
    let vs : List Known = set views port l in
    let see = r.sights port v at refl in
    let none : r.log ≡ [] = see.3.1 ∙ nothing see.3.0 see.3.2 in
    let only : (j : ℕ) (d : Known) → j ≢ port → get_elem? views j ≡ some d → d.gone ≡ false
    → ⊥ = λ j d ne e u.
    (let k = r.sights j d e u in r.apart j port d v ne e at u refl (first_of d.classes)
    (first_within d.classes k.2 k.1) (inl (every (first_of d.classes)))) in
    let sees_l : Sees c [] l = (refl, see.1, see.2, ([], refl, tt), tt, tt) in record {
      capacity = c;
      log = [];
      legal = tt;
      holds = ap held_after (sym none) ∙ r.holds;
      sights =
          λ j d e u. ⊎_elim (λ h. stays_elsewhere (λ j (d : Known). d.gone ≡ false → Sees c [] d) views port l
          (λ _. sees_l) (λ j d ne e u. absurd (only j d ne e u)) j d h u)
          (λ (t : n ≡ d). absurd (true≢false (ap (λ (x : Known). x.gone) t ∙ u))) (at_snoc vs n d j e);
      apart =
          cut_apart (λ (d : Known). d.classes) (λ (d : Known). d.gone) views port v l n at refl
          (λ k h. h) (λ k h. absurd h) (λ k a b. b) r.apart;
    }
  where
    every : (n : ℕ) → n % 2 ^ 0 ≡ 0
    every n = omega arith

    nothing : (l : QueueLog) → Foreign ((0, 0) ∷ []) l → l ≡ []
    nothing [] f = refl
    nothing (e ∷ es) f = absurd (f.0 (inl (every e.0)))
