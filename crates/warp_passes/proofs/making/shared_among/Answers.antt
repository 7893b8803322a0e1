use Rattle.std.proofs.Common.{rules, ◌≡◌, ◌<◌, [], ◌∷◌, length, refl, sym, subst, arith}
use Rattle.std.specs.Prelude.{slice_get, Some}
use Rattle.std.proofs.lemmas.Option.{slice_get_read, get_or_from_slice_get}
use Rattle.std.proofs.lemmas.List.Elements.{All-nil, All-cons, All-set, All-append}
use Rattle.warp_passes.specs.Passes.{AreOf, pass_view, lawful_of}
use Rattle.warp_passes.specs.Levels.{IsNew, AreNewPasses}
use Rattle.warp_passes.proofs.NewPasses.{one_item, first_known, split_known, first_new, left_new, right_new}
use Rattle.warp_passes.proofs.making.shared_among.Goals as goal

pub loop-init : goal.loop-init
loop-init g c =
    let s = c.in_ok-shared.shared in
    let p = c.in_ok-shared.first in
    let e = c.in_ok-shared.ensures in
    let law = c.manager_passes_are_split_cell_by_cell.ensures.first in
    let it : c.push_reserved.new.self.items ≡ p ∷ [] = one_item c.in_ok-passes.passes.items
    c.push_reserved.new.self.items p c.in_ok-passes.ensures.items c.push_reserved.ensures.items in
    record {
      some = omega arith;
      count = search rules;
      room = search rules;
      new = subst (AreNewPasses s) (sym it) (record {
        own = All-cons (λ q. AreOf s q) p [] e.own (All-nil (λ q. AreOf s q));
        new =
            All-cons (λ q. IsNew (pass_view q)) p [] (first_new law (pass_view p) e.first)
            (All-nil (λ q. IsNew (pass_view q)));
        seats = c.split_passes_hold_all_seats.ensures.first p (first_known law (pass_view p) e.first);
      });
    }

pub loop-preserved : goal.loop-preserved
loop-preserved g c =
    let v = c.loop.invariant in
    let s = c.in_ok-shared.shared in
    let ps = c.loop.passes.items in
    let p = c.index_mut-first.result.now in
    let p' = c.split.new.pass in
    let o = c.in_ok-other.other in
    let cut = c.in_ok-other.ensures.split in
    let law = c.manager_passes_are_split_cell_by_cell.ensures.split in
    let count = v.count in
    let first = v.some in
    let some : 0 < length ps = omega arith in
    let at : slice_get ps 0 ≡ Some p =
    slice_get_read ps (length ps) 0 p refl some c.index_mut-first.ensures.value in
    let there = get_or_from_slice_get ps 0 p p at in
    let own = subst (λ q. AreOf s q) there (v.new.own 0 p some) in
    let new = subst (λ q. IsNew (pass_view q)) there (v.new.new 0 p some) in
    let lawful = lawful_of s p own in
    let it = c.push_reserved-in-loop.ensures.items in record {
      some = omega arith;
      count = search rules;
      room = search rules;
      new = subst (AreNewPasses s) (sym it) (record {
        own = All-append (λ q. AreOf s q) _ _ (All-set (λ q. AreOf s q) ps 0 p' c.split.ensures.own v.new.own)
            (All-cons (λ q. AreOf s q) o [] c.in_ok-other.ensures.other (All-nil (λ q. AreOf s q)));
        new = All-append (λ q. IsNew (pass_view q)) _ _
            (All-set (λ q. IsNew (pass_view q)) ps 0 p'
            (left_new law (pass_view p) (pass_view p') (pass_view o) lawful cut new) v.new.new)
            (All-cons (λ q. IsNew (pass_view q)) o
            [] (right_new law (pass_view p) (pass_view p') (pass_view o) lawful cut new)
            (All-nil (λ q. IsNew (pass_view q))));
        seats = c.split_passes_hold_all_seats.ensures.more ps 0 p p' o at
            (split_known law (pass_view p) (pass_view p') (pass_view o) lawful cut) v.new.seats;
      });
    }
