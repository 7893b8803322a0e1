use Rattle.std.proofs.Common.{rules, ◌≡◌, ◌<◌, All, [], ◌∷◌, ◌++◌, length, refl, sym, ap, ◌∙◌, subst, arith}
use Rattle.std.specs.Prelude.{slice_get, Some}
use Rattle.std.proofs.lemmas.Option.{slice_get_read, get_or_from_slice_get}
use Rattle.std.proofs.lemmas.List.Elements.{All-nil, All-cons, All-set, All-append}
use Rattle.level.specs.Meanings.{HoldAllSeats}
use Rattle.event_mgr.specs.Manager.{IsOfMgr, mgr_view}
use Rattle.event_mgr.specs.Level.{mgr_meaning}
use Rattle.event_mgr.proofs.tests.three_passes.Goals as goal

pub loop-init : goal.loop-init
loop-init c =
    let p = c.args.first in
    let it : c.push_reserved.new.self.items ≡ p ∷ [] =
    c.push_reserved.ensures.items ∙ ap (λ l. l ++ p ∷ []) c.in_ok-passes.ensures.items in
    record {
      some = omega arith;
      count = search rules;
      room = search rules;
      own =
          subst (All (λ q. IsOfMgr c.args.mgr.now q)) (sym it)
          (All-cons (λ q. IsOfMgr c.args.mgr.now q) p
          [] c.requires.own (All-nil (λ q. IsOfMgr c.args.mgr.now q)));
      seats =
          subst (HoldAllSeats mgr_meaning) (sym it)
          (c.split_passes_hold_all_seats.ensures.first p
          (c.manager_passes_are_split_cell_by_cell.ensures.first (mgr_view p) c.requires.first));
    }

pub loop-preserved : goal.loop-preserved
loop-preserved c =
    let v = c.loop.invariant in
    let ps = c.loop.passes.items in
    let p = c.index_mut-first.result.now in
    let p' = c.split.new.pass in
    let o = c.in_ok-other.other in
    let count = v.count in
    let first = v.some in
    let some : 0 < length ps = omega arith in
    let at : slice_get ps 0 ≡ Some p =
    slice_get_read ps (length ps) 0 p refl some c.index_mut-first.ensures.value in
    let own = subst (λ q. IsOfMgr c.args.mgr.now q) (get_or_from_slice_get ps 0 p p at) (v.own 0 p some) in
    let it = c.push_reserved-in-loop.ensures.items in record {
      some = omega arith;
      count = search rules;
      room = search rules;
      own = subst (All (λ q. IsOfMgr c.args.mgr.now q)) (sym it)
          (All-append (λ q. IsOfMgr c.args.mgr.now q) _ _
          (All-set (λ q. IsOfMgr c.args.mgr.now q) ps 0 p' c.split.ensures.own v.own)
          (All-cons (λ q. IsOfMgr c.args.mgr.now q) o
          [] c.in_ok-other.ensures.other (All-nil (λ q. IsOfMgr c.args.mgr.now q))));
      seats = subst (HoldAllSeats mgr_meaning) (sym it)
          (c.split_passes_hold_all_seats.ensures.more ps 0 p p' o at
          (c.manager_passes_are_split_cell_by_cell.ensures.split (mgr_view p) (mgr_view p')
          (mgr_view o) own.lawful c.in_ok-other.ensures.split) v.seats);
    }
