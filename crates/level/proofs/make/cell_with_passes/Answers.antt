use Rattle.std.proofs.Common.{rules, ◌≡◌, refl, sym, ap, ◌∙◌, length, arith, subst, [], ◌∷◌, ◌++◌, ◌<◌}
use Rattle.std.proofs.lemmas.Option.{slice_get_read}
use Rattle.std.proofs.lemmas.List.Elements.{All-set, All-append}
use Rattle.turn_cell.specs.Calls.{view_of, IsOf}
use Rattle.level.specs.Leveling.{AreOf, HoldsEachOnce, AreFresh, views_of}
use Rattle.level.specs.ListLaws.{get_map, one_all}
use Rattle.level.proofs.Makes.{first_once, first_fresh, once_more, fresh_more, views_split}
use Rattle.level.proofs.make.cell_with_passes.Goals as goal

pub loop-init : goal.loop-init
loop-init g c =
    let it : c.push_reserved.new.self.items ≡ c.in_ok-cell.pass ∷ [] =
    c.push_reserved.ensures.items ∙ ap (λ l. l ++ c.in_ok-cell.pass ∷ []) c.in_ok-passes.ensures.items in
    let name = g.P.Part.name c.args.part in
    record {
      some = omega arith;
      count = search rules;
      room = search rules;
      own =
          subst (AreOf c.in_ok-cell.cell) (sym it)
          (one_all (λ p. IsOf c.in_ok-cell.cell p) c.in_ok-cell.pass c.in_ok-cell.ensures.own);
      once =
          subst (λ l. HoldsEachOnce (views_of l)) (sym it)
          (first_once (view_of c.in_ok-cell.pass) name c.in_ok-cell.ensures.view);
      fresh =
          subst (λ l. AreFresh name (views_of l)) (sym it)
          (first_fresh (view_of c.in_ok-cell.pass) name c.in_ok-cell.ensures.view);
    }

pub loop-preserved : goal.loop-preserved
loop-preserved g c =
    let v = c.loop.invariant in
    let e = c.in_ok-other.ensures in
    let name = g.P.Part.name c.args.part in
    let some : 0 < length c.loop.passes.items = search rules in
    let at = slice_get_read c.loop.passes.items
    (length c.loop.passes.items) 0 c.index_mut-first.result.now refl some c.index_mut-first.ensures.value in
    let known = get_map view_of c.loop.passes.items 0 _ at in
    let it = c.push_reserved-in-loop.ensures.items in
    let split = views_split c.loop.passes.items c.split.new.pass c.in_ok-other.other in
    record {
      some = omega arith;
      count = search rules;
      room = search rules;
      own =
          subst (AreOf c.in_ok-cell.cell) (sym it) (All-append (λ p. IsOf c.in_ok-cell.cell p) _ _ (All-set
          (λ p. IsOf c.in_ok-cell.cell p) c.loop.passes.items 0 c.split.new.pass c.split.ensures.own v.own)
          (one_all (λ p. IsOf c.in_ok-cell.cell p) c.in_ok-other.other e.other));
      once =
          subst HoldsEachOnce (sym split ∙ sym (ap views_of it))
          (once_more (views_of c.loop.passes.items) 0 _ _ _ known e.split v.once);
      fresh =
          subst (AreFresh name) (sym split ∙ sym (ap views_of it))
          (fresh_more name (views_of c.loop.passes.items) 0 _ _ _ known e.split v.fresh);
    }
