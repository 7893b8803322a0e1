use Rattle.std.proofs.Common.{rules, ◌≡◌, sym, ap, ◌∙◌, length, take, drop, ◌++◌, map, subst, ◌<◌, get_or}
use Rattle.turn_cell.specs.Calls.{view_of}
use Rattle.level.specs.Leveling.{views_of, classes_of}
use Rattle.level.specs.ListLaws.{map_each, map_map, whole_slice}
use Rattle.level.proofs.tests.tick_in_threads.Goals as goal

pub returns-clause-classes : goal.returns-clause-classes
returns-clause-classes g c =
    let len : length c.for_each_mut.new.s ≡ length c.args.passes.now.items = search rules in
    let whole : take c.args.passes.now.len
    (c.for_each_mut.new.s ++ drop (length c.for_each_mut.new.s) c.args.passes.now.items)
    ≡ c.for_each_mut.new.s = whole_slice _ _ _ (search rules) in
    ap (λ ps. map classes_of (views_of ps)) whole ∙ (sym (map_map classes_of view_of c.for_each_mut.new.s)
    ∙ (map_each (λ p. classes_of (view_of p)) c.args.passes.now.items c.for_each_mut.new.s len (λ i d h.
    let n : i < length c.as_mut_slice.result.now =
    subst (λ l. i < length l) (sym c.as_mut_slice.ensures.value) h in
    let t = (c.for_each_mut.ensures i d n).1 in
    ap (λ p. classes_of (view_of p)) (sym t.left) ∙ (t.call.1 ∙ (ap (λ p. classes_of (view_of p))
    t.argument_is ∙ ap (λ l. classes_of (view_of (get_or l i d))) c.as_mut_slice.ensures.value)))
    ∙ map_map classes_of view_of c.args.passes.now.items))
