use Rattle.std.proofs.Common.{rules, ◌≡◌, length, map, sym, ap, ◌∙◌, subst, arith, vec_len}
use Rattle.std.proofs.lemmas.List.{length-map, map-append, map-id}
use Rattle.std.proofs.lemmas.List.Elements.{All-append, All-cons, All-nil}
use Rattle.std.specs.Prelude.{All, [], ◌∷◌, None}
use Rattle.std.specs.Arc.{arc_value}
use Rattle.std.specs.Vec.Iter.{into_iter_items}
use Rattle.level.specs.ListLaws.{map_map}
use Rattle.warp_core.specs.Making.{IsPlain, KeepsWhere}
use Rattle.warp_core.specs.Rows.{beat_of, last_of, passes_of, seconds_of}
use Rattle.warp_core.specs.SweepTimes.{IsFirstAlone}
use Rattle.warp_core.proofs.Filling.{all_told, length_push, told_on}
use Rattle.warp_core.proofs.KeepingBeats.{alone_next}
use Rattle.warp_core.proofs.Made.{new_beats, new_limits, new_serve}
use Rattle.warp_core.proofs.making.rows_of.Goals as goal

pub loop-kit-init : goal.loop-kit-init
loop-kit-init g c =
    let empty = sym c.in_ok-rows.ensures.items in record {
      room = search rules;
      left = search rules;
      count = search rules;
      many = c.requires.count;
      passes = search rules;
      books = search rules;
      plain = search rules;
      alone = subst (λ rs. IsFirstAlone c.args.seconds (map (λ r. seconds_of r.beats) rs)) empty tt;
      fresh = subst (All (λ r. last_of r.beats ≡ None)) empty (All-nil (λ r. last_of r.beats ≡ None));
    }

pub loop-kit-preserved : goal.loop-kit-preserved
loop-kit-preserved g c =
    let v = c.loop-kit.invariant in
    let row = c.in_ok-row_of.field-0 in
    let kit = c.in-Some.kit in
    let pass = c.in-Some-next.pass in
    let rows = c.loop-kit.rows.items in
    let put = c.push_reserved.ensures in
    let next = c.in-Some.ensures.steps in
    let own = c.in-Some-next.ensures.cases in
    let e = c.in_ok-row_of.ensures in
    let one = length_push rows c.push_reserved.new.self.items row put.items in
    let room = v.room in
    let cap = put.capacity in
    let left = v.left in
    let count = v.count in
    let step = next.1 in
    let also = own.1 in
    let is_plain = subst (λ s. IsPlain s c.args.limit row) c.in_ok-clone.ensures.cases e.plain in record {
      room = omega arith;
      left = omega arith;
      count = omega arith;
      many = v.many;
      passes =
          told_on (λ p. p) passes_of rows c.push_reserved.new.self.items row pass
          (into_iter_items c.loop-kit.own)
          (into_iter_items c.next-in-loop-kit.new.self) _ own.0 put.items e.pass v.passes;
      books =
          told_on (λ k. k.book) (λ r. r.runner.book) rows c.push_reserved.new.self.items row kit
          (into_iter_items c.loop-kit.kit-iterator)
          (into_iter_items c.next.new.self) _ next.0 put.items e.book v.books;
      plain = subst (All (IsPlain (arc_value c.args.shared.now) c.args.limit)) (sym put.items)
          (All-append (IsPlain (arc_value c.args.shared.now) c.args.limit) rows (row ∷ []) v.plain
          (All-cons (IsPlain (arc_value c.args.shared.now) c.args.limit) row
          [] is_plain (All-nil (IsPlain (arc_value c.args.shared.now) c.args.limit))));
      alone =
          subst (IsFirstAlone c.args.seconds)
          (sym (ap (map (λ r. seconds_of r.beats)) put.items
          ∙ map-append (λ r. seconds_of r.beats) rows (row ∷ [])))
          (alone_next c.args.seconds (map (λ r. seconds_of r.beats) rows) (seconds_of row.beats) c.is_empty.result
          (vec_len c.loop-kit.rows) c.is_empty.ensures
          (let ok = c.loop-kit.rows.ok.0 in
          let mapped = length-map rows (λ r. seconds_of r.beats) in
          omega arith)
          (subst (KeepsWhere c.is_empty.result c.args.seconds) (sym (ap seconds_of e.beats))
          c.in_ok-beats.ensures.alone) v.alone);
      fresh = subst (All (λ r. last_of r.beats ≡ None)) (sym put.items)
          (All-append (λ r. last_of r.beats ≡ None) rows (row ∷ []) v.fresh
          (All-cons (λ r. last_of r.beats ≡ None) row []
          (ap last_of e.beats ∙ c.in_ok-beats.ensures.last) (All-nil (λ r. last_of r.beats ≡ None))));
    }

pub returns-clause-serve : goal.returns-clause-serve
returns-clause-serve g c =
    let v = c.loop-kit.invariant in
    let none = c.in-None.ensures.steps.0 in
    let left = v.left in
    let count = v.count in
    let many = v.many in
    let rows = c.loop-kit.rows.items in
    let all : length rows ≡ length c.args.passes.items = omega arith in
    let also : length rows ≡ length c.args.kits.items = omega arith in
    new_serve g.B.Book.told g.P.Poller.meaning.faults
    (arc_value c.args.shared.now) c.args.limit rows c.args.passes.items c.args.kits.items
    (all_told (λ p. p) passes_of rows (into_iter_items c.loop-kit.own) c.args.passes.items v.passes all
    ∙ map-id c.args.passes.items)
    (all_told (λ k. k.book) (λ r. r.runner.book) rows
    (into_iter_items c.loop-kit.kit-iterator) c.args.kits.items v.books also)
    v.plain c.requires.new c.requires.books c.new_passes_did_nothing.ensures

pub returns-clause-limit : goal.returns-clause-limit
returns-clause-limit g c =
    new_limits g.B.Book.told g.P.Poller.meaning.faults
    (arc_value c.args.shared.now) c.args.limit c.loop-kit.rows.items c.loop-kit.invariant.plain

pub returns-clause-passes : goal.returns-clause-passes
returns-clause-passes g c =
    let v = c.loop-kit.invariant in
    let none = c.in-None.ensures.steps.0 in
    let left = v.left in
    let count = v.count in
    let rows = c.loop-kit.rows.items in
    let all : length rows ≡ length c.args.passes.items = omega arith in
    all_told (λ p. p) passes_of rows (into_iter_items c.loop-kit.own) c.args.passes.items v.passes all
    ∙ map-id c.args.passes.items

pub returns-clause-beats : goal.returns-clause-beats
returns-clause-beats g c =
    let v = c.loop-kit.invariant in
    let none = c.in-None.ensures.steps.0 in
    let left = v.left in
    let count = v.count in
    let clock = g.C.Clock.told in
    let rows = c.loop-kit.rows.items in
    let all : length rows ≡ length c.args.passes.items = omega arith in
    record {
      first =
          subst (IsFirstAlone c.args.seconds) (map_map (λ b. b.seconds) (beat_of clock) rows) v.alone;
      kept =
          new_beats g.B.Book.told g.P.Poller.meaning.faults (arc_value c.args.shared.now) c.args.limit clock rows
          c.args.passes.items
          (all_told (λ p. p) passes_of rows (into_iter_items c.loop-kit.own) c.args.passes.items v.passes all
          ∙ map-id c.args.passes.items)
          c.requires.new c.new_passes_did_nothing.ensures v.fresh;
    }
