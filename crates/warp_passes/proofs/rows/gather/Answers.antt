use Rattle.std.proofs.Common.{◌≡◌, suc, refl, ◌∙◌, ◌∷◌, ◌+◌, length, get_or, map, set, subst, arith}
use Rattle.std.specs.Prelude.{slice_get, Some}
use Rattle.std.proofs.lemmas.Option.{slice_get-get_or}
use Rattle.level.specs.Leveling.{seen_by}
use Rattle.level.specs.Meanings.{views}
use Rattle.level.specs.Gathering.{Gathered}
use Rattle.std.proofs.lemmas.List.Elements.{All-head, All-tail}
use Rattle.level.specs.ListLaws.{All-get}
use Rattle.level.specs.Laws.{keep_refl, keep_trans, own_stay_own, gather_keeps, gather_shares}
use Rattle.level.specs.Laws.{gathers_one_more, all_gathered_start}
use Rattle.warp_passes.proofs.RowRest.{rest_both}
use Rattle.warp_passes.proofs.rows.gather.Goals as goal

pub loop-other-init : goal.loop-other-init
loop-other-init g c = let m = g.P.ShareRow.meaning.passes in record {
  own = c.requires.own;
  keeps = keep_refl m (c.args.first.now ∷ c.args.others.now);
  rest = refl;
  gathered = all_gathered_start m c.args.first.now c.args.others.now;
}

pub share_row-requires-clause-from : goal.share_row-requires-clause-from
share_row-requires-clause-from g c =
    let m = g.P.ShareRow.meaning.passes in
    let v = c.loop-other.invariant in
    let lt = c.loop-other-test.true in
    let many = c.loop-other.auto.other-items in
    let at =
    slice_get-get_or c.loop-other.other-items c.loop-other.other-index c.other-item.result (omega arith) in
    All-get (m.is_of c.args.of.now) _ _ _ at (All-tail (m.is_of c.args.of.now) _ _ v.own)

pub share_row-requires-clause-to : goal.share_row-requires-clause-to
share_row-requires-clause-to g c =
    All-head (g.P.ShareRow.meaning.passes.is_of c.args.of.now) _ _ c.loop-other.invariant.own

pub loop-other-preserved : goal.loop-other-preserved
loop-other-preserved g c =
    let m = g.P.ShareRow.meaning.passes in
    let v = c.loop-other.invariant in
    let lt = c.loop-other-test.true in
    let f = c.loop-other.first in
    let f' = c.share_row.new.to in
    let ps = c.loop-other.other-items in
    let i = c.loop-other.other-index in
    let p = get_or ps i c.other-item.result in
    let p' = c.share_row.new.from in
    let many = c.loop-other.auto.other-items in
    let at : slice_get ps i ≡ Some p = slice_get-get_or ps i c.other-item.result (omega arith) in
    let next : suc i + 1 ≡ suc (i + 1) = omega arith in record {
      own =
          own_stay_own m c.args.of.now f f' ps i p p' at c.share_row.ensures.to
          c.share_row.ensures.from v.own;
      keeps =
          keep_trans m (c.args.first.now ∷ c.args.others.now) (f ∷ ps) (f' ∷ set ps i p') v.keeps
          (gather_keeps m f f' ps i p p' at c.share_row.ensures.shared);
      rest =
          rest_both g.P.ShareRow.meaning.rest f f' ps i p p' at
          c.share_row.ensures.other_rest c.share_row.ensures.rest
          ∙ v.rest;
      gathered =
          λ k. subst (λ n. Gathered (map seen_by (views m k (c.args.first.now ∷ c.args.others.now))) n
          (map seen_by (views m k (f' ∷ set ps i p')))) next
          (gathers_one_more (map seen_by (views m k (c.args.first.now ∷ c.args.others.now))) (suc i)
          (map seen_by (views m k (f ∷ ps))) (map seen_by (views m k (f' ∷ set ps i p'))) (omega arith)
          (v.gathered k) (gather_shares m f f' ps i p p' at c.share_row.ensures.shared k));
    }

pub returns-clause-gathered : goal.returns-clause-gathered
returns-clause-gathered g c = let m = g.P.ShareRow.meaning.passes in
    let test = c.loop-other-test.false in
    let most = c.loop-other.auto.other-index-end in
    let many = c.loop-other.auto.other-items in
    let all : suc c.loop-other.other-index ≡ suc (length c.loop-other.other-items) = omega arith in
    λ k.
    subst (λ n. Gathered (map seen_by (views m k (c.args.first.now ∷ c.args.others.now))) n
    (map seen_by (views m k (c.loop-other.first ∷ c.loop-other.other-items))))
    all (c.loop-other.invariant.gathered k)
