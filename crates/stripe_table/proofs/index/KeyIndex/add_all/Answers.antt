use Rattle.std.proofs.Common.{⊎_elim, subst, arith, ℕ}
use Rattle.std.proofs.lemmas.Bool.{eqb-true}
use Rattle.stripe_table.specs.Descriptors.{waits_as}
use Rattle.stripe_table.specs.Index.{IsListed}
use Rattle.stripe_table.proofs.Listed.{any_more, any_all}
use Rattle.stripe_table.proofs.index.KeyIndex.add_all.Goals as goal

pub loop-i-preserved : goal.loop-i-preserved
loop-i-preserved g c =
    let inv = c.loop-i.invariant in
    let x = c.in-Some.registration.now in record {
      here = λ key h. ⊎_elim (λ old. c.add.ensures.kept key c.args.place (inv.here key old))
          (λ new.
          subst (λ (k : ℕ). IsListed c.add.new.self k c.args.place)
          (eqb-true x.key key new) c.add.ensures.here)
          (any_more (waits_as key) c.args.waits.now c.loop-i.i _ x (omega arith) c.in-Some.ensures.there h);
      kept = λ key other m. c.add.ensures.kept key other (inv.kept key other m);
    }

pub returns-clause-here : goal.returns-clause-here
returns-clause-here g c key h =
    c.loop-i.invariant.here key (any_all (waits_as key) c.args.waits.now c.loop-i.i (let len =
    c.len-i-end.ensures.len in
    let past = c.loop-i-test.false in
    omega arith) h)

pub returns-clause-kept : goal.returns-clause-kept
returns-clause-kept g c = c.loop-i.invariant.kept
