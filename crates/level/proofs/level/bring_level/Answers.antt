use Rattle.std.proofs.Common.{◌∷◌, sym, subst}
use Rattle.level.specs.Meanings.{AllAreOf, KeepOwn, HoldAllSeats, AreBroughtLevel}
use Rattle.level.specs.Laws.{keep_trans, all_level, none_level}
use Rattle.level.proofs.level.bring_level.Goals as goal

pub gather-requires : goal.gather-requires
gather-requires g c =
    record { own = subst (AllAreOf g.P.Share.meaning c.args.of.now) c.in-Some.ensures.cases.0 c.requires.own }

pub returns-in-Some-clause-keeps : goal.returns-in-Some-clause-keeps
returns-in-Some-clause-keeps g c = let m = g.P.Share.meaning in
    let before = c.in-Some.first.now ∷ c.in-Some.others.now in
    let between = c.gather.new.first ∷ c.gather.new.others in
    let after = c.spread.new.first ∷ c.spread.new.others in
    subst (λ ps. KeepOwn m ps after) (sym c.in-Some.ensures.cases.0)
    (keep_trans m before between after c.gather.ensures.keeps c.spread.ensures.keeps)

pub returns-in-Some-clause-level : goal.returns-in-Some-clause-level
returns-in-Some-clause-level g c = let m = g.P.Share.meaning in
    let before = c.in-Some.first.now ∷ c.in-Some.others.now in
    let between = c.gather.new.first ∷ c.gather.new.others in
    let after = c.spread.new.first ∷ c.spread.new.others in
    let seats = subst (HoldAllSeats m) c.in-Some.ensures.cases.0 c.requires.seats in
    subst (λ ps. AreBroughtLevel m ps after) (sym c.in-Some.ensures.cases.0)
    (all_level m before after seats
    (keep_trans m before between after c.gather.ensures.keeps c.spread.ensures.keeps)
    (c.spread.ensures.told before c.gather.ensures.gathered))

pub returns-in_default-clause-level : goal.returns-in_default-clause-level
returns-in_default-clause-level g c =
    none_level g.P.Share.meaning c.args.passes.now c.in_default.ensures.cases c.requires.seats
