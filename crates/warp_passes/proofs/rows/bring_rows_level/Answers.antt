use Rattle.std.proofs.Common.{◌∷◌, sym, subst}
use Rattle.level.specs.Meanings.{AllAreOf, KeepOwn, HoldAllSeats, AreBroughtLevel}
use Rattle.level.specs.Laws.{keep_trans, all_level, none_level}
use Rattle.warp_passes.proofs.RowRest.{rest_stays, still_seats}
use Rattle.warp_passes.proofs.rows.bring_rows_level.Goals as goal

pub gather-requires : goal.gather-requires
gather-requires g c = record {
  own = subst (AllAreOf g.P.ShareRow.meaning.passes c.args.of.now) c.in-Some.ensures.cases.0 c.requires.own;
}

pub returns-in-Some-clause-keeps : goal.returns-in-Some-clause-keeps
returns-in-Some-clause-keeps g c = let m = g.P.ShareRow.meaning.passes in
    let before = c.in-Some.first.now ∷ c.in-Some.others.now in
    let between = c.gather.new.first ∷ c.gather.new.others in
    let after = c.spread.new.first ∷ c.spread.new.others in
    subst (λ ps. KeepOwn m ps after) (sym c.in-Some.ensures.cases.0)
    (keep_trans m before between after c.gather.ensures.keeps c.spread.ensures.keeps)

pub returns-in-Some-clause-level : goal.returns-in-Some-clause-level
returns-in-Some-clause-level g c = let m = g.P.ShareRow.meaning.passes in
    let before = c.in-Some.first.now ∷ c.in-Some.others.now in
    let between = c.gather.new.first ∷ c.gather.new.others in
    let after = c.spread.new.first ∷ c.spread.new.others in
    let seats = subst (HoldAllSeats m) c.in-Some.ensures.cases.0 c.requires.seats in
    subst (λ ps. AreBroughtLevel m ps after) (sym c.in-Some.ensures.cases.0)
    (all_level m before after seats
    (keep_trans m before between after c.gather.ensures.keeps c.spread.ensures.keeps)
    (c.spread.ensures.told before c.gather.ensures.gathered))

pub returns-in_default-clause-level : goal.returns-in_default-clause-level
returns-in_default-clause-level g c =
    none_level g.P.ShareRow.meaning.passes c.args.rows.now c.in_default.ensures.cases c.requires.seats

pub returns-in-Some-clause-seats : goal.returns-in-Some-clause-seats
returns-in-Some-clause-seats g c = let m = g.P.ShareRow.meaning.passes in
    let before = c.in-Some.first.now ∷ c.in-Some.others.now in
    let between = c.gather.new.first ∷ c.gather.new.others in
    let after = c.spread.new.first ∷ c.spread.new.others in
    let seats = subst (HoldAllSeats m) c.in-Some.ensures.cases.0 c.requires.seats in
    still_seats m before after
    (keep_trans m before between after c.gather.ensures.keeps c.spread.ensures.keeps) seats

pub returns-in-Some-clause-rest : goal.returns-in-Some-clause-rest
returns-in-Some-clause-rest g c = let rest = g.P.ShareRow.meaning.rest in
    rest_stays rest c.args.rows.now (c.in-Some.first.now ∷ c.in-Some.others.now)
    (c.gather.new.first ∷ c.gather.new.others)
    (c.spread.new.first ∷ c.spread.new.others) c.in-Some.ensures.cases.0 c.gather.ensures.rest
    c.spread.ensures.rest

pub returns-in_default-clause-seats : goal.returns-in_default-clause-seats
returns-in_default-clause-seats g c = c.requires.seats
