use Rattle.std.proofs.Common.{ap, ◌∙◌, subst, sym}
use Rattle.warp_jobs.specs.Held.{Held}
use Rattle.warp_jobs.specs.declared.session.Went.TheVariants.{Waits, Asks, Over}
use Rattle.dispatcher.specs.Laws.{grown_then}
use Rattle.warp_runner.specs.Asking.{HasAsked, asked_then}
use Rattle.warp_runner.specs.declared.bringing.Brought.TheVariants as Ways
use Rattle.warp_runner.proofs.BringingLemmas.{left_off, on_then, number_then, on_supplied, number_supplied}
use Rattle.warp_runner.proofs.runner.ServerRunner.bring_on.Goals as goal

pub returns-in-Waits-clause-brought : goal.returns-in-Waits-clause-brought
returns-in-Waits-clause-brought g c =
    let h = c.args.session.now in
    let k = c.files.session in
    let l = c.advance-went.new.self in
    let m = c.spent_lease.new.self in
    left_off c.leave_off.result (Ways.Waits c.in-Waits.dir) h m c.leave_off.ensures.brought (
      on_then h k l m (Waits c.in-Waits.dir) _ _ c.files.invariant.brought c.in-Waits.ensures.gone
          c.spent_lease.ensures.same c.keeps_its_counts-in-files.ensures.waits,
      number_then h k l m
          (Waits c.in-Waits.dir) _ _ c.files.invariant.number c.in-Waits.ensures.gone
          c.spent_lease.ensures.same,
    )

pub returns-in-Over-clause-brought : goal.returns-in-Over-clause-brought
returns-in-Over-clause-brought g c =
    let h = c.args.session.now in
    let k = c.files.session in
    let l = c.advance-went.new.self in
    let m = c.spent_lease.new.self in
    left_off c.leave_off-in-Over.result (Ways.Over c.in-Over.end) h m c.leave_off-in-Over.ensures.brought (
      on_then h k l m (Over c.in-Over.end) _ _ c.files.invariant.brought c.in-Over.ensures.gone
          c.spent_lease.ensures.same c.keeps_its_counts-in-files.ensures.waits,
      number_then h k l m
          (Over c.in-Over.end) _ _ c.files.invariant.number c.in-Over.ensures.gone c.spent_lease.ensures.same,
      λ ne. ap (λ (x : Held). x.conn.over) c.spent_lease.ensures.same ∙ c.in-Over.ensures.gone.stands.1 ne,
    )

pub files-preserved : goal.files-preserved
files-preserved g c =
    let h = c.args.session.now in
    let k = c.files.session in
    let l = c.advance-went.new.self in
    let m = c.spent_lease.new.self in
    let i = c.files.invariant in
    let e = c.keep.ensures in
    let f = c.find.ensures in
    let gone = c.in-Asks.ensures.gone.clocked in record {
      own = f.own;
      same = (f.same.0 ∙ e.same.0 ∙ i.same.0, f.same.1 ∙ e.same.1 ∙ i.same.1);
      asked =
          subst (λ clock. HasAsked (g.C.Clock.told c.args.self.now.clock) (g.C.Clock.told clock))
          (sym (f.clock ∙ e.clock))
          (asked_then _ _ _ i.asked (gone.gained, gone.gave));
      grown = grown_then _ _ _ i.grown (grown_then _ _ _ e.grown f.grown);
      rest = (
        f.rest.0 ∙ e.rest.0 ∙ i.rest.0,
        f.rest.1 ∙ e.rest.1 ∙ i.rest.1,
        f.rest.2 ∙ e.rest.2 ∙ i.rest.2,
        f.rest.3 ∙ e.rest.3 ∙ i.rest.3,
      );
      brought =
          on_supplied h m c.supply.new.self
          (on_then h k l m Asks _ _ i.brought c.in-Asks.ensures.gone
          c.spent_lease.ensures.same c.keeps_its_counts-in-files.ensures.waits)
          c.supply.ensures.supplied;
      number =
          number_supplied m c.supply.new.self h.number
          (number_then h k l m Asks _ _ i.number c.in-Asks.ensures.gone c.spent_lease.ensures.same)
          c.supply.ensures.supplied;
    }

pub returns-in-Err-clause-asked : goal.returns-in-Err-clause-asked
returns-in-Err-clause-asked g c =
    let gone = c.advance-went.ensures.gone.clocked in
    subst (λ clock. HasAsked (g.C.Clock.told c.args.self.now.clock) (g.C.Clock.told clock))
    (sym c.keep.ensures.clock) (asked_then _ _ _ c.files.invariant.asked (gone.gained, gone.gave))

pub returns-in-Waits-clause-asked : goal.returns-in-Waits-clause-asked
returns-in-Waits-clause-asked g c =
    let gone = c.in-Waits.ensures.gone.clocked in
    subst (λ clock. HasAsked (g.C.Clock.told c.args.self.now.clock) (g.C.Clock.told clock))
    (sym (c.leave_off.ensures.clock ∙ c.keep.ensures.clock))
    (asked_then _ _ _ c.files.invariant.asked (gone.gained, gone.gave))

pub returns-in-Over-clause-asked : goal.returns-in-Over-clause-asked
returns-in-Over-clause-asked g c =
    let gone = c.in-Over.ensures.gone.clocked in
    subst (λ clock. HasAsked (g.C.Clock.told c.args.self.now.clock) (g.C.Clock.told clock))
    (sym (c.leave_off-in-Over.ensures.clock ∙ c.keep.ensures.clock))
    (asked_then _ _ _ c.files.invariant.asked (gone.gained, gone.gave))

pub returns-in-Err-find-clause-asked : goal.returns-in-Err-find-clause-asked
returns-in-Err-find-clause-asked g c =
    let gone = c.in-Asks.ensures.gone.clocked in
    subst (λ clock. HasAsked (g.C.Clock.told c.args.self.now.clock) (g.C.Clock.told clock))
    (sym (c.find.ensures.clock ∙ c.keep.ensures.clock))
    (asked_then _ _ _ c.files.invariant.asked (gone.gained, gone.gave))
