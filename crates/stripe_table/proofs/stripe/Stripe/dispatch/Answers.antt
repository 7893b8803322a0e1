use Rattle.std.proofs.Common.{◌/◌, ◌≡◌, ◌%◌, refl, sym, ap, ◌∙◌, arith, subst, false, map}
use Rattle.std.specs.Prelude.{Some}
use Rattle.std.proofs.lemmas.Option.{slice_get_within, same_Some, none-some}
use Rattle.reg_keys.specs.declared.opening.Opening.{Opening}
use Rattle.reg_keys.specs.Histories.{is_live}
use Rattle.stripe_table.specs.Ascending.{Ascends}
use Rattle.stripe_table.specs.Calls.{fired_key}
use Rattle.stripe_table.specs.Facts.{facts_of, flag_number, run, with_event, event_of}
use Rattle.stripe_table.specs.Descriptors as Kept
use Rattle.stripe_table.specs.Firing as Firing
use Rattle.stripe_table.specs.Index.{ListsAll}
use Rattle.stripe_table.proofs.Facts.{fits_here}
use Rattle.stripe_table.proofs.Steps.{unchanged, stepped, spent, not_spent, live, dead, place_is, read_is}
use Rattle.stripe_table.proofs.Steps.{there_after}
use Rattle.stripe_table.proofs.Taking.{ascends_flags}
use Rattle.stripe_table.proofs.Dispatches.{run_shows, ran_of, list_is, facts_run, right_stale, right_spent}
use Rattle.stripe_table.proofs.Dispatches.{right_ran, number_left}
use Rattle.stripe_table.proofs.stripe.Stripe.dispatch.Goals as goal

pub returns-in_default-clause-step : goal.returns-in_default-clause-step
returns-in_default-clause-step g c past r =
    let st = c.args.self.now in
    let e = c.args.event in
    let o = c.opening-o.result in
    let is = c.opening-o.ensures in
    unchanged g.T.Load.tag past st r _
    (right_stale st.stripe st.first past e (subst (λ (p : Opening). is_live past p ≡ false) is
    (dead g.T.Load.tag past st r o
    (subst (λ (p : Opening). p.fd % 32 ≡ st.stripe) (sym is) c.requires.of) c.in_default.ensures.absent)))
    refl

pub returns-then-self-ge-LAST_COUNT-clause-step : goal.returns-then-self-ge-LAST_COUNT-clause-step
returns-then-self-ge-LAST_COUNT-clause-step g c past r =
    let st = c.args.self.now in
    let e = c.args.event in
    let is = c.opening-o.ensures in
    let t = c.in-Some.ensures.there in
    let fd = place_is g.T.Load.tag past st r e.opening c.in-Some.place c.requires.of
    (t.0 ∙ ap (λ (p : Opening). p.fd / 32) is) in
    let fit = fits_here g.T.Load.tag st (facts_of st.stripe st.first past) e.opening c.in-Some.place t.1 r t.2
    (t.3 ∙ ap (λ (p : Opening). p.number) is) fd in
    unchanged g.T.Load.tag past st r _
    (right_spent st.stripe st.first past e (live g.T.Load.tag past st r e.opening t.1 fit)
    (spent g.T.Load.tag past st r c.if-self-ge-LAST_COUNT.true)) refl

pub index_mut-requires : goal.index_mut-requires
index_mut-requires g c =
    let st = c.args.self.now in
    let t = c.in-Some.ensures.there in
    let le = slice_get_within st.descriptors.items c.in-Some.place (Some t.1) t.2 in
    let ok = st.descriptors.ok.0 in
    omega arith

pub unreachable-requires : goal.unreachable-requires
unreachable-requires g c =
    let st = c.args.self.now in
    let t = c.in-Some.ensures.there in
    none-some t.1 (sym c.in_default-index_mut.is
    ∙ read_is st.descriptors.items c.in-Some.place t.1 c.index_mut.result.now t.2 c.index_mut.ensures.value)

pub run-list-requires : goal.run-list-requires
run-list-requires g c =
    let st = c.args.self.now in
    let e = c.args.event in
    let is = c.opening-o.ensures in
    let t = c.in-Some.ensures.there in
    let p = c.requires.fits in
    let fd = place_is g.T.Load.tag p.0 st p.1 e.opening c.in-Some.place c.requires.of
    (t.0 ∙ ap (λ (p : Opening). p.fd / 32) is) in
    let room = (fits_here g.T.Load.tag st (facts_of st.stripe st.first p.0) e.opening c.in-Some.place
    t.1 p.1 t.2 (t.3 ∙ ap (λ (p : Opening). p.number) is) fd).room in
    let same = same_Some c.in-Some-index_mut.descriptor t.1 (sym c.in-Some-index_mut.is
    ∙ read_is st.descriptors.items c.in-Some.place t.1 c.index_mut.result.now t.2
    c.index_mut.ensures.value) in
    let fired = ap (λ d. d.fired) same in
    let le = slice_get_within st.descriptors.items c.in-Some.place (Some t.1) t.2 in
    let many = p.1.table.many in
    record { fired = omega arith; place = omega arith }

pub name_event-next-requires-clause-there : goal.name_event-next-requires-clause-there
name_event-next-requires-clause-there g c =
    let st = c.args.self.now in
    let t = c.in-Some.ensures.there in
    let same = same_Some c.in-Some-index_mut.descriptor t.1 (sym c.in-Some-index_mut.is
    ∙ read_is st.descriptors.items c.in-Some.place t.1 c.index_mut.result.now t.2
    c.index_mut.ensures.value) in (
      c.run-list.new.self,
      there_after st.descriptors.items c.in-Some.place (Some t.1) (Some c.run-list.new.self) t.2,
      ap (λ d. d.number) c.run-list.ensures.left
          ∙ (number_left c.in-Some-index_mut.descriptor c.number.result ∙ (ap (λ d. d.number) same ∙ t.3)),
    )

pub returns-clause-step : goal.returns-clause-step
returns-clause-step g c past r =
    let st = c.args.self.now in
    let e = c.args.event in
    let is = c.opening-o.ensures in
    let t = c.in-Some.ensures.there in
    let fd = place_is g.T.Load.tag past st r e.opening c.in-Some.place c.requires.of
    (t.0 ∙ ap (λ (p : Opening). p.fd / 32) is) in
    let number = t.3 ∙ ap (λ (p : Opening). p.number) is in
    let f = facts_of st.stripe st.first past in
    let fit = fits_here g.T.Load.tag st f e.opening c.in-Some.place t.1 r t.2 number fd in
    let same = same_Some c.in-Some-index_mut.descriptor t.1 (sym c.in-Some-index_mut.is
    ∙ read_is st.descriptors.items c.in-Some.place t.1 c.index_mut.result.now t.2
    c.index_mut.ensures.value) in
    let left : c.run-list.new.self ≡ Kept.after_run t.1 e.number =
    c.run-list.ensures.left ∙ (λ i. Kept.after_run (same i) (c.number.ensures i)) in
    let ascend =
    ascends_flags st.flags (subst (Ascends flag_number) (sym r.table.unasked) r.ordered.flags_ascend) in
    let flags : c.run-list.new.flags ≡ Firing.settle_all (Firing.run_state (Kept.marks_now t.1))
    (Kept.taken t.1 e.number) st.flags = c.run-list.ensures.flags ascend
    ∙ (λ i. Firing.settle_all (Firing.run_state (Kept.marks_now (same i)))
    (Kept.taken (same i) (c.number.ensures i)) st.flags) in
    let list : map (fired_key g.T.Load.tag) c.run-list.result
    ≡ ran_of f e = ap (map (fired_key g.T.Load.tag)) (c.run-list.ensures.list
    ∙ (λ i. map (Firing.fired_as (Kept.marks_now (same i))) (Kept.taken (same i) (c.number.ensures i))))
    ∙ list_is g.T.Load.tag st.stripe f e.opening e.number t.1 fit r.ordered in
    let shows = run_shows g.T.Load.tag st _ f e c.in-Some.place t.1 c.run-list.new.self
    r t.2 number fd left refl refl refl flags c.run-list.ensures.others (λ old.
    c.run-list.ensures.here (subst (λ d. ListsAll st.index c.in-Some.place d.waits) (sym same) old)) in
    stepped g.T.Load.tag past st r c.name_event-next.new.self _
    (with_event (run f e (ran_of f e)) c.name_event-next.result)
    (right_ran st.stripe st.first past e (map (fired_key g.T.Load.tag) c.run-list.result)
    c.name_event-next.result list (live g.T.Load.tag past st r e.opening t.1 fit)
    (not_spent g.T.Load.tag past st r c.if-self-ge-LAST_COUNT.false)
    (c.name_event-next.ensures.event (run f e (ran_of f e)) shows
    ∙ ap (event_of st.stripe (run f e (ran_of f e))) is))
    c.name_event-next.ensures.name.0 c.name_event-next.ensures.name.1
    (facts_run st.stripe st.first past e (map (fired_key g.T.Load.tag) c.run-list.result)
    c.name_event-next.result ∙ ap (λ l. with_event (run f e l) c.name_event-next.result) list)
    (c.name_event-next.ensures.shows (run f e (ran_of f e)) shows)
