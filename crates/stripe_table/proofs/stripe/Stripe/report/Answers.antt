use Rattle.std.proofs.Common.{refl, sym, ap, ◌∙◌, arith}
use Rattle.std.specs.Prelude.{Some}
use Rattle.std.proofs.lemmas.Option.{slice_get_within, same_Some, none-some}
use Rattle.stripe_table.specs.Facts.{facts_of, noted, with_event}
use Rattle.stripe_table.specs.Descriptors as Kept
use Rattle.stripe_table.proofs.Facts.{fits_here}
use Rattle.stripe_table.proofs.Steps.{unchanged, stepped, spent, not_spent, live, dead, place_is, read_is}
use Rattle.stripe_table.proofs.Steps.{there_after}
use Rattle.stripe_table.proofs.Reports.{noted_shows, facts_noted, right_stale, right_spent, right_noted}
use Rattle.stripe_table.proofs.stripe.Stripe.report.Goals as goal

pub returns-in_default : goal.returns-in_default
returns-in_default g c past r =
    let st = c.args.self.now in
    let o = c.args.o in
    unchanged g.T.Load.tag past st r _
    (right_stale g.T.Load.tag st.stripe st.first past o c.args.dirs
    (dead g.T.Load.tag past st r o c.requires.of c.in_default.ensures.absent)) refl

pub returns-then-self-ge-LAST_COUNT : goal.returns-then-self-ge-LAST_COUNT
returns-then-self-ge-LAST_COUNT g c past r =
    let st = c.args.self.now in
    let o = c.args.o in
    let t = c.in-Some.ensures.there in
    let fit = fits_here g.T.Load.tag st (facts_of st.stripe st.first past) o c.in-Some.place t.1 r t.2 t.3
    (place_is g.T.Load.tag past st r o c.in-Some.place c.requires.of t.0) in
    unchanged g.T.Load.tag past st r _
    (right_spent g.T.Load.tag st.stripe st.first past o c.args.dirs (live g.T.Load.tag past st r o t.1 fit)
    (spent g.T.Load.tag past st r c.if-self-ge-LAST_COUNT.true)) refl

pub index_mut-requires : goal.index_mut-requires
index_mut-requires g c =
    let st = c.args.self.now in
    let t = c.in-Some.ensures.there in
    let le = slice_get_within st.descriptors.items c.in-Some.place (Some t.1) t.2 in
    let ok = st.descriptors.ok.0 in
    omega arith

pub unreachable-requires : goal.unreachable-requires
unreachable-requires g c =
    let st = c.args.self.now in
    let t = c.in-Some.ensures.there in
    none-some t.1 (sym c.in_default-index_mut.is
    ∙ read_is st.descriptors.items c.in-Some.place t.1 c.index_mut.result.now t.2 c.index_mut.ensures.value)

pub name_event-requires-clause-there : goal.name_event-requires-clause-there
name_event-requires-clause-there g c =
    let st = c.args.self.now in
    let t = c.in-Some.ensures.there in
    let same = same_Some c.in-Some-index_mut.descriptor t.1 (sym c.in-Some-index_mut.is
    ∙ read_is st.descriptors.items c.in-Some.place t.1 c.index_mut.result.now t.2
    c.index_mut.ensures.value) in (
      c.note.new.self,
      there_after st.descriptors.items c.in-Some.place (Some t.1) (Some c.note.new.self) t.2,
      ap (λ d. d.number) c.note.ensures ∙ (ap (λ d. d.number) same ∙ t.3),
    )

pub name_event-requires-clause-of : goal.name_event-requires-clause-of
name_event-requires-clause-of g c =
    let t = c.in-Some.ensures.there in
    let of = c.requires.of in
    let place = t.0 in
    omega arith

pub returns : goal.returns
returns g c past r =
    let st = c.args.self.now in
    let o = c.args.o in
    let t = c.in-Some.ensures.there in
    let fd = place_is g.T.Load.tag past st r o c.in-Some.place c.requires.of t.0 in
    let f = facts_of st.stripe st.first past in
    let fit = fits_here g.T.Load.tag st f o c.in-Some.place t.1 r t.2 t.3 fd in
    let same = same_Some c.in-Some-index_mut.descriptor t.1 (sym c.in-Some-index_mut.is
    ∙ read_is st.descriptors.items c.in-Some.place t.1 c.index_mut.result.now t.2
    c.index_mut.ensures.value) in
    let kept = c.note.ensures ∙ ap (λ d. Kept.noted d c.args.dirs c.next_number-number.result) same
    ∙ ap (Kept.noted t.1 c.args.dirs) c.next_number-number.ensures in
    let shows = noted_shows g.T.Load.tag st.stripe st _ f o c.in-Some.place t.1 c.note.new.self
    c.args.dirs refl r t.2 t.3 fd kept refl refl refl refl refl in
    stepped g.T.Load.tag past st r c.name_event.new.self _
    (with_event (noted st.stripe f o c.args.dirs) c.name_event.result)
    (right_noted g.T.Load.tag st.stripe st.first past o c.args.dirs c.name_event.result
    (live g.T.Load.tag past st r o t.1 fit) (not_spent g.T.Load.tag past st r c.if-self-ge-LAST_COUNT.false)
    (c.name_event.ensures.event (noted st.stripe f o c.args.dirs) shows))
    c.name_event.ensures.name.0 c.name_event.ensures.name.1
    (facts_noted g.T.Load.tag st.stripe st.first past o c.args.dirs c.name_event.result)
    (c.name_event.ensures.shows (noted st.stripe f o c.args.dirs) shows)
