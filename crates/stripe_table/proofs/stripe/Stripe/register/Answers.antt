use Rattle.std.proofs.Common.{◌*◌, ◌+◌, refl, sym, ap, ◌∙◌, arith, length, ◌∷◌}
use Rattle.std.specs.Prelude.{Some}
use Rattle.std.proofs.lemmas.Option.{slice_get_within, same_Some, none-some}
use Rattle.reg_keys.specs.declared.entry.RegisterOutcome.TheVariants as Registers
use Rattle.reg_keys.specs.declared.entry.Entry.TheVariants.{Register}
use Rattle.stripe_table.specs.Calls.{kind_of}
use Rattle.stripe_table.specs.Facts.{facts_of, registered, with_event}
use Rattle.stripe_table.specs.Descriptors as Kept
use Rattle.stripe_table.proofs.Facts.{fits_here}
use Rattle.stripe_table.proofs.Steps.{unchanged, stepped, spent, not_spent, live, dead, place_is, read_is}
use Rattle.stripe_table.proofs.Steps.{there_after}
use Rattle.stripe_table.proofs.Registers.{registered_shows, crowded_is, facts_registered, right_shut}
use Rattle.stripe_table.proofs.Registers.{right_crowded, right_spent, right_waits, room_left, flag_room}
use Rattle.stripe_table.proofs.Registers.{number_kept}
use Rattle.stripe_table.proofs.stripe.Stripe.register.Goals as goal

pub returns-in_default-clause-step : goal.returns-in_default-clause-step
returns-in_default-clause-step g c past r =
    let st = c.args.self.now in
    let o = c.args.o in
    unchanged g.T.Load.tag past st r _
    (right_shut st.stripe st.first past o c.args.dir c.args.mark (kind_of g.T.Load.tag c.args.load)
    (dead g.T.Load.tag past st r o c.requires.of c.in_default.ensures.absent)) refl

pub returns-then-is_crowded-clause-step : goal.returns-then-is_crowded-clause-step
returns-then-is_crowded-clause-step g c past r =
    let st = c.args.self.now in
    let o = c.args.o in
    let t = c.in-Some.ensures.there in
    let fit = fits_here g.T.Load.tag st (facts_of st.stripe st.first past) o c.in-Some.place t.1 r t.2 t.3
    (place_is g.T.Load.tag past st r o c.in-Some.place c.requires.of t.0) in
    unchanged g.T.Load.tag past st r _
    (right_crowded st.stripe st.first past o c.args.dir c.args.mark (kind_of g.T.Load.tag c.args.load)
    (live g.T.Load.tag past st r o t.1 fit)
    (crowded_is g.T.Load.tag st.stripe st.first past o t.1 fit c.args.load st.flags r.table.unasked
    ∙ (sym (c.is_crowded.ensures t.1 t.2) ∙ c.if-is_crowded.true)))
    refl

pub returns-then-self-ge-LAST_COUNT-clause-step : goal.returns-then-self-ge-LAST_COUNT-clause-step
returns-then-self-ge-LAST_COUNT-clause-step g c past r =
    let st = c.args.self.now in
    let o = c.args.o in
    let t = c.in-Some.ensures.there in
    let fit = fits_here g.T.Load.tag st (facts_of st.stripe st.first past) o c.in-Some.place t.1 r t.2 t.3
    (place_is g.T.Load.tag past st r o c.in-Some.place c.requires.of t.0) in
    unchanged g.T.Load.tag past st r _
    (right_spent st.stripe st.first past o c.args.dir c.args.mark (kind_of g.T.Load.tag c.args.load)
    (live g.T.Load.tag past st r o t.1 fit)
    (crowded_is g.T.Load.tag st.stripe st.first past o t.1 fit c.args.load st.flags r.table.unasked
    ∙ (sym (c.is_crowded.ensures t.1 t.2) ∙ c.if-is_crowded.false))
    (spent g.T.Load.tag past st r c.if-self-ge-LAST_COUNT.true)) refl

pub begin-requires : goal.begin-requires
begin-requires g c flag =
    let t = c.in-Some.ensures.there in
    flag_room c.args.load (length t.1.waits + t.1.fired) (length c.args.self.now.flags)
    (sym (c.is_crowded.ensures t.1 t.2) ∙ c.if-is_crowded.false) flag

pub index_mut-requires : goal.index_mut-requires
index_mut-requires g c =
    let st = c.args.self.now in
    let t = c.in-Some.ensures.there in
    let le = slice_get_within st.descriptors.items c.in-Some.place (Some t.1) t.2 in
    let ok = st.descriptors.ok.0 in
    omega arith

pub unreachable-requires : goal.unreachable-requires
unreachable-requires g c =
    let st = c.args.self.now in
    let t = c.in-Some.ensures.there in
    none-some t.1 (sym c.in_default-index_mut.is
    ∙ read_is st.descriptors.items c.in-Some.place t.1 c.index_mut.result.now t.2 c.index_mut.ensures.value)

pub register-requires : goal.register-requires
register-requires g c =
    let st = c.args.self.now in
    let t = c.in-Some.ensures.there in
    let same = same_Some c.in-Some-index_mut.descriptor t.1 (sym c.in-Some-index_mut.is
    ∙ read_is st.descriptors.items c.in-Some.place t.1 c.index_mut.result.now t.2
    c.index_mut.ensures.value) in
    let room = room_left c.args.load (length t.1.waits + t.1.fired) (length st.flags)
    (sym (c.is_crowded.ensures t.1 t.2) ∙ c.if-is_crowded.false) in
    let is = ap (λ d. length d.waits) same in
    omega arith

pub name_event-event-requires-clause-there : goal.name_event-event-requires-clause-there
name_event-event-requires-clause-there g c =
    let st = c.args.self.now in
    let t = c.in-Some.ensures.there in
    let same = same_Some c.in-Some-index_mut.descriptor t.1 (sym c.in-Some-index_mut.is
    ∙ read_is st.descriptors.items c.in-Some.place t.1 c.index_mut.result.now t.2
    c.index_mut.ensures.value) in (
      c.register.new.self,
      there_after st.descriptors.items c.in-Some.place (Some t.1) (Some c.register.new.self) t.2,
      ap (λ d. d.number) c.register.ensures
          ∙ (number_kept c.in-Some-index_mut.descriptor c.next_number-key.result c.args.dir
          c.args.mark c.args.load
          ∙ (ap (λ d. d.number) same ∙ t.3)),
    )

pub returns-clause-step : goal.returns-clause-step
returns-clause-step g c past r =
    let st = c.args.self.now in
    let o = c.args.o in
    let t = c.in-Some.ensures.there in
    let fd = place_is g.T.Load.tag past st r o c.in-Some.place c.requires.of t.0 in
    let f = facts_of st.stripe st.first past in
    let fit = fits_here g.T.Load.tag st f o c.in-Some.place t.1 r t.2 t.3 fd in
    let count = r.count in
    let n_is = c.next_number-key.ensures in
    let same = same_Some c.in-Some-index_mut.descriptor t.1 (sym c.in-Some-index_mut.is
    ∙ read_is st.descriptors.items c.in-Some.place t.1 c.index_mut.result.now t.2
    c.index_mut.ensures.value) in
    let kept = c.register.ensures
    ∙ ap (λ d. Kept.registered d c.next_number-key.result c.args.dir c.args.mark c.args.load) same in
    let free = sym (c.is_crowded.ensures t.1 t.2) ∙ c.if-is_crowded.false in
    let shows = registered_shows g.T.Load.tag st _ f o c.in-Some.place c.next_number-key.result t.1
    c.register.new.self c.args.dir c.args.mark c.args.load r t.2 t.3 fd n_is
    (room_left c.args.load (length t.1.waits + t.1.fired) (length st.flags) free)
    (flag_room c.args.load (length t.1.waits + t.1.fired) (length st.flags) free) kept refl refl
    refl c.begin.ensures c.add.ensures.kept c.add.ensures.here in
    stepped g.T.Load.tag past st r c.name_event-event.new.self _
    (with_event (registered f o c.args.dir c.args.mark (kind_of g.T.Load.tag c.args.load)
    (record { number = 32 * f.count + st.stripe })) c.name_event-event.result)
    (right_waits st.stripe st.first past o c.args.dir c.args.mark
    (kind_of g.T.Load.tag c.args.load) c.next_number-key.result c.name_event-event.result
    (n_is ∙ omega arith) (live g.T.Load.tag past st r o t.1 fit)
    (crowded_is g.T.Load.tag st.stripe st.first past o t.1 fit c.args.load st.flags r.table.unasked ∙ free)
    (not_spent g.T.Load.tag past st r c.if-self-ge-LAST_COUNT.false)
    (c.name_event-event.ensures.event _ shows))
    c.name_event-event.ensures.name.0 c.name_event-event.ensures.name.1
    (ap (λ n.
    facts_of st.stripe st.first (Register o c.args.dir c.args.mark (kind_of g.T.Load.tag c.args.load)
    (Registers.Waits (record { number = n }) c.name_event-event.result) ∷ past))
    (n_is ∙ omega arith) ∙ facts_registered st.stripe st.first past o c.args.dir c.args.mark
    (kind_of g.T.Load.tag c.args.load) c.name_event-event.result)
    (c.name_event-event.ensures.shows _ shows)

pub add-requires : goal.add-requires
add-requires g c =
    let st = c.args.self.now in
    let t = c.in-Some.ensures.there in
    let le = slice_get_within st.descriptors.items c.in-Some.place (Some t.1) t.2 in
    let many = c.requires.fits.1.table.many in
    omega arith
