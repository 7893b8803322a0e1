use Rattle.std.proofs.Common.{refl, sym, ap, ◌∙◌, arith}
use Rattle.std.specs.Prelude.{Some, is_some}
use Rattle.std.proofs.lemmas.Option.{slice_get_read, slice_get_within, same_Some, none-some}
use Rattle.stripe_table.specs.Descriptors.{named, dirs_to_name}
use Rattle.stripe_table.proofs.Naming.{unnamed_event, unnamed_shows, named_event, named_shows}
use Rattle.stripe_table.proofs.stripe.Stripe.name_event.Goals as goal

pub index_mut-requires : goal.index_mut-requires
index_mut-requires g c =
    let st = c.args.self.now in
    let t = c.requires.there in
    let le = slice_get_within st.descriptors.items c.args.place (Some t.0) t.1 in
    let ok = st.descriptors.ok.0 in
    omega arith

pub unreachable-requires : goal.unreachable-requires
unreachable-requires g c =
    let st = c.args.self.now in
    let t = c.requires.there in
    let le = slice_get_within st.descriptors.items c.args.place (Some t.0) t.1 in
    let read = slice_get_read st.descriptors.items _ c.args.place c.index_mut.result.now
    refl le c.index_mut.ensures.value in
    none-some t.0 (sym c.in_default.is ∙ same_Some _ _ (sym read ∙ t.1))

pub returns-then-not-name-clause-event : goal.returns-then-not-name-clause-event
returns-then-not-name-clause-event g c f r =
    let st = c.args.self.now in
    let t = c.requires.there in
    let le = slice_get_within st.descriptors.items c.args.place (Some t.0) t.1 in
    let read = slice_get_read st.descriptors.items _ c.args.place c.index_mut.result.now
    refl le c.index_mut.ensures.value in
    let same = same_Some t.0 c.in-Some.descriptor (same_Some _ _ (sym t.1 ∙ read) ∙ c.in-Some.is) in
    unnamed_event g.T.Load.tag st c.args.o c.args.place t.0 t.1 t.2 c.requires.of f r
    (ap (λ d. is_some (dirs_to_name d)) same ∙ (sym c.name.ensures.named ∙ c.if-not-name.true))

pub returns-then-not-name-clause-shows : goal.returns-then-not-name-clause-shows
returns-then-not-name-clause-shows g c f r =
    let st = c.args.self.now in
    let t = c.requires.there in
    let le = slice_get_within st.descriptors.items c.args.place (Some t.0) t.1 in
    let read = slice_get_read st.descriptors.items _ c.args.place c.index_mut.result.now
    refl le c.index_mut.ensures.value in
    let same = same_Some t.0 c.in-Some.descriptor (same_Some _ _ (sym t.1 ∙ read) ∙ c.in-Some.is) in
    unnamed_shows g.T.Load.tag st c.args.o c.args.place t.0 t.1 t.2
    c.requires.of f r _ c.name.new.self c.next_number-number.result
    (ap (λ d. is_some (dirs_to_name d)) same ∙ (sym c.name.ensures.named ∙ c.if-not-name.true))
    (c.name.ensures.kept ∙ ap (λ d. named d c.next_number-number.result) (sym same)) refl refl refl refl refl

pub returns-clause-event : goal.returns-clause-event
returns-clause-event g c f r =
    let st = c.args.self.now in
    let t = c.requires.there in
    let le = slice_get_within st.descriptors.items c.args.place (Some t.0) t.1 in
    let read = slice_get_read st.descriptors.items _ c.args.place c.index_mut.result.now
    refl le c.index_mut.ensures.value in
    let same = same_Some t.0 c.in-Some.descriptor (same_Some _ _ (sym t.1 ∙ read) ∙ c.in-Some.is) in
    ap Some c.named.ensures
    ∙ named_event g.T.Load.tag st c.args.o c.args.place t.0 t.1 t.2
    c.requires.of f r c.next_number-number.result c.next_number-number.ensures
    (ap (λ d. is_some (dirs_to_name d)) same ∙ (sym c.name.ensures.named ∙ c.if-not-name.false))

pub returns-clause-shows : goal.returns-clause-shows
returns-clause-shows g c f r =
    let st = c.args.self.now in
    let t = c.requires.there in
    let le = slice_get_within st.descriptors.items c.args.place (Some t.0) t.1 in
    let read = slice_get_read st.descriptors.items _ c.args.place c.index_mut.result.now
    refl le c.index_mut.ensures.value in
    let same = same_Some t.0 c.in-Some.descriptor (same_Some _ _ (sym t.1 ∙ read) ∙ c.in-Some.is) in
    named_shows g.T.Load.tag st c.args.o c.args.place t.0 t.1 t.2 c.requires.of
    f r _ c.name.new.self c.next_number-number.result c.named.result
    (ap (λ d. is_some (dirs_to_name d)) same ∙ (sym c.name.ensures.named ∙ c.if-not-name.false))
    (c.name.ensures.kept ∙ ap (λ d. named d c.next_number-number.result) (sym same))
    c.named.ensures refl refl refl refl refl
