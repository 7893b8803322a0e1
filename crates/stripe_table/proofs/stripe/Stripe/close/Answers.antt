use Rattle.std.proofs.Common.{◌≡◌, refl, sym, ap, ◌∙◌, set, arith, subst, map}
use Rattle.std.specs.Prelude.{Some}
use Rattle.std.proofs.lemmas.Option.{slice_get_within, same_Some, none-some}
use Rattle.stripe_table.specs.Ascending.{Ascends}
use Rattle.stripe_table.specs.Calls.{shut_key}
use Rattle.stripe_table.specs.Facts.{facts_of, flag_number, shut}
use Rattle.stripe_table.specs.Firing as Firing
use Rattle.stripe_table.proofs.Facts.{fits_here}
use Rattle.stripe_table.proofs.Steps.{unchanged, stepped, live, dead, place_is, read_is}
use Rattle.stripe_table.proofs.Taking.{ascends_flags}
use Rattle.stripe_table.proofs.Closes.{shut_shows, shut_of, list_is, right_not_open, right_shut}
use Rattle.stripe_table.proofs.stripe.Stripe.close.Goals as goal

pub returns-in_default : goal.returns-in_default
returns-in_default g c past r =
    let st = c.args.self.now in
    let o = c.args.o in
    unchanged g.T.Load.tag past st r _
    (right_not_open st.stripe st.first past o
    (dead g.T.Load.tag past st r o c.requires.of c.in_default.ensures.absent)) refl

pub index_mut-requires : goal.index_mut-requires
index_mut-requires g c =
    let st = c.args.self.now in
    let t = c.in-Some.ensures.there in
    let le = slice_get_within st.descriptors.items c.in-Some.place (Some t.1) t.2 in
    let ok = st.descriptors.ok.0 in
    omega arith

pub unreachable-requires : goal.unreachable-requires
unreachable-requires g c =
    let st = c.args.self.now in
    let t = c.in-Some.ensures.there in
    none-some t.1 (sym c.in_default-take.is ∙ (c.take.ensures.value
    ∙ read_is st.descriptors.items c.in-Some.place t.1 c.index_mut.result.now t.2 c.index_mut.ensures.value))

pub returns : goal.returns
returns g c past r =
    let st = c.args.self.now in
    let o = c.args.o in
    let t = c.in-Some.ensures.there in
    let fd = place_is g.T.Load.tag past st r o c.in-Some.place c.requires.of t.0 in
    let f = facts_of st.stripe st.first past in
    let fit = fits_here g.T.Load.tag st f o c.in-Some.place t.1 r t.2 t.3 fd in
    let same = same_Some c.in-Some-take.descriptor t.1 (sym c.in-Some-take.is
    ∙ (c.take.ensures.value ∙ read_is st.descriptors.items c.in-Some.place t.1 c.index_mut.result.now
    t.2 c.index_mut.ensures.value)) in
    let waits : c.take-waits.result ≡ t.1.waits = c.take-waits.ensures.list ∙ ap (λ d. d.waits) same in
    let ascend =
    ascends_flags st.flags (subst (Ascends flag_number) (sym r.table.unasked) r.ordered.flags_ascend) in
    let flags : c.shut_all.new.flags ≡ Firing.settle_all Firing.shut_state t.1.waits st.flags =
    c.shut_all.ensures.flags ascend ∙ ap (λ l. Firing.settle_all Firing.shut_state l st.flags) waits in
    let list : map (shut_key g.T.Load.tag) c.shut_all.result
    ≡ shut_of f o = ap (map (shut_key g.T.Load.tag)) (c.shut_all.ensures.list ∙ ap (map Firing.shut_as) waits)
    ∙ list_is g.T.Load.tag st.stripe f o t.1 fit r.ordered in
    let shows = shut_shows g.T.Load.tag st _ f o c.in-Some.place t.1 r t.2 t.3 fd refl refl
    (ap (set st.descriptors.items c.in-Some.place) c.take.ensures.after) flags c.remove_all.ensures in
    stepped g.T.Load.tag past st r _ _ (shut f o (shut_of f o))
    (right_shut st.stripe st.first past o (map (shut_key g.T.Load.tag) c.shut_all.result) list
    (live g.T.Load.tag past st r o t.1 fit)) refl refl (ap (shut f o) list) shows

pub remove_all-requires : goal.remove_all-requires
remove_all-requires g c =
    let st = c.args.self.now in
    let t = c.in-Some.ensures.there in
    let le = slice_get_within st.descriptors.items c.in-Some.place (Some t.1) t.2 in
    let many = c.requires.fits.1.table.many in
    omega arith
