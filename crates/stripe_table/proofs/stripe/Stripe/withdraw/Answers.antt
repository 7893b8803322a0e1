use Rattle.std.proofs.Common.{◌≡◌, refl, sym, ap, ◌∙◌, arith, subst, inl}
use Rattle.std.specs.Prelude.{Some, filter, not}
use Rattle.std.proofs.lemmas.Bool.{eqb-true}
use Rattle.std.proofs.lemmas.Option.{slice_get_within, same_Some, none-some}
use Rattle.reg_keys.specs.Tests.{IsIn}
use Rattle.reg_keys.specs.ListLaws.{in_filter}
use Rattle.stripe_table.specs.Ascending.{Ascends}
use Rattle.stripe_table.specs.Calls.{kind_of, kind_of_job}
use Rattle.stripe_table.specs.Facts.{facts_of, flag_number, withdrawn}
use Rattle.stripe_table.specs.Descriptors as Kept
use Rattle.stripe_table.specs.declared.descriptor.OpenDescriptor.{OpenDescriptor}
use Rattle.stripe_table.proofs.Steps.{unchanged, stepped, read_is}
use Rattle.stripe_table.proofs.Taking.{ascends_flags}
use Rattle.stripe_table.proofs.Withdraws.{right_gone, right_back, withdrawn_shows, kind_back, not_emptied}
use Rattle.stripe_table.proofs.stripe.Stripe.withdraw.Goals as goal

pub returns-in_default : goal.returns-in_default
returns-in_default g c past r =
    let st = c.args.self.now in
    unchanged g.T.Load.tag past st r _
    (right_gone g.T.Load.tag st past r c.args.key (c.in_default.ensures.absent r.index)) refl

pub index_mut-requires : goal.index_mut-requires
index_mut-requires g c =
    let st = c.args.self.now in
    let t = c.in-Some.ensures.there in
    let le = slice_get_within st.descriptors.items c.in-Some.place (Some t.0) t.1 in
    let ok = st.descriptors.ok.0 in
    omega arith

pub unreachable-requires : goal.unreachable-requires
unreachable-requires g c =
    let st = c.args.self.now in
    let t = c.in-Some.ensures.there in
    none-some t.0 (sym c.in_default-index_mut.is
    ∙ read_is st.descriptors.items c.in-Some.place t.0 c.index_mut.result.now t.1 c.index_mut.ensures.value)

pub unreachable-requires-in_default-pop_first : goal.unreachable-requires-in_default-pop_first
unreachable-requires-in_default-pop_first g c =
    let st = c.args.self.now in
    let t = c.in-Some.ensures.there in
    let same = same_Some c.in-Some-index_mut.descriptor t.0 (sym c.in-Some-index_mut.is
    ∙ read_is st.descriptors.items c.in-Some.place t.0 c.index_mut.result.now t.1
    c.index_mut.ensures.value) in
    not_emptied (Kept.waits_as c.args.key.number) t.0.waits t.2
    (ap (λ d. filter (Kept.waits_as c.args.key.number) d.waits) (sym same)
    ∙ (sym c.take_key-taken.ensures.taken ∙ c.in_default-pop_first.ensures.0))

pub returns : goal.returns
returns g c past r =
    let st = c.args.self.now in
    let t = c.in-Some.ensures.there in
    let key = c.args.key in
    let q = c.in-Some-pop_first.registration in
    let same = same_Some c.in-Some-index_mut.descriptor t.0 (sym c.in-Some-index_mut.is
    ∙ read_is st.descriptors.items c.in-Some.place t.0 c.index_mut.result.now t.1
    c.index_mut.ensures.value) in
    let taken : c.take_key-taken.result ≡ filter (Kept.waits_as key.number) t.0.waits =
    c.take_key-taken.ensures.taken ∙ ap (λ d. filter (Kept.waits_as key.number) d.waits) same in
    let there = in_filter (Kept.waits_as key.number) q t.0.waits
    (subst (λ l. IsIn q l) (sym c.in-Some-pop_first.ensures ∙ taken) (inl refl)) in
    let q_is : q.key ≡ key.number = eqb-true q.key key.number there.1 in
    let without_key : OpenDescriptor g.row.T.Denot → OpenDescriptor g.row.T.Denot =
    λ d. record d { waits = filter (λ x. not (Kept.waits_as key.number x)) d.waits } in
    let left = c.take_key-taken.ensures.left ∙ ap without_key same in
    let ascend =
    ascends_flags st.flags (subst (Ascends flag_number) (sym r.table.unasked) r.ordered.flags_ascend) in
    let f = facts_of st.stripe st.first past in
    stepped g.T.Load.tag past st r _ _ (withdrawn f key (kind_of g.T.Load.tag q.load))
    (right_back g.T.Load.tag st past r key c.in-Some.place t.0 q c.into_job.result t.1
    there.0 q_is c.into_job.ensures) refl refl
    (ap (withdrawn f key) (ap (kind_of_job g.T.Load.tag) c.into_job.ensures ∙ kind_back g.T.Load.tag q.load))
    (withdrawn_shows g.T.Load.tag st _ f c.in-Some.place t.0 c.take_key-taken.new.self key q r t.1 there.0
    q_is left refl refl refl (c.end.ensures ascend) c.take_out.ensures.others c.take_out.ensures.here)

pub holder_of-requires : goal.holder_of-requires
holder_of-requires g c = c.requires.1.table.many

pub take_out-requires : goal.take_out-requires
take_out-requires g c =
    let st = c.args.self.now in
    let t = c.in-Some.ensures.there in
    let le = slice_get_within st.descriptors.items c.in-Some.place (Some t.0) t.1 in
    let many = c.requires.1.table.many in
    omega arith
