use Rattle.std.proofs.Common.{◌*◌, ◌+◌, ◌/◌, ◌≡◌, refl, sym, ap, ◌∙◌, arith, subst, ℕ}
use Rattle.std.specs.Prelude.{Some, None}
use Rattle.std.proofs.lemmas.Option.{slice_get_read}
use Rattle.reg_keys.specs.Histories.{owner_of}
use Rattle.stripe_table.specs.Facts.{facts_of, made}
use Rattle.stripe_table.specs.Represents.{opening}
use Rattle.stripe_table.proofs.Steps.{unchanged, stepped, spent, not_spent}
use Rattle.stripe_table.proofs.Opens.{made_shows, right_taken, right_spent, right_opened}
use Rattle.stripe_table.proofs.stripe.Stripe.open.Goals as goal

pub index-requires : goal.index-requires
index-requires g c =
    let st = c.args.self.now in
    let f = c.requires.fits in
    let many = f.1.table.many in
    let ok = st.descriptors.ok.0 in
    let low = c.requires.within in
    omega arith

pub returns-in-Some : goal.returns-in-Some
returns-in-Some g c past r =
    let st = c.args.self.now in
    let fd = c.args.fd in
    let many = r.table.many in
    let low = c.requires.within in
    let of = c.requires.of in
    let at = slice_get_read st.descriptors.items _ (fd / 32) c.index.result.now refl
    (omega arith) c.index.ensures ∙ ap Some c.in-Some.is in
    let here : fd ≡ 32 * (fd / 32) + st.stripe = omega arith in
    let own = subst (λ (n : ℕ). owner_of past n ≡ Some (opening c.in-Some.descriptor.number n))
    (sym here) (r.table.each (fd / 32) (Some c.in-Some.descriptor) at).owner in
    unchanged g.T.Load.tag past st r _
    (right_taken st.stripe st.first past fd (opening c.in-Some.descriptor.number fd) own) refl

pub returns-then-self-ge-LAST_COUNT : goal.returns-then-self-ge-LAST_COUNT
returns-then-self-ge-LAST_COUNT g c past r =
    let st = c.args.self.now in
    let fd = c.args.fd in
    let many = r.table.many in
    let low = c.requires.within in
    let of = c.requires.of in
    let at = slice_get_read st.descriptors.items _ (fd / 32) c.index.result.now refl
    (omega arith) c.index.ensures ∙ ap Some c.in_default.is in
    let here : fd ≡ 32 * (fd / 32) + st.stripe = omega arith in
    let own = subst (λ (n : ℕ). owner_of past n ≡ None) (sym here) (r.table.each (fd / 32) None at).owner in
    unchanged g.T.Load.tag past st r _
    (right_spent st.stripe st.first past fd own (spent g.T.Load.tag past st r c.if-self-ge-LAST_COUNT.true))
    refl

pub returns : goal.returns
returns g c past r =
    let st = c.args.self.now in
    let fd = c.args.fd in
    let many = r.table.many in
    let low = c.requires.within in
    let of = c.requires.of in
    let count = r.count in
    let at = slice_get_read st.descriptors.items _ (fd / 32) c.index.result.now refl
    (omega arith) c.index.ensures ∙ ap Some c.in_default.is in
    let here : fd ≡ 32 * (fd / 32) + st.stripe = omega arith in
    let n_is = c.next_number-number.ensures in
    let own = subst (λ (n : ℕ). owner_of past n ≡ None) (sym here) (r.table.each (fd / 32) None at).owner in
    stepped g.T.Load.tag past st r _ _
    (made (facts_of st.stripe st.first past) fd (opening c.next_number-number.result fd))
    (right_opened st.stripe st.first past fd c.next_number-number.result (n_is ∙ omega arith) own
    (not_spent g.T.Load.tag past st r c.if-self-ge-LAST_COUNT.false)) refl refl refl
    (made_shows g.T.Load.tag st _ (facts_of st.stripe st.first past) fd (fd / 32) c.next_number-number.result
    c.new.result r at here low of n_is c.new.ensures refl refl refl refl refl)
