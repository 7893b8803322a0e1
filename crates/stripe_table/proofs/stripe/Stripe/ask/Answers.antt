use Rattle.std.proofs.Common.{◌/◌, refl, sym, ap, ◌∙◌, subst}
use Rattle.std.specs.Prelude.{filter, not}
use Rattle.std.proofs.lemmas.Bool.{both_ways, cond-true, cond-false}
use Rattle.reg_keys.specs.Histories.{is_fired}
use Rattle.reg_keys.specs.Replies as Replies
use Rattle.reg_keys.specs.declared.entry.AskOutcome.TheVariants as Asks
use Rattle.stripe_table.specs.Ascending.{Ascends}
use Rattle.stripe_table.specs.Facts.{facts_of, flag_number, told}
use Rattle.stripe_table.specs.Flags.{flag_has, is_settled}
use Rattle.stripe_table.specs.Represents.{standing_of}
use Rattle.stripe_table.proofs.Steps.{stepped}
use Rattle.stripe_table.proofs.Taking.{ascends_flags}
use Rattle.stripe_table.proofs.Asks.{same_shows, right_unknown, right_told, told_shows, ran_shows, has_place}
use Rattle.stripe_table.proofs.Asks.{fd_is, waits_still}
use Rattle.stripe_table.proofs.stripe.Stripe.ask.Goals as goal

pub returns-in_default : goal.returns-in_default
returns-in_default g c past r =
    let st = c.args.self.now in
    let ascend =
    ascends_flags st.flags (subst (Ascends flag_number) (sym r.table.unasked) r.ordered.flags_ascend) in
    stepped g.T.Load.tag past st r _ _ (facts_of st.stripe st.first past)
    (right_unknown g.T.Load.tag st past r c.args.key (c.in_default.ensures.told ascend)) refl refl refl
    (same_shows g.T.Load.tag st _
    (facts_of st.stripe st.first past) r refl refl refl c.in_default.ensures.none refl)

pub free_place-requires : goal.free_place-requires
free_place-requires g c d there number =
    let st = c.args.self.now in
    let r = c.requires.1 in
    let flag = c.in-Some.flag in
    let ascend =
    ascends_flags st.flags (subst (Ascends flag_number) (sym r.table.unasked) r.ordered.flags_ascend) in
    let f = facts_of st.stripe st.first c.requires.0 in
    let at = c.in-Some.ensures.told ascend in
    has_place g.T.Load.tag st f r c.args.key flag at (flag.opening.fd / 32) d there number
    (fd_is g.T.Load.tag st f r c.args.key flag at) (ap (λ x. is_fired (standing_of x)) c.in-Ran.is)

pub returns-in-Waiting : goal.returns-in-Waiting
returns-in-Waiting g c past r =
    let st = c.args.self.now in
    let flag = c.in-Some.flag in
    let ascend =
    ascends_flags st.flags (subst (Ascends flag_number) (sym r.table.unasked) r.ordered.flags_ascend) in
    let f = facts_of st.stripe st.first past in
    let at = c.in-Some.ensures.told ascend in
    stepped g.T.Load.tag past st r _ _ f
    (right_told g.T.Load.tag st past r c.args.key flag at Asks.Waiting
    (ap (λ x. Replies.told (standing_of x)) (sym c.in-Waiting.is))) refl refl refl
    (same_shows g.T.Load.tag st _ f r refl refl refl (c.in-Some.ensures.kept ascend
    ∙ cond-false (is_settled flag) (filter (λ h. not (flag_has c.args.key.number h)) st.flags) st.flags
    (ap (λ x. is_settled (record flag { state = x })) c.in-Waiting.is)) refl)

pub returns-in-Ran : goal.returns-in-Ran
returns-in-Ran g c past r =
    let st = c.args.self.now in
    let flag = c.in-Some.flag in
    let ascend =
    ascends_flags st.flags (subst (Ascends flag_number) (sym r.table.unasked) r.ordered.flags_ascend) in
    let f = facts_of st.stripe st.first past in
    let at = c.in-Some.ensures.told ascend in
    let same = c.free_place.ensures.same in
    stepped g.T.Load.tag past st r c.free_place.new.self _ (told f c.args.key)
    (right_told g.T.Load.tag st past r c.args.key flag at (Asks.Ran c.in-Ran.dir c.in-Ran.marks)
    (ap (λ x. Replies.told (standing_of x)) (sym c.in-Ran.is))) same.0 same.1 refl
    (ran_shows g.T.Load.tag st f r c.args.key flag at c.free_place.new.self
    (ap (λ x. waits_still (standing_of x)) c.in-Ran.is)
    (ap (λ x. is_fired (standing_of x)) c.in-Ran.is) same.0 same.2
    (same.3 ∙ (c.in-Some.ensures.kept ascend
    ∙ cond-true (is_settled flag) (filter (λ h. not (flag_has c.args.key.number h)) st.flags) st.flags
    (ap (λ x. is_settled (record flag { state = x })) c.in-Ran.is)))
    same.4
    c.free_place.ensures.absent c.free_place.ensures.there)

pub returns-in-Closed : goal.returns-in-Closed
returns-in-Closed g c past r =
    let st = c.args.self.now in
    let flag = c.in-Some.flag in
    let ascend =
    ascends_flags st.flags (subst (Ascends flag_number) (sym r.table.unasked) r.ordered.flags_ascend) in
    let f = facts_of st.stripe st.first past in
    let at = c.in-Some.ensures.told ascend in
    stepped g.T.Load.tag past st r _ _ (told f c.args.key)
    (right_told g.T.Load.tag st past r c.args.key flag at Asks.Closed
    (ap (λ x. Replies.told (standing_of x)) (sym c.in-Closed.is))) refl refl refl
    (told_shows g.T.Load.tag st f r c.args.key flag at _
    (ap (λ x. waits_still (standing_of x)) c.in-Closed.is) (λ i d e h. absurd
    (both_ways (is_fired (standing_of flag.state)) (ap (λ x. is_fired (standing_of x)) c.in-Closed.is) h))
    refl refl refl
    (c.in-Some.ensures.kept ascend
    ∙ cond-true (is_settled flag) (filter (λ h. not (flag_has c.args.key.number h)) st.flags) st.flags
    (ap (λ x. is_settled (record flag { state = x })) c.in-Closed.is)) refl)
