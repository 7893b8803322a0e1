use Rattle.std.proofs.Common.{◌≡◌, ℕ, ◌-◌, ◌+◌, suc, List, length, sym, subst, ◌∙◌, arith}
use Rattle.poller.specs.Polls.{Report}
use Rattle.poller.specs.Rounds.{Rounding}
use Rattle.poller.proofs.RoundLemmas.{round_begins, round_full, round_goes_on, round_whole, some_left}
use Rattle.poller.proofs.mem_poller.MemPoller.go_round.Goals as goal

pub loop-met-init : goal.loop-met-init
loop-met-init c =
    let entries = c.args.self.now.entries in
    let n : c.len-met-end.result - 0 ≡ length entries.items =
    omega (arith, c.len-met-end.ensures, entries.ok.0) in
    subst (λ (t : List Report × ℕ). Rounding entries.items entries.items t.0 t.1)
    (λ i. (sym c.requires i, sym n i)) (round_begins entries.items)

pub loop-met-preserved : goal.loop-met-preserved
loop-met-preserved c =
    let e : c.len-met-end.result - c.loop-met._met ≡ suc (c.len-met-end.result - (c.loop-met._met + 1)) =
    omega (arith, c.loop-met-test.true) in
    round_goes_on _ _ _ _ _ _
    (subst (Rounding c.args.self.now.entries.items c.loop-met.self.entries.items c.loop-met.out)
    e c.loop-met.invariant) c.meet_first.ensures

pub meet_first-requires-clause-some : goal.meet_first-requires-clause-some
meet_first-requires-clause-some c =
    some_left _ _ _ _ (omega (arith, c.loop-met-test.true)) c.loop-met.invariant

pub returns-then-len-eq-REPORTS : goal.returns-then-len-eq-REPORTS
returns-then-len-eq-REPORTS c =
    round_full _ _ _ _ (sym c.len.ensures.count ∙ c.if-len-eq-REPORTS.true) c.loop-met.invariant

pub returns : goal.returns
returns c = round_whole _ _ _ _ (omega (arith, c.loop-met-test.false)) c.loop-met.invariant
