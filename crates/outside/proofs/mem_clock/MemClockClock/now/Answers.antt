use Rattle.std.proofs.Common.{◌≡◌, ◌<◌, ◌-◌, ◌∙◌, length, min, slice_index, refl, ap, arith}
use Rattle.std.proofs.lemmas.List.{get_or_read}
use Rattle.outside.proofs.MemClockLemmas.{gains_one}
use Rattle.outside.proofs.mem_clock.MemClockClock.now.Goals as goal
use Rattle.outside.proofs.mem_clock.MemClockClock.now.Goals.{then-self-last, else-self-last}

pub returns-clause-gives : goal.returns-clause-gives
returns-clause-gives c =
    let moments = c.self.inside.moments in
    let some : 0 < length moments.items = omega (arith, c.self.invariant, moments.ok.0) in
    let at_is : c.if-self-last.at ≡ min c.self.inside.asked (length moments.items - 1) =
    elim c.if-self-last.branch [
      | then-self-last w ↦ omega (arith, w.at-is, w.if-self-last.true, c.len-last.ensures, moments.ok.0)
      | else-self-last w ↦ omega (arith, w.at-is, w.if-self-last.false, c.len-last.ensures, moments.ok.0)
    ] in
    rw (← c.self.view_is) (record {
      gains =
          gains_one moments.items c.self.inside.asked c.saturating_add-self-inside.result
          c.index.result.now _ _ refl refl c.saturating_add-self-inside.ensures
          (get_or_read moments.items _ _ (omega (arith, at_is, some)) c.index.ensures 0
          ∙ ap (λ n. slice_index moments.items n) at_is);
      stays = refl;
    })
