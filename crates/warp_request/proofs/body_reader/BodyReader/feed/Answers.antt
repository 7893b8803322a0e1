use Rattle.std.proofs.Common.{◌≡◌, ◌+◌, ◌-◌, ◌<◌, ◌≤◌, ◌⊎◌, inl, inr, ℕ, List, ◌++◌, length, take, drop, ◌∙◌}
use Rattle.std.proofs.Common.{sym, ap, subst, append_assoc, length-drop, refl, arith}
use Rattle.std.proofs.Math.Seq.{take-add}
use Rattle.std.proofs.lemmas.List.{take_all}
use Rattle.warp_request.specs.declared.body_reader.BodyReader.{BodyReader}
use Rattle.warp_request.specs.declared.body_reader.BodyState.{BodyState}
use Rattle.warp_request.specs.declared.body_reader.BodyState.TheVariants as States
use Rattle.std.proofs.lemmas.Bool.{cases_lt}
use Rattle.warp_request.specs.declared.verdict.Framing.{Framing}
use Rattle.warp_request.specs.Body.{body_of, more}
use Rattle.warp_request.specs.BodyReader.{Represents, state_of, state_verdict}
use Rattle.warp_request.proofs.BodyVerdictLemmas.{says_of_all}
use Rattle.warp_request.proofs.body_reader.BodyReader.feed.Goals as goal
use Rattle.warp_request.proofs.body_reader.BodyReader.feed.Goals.{then-loop-used-test+else-is_open}
use Rattle.warp_request.proofs.body_reader.BodyReader.feed.Goals.{else-loop-used-test}

-- what is left of a piece, as a slice of it
rest_is : (piece : List ℕ) (used : ℕ) → take (length piece - used) (drop used piece) ≡ drop used piece
rest_is piece used =
    let size = length-drop used piece in
    take_all (length piece - used) (drop used piece) (omega (arith, size))

-- the bytes used, and those used next
used_next : (fed piece : List ℕ) (used n : ℕ)
    → fed ++ take used piece ++ take n (take (length piece - used) (drop used piece))
    ≡ fed ++ take (used + n) piece
used_next fed piece used n =
    append_assoc fed (take used piece) (take n (take (length piece - used) (drop used piece)))
    ∙ ap (λ (t : List ℕ). fed ++ (take used piece ++ take n t)) (rest_is piece used)
    ∙ ap (λ (t : List ℕ). fed ++ t) (sym (take-add used n piece))

-- a front of the bytes used so far, or one that ends in those used next
next_first : (piece : List ℕ) (used n : ℕ) (framing : Framing) (fed : List ℕ) (m : ℕ) → m < used + n
    → ((k : ℕ) → k < used → body_of framing (fed ++ take k piece) ≡ more)
    → ((k : ℕ) → k < n → body_of framing
    (fed ++ take used piece ++ take k (take (length piece - used) (drop used piece))) ≡ more)
    → body_of framing (fed ++ take m piece) ≡ more
next_first piece used n framing fed m before old next = go (cases_lt m used)
  where
    go : (m < used) ⊎ (used ≤ m) → body_of framing (fed ++ take m piece) ≡ more
    go (inl early) = old m early
    go (inr late) =
        let e : used + (m - used) ≡ m = omega (arith, late) in
        sym (ap (λ (t : List ℕ). body_of framing t)
        (used_next fed piece used (m - used) ∙ ap (λ (k : ℕ). fed ++ take k piece) e))
        ∙ next (m - used) (omega (arith, before, late))

pub loop-used-preserved : goal.loop-used-preserved
loop-used-preserved c =
    let piece = c.args.piece.now in
    let used = c.loop-used.used in
    let n = c.advance-used.result in
    let size = ap (λ (t : List ℕ). length t) (rest_is piece used) ∙ length-drop used piece in
    record {
      within = omega (arith, c.advance-used.ensures.within, size, c.loop-used-test.true);
      stands = λ framing fed first.
          subst (λ (t : List ℕ). Represents c.advance-used.new.self framing t) (used_next fed piece used n)
          (c.advance-used.ensures.stands framing (fed ++ take used piece)
          (c.loop-used.invariant.stands framing fed first));
      first =
          λ framing fed stood m before.
          next_first piece used n framing fed m before (c.loop-used.invariant.first framing fed stood)
          (c.advance-used.ensures.first framing (fed ++ take used piece)
          (c.loop-used.invariant.stands framing fed stood));
      ended = λ over.
          let same = c.loop-used.invariant.ended over in
          absurd (over (ap (λ (r : BodyReader). state_of r) (sym same.1) ∙ c.if-is_open.ensures.0 refl));
    }

pub returns-clause-state : goal.returns-clause-state
returns-clause-state c framing fed first =
    let reader = c.loop-used.self in
    let used = c.loop-used.used in
    let piece = c.args.piece.now in
    let all : state_of reader ≡ States.More → used ≡ length piece =
    λ opens. elim c.loop-used-test.branch [
      | then-loop-used-test+else-is_open w ↦ let shut = w.if-is_open.ensures.1 opens in absurd cc
      | else-loop-used-test w ↦ omega (arith, w.loop-used-test.false, c.loop-used.invariant.within)
    ] in
    says_of_all reader.place reader.sum framing fed piece used c.loop-used.invariant.within
    (c.loop-used.invariant.stands framing fed first) all
    ∙ ap (λ (s : BodyState). state_verdict s (length fed + used)) (sym c.state.ensures)
