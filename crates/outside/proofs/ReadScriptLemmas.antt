-- The events of the reads of a link in memory, one place on.
use Rattle.std.proofs.Common.{◌≡◌, ◌≢◌, ℕ, zero, suc, ◌+◌, ◌-◌, ◌<◌, List, [], ◌∷◌, ◌++◌, length, take, drop}
use Rattle.std.proofs.Common.{min, refl, sym, ap, ◌∙◌, append_assoc, arith}
use Rattle.std.proofs.Math.Seq.{take-add}
use Rattle.std.proofs.lemmas.Bool.Decides.{nat_tests}
use Rattle.std.proofs.lemmas.Grind.{common_steps}
use Rattle.std.proofs.lemmas.List.{drop-drop}
use Rattle.outside.specs.declared.link.ReadOut.TheVariants as Reads
use Rattle.outside.specs.declared.read_script.ReadEvent.{ReadEvent}
use Rattle.outside.specs.declared.read_script.ReadEvent.TheVariants as Events
use Rattle.outside.specs.ReadScript.{Gives, EachFilled, IsPlace, IsWithin, PlaysRead, ReadStep, with_rest}

-- none of the bytes of the first event is fewer than it has
pub within_first : (events : List ReadEvent) → EachFilled events → IsWithin events 0
within_first [] all = refl
within_first (Events.Piece bytes ∷ events) all = grind (arith, nat_tests)
within_first (Events.NotYet ∷ events) all = refl
within_first (Events.Fail ∷ events) all = refl

-- of events that are filled those after a place are
pub filled_behind : (n : ℕ) (events : List ReadEvent) → EachFilled events → EachFilled (drop n events)
filled_behind zero events all = all
filled_behind (suc n) [] all = all
filled_behind (suc n) (Events.Piece bytes ∷ events) all = filled_behind n events (grind (arith, nat_tests))
filled_behind (suc n) (Events.NotYet ∷ events) all = filled_behind n events all
filled_behind (suc n) (Events.Fail ∷ events) all = filled_behind n events all

-- after an event that is done stands the next one, of which nothing was given
pub next_place : (events : List ReadEvent) (done : ℕ) → done < length events → EachFilled events
    → IsPlace events (done + 1) 0
next_place events done inside all = record {
  inside = omega arith;
  within = within_first (drop (done + 1) events) (filled_behind (done + 1) events all);
  filled = all;
}

-- a rest of at least one byte stays
pub rest_stays : (rest : List ℕ) (more : List ReadStep) → 0 < length rest
    → with_rest rest more ≡ Gives rest ∷ more
rest_stays [] more some = absurd (omega arith)
rest_stays (byte ∷ rest) more some = refl

-- a part of a piece was given, and its rest stays
pub part_plays : (bytes buf : List ℕ) (given n : ℕ) (more : List ReadStep) → given < length bytes
    → n ≡ min (length bytes - given) (length buf)
    → take n buf ≡ take n (drop given bytes) → given + n ≢ length bytes
    → PlaysRead (Gives (drop given bytes) ∷ more) (Gives (drop (given + n) bytes) ∷ more) (Reads.Got n) buf
part_plays bytes buf given n more inside count same some =
    let size : length (drop given bytes) ≡ length bytes - given = grind (arith, common_steps) in
    let n_is : min (length (drop given bytes)) (length buf) ≡ n =
    ap (λ k. min k (length buf)) size ∙ sym count in
    let rest : 0 < length (drop (given + n) bytes) = grind (arith, common_steps) in
    rw n_is (
      refl,
      same,
      sym (rest_stays (drop (given + n) bytes) more rest)
          ∙ ap (λ (t : List ℕ). with_rest t more) (sym (drop-drop n given bytes)),
    )

-- a part of a piece comes to what was given before
pub part_gives : (before bytes buf : List ℕ) (given n : ℕ) → take n buf ≡ take n (drop given bytes)
    → before ++ take (given + n) bytes ≡ before ++ take given bytes ++ take n buf
part_gives before bytes buf given n same =
    ap (λ (t : List ℕ). before ++ t)
    (take-add given n bytes ∙ ap (λ (t : List ℕ). take given bytes ++ t) (sym same))
    ∙ sym (append_assoc before (take given bytes) (take n buf))
