-- A seat that stands hasn't noted that it leaves, and nobody notes it in its place.
use Rattle.std.proofs.Common.{◌≡◌, ℕ, ◌+◌, List, length, true, false, sym, refl, ap, ◌∙◌, subst, lt_of_not-le}
use Rattle.std.proofs.Common.{arith}
use Rattle.std.specs.Prelude.{slice_index}
use mathlib.Core.Option.{some, some-injective}
use lib.ListN.{get_elem?}
use native.Mathlib.Decide.{dec_le, ℕ_discrete}
use Rattle.atomic_table.specs.Table.{State}
use Rattle.poller.specs.declared.seat_knowledge.Role.{Role}
use Rattle.poller.specs.declared.seat_knowledge.Role.TheVariants.{Reads}
use Rattle.poller.specs.declared.seat_knowledge.SeatKnowledge.{SeatKnowledge}
use Rattle.poller.specs.Deliveries.{MayRead, IsNet, IsUnnoted, ReaderHasLeft}

-- the seat that reads a word hasn't left while it stands
still_there : (limits : List ℕ) (s : State ℕ SeatKnowledge) (j : ℕ) (v : SeatKnowledge) (word : ℕ)
    → IsNet limits s → get_elem? s.views j ≡ some v → v.role ≡ Reads word → v.gone ≡ false
    → ReaderHasLeft s.views word → ⊥
still_there limits s j v word net at reads stands r = elim (ℕ_discrete j r.at) [
  | yes e ↦ let is : v ≡ r.seat =
      some-injective v r.seat (sym at ∙ (ap (λ (x : ℕ). get_elem? s.views x) e ∙ r.there)) in
      let gone : true ≡ false = sym r.gone ∙ (sym (ap (λ (x : SeatKnowledge). x.gone) is) ∙ stands) in
      absurd (cc)
  | no d ↦
      net.read_apart j r.at v r.seat d at r.there word (subst (λ (x : Role). MayRead x word) (sym reads) refl)
      (subst (λ (x : Role). MayRead x word) (sym r.reads) refl)
]

pub unnoted : IsUnnoted
unnoted limits s j v word net at reads stands = elim (dec_le 1 (slice_index s.words (length limits + word))) [
  | yes h ↦ absurd (still_there limits s j v word net at reads stands (net.notes word h))
  | no h ↦ let l = lt_of_not-le h in omega (arith, l)
]
