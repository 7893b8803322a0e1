-- Accounts follow one another.
use Rattle.std.proofs.Common.{◌≡◌, ℕ, ◌⊎◌, inl, inr, ⊎_elim, List, [], ◌∷◌, ◌++◌, length, sym, refl, ap, ◌∙◌}
use Rattle.std.proofs.Common.{arith}
use Rattle.std.proofs.lemmas.List.{append_assoc}
use Rattle.reg_keys.specs.declared.event.EventName.{EventName}
use Rattle.dispatcher.specs.Stripes.{HasGrown}
use Rattle.dispatcher.specs.Books.{Book, IsBalanced, DispatchesTaken, DispatchesNoOther, WasFullWithin}
use Rattle.dispatcher.specs.Books.{IsLeftOf, PutsAll, IsAccounted}
use Rattle.dispatcher.specs.Laws.{grown_same, grown_then}
use Rattle.dispatcher.proofs.Within.{within_later, within_sooner}

pub balanced_then : (b c d : Book) → IsBalanced b c → IsBalanced c d → IsBalanced b d
balanced_then b c d p q h =
    let s = p h in
    let t = q h in omega arith

pub balanced_same : (b : Book) → IsBalanced b b
balanced_same b h = omega arith

takes_then : (b c d : Book) → DispatchesTaken b c → DispatchesTaken c d → DispatchesTaken b d
takes_then b c d p q h =
    let s = p h in
    let t = q h in omega arith

others_then : (b c d : Book) → DispatchesNoOther b c → DispatchesNoOther c d → DispatchesNoOther b d
others_then b c d p q h =
    let s = p h in
    let t = q h in omega arith

pub left_then : (xs ys zs : List EventName) → IsLeftOf xs ys → IsLeftOf ys zs → IsLeftOf xs zs
left_then xs ys zs p q =
    (p.0 ++ q.0, p.1 ∙ (ap (λ (l : List EventName). p.0 ++ l) q.1 ∙ sym (append_assoc p.0 q.0 zs)))

pub left_same : (xs : List EventName) → IsLeftOf xs xs
left_same xs = ([], refl)

-- nothing is left of nothing
pub left_none : (ys : List EventName) → IsLeftOf [] ys → ys ≡ []
left_none [] p = refl
left_none (y ∷ ys) ([], e) = sym e
left_none (y ∷ ys) (x ∷ xs, e) = absurd (cc)

puts_then : (b c d : Book) → PutsAll b c → PutsAll c d → PutsAll b d
puts_then b c d p q = record {
  hand = left_then b.hand c.hand d.hand p.hand q.hand;
  others = others_then b c d p.others q.others;
}

module _ (capacity : ℕ) where
  full_then : (b c d : Book) → HasGrown b.queue c.queue → HasGrown c.queue d.queue
      → WasFullWithin capacity b.queue c.queue ⊎ PutsAll b c → WasFullWithin capacity c.queue d.queue
      ⊎ PutsAll c d → WasFullWithin capacity b.queue d.queue ⊎ PutsAll b d
  full_then b c d g k p q = ⊎_elim
      (λ f. inl (within_later capacity (λ events. length events ≡ capacity) b.queue c.queue d.queue f k))
      (λ a. ⊎_elim (λ f.
      inl (within_sooner capacity (λ events. length events ≡ capacity) b.queue c.queue d.queue g f))
      (λ e. inr (puts_then b c d a e)) q)
      p

  pub accounted_then : (b c d : Book) → IsAccounted capacity b c → IsAccounted capacity c d
      → IsAccounted capacity b d
  accounted_then b c d p q = record {
    balanced = balanced_then b c d p.balanced q.balanced;
    takes = takes_then b c d p.takes q.takes;
    full = full_then b c d p.queue q.queue p.full q.full;
    queue = grown_then b.queue c.queue d.queue p.queue q.queue;
  }

  pub accounted_same : (b : Book) → IsAccounted capacity b b
  accounted_same b = record {
    balanced = balanced_same b;
    takes = λ h. omega arith;
    full = inr (record { hand = left_same b.hand; others = λ h. omega arith });
    queue = grown_same b.queue;
  }
