-- The keys of openings, as the set orders them.
use Rattle.std.proofs.Common.{◌≡◌, ℕ, Bool, true, false, not, ◌&&◌, ◌||◌, refl, sym, ap, ◌∙◌, inl, inr}
use Rattle.std.specs.Prelude.{◌==◌, cond}
use Rattle.std.specs.declared.cmp.Ordering.{Ordering}
use Rattle.std.specs.declared.cmp.Ordering.TheVariants.{Less, Equal, Greater}
use Rattle.std.specs.Ordering.{is_eq, nat_cmp, ordering_then}
use Rattle.std.specs.Cmp.{unsigned_tied}
use Rattle.std.proofs.lemmas.Bool.{cases_eq, eq-eqb, ne_eqb}
use Rattle.reg_keys.specs.declared.opening.Opening.{Opening}
use Rattle.reg_keys.specs.Tests.{same}
use Rattle.warp_tally.specs.OpenSet.{key_cmp}

both_equal : (a b : Ordering) → is_eq (ordering_then a b) ≡ is_eq a && is_eq b
both_equal Less b = refl
both_equal Equal b = refl
both_equal Greater b = refl

turned_eq : (x y : ℕ) → (x == y) ≡ (y == x)
turned_eq x y = elim (cases_eq x y) [
  | inl e ↦ eq-eqb x y e ∙ sym (eq-eqb y x (sym e))
  | inr e ↦ ne_eqb x y e ∙ sym (ne_eqb y x (λ f. e (sym f)))
]

-- the set takes two openings for one exactly where they are the same
pub same_key : (o p : Opening) → is_eq (key_cmp (o.number, o.fd) (p.number, p.fd)) ≡ same p o
same_key o p = both_equal (nat_cmp o.number p.number) (nat_cmp o.fd p.fd)
    ∙ (ap (λ (b : Bool). b && is_eq (nat_cmp o.fd p.fd))
    (unsigned_tied o.number p.number ∙ turned_eq o.number p.number)
    ∙ ap (λ (b : Bool). (p.number == o.number) && b) (unsigned_tied o.fd p.fd ∙ turned_eq o.fd p.fd))

pub set_true : (b x : Bool) → cond b true x ≡ b || x
set_true true x = refl
set_true false x = refl

pub set_false : (b x : Bool) → cond b false x ≡ not b && x
set_false true x = refl
set_false false x = refl
