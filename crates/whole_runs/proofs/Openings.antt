-- The same opening, either way round.
use Rattle.std.proofs.Common.{◌≡◌, ℕ, ⊎_elim, true, false, sym, refl, ap, ◌∙◌}
use Rattle.std.specs.Prelude.{◌==◌, ◌&&◌}
use Rattle.std.proofs.lemmas.Bool.{eqb-true, eqb-false, eq-eqb, ne_eqb, cases_Bool}
use Rattle.reg_keys.specs.declared.opening.Opening.{Opening}
use Rattle.reg_keys.specs.Tests.{same}

eq_turned : (n m : ℕ) → (n == m) ≡ (m == n)
eq_turned n m = ⊎_elim
    (λ (h : (m == n) ≡ true). let e = eqb-true m n h in eq-eqb n m (sym e) ∙ sym h)
    (λ (h : (m == n) ≡ false). let e =
    eqb-false m n h in ne_eqb n m (λ x. e (sym x)) ∙ sym h) (cases_Bool (m == n))

pub same_turned : (o p : Opening) → same o p ≡ same p o
same_turned o p = λ i. eq_turned o.number p.number i && eq_turned o.fd p.fd i

pub same_self : (o : Opening) → same o o ≡ true
same_self o = ap (λ b. b && (o.fd == o.fd)) (eq-eqb o.number o.number refl) ∙ eq-eqb o.fd o.fd refl
