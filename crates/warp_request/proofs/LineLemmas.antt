-- The empty lines before a head.
use Rattle.std.proofs.Common.{◌≡◌, ℕ, ◌+◌, Bool, true, false, cond, ◌==◌, ◌&&◌, List, [], ◌∷◌, drop, refl}
use Rattle.std.proofs.Common.{sym, ap, ◌∙◌, arith, drop-drop}
use Rattle.warp_request.specs.Lines.{skip_empty, line_end_len}

one_byte : (b : ℕ) (t : Bool) → (b == 10) ≡ t → cond t [] (b ∷ []) ≡ skip_empty (b ∷ [])
    → skip_empty (drop (cond t 1 0) (b ∷ [])) ≡ skip_empty (b ∷ [])
unfolding skip_empty
one_byte b true is same = same
one_byte b false is same = refl

two_bytes : (b c : ℕ) (s : List ℕ) (t u : Bool) → (b == 10) ≡ t → (b == 13 && c == 10) ≡ u
    → skip_empty (drop (cond t 1 (cond u 2 0)) (b ∷ c ∷ s)) ≡ skip_empty (b ∷ c ∷ s)
unfolding skip_empty
two_bytes b c s true u is also = rw is refl
two_bytes b c s false true is also = rw (is, also) refl
two_bytes b c s false false is also = refl

-- a line end at the front is an empty line
pub skip_next : (s : List ℕ) → skip_empty (drop (line_end_len s) s) ≡ skip_empty s
unfolding skip_empty
skip_next [] = refl
skip_next (b ∷ []) = one_byte b (b == 10) refl refl
skip_next (b ∷ c ∷ s) = two_bytes b c s (b == 10) (b == 13 && c == 10) refl refl

one_stop : (b : ℕ) (t : Bool) → (b == 10) ≡ t → ◌≡◌ {A = ℕ} (cond t 1 0) 0 → cond t [] (b ∷ []) ≡ b ∷ []
one_stop b true is zeroed = absurd (omega (arith, zeroed))
one_stop b false is zeroed = refl

two_stop : (b c : ℕ) (s x y : List ℕ) (t u : Bool) → ◌≡◌ {A = ℕ} (cond t 1 (cond u 2 0)) 0
    → cond t x (cond u y (b ∷ c ∷ s)) ≡ b ∷ c ∷ s
two_stop b c s x y true u zeroed = absurd (omega (arith, zeroed))
two_stop b c s x y false true zeroed = absurd (omega (arith, zeroed))
two_stop b c s x y false false zeroed = refl

-- without one there is no empty line
pub skip_stop : (s : List ℕ) → line_end_len s ≡ 0 → skip_empty s ≡ s
unfolding skip_empty
skip_stop [] e = refl
skip_stop (b ∷ []) e = one_stop b (b == 10) refl e
skip_stop (b ∷ c ∷ s) e = two_stop b c s _ _ (b == 10) (b == 13 && c == 10) e

pub skip_on : (s : List ℕ) (at : ℕ) → skip_empty (drop at s) ≡ skip_empty s
    → skip_empty (drop (at + line_end_len (drop at s)) s) ≡ skip_empty s
skip_on s at e =
    ap (λ (t : List ℕ). skip_empty t) (sym (drop-drop (line_end_len (drop at s)) at s))
    ∙ skip_next (drop at s) ∙ e
