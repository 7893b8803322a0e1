-- Inner: laws that crates above cite, or that those stand on: a target that isn't ended
-- has no line's end after it.
use Rattle.std.proofs.Common.{◌≡◌, ℕ, ◌<◌, ◌⊎◌, Bool, true, false, ◌==◌, List, [], ◌∷◌, ◌++◌, length, refl}
use Rattle.std.proofs.Common.{ap, ◌∙◌, subst, arith, append_assoc, inl, inr}
use Rattle.std.specs.List.{list_any}
use Rattle.std.proofs.lemmas.Bool.{cases_eq, both_ways, ne_eqb, or_parts}
use Rattle.std.proofs.lemmas.List.Elements.{All-head, All-weaker}
use Rattle.std.proofs.lemmas.List.Folds.{list_any_none, list_any-append}
use Rattle.httparse.specs.Grammar.{EndsInTarget, print_blank, LineEnd, crlf, lf, AllPass, is_token_byte}
use Rattle.httparse.specs.Grammar.{is_uri_byte}
use Rattle.httparse.specs.Pieces.{is_newline}
use Rattle.httparse.proofs.PieceLemmas.{token_is_no_newline}
use Rattle.warp_request.specs.Lines.{skip_empty, has_line}

skip_lf : (t : List ℕ) → skip_empty (10 ∷ t) ≡ skip_empty t
unfolding skip_empty
skip_lf [] = refl
skip_lf (c ∷ s) = refl

skip_crlf : (t : List ℕ) → skip_empty (13 ∷ 10 ∷ t) ≡ skip_empty t
unfolding skip_empty
skip_crlf t = refl

-- empty lines are skipped
pub skip_blank : (es : List LineEnd) (t : List ℕ) → skip_empty (print_blank es ++ t) ≡ skip_empty t
skip_blank [] t = refl
skip_blank (crlf ∷ es) t = skip_crlf (print_blank es ++ t) ∙ skip_blank es t
skip_blank (lf ∷ es) t = skip_lf (print_blank es ++ t) ∙ skip_blank es t

-- what begins with another byte isn't skipped
pub skip_other : (b : ℕ) (t : List ℕ) → is_newline b ≡ false → skip_empty (b ∷ t) ≡ b ∷ t
unfolding skip_empty
skip_other b [] other = rw (or_parts (b == 13) (b == 10) other).1 refl
skip_other b (c ∷ t) other = let is = or_parts (b == 13) (b == 10) other in rw (is.1, is.0) refl

no_lf : (test : ℕ → Bool) → test 10 ≡ false → (b : ℕ) → (b ≡ 10) ⊎ (b ≡ 10 → ⊥)
    → test b ≡ true → (b == 10) ≡ false
no_lf test fails b (inl e) pass = absurd (both_ways (test 10) fails (subst (λ (v : ℕ). test v ≡ true) e pass))
no_lf test fails b (inr nay) pass = ne_eqb b 10 nay

-- where no byte that passes is a line's end, bytes that pass have none
pub none_lf : (test : ℕ → Bool) → test 10 ≡ false → (bytes : List ℕ) → AllPass test bytes
    → list_any (λ b. b == 10) bytes ≡ false
none_lf test fails bytes all =
    list_any_none (λ b. b == 10) bytes
    (All-weaker (λ b. test b ≡ true) (λ b. (b == 10) ≡ false)
    (λ b pass. no_lf test fails b (cases_eq b 10) pass) bytes all)

lf_ends_token : is_token_byte 10 ≡ false
unfolding is_token_byte
lf_ends_token = refl

method_on : (m u : List ℕ) → 0 < length m → AllPass is_token_byte m → AllPass is_uri_byte u
    → list_any (λ b. b == 10) (skip_empty (m ++ 32 ∷ u)) ≡ false
method_on [] u some token uri = absurd (omega (arith, some))
method_on (b ∷ m) u some token uri =
    rw (skip_other b (m ++ 32 ∷ u) (token_is_no_newline b (All-head (λ v. is_token_byte v ≡ true) b m token)))
    (list_any-append (λ v. v == 10) (b ∷ m) (32 ∷ u)
    ∙ rw (none_lf is_token_byte lf_ends_token (b ∷ m) token) (none_lf is_uri_byte refl u uri))

-- where the bytes end in the target, there is no line's end
pub unfinished_target : (w : List ℕ) → EndsInTarget w → has_line w ≡ false
unfolding has_line
unfinished_target w x =
    let es = x.0 in
    let m = x.1 in
    let u = x.2 in
    ap (λ (t : List ℕ). list_any (λ b. b == 10) (skip_empty t))
    (x.5 ∙ append_assoc (print_blank es) m (32 ∷ u))
    ∙ ap (λ (t : List ℕ). list_any (λ b. b == 10) t) (skip_blank es (m ++ 32 ∷ u))
    ∙ method_on m u x.3.0 x.3.1 x.4
