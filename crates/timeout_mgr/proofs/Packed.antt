-- What a word says that was unpacked.
use Rattle.std.proofs.Common.{◌≡◌, ◌≢◌, ℕ, zero, suc, ◌+◌, ◌*◌, ◌/◌, ◌%◌, ◌<◌, ◌≤◌, ◌⊎◌, inl, inr, ⊎_elim}
use Rattle.std.proofs.Common.{refl, ap, ◌∙◌, arith}
use Rattle.timeout_mgr.specs.declared.word.SlotState.{SlotState}
use Rattle.timeout_mgr.specs.declared.word.SlotState.TheVariants.{Free}
use Rattle.timeout_mgr.specs.declared.word.Word.{Word}
use Rattle.timeout_mgr.specs.Word.{code_of, state_at, word_of}

-- the number of the state that has a number is that number, up to 3
code_back : (m : ℕ) → (code_of (state_at m) ≡ m) ⊎ ((4 ≤ m) × (code_of (state_at m) ≡ 4))
code_back zero = inl refl
code_back (suc zero) = inl refl
code_back (suc (suc zero)) = inl refl
code_back (suc (suc (suc zero))) = inl refl
code_back (suc (suc (suc (suc n)))) = inr (omega arith, refl)

module _ (n : ℕ) (w : Word) (is : w ≡ word_of n) where
  uses_are : w.uses ≡ n / 8
  uses_are = ap (λ (x : Word). x.uses) is

  code_is : code_of w.state ≡ code_of (state_at (n % 8))
  code_is = ap (λ (x : Word). code_of x.state) is

  pub packed : (s : SlotState) → w.state ≡ s → code_of s < 4 → n ≡ 8 * w.uses + code_of s
  packed s e lt =
      let c = ap code_of e in
      let a = code_is in
      let u = uses_are in
      ⊎_elim (λ (k : code_of (state_at (n % 8)) ≡ n % 8). omega (arith, k, c, a, u)) (λ k. let k1 = k.1 in
      absurd (omega (arith, k1, c, a, lt))) (code_back (n % 8))

  pub not_alive : (s : SlotState) → w.state ≡ s → code_of s ≢ 2 → code_of s ≢ 3 → (n % 8 ≢ 2) × (n % 8 ≢ 3)
  not_alive s e x y =
      let c = ap code_of e in
      let a = code_is in
      ⊎_elim (λ (k : code_of (state_at (n % 8))
      ≡ n % 8). ((λ z. x (omega (arith, k, c, a, z))), (λ z. y (omega (arith, k, c, a, z)))))
      (λ k. let k0 = k.0 in ((λ z. omega (arith, k0, z)), (λ z. omega (arith, k0, z)))) (code_back (n % 8))

  pub is_free : (u : ℕ) → n ≡ 8 * u → w.state ≡ Free
  is_free u e = let m : n % 8 ≡ 0 = omega (arith, e) in ap (λ (x : Word). x.state) is ∙ ap state_at m
