-- A list whose items go round, so that the last one comes to the front.
use Rattle.std.proofs.Common.{◌≡◌, ℕ, ◌+◌, ◌<◌, List, [], ◌∷◌, ◌++◌, length, true, false, Bool, sym, refl, ap}
use Rattle.std.proofs.Common.{◌∙◌, arith}
use Rattle.std.specs.Prelude.{IsTrue, ◌↔◌, if◌then◌else◌}
use Rattle.std.proofs.lemmas.List.{append_assoc, append-nil, length-append}

module _ {A : Type 0} where
  -- a push that has room
  pub pushed : (b : Bool) (P : Type 0) (xs ys zs : List A) → (IsTrue b ↔ P) → P
      → zs ≡ (if b then xs else ys) → zs ≡ xs
  pushed true P xs ys zs iff p e = e
  pushed false P xs ys zs iff p e = let h = iff.1 p in absurd (cc)

  -- this many have gone round, and stand after x
  abbrev pub HasTurned : ℕ → A → List A → List A → Type 0
  HasTurned n x old now =
      (front : List A) × (back : List A) × (now ≡ front ++ x ∷ back) × (old ≡ back ++ front)
      × (length back ≡ n)

  pub turned_none : (x : A) (old now : List A) → now ≡ old ++ x ∷ [] → HasTurned 0 x old now
  turned_none x old now e = (old, [], e, refl, refl)

  pub turned_length : (n : ℕ) (x : A) (old now : List A) → HasTurned n x old now → length now ≡ length old + 1
  turned_length n x old now t =
      let a = ap length t.2 in
      let b = length-append t.0 (x ∷ t.1) in
      let c = ap length t.3 in
      let d = length-append t.1 t.0 in
      omega arith

  turned_from : (n : ℕ) (x y : A) (front back old now rest after : List A) → now ≡ front ++ x ∷ back
      → old ≡ back ++ front → length back ≡ n → n < length old → now ≡ y ∷ rest
      → after ≡ rest ++ y ∷ [] → HasTurned (n + 1) x old after
  turned_from n x y [] back old now rest after e o l h p q =
      let c = ap length o in
      let d = ap length (append-nil back) in
      absurd (omega arith)
  turned_from n x y (f ∷ fs) back old now rest after e o l h p q =
      let first : y ≡ f = cc in
      let others : rest ≡ fs ++ x ∷ back = cc in (
        fs,
        back ++ f ∷ [],
        q ∙ ((λ i. others i ++ first i ∷ []) ∙ append_assoc fs (x ∷ back) (f ∷ [])),
        o ∙ sym (append_assoc back (f ∷ []) fs),
        let k = length-append back (f ∷ []) in omega arith,
      )

  -- the first item went after the others
  pub turned_one : (n : ℕ) (x y : A) (old now rest after : List A) → HasTurned n x old now → n < length old
      → now ≡ y ∷ rest → after ≡ rest ++ y ∷ [] → HasTurned (n + 1) x old after
  turned_one n x y old now rest after t h p q = turned_from n x y t.0 t.1 old now rest after t.2 t.3 t.4 h p q

  ended_from : (x : A) (front back old now : List A) → now ≡ front ++ x ∷ back → old ≡ back ++ front
      → length back ≡ length old → now ≡ x ∷ old
  ended_from x [] back old now e o l = e ∙ ap (λ (k : List A). x ∷ k) (sym (o ∙ append-nil back))
  ended_from x (f ∷ fs) back old now e o l =
      let c = ap length o in
      let d = length-append back (f ∷ fs) in
      absurd (omega arith)

  -- all have gone round
  pub turned_all : (n : ℕ) (x : A) (old now : List A) → HasTurned n x old now → n ≡ length old → now ≡ x ∷ old
  turned_all n x old now t e = let l = t.4 in ended_from x t.0 t.1 old now t.2 t.3 (l ∙ e)
