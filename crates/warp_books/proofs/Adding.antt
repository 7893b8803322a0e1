-- A book with one connection more.
use Rattle.std.proofs.Common.{◌≡◌, ℕ, ◌+◌, ◌-◌, ◌^◌, min, Bool, true, false, List, [], ◌∷◌, ◌++◌, length}
use Rattle.std.proofs.Common.{refl, sym, ap, ◌∙◌, arith}
use Rattle.std.specs.Prelude.{if◌then◌else◌, Option, Some, None, IfSome}
use Rattle.reg_keys.specs.Tests.{one_if, total}
use Rattle.warp_books.specs.declared.finish.Finish.{Finish}
use Rattle.warp_books.specs.Books.{FinishedTold, capped, same_kind, Sums, HasAdded, BookTold, BookHasTaken}
use Rattle.warp_books.specs.Books.{IsBookOf}

total_more : {A : Type 0} (f : A → ℕ) (xs : List A) (x : A) → total f (xs ++ x ∷ []) ≡ total f xs + f x
total_more f [] x = omega arith
total_more f (y ∷ ys) x = let r = total_more f ys x in omega (arith, r)

capped_more : (s t a b c : ℕ) → s ≡ min a (2 ^ 64 - 1) → t ≡ min (s + b) (2 ^ 64 - 1) → c ≡ a + b
    → t ≡ min c (2 ^ 64 - 1)
capped_more s t a b c e f g = omega (arith, e, f, g)

ends_more : (same : Bool) (s t a c : ℕ) → s ≡ min a (2 ^ 64 - 1) → t ≡ (if same then capped (s + 1) else s)
    → c ≡ a + one_if same → t ≡ min c (2 ^ 64 - 1)
ends_more true s t a c e f g = omega (arith, e, f, g)
ends_more false s t a c e f g = omega (arith, e, f, g)

kept_more : (ds : List FinishedTold) (d : FinishedTold) (b c : Option (List FinishedTold))
    → IfSome b (λ now. now ≡ ds)
    → IfSome c (λ now. (before : List FinishedTold) × (b ≡ Some before) × (now ≡ before ++ d ∷ []))
    → IfSome c (λ now. now ≡ ds ++ d ∷ [])
kept_more ds d b None h k = tt
kept_more ds d b (Some now) h k = k.2 ∙ ap (λ (l : List FinishedTold). l ++ d ∷ []) (kept_was b k.0 k.1 h)
  where
    kept_was : (b : Option (List FinishedTold)) (before : List FinishedTold) → b ≡ Some before
        → IfSome b (λ x. x ≡ ds)
        → before ≡ ds
    kept_was None before e h = let z : None ≡ Some before = e in cc
    kept_was (Some x) before e h =
        let z : Some x ≡ Some before = e in
        let w : x ≡ before = cc in sym w ∙ h

pub adds_up : (ds : List FinishedTold) (d : FinishedTold) (b c : BookTold) → IsBookOf ds b
    → BookHasTaken d b c
    → IsBookOf (ds ++ d ∷ []) c
adds_up ds d b c is t = record {
  ends = λ k. ends_more (same_kind k d.end) _ _ _ _ (is.ends k) (t.sums.ends k)
      (total_more (λ x. one_if (same_kind k x.end)) ds d);
  moments = capped_more _ _ _ _ _ is.moments t.sums.moments (total_more (λ x. length x.moments) ds d);
  bytes = capped_more _ _ _ _ _ is.bytes t.sums.bytes (total_more (λ x. x.bytes) ds d);
  waits = capped_more _ _ _ _ _ is.waits t.sums.waits (total_more (λ x. x.waits) ds d);
  kept = kept_more ds d b.kept c.kept is.kept t.kept;
}
