-- What a fold over the parts of a value comes to.
use Rattle.std.proofs.Common.{◌≡◌, List, [], ◌∷◌, ◌++◌, Option}
use Rattle.std.specs.Fn.{Called}
use Rattle.std.specs.Iterator.{Drains}
use Rattle.std.specs.List.{FoldsTo}
use Rattle.std.proofs.lemmas.Fn.{fold_over}
use Rattle.std.proofs.lemmas.Iterator.{YieldsList}
use denote.Param.Members.{Mut}

-- what holds before all items, and of one more after others, holds after all
pub fold_yields : {S A B F C : Type 0} {steps : S → Option A → S → Type 0} {v : A → B}
    {g : Mut F (C × (A × Unit {0})) C} {f : F} {s : S} {all : List B} (J : List B → C → Type 0) (a r : C)
    → (xs : List A) × (f' : F) × Drains steps s xs
    × FoldsTo {P = F × C} (λ p x q. Called g p.0 (p.1, (x, tt)) q.1 q.0) (f, a) xs (f', r)
    → YieldsList steps v s all → J [] a
    → ((ys : List B) (a : C) (x : A) (b : C) (f' : F) → J ys a
    → Called g f (a, (x, tt)) b f' → J (ys ++ (v x ∷ [])) b × (f' ≡ f))
    → J all r
fold_yields {steps} {v} {g} {f} {s} {all} J a r ran yields first step =
    fold_over steps v g J f step s all a r yields.runs first ran
