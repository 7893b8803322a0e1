-- Lists that may be told.
use Rattle.std.proofs.Common.{◌≡◌, List, [], ◌++◌, sym, ap, ◌∙◌}
use Rattle.std.specs.Prelude.{Option, Some, None}
use Rattle.std.proofs.lemmas.List.{append_assoc, append-nil}
use Rattle.dispatcher.specs.Told.{Gains}

module _ {A : Type 0} where
  pub gains_none : (o : Option (List A)) → Gains o o []
  gains_none None = tt
  gains_none (Some l) = sym (append-nil l)

  pub gains_then : (o p q : Option (List A)) (a b : List A) → Gains o p a → Gains p q b → Gains o q (a ++ b)
  gains_then o p None a b g k = tt
  gains_then o None (Some n) a b g k = absurd k
  gains_then None (Some m) (Some n) a b g k = absurd g
  gains_then (Some l) (Some m) (Some n) a b g k = k ∙ (ap (λ (x : List A). x ++ b) g ∙ append_assoc l a b)

  -- nothing has changed
  pub gains_as : (o p : Option (List A)) → p ≡ o → Gains o p []
  gains_as None None e = tt
  gains_as None (Some m) e = absurd (cc)
  gains_as (Some l) None e = tt
  gains_as (Some l) (Some m) e = let s : m ≡ l = cc in s ∙ sym (append-nil l)
