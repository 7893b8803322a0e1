-- To be believed: lists that something may tell: a poller its pairs, a runner the keys that it was given.
-- What keeps no such list tells none.
use Rattle.std.specs.Prelude.{◌≡◌, ℕ, List, ◌++◌, Option, None, IfSome, IsSomeAnd}
use Rattle.reg_keys.specs.declared.registration.Key.{Key}

-- where the list is still told, it was told before, and the piece came to its end
abbrev pub Gains : {A : Type 0} → Option (List A) → Option (List A) → List A → Type 0
Gains old new piece = IfSome new (λ n. IsSomeAnd old (λ o. n ≡ o ++ piece))

-- what never stops
abbrev pub never : Option ℕ
never = None

-- a list of keys that isn't told
abbrev pub untold : Option (List Key)
untold = None
