-- A step that is taken again is a step from where the first one began.
use Rattle.std.proofs.Common.{ℕ, List, ◌++◌, Option, Some, None, refl, sym, ap, ◌∙◌, take}
use Rattle.std.specs.Prelude.{Result, Ok, Err}
use Rattle.std.specs.Io.KnownBytes.{Appends, Consumes, Keeps, ReadConsumes, WriteAppends}

-- what is kept twice is kept
pub kept_twice : (a b c : Option (List ℕ)) → Keeps a b → Keeps b c → Keeps a c
kept_twice None b c first second = tt
kept_twice (Some x) None c first second = absurd first
kept_twice (Some x) (Some y) None first second = second
kept_twice (Some x) (Some y) (Some z) first second = second ∙ first

consumes_kept : (a b c : Option (List ℕ)) (bytes : List ℕ) → Keeps a b → Consumes b c bytes
    → Consumes a c bytes
consumes_kept None b c bytes kept step = tt
consumes_kept (Some x) None c bytes kept step = absurd kept
consumes_kept (Some x) (Some y) None bytes kept step = step
consumes_kept (Some x) (Some y) (Some z) bytes kept step = sym kept ∙ step

appends_kept : (a b c : Option (List ℕ)) (bytes : List ℕ) → Keeps a b → Appends b c bytes → Appends a c bytes
appends_kept None b c bytes kept step = tt
appends_kept (Some x) None c bytes kept step = absurd kept
appends_kept (Some x) (Some y) None bytes kept step = step
appends_kept (Some x) (Some y) (Some z) bytes kept step = step ∙ ap (λ (t : List ℕ). t ++ bytes) kept

-- a read after steps that kept the bytes
pub read_kept : {E : Type 0} (a b c : Option (List ℕ)) (r : Result ℕ E) (buf : List ℕ) → Keeps a b
    → ReadConsumes b c r buf → ReadConsumes a c r buf
read_kept a b c (Ok n) buf kept step = (consumes_kept a b c (take n buf) kept step.0, step.1)
read_kept a b c (Err e) buf kept step = kept_twice a b c kept step

-- a write after steps that kept the bytes
pub write_kept : {E : Type 0} (a b c : Option (List ℕ)) (r : Result ℕ E) (piece : List ℕ) → Keeps a b
    → WriteAppends b c r piece → WriteAppends a c r piece
write_kept a b c (Ok n) piece kept step = appends_kept a b c (take n piece) kept step
write_kept a b c (Err e) piece kept step = kept_twice a b c kept step

-- what was there is kept
pub kept_at_first : (a : Option (List ℕ)) → Keeps a a
kept_at_first None = tt
kept_at_first (Some x) = refl
