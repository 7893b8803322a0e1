-- To be believed: what holds of the histories of all stripes together.
use Rattle.std.specs.Prelude.{ℕ, zero, suc, ◌+◌, ◌≤◌, ◌<◌, List}
use Rattle.reg_keys.specs.declared.opening.Opening.{Opening}
use Rattle.reg_keys.specs.declared.registration.Key.{Key}
use Rattle.reg_keys.specs.declared.entry.Entry.{Entry}
use Rattle.reg_keys.specs.Replies.{IsLegal}
use Rattle.reg_keys.specs.Promises.{weight, times_run}
use Rattle.reg_keys.specs.Accounts.{draws, times_reported, opens}

-- the sum over the numbers below n
abbrev pub sum_below : ℕ → (ℕ → ℕ) → ℕ
sum_below zero g = 0
sum_below (suc n) g = g n + sum_below n g

-- a legal history for each stripe, which began with a count of its own
abbrev pub AreLegal : (ℕ → ℕ) → (ℕ → List Entry) → Type 0
AreLegal firsts pasts = (s : ℕ) → s < 32 → IsLegal s (firsts s) (pasts s)

-- over all stripes each number is drawn once at most, so each opening is made once at most,
-- and each key runs once at most
pub record HappensOnce (firsts : ℕ → ℕ) (pasts : ℕ → List Entry) : Type 0 where
  pub numbers : (n : ℕ)
      → sum_below 32 (λ s. times_reported s (firsts s) n (pasts s) + weight (draws n) (pasts s)) ≤ 1
  pub openings : (o : Opening) → sum_below 32 (λ s. weight (opens o) (pasts s)) ≤ 1
  pub runs : (k : Key) → sum_below 32 (λ s. weight (times_run k) (pasts s)) ≤ 1
