-- To be believed: the account of registrations, by the tags of jobs: an inequality of
-- sums for each opening and number.
use Rattle.std.specs.Prelude.{ℕ, ◌+◌, ◌≤◌, ◌&&◌, ◌==◌, List, [], ◌∷◌, Bool}
use Rattle.reg_keys.specs.declared.opening.Opening.{Opening}
use Rattle.reg_keys.specs.declared.entry.LoadKind.{LoadKind}
use Rattle.reg_keys.specs.declared.entry.LoadKind.TheVariants as Kinds
use Rattle.reg_keys.specs.declared.entry.Entry.{Entry}
use Rattle.reg_keys.specs.Tests.{one_if, total}
use Rattle.reg_keys.specs.Accounts.{weight_accepted, weight_ended}
use Rattle.event_mgr.specs.Manager.{MgrView, own_weight}
use Rattle.dispatcher.specs.Firings.{Jobs}
use Rattle.event_tests.specs.declared.book.Finish.{Finish}

-- a job's tag: the number and the descriptor of its opening, and its own number
abbrev pub tag_of : Opening → ℕ → List (List ℕ)
tag_of o n = (o.number ∷ o.fd ∷ n ∷ []) ∷ []

-- these are the three numbers of this opening and number
abbrev pub is_job : Opening → ℕ → ℕ → ℕ → ℕ → Bool
is_job o k a b c = ((a == o.number) && (b == o.fd)) && (c == k)

-- 1 where the load is a job of this opening and number
abbrev pub of_job : Opening → ℕ → LoadKind → ℕ
of_job o k (Kinds.Job ((a ∷ b ∷ c ∷ []) ∷ [])) = one_if (is_job o k a b c)
of_job o k _ = 0

-- 1 where the entry accepted a registration of this opening and number
abbrev pub accepted : Opening → ℕ → Entry → ℕ
accepted o k e = weight_accepted (λ key p kind. of_job o k kind) e

-- how many of this opening and number the entry ran or shut
abbrev pub ended : Opening → ℕ → Entry → ℕ
ended o k e = weight_ended (λ key p kind. of_job o k kind) e

-- how many of this opening and number are still to be run
abbrev pub pending : Opening → ℕ → Jobs → ℕ
pending o k jobs = total (λ f. of_job o k f.1.kind) jobs

-- how many connections were finished from a job of this opening and number
abbrev pub finishes_in : List Finish → Opening → ℕ → ℕ
finishes_in finished o k = total (λ f. one_if (is_job o k f.opening.number f.opening.fd f.number)) finished

-- Each registration but a first one, each finish, and each job that is still to be run, comes of one that
-- ended before, which it alone comes of
abbrev pub Accounts : (Opening → ℕ → ℕ) → MgrView → Jobs → Type 0
Accounts finishes v jobs =
    (o : Opening) (k : ℕ)
    → (own_weight (accepted o (k + 1)) v + finishes o k) + pending o k jobs ≤ own_weight (ended o k) v

-- the same while one job is in hand, of the opening p and the number n
abbrev pub Owes : Opening → ℕ → (Opening → ℕ → ℕ) → MgrView → Jobs → Type 0
Owes p n finishes v jobs =
    (o : Opening) (k : ℕ) → (own_weight (accepted o (k + 1)) v + finishes o k)
    + (one_if (is_job o k p.number p.fd n) + pending o k jobs) ≤ own_weight (ended o k) v
