-- To be believed: what contracts know of a listener, and what an accept makes of it.
use Rattle.std.specs.Prelude.{◌≡◌, ℕ, ◌≤◌, List, Option, Some, IfSome, IsSomeAnd, slice_get}
use Rattle.outside.specs.declared.listener.AcceptOut.{AcceptOut}
use Rattle.outside.specs.declared.listener.AcceptOut.TheVariants.{Accepted}
use Rattle.outside.specs.declared.listener.AcceptOut.TheVariants as Accepts
use Rattle.outside.specs.Causes.{IsFresh, LinkTold}
use Rattle.outside.specs.Counts.{Rises, more_by_one, nothing_counted}

-- the link that an answer gives has a property
abbrev pub IfAccepted : {L : Type 0} → AcceptOut L → (L → Type 0) → Type 0
IfAccepted (Accepted link) P = P link
IfAccepted Accepts.NotYet P = Unit {0}
IfAccepted Accepts.Failed P = Unit {0}
IfAccepted Accepts.NoMemory P = Unit {0}

-- a link of which nothing was asked yet: nothing was counted either
pub record IsUntouched (link : LinkTold) : Type 0 where
  pub fresh : IsFresh link
  pub no_faults : link.faults ≡ nothing_counted
  pub no_waits : link.waits ≡ nothing_counted

-- a number, and the whole input that a link will give
abbrev pub Plan : Type 0
Plan = ℕ × List ℕ

-- no two plans have one number: plans that have stand at one place
abbrev pub HaveNumbersApart : List Plan → Type 0
HaveNumbersApart plans =
    (i j : ℕ) (p q : Plan) → slice_get plans i ≡ Some p → slice_get plans j ≡ Some q → p.0 ≡ q.0 → i ≡ j

-- where the plans are told, a link's plan is the one at this place
abbrev pub IsPlannedAt : Option (List Plan) → ℕ → Option Plan → Type 0
IsPlannedAt plans place plan = IfSome plans (λ ps. IsSomeAnd (slice_get ps place) (λ p. plan ≡ Some p))

-- what contracts know of a listener
pub record ListenerTold : Type 0 where
  -- how many links were given
  pub accepted : ℕ
  -- how many answers were `NotYet`
  pub waits : ℕ
  -- how many faults there were
  pub faults : ℕ
  -- how many answers were `Failed` since the last other answer
  pub failed_row : ℕ
  -- the plans of the links that it gives, in order, where they are told
  pub plans : Option (List Plan)

-- how many links were given after an answer: one more where it gave one
abbrev pub accepted_after : {L : Type 0} → AcceptOut L → ℕ → ℕ
accepted_after (Accepted link) n = more_by_one n
accepted_after _ n = n

-- how many answers were that the caller must wait, after an answer: one more where it said so
abbrev pub accept_waits_after : {L : Type 0} → AcceptOut L → ℕ → ℕ
accept_waits_after Accepts.NotYet n = more_by_one n
accept_waits_after _ n = n

-- how many answers in a row failed, after an answer
abbrev pub row_after : {L : Type 0} → AcceptOut L → ℕ → ℕ
row_after Accepts.Failed n = more_by_one n
row_after _ n = 0

-- an answer that failed raised the count of faults, which never falls
abbrev pub AcceptFaults : {L : Type 0} → AcceptOut L → ℕ → ℕ → Type 0
AcceptFaults Accepts.Failed old new = (old ≤ new) × Rises old new
AcceptFaults _ old new = old ≤ new

-- what an accept makes of a listener
pub record HasAccepted {L : Type 0} (result : AcceptOut L) (old new : ListenerTold) : Type 0 where
  pub counted : new.accepted ≡ accepted_after result old.accepted
  pub waited : new.waits ≡ accept_waits_after result old.waits
  pub faulted : AcceptFaults result old.faults new.faults
  pub rowed : new.failed_row ≡ row_after result old.failed_row
  pub plans : new.plans ≡ old.plans
