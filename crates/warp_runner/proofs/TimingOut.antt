-- A sweep and the beginning, put together.
use Rattle.std.proofs.Common.{◌≡◌, ◌≤◌, ◌<◌, arith, ⊎_elim, ℕ, List, [], ◌∷◌, sym, refl, ap, ◌∙◌, subst, inl}
use Rattle.std.proofs.Common.{inr}
use Rattle.std.specs.Prelude.{◌⊎◌, Option, Some, None}
use Rattle.reg_keys.specs.declared.opening.Opening.{Opening}
use Rattle.reg_keys.specs.declared.entry.ShutKey.{ShutKey}
use Rattle.reg_keys.specs.declared.entry.Entry.TheVariants as Entries
use Rattle.reg_keys.specs.declared.entry.CloseOutcome.TheVariants as Closes
use Rattle.outside.specs.Counts.{Rises}
use Rattle.outside.specs.ListenCauses.{ListenerTold}
use Rattle.dispatcher.specs.Runs.{CallsOfRuns}
use Rattle.timeout_mgr.specs.declared.view.TimeCall.TheVariants.{Sweep}
use Rattle.warp_jobs.specs.HeldListener.{HeldListener}
use Rattle.warp_runner.specs.declared.serving.Ran.{Ran}
use Rattle.warp_runner.specs.Acts.{Acts, Did, ServeTold, nothing, called, watched, then}
use Rattle.warp_runner.specs.Deeds.{InTurn, IsLetGo, IsListening, IsOpenedAtLast, IsOpenedNever, IsStarting}
use Rattle.warp_runner.specs.Deeds.{IsStartingAt, IsStartFault, IsSweeping, IsTimingOut, spent}
use Rattle.warp_runner.specs.Runs.{HasFaulted, named}
use Rattle.warp_runner.proofs.Doing.{did_then}
use Rattle.warp_runner.proofs.Registering.{RanSo}
use Rattle.warp_runner.proofs.AcceptLemmas.{after}
use Rattle.warp_runner.proofs.Turning.{then_nothing}

-- what a step that names no event comes to
abbrev pub DidSo : ServeTold → ServeTold → (Acts → Type 0) → Type 0
DidSo u w Is = (acts : Acts) × Did u acts [] w × Is acts

module _ {T : Type 0} {tag : T → List (List ℕ)} (rules : CallsOfRuns tag) (u v w : ServeTold)
    (stopped : Option ℕ) where
  pub sweeps_so : (given : List Opening) → Did u (watched (Sweep given ∷ [])) [] v
      → DidSo v w (λ acts. InTurn IsTimingOut given acts stopped)
      → DidSo u w (λ acts. IsSweeping acts stopped)
  sweeps_so given did r = (
    then (watched (Sweep given ∷ [])) r.0,
    did_then rules u v w (watched (Sweep given ∷ [])) r.0 [] [] did r.1,
    (given, r.0, refl, r.2),
  )

  pub times_out_shut : (o : Opening) (list : List ShutKey)
      → Did u (called (Entries.Close o (Closes.Shut list))) [] v
      → DidSo v w (λ acts. InTurn IsLetGo list acts stopped)
      → DidSo u w (λ acts. IsTimingOut o acts stopped)
  times_out_shut o list did r = let c = called (Entries.Close o (Closes.Shut list)) in
      (then c r.0, did_then rules u v w c r.0 [] [] did r.1, inl (Closes.Shut list, r.0, refl, r.2))

pub times_out_not_open : (o : Opening) (u w : ServeTold)
    → Did u (called (Entries.Close o Closes.NotOpen)) [] w → DidSo u w (λ acts. IsTimingOut o acts None)
times_out_not_open o u w did = let c = called (Entries.Close o Closes.NotOpen) in (
  then c nothing,
  subst (λ (a : Acts). Did u a [] w) (sym (then_nothing c)) did,
  inl (Closes.NotOpen, nothing, refl, (refl, refl)),
)

pub times_out_spent : (o : Opening) (u w : ServeTold) → Did u nothing [] w
    → DidSo u w (λ acts. IsTimingOut o acts (Some spent))
times_out_spent o u w did = (nothing, did, inr (refl, refl))

-- ---- the beginning

module _ (listener : ListenerTold) where
  module _ {T : Type 0} {tag : T → List (List ℕ)} (rules : CallsOfRuns tag) (u v w : ServeTold) where
    pub starts : (o : Opening) (ran : Ran) (first : Acts) → Did u first [] v → IsOpenedAtLast o first
        → RanSo v ran w (IsStartingAt o listener) → RanSo u ran w (IsStarting listener)
    starts o ran first did is r = (
      then first r.0,
      did_then rules u v w first r.0 [] (named ran) did r.1,
      inl (o, first, r.0, is, refl, r.2),
    )

  pub starts_never : (u w : ServeTold) → ((acts : Acts) × Did u acts [] w × IsOpenedNever acts)
      → RanSo u (after (Some spent)) w (IsStarting listener)
  starts_never u w r = (r.0, r.1, inr (r.2, refl))

  pub starts_at_fault : (o : Opening) (u : ServeTold) (code : ℕ) → IsStartFault code → Did u nothing [] u
      → RanSo u (after (Some code)) u (IsStartingAt o listener)
  starts_at_fault o u code is did = (nothing, did, inr (refl, code, is, refl))

  pub starts_at : (o : Opening) (u w : ServeTold) (ran : Ran) (l : HeldListener)
      → l ≡ record { opening = o; listener = listener; accepted = 0 } → RanSo u ran w (IsListening l None)
      → RanSo u ran w (IsStartingAt o listener)
  starts_at o u w ran l is r =
      (r.0, r.1, inl (subst (λ (k : HeldListener). IsListening k None r.0 ran.stopped) is r.2))

-- ---- the codes of the beginning

abbrev code_in : Option ℕ → ℕ
code_in (Some n) = n
code_in None = 0

pub other_code : (n : ℕ) (stopped : Option ℕ) (polls : ℕ) → stopped ≡ Some n → (n < 8) ⊎ (8 < n)
    → HasFaulted stopped polls
other_code n stopped polls is apart e =
    let z : n ≡ 8 = ap code_in (sym is ∙ e) in
    ⊎_elim (λ x. omega (arith, x, z)) (λ x. omega (arith, x, z)) apart

pub no_code : (stopped : Option ℕ) (polls : ℕ) → stopped ≡ None → HasFaulted stopped polls
no_code stopped polls is e = let z : None ≡ Some 8 = sym is ∙ e in absurd (cc)

pub listening_faults_none : (l : HeldListener) (m : Option ℕ) (acts : Acts) (stopped : Option ℕ) (polls : ℕ)
    → IsListening l m acts stopped → HasFaulted stopped polls
listening_faults_none l m acts stopped polls (inl t) = no_code stopped polls t.1
listening_faults_none l m acts stopped polls (inr t) = other_code 10 stopped polls t.1 (inr (omega arith))

pub risen : (old new : ℕ) → Rises old new → 1 ≤ new
risen old new r = omega (arith, r)
