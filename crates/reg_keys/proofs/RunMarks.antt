-- What runs shows the marks that its opening had.
use Rattle.std.proofs.Common.{◌≡◌, ℕ, List, ◌∷◌, map, ap, subst}
use Rattle.std.specs.Prelude.{Option, filter}
use Rattle.reg_keys.specs.declared.event.EventName.{EventName}
use Rattle.reg_keys.specs.declared.registration.Marks.{Marks}
use Rattle.reg_keys.specs.declared.entry.FiredKey.{FiredKey}
use Rattle.reg_keys.specs.declared.entry.DispatchOutcome.TheVariants as Dispatches
use Rattle.reg_keys.specs.declared.entry.Entry.{Entry}
use Rattle.reg_keys.specs.declared.entry.Entry.TheVariants.{Dispatch}
use Rattle.reg_keys.specs.Tests.{IsIn}
use Rattle.reg_keys.specs.Histories.{IsLive, marks_of, Registered, waiting}
use Rattle.reg_keys.specs.Replies.{fires, fired_as, dispatch_reply, IsLegal}
use Rattle.reg_keys.specs.Accounts.{RunsUnderItsMarks}
use Rattle.reg_keys.specs.ListLaws.{map_in}
use Rattle.reg_keys.proofs.RightReplies.{ran_by, dispatch_case}
use Rattle.reg_keys.proofs.Reuse.{legal_before}

module _ (s c : ℕ) where
  abbrev Told : List Entry → EventName → List FiredKey → Type 0
  Told past x ran =
      IsLive past x.opening × ((r : FiredKey) → IsIn r ran → r.marks ≡ marks_of s c past x.opening)

  marks_in : (m : Marks) (ws : List Registered) (r : FiredKey) → IsIn r (map (fired_as m) ws) → r.marks ≡ m
  marks_in m ws r i = let a = map_in (fired_as m) r ws i in ap (λ (y : FiredKey). y.marks) a.2

  told : (past : List Entry) (x : EventName) (ran : List FiredKey) (e : Option EventName)
      → Dispatches.Ran ran e ≡ dispatch_reply s c past x → Told past x ran
  told past x ran e =
      dispatch_case s c past x (λ y. Dispatches.Ran ran e ≡ y → Told past x ran)
      (λ _ is. absurd (cc)) (λ _ _ is. absurd (cc))
      (λ live _ is. let same : ran ≡ ran_by s c past x = cc in (
        live,
        λ r i.
            marks_in (marks_of s c past x.opening) (filter (fires s c past x) (waiting past)) r
            (subst (IsIn r) same i),
      ))

  pub runs_under_its_marks : (past : List Entry) → IsLegal s c past → RunsUnderItsMarks s c past
  runs_under_its_marks past l later x ran e earlier is =
      let at = legal_before s c later (Dispatch x (Dispatches.Ran ran e) ∷ earlier)
      (subst (IsLegal s c) is l) in
      told earlier x ran e (let q = at.1 in cc)
