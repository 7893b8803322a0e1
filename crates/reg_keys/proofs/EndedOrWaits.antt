-- Where nothing was withdrawn, what ended and what waits weigh what was accepted.
use Rattle.std.proofs.Common.{◌≡◌, ℕ, ◌+◌, List, [], ◌∷◌, Bool, sym, ap, subst, arith}
use Rattle.std.specs.Prelude.{Option, None, filter, not}
use Rattle.reg_keys.specs.declared.opening.Opening.{Opening}
use Rattle.reg_keys.specs.declared.event.EventName.{EventName}
use Rattle.reg_keys.specs.declared.registration.Key.{Key}
use Rattle.reg_keys.specs.declared.entry.LoadKind.{LoadKind}
use Rattle.reg_keys.specs.declared.entry.FiredKey.{FiredKey}
use Rattle.reg_keys.specs.declared.entry.ShutKey.{ShutKey}
use Rattle.reg_keys.specs.declared.entry.DispatchOutcome.TheVariants as Dispatches
use Rattle.reg_keys.specs.declared.entry.CloseOutcome.TheVariants as Closes
use Rattle.reg_keys.specs.declared.entry.Entry.{Entry}
use Rattle.reg_keys.specs.declared.entry.Entry.TheVariants.{Open, Report, Register, Withdraw, Ask, Dispatch}
use Rattle.reg_keys.specs.declared.entry.Entry.TheVariants.{Close}
use Rattle.reg_keys.specs.Tests.{same, total}
use Rattle.reg_keys.specs.Histories.{marks_of, Registered, without, keys_run, keys_shut, waiting}
use Rattle.reg_keys.specs.Replies.{fires, fired_as, shut_as, event_named, reply_of, IsLegal}
use Rattle.reg_keys.specs.Promises.{weight}
use Rattle.reg_keys.specs.Accounts.{weight_ended, weight_accepted, withdraws, EndedOrWaits}
use Rattle.reg_keys.specs.ListLaws.{same_is, in_filter}
use Rattle.reg_keys.specs.Laws.{total_append}
use Rattle.reg_keys.proofs.RightReplies.{next_key, ran_by, shut_by, open_case, report_case, register_case}
use Rattle.reg_keys.proofs.RightReplies.{withdraw_case, dispatch_case, close_case}
use Rattle.reg_keys.proofs.Removal.{left_after_run, left_after_shut}
use Rattle.reg_keys.proofs.RunsRegistered.{total_parts, total_map, run_is}

module _ (s c : ℕ) (f : Key → Opening → LoadKind → ℕ) where
  -- a registration's weight
  abbrev g : Registered → ℕ
  g w = f w.key w.opening w.kind

  abbrev Bounded : List Entry → Type 0
  Bounded past =
      weight withdraws past ≡ 0
      → weight (weight_ended f) past + total g (waiting past) ≡ weight (weight_accepted f) past

  ran_bounded : (past : List Entry) → IsLegal s c past → Bounded past → (x : EventName) (e : Option EventName)
      → Bounded (Dispatch x (Dispatches.Ran (ran_by s c past x) e) ∷ past)
  ran_bounded past l r x e z =
      let q = r (omega arith) in
      let p = fires s c past x in
      let m = marks_of s c past x.opening in
      let ran : total (λ (y : FiredKey). f y.key x.opening y.kind) (ran_by s c past x) ≡ total g
      (filter p (waiting past)) = total_map g (λ (y : FiredKey). f y.key x.opening y.kind) (fired_as m)
      (filter p (waiting past)) (λ w i. run_is s c g past x w (in_filter p w (waiting past) i).1) in
      let left : total g (without (keys_run (ran_by s c past x)) (waiting past))
      ≡ total g (filter (λ w. not (p w)) (waiting past)) = ap (total g) (left_after_run s c past l m p) in
      let parts = total_parts g p (waiting past) in omega arith

  shut_bounded : (past : List Entry) → IsLegal s c past → Bounded past → (o : Opening)
      → Bounded (Close o (Closes.Shut (shut_by s c past o)) ∷ past)
  shut_bounded past l r o z =
      let q = r (omega arith) in
      let p : Registered → Bool = λ w. same o w.opening in
      let shut : total (λ (y : ShutKey). f y.key o y.kind) (shut_by s c past o)
      ≡ total g (filter p (waiting past)) =
      total_map g (λ (y : ShutKey). f y.key o y.kind) shut_as (filter p (waiting past)) (λ w i.
      ap (λ (q : Opening). f w.key q w.kind) (same_is o w.opening (in_filter p w (waiting past) i).1)) in
      let left : total g (without (keys_shut (shut_by s c past o)) (waiting past))
      ≡ total g (filter (λ w. not (p w)) (waiting past)) = ap (total g) (left_after_shut s c past l p) in
      let parts = total_parts g p (waiting past) in omega arith

  step : (past : List Entry) → IsLegal s c past → Bounded past → (e : Entry)
      → Bounded (reply_of s c past e ∷ past)
  step past l r (Open fd x) =
      open_case s c past fd (λ y. Bounded (Open fd y ∷ past)) (λ _ _ z. let q =
      r (omega arith) in omega arith) (λ _ _ z. let q = r (omega arith) in omega arith) (λ _ _ z. let q =
      r (omega arith) in omega arith)
  step past l r (Report o ds x) =
      report_case s c past o ds (λ y. Bounded (Report o ds y ∷ past)) (λ _ z. let q =
      r (omega arith) in omega arith) (λ _ _ z. let q = r (omega arith) in omega arith) (λ _ _ z. let q =
      r (omega arith) in omega arith)
  step past l r (Register o d m kind x) =
      register_case s c past o d m kind (λ y. Bounded (Register o d m kind y ∷ past)) (λ _ z. let q =
      r (omega arith) in omega arith) (λ _ _ z. let q = r (omega arith) in omega arith) (λ _ _ _ z. let q =
      r (omega arith) in omega arith)
      (λ _ _ _ z.
      let q = r (omega arith) in
      let w : Registered = record { key = next_key s c past; opening = o; dir = d; kind = kind } in
      let a = total_append g (waiting past) (w ∷ []) in
      omega arith)
  step past l r (Withdraw k x) =
      withdraw_case s c past k (λ y. Bounded (Withdraw k y ∷ past)) (λ _ z. let q =
      r (omega arith) in omega arith) (λ w _ _ z. absurd (omega arith))
  step past l r (Ask k x) = λ z. let q = r (omega arith) in omega arith
  step past l r (Dispatch x y) =
      dispatch_case s c past x (λ y. Bounded (Dispatch x y ∷ past)) (λ _ z. let q =
      r (omega arith) in omega arith) (λ _ _ z. let q = r (omega arith) in omega arith)
      (λ _ _. ran_bounded past l r x
      (event_named s c (Dispatch x (Dispatches.Ran (ran_by s c past x) None) ∷ past) x.opening))
  step past l r (Close o x) =
      close_case s c past o (λ y. Bounded (Close o y ∷ past)) (λ _ z. let q =
      r (omega arith) in omega arith) (λ _. shut_bounded past l r o)

  bounded : (past : List Entry) → IsLegal s c past → Bounded past
  bounded [] l = λ z. omega arith
  bounded (e ∷ past) l =
      subst (λ (x : Entry). Bounded (x ∷ past)) (sym l.1) (step past l.0 (bounded past l.0) e)

pub ended_or_waits : (s c : ℕ) (past : List Entry) → IsLegal s c past → EndedOrWaits past
ended_or_waits s c past l z f = bounded s c f past l z
