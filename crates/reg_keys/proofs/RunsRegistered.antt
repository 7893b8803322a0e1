-- What ran weighs no more than what was registered.
use Rattle.std.proofs.Common.{◌≡◌, ℕ, ◌+◌, ◌≤◌, inl, inr, List, [], ◌∷◌, map, true, false, Bool, sym, refl}
use Rattle.std.proofs.Common.{ap, subst, arith}
use Rattle.std.specs.Prelude.{Option, None, filter, not, ◌&&◌, nat_lt, cond}
use Rattle.std.specs.List.{list_any}
use Rattle.std.proofs.lemmas.Bool.{and_parts}
use Rattle.reg_keys.specs.declared.opening.Opening.{Opening}
use Rattle.reg_keys.specs.declared.event.EventName.{EventName}
use Rattle.reg_keys.specs.declared.entry.FiredKey.{FiredKey}
use Rattle.reg_keys.specs.declared.entry.DispatchOutcome.TheVariants as Dispatches
use Rattle.reg_keys.specs.declared.entry.Entry.{Entry}
use Rattle.reg_keys.specs.declared.entry.Entry.TheVariants.{Open, Report, Register, Withdraw, Ask, Dispatch}
use Rattle.reg_keys.specs.declared.entry.Entry.TheVariants.{Close}
use Rattle.reg_keys.specs.Tests.{same, same_key, total, IsIn}
use Rattle.reg_keys.specs.Histories.{marks_of, Registered, without, keys_run, keys_shut, waiting}
use Rattle.reg_keys.specs.Replies.{event_has, fires, fired_as, event_named, reply_of, IsLegal}
use Rattle.reg_keys.specs.Promises.{weight}
use Rattle.reg_keys.specs.Accounts.{run_of, weight_run, weight_registered, RunsWhatWasRegistered}
use Rattle.reg_keys.specs.ListLaws.{same_is, split_filter, in_filter}
use Rattle.reg_keys.specs.Laws.{total_append}
use Rattle.reg_keys.proofs.RightReplies.{next_key, ran_by, shut_by, open_case, report_case, register_case}
use Rattle.reg_keys.proofs.RightReplies.{withdraw_case, dispatch_case, close_case}
use Rattle.reg_keys.proofs.Removal.{left_after_run}

module _ {A : Type 0} (f : A → ℕ) where
  pub total_filter_le : (p : A → Bool) (xs : List A) → total f (filter p xs) ≤ total f xs
  total_filter_le p [] = omega arith
  total_filter_le p (x ∷ xs) =
      let r = total_filter_le p xs in
      split_filter p x xs (λ l. total f l ≤ total f (x ∷ xs)) (λ _. omega arith) (λ _. omega arith)

  -- what passes a test and what doesn't are the whole
  pub total_parts : (p : A → Bool) (xs : List A)
      → total f (filter p xs) + total f (filter (λ x. not (p x)) xs) ≡ total f xs
  total_parts p [] = refl
  total_parts p (x ∷ xs) = by_case (p x) (filter p xs) (filter (λ x. not (p x)) xs) (total_parts p xs)
    where
      by_case : (b : Bool) (ys zs : List A) → total f ys + total f zs ≡ total f xs
          → total f (cond b (x ∷ ys) ys) + total f (cond (not b) (x ∷ zs) zs) ≡ f x + total f xs
      by_case true ys zs r = omega arith
      by_case false ys zs r = omega arith

-- a sum over a list of answers is one over the registrations that it answers for
pub total_map : {A B : Type 0} (f : A → ℕ) (g : B → ℕ) (b : A → B) (xs : List A)
    → ((x : A) → IsIn x xs → g (b x) ≡ f x) → total g (map b xs) ≡ total f xs
total_map f g b [] h = refl
total_map f g b (x ∷ xs) h =
    let r = total_map f g b xs (λ y i. h y (inr i)) in
    let a = h x (inl refl) in
    omega arith

module _ (s c : ℕ) (f : Registered → ℕ) where
  abbrev Bounded : List Entry → Type 0
  Bounded past = weight (weight_run f) past + total f (waiting past) ≤ weight (weight_registered f) past

  pub run_is : (past : List Entry) (x : EventName) (w : Registered) → fires s c past x w ≡ true
      → f (run_of x (fired_as (marks_of s c past x.opening) w)) ≡ f w
  run_is past x w h =
      let a = and_parts (same x.opening w.opening) (nat_lt w.key.number x.number)
      (and_parts (same x.opening w.opening && nat_lt w.key.number x.number)
      (event_has s c past x w.dir) h).0 in
      let q : x.opening ≡ w.opening = same_is x.opening w.opening a.0 in
      ap (λ (o : Opening). f (record { key = w.key; opening = o; dir = w.dir; kind = w.kind })) q

  dispatch_bounded : (past : List Entry) → IsLegal s c past
      → Bounded past → (x : EventName) (e : Option EventName)
      → Bounded (Dispatch x (Dispatches.Ran (ran_by s c past x) e) ∷ past)
  dispatch_bounded past l r x e =
      let p = fires s c past x in
      let m = marks_of s c past x.opening in
      let ran : total (λ (y : FiredKey). f (run_of x y)) (ran_by s c past x)
      ≡ total f (filter p (waiting past)) = total_map f (λ (y : FiredKey). f (run_of x y)) (fired_as m)
      (filter p (waiting past)) (λ w i. run_is past x w (in_filter p w (waiting past) i).1) in
      let left : total f (without (keys_run (ran_by s c past x)) (waiting past))
      ≡ total f (filter (λ w. not (p w)) (waiting past)) = ap (total f) (left_after_run s c past l m p) in
      let parts = total_parts f p (waiting past) in omega arith

  step : (past : List Entry) → IsLegal s c past → Bounded past → (e : Entry)
      → Bounded (reply_of s c past e ∷ past)
  step past l r (Open fd x) =
      open_case s c past fd (λ y. Bounded (Open fd y ∷ past)) (λ _ _. omega arith)
      (λ _ _. omega arith) (λ _ _. omega arith)
  step past l r (Report o ds x) =
      report_case s c past o ds (λ y. Bounded (Report o ds y ∷ past)) (λ _. omega arith)
      (λ _ _. omega arith) (λ _ _. omega arith)
  step past l r (Register o d m kind x) =
      register_case s c past o d m kind (λ y. Bounded (Register o d m kind y ∷ past)) (λ _. omega arith)
      (λ _ _. omega arith) (λ _ _ _. omega arith)
      (λ _ _ _.
      let w : Registered = record { key = next_key s c past; opening = o; dir = d; kind = kind } in
      let a = total_append f (waiting past) (w ∷ []) in
      omega arith)
  step past l r (Withdraw k x) =
      withdraw_case s c past k (λ y. Bounded (Withdraw k y ∷ past)) (λ _. omega arith)
      (λ w _ _. let a = total_filter_le f (λ (w : Registered).
      not (list_any (λ l. same_key l w.key) (k ∷ []))) (waiting past) in omega arith)
  step past l r (Ask k x) = omega arith
  step past l r (Dispatch x y) =
      dispatch_case s c past x (λ y. Bounded (Dispatch x y ∷ past)) (λ _. omega arith) (λ _ _. omega arith)
      (λ _ _. dispatch_bounded past l r x
      (event_named s c (Dispatch x (Dispatches.Ran (ran_by s c past x) None) ∷ past) x.opening))
  step past l r (Close o x) = close_case s c past o (λ y. Bounded (Close o y ∷ past)) (λ _. omega arith)
      (λ _. let a = total_filter_le f (λ (w : Registered).
      not (list_any (λ l. same_key l w.key) (keys_shut (shut_by s c past o)))) (waiting past) in omega arith)

  bounded : (past : List Entry) → IsLegal s c past → Bounded past
  bounded [] l = omega arith
  bounded (e ∷ past) l =
      subst (λ (x : Entry). Bounded (x ∷ past)) (sym l.1) (step past l.0 (bounded past l.0) e)

pub runs_what_was_registered : (s c : ℕ) (past : List Entry) → IsLegal s c past → RunsWhatWasRegistered past
runs_what_was_registered s c past l f = let a = bounded s c f past l in omega arith
