-- Registrations wait in the order of their keys, and Ran lists and Shut lists are in it.
use Rattle.std.proofs.Common.{◌≡◌, ℕ, ◌<◌, ⊎_elim, inl, inr, List, [], ◌∷◌, ◌++◌, map, Bool, sym, refl, subst}
use Rattle.std.proofs.Common.{ap, ◌∙◌, arith}
use Rattle.std.specs.Prelude.{filter}
use Rattle.reg_keys.specs.declared.registration.Key.{Key}
use Rattle.reg_keys.specs.declared.entry.FiredKey.{FiredKey}
use Rattle.reg_keys.specs.declared.entry.ShutKey.{ShutKey}
use Rattle.reg_keys.specs.declared.entry.Entry.{Entry}
use Rattle.reg_keys.specs.declared.entry.Entry.TheVariants.{Open, Report, Register, Withdraw, Ask, Dispatch}
use Rattle.reg_keys.specs.declared.entry.Entry.TheVariants.{Close}
use Rattle.reg_keys.specs.Tests.{same, IsIn}
use Rattle.reg_keys.specs.Histories.{marks_of, Registered, waiting}
use Rattle.reg_keys.specs.Replies.{fires, fired_as, shut_as, reply_of, IsLegal}
use Rattle.reg_keys.specs.Consistency.{IsAscending, AreAscending, keys_shown}
use Rattle.reg_keys.specs.ListLaws.{in_append, in_one, in_filter, split_filter, map_in}
use Rattle.reg_keys.proofs.RightReplies.{next_key, open_case, report_case, register_case, withdraw_case}
use Rattle.reg_keys.proofs.RightReplies.{dispatch_case, close_case}
use Rattle.reg_keys.proofs.Sound.{sound}

ascending_filter : (p : Registered → Bool) (ws : List Registered) → IsAscending ws → IsAscending (filter p ws)
ascending_filter p [] h = tt
ascending_filter p (w ∷ ws) h =
    split_filter p w ws IsAscending (λ _. (λ v i. h.0 v (in_filter p v ws i).0, ascending_filter p ws h.1))
    (λ _. ascending_filter p ws h.1)

ascending_append : (ws : List Registered) (x : Registered)
    → ((w : Registered) → IsIn w ws → w.key.number < x.key.number) → IsAscending ws
    → IsAscending (ws ++ x ∷ [])
ascending_append [] x below h = (λ v i. absurd i, tt)
ascending_append (w ∷ ws) x below h = (
  λ v i.
      ⊎_elim (λ a. h.0 v a) (λ a.
      let e = ap (λ (y : Registered). y.key.number) (in_one v x a) in
      let b = below w (inl refl) in
      omega arith) (in_append v ws (x ∷ []) i),
  ascending_append ws x (λ v i. below v (inr i)) h.1,
)

module _ (s c : ℕ) where
  abbrev Ascends : List Entry → Type 0
  Ascends past = IsAscending (waiting past)

  step : (past : List Entry) → IsLegal s c past → Ascends past → (e : Entry)
      → Ascends (reply_of s c past e ∷ past)
  step past l r (Open fd x) =
      open_case s c past fd (λ y. Ascends (Open fd y ∷ past)) (λ _ _. r) (λ _ _. r) (λ _ _. r)
  step past l r (Report o ds x) =
      report_case s c past o ds (λ y. Ascends (Report o ds y ∷ past)) (λ _. r) (λ _ _. r) (λ _ _. r)
  step past l r (Register o d m kind x) =
      register_case s c past o d m kind (λ y. Ascends (Register o d m kind y ∷ past))
      (λ _. r) (λ _ _. r) (λ _ _ _. r)
      (λ _ _ _.
      ascending_append (waiting past) (record { key = next_key s c past; opening = o; dir = d; kind = kind })
      (λ w i. ((sound s c past l).held w i).old) r)
  step past l r (Withdraw k x) =
      withdraw_case s c past k (λ y. Ascends (Withdraw k y ∷ past)) (λ _. r)
      (λ _ _ _. ascending_filter _ (waiting past) r)
  step past l r (Ask k x) = r
  step past l r (Dispatch x y) =
      dispatch_case s c past x (λ y. Ascends (Dispatch x y ∷ past)) (λ _. r) (λ _ _. r)
      (λ _ _. ascending_filter _ (waiting past) r)
  step past l r (Close o x) =
      close_case s c past o (λ y. Ascends (Close o y ∷ past)) (λ _. r)
      (λ _. ascending_filter _ (waiting past) r)

  pub ascends : (past : List Entry) → IsLegal s c past → Ascends past
  ascends [] l = tt
  ascends (e ∷ past) l =
      subst (λ (x : Entry). Ascends (x ∷ past)) (sym l.1) (step past l.0 (ascends past l.0) e)

-- the keys of what is made of registrations are in their order
keys_ascend : {B : Type 0} (m : B → Key) (b : Registered → B) → ((w : Registered) → m (b w) ≡ w.key)
    → (ws : List Registered) → IsAscending ws → AreAscending (map m (map b ws))
keys_ascend m b key_is [] h = tt
keys_ascend m b key_is (w ∷ ws) h = (
  λ l i. (let x = map_in m l (map b ws) i in
      let y = map_in b x.0 ws x.1 in
      let below = h.0 y.0 y.1 in
      let later : l.number ≡ y.0.key.number = ap (λ (k : Key). k.number) (x.2 ∙ (ap m y.2 ∙ key_is y.0)) in
      let first : (m (b w)).number ≡ w.key.number = ap (λ (k : Key). k.number) (key_is w) in omega arith),
  keys_ascend m b key_is ws h.1,
)

module _ (s c : ℕ) where
  shows : (past : List Entry) → IsLegal s c past → (e : Entry)
      → AreAscending (keys_shown (reply_of s c past e))
  shows past l (Open fd x) = tt
  shows past l (Report o ds x) = tt
  shows past l (Register o d m kind x) = tt
  shows past l (Withdraw k x) = tt
  shows past l (Ask k x) = tt
  shows past l (Dispatch x y) =
      dispatch_case s c past x (λ y. AreAscending (keys_shown (Dispatch x y))) (λ _. tt) (λ _ _. tt)
      (λ _ _. keys_ascend (λ (r : FiredKey). r.key) (fired_as (marks_of s c past x.opening))
      (λ _. refl) (filter (fires s c past x) (waiting past))
      (ascending_filter (fires s c past x) (waiting past) (ascends s c past l)))
  shows past l (Close o x) = close_case s c past o (λ y. AreAscending (keys_shown (Close o y))) (λ _. tt)
      (λ _. keys_ascend (λ (x : ShutKey). x.key) shut_as (λ _. refl)
      (filter (λ (w : Registered). same o w.opening) (waiting past))
      (ascending_filter (λ (w : Registered). same o w.opening) (waiting past) (ascends s c past l)))

  pub lists_ascend : (past : List Entry) → IsLegal s c past → (e : Entry) → IsIn e past
      → AreAscending (keys_shown e)
  lists_ascend [] l e i = absurd i
  lists_ascend (x ∷ past) l e i = ⊎_elim
      (λ (is : e ≡ x). subst (λ (y : Entry). AreAscending (keys_shown y)) (sym (is ∙ l.1)) (shows past l.0 x))
      (λ there. lists_ascend past l.0 e there) i
