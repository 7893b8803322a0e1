-- What a flag's owner is told shows in the history.
use Rattle.std.proofs.Common.{◌≡◌, ℕ, ⊎_elim, inl, inr, List, [], ◌∷◌, sym, refl, ap, ◌∙◌, subst}
use Rattle.std.specs.Prelude.{Option, filter, if◌then◌else◌}
use Rattle.std.specs.List.{list_any}
use Rattle.std.proofs.lemmas.Bool.{cond_both}
use Rattle.reg_keys.specs.declared.opening.Opening.{Opening}
use Rattle.reg_keys.specs.declared.event.EventName.{EventName}
use Rattle.reg_keys.specs.declared.registration.Key.{Key}
use Rattle.reg_keys.specs.declared.registration.Dir.{Dir}
use Rattle.reg_keys.specs.declared.entry.LoadKind.{LoadKind}
use Rattle.reg_keys.specs.declared.entry.LoadKind.TheVariants.{Job, Flag}
use Rattle.reg_keys.specs.declared.entry.FiredKey.{FiredKey}
use Rattle.reg_keys.specs.declared.entry.ShutKey.{ShutKey}
use Rattle.reg_keys.specs.declared.entry.RegisterOutcome.TheVariants as Registers
use Rattle.reg_keys.specs.declared.entry.WithdrawOutcome.TheVariants as Withdraws
use Rattle.reg_keys.specs.declared.entry.AskOutcome.{AskOutcome}
use Rattle.reg_keys.specs.declared.entry.AskOutcome.TheVariants as Asks
use Rattle.reg_keys.specs.declared.entry.DispatchOutcome.TheVariants as Dispatches
use Rattle.reg_keys.specs.declared.entry.CloseOutcome.TheVariants as Closes
use Rattle.reg_keys.specs.declared.entry.Entry.{Entry}
use Rattle.reg_keys.specs.declared.entry.Entry.TheVariants.{Open, Report, Register, Withdraw, Ask, Dispatch}
use Rattle.reg_keys.specs.declared.entry.Entry.TheVariants.{Close}
use Rattle.reg_keys.specs.Tests.{same_key, IsIn}
use Rattle.reg_keys.specs.Histories.{keys_shut, Standing, StillWaits, HasRun, WasShut, Unasked, standing_run}
use Rattle.reg_keys.specs.Histories.{flag_run, flag_shut, unasked}
use Rattle.reg_keys.specs.Replies.{told, ask_reply, reply_of, IsLegal}
use Rattle.reg_keys.specs.Accounts.{ShowsRun, ShowsShut, TellsOfFlags}
use Rattle.reg_keys.specs.ListLaws.{same_key_is, in_append, in_one, in_filter, some_in, map_in}
use Rattle.reg_keys.proofs.RightReplies.{register_case, withdraw_case, ask_case, dispatch_case, close_case}

-- what a flag's standing shows of the history
abbrev Shown : Key → List Entry → Standing → Type 0
Shown k past StillWaits = Unit {0}
Shown k past (HasRun d m) = ShowsRun k d m past
Shown k past WasShut = ShowsShut k past

shown_later : (e : Entry) (k : Key) (past : List Entry) (now : Standing) → Shown k past now
    → Shown k (e ∷ past) now
shown_later e k past StillWaits h = tt
shown_later e k past (HasRun d m) h = (h.0, h.1, h.2, h.3, inr h.4, h.5, h.6, h.7, h.8)
shown_later e k past WasShut h = (h.0, h.1, h.2, inr h.3, h.4, h.5)

-- a flag that a dispatch ran shows its list
shown_run : (x : EventName) (all : List FiredKey) (n : Option EventName)
    (past : List Entry) (k : Key) (ran : List FiredKey)
    → ((r : FiredKey) → IsIn r ran → IsIn r all) → (now : Standing)
    → Shown k (Dispatch x (Dispatches.Ran all n) ∷ past) now
    → Shown k (Dispatch x (Dispatches.Ran all n) ∷ past) (standing_run k ran now)
shown_run x all n past k [] sub now h = h
shown_run x all n past k (r ∷ ran) sub now h =
    cond_both (same_key r.key k) (HasRun r.dir r.marks) (standing_run k ran now)
    (λ t. Shown k (Dispatch x (Dispatches.Ran all n) ∷ past) t)
    (λ is. (x, all, n, r, inl refl, sub r (inl refl), same_key_is r.key k is, refl, refl))
    (λ _. shown_run x all n past k ran (λ q i. sub q (inr i)) now h)

-- a flag that a close shut shows its list
shown_shut : (o : Opening) (xs : List ShutKey) (past : List Entry) (k : Key) (now : Standing)
    → Shown k (Close o (Closes.Shut xs) ∷ past) now
    → Shown k (Close o (Closes.Shut xs) ∷ past)
    (if list_any (λ l. same_key l k) (keys_shut xs) then WasShut else now)
shown_shut o xs past k now h =
    cond_both (list_any (λ l. same_key l k) (keys_shut xs)) WasShut now
    (λ t. Shown k (Close o (Closes.Shut xs) ∷ past) t)
    (λ is.
    let a = some_in (λ l. same_key l k) (keys_shut xs) is in
    let b = map_in (λ (x : ShutKey). x.key) a.0 xs a.1 in
    (o, xs, b.0, inl refl, b.1, sym b.2 ∙ same_key_is a.0 k a.2))
    (λ _. h)

abbrev FlagsShown : List Entry → Type 0
FlagsShown past = (f : Unasked) → IsIn f (unasked past) → Shown f.key past f.standing

fewer : (e : Entry) (past : List Entry)
    → ((f : Unasked) → IsIn f (unasked (e ∷ past)) → IsIn f (unasked past)) → FlagsShown past
    → FlagsShown (e ∷ past)
fewer e past sub r f i = shown_later e f.key past f.standing (r f (sub f i))

registered_shown : (past : List Entry) → FlagsShown past
    → (o : Opening) (d : Dir) (m : Option ℕ) (kind : LoadKind) (k : Key) (e : Option EventName)
    → FlagsShown (Register o d m kind (Registers.Waits k e) ∷ past)
registered_shown past r o d m (Job tag) k e =
    fewer (Register o d m (Job tag) (Registers.Waits k e)) past (λ _ i. i) r
registered_shown past r o d m Flag k e =
    λ f i.
    let here = Register o d m Flag (Registers.Waits k e) in
    let g : Unasked = record { key = k; opening = o; standing = StillWaits } in
    ⊎_elim (λ a. shown_later here f.key past f.standing (r f a))
    (λ a. subst (λ (y : Unasked). Shown y.key (here ∷ past) y.standing) (sym (in_one f g a)) tt)
    (in_append f (unasked past) (g ∷ []) i)

withdrawn_shown : (past : List Entry) → FlagsShown past → (k : Key) (kind : LoadKind)
    → FlagsShown (Withdraw k (Withdraws.Back kind) ∷ past)
withdrawn_shown past r k (Job tag) = fewer (Withdraw k (Withdraws.Back (Job tag))) past (λ _ i. i) r
withdrawn_shown past r k Flag =
    fewer (Withdraw k (Withdraws.Back Flag)) past (λ f i. (in_filter _ f (unasked past) i).0) r

asked_shown : (past : List Entry) → FlagsShown past → (k : Key) (now : Standing)
    → FlagsShown (Ask k (told now) ∷ past)
asked_shown past r k StillWaits = fewer (Ask k Asks.Waiting) past (λ _ i. i) r
asked_shown past r k (HasRun d m) =
    fewer (Ask k (Asks.Ran d m)) past (λ f i. (in_filter _ f (unasked past) i).0) r
asked_shown past r k WasShut = fewer (Ask k Asks.Closed) past (λ f i. (in_filter _ f (unasked past) i).0) r

ran_shown : (past : List Entry) → FlagsShown past
    → (x : EventName) (ran : List FiredKey) (e : Option EventName)
    → FlagsShown (Dispatch x (Dispatches.Ran ran e) ∷ past)
ran_shown past r x ran e f i =
    let here = Dispatch x (Dispatches.Ran ran e) in
    let a = map_in (flag_run ran) f (unasked past) i in
    subst (λ (y : Unasked). Shown y.key (here ∷ past) y.standing) (sym a.2)
    (shown_run x ran e past a.0.key ran (λ _ j. j) a.0.standing
    (shown_later here a.0.key past a.0.standing (r a.0 a.1)))

shut_shown : (past : List Entry) → FlagsShown past → (o : Opening) (xs : List ShutKey)
    → FlagsShown (Close o (Closes.Shut xs) ∷ past)
shut_shown past r o xs f i =
    let here = Close o (Closes.Shut xs) in
    let a = map_in (flag_shut xs) f (unasked past) i in
    subst (λ (y : Unasked). Shown y.key (here ∷ past) y.standing) (sym a.2)
    (shown_shut o xs past a.0.key a.0.standing (shown_later here a.0.key past a.0.standing (r a.0 a.1)))

-- what an answer to an ask shows of the history
abbrev AnswerShown : Key → List Entry → AskOutcome → Type 0
AnswerShown k past (Asks.Ran d m) = ShowsRun k d m past
AnswerShown k past Asks.Closed = ShowsShut k past
AnswerShown k past _ = Unit {0}

answer_later : (e : Entry) (k : Key) (past : List Entry) (y : AskOutcome) → AnswerShown k past y
    → AnswerShown k (e ∷ past) y
answer_later e k past Asks.Unknown h = tt
answer_later e k past Asks.Waiting h = tt
answer_later e k past (Asks.Ran d m) h = shown_later e k past (HasRun d m) h
answer_later e k past Asks.Closed h = shown_later e k past WasShut h

module _ (s c : ℕ) where
  step : (past : List Entry) → FlagsShown past → (e : Entry) → FlagsShown (reply_of s c past e ∷ past)
  step past r (Open fd x) = fewer (reply_of s c past (Open fd x)) past (λ _ i. i) r
  step past r (Report o ds x) = fewer (reply_of s c past (Report o ds x)) past (λ _ i. i) r
  step past r (Register o d m kind x) =
      register_case s c past o d m kind (λ y. FlagsShown (Register o d m kind y ∷ past))
      (λ _. fewer (Register o d m kind Registers.Shut) past (λ _ i. i) r)
      (λ _ _. fewer (Register o d m kind Registers.Crowded) past (λ _ i. i) r)
      (λ _ _ _. fewer (Register o d m kind Registers.Spent) past (λ _ i. i) r)
      (λ _ _ _. registered_shown past r o d m kind _ _)
  step past r (Withdraw k x) =
      withdraw_case s c past k (λ y. FlagsShown (Withdraw k y ∷ past))
      (λ _. fewer (Withdraw k Withdraws.Gone) past (λ _ i. i) r) (λ w _ _. withdrawn_shown past r k w.kind)
  step past r (Ask k x) =
      ask_case s c past k (λ y. FlagsShown (Ask k y ∷ past))
      (λ _. fewer (Ask k Asks.Unknown) past (λ _ i. i) r) (λ f _ _. asked_shown past r k f.standing)
  step past r (Dispatch x y) =
      dispatch_case s c past x (λ y. FlagsShown (Dispatch x y ∷ past))
      (λ _. fewer (Dispatch x Dispatches.Stale) past (λ _ i. i) r)
      (λ _ _. fewer (Dispatch x Dispatches.Spent) past (λ _ i. i) r) (λ _ _. ran_shown past r x _ _)
  step past r (Close o x) =
      close_case s c past o (λ y. FlagsShown (Close o y ∷ past))
      (λ _. fewer (Close o Closes.NotOpen) past (λ _ i. i) r) (λ _. shut_shown past r o _)

  flags_shown : (past : List Entry) → IsLegal s c past → FlagsShown past
  flags_shown [] l = λ f i. absurd i
  flags_shown (e ∷ past) l =
      subst (λ (x : Entry). FlagsShown (x ∷ past)) (sym l.1) (step past (flags_shown past l.0) e)

  -- an answer to an ask is what the flag's standing tells
  answer_shown : (past : List Entry) → FlagsShown past → (k : Key) (y : AskOutcome)
      → y ≡ ask_reply past k → AnswerShown k past y
  answer_shown past r k y is =
      subst (AnswerShown k past) (sym is)
      (ask_case s c past k (AnswerShown k past) tt'
      (λ f fs found. by_standing f (first f fs found) f.standing refl))
    where
      tt' : filter (λ (f : Unasked). same_key f.key k) (unasked past) ≡ [] → Unit {0}
      tt' _ = tt

      first : (f : Unasked) (fs : List Unasked)
          → filter (λ (f : Unasked). same_key f.key k) (unasked past) ≡ f ∷ fs
          → IsIn f (unasked past) × (f.key ≡ k)
      first f fs found =
          let a = in_filter (λ (f : Unasked). same_key f.key k) f
          (unasked past) (subst (IsIn f) (sym found) (inl refl)) in
          (a.0, same_key_is f.key k a.1)

      by_standing : (f : Unasked) → IsIn f (unasked past) × (f.key ≡ k) → (now : Standing)
          → f.standing ≡ now → AnswerShown k past (told now)
      by_standing f i StillWaits is = tt
      by_standing f i (HasRun d m) is =
          subst (λ (l : Key). ShowsRun l d m past) i.1 (subst (Shown f.key past) is (r f i.0))
      by_standing f i WasShut is =
          subst (λ (l : Key). ShowsShut l past) i.1 (subst (Shown f.key past) is (r f i.0))

  asked_is : (past : List Entry) (k : Key) (y : AskOutcome) (e : Entry) → Ask k y ≡ e
      → e ≡ reply_of s c past e → y ≡ ask_reply past k
  asked_is past k y e is right = ap answer_of (is ∙ (right ∙ ap (reply_of s c past) (sym is)))
    where
      answer_of : Entry → AskOutcome
      answer_of (Ask l z) = z
      answer_of _ = Asks.Unknown

  all_shown : (past : List Entry) → IsLegal s c past → (k : Key) (y : AskOutcome)
      → IsIn (Ask k y) past → AnswerShown k past y
  all_shown [] l k y i = absurd i
  all_shown (e ∷ past) l k y i =
      ⊎_elim (λ is.
      answer_later e k past y (answer_shown past (flags_shown past l.0) k y (asked_is past k y e is l.1)))
      (λ j. answer_later e k past y (all_shown past l.0 k y j)) i

pub tells_of_flags : (s c : ℕ) (past : List Entry) → IsLegal s c past → TellsOfFlags past
tells_of_flags s c past l = record {
  ran = λ k d m i. all_shown s c past l k (Asks.Ran d m) i;
  closed = λ k i. all_shown s c past l k Asks.Closed i;
}
