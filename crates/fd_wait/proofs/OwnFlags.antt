-- What a flag's owner is told is of its own registration: the list that shows it comes after
-- that, and is of the same opening.
use Rattle.std.proofs.Common.{◌≡◌, ℕ, ◌≤◌, inl, inr, ⊎_elim, List, [], ◌∷◌, ◌++◌, true, false, Bool, sym}
use Rattle.std.proofs.Common.{refl, ap, ◌∙◌, subst, arith}
use Rattle.std.specs.Prelude.{Option, not, ◌&&◌, ◌==◌}
use Rattle.std.proofs.lemmas.Bool.{both_ways, and_parts, and_from, and_right, and_cases, not_from_true}
use Rattle.std.proofs.lemmas.Bool.{eq-eqb, cases_Bool, not-false}
use Rattle.reg_keys.specs.declared.opening.Opening.{Opening}
use Rattle.reg_keys.specs.declared.event.EventName.{EventName}
use Rattle.reg_keys.specs.declared.registration.Key.{Key}
use Rattle.reg_keys.specs.declared.registration.Dir.{Dir}
use Rattle.reg_keys.specs.declared.registration.Marks.{Marks}
use Rattle.reg_keys.specs.declared.entry.LoadKind.{LoadKind}
use Rattle.reg_keys.specs.declared.entry.LoadKind.TheVariants.{Job, Flag}
use Rattle.reg_keys.specs.declared.entry.FiredKey.{FiredKey}
use Rattle.reg_keys.specs.declared.entry.ShutKey.{ShutKey}
use Rattle.reg_keys.specs.declared.entry.RegisterOutcome.TheVariants as Registers
use Rattle.reg_keys.specs.declared.entry.AskOutcome.TheVariants as Asked
use Rattle.reg_keys.specs.declared.entry.DispatchOutcome.TheVariants as Dispatches
use Rattle.reg_keys.specs.declared.entry.CloseOutcome.TheVariants as Closes
use Rattle.reg_keys.specs.declared.entry.Entry.{Entry}
use Rattle.reg_keys.specs.declared.entry.Entry.TheVariants.{Open, Report, Register, Withdraw, Ask, Dispatch}
use Rattle.reg_keys.specs.declared.entry.Entry.TheVariants.{Close}
use Rattle.reg_keys.specs.Tests.{one_if, same_key, same_dir, total, IsIn}
use Rattle.reg_keys.specs.Histories.{Registered, keys_run, keys_shut}
use Rattle.reg_keys.specs.Replies.{is_flag}
use Rattle.reg_keys.specs.Promises.{weight, times, times_ended, IsOwnPlace, RunsOnce}
use Rattle.reg_keys.specs.Accounts.{draws, run_of, weight_run, weight_registered, DrawsEachOnce}
use Rattle.reg_keys.specs.Accounts.{RunsWhatWasRegistered, TellsOfFlags}
use Rattle.reg_keys.specs.ListLaws.{same_is, same_key_is, same_key_self, same_dir_is, many_some, in_some}
use Rattle.reg_keys.specs.ListLaws.{in_map}
use Rattle.reg_keys.specs.Laws.{in_right}
use Rattle.fd_wait.specs.OwnFlags.{OwnFlag, registers, FlagRan, WasShut}

module _ {A : Type 0} where
  -- the place of one that is in a list
  in_split : (x : A) (xs : List A) → IsIn x xs
      → (later : List A) × (earlier : List A) × (xs ≡ later ++ x ∷ earlier)
  in_split x [] i = absurd i
  in_split x (y ∷ ys) i =
      ⊎_elim (λ (e : x ≡ y). ([], ys, ap (λ z. z ∷ ys) (sym e))) (λ (r : IsIn x ys). let a =
      in_split x ys r in (y ∷ a.0, a.1, ap (λ l. y ∷ l) a.2)) i

  in_total : (f : A → ℕ) (x : A) (xs : List A) → IsIn x xs → f x ≤ total f xs
  in_total f x [] i = absurd i
  in_total f x (y ∷ ys) i =
      ⊎_elim (λ (e : x ≡ y). let a = ap f e in omega arith) (λ (r : IsIn x ys). let a =
      in_total f x ys r in omega arith) i

  -- where a weight comes to one at most, one item alone has it
  one_only : (f : A → ℕ) (xs : List A) → total f xs ≤ 1 → (x y : A) → IsIn x xs → IsIn y xs
      → 1 ≤ f x → 1 ≤ f y → x ≡ y
  one_only f [] most x y i j a b = absurd i
  one_only f (z ∷ zs) most x y i j a b = ⊎_elim
      (λ (e : x ≡ z). ⊎_elim (λ (g : y ≡ z). e ∙ sym g) (λ (g : IsIn y zs).
      let p = in_total f y zs g in
      let q = ap f e in
      absurd (omega arith)) j)
      (λ (e : IsIn x zs). ⊎_elim (λ (g : y ≡ z).
      let p = in_total f x zs e in
      let q = ap f g in
      absurd (omega arith)) (λ (g : IsIn y zs). one_only f zs (omega arith) x y e g a b) j)
      i

  total_none : (f : A → ℕ) (xs : List A) → ((x : A) → IsIn x xs → f x ≡ 0) → total f xs ≡ 0
  total_none f [] h = refl
  total_none f (x ∷ xs) h =
      let a = h x (inl refl) in
      let r = total_none f xs (λ y i. h y (inr i)) in
      omega arith

times_in : (k : Key) (ks : List Key) → IsIn k ks → 1 ≤ times k ks
times_in k ks i = many_some (λ l. same_key l k) ks (in_some (λ l. same_key l k) k ks i (same_key_self k))

one_if_none : (b : Bool) → one_if b ≡ 0 → b ≡ false
one_if_none true e = absurd (omega arith)
one_if_none false e = refl

flag_is : (kind : LoadKind) → is_flag kind ≡ true → kind ≡ Flag
flag_is (Job tag) e = absurd (both_ways false refl e)
flag_is Flag e = refl

-- the parts of a registration's entry
abbrev opening_in : Opening → Entry → Opening
opening_in p (Register o d m kind r) = o
opening_in p _ = p

abbrev dir_in : Dir → Entry → Dir
dir_in p (Register o d m kind r) = d
dir_in p _ = p

abbrev kind_in : LoadKind → Entry → LoadKind
kind_in p (Register o d m kind r) = kind
kind_in p _ = p

module _ (past : List Entry) (each : DrawsEachOnce past) (f : OwnFlag) (mine : IsIn (registers f) past) where
  draws_key : (o : Opening) (d : Dir) (m : Option ℕ) (kind : LoadKind) (k : Key) (e : Option EventName)
      → k ≡ f.key → 1 ≤ draws f.key.number (Register o d m kind (Registers.Waits k e))
  draws_key o d m kind k e is =
      let a : one_if (k.number == f.key.number) ≡ 1 =
      ap one_if (eq-eqb k.number f.key.number (ap (λ (x : Key). x.number) is)) in
      omega arith

  -- what was registered under its key is the flag
  only_mine : (o : Opening) (d : Dir) (m : Option ℕ) (kind : LoadKind) (k : Key) (e : Option EventName)
      → k ≡ f.key → IsIn (Register o d m kind (Registers.Waits k e)) past
      → Register o d m kind (Registers.Waits k e) ≡ registers f
  only_mine o d m kind k e is i =
      one_only (draws f.key.number) past (each.numbers f.key.number)
      (Register o d m kind (Registers.Waits k e)) (registers f) i mine (draws_key o d m kind k e is)
      (draws_key f.opening f.dir f.mark Flag f.key f.named refl)

  -- the place of its key is of its opening and after its registration
  own_place : (s c : ℕ) → RunsOnce s c past → (later : List Entry) (e : Entry) (earlier : List Entry)
      → past ≡ later ++ e ∷ earlier → 1 ≤ times_ended f.key e → (p : IsOwnPlace s c f.key e earlier)
      × (p.registration.opening ≡ f.opening) × IsIn (registers f) earlier
  own_place s c once later e earlier is n =
      let p = once.own f.key later e earlier is n in
      let w = p.registration in
      let r = p.registered in
      let there : IsIn (Register w.opening w.dir r.0 w.kind (Registers.Waits w.key r.1)) past =
      subst (IsIn (Register w.opening w.dir r.0 w.kind (Registers.Waits w.key r.1))) (sym is)
      (in_right _ later (e ∷ earlier) (inr r.2)) in
      let same = only_mine w.opening w.dir r.0 w.kind w.key r.1 p.of_key there in
      (p, ap (opening_in w.opening) same, subst (λ (x : Entry). IsIn x earlier) same r.2)

  pub was_shut : (s c : ℕ) → RunsOnce s c past → TellsOfFlags past → IsIn (Ask f.key Asked.Closed) past
      → WasShut f past
  was_shut s c once flags asked =
      let h = flags.closed f.key asked in
      let e : Entry = Close h.0 (Closes.Shut h.1) in
      let cut = in_split e past h.3 in
      let key_in : IsIn f.key (keys_shut h.1) =
      subst (λ (k : Key). IsIn k (keys_shut h.1)) h.5 (in_map (λ (x : ShutKey). x.key) h.2 h.1 h.4) in
      let own = own_place s c once cut.0 e cut.1 cut.2 (times_in f.key (keys_shut h.1) key_in) in
      let is : h.0 ≡ f.opening = same_is h.0 own.0.registration.opening own.0.own ∙ own.1 in record {
        shut = h.1;
        shown = h.2;
        later = cut.0;
        earlier = cut.1;
        place = cut.2 ∙ ap (λ (o : Opening). cut.0 ++ Close o (Closes.Shut h.1) ∷ cut.1) is;
        registered = own.2;
        listed = h.4;
        of_key = h.5;
      }

  -- a registration under the flag's key that isn't the flag's own
  abbrev differs : Registered → Bool
  differs w = same_key w.key f.key && not (same_dir w.dir f.dir && is_flag w.kind)

  abbrev strange : Registered → ℕ
  strange w = one_if (differs w)

  dir_self : (d : Dir) → same_dir d d ≡ true
  dir_self d = grind arith

  -- none was registered
  none_registered : (e : Entry) → IsIn e past → weight_registered strange e ≡ 0
  none_registered (Register o d m kind (Registers.Waits k e)) i = ⊎_elim
      (λ (is : same_key k f.key ≡ true). let same = only_mine o d m kind k e (same_key_is k f.key is) i in
      ap one_if
      (and_right (same_key k f.key) (not (same_dir d f.dir && is_flag kind))
      (not_from_true (same_dir d f.dir && is_flag kind)
      (and_from (same_dir d f.dir) (is_flag kind) (ap (λ (x : Entry). same_dir (dir_in d x) f.dir) same
      ∙ dir_self f.dir) (ap (λ (x : Entry). is_flag (kind_in kind x)) same)))))
      (λ (is : same_key k f.key ≡ false). ap (λ b. one_if (b && not (same_dir d f.dir && is_flag kind))) is)
      (cases_Bool (same_key k f.key))
  none_registered (Register o d m kind Registers.Shut) i = refl
  none_registered (Register o d m kind Registers.Crowded) i = refl
  none_registered (Register o d m kind Registers.Spent) i = refl
  none_registered (Open fd x) i = refl
  none_registered (Report o ds x) i = refl
  none_registered (Withdraw k x) i = refl
  none_registered (Ask k x) i = refl
  none_registered (Dispatch x y) i = refl
  none_registered (Close o x) i = refl

  -- so none ran
  none_ran : RunsWhatWasRegistered past → (x : EventName) (ran : List FiredKey) (n : Option EventName)
      → IsIn (Dispatch x (Dispatches.Ran ran n)) past → (r : FiredKey) → IsIn r ran → r.key ≡ f.key
      → (r.dir ≡ f.dir) × (r.kind ≡ Flag)
  none_ran runs x ran n i r j is =
      let a : weight (weight_registered strange) past ≡ 0 =
      total_none (weight_registered strange) past none_registered in
      let b = runs strange in
      let c : total (λ (q : FiredKey). strange (run_of x q)) ran ≤ weight (weight_run strange) past =
      in_total (weight_run strange) (Dispatch x (Dispatches.Ran ran n)) past i in
      let d : strange (run_of x r) ≤ total (λ (q : FiredKey). strange (run_of x q)) ran =
      in_total (λ (q : FiredKey). strange (run_of x q)) r ran j in
      let none : differs (run_of x r) ≡ false = one_if_none (differs (run_of x r)) (omega arith) in
      let key_same : same_key r.key f.key ≡ true =
      subst (λ (k : Key). same_key k f.key ≡ true) (sym is) (same_key_self f.key) in
      let e : not (same_dir r.dir f.dir && is_flag r.kind) ≡ false =
      ⊎_elim (λ (h : same_key r.key f.key ≡ false). absurd (both_ways (same_key r.key f.key) h key_same))
      (λ h. h) (and_cases (same_key r.key f.key) (not (same_dir r.dir f.dir && is_flag r.kind)) none) in
      let g = and_parts (same_dir r.dir f.dir) (is_flag r.kind)
      (not-false (same_dir r.dir f.dir && is_flag r.kind) e) in
      (same_dir_is r.dir f.dir g.0, flag_is r.kind g.1)

  pub has_run : (s c : ℕ) → RunsOnce s c past → RunsWhatWasRegistered past → TellsOfFlags past
      → (d : Dir) (marks : Marks) → IsIn (Ask f.key (Asked.Ran d marks)) past
      → (d ≡ f.dir) × FlagRan f marks past
  has_run s c once runs flags d marks asked =
      let h = flags.ran f.key d marks asked in
      let r = h.3 in
      let e : Entry = Dispatch h.0 (Dispatches.Ran h.1 h.2) in
      let cut = in_split e past h.4 in
      let key_in : IsIn f.key (keys_run h.1) =
      subst (λ (k : Key). IsIn k (keys_run h.1)) h.6 (in_map (λ (x : FiredKey). x.key) r h.1 h.5) in
      let own = own_place s c once cut.0 e cut.1 cut.2 (times_in f.key (keys_run h.1) key_in) in
      let is = none_ran runs h.0 h.1 h.2 h.4 r h.5 h.6 in (
        sym h.7 ∙ is.0,
        record {
          event = h.0;
          ran = h.1;
          next = h.2;
          later = cut.0;
          earlier = cut.1;
          place = cut.2;
          registered = own.2;
          of_opening = same_is h.0.opening own.0.registration.opening own.0.own ∙ own.1;
          listed =
              subst (λ (x : FiredKey). IsIn x h.1)
              (λ i. record { key = h.6 i; dir = is.0 i; marks = h.8 i; kind = is.1 i }) h.5;
        },
      )
