-- How flags come out, one registration after the other.
use Rattle.std.proofs.Common.{◌≡◌, ℕ, ◌+◌, ◌%◌, ◌<◌, inl, inr, ⊎_elim, List, [], ◌∷◌, map, length, true}
use Rattle.std.proofs.Common.{false, Bool, sym, refl, ap, ◌∙◌, subst, arith}
use Rattle.std.specs.Prelude.{Option, Some, filter, if◌then◌else◌, not, ◌||◌, ◌&&◌, ◌==◌}
use Rattle.std.specs.List.{list_any}
use Rattle.std.proofs.lemmas.Bool.{both_ways, and_left, cond-true, cond-false, eqb-true, eq-eqb, ne_eqb}
use Rattle.std.proofs.lemmas.Bool.{false_from_ne_true, not-true}
use Rattle.std.proofs.lemmas.List.{length-map}
use Rattle.std.proofs.Math.Bool.{and-false}
use Rattle.reg_keys.specs.declared.opening.Opening.{Opening}
use Rattle.reg_keys.specs.declared.registration.Key.{Key}
use Rattle.reg_keys.specs.declared.registration.Marks.{Marks}
use Rattle.reg_keys.specs.Tests.{same, same_key, how_many, one_if, IsIn}
use Rattle.reg_keys.specs.Histories.{Registered, Unasked, Standing, StillWaits, HasRun, WasShut, is_fired}
use Rattle.reg_keys.specs.Histories.{standing_run, flag_run, flag_shut, keys_shut}
use Rattle.reg_keys.specs.Replies.{is_flag, fired_as, shut_as}
use Rattle.reg_keys.specs.ListLaws.{map_in, in_map, in_filter, in_some}
use Rattle.stripe_table.specs.Ascending.{AllAbove, Ascends, AllBelow}
use Rattle.stripe_table.specs.Facts.{fired_of, number_of, flag_number, flag_at}
use Rattle.stripe_table.specs.Represents.{registered_of, unasked_of, standing_of, IsOrdered}
use Rattle.stripe_table.specs.Flags.{flag_has, settled}
use Rattle.stripe_table.specs.Firing.{settle_all, told_of}
use Rattle.stripe_table.specs.Descriptors.{flag_waits}
use Rattle.stripe_table.specs.declared.descriptor.Registration.{Registration}
use Rattle.stripe_table.specs.declared.flags.FlagState.{FlagState}
use Rattle.stripe_table.specs.declared.flags.UnaskedFlag.{UnaskedFlag}
use Rattle.stripe_table.proofs.Lists.{none_above, none_changed, ascends_changed}
use Rattle.stripe_table.proofs.Ordering.{above_in, below_changed, one_number, ascends_left, below_left}

-- the flag with this key comes out so
abbrev pub settle_one : Key → Standing → Unasked → Unasked
settle_one k x u = record u { standing = if same_key k u.key then x else u.standing }

-- the flags of the registrations come out so, one after the other
abbrev pub settle : (Registered → Standing) → List Registered → List Unasked → List Unasked
settle x [] us = us
settle x (w ∷ ws) us = settle x ws (map (settle_one w.key (x w)) us)

-- the flag of a registration, while it waits
abbrev pub waiter : Registered → Unasked
waiter w = record { key = w.key; opening = w.opening; standing = StillWaits }

turned : (k n : ℕ) → (n == k) ≡ false → (k == n) ≡ false
turned k n e = false_from_ne_true (k == n) (λ h. both_ways (n == k) e (eq-eqb n k (sym (eqb-true k n h))))

one_left : (k : Key) (x : Standing) (u : Unasked) → flag_at k.number u ≡ false → settle_one k x u ≡ u
one_left k x u e =
    ap (λ (t : Standing). record u { standing = t })
    (cond-false (same_key k u.key) x u.standing (turned k.number u.key.number e))

map_same : {A B : Type 0} (f g : A → B) → ((x : A) → f x ≡ g x) → (xs : List A) → map f xs ≡ map g xs
map_same f g e [] = refl
map_same f g e (x ∷ xs) = λ i. e x i ∷ map_same f g e xs i

map_map : {A B C : Type 0} (f : B → C) (g : A → B) (xs : List A) → map f (map g xs) ≡ map (λ x. f (g x)) xs
map_map f g [] = refl
map_map f g (x ∷ xs) = ap (λ l. f (g x) ∷ l) (map_map f g xs)

map_id : {A : Type 0} (f : A → A) → ((x : A) → f x ≡ x) → (xs : List A) → map f xs ≡ xs
map_id f e [] = refl
map_id f e (x ∷ xs) = λ i. e x i ∷ map_id f e xs i

-- ---- a dispatch and a close settle the flags of what they take

runs_not : (k : Key) (m : Marks) (ws : List Registered) (now : Standing) → AllAbove number_of k.number ws
    → standing_run k (map (fired_as m) ws) now ≡ now
runs_not k m [] now a = refl
runs_not k m (w ∷ ws) now a =
    let lt = a.0 in
    cond-false (same_key w.key k) (HasRun w.dir m) (standing_run k (map (fired_as m) ws) now)
    (ne_eqb w.key.number k.number (λ e. omega arith)) ∙ runs_not k m ws now a.1

run_first : (m : Marks) (w : Registered) (ws : List Registered)
    → AllAbove number_of w.key.number ws → (u : Unasked) → flag_run (map (fired_as m) (w ∷ ws)) u
    ≡ flag_run (map (fired_as m) ws) (settle_one w.key (HasRun w.dir m) u)
run_first m w ws a u = ap (λ (t : Standing). record u { standing = t }) (by_case (same_key w.key u.key) refl)
  where
    by_case : (b : Bool) → same_key w.key u.key ≡ b
        → (if b then HasRun w.dir m else standing_run u.key (map (fired_as m) ws) u.standing)
        ≡ standing_run u.key (map (fired_as m) ws) (if b then HasRun w.dir m else u.standing)
    by_case true e =
        sym (runs_not u.key m ws (HasRun w.dir m)
        (subst (λ (n : ℕ). AllAbove number_of n ws) (eqb-true w.key.number u.key.number e) a))
    by_case false e = refl

pub run_is : (m : Marks) (ws : List Registered) (us : List Unasked) → Ascends number_of ws
    → map (flag_run (map (fired_as m) ws)) us ≡ settle (λ w. HasRun w.dir m) ws us
run_is m [] us a = map_id (flag_run []) (λ u. refl) us
run_is m (w ∷ ws) us a =
    map_same (flag_run (map (fired_as m) (w ∷ ws)))
    (λ u. flag_run (map (fired_as m) ws) (settle_one w.key (HasRun w.dir m) u)) (run_first m w ws a.0) us
    ∙ (sym (map_map (flag_run (map (fired_as m) ws)) (settle_one w.key (HasRun w.dir m)) us)
    ∙ run_is m ws (map (settle_one w.key (HasRun w.dir m)) us) a.1)

shut_first : (w : Registered) (ws : List Registered) (u : Unasked)
    → flag_shut (map shut_as (w ∷ ws)) u ≡ flag_shut (map shut_as ws) (settle_one w.key WasShut u)
shut_first w ws u =
    ap (λ (t : Standing). record u { standing = t })
    (by_case (same_key w.key u.key) (list_any (λ k. same_key k u.key) (keys_shut (map shut_as ws))))
  where
    by_case : (a b : Bool) → (if a || b then WasShut else u.standing)
        ≡ (if b then WasShut else (if a then WasShut else u.standing))
    by_case true true = refl
    by_case true false = refl
    by_case false true = refl
    by_case false false = refl

pub shut_is : (ws : List Registered) (us : List Unasked)
    → map (flag_shut (map shut_as ws)) us ≡ settle (λ w. WasShut) ws us
shut_is [] us = map_id (flag_shut []) (λ u. refl) us
shut_is (w ∷ ws) us =
    map_same (flag_shut (map shut_as (w ∷ ws))) (λ u. flag_shut (map shut_as ws) (settle_one w.key WasShut u))
    (shut_first w ws) us
    ∙ (sym (map_map (flag_shut (map shut_as ws)) (settle_one w.key WasShut) us)
    ∙ shut_is ws (map (settle_one w.key WasShut) us))

-- ---- the stripe's list of flags does so too

any_changed : {A : Type 0} (f : A → Bool) (h : A → A) → ((x : A) → f (h x) ≡ f x) → (xs : List A)
    → list_any f (map h xs) ≡ list_any f xs
any_changed f h e [] = refl
any_changed f h e (x ∷ xs) = λ i. e x i || any_changed f h e xs i

any_mapped : {A B : Type 0} (f : B → Bool) (g : A → Bool) (h : A → B) → ((x : A) → f (h x) ≡ g x)
    → (xs : List A) → list_any f (map h xs) ≡ list_any g xs
any_mapped f g h e [] = refl
any_mapped f g h e (x ∷ xs) = λ i. e x i || any_mapped f g h e xs i

module _ {T : Type 0} (tag : T → List (List ℕ)) (o : Opening)
    (state : Registration T → FlagState) (x : Registered → Standing)
    (state_is : (r : Registration T) → standing_of (state r) ≡ x (registered_of tag o r)) where
  told_one : (r : Registration T) (fl : List UnaskedFlag)
      → (flag_waits r ≡ false → list_any (flag_has r.key) fl ≡ false)
      → map unasked_of (told_of (state r) r fl)
      ≡ map (settle_one (record { number = r.key }) (x (registered_of tag o r))) (map unasked_of fl)
  told_one r fl job = by_case (flag_waits r) refl
    where
      one : (f : UnaskedFlag) → unasked_of (settled r.key (state r) f)
          ≡ settle_one (record { number = r.key }) (x (registered_of tag o r)) (unasked_of f)
      one f =
          ap (λ (t : Standing). record { key = record { number = f.key }; opening = f.opening; standing = t })
          (choice (r.key == f.key))
        where
          choice : (b : Bool) → standing_of (if b then state r else f.state)
              ≡ (if b then x (registered_of tag o r) else standing_of f.state)
          choice true = state_is r
          choice false = refl

      by_case : (b : Bool) → flag_waits r ≡ b
          → map unasked_of (if b then map (settled r.key (state r)) fl else fl)
          ≡ map (settle_one (record { number = r.key }) (x (registered_of tag o r))) (map unasked_of fl)
      by_case true e =
          map_map unasked_of (settled r.key (state r)) fl
          ∙ (map_same (λ f. unasked_of (settled r.key (state r) f))
          (λ f. settle_one (record { number = r.key }) (x (registered_of tag o r)) (unasked_of f)) one fl
          ∙ sym (map_map (settle_one (record { number = r.key }) (x (registered_of tag o r))) unasked_of fl))
      by_case false e =
          sym
          (none_changed (flag_at r.key) (settle_one (record { number = r.key }) (x (registered_of tag o r)))
          (one_left (record { number = r.key }) (x (registered_of tag o r))) (map unasked_of fl)
          (any_mapped (flag_at r.key) (flag_has r.key) unasked_of (λ f. refl) fl ∙ job e))

  any_told : (k : ℕ) (r : Registration T) (fl : List UnaskedFlag)
      → list_any (flag_has k) (told_of (state r) r fl) ≡ list_any (flag_has k) fl
  any_told k r fl = by_case (flag_waits r)
    where
      by_case : (b : Bool) → list_any (flag_has k) (if b then map (settled r.key (state r)) fl else fl)
          ≡ list_any (flag_has k) fl
      by_case true = any_changed (flag_has k) (settled r.key (state r)) (λ f. refl) fl
      by_case false = refl

  pub settled_is : (rs : List (Registration T)) (fl : List UnaskedFlag)
      → ((r : Registration T) → IsIn r rs → flag_waits r ≡ false → list_any (flag_has r.key) fl ≡ false)
      → map unasked_of (settle_all state rs fl) ≡ settle x (map (registered_of tag o) rs) (map unasked_of fl)
  settled_is [] fl jobs = refl
  settled_is (r ∷ rs) fl jobs =
      settled_is rs (told_of (state r) r fl) (λ q i e. any_told q.key r fl ∙ jobs q (inr i) e)
      ∙ ap (settle x (map (registered_of tag o) rs)) (told_one r fl (jobs r (inl refl)))

-- ---- what is so while the flags of registrations are settled

pub record Stood (ws : List Registered) (us : List Unasked) : Type 0 where
  pub ascend : Ascends number_of ws
  pub flags_ascend : Ascends flag_number us
  pub jobs : (w : Registered) → IsIn w ws → is_flag w.kind ≡ false
      → list_any (flag_at w.key.number) us ≡ false
  pub waiters : (w : Registered) → IsIn w ws → is_flag w.kind ≡ true → IsIn (waiter w) us

module _ (x : Registered → Standing) where
  in_one : (k : Key) (t : Standing) (u : Unasked) (us : List Unasked) → flag_at k.number u ≡ false
      → IsIn u us → IsIn u (map (settle_one k t) us)
  in_one k t u us e i =
      subst (λ (v : Unasked). IsIn v (map (settle_one k t) us)) (one_left k t u e)
      (in_map (settle_one k t) u us i)

  stood_rest : (w : Registered) (ws : List Registered) (us : List Unasked) → Stood (w ∷ ws) us
      → Stood ws (map (settle_one w.key (x w)) us)
  stood_rest w ws us r = record {
    ascend = (r.ascend).1;
    flags_ascend = ascends_changed flag_number (settle_one w.key (x w)) (λ u. refl) us r.flags_ascend;
    jobs =
        λ v i e. any_changed (flag_at v.key.number) (settle_one w.key (x w)) (λ u. refl) us
        ∙ r.jobs v (inr i) e;
    waiters =
        λ v i e.
        let lt = above_in number_of w.key.number ws v (r.ascend).0 i in
        in_one w.key (x w) (waiter v) us (ne_eqb v.key.number w.key.number (λ h. omega arith))
        (r.waiters v (inr i) e);
  }

  pub any_settled : (k : ℕ) (ws : List Registered) (us : List Unasked)
      → list_any (flag_at k) (settle x ws us) ≡ list_any (flag_at k) us
  any_settled k [] us = refl
  any_settled k (w ∷ ws) us =
      any_settled k ws (map (settle_one w.key (x w)) us)
      ∙ any_changed (flag_at k) (settle_one w.key (x w)) (λ u. refl) us

  pub ascends_settled : (ws : List Registered) (us : List Unasked) → Ascends flag_number us
      → Ascends flag_number (settle x ws us)
  ascends_settled [] us a = a
  ascends_settled (w ∷ ws) us a =
      ascends_settled ws (map (settle_one w.key (x w)) us)
      (ascends_changed flag_number (settle_one w.key (x w)) (λ u. refl) us a)

  pub below_settled : (n : ℕ) (ws : List Registered) (us : List Unasked) → AllBelow flag_number n us
      → AllBelow flag_number n (settle x ws us)
  below_settled n [] us a = a
  below_settled n (w ∷ ws) us a =
      below_settled n ws (map (settle_one w.key (x w)) us)
      (below_changed flag_number (settle_one w.key (x w)) (λ u. refl) n us a)

  pub length_settled : (ws : List Registered) (us : List Unasked) → length (settle x ws us) ≡ length us
  length_settled [] us = refl
  length_settled (w ∷ ws) us =
      length_settled ws (map (settle_one w.key (x w)) us) ∙ length-map us (settle_one w.key (x w))

  -- openings of flags stay
  pub made_settled : (n s : ℕ) (ws : List Registered) (us : List Unasked)
      → ((u : Unasked) → IsIn u us → (u.opening.number < n) × (u.opening.fd % 32 ≡ s)) → (u : Unasked)
      → IsIn u (settle x ws us) → (u.opening.number < n) × (u.opening.fd % 32 ≡ s)
  made_settled n s [] us h u i = h u i
  made_settled n s (w ∷ ws) us h u i =
      made_settled n s ws (map (settle_one w.key (x w)) us) (λ v j. let y =
      map_in (settle_one w.key (x w)) v us j in
      subst (λ (z : Unasked). (z.opening.number < n) × (z.opening.fd % 32 ≡ s)) (sym y.2) (h y.0 y.1)) u i

  -- the flag of another registration waits still
  pub in_settled : (u : Unasked) (ws : List Registered) (us : List Unasked)
      → ((w : Registered) → IsIn w ws → flag_at w.key.number u ≡ false) → IsIn u us → IsIn u (settle x ws us)
  in_settled u [] us off i = i
  in_settled u (w ∷ ws) us off i =
      in_settled u ws (map (settle_one w.key (x w)) us) (λ v j. off v (inr j))
      (in_one w.key (x w) u us (off w (inl refl)) i)

  many_same : {A : Type 0} (f : A → Bool) (h : A → A) (xs : List A) → ((y : A) → IsIn y xs → f (h y) ≡ f y)
      → how_many f (map h xs) ≡ how_many f xs
  many_same f h [] e = refl
  many_same f h (y ∷ ys) e =
      let a : one_if (f (h y)) ≡ one_if (f y) = ap one_if (e y (inl refl)) in
      let r = many_same f h ys (λ z i. e z (inr i)) in
      omega arith

  -- what a registration's key finds among the flags
  found_is : (w : Registered) (ws : List Registered) (us : List Unasked) → Stood (w ∷ ws) us
      → (u : Unasked) → IsIn u us → same_key w.key u.key ≡ true → u ≡ waiter w
  found_is w ws us r u i e = by_kind (is_flag w.kind) refl
    where
      by_kind : (b : Bool) → is_flag w.kind ≡ b → u ≡ waiter w
      by_kind true k =
          one_number flag_number us u (waiter w) r.flags_ascend i (r.waiters w (inl refl) k)
          (sym (eqb-true w.key.number u.key.number e))
      by_kind false k =
          absurd (both_ways (list_any (flag_at w.key.number) us) (r.jobs w (inl refl) k)
          (in_some (flag_at w.key.number) u us i
          (eq-eqb u.key.number w.key.number (sym (eqb-true w.key.number u.key.number e)))))

  -- the fired flags of another opening stay
  pub fired_other : (p : Opening) (ws : List Registered) (us : List Unasked)
      → Stood ws us → ((w : Registered) → IsIn w ws → same p w.opening ≡ false)
      → how_many (fired_of p) (settle x ws us) ≡ how_many (fired_of p) us
  fired_other p [] us r off = refl
  fired_other p (w ∷ ws) us r off =
      fired_other p ws (map (settle_one w.key (x w)) us) (stood_rest w ws us r) (λ v i. off v (inr i))
      ∙ many_same (fired_of p) (settle_one w.key (x w)) us (λ u i. by_case u i (same_key w.key u.key) refl)
    where
      by_case : (u : Unasked) → IsIn u us → (b : Bool) → same_key w.key u.key ≡ b
          → fired_of p (settle_one w.key (x w) u) ≡ fired_of p u
      by_case u i true e =
          let is = found_is w ws us r u i e in
          let away : same p u.opening ≡ false =
          ap (λ (v : Unasked). same p v.opening) is ∙ off w (inl refl) in
          and_left (same p u.opening) _ away ∙ sym (and_left (same p u.opening) (is_fired u.standing) away)
      by_case u i false e =
          ap (λ (t : Standing). same p u.opening && is_fired t)
          (cond-false (same_key w.key u.key) (x w) u.standing e)

  module _ (o : Opening) (fires : (w : Registered) → is_fired (x w) ≡ true) where
    none_more : (w : Registered) (us : List Unasked) → list_any (flag_at w.key.number) us ≡ false
        → how_many (fired_of o) (map (settle_one w.key (x w)) us) ≡ how_many (fired_of o) us
    none_more w us e =
        ap (how_many (fired_of o))
        (none_changed (flag_at w.key.number) (settle_one w.key (x w)) (one_left w.key (x w)) us e)

    -- the flag that runs is one more
    one_more : (w : Registered) → same o w.opening ≡ true
        → (us : List Unasked) → Ascends flag_number us → IsIn (waiter w) us
        → how_many (fired_of o) (map (settle_one w.key (x w)) us) ≡ how_many (fired_of o) us + 1
    one_more w own [] a i = absurd i
    one_more w own (u ∷ us) a i = ⊎_elim
        (λ (e : waiter w ≡ u). let key_is : w.key.number ≡ u.key.number =
        ap (λ (v : Unasked). v.key.number) e in
        let after : fired_of o (settle_one w.key (x w) u)
        ≡ true = ap (λ (t : Standing). same o u.opening && is_fired t)
        (cond-true (same_key w.key u.key) (x w) u.standing (eq-eqb w.key.number u.key.number key_is))
        ∙ (ap (λ b. b && is_fired (x w)) (ap (λ (v : Unasked). same o v.opening) (sym e) ∙ own) ∙ fires w) in
        let before : fired_of o u ≡ false =
        ap (λ (v : Unasked). fired_of o v) (sym e) ∙ and-false (same o w.opening) in
        let one : one_if (fired_of o (settle_one w.key (x w) u)) ≡ 1 = ap one_if after in
        let zero' : one_if (fired_of o u) ≡ 0 = ap one_if before in
        let rest = none_more w us (none_above flag_number u.key.number w.key.number (omega arith) us a.0) in
        omega arith)
        (λ j.
        let lt = above_in flag_number u.key.number us (waiter w) a.0 j in
        let rest = one_more w own us a.1 j in
        let same_first : one_if (fired_of o (settle_one w.key (x w) u))
        ≡ one_if (fired_of o u) = ap (λ (v : Unasked). one_if (fired_of o v))
        (one_left w.key (x w) u (ne_eqb u.key.number w.key.number (λ h. omega arith))) in
        omega arith) i

    -- the flags that run are as many more
    pub fired_own : (ws : List Registered) (us : List Unasked) → Stood ws us
        → ((w : Registered) → IsIn w ws → same o w.opening ≡ true) → how_many (fired_of o) (settle x ws us)
        ≡ how_many (fired_of o) us + how_many (λ (w : Registered). is_flag w.kind) ws
    fired_own [] us r own = omega arith
    fired_own (w ∷ ws) us r own =
        let rest = fired_own ws (map (settle_one w.key (x w)) us)
        (stood_rest w ws us r) (λ v i. own v (inr i)) in
        by_kind (is_flag w.kind) refl rest
      where
        by_kind : (b : Bool) → is_flag w.kind ≡ b
            → how_many (fired_of o) (settle x ws (map (settle_one w.key (x w)) us)) ≡ how_many (fired_of o)
            (map (settle_one w.key (x w)) us) + how_many (λ (w : Registered). is_flag w.kind) ws
            → how_many (fired_of o) (settle x ws (map (settle_one w.key (x w)) us))
            ≡ how_many (fired_of o) us + how_many (λ (w : Registered). is_flag w.kind) (w ∷ ws)
        by_kind true e rest =
            let first = one_more w (own w (inl refl)) us r.flags_ascend (r.waiters w (inl refl) e) in
            let one : one_if (is_flag w.kind) ≡ 1 = ap one_if e in
            omega arith
        by_kind false e rest =
            let first = none_more w us (r.jobs w (inl refl) e) in
            let zero' : one_if (is_flag w.kind) ≡ 0 = ap one_if e in
            omega arith

-- ---- what is taken by a test

module _ (s n : ℕ) (owner : ℕ → Option Opening) (ws : List Registered) (us : List Unasked)
    (r : IsOrdered s n owner ws us) (p : Registered → Bool) where
  pub stood_taken : Stood (filter p ws) us
  stood_taken = record {
    ascend = ascends_left number_of p ws r.waits_ascend;
    flags_ascend = r.flags_ascend;
    jobs = λ w i e. r.jobs w (in_filter p w ws i).0 e;
    waiters = λ w i e. r.waiters w (in_filter p w ws i).0 e;
  }

  pub settled_ordered : (x : Registered → Standing) (owner' : ℕ → Option Opening)
      → ((fd : ℕ) (o : Opening) → owner' fd ≡ Some o → owner fd ≡ Some o)
      → ((w : Registered) → IsIn w ws → p w ≡ false → owner' w.opening.fd ≡ Some w.opening)
      → IsOrdered s n owner' (filter (λ w. not (p w)) ws) (settle x (filter p ws) us)
  settled_ordered x owner' less held = record {
    waits_ascend = ascends_left number_of (λ w. not (p w)) ws r.waits_ascend;
    waits_old = below_left number_of (λ w. not (p w)) n ws r.waits_old;
    flags_ascend = ascends_settled x (filter p ws) us r.flags_ascend;
    flags_old = below_settled x n (filter p ws) us r.flags_old;
    within = λ fd o e. r.within fd o (less fd o e);
    held = λ w i. let a = in_filter (λ w. not (p w)) w ws i in held w a.0 (not-true (p w) a.1);
    made = made_settled x n s (filter p ws) us r.made;
    jobs =
        λ w i e. any_settled x w.key.number (filter p ws) us
        ∙ r.jobs w (in_filter (λ w. not (p w)) w ws i).0 e;
    waiters = λ w i e. let a = in_filter (λ w. not (p w)) w ws i in in_settled x (waiter w) (filter p ws) us
        (λ v j. let b = in_filter p v ws j in
        ne_eqb w.key.number v.key.number (λ (h : w.key.number ≡ v.key.number). let same =
        one_number number_of ws w v r.waits_ascend a.0 b.0 h in
        both_ways (p w) (not-true (p w) a.1) (ap p same ∙ b.1)))
        (r.waiters w a.0 e);
    few =
        let l = length_settled x (filter p ws) us in
        let f = r.few in omega arith;
  }
