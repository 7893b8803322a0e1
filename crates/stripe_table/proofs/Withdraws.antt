-- A withdrawal from the table is what the definitions say of it.
use Rattle.std.proofs.Common.{◌≡◌, ℕ, ◌+◌, ◌*◌, ◌/◌, ◌≤◌, ◌≢◌, inl, inr, List, [], ◌∷◌, map, length, set}
use Rattle.std.proofs.Common.{true, false, Bool, sym, refl, ap, ◌∙◌, subst, arith}
use Rattle.std.specs.Prelude.{Option, Some, None, filter, if◌then◌else◌, not, ◌||◌, ◌==◌, slice_get}
use Rattle.std.specs.List.{list_any}
use Rattle.std.proofs.lemmas.Bool.{both_ways, or_parts, cond-false, eqb-true, eq-eqb, ne_eqb}
use Rattle.std.proofs.lemmas.Bool.{false_from_ne_true, not-true, not_from_false}
use Rattle.std.proofs.lemmas.Option.{same_Some, none-some}
use Rattle.std.proofs.Math.Bool.{and-false, or-false}
use Rattle.reg_keys.specs.declared.opening.Opening.{Opening}
use Rattle.reg_keys.specs.declared.registration.Key.{Key}
use Rattle.reg_keys.specs.declared.entry.WithdrawOutcome.TheVariants as Withdraws
use Rattle.reg_keys.specs.declared.entry.Entry.{Entry}
use Rattle.reg_keys.specs.declared.entry.Entry.TheVariants.{Withdraw}
use Rattle.reg_keys.specs.Tests.{same, same_key, how_many, one_if, IsIn}
use Rattle.reg_keys.specs.Histories.{owner_of, Registered, waiting, Unasked, without, flag_back, not_asked}
use Rattle.reg_keys.specs.Replies.{is_flag, first_back, reply_of}
use Rattle.reg_keys.specs.ListLaws.{in_filter, in_kept, in_some, some_in, map_in, split_filter}
use Rattle.stripe_table.specs.Calls.{kind_of, kind_of_job}
use Rattle.stripe_table.specs.Facts.{Facts, facts_of, next, waits_at, fired_of, number_of, flag_number}
use Rattle.stripe_table.specs.Facts.{flag_at, withdrawn}
use Rattle.stripe_table.specs.Represents.{opening, registered_of, FitsOpen, Shows, ShowsPast, unasked_of}
use Rattle.stripe_table.specs.Represents.{IsOrdered, AreOrdered}
use Rattle.stripe_table.specs.Flags.{flag_has, ended}
use Rattle.stripe_table.specs.Index.{KeepsOthers, ListsAll}
use Rattle.stripe_table.specs.Loads as Loads
use Rattle.stripe_table.specs.Descriptors as Kept
use Rattle.stripe_table.specs.declared.load.Payload.{Payload}
use Rattle.stripe_table.specs.declared.load.Payload.TheVariants.{Job, Flag}
use Rattle.stripe_table.specs.declared.descriptor.Registration.{Registration}
use Rattle.stripe_table.specs.declared.descriptor.OpenDescriptor.{OpenDescriptor}
use Rattle.stripe_table.specs.declared.flags.UnaskedFlag.{UnaskedFlag}
use Rattle.stripe_table.specs.declared.stripe.Stripe.{Stripe}
use Rattle.stripe_table.proofs.Lists.{none_passes}
use Rattle.stripe_table.proofs.Ordering.{in_one, one_number, ascends_left, below_left}
use Rattle.stripe_table.proofs.Facts.{SameAt, changed}
use Rattle.stripe_table.proofs.Listed.{indexed_set}
use Rattle.stripe_table.proofs.Steps.{within}
use Rattle.stripe_table.proofs.Settling.{waiter}
use Rattle.stripe_table.proofs.Taking.{filter_agrees, filter_map, split_room, waits_in, left_here}
use Rattle.stripe_table.proofs.Dispatches.{eq_turned}

module _ {A : Type 0} where
  -- what is taken elsewhere leaves what is here, for the elements of a list
  pub filter_spared_in : (q f : A → Bool) (xs : List A) → ((x : A) → IsIn x xs → q x ≡ true → f x ≡ false)
      → filter q (filter (λ x. not (f x)) xs) ≡ filter q xs
  filter_spared_in q f [] off = refl
  filter_spared_in q f (x ∷ xs) off =
      let r = filter_spared_in q f xs (λ y i. off y (inr i)) in
      split_filter (λ y. not (f y)) x xs (λ l. filter q l ≡ filter q (x ∷ xs))
      (λ _. ap (λ l. if q x then x ∷ l else l) r)
      (λ gone. r ∙ sym (cond-false (q x) (x ∷ filter q xs) (filter q xs)
      (false_from_ne_true (q x) (λ h. both_ways (not (f x)) gone (ap not (off x (inl refl) h))))))

  pub many_kept : (f p : A → Bool) (xs : List A) → ((x : A) → IsIn x xs → f x ≡ true → p x ≡ true)
      → how_many f (filter p xs) ≡ how_many f xs
  many_kept f p [] le = refl
  many_kept f p (x ∷ xs) le =
      let r = many_kept f p xs (λ y i. le y (inr i)) in
      split_filter p x xs (λ l. how_many f l ≡ how_many f (x ∷ xs)) (λ _. omega arith)
      (λ gone. let z : one_if (f x) ≡ 0 =
      ap one_if (false_from_ne_true (f x) (λ h. both_ways (p x) gone (le x (inl refl) h))) in omega arith)

  pub any_left : (f p : A → Bool) (xs : List A) → list_any f xs ≡ false → list_any f (filter p xs) ≡ false
  any_left f p [] e = refl
  any_left f p (x ∷ xs) e =
      let a = or_parts (f x) (list_any f xs) e in
      let r = any_left f p xs a.1 in
      split_filter p x xs (λ l. list_any f l ≡ false) (λ _. ap (λ b. b || list_any f (filter p xs)) a.0 ∙ r)
      (λ _. r)

  pub none_in : (f : A → Bool) (xs : List A) → ((x : A) → IsIn x xs → f x ≡ false) → list_any f xs ≡ false
  none_in f [] h = refl
  none_in f (x ∷ xs) h = ap (λ b. b || list_any f xs) (h x (inl refl)) ∙ none_in f xs (λ y i. h y (inr i))

  pub length_left : (p : A → Bool) (xs : List A) → length (filter p xs) ≤ length xs
  length_left p [] = omega arith
  length_left p (x ∷ xs) =
      let r = length_left p xs in
      split_filter p x xs (λ l. length l ≤ length (x ∷ xs)) (λ _. omega arith) (λ _. omega arith)

-- the flags without one
pub flags_without : (key : Key) (fl : List UnaskedFlag)
    → map unasked_of (filter (λ g. not (flag_has key.number g)) fl) ≡ not_asked key (map unasked_of fl)
flags_without key fl =
    ap (map unasked_of)
    (filter_agrees (λ g. not (flag_has key.number g))
    (λ g. not (same_key key (unasked_of g).key)) (λ g. ap not (eq_turned g.key key.number)) fl)
    ∙ sym (filter_map (λ (u : Unasked). not (same_key key u.key)) unasked_of fl)

-- flags of other openings that fired stay, where the one that goes hasn't fired
pub fired_without : (p : Opening) (key : Key) (us : List Unasked)
    → ((u : Unasked) → IsIn u us → u.key.number ≡ key.number → fired_of p u ≡ false)
    → how_many (fired_of p) (not_asked key us) ≡ how_many (fired_of p) us
fired_without p key us off =
    many_kept (fired_of p) (λ (u : Unasked). not (same_key key u.key)) us
    (λ u i h. not_from_false (same_key key u.key) (false_from_ne_true (same_key key u.key)
    (λ e. both_ways (fired_of p u) (off u i (sym (eqb-true key.number u.key.number e))) h)))

-- what is ordered is so without a flag that no waiting registration has
pub ordered_without : (s n : ℕ) (owner : ℕ → Option Opening) (ws : List Registered)
    (us : List Unasked) (key : Key) → IsOrdered s n owner ws us
    → ((w : Registered) → IsIn w ws → is_flag w.kind ≡ true → w.key.number ≢ key.number)
    → IsOrdered s n owner ws (not_asked key us)
ordered_without s n owner ws us key r off = record {
  waits_ascend = r.waits_ascend;
  waits_old = r.waits_old;
  flags_ascend = ascends_left flag_number (λ (u : Unasked). not (same_key key u.key)) us r.flags_ascend;
  flags_old = below_left flag_number (λ (u : Unasked). not (same_key key u.key)) n us r.flags_old;
  within = r.within;
  held = r.held;
  made = λ u i. r.made u (in_filter (λ (v : Unasked). not (same_key key v.key)) u us i).0;
  jobs =
      λ w i e. any_left (flag_at w.key.number) (λ (u : Unasked). not (same_key key u.key)) us (r.jobs w i e);
  waiters =
      λ w i e. in_kept (λ (u : Unasked). not (same_key key u.key)) (waiter w) us (r.waiters w i e)
      (not_from_false (same_key key w.key) (ne_eqb key.number w.key.number (λ h. off w i e (sym h))));
  few =
      let l = length_left (λ (u : Unasked). not (same_key key u.key)) us in
      let f = r.few in omega arith;
}

module _ {T : Type 0} (tag : T → List (List ℕ)) (s : ℕ) (f : Facts) (o : Opening) (d : OpenDescriptor T)
    (fit : FitsOpen tag f o d) (r : AreOrdered s f) (key : Key) (q : Registration T)
    (q_in : IsIn q d.waits) (q_is : q.key ≡ key.number) where
  abbrev k : ℕ
  k = key.number

  abbrev own : Registered → Bool
  own w = number_of w == k

  abbrev w : Registered
  w = registered_of tag o q

  w_in : IsIn w f.waits
  w_in = waits_in tag f o d fit q q_in

  found : filter own f.waits ≡ w ∷ []
  found = in_one number_of k f.waits w r.waits_ascend w_in q_is

  waits_left : without (key ∷ []) f.waits ≡ filter (λ v. not (own v)) f.waits
  waits_left =
      filter_agrees (λ v. not (list_any (λ l. same_key l v.key) (key ∷ []))) (λ v. not (own v))
      (λ v. ap not (or-false (same_key key v.key) ∙ eq_turned k v.key.number)) f.waits

  -- what has the key is the registration
  only : (v : Registered) → IsIn v f.waits → own v ≡ true → v ≡ w
  only v i h = one_number number_of f.waits v w r.waits_ascend i w_in (eqb-true v.key.number k h ∙ sym q_is)

  back_fired : (p : Opening)
      → how_many (fired_of p) (flag_back (kind_of tag q.load) key f.flags) ≡ how_many (fired_of p) f.flags
  back_fired p = by_load q.load refl
    where
      by_load : (load : Payload T) → q.load ≡ load
          → how_many (fired_of p) (flag_back (kind_of tag load) key f.flags) ≡ how_many (fired_of p) f.flags
      by_load (Job x) e = refl
      by_load Flag e =
          fired_without p key f.flags (λ u i is.
          let same_flag = one_number flag_number f.flags u (waiter w) r.flags_ascend i
          (r.waiters w w_in (ap (λ l. is_flag (kind_of tag l)) e)) (is ∙ sym q_is) in
          ap (fired_of p) same_flag ∙ and-false (same p o))

  withdrawn_fits : FitsOpen tag (withdrawn f key (kind_of tag q.load)) o
      (record d { waits = filter (λ x. not (Kept.waits_as k x)) d.waits })
  withdrawn_fits = record {
    owner = fit.owner;
    read = fit.read;
    read_mark = fit.read_mark;
    write = fit.write;
    write_mark = fit.write_mark;
    waits =
        ap (filter (waits_at o.fd)) waits_left ∙ left_here tag f o d fit own (Kept.waits_as k) (λ x. refl);
    outs = fit.outs;
    fired = back_fired o ∙ fit.fired;
    room =
        let a = split_room (Kept.waits_as k) (λ x. false) d.waits in
        let b = fit.room in omega arith;
  }

  withdrawn_else : (fd : ℕ) → fd ≢ o.fd → SameAt f (withdrawn f key (kind_of tag q.load)) fd
  withdrawn_else fd ne = record {
    owner = refl;
    mark = λ p e is. refl;
    bit = λ p e is. refl;
    waits =
        ap (filter (waits_at fd)) waits_left
        ∙ filter_spared_in (waits_at fd) own f.waits (λ v i h. false_from_ne_true (own v)
        (λ t. ne (sym (eqb-true v.opening.fd fd h) ∙ ap (λ (x : Registered). x.opening.fd) (only v i t))));
    outs = refl;
    fired = λ p is. back_fired p;
  }

  fewer : IsOrdered s (next s f) f.owner (filter (λ v. not (own v)) f.waits) f.flags
  fewer = record {
    waits_ascend = ascends_left number_of (λ v. not (own v)) f.waits r.waits_ascend;
    waits_old = below_left number_of (λ v. not (own v)) (next s f) f.waits r.waits_old;
    flags_ascend = r.flags_ascend;
    flags_old = r.flags_old;
    within = r.within;
    held = λ v i. r.held v (in_filter (λ v. not (own v)) v f.waits i).0;
    made = r.made;
    jobs = λ v i e. r.jobs v (in_filter (λ v. not (own v)) v f.waits i).0 e;
    waiters = λ v i e. r.waiters v (in_filter (λ v. not (own v)) v f.waits i).0 e;
    few = r.few;
  }

  withdrawn_ordered : AreOrdered s (withdrawn f key (kind_of tag q.load))
  withdrawn_ordered =
      subst (λ (l : List Registered).
      IsOrdered s (next s f) f.owner l (flag_back (kind_of tag q.load) key f.flags))
      (sym waits_left) (by_load q.load)
    where
      by_load : (load : Payload T)
          → IsOrdered s (next s f) f.owner (filter (λ v. not (own v)) f.waits)
          (flag_back (kind_of tag load) key f.flags)
      by_load (Job x) = fewer
      by_load Flag =
          ordered_without s (next s f) f.owner (filter (λ v. not (own v)) f.waits) f.flags key fewer
          (λ v i e h. both_ways (own v) (not-true (own v) (in_filter (λ v. not (own v)) v f.waits i).1)
          (eq-eqb v.key.number k h))

  ended_is : (fl : List UnaskedFlag) → map unasked_of fl ≡ f.flags
      → map unasked_of (ended (Loads.is_flag q.load) k fl) ≡ flag_back (kind_of tag q.load) key f.flags
  ended_is fl is = by_load q.load
    where
      by_load : (load : Payload T)
          → map unasked_of (ended (Loads.is_flag load) k fl) ≡ flag_back (kind_of tag load) key f.flags
      by_load (Job x) = is
      by_load Flag = flags_without key fl ∙ ap (not_asked key) is

module _ {T : Type 0} (tag : T → List (List ℕ)) where
  -- what is handed back of a load says what the load is
  pub kind_back : (load : Payload T) → kind_of_job tag (Loads.job_of load) ≡ kind_of tag load
  kind_back (Job x) = refl
  kind_back Flag = refl

  pub withdrawn_shows : (st st' : Stripe T) (f : Facts) (place : ℕ)
      (d d' : OpenDescriptor T) (key : Key) (q : Registration T)
      → Shows tag f st → slice_get st.descriptors.items place ≡ Some (Some d) → IsIn q d.waits
      → q.key ≡ key.number
      → d' ≡ record d { waits = filter (λ x. not (Kept.waits_as key.number x)) d.waits }
      → st'.stripe ≡ st.stripe → st'.count ≡ st.count
      → st'.descriptors.items ≡ set st.descriptors.items place (Some d')
      → st'.flags ≡ ended (Loads.is_flag q.load) key.number st.flags
      → KeepsOthers place st.index st'.index → ListsAll st'.index place d'.waits
      → Shows tag (withdrawn f key (kind_of tag q.load)) st'
  withdrawn_shows st st' f place d d' key q r at q_in q_is d_is stripe count items flags others here =
      let c = r.count in
      let o : Opening = opening d.number (32 * place + st.stripe) in
      let fit : FitsOpen tag f o d = r.table.each place (Some d) at in
      changed tag st st' f (withdrawn f key (kind_of tag q.load)) o.fd place
      (Some (record d { waits = filter (λ x. not (Kept.waits_as key.number x)) d.waits })) r refl
      (withdrawn_fits tag st.stripe f o d fit r.ordered key q q_in q_is)
      (withdrawn_else tag st.stripe f o d fit r.ordered key q q_in q_is)
      (withdrawn_ordered tag st.stripe f o d fit r.ordered key q q_in q_is) stripe (c ∙ sym count)
      (items ∙ ap (λ (x : OpenDescriptor T). set st.descriptors.items place (Some x)) d_is)
      (ap (map unasked_of) flags
      ∙ ended_is tag st.stripe f o d fit r.ordered key q q_in q_is st.flags r.table.unasked)
      (indexed_set st.index st'.index st.descriptors.items place
      (Some (record d { waits = filter (λ x. not (Kept.waits_as key.number x)) d.waits }))
      r.table.many r.index others
      (λ x is k h. here k (ap (λ (z : OpenDescriptor T). list_any (Kept.waits_as k) z.waits) (d_is
      ∙ same_Some (record d { waits = filter (λ y. not (Kept.waits_as key.number y)) d.waits }) x is) ∙ h)))

  module _ (st : Stripe T) (past : List Entry) (r : ShowsPast tag past st) (key : Key) where
    pub right_back : (place : ℕ) (d : OpenDescriptor T) (q : Registration T) (job : Option T)
        → slice_get st.descriptors.items place ≡ Some (Some d) → IsIn q d.waits → q.key ≡ key.number
        → job ≡ Loads.job_of q.load
        → Withdraw key (Withdraws.Back (kind_of_job tag job))
        ≡ reply_of st.stripe st.first past (Withdraw key (Withdraws.Back (kind_of_job tag job)))
    right_back place d q job at q_in q_is job_is =
        ap (Withdraw key) (ap Withdraws.Back (ap (kind_of_job tag) job_is ∙ kind_back q.load)
        ∙ sym (ap first_back
        (found tag st.stripe (facts_of st.stripe st.first past) (opening d.number (32 * place + st.stripe)) d
        (r.table.each place (Some d) at) r.ordered key q q_in q_is)))

    -- a key that waits nowhere in the table doesn't wait
    pub right_gone : ((i : ℕ) (d : OpenDescriptor T) → slice_get st.descriptors.items i ≡ Some (Some d)
        → list_any (Kept.waits_as key.number) d.waits ≡ false)
        → Withdraw key Withdraws.Gone ≡ reply_of st.stripe st.first past (Withdraw key Withdraws.Gone)
    right_gone absent =
        ap (Withdraw key)
        (sym (ap first_back (none_passes (λ (w : Registered). number_of w == key.number) (waiting past)
        (none_in (λ (w : Registered). number_of w == key.number) (waiting past) (λ w i. false_from_ne_true
        (number_of w == key.number) (λ h. nowhere w i (eqb-true w.key.number key.number h)))))))
      where
        nowhere : (w : Registered) → IsIn w (waiting past) → w.key.number ≡ key.number → ⊥
        nowhere w i is = by_kept x.0 x.1
          where
            own : owner_of past w.opening.fd ≡ Some w.opening
            own = r.ordered.held w i

            place : ℕ
            place = w.opening.fd / 32

            fd_is : w.opening.fd ≡ 32 * (w.opening.fd / 32) + st.stripe
            fd_is =
                let a = r.ordered.within w.opening.fd w.opening own in
                let of = a.2 in omega arith

            x : (x : Option (OpenDescriptor T))
                × (slice_get st.descriptors.items (w.opening.fd / 32) ≡ Some x)
            x =
                let a = r.ordered.within w.opening.fd w.opening own in
                let low = a.1 in
                let many = r.table.many in
                within st.descriptors.items (w.opening.fd / 32) (omega arith)

            by_kept : (x : Option (OpenDescriptor T))
                → slice_get st.descriptors.items (w.opening.fd / 32) ≡ Some x → ⊥
            by_kept None at =
                none-some w.opening
                (sym (subst (λ (n : ℕ). owner_of past n ≡ None) (sym fd_is)
                (r.table.each (w.opening.fd / 32) None at).owner)
                ∙ own)
            by_kept (Some d) at = let fit = r.table.each (w.opening.fd / 32) (Some d) at in
                let here = in_kept (waits_at (32 * (w.opening.fd / 32) + st.stripe)) w (waiting past) i
                (eq-eqb w.opening.fd (32 * (w.opening.fd / 32) + st.stripe) fd_is) in
                let q = map_in (registered_of tag (opening d.number (32 * (w.opening.fd / 32) + st.stripe)))
                w d.waits (subst (λ (l : List Registered). IsIn w l) fit.waits here) in
                both_ways (list_any (Kept.waits_as key.number) d.waits) (absent (w.opening.fd / 32) d at)
                (in_some (Kept.waits_as key.number) q.0 d.waits q.1
                (eq-eqb q.0.key key.number (sym (ap (λ (v : Registered). v.key.number) q.2) ∙ is)))

-- a list with an element that passes isn't emptied
pub not_emptied : {A : Type 0} (f : A → Bool) (xs : List A) → list_any f xs ≡ true → filter f xs ≡ [] → ⊥
not_emptied f xs e none = let a = some_in f xs e in subst (λ l. IsIn a.0 l) none (in_kept f a.0 xs a.1 a.2)
