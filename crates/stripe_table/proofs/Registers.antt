-- A registration in the table is what the definitions say of it.
use Rattle.std.proofs.Common.{◌≡◌, ℕ, ◌+◌, ◌*◌, ◌≤◌, ◌<◌, ◌≢◌, inl, inr, ⊎_elim, List, [], ◌∷◌, ◌++◌, map}
use Rattle.std.proofs.Common.{length, set, true, false, Bool, sym, refl, ap, ◌∙◌, subst, arith, length-append}
use Rattle.std.proofs.Common.{◌%◌}
use Rattle.std.specs.Prelude.{Option, Some, None, filter, not, ◌||◌, ◌&&◌, ◌==◌, slice_get, nat_le}
use Rattle.std.specs.List.{list_any}
use Rattle.std.proofs.lemmas.Bool.{both_ways, cond-true, cond-false, eq-eqb, eqb-true, ne_eqb, leb-false}
use Rattle.std.proofs.lemmas.Bool.{or_parts, false_from_ne_true}
use Rattle.std.proofs.lemmas.List.{append-nil, length-map, map-append}
use Rattle.std.proofs.lemmas.Option.{same_Some}
use Rattle.std.proofs.lemmas.List.Elements.{filter-append}
use Rattle.std.proofs.Math.Bool.{and-false}
use Rattle.reg_keys.specs.declared.opening.Opening.{Opening}
use Rattle.reg_keys.specs.declared.event.EventName.{EventName}
use Rattle.reg_keys.specs.declared.registration.Key.{Key}
use Rattle.reg_keys.specs.declared.registration.Dir.{Dir}
use Rattle.reg_keys.specs.declared.registration.Dir.TheVariants.{Read, Write}
use Rattle.reg_keys.specs.declared.entry.LoadKind.{LoadKind}
use Rattle.reg_keys.specs.declared.entry.LoadKind.TheVariants as Kinds
use Rattle.reg_keys.specs.declared.entry.RegisterOutcome.TheVariants as Registers
use Rattle.reg_keys.specs.declared.entry.Entry.{Entry}
use Rattle.reg_keys.specs.declared.entry.Entry.TheVariants.{Register}
use Rattle.reg_keys.specs.Tests.{same, same_dir, how_many, one_if, IsIn}
use Rattle.reg_keys.specs.Histories.{next_number, is_live, names_mark, Registered, waiting, Unasked, unasked}
use Rattle.reg_keys.specs.Histories.{StillWaits, flag_made}
use Rattle.reg_keys.specs.Replies.{is_spent, is_flag, is_crowded, places_taken, reply_of}
use Rattle.reg_keys.specs.ListLaws.{same_self, many_append, in_append, in_one, split_filter}
use Rattle.stripe_table.specs.Calls.{kind_of}
use Rattle.stripe_table.specs.Facts.{Facts, facts_of, next, waits_at, fired_of, number_of, flag_number}
use Rattle.stripe_table.specs.Facts.{flag_at, event_of, with_event, registered}
use Rattle.stripe_table.specs.Represents.{registered_of, FitsOpen, Shows, unasked_of, IsOrdered, AreOrdered}
use Rattle.stripe_table.specs.Flags.{begun}
use Rattle.stripe_table.specs.Index.{IsListed}
use Rattle.stripe_table.specs.Loads as Loads
use Rattle.stripe_table.specs.Descriptors as Kept
use Rattle.stripe_table.specs.declared.load.Payload.{Payload}
use Rattle.stripe_table.specs.declared.load.Payload.TheVariants.{Job, Flag}
use Rattle.stripe_table.specs.declared.descriptor.Registration.{Registration}
use Rattle.stripe_table.specs.declared.descriptor.OpenDescriptor.{OpenDescriptor}
use Rattle.stripe_table.specs.declared.flags.UnaskedFlag.{UnaskedFlag}
use Rattle.stripe_table.specs.declared.stripe.Stripe.{Stripe}
use Rattle.stripe_table.proofs.Facts.{SameAt, ordered_more, fits_here, changed}
use Rattle.stripe_table.proofs.Listed.{indexed_set, any_last}
use Rattle.stripe_table.proofs.Naming.{other_fd, same_parts}
use Rattle.stripe_table.proofs.Steps.{picked, passed}
use Rattle.stripe_table.proofs.Ordering.{ascends_last, below_last, below_in, none_new}

-- the bit of the direction that the registration names, and of the other one
tried_bit : (b n n' bit ready : Bool) → b ≡ true → n ≡ n' → bit ≡ ready
    → (not ((b && true) && n) && bit) ≡ (not n' && ready)
tried_bit true n n' bit ready e is same = λ i. not (is i) && same i
tried_bit false n n' bit ready e is same = absurd (both_ways false refl e)

other_bit : (b n bit ready : Bool) → b ≡ true → bit ≡ ready → (not ((b && false) && n) && bit) ≡ ready
other_bit true n bit ready e same = same
other_bit false n bit ready e same = absurd (both_ways false refl e)

kept_bit : (b d n bit : Bool) → b ≡ false → (not ((b && d) && n) && bit) ≡ bit
kept_bit false d n bit e = refl
kept_bit true d n bit e = absurd (both_ways true e refl)

module _ (o : Opening) (key : Key) where
  -- a flag that begins to wait hasn't fired
  fired_begun : (p : Opening) (kind : LoadKind) (us : List Unasked)
      → how_many (fired_of p) (flag_made kind key o us) ≡ how_many (fired_of p) us
  fired_begun p (Kinds.Job tag) us = refl
  fired_begun p Kinds.Flag us =
      let u : Unasked = record { key = key; opening = o; standing = StillWaits } in
      let off : fired_of p u ≡ false = and-false (same p o) in
      let z : one_if (fired_of p u) ≡ 0 = ap one_if off in
      let m = many_append (fired_of p) us (u ∷ []) in omega arith

module _ {T : Type 0} (tag : T → List (List ℕ)) where
  kept_waits : (f : Facts) (o : Opening) (d : OpenDescriptor T)
      (n : ℕ) (dir : Dir) (m : Option ℕ) (load : Payload T)
      → FitsOpen tag f o d
      → filter (waits_at o.fd)
      (f.waits ++ registered_of tag o (record { key = n; dir = dir; load = load }) ∷ [])
      ≡ map (registered_of tag o) (d.waits ++ record { key = n; dir = dir; load = load } ∷ [])
  kept_waits f o d n dir m load fit =
      let w : Registered = registered_of tag o (record { key = n; dir = dir; load = load }) in
      filter-append (waits_at o.fd) f.waits (w ∷ [])
      ∙ (ap (λ (l : List Registered). l ++ filter (waits_at o.fd) (w ∷ [])) fit.waits
      ∙ (ap (λ (l : List Registered). map (registered_of tag o) d.waits ++ l)
      (cond-true (o.fd == o.fd) (w ∷ []) [] (eq-eqb o.fd o.fd refl))
      ∙ sym (map-append (registered_of tag o) d.waits (record { key = n; dir = dir; load = load } ∷ []))))

  registered_fits : (f : Facts) (o : Opening) (d : OpenDescriptor T)
      (n : ℕ) (dir : Dir) (m : Option ℕ) (load : Payload T)
      → length d.waits + d.fired < 4 → FitsOpen tag f o d
      → FitsOpen tag (registered f o dir m (kind_of tag load) (record { number = n })) o
      (Kept.registered d n dir m load)
  registered_fits f o d n Read m load room fit = record {
    owner = fit.owner;
    read =
        tried_bit (same o o) (names_mark (f.mark o Read) m) (names_mark d.read.mark m)
        (f.bit o Read) d.read.ready (same_self o) (ap (λ (k : ℕ). names_mark k m) fit.read_mark) fit.read;
    read_mark = fit.read_mark;
    write =
        other_bit (same o o) (names_mark (f.mark o Read) m) (f.bit o Write) d.write.ready
        (same_self o) fit.write;
    write_mark = fit.write_mark;
    waits = kept_waits f o d n Read m load fit;
    outs = fit.outs;
    fired = fired_begun o (record { number = n }) o (kind_of tag load) f.flags ∙ fit.fired;
    room = let l = length-append d.waits (record { key = n; dir = Read; load = load } ∷ []) in omega arith;
  }
  registered_fits f o d n Write m load room fit = record {
    owner = fit.owner;
    read =
        other_bit (same o o) (names_mark (f.mark o Write) m) (f.bit o Read) d.read.ready
        (same_self o) fit.read;
    read_mark = fit.read_mark;
    write =
        tried_bit (same o o) (names_mark (f.mark o Write) m) (names_mark d.write.mark m)
        (f.bit o Write) d.write.ready (same_self o) (ap (λ (k : ℕ). names_mark k m) fit.write_mark) fit.write;
    write_mark = fit.write_mark;
    waits = kept_waits f o d n Write m load fit;
    outs = fit.outs;
    fired = fired_begun o (record { number = n }) o (kind_of tag load) f.flags ∙ fit.fired;
    room = let l = length-append d.waits (record { key = n; dir = Write; load = load } ∷ []) in omega arith;
  }

registered_else : (f : Facts) (o : Opening) (dir : Dir) (m : Option ℕ) (kind : LoadKind) (key : Key) (fd : ℕ)
    → fd ≢ o.fd → SameAt f (registered f o dir m kind key) fd
registered_else f o dir m kind key fd ne = record {
  owner = refl;
  mark = λ p e is. refl;
  bit =
      λ p e is. kept_bit (same o p) (same_dir dir e) (names_mark (f.mark o dir) m) (f.bit p e)
      (other_fd o p (λ q. ne (sym (q ∙ is))));
  waits =
      filter-append (waits_at fd) f.waits _
      ∙ (ap (λ (l : List Registered). filter (waits_at fd) f.waits ++ l)
      (cond-false (o.fd == fd) _ [] (ne_eqb o.fd fd (λ e. ne (sym e)))) ∙ append-nil _);
  outs = refl;
  fired = λ p is. fired_begun o key p kind f.flags;
}

-- the room that a registration finds which isn't crowded
module _ {T : Type 0} (load : Payload T) (taken flags : ℕ)
    (free : (nat_le 4 taken || (Loads.is_flag load && nat_le 512 flags)) ≡ false) where
  pub room_left : taken < 4
  room_left = leb-false 4 taken (or_parts (nat_le 4 taken) (Loads.is_flag load && nat_le 512 flags) free).0

  pub flag_room : Loads.is_flag load ≡ true → flags < 512
  flag_room e =
      leb-false 512 flags (ap (λ b. b && nat_le 512 flags) (sym e)
      ∙ (or_parts (nat_le 4 taken) (Loads.is_flag load && nat_le 512 flags) free).1)

-- a registration keeps what is ordered
module _ (s n : ℕ) (owner : ℕ → Option Opening) (waits : List Registered) (flags : List Unasked) (o : Opening)
    (dir : Dir) (r : IsOrdered s n owner waits flags) (own : owner o.fd ≡ Some o) where
  abbrev key : Key
  key = record { number = n }

  abbrev more : LoadKind → List Registered
  more kind = waits ++ record { key = key; opening = o; dir = dir; kind = kind } ∷ []

  held_more : (kind : LoadKind) (w : Registered) → IsIn w (more kind) → owner w.opening.fd ≡ Some w.opening
  held_more kind w i =
      ⊎_elim (λ j. r.held w j) (λ j. let is =
      in_one w (record { key = key; opening = o; dir = dir; kind = kind }) j in
      subst (λ (v : Registered). owner v.opening.fd ≡ Some v.opening) (sym is) own)
      (in_append w waits _ i)

  is_new : (kind : LoadKind) (w : Registered)
      → IsIn w (record { key = key; opening = o; dir = dir; kind = kind } ∷ [])
      → w ≡ record { key = key; opening = o; dir = dir; kind = kind }
  is_new kind w j = in_one w (record { key = key; opening = o; dir = dir; kind = kind }) j

  within_more : (m : ℕ) → n ≤ m → (fd : ℕ) (p : Opening) → owner fd ≡ Some p
      → (p.fd ≡ fd) × (fd < 4096) × (fd % 32 ≡ s) × (p.number < m)
  within_more m le fd p e =
      let a = r.within fd p e in
      let old = a.3 in (a.0, a.1, a.2, omega arith)

  pub with_job : (tag : List (List ℕ)) (m : ℕ) → n < m → IsOrdered s m owner (more (Kinds.Job tag)) flags
  with_job tag m lt = let up = ordered_more s n m owner waits flags (omega arith) r in record {
    waits_ascend =
        ascends_last number_of waits
        (record { key = key; opening = o; dir = dir; kind = Kinds.Job tag }) r.waits_ascend r.waits_old;
    waits_old =
        below_last number_of m waits
        (record { key = key; opening = o; dir = dir; kind = Kinds.Job tag }) up.waits_old lt;
    flags_ascend = r.flags_ascend;
    flags_old = up.flags_old;
    within = within_more m (omega arith);
    held = held_more (Kinds.Job tag);
    made = up.made;
    jobs =
        λ w i job. ⊎_elim (λ j. r.jobs w j job) (λ j.
        subst (λ (v : Registered). list_any (flag_at v.key.number) flags ≡ false)
        (sym (is_new (Kinds.Job tag) w j)) (none_new flag_number n flags r.flags_old))
        (in_append w waits _ i);
    waiters =
        λ w i flag. ⊎_elim (λ j. r.waiters w j flag) (λ j. absurd (both_ways false refl
        (ap (λ (v : Registered). is_flag v.kind) (sym (is_new (Kinds.Job tag) w j)) ∙ flag)))
        (in_append w waits _ i);
    few = r.few;
  }

  abbrev flag : Unasked
  flag = record { key = key; opening = o; standing = StillWaits }

  in_more : (u : Unasked) → IsIn u flags → IsIn u (flags ++ flag ∷ [])
  in_more u i = go flags i
    where
      go : (us : List Unasked) → IsIn u us → IsIn u (us ++ flag ∷ [])
      go [] i = absurd i
      go (v ∷ vs) i = ⊎_elim (λ e. inl e) (λ j. inr (go vs j)) i

  in_last : (us : List Unasked) → IsIn flag (us ++ flag ∷ [])
  in_last [] = inl refl
  in_last (v ∷ vs) = inr (in_last vs)

  not_more : (k : ℕ) → k < n → list_any (flag_at k) flags ≡ false
      → list_any (flag_at k) (flags ++ flag ∷ []) ≡ false
  not_more k lt e = go flags e
    where
      go : (us : List Unasked) → list_any (flag_at k) us ≡ false
          → list_any (flag_at k) (us ++ flag ∷ []) ≡ false
      go [] e = ap (λ b. b || false) (ne_eqb n k (λ h. omega arith))
      go (v ∷ vs) e =
          let a = or_parts (flag_at k v) (list_any (flag_at k) vs) e in
          ap (λ b. b || list_any (flag_at k) (vs ++ flag ∷ [])) a.0 ∙ go vs a.1

  pub with_flag : (m : ℕ) → n < m → length flags < 512
      → IsOrdered s m owner (more Kinds.Flag) (flags ++ flag ∷ [])
  with_flag m lt room =
      let up = ordered_more s n m owner waits flags (omega arith) r in
      let l = length-append flags (flag ∷ []) in
      record {
        waits_ascend =
            ascends_last number_of waits
            (record { key = key; opening = o; dir = dir; kind = Kinds.Flag }) r.waits_ascend r.waits_old;
        waits_old =
            below_last number_of m waits
            (record { key = key; opening = o; dir = dir; kind = Kinds.Flag }) up.waits_old lt;
        flags_ascend = ascends_last flag_number flags flag r.flags_ascend r.flags_old;
        flags_old = below_last flag_number m flags flag up.flags_old lt;
        within = within_more m (omega arith);
        held = held_more Kinds.Flag;
        made =
            λ u i. ⊎_elim (λ j. up.made u j) (λ j.
            let a = r.within o.fd o own in
            let old = a.3 in
            subst (λ (v : Unasked). (v.opening.number < m) × (v.opening.fd % 32 ≡ s)) (sym (in_one u flag j))
            (omega arith, a.2)) (in_append u flags _ i);
        jobs =
            λ w i job. ⊎_elim (λ j.
            not_more w.key.number (below_in number_of n waits w r.waits_old j) (r.jobs w j job)) (λ j. absurd
            (both_ways true
            (ap (λ (v : Registered). is_flag v.kind) (sym (is_new Kinds.Flag w j)) ∙ job) refl))
            (in_append w waits _ i);
        waiters =
            λ w i e. ⊎_elim (λ j. in_more _ (r.waiters w j e)) (λ j. subst (λ (v : Registered).
            IsIn (record { key = v.key; opening = v.opening; standing = StillWaits }) (flags ++ flag ∷ []))
            (sym (is_new Kinds.Flag w j)) (in_last flags)) (in_append w waits _ i);
        few = omega arith;
      }

module _ {T : Type 0} (tag : T → List (List ℕ)) where
  registered_ordered : (s : ℕ) (f : Facts) (o : Opening) (dir : Dir) (m : Option ℕ) (load : Payload T)
      → AreOrdered s f → f.owner o.fd ≡ Some o → (Loads.is_flag load ≡ true → length f.flags < 512)
      → AreOrdered s (registered f o dir m (kind_of tag load) (record { number = next s f }))
  registered_ordered s f o dir m (Job x) r own room =
      with_job s (next s f) f.owner f.waits f.flags o dir r own (tag x) (32 * (f.count + 1) + s) (omega arith)
  registered_ordered s f o dir m Flag r own room =
      with_flag s (next s f) f.owner f.waits f.flags o dir r own (32 * (f.count + 1) + s)
      (omega arith) (room refl)

  begun_is : (n : ℕ) (o : Opening) (load : Payload T) (flags : List UnaskedFlag) (us : List Unasked)
      → map unasked_of flags ≡ us → map unasked_of (begun (Loads.is_flag load) n o flags)
      ≡ flag_made (kind_of tag load) (record { number = n }) o us
  begun_is n o (Job x) flags us is = is
  begun_is n o Flag flags us is =
      map-append unasked_of flags _
      ∙ ap (λ (l : List Unasked).
      l ++ record { key = record { number = n }; opening = o; standing = StillWaits } ∷ []) is

  pub registered_shows : (st st' : Stripe T) (f : Facts) (o : Opening) (place n : ℕ)
      (d d' : OpenDescriptor T) (dir : Dir) (m : Option ℕ) (load : Payload T)
      → Shows tag f st → slice_get st.descriptors.items place ≡ Some (Some d) → d.number ≡ o.number
      → o.fd ≡ 32 * place + st.stripe
      → n ≡ 32 * st.count + st.stripe → length d.waits + d.fired < 4
      → (Loads.is_flag load ≡ true → length st.flags < 512)
      → d' ≡ Kept.registered d n dir m load → st'.stripe ≡ st.stripe → st'.count ≡ st.count + 1
      → st'.descriptors.items ≡ set st.descriptors.items place (Some d')
      → st'.flags ≡ begun (Loads.is_flag load) n o st.flags
      → ((k p : ℕ) → IsListed st.index k p → IsListed st'.index k p) → IsListed st'.index n place
      → Shows tag (registered f o dir m (kind_of tag load) (record { number = next st.stripe f })) st'
  registered_shows st st' f o place n d d' dir m load r at number fd
      n_is room flag_room d_is stripe count items flags listed new =
      let c = r.count in
      let n_next : n ≡ next st.stripe f = omega arith in
      let kept : OpenDescriptor T = Kept.registered d (next st.stripe f) dir m load in
      let fit : FitsOpen tag f o d = fits_here tag st f o place d r at number fd in
      let g : Facts = registered f o dir m (kind_of tag load) (record { number = next st.stripe f }) in
      let few : length f.flags ≡ length st.flags =
      ap length (sym r.table.unasked) ∙ length-map st.flags unasked_of in
      let kept_number : kept.number ≡ o.number = number_same dir ∙ number in
      changed tag st st' f g o.fd place (Some kept) r fd
      (subst (λ (p : Opening). FitsOpen tag g p kept) (λ i. record { number = sym kept_number i; fd = o.fd })
      (registered_fits tag f o d (next st.stripe f) dir m load room fit))
      (registered_else f o dir m (kind_of tag load) (record { number = next st.stripe f }))
      (registered_ordered st.stripe f o dir m load r.ordered fit.owner (λ e. let a =
      flag_room e in omega arith)) stripe (omega arith)
      (items ∙ (ap (λ (x : OpenDescriptor T). set st.descriptors.items place (Some x)) d_is
      ∙ ap (λ (k : ℕ). set st.descriptors.items place (Some (Kept.registered d k dir m load))) n_next))
      (ap (map unasked_of) flags ∙ (begun_is n o load st.flags f.flags r.table.unasked
      ∙ ap (λ (k : ℕ). flag_made (kind_of tag load) (record { number = k }) o f.flags) n_next))
      (indexed_set st.index st'.index st.descriptors.items place (Some kept) r.table.many r.index
      (λ k p low ne h. listed k p h)
      (λ x is k h.
      ⊎_elim (λ (old : list_any (Kept.waits_as k) d.waits ≡ true). listed k place (r.index place d at k old))
      (λ (own : (next st.stripe f == k) ≡ true).
      subst (λ (q : ℕ). IsListed st'.index q place) (n_next ∙ eqb-true (next st.stripe f) k own) new)
      (any_last (Kept.waits_as k) d.waits (record { key = next st.stripe f; dir = dir; load = load })
      (ap (λ (z : OpenDescriptor T). list_any (Kept.waits_as k) z.waits) (same_Some kept x is) ∙ h))))
    where
      number_same : (e : Dir) → (Kept.registered d (next st.stripe f) e m load).number ≡ d.number
      number_same Read = refl
      number_same Write = refl

  -- what is taken of the places of an opening
  many_there : {A : Type 0} (h p : A → Bool) → ((x : A) → h x ≡ true → p x ≡ true) → (xs : List A)
      → how_many h xs ≡ how_many h (filter p xs)
  many_there h p le [] = refl
  many_there h p le (x ∷ xs) =
      let e = many_there h p le xs in
      split_filter p x xs (λ l. how_many h (x ∷ xs) ≡ how_many h l) (λ _. omega arith)
      (λ gone. let z : one_if (h x) ≡ 0 =
      ap one_if (false_from_ne_true (h x) (λ t. both_ways (p x) gone (le x t))) in omega arith)

  all_own : (o : Opening) (rs : List (Registration T))
      → how_many (λ (w : Registered). same o w.opening) (map (registered_of tag o) rs) ≡ length rs
  all_own o [] = refl
  all_own o (x ∷ xs) =
      let e = all_own o xs in
      let one : one_if (same o o) ≡ 1 = ap one_if (same_self o) in
      omega arith

  module _ (s c : ℕ) (past : List Entry) (o : Opening) (d : OpenDescriptor T)
      (fit : FitsOpen tag (facts_of s c past) o d) where
    taken_is : places_taken past o ≡ length d.waits + d.fired
    taken_is =
        let e = many_there (λ (w : Registered). same o w.opening) (waits_at o.fd)
        (λ w h. eq-eqb w.opening.fd o.fd (sym (same_parts o w.opening h).1)) (waiting past)
        ∙ (ap (how_many (λ (w : Registered). same o w.opening)) fit.waits ∙ all_own o d.waits) in
        let x = fit.fired in
        omega arith

    flag_is : (load : Payload T) → is_flag (kind_of tag load) ≡ Loads.is_flag load
    flag_is (Job x) = refl
    flag_is Flag = refl

    pub crowded_is : (load : Payload T) (flags : List UnaskedFlag) → map unasked_of flags ≡ unasked past
        → is_crowded past o (kind_of tag load)
        ≡ (nat_le 4 (length d.waits + d.fired) || (Loads.is_flag load && nat_le 512 (length flags)))
    crowded_is load flags is =
        let few : length (unasked past) ≡ length flags = ap length (sym is) ∙ length-map flags unasked_of in
        λ i. nat_le 4 (taken_is i) || (flag_is load i && nat_le 512 (few i))

module _ (s c : ℕ) (past : List Entry) (o : Opening) (dir : Dir) (m : Option ℕ) (kind : LoadKind) where
  abbrev key_now : Key
  key_now = record { number = next_number s c past }

  pub facts_registered : (e : Option EventName)
      → facts_of s c (Register o dir m kind (Registers.Waits key_now e) ∷ past)
      ≡ with_event (registered (facts_of s c past) o dir m kind key_now) e
  facts_registered None = refl
  facts_registered (Some e) = refl

  pub right_shut : is_live past o ≡ false
      → Register o dir m kind Registers.Shut ≡ reply_of s c past (Register o dir m kind Registers.Shut)
  right_shut e = ap (Register o dir m kind) (picked (not (is_live past o)) _ _ (ap not e))

  pub right_crowded : is_live past o ≡ true → is_crowded past o kind ≡ true
      → Register o dir m kind Registers.Crowded ≡ reply_of s c past (Register o dir m kind Registers.Crowded)
  right_crowded live e =
      ap (Register o dir m kind)
      (picked (is_crowded past o kind) _ _ e ∙ passed (not (is_live past o)) _ _ (ap not live))

  pub right_spent : is_live past o ≡ true → is_crowded past o kind ≡ false → is_spent c past ≡ true
      → Register o dir m kind Registers.Spent ≡ reply_of s c past (Register o dir m kind Registers.Spent)
  right_spent live free e =
      ap (Register o dir m kind) (picked (is_spent c past) _ _ e
      ∙ (passed (is_crowded past o kind) _ _ free ∙ passed (not (is_live past o)) _ _ (ap not live)))

  pub right_waits : (n : ℕ) (e : Option EventName) → n ≡ next_number s c past
      → is_live past o ≡ true → is_crowded past o kind ≡ false → is_spent c past ≡ false
      → e ≡ event_of s (registered (facts_of s c past) o dir m kind key_now) o
      → Register o dir m kind (Registers.Waits (record { number = n }) e)
      ≡ reply_of s c past (Register o dir m kind (Registers.Waits (record { number = n }) e))
  right_waits n e n_is live free room is =
      ap (Register o dir m kind) ((λ i. Registers.Waits (record { number = n_is i }) (is i))
      ∙ (passed (is_spent c past) _ _ room
      ∙ (passed (is_crowded past o kind) _ _ free ∙ passed (not (is_live past o)) _ _ (ap not live))))

pub number_kept : {T : Type 0} (d : OpenDescriptor T) (n : ℕ) (dir : Dir) (m : Option ℕ) (load : Payload T)
    → (Kept.registered d n dir m load).number ≡ d.number
number_kept d n Read m load = refl
number_kept d n Write m load = refl
