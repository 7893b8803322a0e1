-- What a flag's owner is told is what the definitions say.
use Rattle.std.proofs.Common.{◌≡◌, ℕ, ◌+◌, ◌-◌, ◌*◌, ◌/◌, ◌<◌, ◌≢◌, inl, ⊎_elim, List, [], ◌∷◌, map, set}
use Rattle.std.proofs.Common.{true, false, Bool, sym, refl, ap, ◌∙◌, subst, arith, length-set}
use Rattle.std.specs.Prelude.{Option, Some, None, filter, not, ◌&&◌, ◌==◌, slice_get}
use Rattle.std.proofs.lemmas.Bool.{both_ways, and_from, cond-true, cond-false, eqb-true, eq-eqb, ne_eqb}
use Rattle.std.proofs.lemmas.Bool.{cases_Bool, false_from_ne_true}
use Rattle.std.proofs.lemmas.Option.{same_Some, none-some}
use Rattle.std.proofs.Math.Bool.{and-false}
use Rattle.reg_keys.specs.declared.opening.Opening.{Opening}
use Rattle.reg_keys.specs.declared.registration.Key.{Key}
use Rattle.reg_keys.specs.declared.entry.AskOutcome.{AskOutcome}
use Rattle.reg_keys.specs.declared.entry.AskOutcome.TheVariants as Asks
use Rattle.reg_keys.specs.declared.entry.Entry.{Entry}
use Rattle.reg_keys.specs.declared.entry.Entry.TheVariants.{Ask}
use Rattle.reg_keys.specs.Tests.{same, same_key, how_many, one_if, IsIn}
use Rattle.reg_keys.specs.Histories.{Unasked, unasked, Standing, StillWaits, HasRun, WasShut, is_fired}
use Rattle.reg_keys.specs.Histories.{not_asked}
use Rattle.reg_keys.specs.Replies.{first_told, reply_of}
use Rattle.reg_keys.specs.ListLaws.{same_self, in_filter, in_some, in_map, many_some}
use Rattle.stripe_table.specs.Ascending.{Ascends}
use Rattle.stripe_table.specs.Facts.{Facts, next, fired_of, flag_number, told}
use Rattle.stripe_table.specs.Represents.{opening, FitsOpen, FitsAt, FitsTable, Shows, ShowsPast, unasked_of}
use Rattle.stripe_table.specs.Represents.{standing_of, AreOrdered}
use Rattle.stripe_table.specs.Flags.{flag_has}
use Rattle.stripe_table.specs.Index.{IsIndexed}
use Rattle.stripe_table.specs.declared.descriptor.OpenDescriptor.{OpenDescriptor}
use Rattle.stripe_table.specs.declared.flags.UnaskedFlag.{UnaskedFlag}
use Rattle.stripe_table.specs.declared.stripe.Stripe.{Stripe}
use Rattle.stripe_table.proofs.Ordering.{above_in, one_number}
use Rattle.turn_cell.specs.ListLaws.{get_set}
use Rattle.stripe_table.proofs.Listed.{indexed_kept}
use Rattle.stripe_table.proofs.Naming.{same_parts}
use Rattle.stripe_table.proofs.Settling.{waiter}
use Rattle.stripe_table.proofs.Taking.{filter_map}
use Rattle.stripe_table.proofs.Withdraws.{fired_without, ordered_without, flags_without}

-- the flag that goes was one that fired
one_less : (p : Opening) (key : Key) (u : Unasked) (us : List Unasked)
    → Ascends flag_number us → IsIn u us → u.key.number ≡ key.number → fired_of p u ≡ true
    → how_many (fired_of p) (not_asked key us) + 1 ≡ how_many (fired_of p) us
one_less p key u [] a i is h = absurd i
one_less p key u (v ∷ vs) a i is h = ⊎_elim
    (λ (e : u ≡ v).
    let gone : same_key key v.key ≡ true =
    eq-eqb key.number v.key.number (sym is ∙ ap (λ (x : Unasked). x.key.number) e) in
    let one : one_if (fired_of p v) ≡ 1 = ap one_if (ap (fired_of p) (sym e) ∙ h) in
    let rest : how_many (fired_of p) (not_asked key (v ∷ vs))
    ≡ how_many (fired_of p) (not_asked key vs) = ap (how_many (fired_of p))
    (cond-false (not (same_key key v.key)) (v ∷ not_asked key vs) (not_asked key vs) (ap not gone)) in
    let same_rest = fired_without p key vs (λ x j e2.
    let lt = above_in flag_number v.key.number vs x a.0 j in
    let e3 = ap (λ (x : Unasked). x.key.number) e in
    absurd (omega arith)) in
    omega arith)
    (λ j.
    let lt = above_in flag_number v.key.number vs u a.0 j in
    let r = one_less p key u vs a.1 j is h in
    let kept : same_key key v.key ≡ false = ne_eqb key.number v.key.number (λ e. omega arith) in
    let rest : how_many (fired_of p) (not_asked key (v ∷ vs))
    ≡ one_if (fired_of p v) + how_many (fired_of p) (not_asked key vs) = ap (how_many (fired_of p))
    (cond-true (not (same_key key v.key)) (v ∷ not_asked key vs) (not_asked key vs) (ap not kept)) in
    omega arith) i

index_same : {T : Type 0} (st st' : Stripe T) → st'.descriptors.items ≡ st.descriptors.items
    → st'.index ≡ st.index → IsIndexed st.index st.descriptors.items
    → IsIndexed st'.index st'.descriptors.items
index_same {T} st st' items index r =
    subst (λ (x : List ℕ × List (Option (OpenDescriptor T))). IsIndexed x.0 x.1)
    (λ i. (sym index i, sym items i)) r

-- whether a standing is that of a flag that waits
abbrev pub waits_still : Standing → Bool
waits_still StillWaits = true
waits_still (HasRun d m) = false
waits_still WasShut = false

module _ {T : Type 0} (tag : T → List (List ℕ)) (st : Stripe T) (f : Facts) (r : Shows tag f st) (key : Key)
    (flag : UnaskedFlag) (at : flag ∷ [] ≡ filter (flag_has key.number) st.flags) where
  abbrev pub u : Unasked
  u = unasked_of flag

  pub flag_there : IsIn flag st.flags × (flag_has key.number flag ≡ true)
  flag_there =
      in_filter (flag_has key.number) flag st.flags
      (subst (λ (l : List UnaskedFlag). IsIn flag l) at (inl refl))

  pub u_in : IsIn u f.flags
  u_in = subst (λ (l : List Unasked). IsIn u l) r.table.unasked (in_map unasked_of flag st.flags flag_there.0)

  u_is : u.key.number ≡ key.number
  u_is = eqb-true flag.key key.number flag_there.1

  only : (v : Unasked) → IsIn v f.flags → v.key.number ≡ key.number → v ≡ u
  only v i e = one_number flag_number f.flags v u r.ordered.flags_ascend i u_in (e ∙ sym u_is)

  told_ordered : waits_still u.standing ≡ false → AreOrdered st.stripe (told f key)
  told_ordered out =
      ordered_without st.stripe (next st.stripe f) f.owner f.waits f.flags key r.ordered
      (λ w i e h. both_ways (waits_still u.standing) out
      (ap (λ (v : Unasked). waits_still v.standing) (sym (only (waiter w) (r.ordered.waiters w i e) h))))

  -- the fired flags of an opening that isn't the flag's stay
  others : (p : Opening) → (is_fired u.standing ≡ true → same p u.opening ≡ false)
      → how_many (fired_of p) (not_asked key f.flags) ≡ how_many (fired_of p) f.flags
  others p off =
      fired_without p key f.flags
      (λ v i e. ap (fired_of p) (only v i e) ∙ by_fired (is_fired u.standing) refl)
    where
      by_fired : (b : Bool) → is_fired u.standing ≡ b → fired_of p u ≡ false
      by_fired true e = ap (λ b. b && is_fired u.standing) (off e)
      by_fired false e = ap (λ b. same p u.opening && b) e ∙ and-false (same p u.opening)

  fits_told : (fd : ℕ) (x : Option (OpenDescriptor T))
      → ((d : OpenDescriptor T) → x ≡ Some d → is_fired u.standing ≡ true
      → same (opening d.number fd) u.opening ≡ false)
      → FitsAt tag f fd x → FitsAt tag (told f key) fd x
  fits_told fd None off fit = record { owner = fit.owner; waits = fit.waits; outs = fit.outs }
  fits_told fd (Some d) off fit = record {
    owner = fit.owner;
    read = fit.read;
    read_mark = fit.read_mark;
    write = fit.write;
    write_mark = fit.write_mark;
    waits = fit.waits;
    outs = fit.outs;
    fired = others (opening d.number fd) (off d refl) ∙ fit.fired;
    room = fit.room;
  }

  -- a flag that gives no place free is told
  pub told_shows : (st' : Stripe T) → waits_still u.standing ≡ false
      → ((i : ℕ) (d : OpenDescriptor T) → slice_get st.descriptors.items i ≡ Some (Some d)
      → is_fired u.standing ≡ true → same (opening d.number (32 * i + st.stripe)) u.opening ≡ false)
      → st'.stripe ≡ st.stripe → st'.count ≡ st.count → st'.descriptors.items ≡ st.descriptors.items
      → st'.flags ≡ filter (λ g. not (flag_has key.number g)) st.flags → st'.index ≡ st.index
      → Shows tag (told f key) st'
  told_shows st' out off stripe count items flags index = let c = r.count in record {
    small = subst (λ (n : ℕ). n < 32) (sym stripe) r.small;
    count = c ∙ sym count;
    table =
        subst (λ (n : ℕ). FitsTable tag n (told f key) st'.descriptors.items st'.flags) (sym stripe)
        (subst (λ (l : List (Option (OpenDescriptor T))). FitsTable tag st.stripe (told f key) l st'.flags)
        (sym items) (record {
          many = r.table.many;
          each =
              λ i x e.
              fits_told (32 * i + st.stripe) x (λ d is. off i d (e ∙ ap Some is)) (r.table.each i x e);
          unasked =
              ap (map unasked_of) flags ∙ (flags_without key st.flags ∙ ap (not_asked key) r.table.unasked);
        }));
    ordered = subst (λ (n : ℕ). AreOrdered n (told f key)) (sym stripe) (told_ordered out);
    index = index_same st st' items index r.index;
  }

  module _ (place : ℕ) (d : OpenDescriptor T) (there : slice_get st.descriptors.items place ≡ Some (Some d))
      (number : d.number ≡ flag.opening.number) (fd : flag.opening.fd ≡ 32 * place + st.stripe)
      (fired : is_fired u.standing ≡ true) where
    its : opening d.number (32 * place + st.stripe) ≡ flag.opening
    its i = record { number = number i; fd = sym fd i }

    fit : FitsOpen tag f flag.opening d
    fit = subst (λ (p : Opening). FitsOpen tag f p d) its (r.table.each place (Some d) there)

    is_one : fired_of flag.opening u ≡ true
    is_one = and_from (same flag.opening flag.opening) (is_fired u.standing) (same_self flag.opening) fired

    -- the place of the flag is taken
    pub has_place : 0 < d.fired
    has_place =
        let e = fit.fired in
        let some = many_some (fired_of flag.opening) f.flags
        (in_some (fired_of flag.opening) u f.flags u_in is_one) in
        omega arith

    fits_freed : FitsOpen tag (told f key) flag.opening (record d { fired = d.fired - 1 })
    fits_freed = record {
      owner = fit.owner;
      read = fit.read;
      read_mark = fit.read_mark;
      write = fit.write;
      write_mark = fit.write_mark;
      waits = fit.waits;
      outs = fit.outs;
      fired =
          let e = fit.fired in
          let l = one_less flag.opening key u f.flags r.ordered.flags_ascend u_in u_is is_one in
          let p = has_place in
          omega arith;
      room = let e = fit.room in omega arith;
    }

    -- a flag that gives its place free is told
    pub freed_shows : (st' : Stripe T) → waits_still u.standing ≡ false
        → st'.stripe ≡ st.stripe → st'.count ≡ st.count
        → st'.descriptors.items ≡ set st.descriptors.items place (Some (record d { fired = d.fired - 1 }))
        → st'.flags ≡ filter (λ g. not (flag_has key.number g)) st.flags → st'.index ≡ st.index
        → Shows tag (told f key) st'
    freed_shows st' out stripe count items flags index =
        let c = r.count in
        let d' : OpenDescriptor T = record d { fired = d.fired - 1 } in
        record {
          small = subst (λ (n : ℕ). n < 32) (sym stripe) r.small;
          count = c ∙ sym count;
          table =
              subst (λ (n : ℕ). FitsTable tag n (told f key) st'.descriptors.items st'.flags) (sym stripe)
              (subst
              (λ (l : List (Option (OpenDescriptor T))). FitsTable tag st.stripe (told f key) l st'.flags)
              (sym items) (record {
                many = length-set st.descriptors.items place (Some d') ∙ r.table.many;
                each = λ i x e. ⊎_elim
                    (λ (t : (i ≡ place) × (Some d' ≡ x)). subst (λ (y : ℕ × Option (OpenDescriptor T)).
                    FitsAt tag (told f key) (32 * y.0 + st.stripe) y.1) (λ j. (sym t.0 j, t.1 j))
                    (subst (λ (p : Opening). FitsOpen tag (told f key) p d') (sym its) fits_freed))
                    (λ (t : (i ≢ place) × (slice_get st.descriptors.items i ≡ Some x)). let n =
                    t.0 in fits_told (32 * i + st.stripe) x (λ d2 is _.
                    false_from_ne_true (same (opening d2.number (32 * i + st.stripe)) flag.opening)
                    (λ h. let q =
                    (same_parts (opening d2.number (32 * i + st.stripe)) flag.opening h).1 in
                    n (omega arith)))
                    (r.table.each i x t.1))
                    (get_set st.descriptors.items place i (Some d') x e);
                unasked =
                    ap (map unasked_of) flags
                    ∙ (flags_without key st.flags ∙ ap (not_asked key) r.table.unasked);
              }));
          ordered = subst (λ (n : ℕ). AreOrdered n (told f key)) (sym stripe) (told_ordered out);
          index =
              subst (λ (x : List ℕ × List (Option (OpenDescriptor T))). IsIndexed x.0 x.1)
              (λ i. (sym index i, sym items i))
              (indexed_kept st.index st.descriptors.items place d d' r.table.many r.index there refl);
        }

module _ {T : Type 0} (tag : T → List (List ℕ)) (st : Stripe T) (f : Facts) (r : Shows tag f st) (key : Key)
    (flag : UnaskedFlag) (at : flag ∷ [] ≡ filter (flag_has key.number) st.flags) where
  -- the descriptor of a flag is one of the stripe's
  pub fd_is : flag.opening.fd ≡ 32 * (flag.opening.fd / 32) + st.stripe
  fd_is = let a = (r.ordered.made (unasked_of flag) (u_in tag st f r key flag at)).1 in omega arith

  -- a flag that ran is told, whether its opening is live or not
  pub ran_shows : (st' : Stripe T) → waits_still (standing_of flag.state) ≡ false
      → is_fired (standing_of flag.state) ≡ true → st'.stripe ≡ st.stripe → st'.count ≡ st.count
      → st'.flags ≡ filter (λ g. not (flag_has key.number g)) st.flags → st'.index ≡ st.index
      → (((d : OpenDescriptor T) → slice_get st.descriptors.items (flag.opening.fd / 32) ≡ Some (Some d)
      → d.number ≢ flag.opening.number) → st'.descriptors.items ≡ st.descriptors.items)
      → ((d : OpenDescriptor T) → slice_get st.descriptors.items (flag.opening.fd / 32) ≡ Some (Some d)
      → d.number ≡ flag.opening.number → st'.descriptors.items
      ≡ set st.descriptors.items (flag.opening.fd / 32) (Some (record d { fired = d.fired - 1 })))
      → Shows tag (told f key) st'
  ran_shows st' out fired stripe count flags index absent there =
      by_get (slice_get st.descriptors.items (flag.opening.fd / 32)) refl
    where
      away : ((d : OpenDescriptor T) → slice_get st.descriptors.items (flag.opening.fd / 32) ≡ Some (Some d)
          → d.number ≢ flag.opening.number)
          → Shows tag (told f key) st'
      away none =
          told_shows tag st f r key flag at st' out (λ i d e _.
          false_from_ne_true (same (opening d.number (32 * i + st.stripe)) flag.opening) (λ h. let p =
          same_parts (opening d.number (32 * i + st.stripe)) flag.opening h in
          let fd = p.1 in
          let here = fd_is in
          let small = r.small in
          let place : i ≡ flag.opening.fd / 32 = omega arith in
          none d (ap (slice_get st.descriptors.items) (sym place) ∙ e) p.0))
          stripe count (absent none) flags index

      by_get : (x : Option (Option (OpenDescriptor T)))
          → slice_get st.descriptors.items (flag.opening.fd / 32) ≡ x → Shows tag (told f key) st'
      by_get None e = away (λ d h. absurd (none-some (Some d) (sym e ∙ h)))
      by_get (Some None) e = away (λ d h. absurd (none-some d (same_Some None (Some d) (sym e ∙ h))))
      by_get (Some (Some d)) e = ⊎_elim
          (λ (h : (d.number == flag.opening.number) ≡ true). let number =
          eqb-true d.number flag.opening.number h in freed_shows tag st f r key flag at
          (flag.opening.fd / 32) d e number fd_is fired st' out stripe count (there d e number) flags index)
          (λ (h : (d.number == flag.opening.number) ≡ false).
          away (λ d2 at2 n. both_ways (d.number == flag.opening.number) h (eq-eqb d.number flag.opening.number
          (ap (λ (z : OpenDescriptor T). z.number)
          (same_Some d d2 (same_Some (Some d) (Some d2) (sym e ∙ at2))) ∙ n))))
          (cases_Bool (d.number == flag.opening.number))

module _ {T : Type 0} (tag : T → List (List ℕ)) where
  -- the stripe shows the same where nothing is told
  pub same_shows : (st st' : Stripe T) (f : Facts) → Shows tag f st → st'.stripe ≡ st.stripe
      → st'.count ≡ st.count → st'.descriptors.items ≡ st.descriptors.items → st'.flags ≡ st.flags
      → st'.index ≡ st.index → Shows tag f st'
  same_shows st st' f r stripe count items flags index = record {
    small = subst (λ (n : ℕ). n < 32) (sym stripe) r.small;
    count = r.count ∙ sym count;
    table =
        subst (λ (n : ℕ). FitsTable tag n f st'.descriptors.items st'.flags) (sym stripe)
        (subst (λ (l : List (Option (OpenDescriptor T))). FitsTable tag st.stripe f l st'.flags) (sym items)
        (subst (λ (l : List UnaskedFlag). FitsTable tag st.stripe f st.descriptors.items l)
        (sym flags) r.table));
    ordered = subst (λ (n : ℕ). AreOrdered n f) (sym stripe) r.ordered;
    index = index_same st st' items index r.index;
  }

  module _ (st : Stripe T) (past : List Entry) (r : ShowsPast tag past st) (key : Key) where
    found_is : (l : List UnaskedFlag) → l ≡ filter (flag_has key.number) st.flags
        → filter (λ (v : Unasked). same_key v.key key) (unasked past) ≡ map unasked_of l
    found_is l is =
        ap (filter (λ (v : Unasked). same_key v.key key)) (sym r.table.unasked)
        ∙ (filter_map (λ (v : Unasked). same_key v.key key) unasked_of st.flags
        ∙ ap (map unasked_of) (sym is))

    pub right_unknown : [] ≡ filter (flag_has key.number) st.flags
        → Ask key Asks.Unknown ≡ reply_of st.stripe st.first past (Ask key Asks.Unknown)
    right_unknown is = ap (Ask key) (sym (ap first_told (found_is [] is)))

    pub right_told : (flag : UnaskedFlag) → flag ∷ [] ≡ filter (flag_has key.number) st.flags
        → (x : AskOutcome) → x ≡ first_told (unasked_of flag ∷ [])
        → Ask key x ≡ reply_of st.stripe st.first past (Ask key x)
    right_told flag is x x_is = ap (Ask key) (x_is ∙ sym (ap first_told (found_is (flag ∷ []) is)))
