-- How facts change at one descriptor, and stay elsewhere.
use Rattle.std.proofs.Common.{◌≡◌, ℕ, ◌+◌, ◌*◌, ◌≤◌, ◌<◌, ◌≢◌, ◌⊎◌, ⊎_elim, List, [], ◌∷◌, map, set, sym}
use Rattle.std.proofs.Common.{refl, ◌∙◌, subst, arith, length-set}
use Rattle.std.specs.Prelude.{Option, Some, None, filter, slice_get}
use Rattle.reg_keys.specs.declared.opening.Opening.{Opening}
use Rattle.reg_keys.specs.declared.registration.Dir.{Dir}
use Rattle.reg_keys.specs.declared.registration.Dir.TheVariants.{Read, Write}
use Rattle.reg_keys.specs.Tests.{how_many}
use Rattle.reg_keys.specs.Histories.{Registered, Unasked}
use Rattle.turn_cell.specs.ListLaws.{get_set}
use Rattle.stripe_table.specs.Ascending.{AllBelow}
use Rattle.stripe_table.specs.Index.{IsIndexed}
use Rattle.stripe_table.specs.Facts.{Facts, waits_at, out_at, fired_of, number_of, flag_number}
use Rattle.stripe_table.specs.Represents.{opening, unasked_of, IsOrdered, AreOrdered, FitsOpen, FitsAt}
use Rattle.stripe_table.specs.Represents.{FitsTable, Shows}
use Rattle.stripe_table.specs.declared.descriptor.OpenDescriptor.{OpenDescriptor}
use Rattle.stripe_table.specs.declared.flags.UnaskedFlag.{UnaskedFlag}
use Rattle.stripe_table.specs.declared.stripe.Stripe.{Stripe}

-- the facts of a descriptor are the same
pub record SameAt (f g : Facts) (fd : ℕ) : Type 0 where
  pub owner : g.owner fd ≡ f.owner fd
  pub mark : (o : Opening) (d : Dir) → o.fd ≡ fd → g.mark o d ≡ f.mark o d
  pub bit : (o : Opening) (d : Dir) → o.fd ≡ fd → g.bit o d ≡ f.bit o d
  pub waits : filter (waits_at fd) g.waits ≡ filter (waits_at fd) f.waits
  pub outs : filter (out_at fd) g.outs ≡ filter (out_at fd) f.outs
  pub fired : (o : Opening) → o.fd ≡ fd → how_many (fired_of o) g.flags ≡ how_many (fired_of o) f.flags

module _ {A : Type 0} (number : A → ℕ) where
  pub below_more : (n m : ℕ) → n ≤ m → (xs : List A) → AllBelow number n xs → AllBelow number m xs
  below_more n m le [] a = tt
  below_more n m le (x ∷ xs) a = let lt = a.0 in (omega arith, below_more n m le xs a.1)

-- what is ordered is so still when numbers are drawn
pub ordered_more : (s n m : ℕ) (owner : ℕ → Option Opening) (waits : List Registered) (flags : List Unasked)
    → n ≤ m → IsOrdered s n owner waits flags → IsOrdered s m owner waits flags
ordered_more s n m owner waits flags le r = record {
  waits_ascend = r.waits_ascend;
  waits_old = below_more number_of n m le waits r.waits_old;
  flags_ascend = r.flags_ascend;
  flags_old = below_more flag_number n m le flags r.flags_old;
  within = λ fd o e.
      let a = r.within fd o e in
      let old = a.3 in (a.0, a.1, a.2, omega arith);
  held = r.held;
  made = λ u i.
      let a = r.made u i in
      let old = a.0 in (omega arith, a.1);
  jobs = r.jobs;
  waiters = r.waiters;
  few = r.few;
}

module _ {T : Type 0} (tag : T → List (List ℕ)) where
  pub same_at : (f g : Facts) (fd : ℕ) → SameAt f g fd → (d : Option (OpenDescriptor T))
      → FitsAt tag f fd d → FitsAt tag g fd d
  same_at f g fd r None fit =
      record { owner = r.owner ∙ fit.owner; waits = r.waits ∙ fit.waits; outs = r.outs ∙ fit.outs }
  same_at f g fd r (Some d) fit = let o : Opening = opening d.number fd in record {
    owner = r.owner ∙ fit.owner;
    read = r.bit o Read refl ∙ fit.read;
    read_mark = r.mark o Read refl ∙ fit.read_mark;
    write = r.bit o Write refl ∙ fit.write;
    write_mark = r.mark o Write refl ∙ fit.write_mark;
    waits = r.waits ∙ fit.waits;
    outs = r.outs ∙ fit.outs;
    fired = r.fired o refl ∙ fit.fired;
    room = fit.room;
  }

  -- one descriptor of the table changed
  pub moved : (s : ℕ) (f g : Facts) (table : List (Option (OpenDescriptor T)))
      (flags flags' : List UnaskedFlag) (i : ℕ) (d : Option (OpenDescriptor T))
      → FitsTable tag s f table flags → FitsAt tag g (32 * i + s) d
      → ((fd : ℕ) → fd ≢ 32 * i + s → SameAt f g fd) → map unasked_of flags' ≡ g.flags
      → FitsTable tag s g (set table i d) flags'
  moved s f g table flags flags' i d r here else' unasked = record {
    many = length-set table i d ∙ r.many;
    each = λ j d2 at. ⊎_elim
        (λ (t : (j ≡ i) × (d ≡ d2)). subst (λ (x : ℕ × Option (OpenDescriptor T)).
        FitsAt tag g (32 * x.0 + s) x.1) (λ q. (sym t.0 q, t.1 q)) here)
        (λ (t : (j ≢ i) × (slice_get table j ≡ Some d2)). let n =
        t.0 in same_at f g (32 * j + s) (else' (32 * j + s) (λ e. n (omega arith))) d2 (r.each j d2 t.1))
        (get_set table i j d d2 at);
    unasked = unasked;
  }

  -- what is kept of an open descriptor fits its opening
  pub fits_here : (st : Stripe T) (f : Facts) (o : Opening) (place : ℕ) (d : OpenDescriptor T)
      → Shows tag f st → slice_get st.descriptors.items place ≡ Some (Some d) → d.number ≡ o.number
      → o.fd ≡ 32 * place + st.stripe → FitsOpen tag f o d
  fits_here st f o place d r at number fd =
      subst (λ (p : Opening). FitsOpen tag f p d) (λ i. record { number = number i; fd = sym fd i })
      (r.table.each place (Some d) at)

  -- the stripe shows other facts, once one descriptor changed
  pub changed : (st st' : Stripe T) (f g : Facts) (fd place : ℕ) (d : Option (OpenDescriptor T))
      → Shows tag f st → fd ≡ 32 * place + st.stripe → FitsAt tag g fd d
      → ((fd2 : ℕ) → fd2 ≢ fd → SameAt f g fd2) → AreOrdered st.stripe g
      → st'.stripe ≡ st.stripe → g.count ≡ st'.count
      → st'.descriptors.items ≡ set st.descriptors.items place d → map unasked_of st'.flags ≡ g.flags
      → IsIndexed st'.index (set st.descriptors.items place d) → Shows tag g st'
  changed st st' f g fd place d r fd_is here else' ordered stripe count items flags index = record {
    small = subst (λ (n : ℕ). n < 32) (sym stripe) r.small;
    count = count;
    table =
        subst (λ (n : ℕ). FitsTable tag n g st'.descriptors.items st'.flags) (sym stripe)
        (subst (λ (l : List (Option (OpenDescriptor T))). FitsTable tag st.stripe g l st'.flags) (sym items)
        (moved st.stripe f g st.descriptors.items st.flags st'.flags place d r.table
        (subst (λ (n : ℕ). FitsAt tag g n d) fd_is here) (λ fd2 ne. else' fd2 (λ e. ne (e ∙ fd_is))) flags));
    ordered = subst (λ (n : ℕ). AreOrdered n g) (sym stripe) ordered;
    index = subst (IsIndexed st'.index) (sym items) index;
  }

-- facts that differ in what is drawn alone
pub same_refl : (f : Facts) (fd : ℕ) → SameAt f f fd
same_refl f fd = record {
  owner = refl;
  mark = λ o d e. refl;
  bit = λ o d e. refl;
  waits = refl;
  outs = refl;
  fired = λ o e. refl;
}
