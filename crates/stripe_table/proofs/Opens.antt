-- An opening made in the table is what the definitions say of it.
use Rattle.std.proofs.Common.{◌≡◌, ℕ, ◌+◌, ◌*◌, ◌%◌, ◌<◌, ◌≢◌, inl, inr, List, [], ◌∷◌, map, set, true, false}
use Rattle.std.proofs.Common.{sym, refl, ap, ◌∙◌, subst, arith}
use Rattle.std.specs.Prelude.{Some, None, if◌then◌else◌, ◌||◌, ◌==◌, slice_get}
use Rattle.std.specs.List.{list_any}
use Rattle.std.proofs.lemmas.Bool.{both_ways, and_left, cond-true, cond-false, eq-eqb, eqb-true, ne_eqb}
use Rattle.std.proofs.lemmas.Bool.{cond_both}
use Rattle.std.proofs.lemmas.Option.{same_Some, none-some}
use Rattle.reg_keys.specs.declared.opening.Opening.{Opening}
use Rattle.reg_keys.specs.declared.registration.Dir.TheVariants.{Read, Write}
use Rattle.reg_keys.specs.declared.entry.OpenOutcome.TheVariants as Opens
use Rattle.reg_keys.specs.declared.entry.Entry.{Entry}
use Rattle.reg_keys.specs.declared.entry.Entry.TheVariants.{Open}
use Rattle.reg_keys.specs.Tests.{same, how_many, IsIn, one_if}
use Rattle.reg_keys.specs.Histories.{owner_of, next_number, Unasked, is_fired}
use Rattle.reg_keys.specs.Replies.{is_spent, opened_unless, reply_of}
use Rattle.reg_keys.specs.ListLaws.{same_self}
use Rattle.stripe_table.specs.Facts.{Facts, next, fired_of, made}
use Rattle.stripe_table.specs.Represents.{opening, FitsOpen, FitsShut, Shows, unasked_of, AreOrdered}
use Rattle.stripe_table.specs.Descriptors as Kept
use Rattle.stripe_table.specs.declared.descriptor.OpenDescriptor.{OpenDescriptor}
use Rattle.stripe_table.specs.declared.stripe.Stripe.{Stripe}
use Rattle.stripe_table.specs.Index.{IsIndexed}
use Rattle.stripe_table.proofs.Listed.{indexed_set}
use Rattle.stripe_table.proofs.Facts.{SameAt, ordered_more, changed}
use Rattle.stripe_table.proofs.Naming.{other_fd}
use Rattle.stripe_table.proofs.Steps.{picked, passed}

none_fired : (o : Opening) (us : List Unasked) → ((u : Unasked) → IsIn u us → u.opening.number < o.number)
    → how_many (fired_of o) us ≡ 0
none_fired o [] old = refl
none_fired o (u ∷ us) old =
    let a = old u (inl refl) in
    let r = none_fired o us (λ v i. old v (inr i)) in
    let off : fired_of o u ≡ false = and_left (same o u.opening) (is_fired u.standing)
    (and_left (o.number == u.opening.number) (o.fd == u.opening.fd)
    (ne_eqb o.number u.opening.number (λ e. omega arith))) in
    let z : one_if (fired_of o u) ≡ 0 = ap one_if off in omega arith

made_fits : {T : Type 0} (tag : T → List (List ℕ)) (s : ℕ) (f : Facts) (o : Opening) → o.number ≡ next s f
    → AreOrdered s f → FitsShut f o.fd → FitsOpen tag (made f o.fd o) o (Kept.just_opened o.number)
made_fits tag s f o number r fit = record {
  owner = cond-true (o.fd == o.fd) (Some o) (f.owner o.fd) (eq-eqb o.fd o.fd refl);
  read = ap (λ b. b || f.bit o Read) (same_self o);
  read_mark = cond-true (same o o) o.number (f.mark o Read) (same_self o);
  write = ap (λ b. b || f.bit o Write) (same_self o);
  write_mark = cond-true (same o o) o.number (f.mark o Write) (same_self o);
  waits = fit.waits;
  outs = fit.outs;
  fired = none_fired o f.flags (λ u i. let a = (r.made u i).0 in omega arith);
  room = omega arith;
}

made_else : (f : Facts) (o : Opening) (fd : ℕ) → fd ≢ o.fd → SameAt f (made f o.fd o) fd
made_else f o fd ne = record {
  owner = cond-false (o.fd == fd) (Some o) (f.owner fd) (ne_eqb o.fd fd (λ e. ne (sym e)));
  mark = λ p e is. cond-false (same o p) p.number (f.mark p e) (other_fd o p (λ q. ne (sym (q ∙ is))));
  bit = λ p e is. ap (λ b. b || f.bit p e) (other_fd o p (λ q. ne (sym (q ∙ is))));
  waits = refl;
  outs = refl;
  fired = λ p is. refl;
}

made_ordered : (s : ℕ) (f : Facts) (o : Opening) → o.number ≡ next s f → o.fd < 4096 → o.fd % 32 ≡ s
    → f.owner o.fd ≡ None → AreOrdered s f → AreOrdered s (made f o.fd o)
made_ordered s f o number low of free r =
    let m = ordered_more s (next s f) (next s (made f o.fd o)) f.owner f.waits f.flags (omega arith) r in
    record {
      waits_ascend = m.waits_ascend;
      waits_old = m.waits_old;
      flags_ascend = m.flags_ascend;
      flags_old = m.flags_old;
      within =
          λ fd p. cond_both (o.fd == fd) (Some o) (f.owner fd)
          (λ x. x ≡ Some p → (p.fd ≡ fd) × (fd < 4096) × (fd % 32 ≡ s) × (p.number < next s (made f o.fd o)))
          (λ here e.
          let is = eqb-true o.fd fd here in
          subst
          (λ (q : Opening). (q.fd ≡ fd) × (fd < 4096) × (fd % 32 ≡ s) × (q.number < next s (made f o.fd o)))
          (same_Some o p e)
          (is, subst (λ (n : ℕ). n < 4096) is low, subst (λ (n : ℕ). n % 32 ≡ s) is of, omega arith))
          (λ _ e. m.within fd p e);
      held =
          λ w i.
          let own = r.held w i in
          cond-false (o.fd == w.opening.fd) (Some o) (f.owner w.opening.fd)
          (ne_eqb o.fd w.opening.fd (λ e. none-some w.opening (sym free ∙ (ap f.owner e ∙ own)))) ∙ own;
      made = m.made;
      jobs = m.jobs;
      waiters = m.waiters;
      few = m.few;
    }

module _ {T : Type 0} (tag : T → List (List ℕ)) where
  pub made_shows : (st st' : Stripe T) (f : Facts) (fd place n : ℕ) (d' : OpenDescriptor T)
      → Shows tag f st → slice_get st.descriptors.items place ≡ Some None → fd ≡ 32 * place + st.stripe
      → fd < 4096 → fd % 32 ≡ st.stripe → n ≡ 32 * st.count + st.stripe
      → d' ≡ Kept.just_opened n → st'.stripe ≡ st.stripe → st'.count ≡ st.count + 1
      → st'.descriptors.items ≡ set st.descriptors.items place (Some d') → st'.flags ≡ st.flags
      → st'.index ≡ st.index → Shows tag (made f fd (opening n fd)) st'
  made_shows st st' f fd place n d' r at fd_is low of n_is d_is stripe count items flags index =
      let c = r.count in
      let o : Opening = opening n fd in
      let number : n ≡ next st.stripe f = omega arith in
      let fit : FitsShut f fd = subst (FitsShut f) (sym fd_is) (r.table.each place None at) in
      changed tag st st' f (made f fd o) fd place (Some (Kept.just_opened n)) r fd_is
      (made_fits tag st.stripe f o number r.ordered fit) (made_else f o)
      (made_ordered st.stripe f o number low of fit.owner r.ordered) stripe (omega arith)
      (items ∙ ap (λ (x : OpenDescriptor T). set st.descriptors.items place (Some x)) d_is)
      (ap (map unasked_of) flags ∙ r.table.unasked)
      (subst (λ (l : List ℕ). IsIndexed l (set st.descriptors.items place (Some (Kept.just_opened n))))
      (sym index) (indexed_set st.index st.index st.descriptors.items place
      (Some (Kept.just_opened n)) r.table.many r.index (λ k p low2 ne m. m)
      (λ x is k h. absurd (both_ways false refl (ap (λ (z : OpenDescriptor T).
      list_any (Kept.waits_as k) z.waits) (same_Some (Kept.just_opened n) x is) ∙ h)))))

module _ (s c : ℕ) (past : List Entry) (fd : ℕ) where
  pub right_taken : (o : Opening) → owner_of past fd ≡ Some o
      → Open fd (Opens.Taken o) ≡ reply_of s c past (Open fd (Opens.Taken o))
  right_taken o own =
      ap (Open fd) (sym (ap (λ w. opened_unless w
      (if is_spent c past then Opens.Spent else Opens.Opened (opening (next_number s c past) fd))) own))

  pub right_spent : owner_of past fd ≡ None → is_spent c past ≡ true
      → Open fd Opens.Spent ≡ reply_of s c past (Open fd Opens.Spent)
  right_spent own e =
      ap (Open fd) (picked (is_spent c past) Opens.Spent (Opens.Opened (opening (next_number s c past) fd)) e
      ∙ sym (ap (λ w. opened_unless w
      (if is_spent c past then Opens.Spent else Opens.Opened (opening (next_number s c past) fd))) own))

  pub right_opened : (n : ℕ) → n ≡ next_number s c past → owner_of past fd ≡ None → is_spent c past ≡ false
      → Open fd (Opens.Opened (opening n fd)) ≡ reply_of s c past (Open fd (Opens.Opened (opening n fd)))
  right_opened n is own e =
      ap (Open fd) (ap (λ k. Opens.Opened (opening k fd)) is
      ∙ (passed (is_spent c past) Opens.Spent (Opens.Opened (opening (next_number s c past) fd)) e
      ∙ sym (ap (λ w. opened_unless w
      (if is_spent c past then Opens.Spent else Opens.Opened (opening (next_number s c past) fd))) own)))
