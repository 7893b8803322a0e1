-- A close on the table is what the definitions say of it.
use Rattle.std.proofs.Common.{◌≡◌, ℕ, ◌+◌, ◌*◌, ◌≢◌, List, [], ◌∷◌, map, set, true, false, Bool, sym, refl}
use Rattle.std.proofs.Common.{ap, ◌∙◌, subst}
use Rattle.std.specs.Prelude.{Option, Some, None, filter, not, slice_get}
use Rattle.std.specs.List.{list_any}
use Rattle.std.proofs.lemmas.Bool.{cond-true, cond-false, eqb-true, cond_both}
use Rattle.std.proofs.lemmas.Option.{none-some}
use Rattle.reg_keys.specs.declared.opening.Opening.{Opening}
use Rattle.reg_keys.specs.declared.entry.ShutKey.{ShutKey}
use Rattle.reg_keys.specs.declared.entry.CloseOutcome.TheVariants as Closes
use Rattle.reg_keys.specs.declared.entry.Entry.{Entry}
use Rattle.reg_keys.specs.declared.entry.Entry.TheVariants.{Close}
use Rattle.reg_keys.specs.Tests.{same, how_many, IsIn}
use Rattle.reg_keys.specs.Histories.{is_live, is_it, is_of, Registered, EventOut, Unasked, WasShut, without}
use Rattle.reg_keys.specs.Histories.{keys_shut, flag_shut}
use Rattle.reg_keys.specs.Replies.{is_flag, shut_as, reply_of}
use Rattle.reg_keys.specs.ListLaws.{same_self, in_filter}
use Rattle.stripe_table.specs.Calls.{kind_of, kind_of_job, shut_key}
use Rattle.stripe_table.specs.Facts.{Facts, facts_of, next, waits_at, out_at, fired_of, flag_at, shut}
use Rattle.stripe_table.specs.Represents.{registered_of, outs_of, FitsOpen, FitsShut, Shows, unasked_of}
use Rattle.stripe_table.specs.Represents.{IsOrdered, AreOrdered}
use Rattle.stripe_table.specs.Flags.{flag_has}
use Rattle.stripe_table.specs.Index.{KeepsOthers}
use Rattle.stripe_table.specs.Loads as Loads
use Rattle.stripe_table.specs.Firing as Firing
use Rattle.stripe_table.specs.Descriptors as Kept
use Rattle.stripe_table.specs.declared.load.Payload.{Payload}
use Rattle.stripe_table.specs.declared.load.Payload.TheVariants.{Job, Flag}
use Rattle.stripe_table.specs.declared.descriptor.OutSlot.{OutSlot}
use Rattle.stripe_table.specs.declared.descriptor.Registration.{Registration}
use Rattle.stripe_table.specs.declared.descriptor.OpenDescriptor.{OpenDescriptor}
use Rattle.stripe_table.specs.declared.flags.UnaskedFlag.{UnaskedFlag}
use Rattle.stripe_table.specs.declared.stripe.Stripe.{Stripe}
use Rattle.stripe_table.proofs.Facts.{SameAt, fits_here, changed}
use Rattle.stripe_table.proofs.Listed.{indexed_set}
use Rattle.stripe_table.proofs.Naming.{other_fd, same_parts}
use Rattle.stripe_table.proofs.Steps.{picked, passed}
use Rattle.stripe_table.proofs.Settling.{settle, shut_is, settled_is, fired_other, stood_taken}
use Rattle.stripe_table.proofs.Settling.{settled_ordered}
use Rattle.stripe_table.proofs.Taking.{filter_swap, filter_spared, filter_all, filter_none, filter_map}
use Rattle.stripe_table.proofs.Taking.{left_is, any_flag, waits_in, taken_here}

-- the registrations of the opening
abbrev pub is_own : Opening → Registered → Bool
is_own o w = same o w.opening

abbrev pub shut_of : Facts → Opening → List ShutKey
shut_of f o = map shut_as (filter (is_own o) f.waits)

module _ {T : Type 0} (tag : T → List (List ℕ)) (s : ℕ) (f : Facts) (o : Opening) (d : OpenDescriptor T)
    (fit : FitsOpen tag f o d) (r : AreOrdered s f) where
  own_waits : filter (is_own o) f.waits ≡ map (registered_of tag o) d.waits
  own_waits =
      taken_here tag f o d fit (is_own o) (λ q. true) (λ w h. h) (λ q. same_self o)
      ∙ ap (map (registered_of tag o)) (filter_all (λ q. true) (λ q. refl) d.waits)

  waits_left : without (keys_shut (shut_of f o)) f.waits ≡ filter (λ w. not (is_own o w)) f.waits
  waits_left = left_is (λ (x : ShutKey). x.key) shut_as (λ w. refl) (is_own o) f.waits r.waits_ascend

  flags_settled : map (flag_shut (shut_of f o)) f.flags
      ≡ settle (λ w. WasShut) (filter (is_own o) f.waits) f.flags
  flags_settled = shut_is (filter (is_own o) f.waits) f.flags

  shut_fits : FitsShut (shut f o (shut_of f o)) o.fd
  shut_fits = record {
    owner = cond-true (is_it o (f.owner o.fd)) None (f.owner o.fd) (ap (is_it o) fit.owner ∙ same_self o);
    waits =
        ap (filter (waits_at o.fd)) waits_left
        ∙ (filter_swap (waits_at o.fd) (λ w. not (is_own o w)) f.waits
        ∙ (ap (filter (λ w. not (is_own o w))) fit.waits
        ∙ (filter_map (λ w. not (is_own o w)) (registered_of tag o) d.waits
        ∙ ap (map (registered_of tag o))
        (filter_none (λ q. not (is_own o (registered_of tag o q))) (λ q. ap not (same_self o)) d.waits))));
    outs =
        filter_swap (out_at o.fd) (λ (y : EventOut). not (is_of o y)) f.outs
        ∙ (ap (filter (λ (y : EventOut). not (is_of o y))) fit.outs ∙ none_out d.out);
  }
    where
      none_out : (out : Option OutSlot) → filter (λ (y : EventOut). not (is_of o y)) (outs_of out o) ≡ []
      none_out None = refl
      none_out (Some x) = cond-false (not (same o o)) _ [] (ap not (same_self o))

  not_it : (fd : ℕ) → fd ≢ o.fd → is_it o (f.owner fd) ≡ false
  not_it fd ne = by_owner (f.owner fd) refl
    where
      by_owner : (w : Option Opening) → f.owner fd ≡ w → is_it o w ≡ false
      by_owner None e = refl
      by_owner (Some p) e = other_fd o p (λ h. ne (sym (r.within fd p e).0 ∙ sym h))

  shut_else : (fd : ℕ) → fd ≢ o.fd → SameAt f (shut f o (shut_of f o)) fd
  shut_else fd ne = record {
    owner = cond-false (is_it o (f.owner fd)) None (f.owner fd) (not_it fd ne);
    mark = λ p e is. refl;
    bit = λ p e is. refl;
    waits =
        ap (filter (waits_at fd)) waits_left ∙ filter_spared (waits_at fd) (is_own o)
        (λ w h. other_fd o w.opening (λ e. ne (sym (e ∙ eqb-true w.opening.fd fd h)))) f.waits;
    outs =
        filter_spared (out_at fd) (is_of o)
        (λ y h. other_fd o y.event.opening (λ e. ne (sym (e ∙ eqb-true y.event.opening.fd fd h)))) f.outs;
    fired =
        λ p is. ap (how_many (fired_of p)) flags_settled ∙ fired_other (λ w. WasShut) p
        (filter (is_own o) f.waits) f.flags (stood_taken s (next s f) f.owner f.waits f.flags r (is_own o))
        (λ w i. other_fd p w.opening
        (λ e. ne (sym ((same_parts o w.opening (in_filter (is_own o) w f.waits i).1).1 ∙ (sym e ∙ is)))));
  }

  shut_ordered : AreOrdered s (shut f o (shut_of f o))
  shut_ordered =
      subst (λ (x : List Registered × List Unasked).
      IsOrdered s (next s f) (shut f o (shut_of f o)).owner x.0 x.1)
      (λ i. (sym waits_left i, sym flags_settled i))
      (settled_ordered s (next s f) f.owner f.waits f.flags r (is_own o) (λ w. WasShut)
      (shut f o (shut_of f o)).owner
      (λ fd p. cond_both (is_it o (f.owner fd)) None (f.owner fd) (λ x. x ≡ Some p → f.owner fd ≡ Some p)
      (λ _ e. absurd (none-some p e)) (λ _ e. e))
      (λ w i e. let own = r.held w i in
      cond-false (is_it o (f.owner w.opening.fd)) None (f.owner w.opening.fd) (ap (is_it o) own ∙ e) ∙ own))

  shut_flags : (fl : List UnaskedFlag) → map unasked_of fl ≡ f.flags
      → map unasked_of (Firing.settle_all Firing.shut_state d.waits fl)
      ≡ map (flag_shut (shut_of f o)) f.flags
  shut_flags fl is =
      settled_is tag o Firing.shut_state (λ w. WasShut) (λ q. refl) d.waits fl jobs
      ∙ ((λ i. settle (λ w. WasShut) (sym own_waits i) (is i)) ∙ sym flags_settled)
    where
      kind_same : (load : Payload T) → Loads.is_flag load ≡ false → is_flag (kind_of tag load) ≡ false
      kind_same (Job x) e = refl
      kind_same Flag e = e

      jobs : (q : Registration T) → IsIn q d.waits → Kept.flag_waits q ≡ false
          → list_any (flag_has q.key) fl ≡ false
      jobs q i e =
          sym (any_flag q.key fl)
          ∙ (ap (list_any (flag_at q.key)) is
          ∙ r.jobs (registered_of tag o q) (waits_in tag f o d fit q i) (kind_same q.load e))

  pub list_is : map (shut_key tag) (map Firing.shut_as d.waits) ≡ shut_of f o
  list_is = both d.waits ∙ ap (map shut_as) (sym own_waits)
    where
      kind_is : (load : Payload T) → kind_of_job tag (Loads.job_of load) ≡ kind_of tag load
      kind_is (Job x) = refl
      kind_is Flag = refl

      both : (qs : List (Registration T))
          → map (shut_key tag) (map Firing.shut_as qs) ≡ map shut_as (map (registered_of tag o) qs)
      both [] = refl
      both (q ∷ qs) = λ i. record { key = record { number = q.key }; kind = kind_is q.load i } ∷ both qs i

module _ {T : Type 0} (tag : T → List (List ℕ)) where
  pub shut_shows : (st st' : Stripe T) (f : Facts) (o : Opening) (place : ℕ) (d : OpenDescriptor T)
      → Shows tag f st → slice_get st.descriptors.items place ≡ Some (Some d) → d.number ≡ o.number
      → o.fd ≡ 32 * place + st.stripe
      → st'.stripe ≡ st.stripe → st'.count ≡ st.count
      → st'.descriptors.items ≡ set st.descriptors.items place None
      → st'.flags ≡ Firing.settle_all Firing.shut_state d.waits st.flags
      → KeepsOthers place st.index st'.index → Shows tag (shut f o (shut_of f o)) st'
  shut_shows st st' f o place d r at number fd stripe count items flags others =
      let c = r.count in
      let fit : FitsOpen tag f o d = fits_here tag st f o place d r at number fd in
      changed tag st st' f (shut f o (shut_of f o)) o.fd place None r fd
      (shut_fits tag st.stripe f o d fit r.ordered) (shut_else tag st.stripe f o d fit r.ordered)
      (shut_ordered tag st.stripe f o d fit r.ordered) stripe (c ∙ sym count) items
      (ap (map unasked_of) flags ∙ shut_flags tag st.stripe f o d fit r.ordered st.flags r.table.unasked)
      (indexed_set st.index st'.index st.descriptors.items place None r.table.many r.index others
      (λ x is. absurd (none-some x is)))

module _ (s c : ℕ) (past : List Entry) (o : Opening) where
  pub right_not_open : is_live past o ≡ false
      → Close o Closes.NotOpen ≡ reply_of s c past (Close o Closes.NotOpen)
  right_not_open h = ap (Close o) (picked (not (is_live past o)) _ _ (ap not h))

  pub right_shut : (xs : List ShutKey) → xs ≡ shut_of (facts_of s c past) o → is_live past o ≡ true
      → Close o (Closes.Shut xs) ≡ reply_of s c past (Close o (Closes.Shut xs))
  right_shut xs is live = ap (Close o) (ap Closes.Shut is ∙ passed (not (is_live past o)) _ _ (ap not live))
