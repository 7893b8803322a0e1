-- A report on the table is what the definitions say of it.
use Rattle.std.proofs.Common.{◌≡◌, ℕ, ◌+◌, ◌*◌, ◌≢◌, List, ◌∷◌, map, set, true, false, Bool, sym, refl, ap}
use Rattle.std.proofs.Common.{◌∙◌, subst, arith}
use Rattle.std.specs.Prelude.{Option, Some, None, if◌then◌else◌, not, ◌||◌, ◌&&◌, slice_get}
use Rattle.std.proofs.lemmas.Bool.{both_ways, and_left, cond-false}
use Rattle.reg_keys.specs.declared.opening.Opening.{Opening}
use Rattle.reg_keys.specs.declared.event.EventName.{EventName}
use Rattle.reg_keys.specs.declared.registration.Dir.TheVariants.{Read, Write}
use Rattle.reg_keys.specs.declared.registration.Dirs.{Dirs}
use Rattle.reg_keys.specs.declared.entry.ReportOutcome.TheVariants as Reports
use Rattle.reg_keys.specs.declared.entry.Entry.{Entry}
use Rattle.reg_keys.specs.declared.entry.Entry.TheVariants.{Report}
use Rattle.reg_keys.specs.Tests.{same, has_dir}
use Rattle.reg_keys.specs.Histories.{is_live}
use Rattle.reg_keys.specs.Replies.{is_spent, event_named, reply_of}
use Rattle.reg_keys.specs.ListLaws.{same_self}
use Rattle.stripe_table.specs.Facts.{Facts, facts_of, next, event_of, with_event, noted}
use Rattle.stripe_table.specs.Represents.{FitsOpen, Shows, unasked_of}
use Rattle.stripe_table.specs.Descriptors as Kept
use Rattle.stripe_table.specs.declared.descriptor.Side.{Side}
use Rattle.stripe_table.specs.declared.descriptor.OpenDescriptor.{OpenDescriptor}
use Rattle.stripe_table.specs.declared.stripe.Stripe.{Stripe}
use Rattle.stripe_table.specs.Index.{IsIndexed}
use Rattle.stripe_table.proofs.Listed.{indexed_kept}
use Rattle.stripe_table.proofs.Facts.{SameAt, ordered_more, fits_here, changed}
use Rattle.stripe_table.proofs.Naming.{other_fd, at_own}
use Rattle.stripe_table.proofs.Steps.{picked, passed}

side_bit : (b h bit : Bool) (n : ℕ) (x : Side) → b ≡ true → bit ≡ x.ready
    → ((b && h) || bit) ≡ (if h then Kept.ready_since n else x).ready
side_bit true true bit n x e is = refl
side_bit true false bit n x e is = is
side_bit false h bit n x e is = absurd (both_ways false refl e)

side_mark : (b h : Bool) (k m n : ℕ) (x : Side) → b ≡ true → n ≡ k → m ≡ x.mark
    → (if b && h then k else m) ≡ (if h then Kept.ready_since n else x).mark
side_mark true true k m n x e k_is is = sym k_is
side_mark true false k m n x e k_is is = is
side_mark false h k m n x e k_is is = absurd (both_ways false refl e)

module _ {T : Type 0} (tag : T → List (List ℕ)) (s : ℕ) where
  noted_fits : (f : Facts) (o : Opening) (d : OpenDescriptor T) (ds : Dirs) (n : ℕ) → n ≡ next s f
      → FitsOpen tag f o d → FitsOpen tag (noted s f o ds) o (Kept.noted d ds n)
  noted_fits f o d ds n n_is fit = record {
    owner = fit.owner;
    read = side_bit (same o o) (has_dir ds Read) (f.bit o Read) n d.read (same_self o) fit.read;
    read_mark =
        side_mark (same o o) (has_dir ds Read) (next s f) (f.mark o Read) n d.read
        (same_self o) n_is fit.read_mark;
    write = side_bit (same o o) (has_dir ds Write) (f.bit o Write) n d.write (same_self o) fit.write;
    write_mark =
        side_mark (same o o) (has_dir ds Write) (next s f) (f.mark o Write) n d.write
        (same_self o) n_is fit.write_mark;
    waits = fit.waits;
    outs = fit.outs;
    fired = fit.fired;
    room = fit.room;
  }

  noted_else : (f : Facts) (o : Opening) (ds : Dirs) (fd : ℕ) → fd ≢ o.fd → SameAt f (noted s f o ds) fd
  noted_else f o ds fd ne = record {
    owner = refl;
    mark =
        λ p e is. cond-false (same o p && has_dir ds e) (next s f) (f.mark p e)
        (and_left (same o p) (has_dir ds e) (other_fd o p (λ q. ne (sym (q ∙ is)))));
    bit =
        λ p e is.
        ap (λ b. b || f.bit p e) (and_left (same o p) (has_dir ds e) (other_fd o p (λ q. ne (sym (q ∙ is)))));
    waits = refl;
    outs = refl;
    fired = λ p is. refl;
  }

  pub noted_shows : (st st' : Stripe T) (f : Facts) (o : Opening)
      (place : ℕ) (d d' : OpenDescriptor T) (ds : Dirs)
      → st.stripe ≡ s → Shows tag f st → slice_get st.descriptors.items place ≡ Some (Some d)
      → d.number ≡ o.number → o.fd ≡ 32 * place + st.stripe
      → d' ≡ Kept.noted d ds (32 * st.count + st.stripe) → st'.stripe ≡ st.stripe → st'.count ≡ st.count + 1
      → st'.descriptors.items ≡ set st.descriptors.items place (Some d') → st'.flags ≡ st.flags
      → st'.index ≡ st.index → Shows tag (noted s f o ds) st'
  noted_shows st st' f o place d d' ds s_is r at number fd d_is stripe count items flags index =
      let c = r.count in
      let n : ℕ = 32 * st.count + st.stripe in
      let kept : OpenDescriptor T = Kept.noted d ds n in
      changed tag st st' f (noted s f o ds) o.fd place (Some kept) r fd
      (at_own tag st o place d at number fd f r (noted s f o ds) kept number
      (noted_fits f o d ds n (omega arith) (fits_here tag st f o place d r at number fd)))
      (noted_else f o ds)
      (ordered_more st.stripe (next st.stripe f)
      (32 * (f.count + 1) + st.stripe) f.owner f.waits f.flags (omega arith) r.ordered)
      stripe (omega arith)
      (items ∙ ap (λ (x : OpenDescriptor T). set st.descriptors.items place (Some x)) d_is)
      (ap (map unasked_of) flags ∙ r.table.unasked)
      (subst (λ (l : List ℕ). IsIndexed l (set st.descriptors.items place (Some kept))) (sym index)
      (indexed_kept st.index st.descriptors.items place d kept r.table.many r.index at refl))

  module _ (c : ℕ) (past : List Entry) (o : Opening) (ds : Dirs) where
    pub facts_noted : (e : Option EventName) → facts_of s c (Report o ds (Reports.Noted e) ∷ past)
        ≡ with_event (noted s (facts_of s c past) o ds) e
    facts_noted None = refl
    facts_noted (Some e) = refl

    pub event_noted : event_named s c (Report o ds (Reports.Noted None) ∷ past) o
        ≡ event_of s (noted s (facts_of s c past) o ds) o
    event_noted = ap (λ (f : Facts). event_of s f o) (facts_noted None)

    pub right_stale : is_live past o ≡ false
        → Report o ds Reports.Stale ≡ reply_of s c past (Report o ds Reports.Stale)
    right_stale e = ap (Report o ds) (picked (not (is_live past o)) _ _ (ap not e))

    pub right_spent : is_live past o ≡ true → is_spent c past ≡ true
        → Report o ds Reports.Spent ≡ reply_of s c past (Report o ds Reports.Spent)
    right_spent live e =
        ap (Report o ds) (picked (is_spent c past) _ _ e ∙ passed (not (is_live past o)) _ _ (ap not live))

    pub right_noted : (e : Option EventName) → is_live past o ≡ true
        → is_spent c past ≡ false → e ≡ event_of s (noted s (facts_of s c past) o ds) o
        → Report o ds (Reports.Noted e) ≡ reply_of s c past (Report o ds (Reports.Noted e))
    right_noted e live room is =
        ap (Report o ds) (ap Reports.Noted (is ∙ sym event_noted)
        ∙ (passed (is_spent c past) _ _ room ∙ passed (not (is_live past o)) _ _ (ap not live)))
