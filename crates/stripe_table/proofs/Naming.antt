-- The event that a descriptor names is the one that is to be named.
use Rattle.std.proofs.Common.{◌≡◌, ℕ, ◌+◌, ◌*◌, ◌≢◌, List, [], ◌∷◌, ◌++◌, map, set, true, false, Bool, sym}
use Rattle.std.proofs.Common.{refl, ap, ◌∙◌, subst, arith}
use Rattle.std.specs.Prelude.{Option, Some, None, is_some, filter, not, ◌||◌, ◌&&◌, ◌==◌, slice_get}
use Rattle.std.specs.List.{list_any}
use Rattle.std.proofs.lemmas.Bool.{both_ways, or_left, and_parts, and_from, eqb-true, eq-eqb, ne_eqb}
use Rattle.std.proofs.lemmas.Bool.{false_from_ne_true, cond-true, cond-false}
use Rattle.std.proofs.lemmas.Option.{same_Some, none-some}
use Rattle.std.proofs.Math.Bool.{and-or_distrib_left}
use Rattle.std.proofs.lemmas.List.Elements.{filter-append}
use Rattle.std.proofs.lemmas.List.{append-nil}
use Rattle.std.proofs.Math.Bool.{and-false}
use Rattle.reg_keys.specs.declared.opening.Opening.{Opening}
use Rattle.reg_keys.specs.declared.event.EventName.{EventName}
use Rattle.reg_keys.specs.declared.registration.Dir.{Dir}
use Rattle.reg_keys.specs.declared.registration.Dir.TheVariants.{Read, Write}
use Rattle.reg_keys.specs.declared.registration.Dirs.{Dirs}
use Rattle.reg_keys.specs.Tests.{same, same_dir, has_dir}
use Rattle.reg_keys.specs.Histories.{Registered, EventOut, is_of}
use Rattle.reg_keys.specs.ListLaws.{same_self, split_filter}
use Rattle.stripe_table.specs.Facts.{Facts, next, waits_at, out_at, is_due, has_due, due_in, has_out}
use Rattle.stripe_table.specs.Facts.{event_of, with_event}
use Rattle.stripe_table.specs.Represents.{unasked_of, outs_of, registered_of, FitsOpen, FitsAt, Shows}
use Rattle.stripe_table.specs.Descriptors.{goes, due_to_read, due_to_write, dirs_of, dirs_to_name, unless_out}
use Rattle.stripe_table.specs.Descriptors.{with_out, named}
use Rattle.stripe_table.specs.declared.descriptor.OutSlot.{OutSlot}
use Rattle.stripe_table.specs.declared.descriptor.Registration.{Registration}
use Rattle.stripe_table.specs.declared.descriptor.OpenDescriptor.{OpenDescriptor}
use Rattle.stripe_table.specs.declared.stripe.Stripe.{Stripe}
use Rattle.stripe_table.specs.Index.{IsIndexed}
use Rattle.stripe_table.proofs.Facts.{SameAt, ordered_more, fits_here, changed, same_refl}
use Rattle.stripe_table.proofs.Listed.{indexed_kept}

pub same_parts : (o p : Opening) → same o p ≡ true → (o.number ≡ p.number) × (o.fd ≡ p.fd)
same_parts o p e =
    let a = and_parts (o.number == p.number) (o.fd == p.fd) e in
    (eqb-true o.number p.number a.0, eqb-true o.fd p.fd a.1)

pub other_fd : (o p : Opening) → o.fd ≢ p.fd → same o p ≡ false
other_fd o p ne = false_from_ne_true (same o p) (λ e. ne (same_parts o p e).1)

-- a test that holds of kept elements alone reads the kept ones alone
pub any_there : {A : Type 0} (f p : A → Bool) → ((x : A) → f x ≡ true → p x ≡ true) → (xs : List A)
    → list_any f xs ≡ list_any f (filter p xs)
any_there f p le [] = refl
any_there f p le (x ∷ xs) =
    let r = any_there f p le xs in
    split_filter p x xs (λ l. list_any f (x ∷ xs) ≡ list_any f l) (λ _. ap (λ b. f x || b) r)
    (λ gone. ap (λ b. b || list_any f xs) (false_from_ne_true (f x) (λ h. both_ways (p x) gone (le x h))) ∙ r)

due_cases_read : (rb wb x y : Bool) → (rb || ((rb && x) || (wb && y)))
    ≡ ((rb && (same_dir Read Read || x)) || (wb && (same_dir Write Read || y)))
due_cases_read true true true true = refl
due_cases_read true true true false = refl
due_cases_read true true false true = refl
due_cases_read true true false false = refl
due_cases_read true false true true = refl
due_cases_read true false true false = refl
due_cases_read true false false true = refl
due_cases_read true false false false = refl
due_cases_read false true true true = refl
due_cases_read false true true false = refl
due_cases_read false true false true = refl
due_cases_read false true false false = refl
due_cases_read false false true true = refl
due_cases_read false false true false = refl
due_cases_read false false false true = refl
due_cases_read false false false false = refl

due_cases_write : (rb wb x y : Bool) → (wb || ((rb && x) || (wb && y)))
    ≡ ((rb && (same_dir Read Write || x)) || (wb && (same_dir Write Write || y)))
due_cases_write true true true true = refl
due_cases_write true true true false = refl
due_cases_write true true false true = refl
due_cases_write true true false false = refl
due_cases_write true false true true = refl
due_cases_write true false true false = refl
due_cases_write true false false true = refl
due_cases_write true false false false = refl
due_cases_write false true true true = refl
due_cases_write false true true false = refl
due_cases_write false true false true = refl
due_cases_write false true false false = refl
due_cases_write false false true true = refl
due_cases_write false false true false = refl
due_cases_write false false false true = refl
due_cases_write false false false false = refl

due_step : (d : Dir) (rb wb x y bit : Bool) → (d ≡ Read → bit ≡ rb) → (d ≡ Write → bit ≡ wb)
    → (bit || ((rb && x) || (wb && y))) ≡ ((rb && (same_dir Read d || x)) || (wb && (same_dir Write d || y)))
due_step Read rb wb x y bit r w =
    subst (λ (b : Bool). (b || ((rb && x) || (wb && y)))
    ≡ ((rb && (same_dir Read Read || x)) || (wb && (same_dir Write Read || y))))
    (sym (r refl)) (due_cases_read rb wb x y)
due_step Write rb wb x y bit r w =
    subst (λ (b : Bool). (b || ((rb && x) || (wb && y)))
    ≡ ((rb && (same_dir Read Write || x)) || (wb && (same_dir Write Write || y))))
    (sym (w refl)) (due_cases_write rb wb x y)

dir_bit : (e d : Dir) (rb bit : Bool) → (same_dir e d ≡ true → bit ≡ rb)
    → (bit && same_dir e d) ≡ (rb && same_dir e d)
dir_bit e d rb bit h = by_case (same_dir e d) refl
  where
    by_case : (t : Bool) → same_dir e d ≡ t → (bit && same_dir e d) ≡ (rb && same_dir e d)
    by_case true is = ap (λ b. b && same_dir e d) (h is)
    by_case false is = ap (λ t. bit && t) is ∙ (and-false bit ∙ sym (ap (λ t. rb && t) is ∙ and-false rb))

neither : (a b : Bool) → dirs_of a b ≡ None → (a || b) ≡ false
neither true true e = absurd (none-some _ (sym e))
neither true false e = absurd (none-some _ (sym e))
neither false true e = absurd (none-some _ (sym e))
neither false false e = refl

either : (a b : Bool) (ds : Dirs) → dirs_of a b ≡ Some ds
    → ((a || b) ≡ true) × (has_dir ds Read ≡ a) × (has_dir ds Write ≡ b)
either true true ds e =
    let s = same_Some _ ds e in
    (refl, ap (λ (x : Dirs). has_dir x Read) (sym s), ap (λ (x : Dirs). has_dir x Write) (sym s))
either true false ds e =
    let s = same_Some _ ds e in
    (refl, ap (λ (x : Dirs). has_dir x Read) (sym s), ap (λ (x : Dirs). has_dir x Write) (sym s))
either false true ds e =
    let s = same_Some _ ds e in
    (refl, ap (λ (x : Dirs). has_dir x Read) (sym s), ap (λ (x : Dirs). has_dir x Write) (sym s))
either false false ds e = absurd (none-some ds e)

module _ {T : Type 0} (tag : T → List (List ℕ)) (f : Facts) (o : Opening) (d : OpenDescriptor T)
    (fit : FitsOpen tag f o d) where
  due_one : (r : Registration T) → is_due f o (registered_of tag o r) ≡ f.bit o r.dir
  due_one r = ap (λ b. b && f.bit o r.dir) (same_self o)

  due_places : (rs : List (Registration T)) → list_any (is_due f o) (map (registered_of tag o) rs)
      ≡ ((d.read.ready && list_any (goes Read) rs) || (d.write.ready && list_any (goes Write) rs))
  due_places [] = sym (nothing d.read.ready d.write.ready)
    where
      nothing : (a b : Bool) → ((a && false) || (b && false)) ≡ false
      nothing true true = refl
      nothing true false = refl
      nothing false true = refl
      nothing false false = refl
  due_places (r ∷ rs) =
      (λ i. due_one r i || due_places rs i)
      ∙ due_step r.dir d.read.ready d.write.ready (list_any (goes Read) rs) (list_any (goes Write) rs)
      (f.bit o r.dir) (λ is. ap (f.bit o) is ∙ fit.read) (λ is. ap (f.bit o) is ∙ fit.write)

  pub any_here : (g : Registered → Bool) → ((w : Registered) → g w ≡ true → w.opening.fd ≡ o.fd)
      → list_any g f.waits ≡ list_any g (map (registered_of tag o) d.waits)
  any_here g le =
      any_there g (waits_at o.fd) (λ w h. eq-eqb w.opening.fd o.fd (le w h)) f.waits
      ∙ ap (list_any g) fit.waits

  has_due_is : has_due f o ≡ (due_to_read d || due_to_write d)
  has_due_is =
      any_here (is_due f o) (λ w h. sym (same_parts o w.opening (and_parts (same o w.opening) _ h).0).1)
      ∙ due_places d.waits

  due_in_places : (e : Dir) (b : Bool)
      → ((x : Dir) → same_dir e x ≡ true → f.bit o x ≡ b) → (rs : List (Registration T))
      → list_any (λ k. is_due f o k && same_dir e k.dir) (map (registered_of tag o) rs)
      ≡ (b && list_any (goes e) rs)
  due_in_places e true h [] = refl
  due_in_places e false h [] = refl
  due_in_places e b h (r ∷ rs) =
      (λ i. (due_one r i && same_dir e r.dir) || due_in_places e b h rs i)
      ∙ (ap (λ z. z || (b && list_any (goes e) rs)) (dir_bit e r.dir b (f.bit o r.dir) (h r.dir))
      ∙ sym (and-or_distrib_left b (same_dir e r.dir) (list_any (goes e) rs)))

  due_in_is : (e : Dir) (b : Bool) → ((x : Dir) → same_dir e x ≡ true → f.bit o x ≡ b)
      → due_in f o e ≡ (b && list_any (goes e) d.waits)
  due_in_is e b h =
      any_here (λ k. is_due f o k && same_dir e k.dir) (λ w k.
      sym (same_parts o w.opening (and_parts (same o w.opening) _ (and_parts (is_due f o w) _ k).0).0).1)
      ∙ due_in_places e b h d.waits

  reads : (x : Dir) → same_dir Read x ≡ true → f.bit o x ≡ d.read.ready
  reads Read e = fit.read
  reads Write e = absurd (both_ways false refl e)

  writes : (x : Dir) → same_dir Write x ≡ true → f.bit o x ≡ d.write.ready
  writes Write e = fit.write
  writes Read e = absurd (both_ways false refl e)

  has_out_is : has_out f o ≡ is_some d.out
  has_out_is =
      any_there (is_of o) (out_at o.fd)
      (λ x h. eq-eqb x.event.opening.fd o.fd (sym (same_parts o x.event.opening h).1)) f.outs
      ∙ (ap (list_any (is_of o)) fit.outs ∙ by_out d.out)
    where
      by_out : (x : Option OutSlot) → list_any (is_of o) (outs_of x o) ≡ is_some x
      by_out None = refl
      by_out (Some x) = or_left (same o o) false (same_self o)

  test_is : (has_due f o && not (has_out f o)) ≡ ((due_to_read d || due_to_write d) && not (is_some d.out))
  test_is i = has_due_is i && not (has_out_is i)

  -- no event is named
  pub event_none : (s : ℕ) → dirs_to_name d ≡ None → event_of s f o ≡ None
  event_none s e = cond-false (has_due f o && not (has_out f o)) _ None (test_is ∙ by_out d.out e)
    where
      by_out : (x : Option OutSlot) → unless_out x (dirs_of (due_to_read d) (due_to_write d)) ≡ None
          → ((due_to_read d || due_to_write d) && not (is_some x)) ≡ false
      by_out None e = ap (λ b. b && true) (neither (due_to_read d) (due_to_write d) e)
      by_out (Some x) e = and-false (due_to_read d || due_to_write d)

  out_free : (x : Option OutSlot) (ds : Dirs)
      → unless_out x (dirs_of (due_to_read d) (due_to_write d)) ≡ Some ds
      → (x ≡ None) × (dirs_of (due_to_read d) (due_to_write d) ≡ Some ds)
  out_free None ds e = (refl, e)
  out_free (Some x) ds e = absurd (none-some ds e)

  -- the event that is named has these directions
  pub event_some : (s : ℕ) (ds : Dirs) → dirs_to_name d ≡ Some ds
      → event_of s f o ≡ Some (record { number = next s f; opening = o })
  event_some s ds e =
      let free = out_free d.out ds e in
      let due = either (due_to_read d) (due_to_write d) ds free.1 in
      cond-true (has_due f o && not (has_out f o)) _ None
      (test_is ∙ and_from (due_to_read d || due_to_write d) (not (is_some d.out)) due.0
      (ap (λ (x : Option OutSlot). not (is_some x)) free.0))

  pub named_fits : (n : ℕ) (ds : Dirs) → dirs_to_name d ≡ Some ds
      → FitsOpen tag (with_event f (Some (record { number = n; opening = o }))) o
      (record d { out = Some (record { number = n; dirs = ds }) })
  named_fits n ds e =
      let free = out_free d.out ds e in
      let due = either (due_to_read d) (due_to_write d) ds free.1 in
      let x : EventOut = record {
        event = record { number = n; opening = o };
        read = due_in f o Read;
        write = due_in f o Write;
      } in
      let y : EventOut = record {
        event = record { number = n; opening = o };
        read = has_dir ds Read;
        write = has_dir ds Write;
      } in
      let same_out : x ≡ y = λ i. record {
        event = record { number = n; opening = o };
        read = (due_in_is Read d.read.ready reads ∙ sym due.1) i;
        write = (due_in_is Write d.write.ready writes ∙ sym due.2) i;
      } in record {
        owner = fit.owner;
        read = fit.read;
        read_mark = fit.read_mark;
        write = fit.write;
        write_mark = fit.write_mark;
        waits = fit.waits;
        outs =
            filter-append (out_at o.fd) f.outs (x ∷ [])
            ∙ (ap (λ (l : List EventOut). l ++ filter (out_at o.fd) (x ∷ []))
            (fit.outs ∙ ap (λ z. outs_of z o) free.0)
            ∙ (cond-true (o.fd == o.fd) (x ∷ []) [] (eq-eqb o.fd o.fd refl)
            ∙ ap (λ (z : EventOut). z ∷ []) same_out));
        fired = fit.fired;
        room = fit.room;
      }

  pub named_else : (n fd : ℕ) → fd ≢ o.fd
      → SameAt f (with_event f (Some (record { number = n; opening = o }))) fd
  named_else n fd ne = record {
    owner = refl;
    mark = λ p e is. refl;
    bit = λ p e is. refl;
    waits = refl;
    outs =
        filter-append (out_at fd) f.outs _
        ∙ (ap (λ (l : List EventOut). filter (out_at fd) f.outs ++ l)
        (cond-false (o.fd == fd) _ [] (ne_eqb o.fd fd (λ e. ne (sym e)))) ∙ append-nil _);
    fired = λ p is. refl;
  }

module _ {T : Type 0} (tag : T → List (List ℕ)) (st : Stripe T) (o : Opening) (place : ℕ)
    (d : OpenDescriptor T) (at : slice_get st.descriptors.items place ≡ Some (Some d))
    (number : d.number ≡ o.number) (fd : o.fd ≡ 32 * place + st.stripe) where
  none_left : (x : Option Dirs) → is_some x ≡ false → x ≡ None
  none_left None e = refl
  none_left (Some x) e = absurd (both_ways true e refl)

  some_there : (x : Option Dirs) → is_some x ≡ true → (ds : Dirs) × (x ≡ Some ds)
  some_there None e = absurd (both_ways false refl e)
  some_there (Some x) e = (x, refl)

  module _ (f : Facts) (r : Shows tag f st) where
    fit : FitsOpen tag f o d
    fit = fits_here tag st f o place d r at number fd

    pub at_own : (g : Facts) (d' : OpenDescriptor T) → d'.number ≡ o.number → FitsOpen tag g o d'
        → FitsAt tag g o.fd (Some d')
    at_own g d' is h =
        subst (λ (p : Opening). FitsOpen tag g p d') (λ i. record { number = sym is i; fd = o.fd }) h

    pub unnamed_event : is_some (dirs_to_name d) ≡ false → None ≡ event_of st.stripe f o
    unnamed_event e = sym (event_none tag f o d fit st.stripe (none_left (dirs_to_name d) e))

    pub unnamed_shows : (st' : Stripe T) (d' : OpenDescriptor T) (n : ℕ)
        → is_some (dirs_to_name d) ≡ false → d' ≡ named d n → st'.stripe ≡ st.stripe
        → st'.count ≡ st.count → st'.descriptors.items ≡ set st.descriptors.items place (Some d')
        → st'.flags ≡ st.flags → st'.index ≡ st.index → Shows tag f st'
    unnamed_shows st' d' n e is stripe count items flags index = let none = none_left (dirs_to_name d) e in
        changed tag st st' f f o.fd place (Some d) r fd (at_own f d number fit)
        (λ fd2 ne. same_refl f fd2) r.ordered stripe (r.count ∙ sym count)
        (items ∙ ap (λ (x : OpenDescriptor T). set st.descriptors.items place (Some x))
        (is ∙ ap (with_out d n) none))
        (ap (map unasked_of) flags ∙ r.table.unasked)
        (subst (λ (l : List ℕ). IsIndexed l (set st.descriptors.items place (Some d))) (sym index)
        (indexed_kept st.index st.descriptors.items place d d r.table.many r.index at refl))

    pub named_event : (n : ℕ) → n ≡ 32 * st.count + st.stripe → is_some (dirs_to_name d) ≡ true
        → Some (record { number = n; opening = o }) ≡ event_of st.stripe f o
    named_event n n_is e =
        let ds = some_there (dirs_to_name d) e in
        let c = r.count in
        sym (event_some tag f o d fit st.stripe ds.0 ds.1
        ∙ ap (λ (k : ℕ). Some (record { number = k; opening = o })) (omega arith))

    pub named_shows : (st' : Stripe T) (d' : OpenDescriptor T) (n : ℕ) (e : EventName)
        → is_some (dirs_to_name d) ≡ true → d' ≡ named d n → e ≡ record { number = n; opening = o }
        → st'.stripe ≡ st.stripe → st'.count ≡ st.count + 1
        → st'.descriptors.items ≡ set st.descriptors.items place (Some d') → st'.flags ≡ st.flags
        → st'.index ≡ st.index
        → Shows tag (with_event f (Some e)) st'
    named_shows st' d' n e some is e_is stripe count items flags index =
        let ds = some_there (dirs_to_name d) some in
        let c = r.count in
        subst (λ (x : EventName). Shows tag (with_event f (Some x)) st') (sym e_is)
        (changed tag st st' f (with_event f (Some (record { number = n; opening = o }))) o.fd place
        (Some (record d { out = Some (record { number = n; dirs = ds.0 }) })) r fd
        (at_own (with_event f (Some (record { number = n; opening = o })))
        (record d { out = Some (record { number = n; dirs = ds.0 }) }) number
        (named_fits tag f o d fit n ds.0 ds.1))
        (named_else tag f o d fit n)
        (ordered_more st.stripe (next st.stripe f)
        (32 * (f.count + 1) + st.stripe) f.owner f.waits f.flags (omega arith) r.ordered)
        stripe (omega arith)
        (items ∙ ap (λ (x : OpenDescriptor T). set st.descriptors.items place (Some x))
        (is ∙ ap (with_out d n) ds.1))
        (ap (map unasked_of) flags ∙ r.table.unasked)
        (subst (λ (l : List ℕ). IsIndexed l (set st.descriptors.items place
        (Some (record d { out = Some (record { number = n; dirs = ds.0 }) }))))
        (sym index) (indexed_kept st.index st.descriptors.items place d
        (record d { out = Some (record { number = n; dirs = ds.0 }) }) r.table.many r.index at refl)))
