-- A dispatch on the table is what the definitions say of it.
use Rattle.std.proofs.Common.{◌≡◌, ℕ, ◌+◌, ◌*◌, ◌≢◌, List, [], ◌∷◌, map, set, true, false, Bool, sym, refl}
use Rattle.std.proofs.Common.{ap, ◌∙◌, subst, arith}
use Rattle.std.specs.Prelude.{Option, Some, None, filter, if◌then◌else◌, not, ◌||◌, ◌&&◌, ◌==◌, slice_get}
use Rattle.std.specs.Prelude.{nat_lt}
use Rattle.std.specs.List.{list_any}
use Rattle.std.proofs.lemmas.Bool.{both_ways, and_parts, eqb-true, eq-eqb, false_from_ne_true}
use Rattle.std.proofs.lemmas.Option.{same_Some}
use Rattle.std.proofs.Math.Bool.{and-false, or-false}
use Rattle.reg_keys.specs.declared.opening.Opening.{Opening}
use Rattle.reg_keys.specs.declared.event.EventName.{EventName}
use Rattle.reg_keys.specs.declared.registration.Dir.{Dir}
use Rattle.reg_keys.specs.declared.registration.Dir.TheVariants.{Read, Write}
use Rattle.reg_keys.specs.declared.registration.Marks.{Marks}
use Rattle.reg_keys.specs.declared.entry.FiredKey.{FiredKey}
use Rattle.reg_keys.specs.declared.entry.DispatchOutcome.TheVariants as Dispatches
use Rattle.reg_keys.specs.declared.entry.Entry.{Entry}
use Rattle.reg_keys.specs.declared.entry.Entry.TheVariants.{Dispatch}
use Rattle.reg_keys.specs.Tests.{same, same_event, has_dir, how_many, IsIn}
use Rattle.reg_keys.specs.Histories.{is_live, Registered, EventOut, Unasked, HasRun, without, keys_run}
use Rattle.reg_keys.specs.Histories.{flag_run}
use Rattle.reg_keys.specs.Replies.{is_spent, is_flag, dir_out, fired_as, reply_of}
use Rattle.reg_keys.specs.ListLaws.{same_self, in_filter}
use Rattle.stripe_table.specs.Calls.{kind_of, kind_of_job, fired_key}
use Rattle.stripe_table.specs.Facts.{Facts, facts_of, next, waits_at, out_at, fired_of, flag_at, event_of}
use Rattle.stripe_table.specs.Facts.{with_event, run}
use Rattle.stripe_table.specs.Represents.{registered_of, outs_of, FitsOpen, Shows, unasked_of, IsOrdered}
use Rattle.stripe_table.specs.Represents.{AreOrdered}
use Rattle.stripe_table.specs.Flags.{flag_has}
use Rattle.stripe_table.specs.Index.{KeepsOthers, ListsAll}
use Rattle.stripe_table.specs.Loads as Loads
use Rattle.stripe_table.specs.Firing as Firing
use Rattle.stripe_table.specs.Descriptors as Kept
use Rattle.stripe_table.specs.declared.load.Payload.{Payload}
use Rattle.stripe_table.specs.declared.load.Payload.TheVariants.{Job, Flag}
use Rattle.stripe_table.specs.declared.descriptor.OutSlot.{OutSlot}
use Rattle.stripe_table.specs.declared.descriptor.Registration.{Registration}
use Rattle.stripe_table.specs.declared.descriptor.OpenDescriptor.{OpenDescriptor}
use Rattle.stripe_table.specs.declared.flags.UnaskedFlag.{UnaskedFlag}
use Rattle.stripe_table.specs.declared.stripe.Stripe.{Stripe}
use Rattle.stripe_table.proofs.Facts.{SameAt, fits_here, changed}
use Rattle.stripe_table.proofs.Listed.{indexed_set}
use Rattle.stripe_table.proofs.Naming.{other_fd, same_parts, any_there}
use Rattle.stripe_table.proofs.Steps.{picked, passed}
use Rattle.stripe_table.proofs.Settling.{settle, run_is, settled_is, fired_own, fired_other, stood_taken}
use Rattle.stripe_table.proofs.Settling.{settled_ordered}
use Rattle.stripe_table.proofs.Taking.{filter_swap, filter_spared, filter_all, filter_none, split_room}
use Rattle.stripe_table.proofs.Taking.{many_mapped, left_is, any_flag, waits_in, taken_here, left_here}

pub eq_turned : (a b : ℕ) → (a == b) ≡ (b == a)
eq_turned a b = by_case (b == a) refl
  where
    by_case : (c : Bool) → (b == a) ≡ c → (a == b) ≡ c
    by_case true e = eq-eqb a b (sym (eqb-true b a e))
    by_case false e =
        false_from_ne_true (a == b) (λ h. both_ways (b == a) e (eq-eqb b a (sym (eqb-true a b h))))

-- ---- what a descriptor runs

abbrev left_out : Option OutSlot → ℕ → Option OutSlot
left_out None n = None
left_out (Some x) n = if x.number == n then None else Some x

module _ {T : Type 0} where
  -- the event of this number is out, and is for the registration
  abbrev pub run_test : Option OutSlot → ℕ → Registration T → Bool
  run_test None n r = false
  run_test (Some x) n r = (x.number == n) && Kept.is_for x r

  pub taken_is : (out : Option OutSlot) (n : ℕ) (rs : List (Registration T))
      → filter (run_test out n) rs ≡ Kept.taken_by out n rs
  taken_is None n rs = filter_none (run_test None n) (λ r. refl) rs
  taken_is (Some x) n rs = by_case (x.number == n)
    where
      by_case : (b : Bool)
          → filter (λ r. b && Kept.is_for x r) rs ≡ (if b then filter (Kept.is_for x) rs else [])
      by_case true = refl
      by_case false = filter_none (λ r. false && Kept.is_for x r) (λ r. refl) rs

  abbrev ran_descriptor : OpenDescriptor T → Option OutSlot → ℕ → OpenDescriptor T
  ran_descriptor d out n = record d {
    out = left_out out n;
    waits = filter (λ r. not (run_test out n r)) d.waits;
    fired = d.fired + how_many Kept.flag_waits (filter (run_test out n) d.waits);
  }

  after_is : (d : OpenDescriptor T) (n : ℕ) (out : Option OutSlot) → d.out ≡ out
      → Kept.after_event out n d ≡ ran_descriptor d out n
  after_is d n None e =
      let none = filter_none (run_test None n) (λ r. refl) d.waits in
      let zero' : d.fired ≡ d.fired + how_many Kept.flag_waits (filter (run_test None n) d.waits) =
      (let z : how_many Kept.flag_waits (filter (run_test None n) d.waits) ≡ 0 =
      ap (how_many Kept.flag_waits) none in omega arith) in
      λ i. record d {
        out = e i;
        waits = sym (filter_all (λ r. not (run_test None n r)) (λ r. refl) d.waits) i;
        fired = zero' i;
      }
  after_is d n (Some x) e = by_case (x.number == n)
    where
      by_case : (b : Bool) → (if b then Kept.after_taking d x else d) ≡ record d {
        out = (if b then None else Some x);
        waits = filter (λ r. not (b && Kept.is_for x r)) d.waits;
        fired = d.fired + how_many Kept.flag_waits (filter (λ r. b && Kept.is_for x r) d.waits);
      }
      by_case true = refl
      by_case false =
          let none = filter_none (λ (r : Registration T). false && Kept.is_for x r) (λ r. refl) d.waits in
          let zero' : d.fired
          ≡ d.fired + how_many Kept.flag_waits (filter (λ r. false && Kept.is_for x r) d.waits) =
          (let z : how_many Kept.flag_waits (filter (λ r. false && Kept.is_for x r) d.waits) ≡ 0 =
          ap (how_many Kept.flag_waits) none in omega arith) in
          λ i. record d {
            out = e i;
            waits = sym (filter_all (λ r. not (false && Kept.is_for x r)) (λ r. refl) d.waits) i;
            fired = zero' i;
          }

  pub number_left : (d : OpenDescriptor T) (n : ℕ) → (Kept.after_run d n).number ≡ d.number
  number_left d n = ap (λ (x : OpenDescriptor T). x.number) (after_is d n d.out refl)

-- ---- what the definitions run

abbrev has_event : Facts → EventName → Dir → Bool
has_event f e d = list_any (λ x. same_event e x.event && dir_out x d) f.outs

abbrev runs : Facts → EventName → Registered → Bool
runs f e w = same e.opening w.opening && nat_lt w.key.number e.number && has_event f e w.dir

abbrev marks_in : Facts → Opening → Marks
marks_in f o = record { read = f.mark o Read; write = f.mark o Write }

abbrev pub ran_of : Facts → EventName → List FiredKey
ran_of f e = map (fired_as (marks_in f e.opening)) (filter (runs f e) f.waits)

module _ {T : Type 0} (tag : T → List (List ℕ)) (s : ℕ) (f : Facts) (o : Opening) (n : ℕ)
    (d : OpenDescriptor T) (fit : FitsOpen tag f o d) (r : AreOrdered s f) where
  abbrev event : EventName
  event = record { number = n; opening = o }

  event_is : (out : Option OutSlot) → d.out ≡ out → (dir : Dir)
      → has_event f event dir ≡ list_any (λ x. same_event event x.event && dir_out x dir) (outs_of out o)
  event_is out e dir =
      any_there (λ x. same_event event x.event && dir_out x dir) (out_at o.fd) (λ x h. let a =
      and_parts (same_event event x.event) (dir_out x dir) h in eq-eqb x.event.opening.fd o.fd
      (sym (same_parts o x.event.opening (and_parts (n == x.event.number) (same o x.event.opening) a.0).1).1))
      f.outs
      ∙ (ap (list_any (λ x. same_event event x.event && dir_out x dir)) fit.outs
      ∙ ap (λ z. list_any (λ x. same_event event x.event && dir_out x dir) (outs_of z o)) e)

  test_is : (out : Option OutSlot) → d.out ≡ out → (q : Registration T)
      → runs f event (registered_of tag o q) ≡ run_test out n q
  test_is None e q =
      ap (λ b. (same o o && nat_lt q.key n) && b) (event_is None e q.dir)
      ∙ and-false (same o o && nat_lt q.key n)
  test_is (Some x) e q =
      (λ i. (same_self o i && nat_lt q.key n) && event_is (Some x) e q.dir i)
      ∙ (bools (n == x.number) (same o o) (nat_lt q.key n) (nat_lt q.key x.number)
      (has_dir x.dirs q.dir) (dir_out (record {
        event = record { number = x.number; opening = o };
        read = has_dir x.dirs Read;
        write = has_dir x.dirs Write;
      }) q.dir)
      (same_self o) (dir_same q.dir) (λ h. ap (nat_lt q.key) (eqb-true n x.number h))
      ∙ ap (λ b. b && Kept.is_for x q) (eq_turned n x.number))
    where
      dir_same : (dir : Dir) → dir_out (record {
        event = record { number = x.number; opening = o };
        read = has_dir x.dirs Read;
        write = has_dir x.dirs Write;
      }) dir ≡ has_dir x.dirs dir
      dir_same Read = refl
      dir_same Write = refl

      bools : (t own lt lt' h h' : Bool) → own ≡ true → h' ≡ h → (t ≡ true → lt ≡ lt')
          → (lt && (((t && own) && h') || false)) ≡ (t && (lt' && h))
      bools true true lt lt' h h' e is l = λ i. l refl i && (or-false h' ∙ is) i
      bools true false lt lt' h h' e is l = absurd (both_ways false refl e)
      bools false own lt lt' h h' e is l = and-false lt

  pub taken_by_event : filter (runs f event) f.waits
      ≡ map (registered_of tag o) (filter (run_test d.out n) d.waits)
  taken_by_event =
      taken_here tag f o d fit (runs f event) (run_test d.out n) (λ w h.
      (and_parts (same o w.opening) (nat_lt w.key.number n)
      (and_parts (same o w.opening && nat_lt w.key.number n) (has_event f event w.dir) h).0).0)
      (test_is d.out refl)

  abbrev marks : Marks
  marks = marks_in f o

  own_runs : (w : Registered) → runs f event w ≡ true → same o w.opening ≡ true
  own_runs w h =
      (and_parts (same o w.opening) (nat_lt w.key.number n)
      (and_parts (same o w.opening && nat_lt w.key.number n) (has_event f event w.dir) h).0).0

  waits_left : without (keys_run (ran_of f event)) f.waits ≡ filter (λ w. not (runs f event w)) f.waits
  waits_left =
      left_is (λ (q : FiredKey). q.key) (fired_as marks) (λ w. refl) (runs f event) f.waits r.waits_ascend

  flags_settled : map (flag_run (ran_of f event)) f.flags
      ≡ settle (λ w. HasRun w.dir marks) (filter (runs f event) f.waits) f.flags
  flags_settled =
      run_is marks (filter (runs f event) f.waits) f.flags
      (stood_taken s (next s f) f.owner f.waits f.flags r (runs f event)).ascend

  out_cases : (out : Option OutSlot)
      → filter (λ (y : EventOut). not (same_event event y.event)) (outs_of out o) ≡ outs_of (left_out out n) o
  out_cases None = refl
  out_cases (Some x) =
      ap (λ b. if not (b && same o o) then y ∷ [] else []) (eq_turned n x.number) ∙ by_case (x.number == n)
    where
      y : EventOut
      y = record {
        event = record { number = x.number; opening = o };
        read = has_dir x.dirs Read;
        write = has_dir x.dirs Write;
      }

      by_case : (b : Bool)
          → (if not (b && same o o) then y ∷ [] else []) ≡ outs_of (if b then None else Some x) o
      by_case true = ap (λ c. if not c then y ∷ [] else []) (same_self o)
      by_case false = refl

  flags_many : how_many (λ (w : Registered). is_flag w.kind) (filter (runs f event) f.waits)
      ≡ how_many Kept.flag_waits (filter (run_test d.out n) d.waits)
  flags_many =
      ap (how_many (λ (w : Registered). is_flag w.kind)) taken_by_event
      ∙ many_mapped (λ (w : Registered). is_flag w.kind) Kept.flag_waits (registered_of tag o)
      (λ q. kind_same q.load) (filter (run_test d.out n) d.waits)
    where
      kind_same : (load : Payload T) → is_flag (kind_of tag load) ≡ Loads.is_flag load
      kind_same (Job x) = refl
      kind_same Flag = refl

  run_fits : FitsOpen tag (run f event (ran_of f event)) o (ran_descriptor d d.out n)
  run_fits = record {
    owner = fit.owner;
    read = fit.read;
    read_mark = fit.read_mark;
    write = fit.write;
    write_mark = fit.write_mark;
    waits =
        ap (filter (waits_at o.fd)) waits_left
        ∙ left_here tag f o d fit (runs f event) (run_test d.out n) (test_is d.out refl);
    outs =
        filter_swap (out_at o.fd) (λ (y : EventOut). not (same_event event y.event)) f.outs
        ∙ (ap (filter (λ (y : EventOut). not (same_event event y.event))) fit.outs ∙ out_cases d.out);
    fired =
        let a = ap (how_many (fired_of o)) flags_settled in
        let b = fired_own (λ w. HasRun w.dir marks) o (λ w. refl) (filter (runs f event) f.waits) f.flags
        (stood_taken s (next s f) f.owner f.waits f.flags r (runs f event))
        (λ w i. own_runs w (in_filter (runs f event) w f.waits i).1) in
        let c = flags_many in
        let e = fit.fired in omega arith;
    room =
        let a = split_room (run_test d.out n) Kept.flag_waits d.waits in
        let b = fit.room in omega arith;
  }

  run_else : (fd : ℕ) → fd ≢ o.fd → SameAt f (run f event (ran_of f event)) fd
  run_else fd ne = record {
    owner = refl;
    mark = λ p e is. refl;
    bit = λ p e is. refl;
    waits =
        ap (filter (waits_at fd)) waits_left
        ∙ filter_spared (waits_at fd) (runs f event) (λ w h. false_from_ne_true (runs f event w)
        (λ t. ne (sym ((same_parts o w.opening (own_runs w t)).1 ∙ eqb-true w.opening.fd fd h))))
        f.waits;
    outs =
        filter_spared (out_at fd) (λ (y : EventOut). same_event event y.event)
        (λ y h. false_from_ne_true (same_event event y.event) (λ t. ne
        (sym ((same_parts o y.event.opening (and_parts (n == y.event.number) (same o y.event.opening) t).1).1
        ∙ eqb-true y.event.opening.fd fd h))))
        f.outs;
    fired =
        λ p is. ap (how_many (fired_of p)) flags_settled
        ∙ fired_other (λ w. HasRun w.dir marks) p (filter (runs f event) f.waits) f.flags
        (stood_taken s (next s f) f.owner f.waits f.flags r (runs f event))
        (λ w i. other_fd p w.opening (λ e. ne (sym
        ((same_parts o w.opening (own_runs w (in_filter (runs f event) w f.waits i).1)).1 ∙ (sym e ∙ is)))));
  }

  run_ordered : AreOrdered s (run f event (ran_of f event))
  run_ordered =
      subst (λ (x : List Registered × List Unasked). IsOrdered s (next s f) f.owner x.0 x.1)
      (λ i. (sym waits_left i, sym flags_settled i))
      (settled_ordered s (next s f) f.owner f.waits f.flags r (runs f event) (λ w. HasRun w.dir marks) f.owner
      (λ fd p e. e) (λ w i e. r.held w i))

  marks_same : Kept.marks_now d ≡ marks
  marks_same i = record { read = sym fit.read_mark i; write = sym fit.write_mark i }

  kept_taken : map (registered_of tag o) (Kept.taken d n) ≡ filter (runs f event) f.waits
  kept_taken = ap (map (registered_of tag o)) (sym (taken_is d.out n d.waits)) ∙ sym taken_by_event

  run_flags : (fl : List UnaskedFlag) → map unasked_of fl ≡ f.flags
      → map unasked_of (Firing.settle_all (Firing.run_state (Kept.marks_now d)) (Kept.taken d n) fl)
      ≡ map (flag_run (ran_of f event)) f.flags
  run_flags fl is =
      ap (λ (m : Marks). map unasked_of (Firing.settle_all (Firing.run_state m) (Kept.taken d n) fl))
      marks_same
      ∙ (settled_is tag o (Firing.run_state marks) (λ w. HasRun w.dir marks) (λ q. refl)
      (Kept.taken d n) fl jobs
      ∙ ((λ i. settle (λ w. HasRun w.dir marks) (kept_taken i) (is i)) ∙ sym flags_settled))
    where
      kind_same : (q : Registration T) → Kept.flag_waits q ≡ false → is_flag (kind_of tag q.load) ≡ false
      kind_same q = by_load q.load
        where
          by_load : (load : Payload T) → Loads.is_flag load ≡ false → is_flag (kind_of tag load) ≡ false
          by_load (Job x) e = refl
          by_load Flag e = e

      jobs : (q : Registration T) → IsIn q (Kept.taken d n) → Kept.flag_waits q ≡ false
          → list_any (flag_has q.key) fl ≡ false
      jobs q i e =
          let here = (in_filter (run_test d.out n) q d.waits
          (subst (λ (l : List (Registration T)). IsIn q l) (sym (taken_is d.out n d.waits)) i)).0 in
          sym (any_flag q.key fl)
          ∙ (ap (list_any (flag_at q.key)) is
          ∙ r.jobs (registered_of tag o q) (waits_in tag f o d fit q here) (kind_same q e))

  pub list_is : map (fired_key tag) (map (Firing.fired_as (Kept.marks_now d)) (Kept.taken d n))
      ≡ ran_of f event
  list_is =
      ap (λ (m : Marks). map (fired_key tag) (map (Firing.fired_as m) (Kept.taken d n))) marks_same
      ∙ (both (Kept.taken d n) ∙ ap (map (fired_as marks)) kept_taken)
    where
      kind_is : (load : Payload T) → kind_of_job tag (Loads.job_of load) ≡ kind_of tag load
      kind_is (Job x) = refl
      kind_is Flag = refl

      both : (qs : List (Registration T)) → map (fired_key tag) (map (Firing.fired_as marks) qs)
          ≡ map (fired_as marks) (map (registered_of tag o) qs)
      both [] = refl
      both (q ∷ qs) =
          λ i. record { key = record { number = q.key }; dir = q.dir; marks = marks; kind = kind_is q.load i }
          ∷ both qs i

module _ {T : Type 0} (tag : T → List (List ℕ)) (st st' : Stripe T) (f : Facts) (e : EventName) (place : ℕ)
    (d d' : OpenDescriptor T) (r : Shows tag f st) (at : slice_get st.descriptors.items place ≡ Some (Some d))
    (number : d.number ≡ e.opening.number) (fd : e.opening.fd ≡ 32 * place + st.stripe) where
  pub run_shows : d' ≡ Kept.after_run d e.number → st'.stripe ≡ st.stripe → st'.count ≡ st.count
      → st'.descriptors.items ≡ set st.descriptors.items place (Some d')
      → st'.flags ≡ Firing.settle_all (Firing.run_state (Kept.marks_now d)) (Kept.taken d e.number) st.flags
      → KeepsOthers place st.index st'.index
      → (ListsAll st.index place d.waits → ListsAll st'.index place d'.waits)
      → Shows tag (run f e (ran_of f e)) st'
  run_shows d_is stripe count items flags others here =
      let c = r.count in
      let fit : FitsOpen tag f e.opening d = fits_here tag st f e.opening place d r at number fd in
      let after = after_is d e.number d.out refl in
      changed tag st st' f (run f e (ran_of f e)) e.opening.fd place
      (Some (ran_descriptor d d.out e.number)) r fd
      (subst (λ (p : Opening). FitsOpen tag (run f e (ran_of f e)) p (ran_descriptor d d.out e.number))
      (λ i. record { number = sym number i; fd = e.opening.fd })
      (run_fits tag st.stripe f e.opening e.number d fit r.ordered))
      (run_else tag st.stripe f e.opening e.number d fit r.ordered)
      (run_ordered tag st.stripe f e.opening e.number d fit r.ordered) stripe (c ∙ sym count)
      (items ∙ ap (λ (x : OpenDescriptor T). set st.descriptors.items place (Some x)) (d_is ∙ after))
      (ap (map unasked_of) flags
      ∙ run_flags tag st.stripe f e.opening e.number d fit r.ordered st.flags r.table.unasked)
      (indexed_set st.index st'.index st.descriptors.items place
      (Some (ran_descriptor d d.out e.number)) r.table.many r.index others
      (λ x is k h.
      here (r.index place d at) k (ap (λ (z : OpenDescriptor T). list_any (Kept.waits_as k) z.waits)
      (d_is ∙ (after ∙ same_Some (ran_descriptor d d.out e.number) x is)) ∙ h)))

module _ (s c : ℕ) (past : List Entry) (e : EventName) where
  pub facts_run : (ran : List FiredKey) (x : Option EventName)
      → facts_of s c (Dispatch e (Dispatches.Ran ran x) ∷ past) ≡ with_event (run (facts_of s c past) e ran) x
  facts_run ran None = refl
  facts_run ran (Some y) = refl

  pub right_stale : is_live past e.opening ≡ false
      → Dispatch e Dispatches.Stale ≡ reply_of s c past (Dispatch e Dispatches.Stale)
  right_stale h = ap (Dispatch e) (picked (not (is_live past e.opening)) _ _ (ap not h))

  pub right_spent : is_live past e.opening ≡ true → is_spent c past ≡ true
      → Dispatch e Dispatches.Spent ≡ reply_of s c past (Dispatch e Dispatches.Spent)
  right_spent live h =
      ap (Dispatch e)
      (picked (is_spent c past) _ _ h ∙ passed (not (is_live past e.opening)) _ _ (ap not live))

  pub right_ran : (ran : List FiredKey) (x : Option EventName) → ran ≡ ran_of (facts_of s c past) e
      → is_live past e.opening ≡ true → is_spent c past ≡ false
      → x ≡ event_of s (run (facts_of s c past) e (ran_of (facts_of s c past) e)) e.opening
      → Dispatch e (Dispatches.Ran ran x) ≡ reply_of s c past (Dispatch e (Dispatches.Ran ran x))
  right_ran ran x ran_is live room is =
      ap (Dispatch e) ((λ i. Dispatches.Ran (ran_is i) (is i))
      ∙ (passed (is_spent c past) _ _ room ∙ passed (not (is_live past e.opening)) _ _ (ap not live)))
