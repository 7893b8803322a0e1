-- What the calls say, from what their atomic steps told.
use Rattle.std.proofs.Common.{◌≡◌, ◌≢◌, ℕ, ◌+◌, ◌*◌, ◌/◌, ◌%◌, ◌^◌, ◌<◌, ◌≤◌, List, [], ◌∷◌, ◌++◌, length}
use Rattle.std.proofs.Common.{true, false, Bool, sym, refl, ap, ◌∙◌, subst, arith}
use Rattle.std.specs.Prelude.{◌==◌, ◌||◌}
use Rattle.std.proofs.lemmas.Bool.{or_right, eq-eqb, ne_eqb}
use Rattle.turn_cell.specs.declared.view.Turn.TheVariants.{Idle, Holds}
use Rattle.turn_cell.specs.declared.view.JoinPending.TheVariants.{Nothing}
use Rattle.turn_cell.specs.declared.view.View.{View}
use Rattle.turn_cell.specs.Weights.{weigh}
use Rattle.turn_cell.specs.Classes.{AreClasses, count_in, first_of}
use Rattle.turn_cell.specs.History.{Log, entries_in, Foreign, AtFirsts, Ahead, IsPart}
use Rattle.turn_cell.specs.View.{own_entries, seat_of, turned, tried, has_seen, left_of, right_of, joined_of}
use Rattle.turn_cell.specs.View.{both_of, JoinFits}
use Rattle.turn_cell.specs.Calls.{IsUnmoved, IsRefused, IsSplit, IsJoined, Entered, WasSpent}
use Rattle.turn_cell.specs.ClassLaws.{append_apart, count_halves, count_in-append}
use Rattle.turn_cell.proofs.Entries.{entries_in-halved, entries_in-other_half, entries_in_step, weigh_apart}
use Rattle.turn_cell.proofs.Joins.{join_keeps, join_same}

or_no : (b : Bool) (n : ℕ) → n ≢ 2 ^ 63 → (b || (n == 2 ^ 63)) ≡ b
or_no true n other = refl
or_no false n other = ne_eqb n (2 ^ 63) other

module _ {E : Type 0} where
  -- a load that had nothing to tell changes nothing
  pub untold : (v w : View E) → v.told ≡ Nothing → w ≡ record v { told = Nothing } → w ≡ v
  untold v w none is = is ∙ (λ i. record v { told = sym none i })

  pub unmoved_refl : (v : View E) → IsUnmoved v v
  unmoved_refl v = record { name = refl; seen = refl; classes = refl }

  -- the turn was found held
  pub is_refused : (v w : View E) (n : ℕ) → w ≡ tried n Idle v → n % 2 ≡ 1 → IsRefused v w
  is_refused v w n is odd =
      let f : w.found ≡ n = ap (λ (x : View E). x.found) is in
      (ap (λ (k : ℕ). k % 2) f ∙ odd, is ∙ ap (λ (k : ℕ). tried k Idle v) (sym f))

  pub refused_found : (v w : View E) (n : ℕ) → w ≡ tried n Idle v → n / 2 ≡ w.found / 2
  refused_found v w n is = ap (λ (k : ℕ). k / 2) (sym (ap (λ (x : View E). x.found) is))

  -- a pass that was refused again is where it was
  pub refused_again : (v w x : View E) → IsUnmoved v w → IsRefused w x → IsUnmoved v x
  refused_again v w x u r = record {
    name = ap (λ (y : View E). y.name) r.1 ∙ u.name;
    seen = ap (λ (y : View E). y.seen) r.1 ∙ u.seen;
    classes = ap (λ (y : View E). y.classes) r.1 ∙ u.classes;
  }

  pub refused_spent : (w x : View E) → IsRefused w x → x.met_spent ≡ w.met_spent
  refused_spent w x r =
      ap (λ (y : View E). y.met_spent) r.1 ∙ or_no w.met_spent x.found (λ e. let o = r.0 in omega arith)

  pub refused_tries : (w x : View E) → IsRefused w x → x.tries ≡ w.tries + 1
  refused_tries w x r = ap (λ (y : View E). y.tries) r.1

  pub is_split : (v w o : View E) → AreClasses v.classes → AtFirsts v.classes v.seen
      → w ≡ left_of v → o ≡ right_of v → IsSplit v w o
  is_split v w o are firsts left right = record {
    left = left;
    right = right;
    own = ap own_entries left ∙ entries_in-halved v.classes are v.seen firsts;
    none = ap own_entries right ∙ entries_in-other_half v.classes are v.seen firsts;
    counts =
        λ n. (λ i. count_in n (left i).classes + count_in n (right i).classes) ∙ count_halves n v.classes are;
  }

  pub is_joined : (v o w : View E) → AreClasses (v.classes ++ o.classes) → JoinFits (both_of v o).told
      → w ≡ joined_of v o → IsJoined v o w
  is_joined v o w are fits is =
      subst (IsJoined v o) (sym is) (let k = join_keeps v.classes o.classes v.seen o.seen fits in
      let j : View E = joined_of v o in
      let apart = append_apart v.classes o.classes are in
      record {
        both = refl;
        begins = k.begins;
        begins_other = k.begins_other;
        kept = k.kept;
        kept_other = k.kept_other;
        weighs =
            λ f. weigh_apart v.classes o.classes apart f j.seen
            ∙ (λ i. weigh f (k.kept i) + weigh f (k.kept_other i));
        same = λ none_in. join_same v.classes o.classes v.seen o.seen j.seen k none_in;
        counts = λ n. count_in-append n v.classes o.classes;
      })

  module _ {P : Type 0} (stands : P → Log E → Type 0) (name_of : P → List ℕ) where
    -- the turn was taken and ended with an entry
    pub entered : (e : E) (v v1 w : View E) (n : ℕ) (l : Log E) → n ≡ 2 * length l → length l ≤ 2 ^ 62
        → n ≢ 2 ^ 63 → v1 ≡ tried n (Holds l) v → w ≡ has_seen (l ++ (seat_of v1, e) ∷ []) v1
        → Ahead v.classes v.seen l → AreClasses v.classes → v.classes ≢ [] → (p : P)
        → IsPart stands name_of w.name w.seen p → Entered stands name_of e v w × (w.tries ≡ v.tries + 1)
    entered e v v1 w n l word most less first second ahead are full p part =
        let x : ℕ × E = (seat_of v, e) in
        let to : View E = has_seen (l ++ x ∷ []) (tried n (Holds l) v) in
        let is : w ≡ to = second ∙ ap (λ (y : View E). has_seen (l ++ (seat_of y, e) ∷ []) y) first in
        let long : length l ≡ length (v.seen ++ ahead.0) = ap length ahead.1 in
        let different : length l ≢ 2 ^ 62 = λ h. less (omega arith) in
        let seen : w.seen ≡ (v.seen ++ ahead.0) ++ x ∷ [] =
        ap (λ (y : View E). y.seen) is ∙ ap (λ (k : Log E). k ++ x ∷ []) ahead.1 in
        let classes : w.classes ≡ v.classes = ap (λ (y : View E). y.classes) is in (
          record {
            between = ahead.0;
            seen = seen;
            foreign = ahead.2;
            own =
                (λ i. entries_in (classes i) (seen i))
                ∙ entries_in_step v.classes v.seen ahead.0 e full are ahead.2;
            name = ap (λ (y : View E). y.name) is;
            classes = classes;
            are = are;
            met_spent = ap (λ (y : View E). y.met_spent) is ∙ or_no v.met_spent n less;
            found = ap (λ (y : View E). y.found) is ∙ (word ∙ ap (λ (k : ℕ). 2 * k) long);
            short = omega arith;
            part = p;
            is_part = part;
          },
          ap (λ (y : View E). y.tries) is,
        )

    -- the turn was taken of a history at its longest, and given back
    pub was_spent : (v v1 w : View E) (n : ℕ) (l : Log E) → n ≡ 2 * length l → n ≡ 2 ^ 63
        → v1 ≡ tried n (Holds l) v → w ≡ turned Idle v1 → Ahead v.classes v.seen l
        → (p : P) → IsPart stands name_of v.name l p → WasSpent stands name_of v w × (w.tries ≡ v.tries + 1)
    was_spent v v1 w n l word at first second ahead p part =
        let is : w ≡ turned Idle (tried n (Holds l) v) = second ∙ ap (turned Idle) first in (
          record {
            unmoved = record {
              name = ap (λ (y : View E). y.name) is;
              seen = ap (λ (y : View E). y.seen) is;
              classes = ap (λ (y : View E). y.classes) is;
            };
            found = ap (λ (y : View E). y.found) is ∙ at;
            met_spent =
                ap (λ (y : View E). y.met_spent) is
                ∙ or_right v.met_spent (n == 2 ^ 63) (eq-eqb n (2 ^ 63) at);
            log = l;
            ahead = ahead;
            full = omega arith;
            part = p;
            is_part = part;
          },
          ap (λ (y : View E). y.tries) is,
        )

    -- the same of a pass that was refused before
    pub entered_from : (e : E) (v u w : View E) → IsUnmoved v u → u.met_spent ≡ v.met_spent
        → Entered stands name_of e u w → Entered stands name_of e v w
    entered_from e v u w un ms en = record {
      between = en.between;
      seen = en.seen ∙ (λ i. (un.seen i ++ en.between) ++ (first_of (un.classes i), e) ∷ []);
      foreign = subst (λ cs. Foreign cs en.between) un.classes en.foreign;
      own = en.own ∙ (λ i. entries_in (un.classes i) (un.seen i) ++ (first_of (un.classes i), e) ∷ []);
      name = en.name ∙ un.name;
      classes = en.classes ∙ un.classes;
      are = subst AreClasses un.classes en.are;
      met_spent = en.met_spent ∙ ms;
      found = en.found ∙ (λ i. 2 * length (un.seen i ++ en.between));
      short = subst (λ (l : Log E). length (l ++ en.between) < 2 ^ 62) un.seen en.short;
      part = en.part;
      is_part = en.is_part;
    }

    pub spent_from : (v u w : View E) → IsUnmoved v u → WasSpent stands name_of u w
        → WasSpent stands name_of v w
    spent_from v u w un sp = record {
      unmoved = record {
        name = sp.unmoved.name ∙ un.name;
        seen = sp.unmoved.seen ∙ un.seen;
        classes = sp.unmoved.classes ∙ un.classes;
      };
      found = sp.found;
      met_spent = sp.met_spent;
      log = sp.log;
      ahead =
          subst (λ (x : List (ℕ × ℕ) × Log E). Ahead x.0 x.1 sp.log)
          (λ i. (un.classes i, un.seen i)) sp.ahead;
      full = sp.full;
      part = sp.part;
      is_part = subst (λ name. IsPart stands name_of name sp.log sp.part) un.name sp.is_part;
    }
