-- Entries that a pass makes, one after another, in one stripe.
use Rattle.std.proofs.Common.{◌≡◌, ℕ, zero, suc, ◌<◌, List, [], ◌∷◌, ◌++◌, map, length, sym, refl, ap, ◌∙◌}
use Rattle.std.proofs.Common.{subst}
use Rattle.std.specs.Prelude.{slice_get, slice_set, Some}
use Rattle.std.proofs.lemmas.List.{append_assoc, append-nil, map-append, set-set}
use Rattle.std.proofs.lemmas.Option.{same_Some}
use Rattle.reg_keys.specs.declared.entry.Entry.{Entry}
use Rattle.reg_keys.specs.Tests.{IsIn}
use Rattle.reg_keys.specs.ListLaws.{in_filter, in_map}
use Rattle.reg_keys.specs.Laws.{in_right, in_past}
use Rattle.turn_cell.specs.declared.view.View.{View}
use Rattle.turn_cell.specs.Classes.{within, first_of}
use Rattle.turn_cell.specs.History.{Log, entries_in, Ahead}
use Rattle.turn_cell.specs.View.{own_entries, seat_of}
use Rattle.turn_cell.specs.ListLaws.{prefix_refl, prefix_trans, get_here, some_at}
use Rattle.event_mgr.specs.Stripes.{past_in, StripeEntered, StripeSpent}
use Rattle.event_mgr.specs.Manager.{MgrView, OnlyAt}
use Rattle.fd_wait.specs.Waiting.{HasMade, MetSpent}

pub made_none : (x : View Entry) → HasMade [] x x
made_none x = record { own = sym (append-nil (own_entries x)); begins = prefix_refl x.seen; classes = refl }

pub made_one : (s : ℕ) (e : Entry) (x y : View Entry) → StripeEntered s e x y → HasMade (e ∷ []) x y
made_one s e x y k = record {
  own = k.own;
  begins = (
    k.between ++ (seat_of x, e) ∷ [],
    sym (append_assoc x.seen k.between ((seat_of x, e) ∷ [])) ∙ sym k.seen,
  );
  classes = k.classes;
}

pub made_then : (es fs : List Entry) (x y z : View Entry) → HasMade es x y → HasMade fs y z
    → HasMade (es ++ fs) x z
made_then es fs x y z a b = let put : ℕ → Entry → ℕ × Entry = λ n e. (n, e) in
    let seats : map (put (seat_of y)) fs ≡ map (put (seat_of x)) fs =
    ap (λ cs. map (put (first_of cs)) fs) a.classes in
    record {
      own =
          b.own ∙ (λ i. a.own i ++ seats i)
          ∙ append_assoc (own_entries x) (map (put (seat_of x)) es) (map (put (seat_of x)) fs)
          ∙ ap (λ l. own_entries x ++ l) (sym (map-append (put (seat_of x)) es fs));
      begins = prefix_trans x.seen y.seen z.seen a.begins b.begins;
      classes = b.classes ∙ a.classes;
    }

-- a call that found the cell spent makes none
pub spent_made : (s : ℕ) (x y : View Entry) → StripeSpent s x y → HasMade [] x y × MetSpent y
spent_made s x y k =
    let seen = k.unmoved.seen in
    let classes = k.unmoved.classes in (
      record {
        own = (λ i. entries_in (classes i) (seen i)) ∙ sym (append-nil (own_entries x));
        begins = ([], append-nil x.seen ∙ sym seen);
        classes = classes;
      },
      record {
        met = k.met_spent;
        log = k.log;
        ahead =
            subst (λ (t : List (ℕ × ℕ) × Log Entry). Ahead t.0 t.1 k.log)
            (λ i. (sym classes i, sym seen i)) k.ahead;
        full = k.full;
      },
    )

-- what was made stands in what the pass has seen
pub made_in_past : (es : List Entry) (x y : View Entry) (e : Entry) → HasMade es x y
    → IsIn e es → IsIn e (past_in y.seen)
made_in_past es x y e m i = let put : Entry → ℕ × Entry = λ e. (seat_of x, e) in
    let own : IsIn (put e) (own_entries y) =
    subst (IsIn (put e)) (sym m.own) (in_right (put e) (own_entries x) (map put es) (in_map put e es i)) in
    let seen : IsIn (put e) y.seen =
    (in_filter (λ (t : ℕ × Entry). within y.classes t.0) (put e) y.seen own).0 in
    in_past e (map (λ (t : ℕ × Entry). t.1) y.seen) (in_map (λ (t : ℕ × Entry). t.1) (put e) y.seen seen)

-- what stands at a place is put there
same_set : (l : List (View Entry)) (i : ℕ) (x : View Entry) → slice_get l i ≡ Some x → l ≡ slice_set l i x
same_set [] i x e = refl
same_set (y ∷ ys) zero x e = ap (λ (z : View Entry). z ∷ ys) (same_Some y x e)
same_set (y ∷ ys) (suc i) x e = ap (λ (l : List (View Entry)). y ∷ l) (same_set ys i x e)

module _ (s : ℕ) where
  pub only_imp : (R S : View Entry → View Entry → Type 0) (v w : MgrView)
      → ((x y : View Entry) → R x y → S x y) → OnlyAt s R v w → OnlyAt s S v w
  only_imp R S v w f a = record {
    stripe = record {
      before = a.stripe.before;
      after = a.stripe.after;
      there = a.stripe.there;
      others = a.stripe.others;
      moved = f a.stripe.before a.stripe.after a.stripe.moved;
    };
    numbers = a.numbers;
  }

  -- one change of a stripe, and then another
  pub only_then : (R S : View Entry → View Entry → Type 0) (u v w : MgrView) → OnlyAt s R u v
      → OnlyAt s S v w → OnlyAt s (λ x z. (y : View Entry) × R x y × S y z) u w
  only_then R S u v w a b =
      let p = a.stripe in
      let q = b.stripe in
      let here : slice_get v.stripes s ≡ Some p.after =
      ap (λ l. slice_get l s) p.others ∙ get_here u.stripes s p.after p.before p.there in
      let same : q.before ≡ p.after = same_Some q.before p.after (sym q.there ∙ here) in record {
        stripe = record {
          before = p.before;
          after = q.after;
          there = p.there;
          others = q.others ∙ ap (λ l. slice_set l s q.after) p.others ∙ set-set u.stripes s p.after q.after;
          moved = (p.after, p.moved, subst (λ (y : View Entry). S y q.after) same q.moved);
        };
        numbers = b.numbers ∙ a.numbers;
      }

  -- nothing was done
  pub only_none : (R : View Entry → View Entry → Type 0) (v : MgrView) → ((x : View Entry) → R x x)
      → s < length v.stripes → OnlyAt s R v v
  only_none R v f lt = let x = some_at v.stripes s lt in record {
    stripe = record {
      before = x.0;
      after = x.0;
      there = x.1;
      others = same_set v.stripes s x.0 x.1;
      moved = f x.0;
    };
    numbers = refl;
  }

  -- what stands at the place afterwards
  pub there_after : (R : View Entry → View Entry → Type 0) (v w : MgrView) → (a : OnlyAt s R v w)
      → slice_get w.stripes s ≡ Some a.stripe.after
  there_after R v w a =
      ap (λ l. slice_get l s) a.stripe.others
      ∙ get_here v.stripes s a.stripe.after a.stripe.before a.stripe.there
