-- How the numbers that are out change, and what the bitmap then shows.
use Rattle.std.proofs.Common.{◌≡◌, ℕ, ◌+◌, ◌*◌, ◌<◌, ◌≤◌, inl, inr, Bool, true, false, not, ◌&&◌, ◌||◌, List}
use Rattle.std.proofs.Common.{[], ◌∷◌, filter, refl, sym, ap, subst, ◌∙◌, arith}
use Rattle.std.specs.Prelude.{◌==◌, All, if◌then◌else◌}
use Rattle.std.proofs.lemmas.Bool.{true≢false, and_right, cases_eq, cases_lt, eq-eqb, ne_eqb, eqb-true}
use Rattle.std.proofs.lemmas.Bool.{cond-true, cond-false}
use Rattle.std.proofs.lemmas.List.Elements.{All-cons, All-filter}
use Rattle.std.proofs.lemmas.List.Folds.{list_any_none}
use Rattle.reg_keys.specs.declared.limits.TheConstants.{DESCRIPTORS}
use Rattle.event_mgr.specs.declared.numbers.NumbersCall.TheVariants.{Draw, GiveBack}
use Rattle.event_mgr.specs.declared.numbers.NumbersReply.TheVariants.{Drawn, AllOut, Back, NotOut}
use Rattle.event_mgr.specs.declared.numbers.NumbersEntry.{NumbersEntry}
use Rattle.event_mgr.specs.declared.numbers.Numbers.{Numbers}
use Rattle.event_mgr.specs.FreeNumbers.{ShowsOut, IsBitmap, put_out, put_in}
use Rattle.event_mgr.specs.Numbers.{IsLeastFree, AreAllOut}
use Rattle.event_mgr.specs.Numbers.{is_among, numbers_out}
use Rattle.event_mgr.specs.RepresentsNumbers.{RepresentsNumbers}
use Rattle.event_mgr.proofs.LeastMissing.{draw_is_least, draw_is_all_out}

-- the same number
drop_one : (x r : Bool) → (not x && r) ≡ (not x && (x || r))
drop_one true r = refl
drop_one false r = refl

-- another number
keep_one : (x y r : Bool) → (x ≡ true → y ≡ false) → (y || (not x && r)) ≡ (not x && (y || r))
keep_one true true r apart = absurd (true≢false (apart refl))
keep_one true false r apart = refl
keep_one false y r apart = refl

-- without a number the others are among the list as before
pub among_without : (n k : ℕ) (ms : List ℕ)
    → is_among (filter (λ m. not (m == n)) ms) k ≡ put_in n (is_among ms) k
among_without n k [] = sym (and_right _ _ refl)
among_without n k (m ∷ ms) = elim (cases_eq m n) [
  | inl e ↦
      ap
      (λ b. is_among (if not b then m ∷ filter (λ x. not (x == n)) ms else filter (λ x. not (x == n)) ms) k)
      (eq-eqb m n e)
      ∙ among_without n k ms ∙ drop_one (n == k) (is_among ms k)
      ∙ ap (λ x. not (n == k) && ((x == k) || is_among ms k)) (sym e)
  | inr e ↦
      ap
      (λ b. is_among (if not b then m ∷ filter (λ x. not (x == n)) ms else filter (λ x. not (x == n)) ms) k)
      (ne_eqb m n e)
      ∙ ap (λ b. (m == k) || b) (among_without n k ms)
      ∙ keep_one (n == k) (m == k) (is_among ms k) (λ same. ne_eqb m k (λ f. e (f ∙ sym (eqb-true n k same))))
]

-- a bitmap shows what it shows by any test that answers alike
shows_same : (out test : ℕ → Bool) (words : List ℕ) (s : ℕ) → ((n : ℕ) → test n ≡ out n)
    → IsBitmap out words s → IsBitmap test words s
shows_same out test words s e b =
    record { many = b.many; each = λ i j wi wj. e (64 * i + j) ∙ b.each i j wi wj; empty = b.empty }

apart_from_last : (m : ℕ) → m < DESCRIPTORS → DESCRIPTORS ≤ m → ⊥
apart_from_last m l g = omega arith

-- a number beyond the last isn't out
none_beyond : (ms : List ℕ) (n : ℕ) → All (λ m. m < DESCRIPTORS) ms → DESCRIPTORS ≤ n → is_among ms n ≡ false
none_beyond ms n all l =
    list_any_none (λ m. m == n) ms
    (λ k d lk. ne_eqb _ _ (λ e. apart_from_last _ (all k d lk) (subst (λ x. DESCRIPTORS ≤ x) (sym e) l)))

-- ---- each call

pub stands_drawn : (past : List NumbersEntry) (n : ℕ) (old new : Numbers) → RepresentsNumbers past old
    → IsLeastFree (is_among (numbers_out past)) n
    × ShowsOut (put_out n (is_among (numbers_out past))) new.free
    → RepresentsNumbers (record { call = Draw; reply = Drawn n } ∷ past) new
stands_drawn past n old new s taken = record {
  right = (draw_is_least past n taken.0, s.right);
  within = All-cons (λ m. m < DESCRIPTORS) n (numbers_out past) taken.0.within s.within;
  shows = taken.1;
}

pub stands_all_out : (past : List NumbersEntry) (old new : Numbers) → RepresentsNumbers past old
    → AreAllOut (is_among (numbers_out past)) × ShowsOut (is_among (numbers_out past)) new.free
    → RepresentsNumbers (record { call = Draw; reply = AllOut } ∷ past) new
stands_all_out past old new s none =
    record { right = (draw_is_all_out past none.0, s.right); within = s.within; shows = none.1 }

pub stands_back : (past : List NumbersEntry) (n : ℕ) (old new : Numbers) → RepresentsNumbers past old
    → (n < DESCRIPTORS) × (is_among (numbers_out past) n ≡ true)
    × ShowsOut (put_in n (is_among (numbers_out past))) new.free
    → RepresentsNumbers (record { call = GiveBack n; reply = Back } ∷ past) new
stands_back past n old new s back = record {
  right = (sym (cond-true _ Back NotOut back.1), s.right);
  within = All-filter (λ m. not (m == n)) (λ m. m < DESCRIPTORS) (numbers_out past) s.within;
  shows =
      shows_same (put_in n (is_among (numbers_out past)))
      (is_among (filter (λ m. not (m == n)) (numbers_out past))) _ _
      (λ k. among_without n k (numbers_out past)) back.2;
}

pub stands_not_out : (past : List NumbersEntry) (n : ℕ) (old new : Numbers) → RepresentsNumbers past old
    → (n < DESCRIPTORS → is_among (numbers_out past) n ≡ false)
    × ShowsOut (is_among (numbers_out past)) new.free
    → RepresentsNumbers (record { call = GiveBack n; reply = NotOut } ∷ past) new
stands_not_out past n old new s not_out = record {
  right = (
    sym (cond-false _ Back NotOut (elim (cases_lt n DESCRIPTORS) [
      | inl l ↦ not_out.0 l
      | inr l ↦ none_beyond (numbers_out past) n s.within l
    ])),
    s.right,
  );
  within = s.within;
  shows = not_out.1;
}

pub given_back : (past : List NumbersEntry) (n : ℕ)
    → is_among (numbers_out (record { call = GiveBack n; reply = Back } ∷ past)) n ≡ false
given_back past n =
    among_without n n (numbers_out past) ∙ ap (λ b. not b && is_among (numbers_out past) n) (eq-eqb n n refl)
