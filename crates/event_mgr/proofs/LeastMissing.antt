-- The least number that isn't in a list, and what a draw's reply says.
use Rattle.std.proofs.Common.{◌≡◌, ℕ, zero, suc, ◌<◌, inl, inr, true, false, List, Option, Some, None, refl}
use Rattle.std.proofs.Common.{sym, ap, subst, arith}
use Rattle.std.proofs.lemmas.Bool.{cond_both, cases_eq, cases_order, both_ways}
use Rattle.reg_keys.specs.declared.limits.TheConstants.{DESCRIPTORS}
use Rattle.event_mgr.specs.declared.numbers.NumbersCall.TheVariants.{Draw, GiveBack}
use Rattle.event_mgr.specs.declared.numbers.NumbersReply.{NumbersReply}
use Rattle.event_mgr.specs.declared.numbers.NumbersReply.TheVariants.{Drawn, AllOut, Back, NotOut}
use Rattle.event_mgr.specs.declared.numbers.NumbersEntry.{NumbersEntry}
use Rattle.event_mgr.specs.Numbers.{IsLeastFree, AreAllOut}
use Rattle.event_mgr.specs.Numbers.{is_among, or_next, least_missing, numbers_out, drawn, number_reply}

-- what the answer to a search below k says
abbrev Tells : ℕ → List ℕ → Option ℕ → Type 0
Tells k ms None = (m : ℕ) → m < k → is_among ms m ≡ true
Tells k ms (Some n) = (n < k) × (is_among ms n ≡ false) × ((m : ℕ) → m < n → is_among ms m ≡ true)

below_next : (ms : List ℕ) (k : ℕ) → ((m : ℕ) → m < k → is_among ms m ≡ true) → is_among ms k ≡ true
    → (m : ℕ) → m < suc k → is_among ms m ≡ true
below_next ms k below at m l = elim (cases_eq m k) [
  | inl e ↦ subst (λ x. is_among ms x ≡ true) (sym e) at
  | inr e ↦ below m (omega arith)
]

tells_next : (k : ℕ) (ms : List ℕ) (o : Option ℕ) → Tells k ms o → Tells (suc k) ms (or_next ms k o)
tells_next k ms (Some n) t = (omega (arith, t.0), t.1, t.2)
tells_next k ms None t =
    cond_both (is_among ms k) None (Some k) (λ o. Tells (suc k) ms o) (below_next ms k t)
    (λ e. (omega arith, e, t))

tells : (k : ℕ) (ms : List ℕ) → Tells k ms (least_missing k ms)
unfolding least_missing
tells zero ms = λ m l. absurd (omega arith)
tells (suc k) ms = tells_next k ms (least_missing k ms) (tells k ms)

-- a search finds what is the least, and nothing where all are there
found : (k n : ℕ) (ms : List ℕ) (o : Option ℕ) → Tells k ms o → n < k → is_among ms n ≡ false
    → ((m : ℕ) → m < n → is_among ms m ≡ true) → o ≡ Some n
found k n ms None t l free least = absurd (both_ways _ free (t n l))
found k n ms (Some m) t l free least = elim (cases_order m n) [
  | inl e ↦ ap Some e
  | inr (inl e) ↦ absurd (both_ways _ t.1 (least m e))
  | inr (inr e) ↦ absurd (both_ways _ free (t.2 n e))
]

found_none : (k : ℕ) (ms : List ℕ) (o : Option ℕ) → Tells k ms o → ((m : ℕ) → m < k → is_among ms m ≡ true)
    → o ≡ None
found_none k ms None t all = refl
found_none k ms (Some n) t all = absurd (both_ways _ t.1 (all n t.0))

-- ---- draws

-- a draw that finds the least number has the right reply
pub draw_is_least : (past : List NumbersEntry) (n : ℕ) → IsLeastFree (is_among (numbers_out past)) n
    → Drawn n ≡ number_reply past Draw
draw_is_least past n f =
    ap drawn (sym (found DESCRIPTORS n (numbers_out past) (least_missing DESCRIPTORS (numbers_out past))
    (tells DESCRIPTORS (numbers_out past)) f.within f.free f.least))

-- so has one that finds none
pub draw_is_all_out : (past : List NumbersEntry) → AreAllOut (is_among (numbers_out past))
    → AllOut ≡ number_reply past Draw
draw_is_all_out past all =
    ap drawn (sym (found_none DESCRIPTORS (numbers_out past) (least_missing DESCRIPTORS (numbers_out past))
    (tells DESCRIPTORS (numbers_out past)) all))

-- what the right reply to a draw says
abbrev SaysOfDraw : List ℕ → NumbersReply → Type 0
SaysOfDraw ms (Drawn n) = IsLeastFree (is_among ms) n
SaysOfDraw ms AllOut = AreAllOut (is_among ms)
SaysOfDraw ms _ = ⊥

says_of : (ms : List ℕ) (o : Option ℕ) → Tells DESCRIPTORS ms o → SaysOfDraw ms (drawn o)
says_of ms None t = t
says_of ms (Some n) t = record { within = t.0; free = t.1; least = t.2 }

says : (past : List NumbersEntry) → SaysOfDraw (numbers_out past) (number_reply past Draw)
says past =
    says_of (numbers_out past) (least_missing DESCRIPTORS (numbers_out past))
    (tells DESCRIPTORS (numbers_out past))

pub drawn_is_least : (past : List NumbersEntry) (n : ℕ) → number_reply past Draw ≡ Drawn n
    → IsLeastFree (is_among (numbers_out past)) n
drawn_is_least past n e = subst (SaysOfDraw (numbers_out past)) e (says past)

pub all_are_out : (past : List NumbersEntry) → number_reply past Draw ≡ AllOut
    → AreAllOut (is_among (numbers_out past))
all_are_out past e = subst (SaysOfDraw (numbers_out past)) e (says past)

-- ---- kinds of reply

abbrev pub IsDrawReply : NumbersReply → Type 0
IsDrawReply (Drawn n) = n < DESCRIPTORS
IsDrawReply AllOut = Unit {0}
IsDrawReply _ = ⊥

abbrev pub IsGiveBackReply : NumbersReply → Type 0
IsGiveBackReply Back = Unit {0}
IsGiveBackReply NotOut = Unit {0}
IsGiveBackReply _ = ⊥

in_kind : (ms : List ℕ) (r : NumbersReply) → SaysOfDraw ms r → IsDrawReply r
in_kind ms (Drawn n) s = s.within
in_kind ms AllOut s = tt
in_kind ms Back s = s
in_kind ms NotOut s = s

pub draw_kind : (past : List NumbersEntry) (r : NumbersReply) → r ≡ number_reply past Draw → IsDrawReply r
draw_kind past r e = in_kind (numbers_out past) r (subst (SaysOfDraw (numbers_out past)) (sym e) (says past))

pub give_back_kind : (past : List NumbersEntry) (n : ℕ) (r : NumbersReply)
    → r ≡ number_reply past (GiveBack n) → IsGiveBackReply r
give_back_kind past n r e =
    subst IsGiveBackReply (sym e)
    (cond_both (is_among (numbers_out past) n) Back NotOut IsGiveBackReply (λ x. tt) (λ x. tt))
