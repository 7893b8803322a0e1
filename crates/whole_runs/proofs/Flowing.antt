-- Acts one after another, and how what there may still be done passes from one to the next.
use Rattle.std.proofs.Common.{◌≡◌, ℕ, zero, suc, ◌+◌, ◌≤◌, List, [], ◌∷◌, ◌++◌, map, Bool, refl}
use Rattle.std.proofs.Common.{sym, ap, ◌∙◌, arith, append_assoc}
use Rattle.std.proofs.lemmas.List.{map-append}
use Rattle.reg_keys.specs.declared.opening.Opening.{Opening}
use Rattle.reg_keys.specs.Tests.{total}
use Rattle.turn_cell.specs.Weights.{weigh}
use Rattle.turn_cell.specs.ListLaws.{weigh-append}
use Rattle.warp_tally.specs.declared.calls.TallyEntry.{TallyEntry}
use Rattle.warp_tally.specs.Accounts.{finished_by, finished_in, turns_away}
use Rattle.warp_books.specs.Books.{FinishedTold}
use Rattle.warp_runner.specs.Acts.{Acts, then}
use Rattle.whole_runs.specs.Registrations.{registers, taken}
use Rattle.whole_runs.proofs.Flows.{Credit, Flows, Handed, AllCount, accepted, accepted_any, accepts_of}
use Rattle.whole_runs.proofs.Flows.{given, is_handed, opens_of, shut}

pub total_append : {A : Type 0} (f : A → ℕ) (xs ys : List A) → total f (xs ++ ys) ≡ total f xs + total f ys
total_append f [] ys = omega arith
total_append f (x ∷ xs) ys = let r = total_append f xs ys in omega arith

pub count_append : (hs ks : List Handed) → AllCount hs → AllCount ks → AllCount (hs ++ ks)
count_append [] ks a b = b
count_append (h ∷ hs) ks a b = (a.0, count_append hs ks a.1 b)

finished_append : (xs ys : List TallyEntry) → finished_in (xs ++ ys) ≡ finished_in xs ++ finished_in ys
finished_append [] ys = refl
finished_append (e ∷ xs) ys =
    ap (λ (l : List Opening). finished_by e.call e.reply.counted ++ l) (finished_append xs ys)
    ∙ sym (append_assoc (finished_by e.call e.reply.counted) (finished_in xs) (finished_in ys))

given_then : (these : Opening → Bool) (c : ℕ) (a b : Acts)
    → given these c (then a b) ≡ given these c a + given these c b
given_then these zero a b = weigh-append (accepts_of these) a.tallied b.tallied
given_then these (suc k) a b = weigh-append (shut these k) a.calls b.calls

both_lists : {A : Type 0} (a b c d : List A) → a ≡ b → c ≡ d → a ++ c ≡ b ++ d
both_lists a b c d p q = λ i. p i ++ q i

-- one piece of acts after another
pub flows_then : (x y z : Credit) (a b : Acts) → Flows x y a → Flows y z b → Flows x z (then a b)
flows_then x y z a b s t = record {
  handed = s.handed ++ t.handed;
  told =
      map-append (λ (h : Handed). h.0) s.handed t.handed
      ∙ both_lists (map (λ (h : Handed). h.0) s.handed) a.handed
      (map (λ (h : Handed). h.0) t.handed) b.handed s.told t.told;
  count = count_append s.handed t.handed s.count t.count;
  jobs = λ these c.
      let u = s.jobs these c in
      let v = t.jobs these c in
      let g = given_then these c a b in
      let w = weigh-append (accepted these c) a.calls b.calls in
      let q = total_append (is_handed these c) s.handed t.handed in
      sums (weigh (accepted these c) a.calls) (weigh (accepted these c) b.calls)
      (total (is_handed these c) s.handed) (total (is_handed these c) t.handed)
      (x.jobs these c) (y.jobs these c) (z.jobs these c) (given these c a) (given these c b)
      (weigh (accepted these c) (a.calls ++ b.calls)) (total (is_handed these c) (s.handed ++ t.handed))
      (given these c (then a b)) u v g w q;
  links =
      let u = s.links in
      let v = t.links in
      let w = weigh-append turns_away a.tallied b.tallied in
      let q = weigh-append taken a.calls b.calls in omega arith;
  openings = λ these.
      let u = s.openings these in
      let v = t.openings these in
      let w = weigh-append (accepts_of these) a.tallied b.tallied in
      let q = weigh-append (opens_of these) a.calls b.calls in omega arith;
  finished = map-append (λ (d : FinishedTold). d.opening) a.handed b.handed
      ∙ (both_lists (map (λ (d : FinishedTold). d.opening) a.handed) (finished_in a.tallied)
      (map (λ (d : FinishedTold). d.opening) b.handed) (finished_in b.tallied) s.finished t.finished
      ∙ sym (finished_append a.tallied b.tallied));
  straight = λ these.
      let u = s.straight these in
      let v = t.straight these in
      let w = weigh-append (registers these) a.calls b.calls in
      let q = weigh-append (accepted_any these) a.calls b.calls in omega arith;
}
  where
    sums : (m n h k x y z g j mn hk gj : ℕ) → m + h + y ≤ x + g → n + k + z ≤ y + j → gj ≡ g + j
        → mn ≡ m + n → hk ≡ h + k → mn + hk + z ≤ x + gj
    sums m n h k x y z g j mn hk gj u v p q r = omega arith

-- what there was before may be more, and what is left less, and what is left over stays
pub record JournalFits (x y x' y' : Credit) : Type 0 where
  pub jobs : (these : Opening → Bool) (c : ℕ)
      → x.jobs these c + y'.jobs these c ≤ x'.jobs these c + y.jobs these c
  pub links : x.links + y'.links ≤ x'.links + y.links
  pub openings : (these : Opening → Bool)
      → x.openings these + y'.openings these ≤ x'.openings these + y.openings these

pub flows_fit : (x y x' y' : Credit) (a : Acts) → JournalFits x y x' y' → Flows x y a → Flows x' y' a
flows_fit x y x' y' a fits s = record {
  handed = s.handed;
  told = s.told;
  count = s.count;
  jobs =
      λ these c. fit (weigh (accepted these c) a.calls + total (is_handed these c) s.handed)
      (y.jobs these c) (x.jobs these c) (given these c a) (x'.jobs these c) (y'.jobs these c)
      (s.jobs these c) (fits.jobs these c);
  links =
      fit_links (weigh turns_away a.tallied) y.links x.links a.all_out
      (weigh taken a.calls) x'.links y'.links s.links fits.links;
  openings =
      λ these. fit (weigh (accepts_of these) a.tallied) (y.openings these) (x.openings these)
      (weigh (opens_of these) a.calls) (x'.openings these) (y'.openings these) (s.openings these)
      (fits.openings these);
  finished = s.finished;
  straight = s.straight;
}
  where
    fit : (m y x g x' y' : ℕ) → m + y ≤ x + g → x + y' ≤ x' + y → m + y' ≤ x' + g
    fit m y x g x' y' p q = omega arith

    fit_links : (m y x g t x' y' : ℕ) → m + y ≤ x + g + t → x + y' ≤ x' + y → m + y' ≤ x' + g + t
    fit_links m y x g t x' y' p q = omega arith
