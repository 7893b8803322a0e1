-- A poll's round, one meeting at a time.
use Rattle.std.proofs.Common.{◌≡◌, ℕ, suc, ◌+◌, ◌<◌, inl, inr, List, [], ◌∷◌, ◌++◌, length, map, cond, Bool}
use Rattle.std.proofs.Common.{true, false, ◌||◌, ◌==◌, lt-ltb, ne_eqb, refl, sym, ap, ◌∙◌, append_assoc}
use Rattle.std.proofs.Common.{arith}
use Rattle.std.specs.List.{flat_map}
use Rattle.std.proofs.lemmas.Grind.{flat_map-append}
use Rattle.std.proofs.lemmas.List.{append-nil, length-append, map-append, nil_from_length}
use Rattle.reg_keys.specs.declared.opening.Opening.{Opening}
use Rattle.reg_keys.specs.declared.registration.Dirs.TheVariants.{Both}
use Rattle.poller.specs.declared.limits.TheConstants.{REPORTS}
use Rattle.poller.specs.declared.mem_poller.Entry.{Entry}
use Rattle.poller.specs.Polls.{Report}
use Rattle.poller.specs.Rounds.{HasMetFirst, IsRound, Meeting, Rounding, is_done, met_as, raised_of}
use Rattle.poller.specs.Rounds.{reports_of, stays_as}
use Rattle.poller.specs.LinkSeats.{DeliveryState}
use Rattle.std.specs.Prelude.{nat_lt}

-- no entry was met yet
pub round_begins : (entries : List Entry) → Rounding entries entries [] (length entries)
round_begins entries = record {
  met = [];
  others = entries;
  before = refl;
  after = sym (append-nil entries);
  given = refl;
  left = refl;
}

flat_one : {A : Type 0} (f : Meeting → List A) (met : List Meeting) (m : Meeting)
    → flat_map f (met ++ m ∷ []) ≡ flat_map f met ++ f m
flat_one f met m = flat_map-append f met (m ∷ []) ∙ ap (λ t. flat_map f met ++ t) (append-nil (f m))

-- the first of the entries that weren't met is the first of all
first_of : (others staying : List Entry) (m : Entry) (rest : List Entry) (n : ℕ)
    → length others ≡ suc n → others ++ staying ≡ m ∷ rest
    → (os : List Entry) × (others ≡ m ∷ os) × (rest ≡ os ++ staying) × (length os ≡ n)
first_of [] staying m rest n some is = absurd (omega arith)
first_of (o ∷ os) staying m rest n some is = (os, cc, cc, omega arith)

-- one entry more was met
pub round_goes_on : (old now new : List Entry) (reports reports' : List Report) (n : ℕ)
    → Rounding old now reports (suc n) → HasMetFirst now new reports reports' → Rounding old new reports' n
round_goes_on old now new reports reports' n r h =
    let f =
    first_of r.others (flat_map stays_as r.met) h.met.entry h.others n r.left (sym r.after ∙ h.before) in
    let both : Opening → Report = λ o. (o, Both) in
    let entries : List Meeting → List Entry = map (λ (m : Meeting). m.entry) in record {
      met = r.met ++ h.met ∷ [];
      others = f.0;
      before =
          r.before ∙ (ap (λ (t : List Entry). entries r.met ++ t) f.1
          ∙ (sym (append_assoc (entries r.met) (h.met.entry ∷ []) f.0) ∙ ap (λ (t : List Entry). t ++ f.0)
          (sym (map-append (λ (m : Meeting). m.entry) r.met (h.met ∷ [])))));
      after =
          h.after ∙ (ap (λ (t : List Entry). t ++ stays_as h.met) f.2
          ∙ (append_assoc f.0 (flat_map stays_as r.met) (stays_as h.met)
          ∙ ap (λ (t : List Entry). f.0 ++ t) (sym (flat_one stays_as r.met h.met))));
      given =
          h.given ∙ (ap (λ (t : List Report). t ++ reports_of (raised_of h.met)) r.given
          ∙ (sym (map-append both (flat_map raised_of r.met) (raised_of h.met))
          ∙ ap reports_of (sym (flat_one raised_of r.met h.met))));
      left = f.3;
    }

-- each entry was met
pub round_whole : (old now : List Entry) (reports : List Report) (n : ℕ) → n ≡ 0
    → Rounding old now reports n → IsRound old now reports
round_whole old now reports n none r = record {
  met = r.met;
  others = r.others;
  before = r.before;
  after = r.after;
  given = r.given;
  ends = inl (nil_from_length r.others (r.left ∙ none));
}

-- as many reports were made as fit
pub round_full : (old now : List Entry) (reports : List Report) (n : ℕ) → length reports ≡ REPORTS
    → Rounding old now reports n → IsRound old now reports
round_full old now reports n full r = record {
  met = r.met;
  others = r.others;
  before = r.before;
  after = r.after;
  given = r.given;
  ends = inr full;
}

-- while some entries weren't met, there are some
pub some_left : (old now : List Entry) (reports : List Report) (n : ℕ) → 0 < n
    → Rounding old now reports n → 0 < length now
some_left old now reports n some r =
    let a = ap length r.after in
    let b = length-append r.others (flat_map stays_as r.met) in
    let c = r.left in
    omega (arith, a, b, c, some)

-- an entry whose link had left is marked, and isn't reported
pub left_kept : (e : Entry) (f : DeliveryState) → is_done e ≡ false → 0 < f.left
    → f ≡ record e.delivery { left = f.left; looks = e.delivery.looks + 1 }
    → record e { delivery = f } ∷ [] ≡ stays_as (record { entry = e; found = f.left })
left_kept e f going some is =
    let b : (f.left == 0) ≡ false = ne_eqb f.left 0 (λ h. absurd (omega (arith, h, some))) in
    ap (λ (g : DeliveryState). record e { delivery = g } ∷ []) is
    ∙ (ap (λ (t : Bool). record e {
      delivery = record e.delivery {
        left = f.left;
        looks = e.delivery.looks + 1;
        delivered = cond t (e.delivery.delivered + 1) e.delivery.delivered;
      };
    } ∷ []) (sym b)
    ∙ ap (λ (t : Bool). cond t [] (met_as e f.left ∷ [])) (sym going))

pub left_silent : (e : Entry) (found : ℕ) (reports : List Report) → is_done e ≡ false → 0 < found
    → reports ≡ reports ++ reports_of (raised_of (record { entry = e; found = found }))
left_silent e found reports going some =
    let b : nat_lt 0 found ≡ true = lt-ltb 0 found some in
    sym (append-nil reports)
    ∙ (λ i. reports ++ reports_of (cond (sym going i || sym b i) [] (e.opening ∷ [])))
