-- What a history of a tally adds up to.
use Rattle.std.proofs.Common.{◌≡◌, ◌≢◌, ℕ, zero, suc, ◌+◌, ◌≤◌, ◌⊎◌, inl, inr, ⊎_elim, Bool, true, false, not}
use Rattle.std.proofs.Common.{◌&&◌, ◌||◌, List, [], ◌∷◌, ◌++◌, map, reverse, refl, sym, ap, ◌∙◌, arith}
use Rattle.std.specs.Prelude.{Option, Some}
use Rattle.std.proofs.lemmas.Bool.{eqb-true}
use Rattle.std.proofs.lemmas.List.{reverse-append}
use Rattle.reg_keys.specs.declared.opening.Opening.{Opening}
use Rattle.reg_keys.specs.Tests.{same, one_if, total}
use Rattle.warp_tally.specs.declared.calls.TallyCall.{TallyCall}
use Rattle.warp_tally.specs.declared.calls.TallyCall.TheVariants.{Accept, TurnAway, Finish, Stop, Look}
use Rattle.warp_tally.specs.declared.calls.Counted.{Counted}
use Rattle.warp_tally.specs.declared.calls.Counted.TheVariants.{Yes, No, NoMemory}
use Rattle.warp_tally.specs.declared.calls.TallyReply.{TallyReply}
use Rattle.warp_tally.specs.declared.calls.TallyEntry.{TallyEntry}
use Rattle.turn_cell.specs.Weights.{weigh}
use Rattle.warp_tally.specs.Tallies.{Totals, tally_past, is_open, open_after, first_of, totals_after}
use Rattle.warp_tally.specs.Tallies.{totals_of, yes_if, counts, IsTallyPast}
use Rattle.warp_tally.specs.Accounts.{accepted_by, finished_by, turned_by, times, accepts, finishes}
use Rattle.warp_tally.specs.Accounts.{accepts_any, finishes_any, turns_away, finished_in, FollowsAccepts}
use Rattle.warp_tally.specs.Accounts.{ShowsCounts}

-- whether an entry counts is what its past calls for
abbrev counted_is : (e : TallyEntry) (past : List TallyEntry) → IsTallyPast (e ∷ past)
    → (room : Bool) × (e.reply.counted ≡ counts room past e.call)
counted_is e past l = (l.0.0, ap (λ (r : TallyReply). r.counted) l.0.1)

-- what one entry adds
one_more : (call : TallyCall) (b : Counted) (t : Totals) → let u = totals_after call b t in
    (b ≢ Yes → turned_by call ≡ 0)
    → (u.accepted ≡ t.accepted + total (λ o. 1) (accepted_by call b) + turned_by call)
    × (u.turned ≡ t.turned + turned_by call) × (u.finished ≡ t.finished + total (λ o. 1) (finished_by call b))
one_more (Accept o) Yes t n = (omega arith, omega arith, omega arith)
one_more (Accept o) No t n = (omega arith, omega arith, omega arith)
one_more (Accept o) NoMemory t n = (omega arith, omega arith, omega arith)
one_more TurnAway Yes t n = (omega arith, omega arith, omega arith)
one_more TurnAway No t n =
    let z = n (λ (e : No ≡ Yes). cc) in
    (omega (arith, z), omega (arith, z), omega (arith, z))
one_more TurnAway NoMemory t n = let z = n (λ (e : NoMemory ≡ Yes). cc) in
    (omega (arith, z), omega (arith, z), omega (arith, z))
one_more (Finish o) Yes t n = (omega arith, omega arith, omega arith)
one_more (Finish o) No t n = (omega arith, omega arith, omega arith)
one_more (Finish o) NoMemory t n = (omega arith, omega arith, omega arith)
one_more (Stop c) Yes t n = (omega arith, omega arith, omega arith)
one_more (Stop c) No t n = (omega arith, omega arith, omega arith)
one_more (Stop c) NoMemory t n = (omega arith, omega arith, omega arith)
one_more Look b t n = (omega arith, omega arith, omega arith)

turn_counts : (call : TallyCall) (room : Bool) (past : List TallyEntry) (b : Counted)
    → b ≡ counts room past call
    → b ≢ Yes → turned_by call ≡ 0
turn_counts (Accept o) room past b e f = refl
turn_counts TurnAway room past b e f = absurd (f e)
turn_counts (Finish o) room past b e f = refl
turn_counts (Stop c) room past b e f = refl
turn_counts Look room past b e f = refl

totals_are : (past : List TallyEntry) → IsTallyPast past → let t = totals_of past in
    (t.accepted ≡ total accepts_any past + total turns_away past) × (t.turned ≡ total turns_away past)
    × (t.finished ≡ total finishes_any past)
totals_are [] l = (refl, refl, refl)
totals_are (e ∷ past) l =
    let r = totals_are past l.1 in
    let c = counted_is e past l in
    let o =
    one_more e.call e.reply.counted (totals_of past) (turn_counts e.call c.0 past e.reply.counted c.1) in
    (omega (arith, r, o), omega (arith, r, o), omega (arith, r, o))

pub shows_counts : (e : TallyEntry) (past : List TallyEntry) → IsTallyPast (e ∷ past)
    → ShowsCounts (e ∷ past) e.reply
shows_counts e past l =
    let t = totals_are (e ∷ past) l in
    let c = counted_is e past l in
    let same : totals_after e.call e.reply.counted (totals_of past)
    ≡ totals_after e.call (counts l.0.0 past e.call) (totals_of past) =
    ap (λ (b : Counted). totals_after e.call b (totals_of past)) c.1 in
    record {
      accepted =
          ap (λ (r : TallyReply). r.accepted) l.0.1 ∙ (ap (λ (x : Totals). x.accepted) (sym same) ∙ t.0);
      turned = ap (λ (r : TallyReply). r.turned) l.0.1 ∙ (ap (λ (x : Totals). x.turned) (sym same) ∙ t.1);
      finished =
          ap (λ (r : TallyReply). r.finished) l.0.1 ∙ (ap (λ (x : Totals). x.finished) (sym same) ∙ t.2);
    }

stop_stays : (call : TallyCall) (b : Counted) (t : Totals) (code : ℕ) → t.stop ≡ Some code
    → (totals_after call b t).stop ≡ Some code
stop_stays (Accept o) Yes t code e = e
stop_stays (Accept o) No t code e = e
stop_stays (Accept o) NoMemory t code e = e
stop_stays TurnAway Yes t code e = e
stop_stays TurnAway No t code e = e
stop_stays TurnAway NoMemory t code e = e
stop_stays (Finish o) Yes t code e = e
stop_stays (Finish o) No t code e = e
stop_stays (Finish o) NoMemory t code e = e
stop_stays (Stop c) Yes t code e = ap (λ (s : Option ℕ). first_of s c) e
stop_stays (Stop c) No t code e = e
stop_stays (Stop c) NoMemory t code e = e
stop_stays Look b t code e = e

pub first_stays : (later past : List TallyEntry) (code : ℕ) → (totals_of past).stop ≡ Some code
    → (totals_of (later ++ past)).stop ≡ Some code
first_stays [] past code e = e
first_stays (x ∷ xs) past code e =
    stop_stays x.call x.reply.counted (totals_of (xs ++ past)) code (first_stays xs past code e)

-- ---- openings, each and together

-- openings that are the same are one
same_one : (o p : Opening) → same o p ≡ true → o ≡ p
same_one o p e = let n = eqb-true o.number p.number (and_left _ _ e) in
    let f = eqb-true o.fd p.fd (and_right' _ _ e) in
    λ i. record { number = n i; fd = f i }
  where
    and_left : (a b : Bool) → (a && b) ≡ true → a ≡ true
    and_left true b e = refl
    and_left false b e = e

    and_right' : (a b : Bool) → (a && b) ≡ true → b ≡ true
    and_right' true b e = e
    and_right' false b e = let z : false ≡ true = e in cc

or_few : (a w : Bool) → one_if (a || w) ≤ one_if a + one_if w
or_few true true = omega arith
or_few true false = omega arith
or_few false true = omega arith
or_few false false = omega arith

out_few : (a w : Bool) → one_if a ≤ one_if w → one_if a + one_if (not a && w) ≤ one_if w
out_few true true h = omega arith
out_few true false h = h
out_few false true h = omega arith
out_few false false h = omega arith

open_one : (o : Opening) (call : TallyCall) (b : Counted) (was : Bool)
    → times o (finished_by call b) ≤ one_if was
    → times o (finished_by call b) + one_if (open_after call b o was)
    ≤ times o (accepted_by call b) + one_if was
open_one o (Accept p) Yes was h = let x = or_few (same o p) was in omega (arith, x)
open_one o (Accept p) No was h = omega arith
open_one o (Accept p) NoMemory was h = omega arith
open_one o TurnAway b was h = omega arith
open_one o (Finish p) Yes was h = let x = out_few (same o p) was (omega (arith, h)) in omega (arith, x)
open_one o (Finish p) No was h = omega arith
open_one o (Finish p) NoMemory was h = omega arith
open_one o (Stop c) b was h = omega arith
open_one o Look b was h = omega arith

-- what counts by a test passed it
test_passed : (b : Bool) → Yes ≡ yes_if b → b ≡ true
test_passed true e = refl
test_passed false e = let z : Yes ≡ No = e in cc

-- what is finished was open
was_open : (o : Opening) (call : TallyCall) (b : Counted) (room : Bool) (past : List TallyEntry)
    → b ≡ counts room past call → times o (finished_by call b) ≤ one_if (is_open o past)
was_open o (Accept p) Yes room past e = omega arith
was_open o (Accept p) No room past e = omega arith
was_open o (Accept p) NoMemory room past e = omega arith
was_open o TurnAway b room past e = omega arith
was_open o (Finish p) Yes room past e = by_same (same o p) refl
  where
    by_same : (s : Bool) → same o p ≡ s → total (λ q. one_if (same o q)) (p ∷ []) ≤ one_if (is_open o past)
    by_same true is = let z = ap one_if is in
        let w = ap one_if (ap (λ q. is_open q past) (same_one o p is) ∙ test_passed (is_open p past) e) in
        omega (arith, z, w)
    by_same false is = let z = ap one_if is in omega (arith, z)
was_open o (Finish p) No room past e = omega arith
was_open o (Finish p) NoMemory room past e = omega arith
was_open o (Stop c) b room past e = omega arith
was_open o Look b room past e = omega arith

each_open : (o : Opening) (past : List TallyEntry) → IsTallyPast past
    → total (finishes o) past + one_if (is_open o past) ≤ total (accepts o) past
each_open o [] l = omega arith
each_open o (e ∷ past) l =
    let r = each_open o past l.1 in
    let c = counted_is e past l in
    let x =
    open_one o e.call e.reply.counted (is_open o past) (was_open o e.call e.reply.counted c.0 past c.1) in
    omega (arith, r, x)

module _ {A : Type 0} where
  total_plus : (f g : A → ℕ) (xs : List A) → total (λ x. f x + g x) xs ≡ total f xs + total g xs
  total_plus f g [] = refl
  total_plus f g (x ∷ xs) = let r = total_plus f g xs in omega (arith, r)

  total_none : (xs : List A) → total (λ x. 0) xs ≡ 0
  total_none [] = refl
  total_none (x ∷ xs) = let r = total_none xs in omega (arith, r)

-- how often an opening is in a list
abbrev among : Opening → List Opening → ℕ
among p os = total (λ o. times o (p ∷ [])) os

abbrev AreApart : List Opening → Type 0
AreApart os = (p : Opening) → among p os ≤ 1

one_apart : (o : Opening) → AreApart (o ∷ [])
one_apart o p = by_same (same o p)
  where
    by_same : (b : Bool) → one_if b + 0 + 0 ≤ 1
    by_same true = omega arith
    by_same false = omega arith

more_apart : (p : Opening) (os : List Opening) → AreApart os → among p os ≡ 0 → AreApart (p ∷ os)
more_apart p os a z q = by_same (same p q) refl
  where
    by_same : (b : Bool) → same p q ≡ b → among q (p ∷ os) ≤ 1
    by_same true e =
        let s = ap one_if e in
        let w = ap (λ x. among x os) (same_one p q e) in
        omega (arith, s, w, z)
    by_same false e =
        let s = ap one_if e in
        let w = a q in omega (arith, s, w)

abbrev Claim : List TallyEntry → List Opening → Type 0
Claim past os = total (λ o. total (accepts o) past) os + total finishes_any past
    ≤ total accepts_any past + total (λ o. total (finishes o) past) os

-- an entry finishes an opening, or it finishes none and accepts no more of the list than it accepts
entry_kind : (call : TallyCall) (b : Counted) (os : List Opening) → AreApart os
    → ((total (λ (o : Opening). 1) (finished_by call b) ≡ 0)
    × (total (λ o. times o (accepted_by call b)) os ≤ total (λ (o : Opening). 1) (accepted_by call b))
    × (total (λ o. times o (finished_by call b)) os ≡ 0))
    ⊎ ((p : Opening) × (call ≡ Finish p) × (b ≡ Yes))
entry_kind (Accept p) Yes os a = let w = a p in inl (refl, omega (arith, w), total_none os)
entry_kind (Accept p) No os a = let z = total_none os in inl (refl, omega (arith, z), z)
entry_kind (Accept p) NoMemory os a = let z = total_none os in inl (refl, omega (arith, z), z)
entry_kind TurnAway b os a = let z = total_none os in inl (refl, omega (arith, z), z)
entry_kind (Finish p) Yes os a = inr (p, refl, refl)
entry_kind (Finish p) No os a = let z = total_none os in inl (refl, omega (arith, z), z)
entry_kind (Finish p) NoMemory os a = let z = total_none os in inl (refl, omega (arith, z), z)
entry_kind (Stop c) b os a = let z = total_none os in inl (refl, omega (arith, z), z)
entry_kind Look b os a = let z = total_none os in inl (refl, omega (arith, z), z)

module _ (e : TallyEntry) (past : List TallyEntry) (l : IsTallyPast (e ∷ past)) (again : (os : List Opening)
    → AreApart os → Claim past os) (os : List Opening) (a : AreApart os) where
  split_accepts : total (λ o. accepts o e + total (accepts o) past) os
      ≡ total (λ o. accepts o e) os + total (λ o. total (accepts o) past) os
  split_accepts = total_plus (λ o. accepts o e) (λ o. total (accepts o) past) os

  split_finishes : total (λ o. finishes o e + total (finishes o) past) os
      ≡ total (λ o. finishes o e) os + total (λ o. total (finishes o) past) os
  split_finishes = total_plus (λ o. finishes o e) (λ o. total (finishes o) past) os

  -- an opening was finished: the list has it, or the claim on the list with it serves
  finishes_one : (p : Opening) → e.call ≡ Finish p → e.reply.counted ≡ Yes → Claim (e ∷ past) os
  finishes_one p is counted = by_among (among p os) refl
    where
      of_entry : {X : Type 0} → (f : TallyCall → Counted → X) → f e.call e.reply.counted ≡ f (Finish p) Yes
      of_entry f = λ i. f (is i) (counted i)

      acc : total (λ o. accepts o e) os ≡ 0
      acc = of_entry (λ c b. total (λ o. times o (accepted_by c b)) os) ∙ total_none os

      none : accepts_any e ≡ 0
      none = of_entry (λ c b. total (λ (o : Opening). 1) (accepted_by c b))

      one : finishes_any e ≡ 1
      one = of_entry (λ c b. total (λ (o : Opening). 1) (finished_by c b))

      fin : total (λ o. finishes o e) os ≡ among p os
      fin = of_entry (λ c b. total (λ o. times o (finished_by c b)) os)

      stood : is_open p past ≡ true
      stood = let c = counted_is e past l in
          test_passed (is_open p past) (sym counted ∙ (c.1 ∙ ap (counts c.0 past) is))

      by_among : (n : ℕ) → among p os ≡ n → Claim (e ∷ past) os
      by_among zero z = let r = again (p ∷ os) (more_apart p os a z) in
          let o = each_open p past l.1 in
          let w = ap one_if stood in
          let x1 = split_accepts in
          let x2 = split_finishes in
          let x3 = acc in
          let x4 = none in
          let x5 = one in
          let x6 = fin in
          omega (arith, r, o, w, x1, x2, x3, x4, x5, x6, z)
      by_among (suc n) z = let r = again os a in
          let x1 = split_accepts in
          let x2 = split_finishes in
          let x3 = acc in
          let x4 = none in
          let x5 = one in
          let x6 = fin in
          omega (arith, r, x1, x2, x3, x4, x5, x6, z)

  claims_more : Claim (e ∷ past) os
  claims_more =
      let r = again os a in
      let x1 = split_accepts in
      let x2 = split_finishes in ⊎_elim
      (λ k.
      let k0 = k.0 in
      let k1 = k.1 in
      let k2 = k.2 in omega (arith, x1, x2, r, k0, k1, k2))
      (λ k. finishes_one k.0 k.1 k.2) (entry_kind e.call e.reply.counted os a)

claims : (past : List TallyEntry) → IsTallyPast past → (os : List Opening) → AreApart os → Claim past os
claims [] l os a = let z = total_none os in omega (arith, z)
claims (e ∷ past) l os a = claims_more e past l (λ qs b. claims past l.1 qs b) os a

pub follows_accepts : (past : List TallyEntry) → IsTallyPast past → FollowsAccepts past
follows_accepts past l = record {
  each = λ o. let r = each_open o past l in omega (arith, r);
  together = λ o. let r = claims past l (o ∷ []) (one_apart o) in omega (arith, r);
}

pub closes_each : (past : List TallyEntry) → IsTallyPast past
    → total finishes_any past ≡ total accepts_any past
    → (o : Opening) → total (finishes o) past ≡ total (accepts o) past
closes_each past l e o = let f = follows_accepts past l in
    let a = f.each o in
    let b = f.together o in
    omega (arith, a, b, e)

total_append : {A : Type 0} (f : A → ℕ) (xs ys : List A) → total f (xs ++ ys) ≡ total f xs + total f ys
total_append f [] ys = omega arith
total_append f (x ∷ xs) ys = let r = total_append f xs ys in omega (arith, r)

pub finished_counted : (o : Opening) (es : List TallyEntry) → times o (finished_in es) ≡ total (finishes o) es
finished_counted o [] = refl
finished_counted o (e ∷ es) = let r = finished_counted o es in
    let a = total_append (λ p. one_if (same o p)) (finished_by e.call e.reply.counted) (finished_in es) in
    omega (arith, r, a)

total_reverse : {A : Type 0} (f : A → ℕ) (xs : List A) → total f (reverse xs) ≡ total f xs
total_reverse f [] = refl
total_reverse f (x ∷ xs) =
    let r = total_reverse f xs in
    let a = total_append f (reverse xs) (x ∷ []) in
    ap (total f) (reverse-append (x ∷ []) xs) ∙ (a ∙ omega (arith, r))

weigh_map : (f : TallyEntry → ℕ) (h : List (ℕ × TallyEntry))
    → total f (map (λ e. e.1) h) ≡ weigh (λ e. f e.1) h
weigh_map f [] = refl
weigh_map f (x ∷ xs) = let r = weigh_map f xs in omega (arith, r)

pub past_weighs : (f : TallyEntry → ℕ) (h : List (ℕ × TallyEntry))
    → total f (tally_past h) ≡ weigh (λ e. f e.1) h
past_weighs f h = total_reverse f (map (λ e. e.1) h) ∙ weigh_map f h
