-- What a look at the tally showed holds of all dispatchers, once they were brought level after it.
use Rattle.std.proofs.Common.{◌≡◌, ℕ, zero, suc, ◌+◌, ◌<◌, ◌≤◌, List, [], ◌∷◌, ◌++◌, map}
use Rattle.std.proofs.Common.{length, get_or, All, refl, sym, ap, ◌∙◌, subst, arith, length-append}
use Rattle.std.specs.Prelude.{Option, Some, None}
use Rattle.std.proofs.lemmas.Option.{none-some, same_Some}
use Rattle.std.proofs.lemmas.List.{length-reverse, length-map}
use mathlib.Core.List.{IsPrefix}
use Rattle.reg_keys.specs.declared.opening.Opening.{Opening}
use Rattle.reg_keys.specs.Tests.{total}
use Rattle.turn_cell.specs.declared.view.View.{View}
use Rattle.turn_cell.specs.Weights.{weigh}
use Rattle.turn_cell.specs.History.{Log}
use Rattle.level.specs.Leveling.{seen_by}
use Rattle.std.proofs.lemmas.List.Elements.{All-head}
use Rattle.warp_tally.specs.declared.calls.TallyCall.TheVariants.{Look}
use Rattle.warp_tally.specs.declared.calls.TallyEntry.{TallyEntry}
use Rattle.warp_tally.specs.Tallies.{IsTallyPast, tally_past}
use Rattle.warp_tally.specs.Accounts.{ShowsCounts, accepts, accepts_any, finishes, finishes_any, turns_away}
use Rattle.warp_passes.specs.Own.{entries_of}
use Rattle.warp_passes.specs.Passes.{PassView, IsLawfulPass}
use Rattle.warp_passes.specs.Cells.{AtTally, CameLevel, OwnIsKept}
use Rattle.warp_passes.specs.Levels.{ArePassesLevel, PassesAddUp}
use Rattle.warp_core.specs.declared.served.Counts.{Counts}
use Rattle.warp_core.specs.declared.served.ServeEnd.{ServeEnd}
use Rattle.warp_core.specs.declared.served.ServeEnd.TheVariants.{Over, PollFault, AcceptFault, Spent}
use Rattle.warp_core.specs.declared.served.ServeEnd.TheVariants.{NoMemory}
use Rattle.warp_core.specs.Ends.{IsOver}
use Rattle.warp_core.specs.Settling.{HasLooked, HasSeenOver, ShowsOver}

past_length : (h : Log TallyEntry) → length (tally_past h) ≡ length h
past_length h =
    length-reverse (map (λ (e : ℕ × TallyEntry). e.1) h) ∙ length-map h (λ (e : ℕ × TallyEntry). e.1)

prefix_shorter : {E : Type 0} (xs ys : List E) → IsPrefix xs ys → length xs ≤ length ys
prefix_shorter xs ys p =
    let a = length-append xs p.0 in
    let b = ap length p.1 in omega arith

-- of several logs the first is longer than each other, and a log that one of them is begins
-- with it: that one is the first
longest : {E : Type 0} (m : ℕ) (l log : Log E) (ls : List (Log E)) → All (λ x. length x ≡ m) ls
    → m < length l → IsPrefix l log
    → (k : ℕ) → k < length (l ∷ ls) → get_or (l ∷ ls) k log ≡ log → log ≡ l
longest m l log ls all longer begins zero lt is = sym is
longest m l log ls all longer begins (suc k) lt is =
    let a = prefix_shorter l log begins in
    let b = all k log (omega arith) in
    let c = ap length is in
    absurd (omega arith)

module _ {A L : Type 0} (known : A → PassView L) where
  abbrev tally_seen : A → Log TallyEntry
  tally_seen x = (known x).tally.seen

  -- the history of the tally that all have seen in the end is the one that the look ended
  last_log : (x y : A) (xs zs : List A) (limit : ℕ) (counts : Counts) → ArePassesLevel known (x ∷ xs)
      → HasSeenOver limit counts (known x).tally (known y).tally
      → CameLevel known (y ∷ xs) zs → OwnIsKept known (y ∷ xs) zs
      → (z : A) × (ws : List A) × (zs ≡ z ∷ ws) × (tally_seen z ≡ tally_seen y)
  last_log x y xs [] limit counts level saw came keeps =
      let g = (keeps AtTally).grows 0 (tally_seen y) refl in absurd (none-some g.0 g.1)
  last_log x y xs (z ∷ ws) limit counts level saw came keeps =
      let before = level.tally.log in
      let brought = came AtTally in
      let log = brought.level.log in
      let first : tally_seen z ≡ log = All-head (λ (v : View TallyEntry). v.seen ≡ log) (known z).tally
      (map (λ w. (known w).tally) ws) brought.level.saw in
      let g = (keeps AtTally).grows 0 (tally_seen y) refl in
      let there : g.0 ≡ log = sym (same_Some (tally_seen z) g.0 g.1) ∙ first in
      let begins : IsPrefix (tally_seen y) log =
      subst (λ (l : Log TallyEntry). IsPrefix (tally_seen y) l) there g.2 in
      let had : tally_seen x ≡ before = All-head (λ (v : View TallyEntry). v.seen ≡ before)
      (known x).tally (map (λ w. (known w).tally) xs) level.tally.saw in
      let one = past_length (tally_seen y) in
      let two = past_length (tally_seen x) in
      let three = ap length saw.entered.latest in
      let four = length-append saw.entered.between (tally_past (tally_seen x)) in
      let five = ap length had in (
        z,
        ws,
        refl,
        first ∙ longest (length before) (tally_seen y) log (map seen_by (map (λ w. (known w).tally) xs))
            (all_seen xs before (tail_saw x xs before level.tally.saw))
            (omega arith) begins brought.from.0 brought.from.1 brought.from.2,
      )
    where
      tail_saw : (x : A) (xs : List A) (before : Log TallyEntry)
          → All (λ (v : View TallyEntry). v.seen ≡ before) (map (λ w. (known w).tally) (x ∷ xs))
          → All (λ (v : View TallyEntry). v.seen ≡ before) (map (λ w. (known w).tally) xs)
      tail_saw x xs before saw k d lt = saw (suc k) d (omega arith)

      all_seen : (xs : List A) (before : Log TallyEntry)
          → All (λ (v : View TallyEntry). v.seen ≡ before) (map (λ w. (known w).tally) xs)
          → All (λ (l : Log TallyEntry). length l ≡ length before)
          (map seen_by (map (λ w. (known w).tally) xs))
      all_seen [] before saw k d lt = absurd (omega arith)
      all_seen (w ∷ ws) before saw zero d lt = ap length (saw 0 (known w).tally (omega arith))
      all_seen (w ∷ ws) before saw (suc k) d lt =
          all_seen ws before (λ i e h. saw (suc i) e (omega arith)) k d (omega arith)

-- what is to be known of sums over passes that are level, and of the replies of a tally
abbrev pub AddsUp : Type 0 → Type 0 → Type 0
AddsUp A L =
    (known : A → PassView L) (x : A) (xs : List A) → All (λ y. IsLawfulPass (known y)) (x ∷ xs)
    → ArePassesLevel known (x ∷ xs) → PassesAddUp known x xs

abbrev pub ShowCounts : Type 0
ShowCounts =
    (e : TallyEntry) (past : List TallyEntry) → IsTallyPast (e ∷ past) → ShowsCounts (e ∷ past) e.reply

abbrev pub ClosesEach : Type 0
ClosesEach =
    (past : List TallyEntry) → IsTallyPast past → total finishes_any past ≡ total accepts_any past
    → (o : Opening) → total (finishes o) past ≡ total (accepts o) past

module _ {A L : Type 0} (known : A → PassView L) (adds : AddsUp A L) (shows : ShowCounts)
    (closes : ClosesEach) where
  over_at : (limit : ℕ) (counts : Counts) (u v : View TallyEntry) → HasSeenOver limit counts u v
      → (z : A) (ws : List A) → (known z).tally.seen ≡ v.seen
      → All (λ y. IsLawfulPass (known y)) (z ∷ ws) → ArePassesLevel known (z ∷ ws)
      → IsOver known limit counts (z ∷ ws)
  over_at limit counts u v saw z ws at lawful level =
      let up = adds known z ws lawful level in
      let e : TallyEntry = record { call = Look; reply = saw.reply } in
      let past = saw.entered.between ++ tally_past u.seen in
      let is : tally_past (known z).tally.seen ≡ e ∷ past = ap tally_past at ∙ saw.entered.latest in
      let right : IsTallyPast (e ∷ past) = subst IsTallyPast saw.entered.latest saw.entered.right in
      let show = shows e past right in
      let sums : (f : TallyEntry → ℕ)
      → weigh (λ y. weigh f (entries_of (known y).tally)) (z ∷ ws) ≡ total f (e ∷ past) =
      λ f. up.tallied f ∙ ap (total f) is in
      let all = saw.all in
      let finished : total finishes_any (e ∷ past)
      ≡ total accepts_any (e ∷ past) = by_sums (total finishes_any (e ∷ past)) (total accepts_any (e ∷ past))
      (total turns_away (e ∷ past)) saw.reply.finished saw.reply.turned saw.reply.accepted
      show.finished show.turned show.accepted saw.all in
      record {
        limit_is = saw.accepted ∙ saw.limit_is;
        accepted = saw.accepted ∙ (show.accepted ∙ both (sym (sums accepts_any)) (sym (sums turns_away)));
        turned = saw.turned ∙ (show.turned ∙ sym (sums turns_away));
        finished = sums finishes_any ∙ (finished ∙ sym (sums accepts_any));
        each = λ o. sums (finishes o) ∙ (closes (e ∷ past) right finished o ∙ sym (sums (accepts o)));
      }
    where
      by_sums : (f a t rf rt ra : ℕ) → rf ≡ f → rt ≡ t → ra ≡ a + t → rf + rt ≡ ra → f ≡ a
      by_sums f a t rf rt ra p q r s = omega arith

      both : {a b c d : ℕ} → a ≡ b → c ≡ d → a + c ≡ b + d
      both p q = λ k. p k + q k

  seen_over : (limit : ℕ) (counts : Counts) (xs ys zs : List A) → ArePassesLevel known xs
      → HasLooked known limit (Some (Over counts)) xs ys → CameLevel known ys zs → OwnIsKept known ys zs
      → All (λ y. IsLawfulPass (known y)) zs → ArePassesLevel known zs → IsOver known limit counts zs
  seen_over limit counts [] ys zs before look came keeps lawful after =
      absurd (none-some look.before look.there)
  seen_over limit counts (x ∷ xs) ys zs before look came keeps lawful after =
      let same : x ≡ look.before = same_Some x look.before look.there in
      let saw : HasSeenOver limit counts (known x).tally (known look.after).tally = subst (λ (w : A).
      HasSeenOver limit counts (known w).tally (known look.after).tally) (sym same) look.says in
      let c : CameLevel known (look.after ∷ xs) zs =
      subst (λ (l : List A). CameLevel known l zs) look.left came in
      let k : OwnIsKept known (look.after ∷ xs) zs =
      subst (λ (l : List A). OwnIsKept known l zs) look.left keeps in
      let last = last_log known x look.after xs zs limit counts before saw c k in
      subst (λ (l : List A). IsOver known limit counts l) (sym last.2)
      (over_at limit counts (known x).tally (known look.after).tally saw last.0 last.1 last.3
      (subst (All (λ y. IsLawfulPass (known y))) last.2 lawful) (subst (ArePassesLevel known) last.2 after))

  pub shown_over : (limit : ℕ) (end : Option ServeEnd) (xs ys zs : List A) → ArePassesLevel known xs
      → HasLooked known limit end xs ys → CameLevel known ys zs → OwnIsKept known ys zs
      → All (λ y. IsLawfulPass (known y)) zs → ArePassesLevel known zs → ShowsOver known limit end zs
  shown_over limit None xs ys zs before look came keeps lawful after = tt
  shown_over limit (Some (Over counts)) xs ys zs before look came keeps lawful after =
      seen_over limit counts xs ys zs before look came keeps lawful after
  shown_over limit (Some PollFault) xs ys zs before look came keeps lawful after = look.says
  shown_over limit (Some AcceptFault) xs ys zs before look came keeps lawful after = look.says
  shown_over limit (Some Spent) xs ys zs before look came keeps lawful after = tt
  shown_over limit (Some NoMemory) xs ys zs before look came keeps lawful after = look.says
