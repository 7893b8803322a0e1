-- What a step on the tally's cell says of what its pass did.
use Rattle.std.proofs.Common.{◌≡◌, ℕ, Bool, true, false, List, [], ◌∷◌, ◌++◌, map, reverse, refl, sym, ap}
use Rattle.std.proofs.Common.{◌∙◌, subst, ◌⊎◌, inl, inr}
use Rattle.std.proofs.lemmas.List.{append-nil, map-append, reverse-append}
use Rattle.turn_cell.specs.declared.view.View.{View}
use Rattle.turn_cell.specs.History.{Log}
use Rattle.turn_cell.specs.Calls.{Entered, WasSpent}
use Rattle.turn_cell.specs.View.{seat_of}
use Rattle.warp_tally.specs.declared.calls.TallyCall.{TallyCall}
use Rattle.warp_tally.specs.declared.calls.TallyCall.TheVariants.{Accept, TurnAway, Finish, Stop, Look}
use Rattle.warp_tally.specs.declared.calls.Counted.TheVariants.{Yes, No, NoMemory}
use Rattle.warp_tally.specs.declared.calls.TallyReply.{TallyReply}
use Rattle.warp_tally.specs.declared.calls.TallyEntry.{TallyEntry}
use Rattle.warp_tally.specs.declared.tally.Tally.{Tally}
use Rattle.warp_tally.specs.Tallies.{tally_past, counts, yes_if, yes_with, is_open, is_unstopped, totals_of}
use Rattle.warp_tally.specs.Tallies.{IsTallyPast}
use Rattle.warp_tally.specs.RepresentsTally.{RepresentsTally}
use Rattle.warp_passes.specs.Own.{entries_of}
use Rattle.warp_passes.proofs.Added.{entered_adds, spent_adds}
use Rattle.warp_passes.specs.TallyCalls.{MayAnswer, TallyEntered, TallySpent}

-- the relation of a tally to a history of its cell
abbrev stands : Tally → Log TallyEntry → Type 0
stands t h = RepresentsTally (tally_past h) t

abbrev no_name : Tally → List ℕ
no_name t = []

-- the past of a history that goes on
past_on : (h more : Log TallyEntry) → tally_past (h ++ more) ≡ tally_past more ++ tally_past h
past_on h more = ap reverse (map-append (λ (x : ℕ × TallyEntry). x.1) h more)
    ∙ reverse-append (map (λ (x : ℕ × TallyEntry). x.1) h) (map (λ (x : ℕ × TallyEntry). x.1) more)

yes_or_no : (b : Bool) → (yes_if b ≡ Yes) ⊎ (yes_if b ≡ No)
yes_or_no true = inl refl
yes_or_no false = inr refl

yes_or_none : (b : Bool) → (yes_with b ≡ Yes) ⊎ (yes_with b ≡ NoMemory)
yes_or_none true = inl refl
yes_or_none false = inr refl

-- how a call counts after a past
may_answer : (room : Bool) (past : List TallyEntry) (call : TallyCall)
    → MayAnswer call (counts room past call)
may_answer room past (Accept o) = yes_or_none room
may_answer room past TurnAway = refl
may_answer room past (Finish o) = yes_or_no (is_open o past)
may_answer room past (Stop code) = yes_or_no (is_unstopped (totals_of past).stop)
may_answer room past Look = refl

pub tally_entered : (e : TallyEntry) (v w : View TallyEntry) → Entered stands no_name e v w
    → TallyEntered e v w
tally_entered e v w s =
    let adds = entered_adds stands no_name e v w s in
    let right : IsTallyPast (tally_past w.seen) = s.is_part.0.right in
    let latest : tally_past w.seen ≡ e ∷ (tally_past s.between ++ tally_past v.seen) = ap tally_past s.seen
    ∙ (past_on (v.seen ++ s.between) ((seat_of v, e) ∷ []) ∙ ap (λ l. e ∷ l) (past_on v.seen s.between)) in
    let told = (subst IsTallyPast latest right).0 in record {
      own = adds.own;
      counted = subst (MayAnswer e.call) (sym (ap (λ (r : TallyReply). r.counted) told.1))
          (may_answer told.0 (tally_past s.between ++ tally_past v.seen) e.call);
      between = tally_past s.between;
      latest = latest;
      right = right;
      classes = s.classes;
      met_spent = s.met_spent;
      grown = adds.grown;
    }

pub tally_spent : (v w : View TallyEntry) → WasSpent {E = TallyEntry} stands no_name v w → TallySpent v w
tally_spent v w s = let adds = spent_adds stands no_name v w s in record {
  own = adds.own ∙ append-nil (entries_of v);
  seen = s.unmoved.seen;
  classes = s.unmoved.classes;
  met_spent = s.met_spent;
  grown = adds.grown;
}
