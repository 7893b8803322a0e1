-- Why a dispatcher makes no further turn, as its passes grow, and what the end of the server rests on then.
use Rattle.std.proofs.Common.{◌≡◌, ℕ, ◌≤◌, List, All, sym, ap}
use Rattle.std.proofs.Common.{◌∙◌, subst, ⊎_elim, arith}
use Rattle.std.specs.Prelude.{◌⊎◌, slice_get, Some, None, Option, Any, IfSome, IsSomeAnd}
use Rattle.std.proofs.lemmas.Option.{slice_get-get_or}
use Rattle.turn_cell.specs.declared.view.View.{View}
use Rattle.turn_cell.specs.Weights.{weigh}
use Rattle.turn_cell.specs.View.{own_entries}
use Rattle.turn_cell.specs.ListLaws.{weigh-append}
use Rattle.level.specs.ListLaws.{weigh_map}
use Rattle.dispatcher.specs.Stripes.{HasGrown}
use Rattle.warp_tally.specs.declared.calls.TallyEntry.{TallyEntry}
use Rattle.warp_passes.specs.Own.{entries_of}
use Rattle.warp_passes.specs.Passes.{PassView}
use Rattle.dispatcher.specs.Firings.{Jobs}
use Rattle.warp_runner.specs.Acts.{ServeTold}
use Rattle.warp_runner.specs.Journal.{FitsUntil}
use Rattle.warp_core.specs.Ends.{EndsSo}
use Rattle.warp_core.specs.declared.row.Halted.{Halted}
use Rattle.warp_core.specs.declared.row.Halted.TheVariants as Halts
use Rattle.warp_core.specs.declared.served.ServeEnd.{ServeEnd}
use Rattle.warp_core.specs.declared.served.ServeEnd.TheVariants.{Over, PollFault, AcceptFault, Spent}
use Rattle.warp_core.specs.declared.served.ServeEnd.TheVariants.{NoMemory}
use Rattle.warp_core.specs.Rows.{HaltsBy, stop_in}
use Rattle.warp_core.specs.Settling.{EndOf, ShowsOver}
use Rattle.warp_core.specs.Stops.{stops}
use Rattle.warp_core.proofs.RowLists.{weigh_one_of}

-- what a pass did weighs no less once it has grown
pub grown_weighs : {E : Type 0} (f : E → ℕ) (v w : View E) → HasGrown v w
    → weigh f (entries_of v) ≤ weigh f (entries_of w)
grown_weighs f v w grown =
    let a = weigh_map (λ e. e.1) f (own_entries v) in
    let b = weigh_map (λ e. e.1) f (own_entries w) in
    let p = weigh-append (λ e. f e.1) (own_entries v) grown.own.0 in
    let q = ap (weigh (λ e. f e.1)) grown.own.1 in
    omega arith

pub halts_on : (p q : ℕ) (t u : View TallyEntry) (h : Option Halted) → p ≤ q → HasGrown t u
    → HaltsBy p t h → HaltsBy q u h
halts_on p q t u None more grown halts = tt
halts_on p q t u (Some Halts.PollFault) more grown halts = omega arith
halts_on p q t u (Some (Halts.WithCode code)) more grown halts =
    let w = grown_weighs (stops code) t u grown in
    omega arith
halts_on p q t u (Some Halts.Spent) more grown halts = tt

-- what the end rests on that one dispatcher's halt gives
abbrev RestsOn : ServeEnd → ℕ → View TallyEntry → Type 0
RestsOn (Over counts) polls tally = ⊥
RestsOn PollFault polls tally = 1 ≤ polls
RestsOn AcceptFault polls tally = 1 ≤ weigh (stops 9) (entries_of tally)
RestsOn NoMemory polls tally = 1 ≤ weigh (stops 6) (entries_of tally)
RestsOn Spent polls tally = Unit {0}

rests_by_code : (end : ServeEnd) (code : ℕ) (polls : ℕ) (tally : View TallyEntry)
    → EndOf (Halts.WithCode code) end → HaltsBy polls tally (Some (Halts.WithCode code))
    → RestsOn end polls tally
rests_by_code end code polls tally is halts = ⊎_elim
    (λ a. subst (λ (e : ServeEnd). RestsOn e polls tally) (sym a.0) (let c =
    ap (λ (n : ℕ). weigh (stops n) (entries_of tally)) a.1 in omega arith))
    (λ b. ⊎_elim
    (λ a. subst (λ (e : ServeEnd). RestsOn e polls tally) (sym a.0) (let c =
    ap (λ (n : ℕ). weigh (stops n) (entries_of tally)) a.1 in omega arith))
    (λ a. subst (λ (e : ServeEnd). RestsOn e polls tally) (sym a) tt) b) is

rests_on : (end : ServeEnd) (h : Option Halted) (polls : ℕ) (tally : View TallyEntry)
    → IsSomeAnd h (λ halted. EndOf halted end) → HaltsBy polls tally h → RestsOn end polls tally
rests_on end None polls tally is halts = absurd is
rests_on end (Some Halts.PollFault) polls tally is halts =
    subst (λ (e : ServeEnd). RestsOn e polls tally) (sym is) halts
rests_on end (Some (Halts.WithCode code)) polls tally is halts = rests_by_code end code polls tally is halts
rests_on end (Some Halts.Spent) polls tally is halts =
    subst (λ (e : ServeEnd). RestsOn e polls tally) (sym is) tt

module _ {A L : Type 0} (known : A → PassView L) (polls : A → ℕ) where
  ends_so : (limit : ℕ) (end : ServeEnd) (xs : List A) (i : ℕ) (x : A) → slice_get xs i ≡ Some x
      → RestsOn end (polls x) (known x).tally → EndsSo known limit end xs (weigh polls xs)
  ends_so limit (Over counts) xs i x at rests = absurd rests
  ends_so limit PollFault xs i x at rests = let w = weigh_one_of polls xs i x at in omega arith
  ends_so limit AcceptFault xs i x at rests =
      let w = weigh_one_of (λ (y : A). weigh (stops 9) (entries_of (known y).tally)) xs i x at in
      omega arith
  ends_so limit Spent xs i x at rests = tt
  ends_so limit NoMemory xs i x at rests =
      let w = weigh_one_of (λ (y : A). weigh (stops 6) (entries_of (known y).tally)) xs i x at in
      omega arith

  -- where one of several dispatchers makes no further turn, the end rests on its cause
  pub ends_halted : (halted : A → Option Halted) (limit : ℕ) (end : ServeEnd) (xs : List A)
      → All (λ x. HaltsBy (polls x) (known x).tally (halted x)) xs
      → Any (λ x. IsSomeAnd (halted x) (λ h. EndOf h end)) xs → EndsSo known limit end xs (weigh polls xs)
  ends_halted halted limit end xs all any =
      let at : slice_get xs any.0 ≡ Some any.1 =
      slice_get-get_or xs any.0 any.1 any.2 ∙ ap (λ (y : A). Some y) any.3 in
      let halts : HaltsBy (polls any.1) (known any.1).tally (halted any.1) =
      subst (λ (y : A). HaltsBy (polls y) (known y).tally (halted y)) any.3 (all any.0 any.1 any.2) in
      ends_so limit end xs any.0 any.1 at
      (rests_on end (halted any.1) (polls any.1) (known any.1).tally any.4 halts)

  -- what was shown of the end is what it rests on, where no dispatcher halted
  pub ends_shown : (limit : ℕ) (end : Option ServeEnd) (xs : List A) → ShowsOver known limit end xs
      → IfSome end (λ e. EndsSo known limit e xs (weigh polls xs))
  ends_shown limit None xs shows = tt
  ends_shown limit (Some (Over counts)) xs shows = shows
  ends_shown limit (Some PollFault) xs shows = absurd shows
  ends_shown limit (Some AcceptFault) xs shows = absurd shows
  ends_shown limit (Some Spent) xs shows = tt
  ends_shown limit (Some NoMemory) xs shows = absurd shows

-- a dispatcher may halt with the code of its journal, or with none
pub halts_as : (limit : ℕ) (u : ServeTold) (jobs : Jobs) (halted : Halted) (code : ℕ)
    → (stop_in (Some halted) ≡ None) ⊎ (stop_in (Some halted) ≡ Some code)
    → FitsUntil limit (Some code) u jobs → FitsUntil limit (stop_in (Some halted)) u jobs
halts_as limit u jobs halted code is fits = ⊎_elim
    (λ a. subst (λ (o : Option ℕ). FitsUntil limit o u jobs) (sym a) (fits.0, tt))
    (λ b. subst (λ (o : Option ℕ). FitsUntil limit o u jobs) (sym b) fits) is
