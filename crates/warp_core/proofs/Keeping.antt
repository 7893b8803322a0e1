-- A dispatcher keeps its events, whatever it does.
use Rattle.std.proofs.Common.{◌≡◌, ℕ, List, [], ◌∷◌, ◌++◌, refl, sym, ap, arith, append-nil}
use Rattle.reg_keys.specs.declared.event.EventName.{EventName}
use Rattle.reg_keys.specs.declared.entry.Entry.{Entry}
use Rattle.reg_keys.specs.declared.entry.Entry.TheVariants.{Open, Report, Register, Withdraw, Ask, Dispatch}
use Rattle.reg_keys.specs.declared.entry.Entry.TheVariants.{Close}
use Rattle.turn_cell.specs.declared.view.View.{View}
use Rattle.turn_cell.specs.Weights.{weigh}
use Rattle.turn_cell.specs.History.{Log}
use Rattle.turn_cell.specs.View.{own_entries}
use Rattle.turn_cell.specs.ListLaws.{weigh-append}
use Rattle.ready_queue.specs.Weights.{weigh_put, weigh_taken}
use Rattle.event_mgr.specs.Manager.{MgrView}
use Rattle.dispatcher.specs.Books.{IsBalanced}
use Rattle.dispatcher.specs.Entries.{named_by, dispatched_by, IsOfRun}
use Rattle.dispatcher.specs.Runs.{HasMadeCalls, RunsAt}
use Rattle.dispatcher.specs.Stripes.{Each, AreOfRun, weigh_shown}
use Rattle.warp_passes.specs.Passes.{PassView}
use Rattle.warp_passes.specs.Levels.{DidNothing, IsNew, OwnsTheSame}
use Rattle.warp_core.specs.Events.{KeepsEvents, book_in}

-- ---- the calls of a run dispatch nothing

run_dispatches_none : (weight : EventName → ℕ) (e : Entry) → IsOfRun e → weigh weight (dispatched_by e) ≡ 0
run_dispatches_none weight (Open fd r) of = refl
run_dispatches_none weight (Report o ds r) of = absurd of
run_dispatches_none weight (Register o d m kind r) of = refl
run_dispatches_none weight (Withdraw key r) of = refl
run_dispatches_none weight (Ask key r) of = refl
run_dispatches_none weight (Dispatch x r) of = absurd of
run_dispatches_none weight (Close o r) of = refl

runs_dispatch_none : (weight : EventName → ℕ) (es : Log Entry) → AreOfRun es
    → weigh (λ (e : ℕ × Entry). weigh weight (dispatched_by e.1)) es ≡ 0
runs_dispatch_none weight [] of = refl
runs_dispatch_none weight (e ∷ es) of =
    let a = run_dispatches_none weight e.1 of.0 in
    let r = runs_dispatch_none weight es of.1 in
    omega arith

stripes_dispatch : (weight : EventName → ℕ) (vs ws : List (View Entry)) → Each RunsAt vs ws
    → weigh (λ (x : View Entry). weigh (λ (e : ℕ × Entry). weigh weight (dispatched_by e.1)) (own_entries x)) ws
    ≡ weigh (λ (x : View Entry). weigh (λ (e : ℕ × Entry). weigh weight (dispatched_by e.1)) (own_entries x)) vs
stripes_dispatch weight [] [] runs = refl
stripes_dispatch weight [] (w ∷ ws) runs = absurd runs
stripes_dispatch weight (v ∷ vs) [] runs = absurd runs
stripes_dispatch weight (v ∷ vs) (w ∷ ws) runs =
    let f : ℕ × Entry → ℕ = λ e. weigh weight (dispatched_by e.1) in
    let own = ap (weigh f) runs.0.own in
    let both = weigh-append f (own_entries v) runs.0.made in
    let none = runs_dispatch_none weight runs.0.made runs.0.calls in
    let r = stripes_dispatch weight vs ws runs.1 in
    omega arith

made_dispatch : (weight : EventName → ℕ) (v : MgrView) (events : List EventName) (w : MgrView)
    → HasMadeCalls v events w
    → weigh_shown dispatched_by weight w ≡ weigh_shown dispatched_by weight v
made_dispatch weight v events w made = stripes_dispatch weight v.stripes w.stripes made.stripes

-- ---- what a dispatcher does

module _ {L : Type 0} where
  -- at the beginning
  pub keeps_first : (v : PassView L) → IsNew v → DidNothing v → KeepsEvents v
  keeps_first v new none weight =
      let named = none.calls (λ e. weigh weight (named_by e)) in
      let gone = none.calls (λ e. weigh weight (dispatched_by e)) in
      let put = ap (weigh_put weight) none.moved in
      let took = ap (weigh_taken weight) none.moved in
      let hand = ap (weigh weight) new.hand in
      omega arith

  -- a turn
  pub keeps_balanced : (v w : PassView L) → IsBalanced (book_in v) (book_in w) → KeepsEvents v → KeepsEvents w
  keeps_balanced v w balanced keeps weight =
      let was = keeps weight in
      let on = balanced weight in
      omega arith

  -- calls of a run, whose events come into the hand
  pub keeps_called : (v : PassView L) (events : List EventName) (mgr : MgrView) (hand : List EventName)
      → HasMadeCalls v.mgr events mgr → hand ≡ v.hand ++ events → KeepsEvents v
      → KeepsEvents (record v { mgr = mgr; hand = hand })
  keeps_called v events mgr hand made put keeps weight =
      let was = keeps weight in
      let named = made.named weight in
      let gone = made_dispatch weight v.mgr events mgr made in
      let held = ap (weigh weight) put in
      let both = weigh-append weight v.hand events in
      omega arith

  -- calls of a run that named no event
  pub keeps_silent : (v : PassView L) (mgr : MgrView) → HasMadeCalls v.mgr [] mgr → KeepsEvents v
      → KeepsEvents (record v { mgr = mgr })
  keeps_silent v mgr made keeps = keeps_called v [] mgr v.hand made (sym (append-nil v.hand)) keeps

  -- levelling
  pub keeps_levelled : (v w : PassView L) → OwnsTheSame v w → w.hand ≡ v.hand → KeepsEvents v → KeepsEvents w
  keeps_levelled v w owns hand keeps weight =
      let was = keeps weight in
      let named = owns.calls (λ e. weigh weight (named_by e)) in
      let gone = owns.calls (λ e. weigh weight (dispatched_by e)) in
      let put = ap (weigh_put weight) owns.moved in
      let took = ap (weigh_taken weight) owns.moved in
      let held = ap (weigh weight) hand in
      omega arith
