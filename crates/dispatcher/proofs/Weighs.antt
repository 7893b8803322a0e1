-- What the entries of a run weigh, and what a queue's moves do.
use Rattle.std.proofs.Common.{◌≡◌, ℕ, ◌+◌, List, [], ◌∷◌, ◌++◌, refl, ap, arith}
use Rattle.reg_keys.specs.declared.event.EventName.{EventName}
use Rattle.reg_keys.specs.declared.entry.Entry.{Entry}
use Rattle.reg_keys.specs.declared.entry.Entry.TheVariants.{Open, Report, Register, Withdraw, Ask, Dispatch}
use Rattle.reg_keys.specs.declared.entry.Entry.TheVariants.{Close}
use Rattle.turn_cell.specs.declared.view.View.{View}
use Rattle.turn_cell.specs.Weights.{weigh}
use Rattle.turn_cell.specs.History.{Log}
use Rattle.turn_cell.specs.View.{own_entries, seat_of}
use Rattle.turn_cell.specs.ListLaws.{weigh-append}
use Rattle.ready_queue.specs.declared.rule.Move.{Move}
use Rattle.ready_queue.specs.Weights.{weigh_put, weigh_taken}
use Rattle.ready_queue.specs.History.{put_of, taken_of}
use Rattle.ready_queue.specs.Calls.{HasMoved}
use Rattle.event_mgr.specs.Manager.{MgrView}
use Rattle.dispatcher.specs.Entries.{IsOfRun, dispatched_by}
use Rattle.dispatcher.specs.Stripes.{Each, AreOfRun, weigh_shown}
use Rattle.dispatcher.specs.Runs.{RunsAt, RunMade}
use Rattle.dispatcher.specs.declared.runner.AfterRun.{AfterRun}

none_by : (h : EventName → ℕ) (e : Entry) → IsOfRun e → weigh h (dispatched_by e) ≡ 0
none_by h (Open fd r) a = refl
none_by h (Report o ds r) a = absurd a
none_by h (Register o d m k r) a = refl
none_by h (Withdraw k r) a = refl
none_by h (Ask k r) a = refl
none_by h (Dispatch x r) a = absurd a
none_by h (Close o r) a = refl

none_dispatched : (h : EventName → ℕ) (es : Log Entry) → AreOfRun es
    → weigh (λ (e : ℕ × Entry). weigh h (dispatched_by e.1)) es ≡ 0
none_dispatched h [] a = refl
none_dispatched h (e ∷ es) a =
    let n = none_by h e.1 a.0 in
    let r = none_dispatched h es a.1 in omega arith

-- what is dispatched at one stripe
abbrev at_stripe : (EventName → ℕ) → View Entry → ℕ
at_stripe h x = weigh (λ (e : ℕ × Entry). weigh h (dispatched_by e.1)) (own_entries x)

runs_weigh : (h : EventName → ℕ) (vs ws : List (View Entry)) → Each RunsAt vs ws
    → weigh (at_stripe h) ws ≡ weigh (at_stripe h) vs
runs_weigh h [] [] a = refl
runs_weigh h [] (w ∷ ws) a = absurd a
runs_weigh h (v ∷ vs) [] a = absurd a
runs_weigh h (v ∷ vs) (w ∷ ws) a = let f : ℕ × Entry → ℕ = λ e. weigh h (dispatched_by e.1) in
    let o : weigh f (own_entries w) ≡ weigh f (own_entries v ++ a.0.made) = ap (weigh f) a.0.own in
    let t = weigh-append f (own_entries v) a.0.made in
    let n = none_dispatched h a.0.made a.0.calls in
    let r = runs_weigh h vs ws a.1 in
    omega arith

-- a run dispatches no event
pub run_dispatches_none : (h : EventName → ℕ) (v : MgrView) (r : AfterRun) (w : MgrView) → RunMade v r w
    → weigh_shown dispatched_by h w ≡ weigh_shown dispatched_by h v
run_dispatches_none h v r w k = runs_weigh h v.stripes w.stripes k.stripes

module _ (h : EventName → ℕ) (capacity : ℕ) (v w : View Move) where
  pub put_weighs : (m : Move) → HasMoved capacity m v w
      → weigh_put h (own_entries w) ≡ weigh_put h (own_entries v) + weigh h (put_of m)
  put_weighs m k =
      let f : ℕ × Move → ℕ = λ m. weigh h (put_of m.1) in
      let o : weigh f (own_entries w) ≡ weigh f (own_entries v ++ (seat_of v, m) ∷ []) = ap (weigh f) k.own in
      let t = weigh-append f (own_entries v) ((seat_of v, m) ∷ []) in omega arith

  pub taken_weighs : (m : Move) → HasMoved capacity m v w
      → weigh_taken h (own_entries w) ≡ weigh_taken h (own_entries v) + weigh h (taken_of m)
  taken_weighs m k =
      let f : ℕ × Move → ℕ = λ m. weigh h (taken_of m.1) in
      let o : weigh f (own_entries w) ≡ weigh f (own_entries v ++ (seat_of v, m) ∷ []) = ap (weigh f) k.own in
      let t = weigh-append f (own_entries v) ((seat_of v, m) ∷ []) in omega arith
