-- Inner: laws that crates above cite too: a sweep makes one call that is a sweep, what follows of it makes none,
-- a run makes none, and a sweep closes each opening that it gave.
use Rattle.std.proofs.Common.{◌≡◌, ℕ, ◌+◌, List, [], ◌∷◌, ◌++◌, ap, ◌∙◌, inl, inr, arith, refl, ⊎_elim, sym}
use Rattle.std.proofs.Common.{◌≤◌}
use Rattle.std.specs.Prelude.{◌⊎◌, Option, None, true, false, Some}
use Rattle.turn_cell.specs.Weights.{weigh}
use Rattle.turn_cell.specs.ListLaws.{weigh-append}
use Rattle.reg_keys.specs.declared.opening.Opening.{Opening}
use Rattle.reg_keys.specs.declared.entry.Entry.TheVariants as Entries
use Rattle.reg_keys.specs.declared.entry.ShutKey.{ShutKey}
use Rattle.timeout_mgr.specs.declared.view.TimeCall.{TimeCall}
use Rattle.timeout_mgr.specs.declared.view.TimeCall.TheVariants.{Cancel, Add, Tickle, Sweep}
use Rattle.timeout_mgr.specs.declared.view.CancelOutcome.TheVariants as Cancels
use Rattle.timeout_mgr.specs.declared.view.WatchName.{WatchName}
use Rattle.warp_books.specs.Books.{FinishedTold}
use Rattle.warp_runner.specs.Acts.{Acts, called, then, ServeTold, counted, nothing, watched}
use Rattle.warp_runner.specs.Deeds.{AreCancels, InTurn, IsHanding, IsLetGo, IsParting, IsSweeping}
use Rattle.warp_runner.specs.Deeds.{IsTimingOut, IsAdmitting, IsBeginning, IsConnectionRun, IsEnding}
use Rattle.warp_runner.specs.Deeds.{IsEndingBare, IsEntering, IsFailing, IsGoingOn, IsLeaving}
use Rattle.warp_runner.specs.Deeds.{IsListenerRun, IsListening, IsNoOpening, IsOpeningSpent, IsRegistering}
use Rattle.warp_runner.specs.Deeds.{IsTakingLink, IsTurningAway, registering, tried, AreNoOpenings, IsNote}
use Rattle.warp_runner.specs.Deeds.{IsOpenedAtLast, IsOpenedNever, IsStarting, IsStartingAt, spent}
use Rattle.warp_runner.specs.Sweeps.{HasSweptOnce, is_sweep, StopsInSweep, closes, gave}
use Rattle.reg_keys.specs.declared.registration.Dir.{Dir}
use Rattle.reg_keys.specs.declared.registration.Dir.TheVariants as Dirs
use Rattle.reg_keys.specs.declared.registration.Marks.{Marks}
use Rattle.reg_keys.specs.declared.entry.OpenOutcome.TheVariants as Opens
use Rattle.reg_keys.specs.declared.entry.RegisterOutcome.TheVariants as Registers
use Rattle.dispatcher.specs.Entries.{Firing}
use Rattle.timeout_mgr.specs.declared.view.AddOutcome.TheVariants as Adds
use Rattle.warp_tally.specs.declared.calls.TallyCall.TheVariants as Tallies
use Rattle.warp_jobs.specs.Held.{Held}
use Rattle.warp_jobs.specs.HeldListener.{HeldListener}
use Rattle.warp_jobs.specs.Sessions.{first_held}
use Rattle.warp_jobs.specs.Tags.{listen_tag, serve_tag}
use Rattle.warp_runner.specs.Asking.{HasNotSwept}
use Rattle.warp_runner.specs.Journal.{IsRun, Deed, IsDeed}
use Rattle.warp_runner.specs.Runs.{HasRun}
use Rattle.reg_keys.specs.declared.event.EventName.{EventName}
use Rattle.std.proofs.lemmas.Option.{none-some}
use Rattle.reg_keys.specs.Tests.{one_if, same}
use Rattle.reg_keys.specs.declared.entry.Entry.{Entry}
use Rattle.warp_tally.specs.Accounts.{times}
use Rattle.outside.specs.ListenCauses.{ListenerTold}

abbrev pub swept_in : Acts → ℕ
swept_in a = weigh is_sweep a.timed

pub swept_then : (acts a b : Acts) → acts ≡ then a b → swept_in acts ≡ swept_in a + swept_in b
swept_then acts a b is =
    let e = ap (λ (x : Acts). swept_in x) is in
    let w = weigh-append is_sweep a.timed b.timed in
    omega arith

cancel_at : (w : WatchName) (c : TimeCall) → (c ≡ Cancel w Cancels.Cancelled) ⊎ (c ≡ Cancel w Cancels.Gone)
    → is_sweep c ≡ 0
cancel_at w c (inl is) = ap is_sweep is
cancel_at w c (inr is) = ap is_sweep is

cancels_none : (w : WatchName) (cs : List TimeCall) → AreCancels w cs → weigh is_sweep cs ≡ 0
cancels_none w [] are = absurd are
cancels_none w (c ∷ cs) (inl p) =
    let a = cancel_at w c p.0 in
    let b = ap (weigh is_sweep) p.1 in omega arith
cancels_none w (c ∷ cs) (inr p) =
    let a = ap is_sweep p.0 in
    let b = cancels_none w cs p.1 in omega arith

pub handing_none : (h : FinishedTold) (acts : Acts) (stopped : Option ℕ) → IsHanding h acts stopped
    → swept_in acts ≡ 0
handing_none h acts stopped (inl p) = ap (λ (x : Acts). swept_in x) p.1
handing_none h acts stopped (inr p) = ap (λ (x : Acts). swept_in x) p.0

pub parting_none : (w : WatchName) (h : FinishedTold) (acts : Acts) (stopped : Option ℕ)
    → IsParting w h acts stopped → swept_in acts ≡ 0
parting_none w h acts stopped p =
    let a = ap (λ (x : Acts). swept_in x) p.4 in
    let b = weigh-append is_sweep p.0 p.1.timed in
    let c = cancels_none w p.0 p.3 in
    let d = handing_none h p.1 p.2 p.5 in
    omega arith

module _ {A : Type 0} (Does : A → Acts → Option ℕ → Type 0)
    (each : (x : A) (acts : Acts) (stopped : Option ℕ) → Does x acts stopped → swept_in acts ≡ 0) where
  in_turn_none : (xs : List A) (acts : Acts) (stopped : Option ℕ) → InTurn Does xs acts stopped
      → swept_in acts ≡ 0
  in_turn_none [] acts stopped p = ap (λ (x : Acts). swept_in x) p.0
  in_turn_none (x ∷ xs) acts stopped (inl p) = each x acts stopped p.2
  in_turn_none (x ∷ xs) acts stopped (inr p) =
      let a = swept_then acts p.0 p.1 p.3 in
      let b = each x p.0 None p.2 in
      let c = in_turn_none xs p.1 stopped p.4 in
      omega arith

let_go_none : (x : ShutKey) (acts : Acts) (stopped : Option ℕ) → IsLetGo x acts stopped → swept_in acts ≡ 0
let_go_none x acts stopped (inl p) = parting_none _ _ acts stopped p.2
let_go_none x acts stopped (inr p) = ap (λ (a : Acts). swept_in a) p.1

timing_out_none : (o : Opening) (acts : Acts) (stopped : Option ℕ) → IsTimingOut o acts stopped
    → swept_in acts ≡ 0
timing_out_none o acts stopped (inl p) =
    let a = swept_then acts (called (Entries.Close o p.0)) p.1 p.2 in
    let b = in_turn_none IsLetGo let_go_none _ p.1 stopped p.3 in
    omega arith
timing_out_none o acts stopped (inr p) = ap (λ (a : Acts). swept_in a) p.0

-- what a sweep made of calls on the timeouts
pub swept_once : (old new : List TimeCall) (acts : Acts) (stopped : Option ℕ) → IsSweeping acts stopped
    → new ≡ old ++ acts.timed → HasSweptOnce old new
swept_once old new acts stopped p is = (
  p.0,
  p.1.timed,
  is ∙ ap (λ (a : Acts). old ++ a.timed) p.2,
  in_turn_none IsTimingOut timing_out_none p.0 p.1 stopped p.3,
)

ending_none : (w : WatchName) (h : FinishedTold) (acts : Acts) (stopped : Option ℕ)
    → IsEnding w h acts stopped → swept_in acts ≡ 0
ending_none w h acts stopped (inl p) =
    let a = swept_then acts (called (Entries.Close h.opening p.0)) p.1 p.2 in
    let b = parting_none w h p.1 stopped p.3 in
    omega arith
ending_none w h acts stopped (inr p) = ap (λ (x : Acts). swept_in x) p.0

bare_none : (h : FinishedTold) (acts : Acts) (stopped : Option ℕ) → IsEndingBare h acts stopped
    → swept_in acts ≡ 0
bare_none h acts stopped (inl p) =
    let a = swept_then acts (called (Entries.Close h.opening p.0)) p.1 p.2 in
    let b = handing_none h p.1 stopped p.3 in
    omega arith
bare_none h acts stopped (inr p) = ap (λ (x : Acts). swept_in x) p.0

registering_none : (h : Held) (d : Dir) (m : Option ℕ) (acts : Acts) (stopped : Option ℕ)
    → IsRegistering h d m acts stopped → swept_in acts ≡ 0
registering_none h d m acts stopped (inl p) = ap (λ (x : Acts). swept_in x) p.2
registering_none h d m acts stopped (inr (inl p)) =
    let a = swept_then acts (registering h.opening d m (serve_tag h) Registers.Crowded) p.0 p.1 in
    let b = ending_none h.watch _ p.0 stopped p.2 in
    omega arith
registering_none h d m acts stopped (inr (inr (inl p))) =
    let w = watched (Tickle h.watch p.0 ∷ []) in
    let a = swept_then acts (registering h.opening d m (serve_tag h) Registers.Shut) (then w p.1) p.2 in
    let b = swept_then (then w p.1) w p.1 refl in
    let c = ending_none h.watch _ p.1 stopped p.3 in
    omega arith
registering_none h d m acts stopped (inr (inr (inr (inl is, stops)))) = ap (λ (x : Acts). swept_in x) is
registering_none h d m acts stopped (inr (inr (inr (inr is, stops)))) = ap (λ (x : Acts). swept_in x) is

-- ---- a run of a connection

connection_none : (h : Held) (marks : Marks) (acts : Acts) (stopped : Option ℕ)
    → IsConnectionRun h marks acts stopped → swept_in acts ≡ 0
connection_none h marks acts stopped (inl p) =
    let a = swept_then acts (watched (Tickle h.watch false ∷ [])) p.0 p.1 in
    let b = ending_none h.watch _ p.0 stopped p.2 in
    omega arith
connection_none h marks acts stopped (inr (inl p)) =
    let a = swept_then acts (watched (Tickle h.watch true ∷ [])) p.2 p.5 in
    let b = ending_none h.watch _ p.2 stopped p.6 in
    omega arith
connection_none h marks acts stopped (inr (inr (inl p))) =
    let a = swept_then acts (watched (Tickle h.watch true ∷ [])) p.2 p.5 in
    let b = registering_none p.0 p.1 _ p.2 stopped p.6 in
    omega arith
connection_none h marks acts stopped (inr (inr (inr p))) = ap (λ (x : Acts). swept_in x) p.0

-- ---- a run of the listener

entering_none : (o : Opening) (acts : Acts) (stopped : Option ℕ) → IsEntering o acts stopped
    → swept_in acts ≡ 0
entering_none o acts stopped (link, inl p) = bare_none _ acts stopped p.2
entering_none o acts stopped (link, inr (inl p)) =
    let a = swept_then acts (watched (Add o Adds.Full ∷ [])) p.0 p.1 in
    let b = bare_none _ p.0 stopped p.2 in
    omega arith
entering_none o acts stopped (link, inr (inr (inl p))) =
    let a = swept_then acts (watched (Add o (Adds.Added p.0) ∷ [])) p.1 p.2 in
    let b = ending_none p.0 _ p.1 stopped p.3 in
    omega arith
entering_none o acts stopped (link, inr (inr (inr p))) =
    let a = swept_then acts (watched (Add o (Adds.Added p.0) ∷ [])) p.1 p.2 in
    let b = registering_none (first_held o link p.0) Dirs.Read None p.1 stopped p.3 in
    omega arith

admitting_none : (o : Opening) (acts : Acts) (stopped : Option ℕ) → IsAdmitting o acts stopped
    → swept_in acts ≡ 0
admitting_none o acts stopped (inl p) =
    let a = swept_then acts (counted (record { call = Tallies.Accept o; reply = p.0 })) p.1 p.3 in
    let b = entering_none o p.1 stopped p.4 in
    omega arith
admitting_none o acts stopped (inr (inl p)) = ap (λ (x : Acts). swept_in x) p.2
admitting_none o acts stopped (inr (inr p)) = ap (λ (x : Acts). swept_in x) p.0

turning_none : (acts : Acts) (stopped : Option ℕ) → IsTurningAway acts stopped → swept_in acts ≡ 0
turning_none acts stopped (inl p) = ap (λ (x : Acts). swept_in x) p.1
turning_none acts stopped (inr p) = ap (λ (x : Acts). swept_in x) p.0

no_opening_none : (acts : Acts) → IsNoOpening acts → swept_in acts ≡ 0
no_opening_none acts (inl is) = ap (λ (x : Acts). swept_in x) is
no_opening_none acts (inr p) = ap (λ (x : Acts). swept_in x) p.1

spent_none : (acts : Acts) → IsOpeningSpent acts → swept_in acts ≡ 0
spent_none acts (inl is) = ap (λ (x : Acts). swept_in x) is
spent_none acts (inr p) = ap (λ (x : Acts). swept_in x) p.1

beginning_none : (acts : Acts) (stopped : Option ℕ) → IsBeginning acts stopped → swept_in acts ≡ 0
beginning_none acts stopped (inl p) =
    let a = swept_then acts (called (Entries.Open p.0.fd (Opens.Opened p.0))) p.1 p.2 in
    let b = admitting_none p.0 p.1 stopped p.3 in
    omega arith
beginning_none acts stopped (inr (inl p)) =
    let a = swept_then acts p.0 p.1 p.3 in
    let b = no_opening_none p.0 p.2 in
    let c = turning_none p.1 stopped p.4 in
    omega arith
beginning_none acts stopped (inr (inr p)) = spent_none acts p.0

listening_none : (l : HeldListener) (m : Option ℕ) (acts : Acts) (stopped : Option ℕ)
    → IsListening l m acts stopped → swept_in acts ≡ 0
listening_none l m acts stopped (inl (p, stops)) =
    swept_then acts (tried l.opening Dirs.Read m (listen_tag l) p.0)
    (registering l.opening Dirs.Read m (listen_tag l) (Registers.Waits p.2.0 p.2.1)) p.2.2
listening_none l m acts stopped (inr (p, stops)) =
    let a = swept_then acts (tried l.opening Dirs.Read m (listen_tag l) p.0) p.2.0 p.2.2 in
    let b = last_none p.2.0 p.2.1 in
    omega arith
  where
    last_none : (last : Acts)
        → (last ≡ nothing) ⊎ (last ≡ registering l.opening Dirs.Read m (listen_tag l) Registers.Spent)
        → swept_in last ≡ 0
    last_none last (inl is) = ap (λ (x : Acts). swept_in x) is
    last_none last (inr is) = ap (λ (x : Acts). swept_in x) is

leaving_none : (l : HeldListener) (acts : Acts) (stopped : Option ℕ) → IsLeaving l acts stopped
    → swept_in acts ≡ 0
leaving_none l acts stopped (inl p) = ap (λ (x : Acts). swept_in x) p.1
leaving_none l acts stopped (inr p) = ap (λ (x : Acts). swept_in x) p.0

going_none : (limit : ℕ) (l : HeldListener) (acts : Acts) (stopped : Option ℕ)
    → IsGoingOn limit l acts stopped → swept_in acts ≡ 0
going_none limit l acts stopped (inl p) = leaving_none l acts stopped p.1
going_none limit l acts stopped (inr p) = listening_none l None acts stopped p.1

taking_none : (limit : ℕ) (l : HeldListener) (acts : Acts) (stopped : Option ℕ)
    → IsTakingLink limit l acts stopped → swept_in acts ≡ 0
taking_none limit l acts stopped (first, halt, begins, inl p) =
    ap (λ (x : Acts). swept_in x) p.2 ∙ beginning_none first halt begins
taking_none limit l acts stopped (first, halt, begins, inr p) =
    let a = swept_then acts first p.1 p.2 in
    let b = beginning_none first halt begins in
    let c = going_none limit l p.1 stopped p.3 in
    omega arith

failing_none : (l : HeldListener) (acts : Acts) (stopped : Option ℕ) → IsFailing l acts stopped
    → swept_in acts ≡ 0
failing_none l acts stopped (inl p) = listening_none l None acts stopped p
failing_none l acts stopped (inr p) = ap (λ (x : Acts). swept_in x) p.1

listener_none : (limit : ℕ) (l : HeldListener) (marks : Marks) (acts : Acts) (stopped : Option ℕ)
    → IsListenerRun limit l marks acts stopped → swept_in acts ≡ 0
listener_none limit l marks acts stopped (k, same, inl p) = taking_none limit k acts stopped p.1
listener_none limit l marks acts stopped (k, same, inr (inl p)) = listening_none k p.1 acts stopped p.3
listener_none limit l marks acts stopped (k, same, inr (inr p)) = failing_none k acts stopped p.1

run_none : (limit : ℕ) (f : Firing) (acts : Acts) (stopped : Option ℕ) → IsRun limit f acts stopped
    → swept_in acts ≡ 0
run_none limit f acts stopped (inl p) = connection_none p.0 f.1.marks acts stopped p.2
run_none limit f acts stopped (inr p) = listener_none limit p.0 f.1.marks acts stopped p.2

-- so a run leaves as many sweeps among the calls as there were
pub run_sweeps_none : (limit : ℕ) (f : Firing) (u w : ServeTold) (events : List EventName) (stopped : Option ℕ)
    → HasRun limit f u events stopped w → HasNotSwept u.timed w.timed
run_sweeps_none limit f u w events stopped ran =
    let a = ap (weigh is_sweep) ran.1.timed in
    let b = weigh-append is_sweep u.timed ran.0.timed in
    let c = run_none limit f ran.0 stopped ran.2 in
    omega arith

-- ---- words with the tally, and the beginning

note_none : (acts : Acts) → IsNote acts → swept_in acts ≡ 0
note_none acts (inl is) = ap (λ (x : Acts). swept_in x) is
note_none acts (inr p) = ap (λ (x : Acts). swept_in x) p.3

no_openings_none : (tries : List Acts) (acts : Acts) → AreNoOpenings tries acts → swept_in acts ≡ 0
no_openings_none [] acts is = ap (λ (x : Acts). swept_in x) is
no_openings_none (x ∷ xs) acts p =
    let a = swept_then acts p.0 x p.3 in
    let b = no_openings_none xs p.0 p.1 in
    let c = no_opening_none x p.2 in
    omega arith

opened_none : (o : Opening) (acts : Acts) → IsOpenedAtLast o acts → swept_in acts ≡ 0
opened_none o acts p =
    let a = swept_then acts p.1 (called (Entries.Open o.fd (Opens.Opened o))) p.3 in
    let b = no_openings_none p.0 p.1 p.2 in
    omega arith

never_none : (acts : Acts) → IsOpenedNever acts → swept_in acts ≡ 0
never_none acts p =
    let a = swept_then acts p.1 p.2 p.5 in
    let b = no_openings_none p.0 p.1 p.3 in
    let c = spent_none p.2 p.4 in
    omega arith

starting_at_none : (o : Opening) (listener : ListenerTold) (acts : Acts) (stopped : Option ℕ)
    → IsStartingAt o listener acts stopped → swept_in acts ≡ 0
starting_at_none o listener acts stopped (inl p) =
    listening_none (record { opening = o; listener = listener; accepted = 0 }) None acts stopped p
starting_at_none o listener acts stopped (inr p) = ap (λ (x : Acts). swept_in x) p.0

starting_none : (listener : ListenerTold) (acts : Acts) (stopped : Option ℕ) → IsStarting listener acts stopped
    → swept_in acts ≡ 0
starting_none listener acts stopped (inl p) =
    let a = swept_then acts p.1 p.2 p.4 in
    let b = opened_none p.0 p.1 p.3 in
    let c = starting_at_none p.0 listener p.2 stopped p.5 in
    omega arith
starting_none listener acts stopped (inr p) = never_none acts p.0

-- ---- what a sweep gave is closed

module _ (o : Opening) where
  -- calls of which none is a sweep gave nothing
  gave_none : (cs : List TimeCall) → weigh is_sweep cs ≡ 0 → weigh (gave o) cs ≡ 0
  gave_none [] none = refl
  gave_none (Add p r ∷ cs) none = let r = gave_none cs (omega arith) in omega arith
  gave_none (Tickle w alive ∷ cs) none = let r = gave_none cs (omega arith) in omega arith
  gave_none (Cancel w r ∷ cs) none = let r = gave_none cs (omega arith) in omega arith
  gave_none (Sweep given ∷ cs) none = absurd (omega arith)

  timing_closes : (p : Opening) (acts : Acts) → IsTimingOut p acts None
      → one_if (same o p) ≤ weigh (closes o) acts.calls
  timing_closes p acts (inl q) = let a = ap (λ (x : Acts). weigh (closes o) x.calls) q.2 in omega arith
  timing_closes p acts (inr q) = absurd (none-some spent q.1)

  in_turn_closes : (given : List Opening) (acts : Acts) → InTurn IsTimingOut given acts None
      → times o given ≤ weigh (closes o) acts.calls
  in_turn_closes [] acts p = omega arith
  in_turn_closes (x ∷ xs) acts (inl p) = absurd (none-some p.0 p.1)
  in_turn_closes (x ∷ xs) acts (inr p) =
      let a = ap (λ (y : Acts). weigh (closes o) y.calls) p.3 in
      let b = weigh-append (closes o) p.0.calls p.1.calls in
      let c = timing_closes x p.0 p.2 in
      let d = in_turn_closes xs p.1 p.4 in
      omega arith

  abbrev Closes : Deed → Type 0
  Closes d = weigh (gave o) d.acts.timed ≤ weigh (closes o) d.acts.calls

  sweep_closes : (d : Deed) (stopped : Option ℕ) → IsSweeping d.acts stopped
      → Closes d ⊎ ((code : ℕ) × (stopped ≡ Some code))
  sweep_closes d (Some code) p = inr (code, refl)
  sweep_closes d None p =
      let a = ap (λ (x : Acts). weigh (gave o) x.timed) p.2 in
      let b = gave_none p.1.timed (in_turn_none IsTimingOut timing_out_none p.0 p.1 None p.3) in
      let c = ap (λ (x : Acts). weigh (closes o) x.calls) p.2 in
      let e = in_turn_closes p.0 p.1 p.3 in
      inl (omega arith)

  none_closes : (d : Deed) → swept_in d.acts ≡ 0 → Closes d ⊎ StopsInSweep d
  none_closes d none = let a = gave_none d.acts.timed none in inl (omega arith)

  -- so it is of each deed, unless it is a sweep that stopped the dispatcher
  pub deed_closes : (limit : ℕ) (d : Deed) → IsDeed limit d → Closes d ⊎ StopsInSweep d
  deed_closes limit d (inl p) = none_closes d (run_none limit p.0 d.acts d.stopped p.2)
  deed_closes limit d (inr (inl p)) = none_closes d (ap (λ (x : Acts). swept_in x) p.2)
  deed_closes limit d (inr (inr (inl p))) = ⊎_elim (λ le. inl le) (λ stops. inr (p.1, stops))
      (sweep_closes d d.stopped p.1)
  deed_closes limit d (inr (inr (inr (inl p)))) = none_closes d (note_none d.acts p.1)
  deed_closes limit d (inr (inr (inr (inr p)))) = none_closes d (starting_none p.0 d.acts d.stopped p.2)
