-- Inner: laws that crates above cite: with which codes deeds stop a dispatcher, and what those did
-- that stopped it with one of them.
use Rattle.std.proofs.Common.{◌≡◌, ℕ, List, [], ◌∷◌, ⊎_elim, inl, inr, sym, ◌∙◌, subst, arith}
use Rattle.std.specs.Prelude.{◌⊎◌, Option, Some, None}
use Rattle.std.proofs.lemmas.Option.{none-some, same_Some}
use Rattle.reg_keys.specs.declared.opening.Opening.{Opening}
use Rattle.reg_keys.specs.declared.entry.Entry.TheVariants as Entries
use Rattle.reg_keys.specs.declared.entry.OpenOutcome.TheVariants as Opens
use Rattle.reg_keys.specs.declared.entry.ShutKey.{ShutKey}
use Rattle.reg_keys.specs.declared.registration.Dir.{Dir}
use Rattle.reg_keys.specs.declared.registration.Marks.{Marks}
use Rattle.timeout_mgr.specs.declared.view.WatchName.{WatchName}
use Rattle.reg_keys.specs.declared.registration.Dir.TheVariants as Dirs
use Rattle.reg_keys.specs.declared.entry.LoadKind.TheVariants as Kinds
use Rattle.timeout_mgr.specs.declared.view.TimeCall.TheVariants.{Add}
use Rattle.timeout_mgr.specs.declared.view.AddOutcome.TheVariants as Adds
use Rattle.outside.specs.Causes.{LinkTold}
use Rattle.outside.specs.Counts.{more_by_one}
use Rattle.outside.specs.ListenCauses.{ListenerTold}
use Rattle.conn_loop.specs.declared.step.End.TheVariants.{NoMemory}
use Rattle.dispatcher.specs.Entries.{Firing}
use Rattle.warp_books.specs.declared.finish.Turned.TheVariants as Turns
use Rattle.warp_books.specs.declared.finish.Finish.{Finish}
use Rattle.warp_books.specs.declared.finish.Finish.TheVariants.{Ended, TurnedAway}
use Rattle.warp_books.specs.Books.{FinishedTold}
use Rattle.warp_jobs.specs.Held.{Held}
use Rattle.warp_jobs.specs.HeldListener.{HeldListener}
use Rattle.warp_jobs.specs.Sessions.{first_held}
use Rattle.warp_jobs.specs.Tags.{listen_tag}
use Rattle.warp_runner.specs.Acts.{Acts, ServeTold, called, then, watched}
use Rattle.warp_runner.specs.Deeds.{Halts, InTurn, IsAdmitting, IsBeginning, IsConnectionRun, IsEnding}
use Rattle.warp_runner.specs.Deeds.{IsEndingBare, IsEntering, IsFailing, IsGoingOn, IsHanding, IsLeaving}
use Rattle.warp_runner.specs.Deeds.{IsLetGo, IsListening, IsParting, IsRegistering}
use Rattle.warp_runner.specs.Deeds.{IsStartFault, IsStarting, IsStartingAt, IsSweeping, IsTakingLink}
use Rattle.warp_runner.specs.Deeds.{IsTimingOut, IsTurningAway, IsUnmade, accept_fault, no_memory, poll_fault}
use Rattle.warp_runner.specs.Deeds.{spent, unserved}
use Rattle.warp_runner.specs.Journal.{AreDeeds, Deed, DidOne, FitsUntil, HasOne, IsDeed, IsRun}
use Rattle.warp_runner.specs.Causes.{IsBroken, IsStarved, IsUncounted}

-- stops with no other code than that of numbers that are used up
abbrev OnlySpent : Option ℕ → Type 0
OnlySpent stopped = (code : ℕ) → stopped ≡ Some code → code ≡ spent

none_only : (stopped : Option ℕ) → stopped ≡ None → OnlySpent stopped
none_only stopped is code stops = absurd (none-some code (sym is ∙ stops))

spent_only : (stopped : Option ℕ) → stopped ≡ Some spent → OnlySpent stopped
spent_only stopped is code stops = same_Some code spent (sym stops ∙ is)

halts_only : (halt stopped : Option ℕ) → OnlySpent halt → Halts halt stopped → OnlySpent stopped
halts_only halt stopped only h =
    ⊎_elim (λ (a : stopped ≡ halt). λ code stops. only code (sym a ∙ stops))
    (λ (b : stopped ≡ Some spent). spent_only stopped b) h

handing_only : (h : FinishedTold) (acts : Acts) (stopped : Option ℕ) → IsHanding h acts stopped
    → OnlySpent stopped
handing_only h acts stopped (inl p) = none_only stopped p.2
handing_only h acts stopped (inr p) = spent_only stopped p.1

parting_only : (w : WatchName) (h : FinishedTold) (acts : Acts) (stopped : Option ℕ)
    → IsParting w h acts stopped → OnlySpent stopped
parting_only w h acts stopped p = halts_only p.2 stopped (handing_only h p.1 p.2 p.5) p.6

ending_only : (w : WatchName) (h : FinishedTold) (acts : Acts) (stopped : Option ℕ)
    → IsEnding w h acts stopped → OnlySpent stopped
ending_only w h acts stopped (inl p) = parting_only w h p.1 stopped p.3
ending_only w h acts stopped (inr p) = spent_only stopped p.1

bare_only : (h : FinishedTold) (acts : Acts) (stopped : Option ℕ) → IsEndingBare h acts stopped
    → OnlySpent stopped
bare_only h acts stopped (inl p) = handing_only h p.1 stopped p.3
bare_only h acts stopped (inr p) = spent_only stopped p.1

registering_only : (h : Held) (d : Dir) (m : Option ℕ) (acts : Acts) (stopped : Option ℕ)
    → IsRegistering h d m acts stopped → OnlySpent stopped
registering_only h d m acts stopped (inl p) = none_only stopped p.3
registering_only h d m acts stopped (inr (inl p)) = ending_only _ _ p.0 stopped p.2
registering_only h d m acts stopped (inr (inr (inl p))) = ending_only _ _ p.1 stopped p.3
registering_only h d m acts stopped (inr (inr (inr p))) = spent_only stopped p.1

connection_only : (h : Held) (marks : Marks) (acts : Acts) (stopped : Option ℕ)
    → IsConnectionRun h marks acts stopped → OnlySpent stopped
connection_only h marks acts stopped (inl p) = ending_only _ _ p.0 stopped p.2
connection_only h marks acts stopped (inr (inl p)) = ending_only _ _ p.2 stopped p.6
connection_only h marks acts stopped (inr (inr (inl p))) = registering_only p.0 p.1 _ p.2 stopped p.6
connection_only h marks acts stopped (inr (inr (inr p))) = spent_only stopped p.1

-- ---- parts of what a deed is

abbrev EntersSo : Opening → LinkTold → Acts → Option ℕ → Type 0
EntersSo o link acts stopped =
    ((end : Finish) × IsUnmade end × IsEndingBare (unserved o link end) acts stopped)
    ⊎ ((rest : Acts) × (acts ≡ then (watched (Add o Adds.Full ∷ [])) rest)
    × IsEndingBare (unserved o link (TurnedAway Turns.Watches)) rest stopped)
    ⊎ ((w : WatchName) × (rest : Acts) × (acts ≡ then (watched (Add o (Adds.Added w) ∷ [])) rest)
    × IsEnding w (unserved o link (Ended NoMemory)) rest stopped)
    ⊎ ((w : WatchName) × (rest : Acts) × (acts ≡ then (watched (Add o (Adds.Added w) ∷ [])) rest)
    × IsRegistering (first_held o link w) Dirs.Read None rest stopped)

abbrev TakesSo : ℕ → HeldListener → Acts → Acts → Option ℕ → Option ℕ → Type 0
TakesSo limit l acts first halt stopped =
    ((code : ℕ) × (halt ≡ Some code) × (acts ≡ first) × (stopped ≡ halt))
    ⊎ ((halt ≡ None) × (rest : Acts) × (acts ≡ then first rest) × IsGoingOn limit l rest stopped)

abbrev ListensSo : ℕ → HeldListener → HeldListener → Marks → Acts → Option ℕ → Type 0
ListensSo limit l k marks acts stopped =
    ((k.accepted ≡ more_by_one l.accepted) × IsTakingLink limit k acts stopped)
    ⊎ ((k.accepted ≡ l.accepted) × (mark : Option ℕ) × ((mark ≡ Some marks.read) ⊎ (mark ≡ None))
    × IsListening k mark acts stopped)
    ⊎ ((k.accepted ≡ l.accepted) × IsFailing k acts stopped)

-- ---- a sweep

module _ {A : Type 0} (Does : A → Acts → Option ℕ → Type 0)
    (each : (x : A) (acts : Acts) (stopped : Option ℕ) → Does x acts stopped → OnlySpent stopped) where
  in_turn_only : (xs : List A) (acts : Acts) (stopped : Option ℕ) → InTurn Does xs acts stopped
      → OnlySpent stopped
  in_turn_only [] acts stopped p = none_only stopped p.1
  in_turn_only (x ∷ xs) acts stopped (inl p) = each x acts stopped p.2
  in_turn_only (x ∷ xs) acts stopped (inr p) = in_turn_only xs p.1 stopped p.4

let_go_only : (x : ShutKey) (acts : Acts) (stopped : Option ℕ) → IsLetGo x acts stopped → OnlySpent stopped
let_go_only x acts stopped (inl p) = parting_only _ _ acts stopped p.2
let_go_only x acts stopped (inr p) = none_only stopped p.2

timing_out_only : (o : Opening) (acts : Acts) (stopped : Option ℕ) → IsTimingOut o acts stopped
    → OnlySpent stopped
timing_out_only o acts stopped (inl p) = in_turn_only IsLetGo let_go_only _ p.1 stopped p.3
timing_out_only o acts stopped (inr p) = spent_only stopped p.1

sweeping_only : (acts : Acts) (stopped : Option ℕ) → IsSweeping acts stopped → OnlySpent stopped
sweeping_only acts stopped p = in_turn_only IsTimingOut timing_out_only p.0 p.1 stopped p.3

-- ---- a run of the listener

listening_only : (l : HeldListener) (m : Option ℕ) (acts : Acts) (stopped : Option ℕ)
    → IsListening l m acts stopped → OnlySpent stopped
listening_only l m acts stopped (inl p) = none_only stopped p.1
listening_only l m acts stopped (inr p) = spent_only stopped p.1

leaving_only : (l : HeldListener) (acts : Acts) (stopped : Option ℕ) → IsLeaving l acts stopped
    → OnlySpent stopped
leaving_only l acts stopped (inl p) = none_only stopped p.2
leaving_only l acts stopped (inr p) = spent_only stopped p.1

going_on_only : (limit : ℕ) (l : HeldListener) (acts : Acts) (stopped : Option ℕ)
    → IsGoingOn limit l acts stopped → OnlySpent stopped
going_on_only limit l acts stopped (inl p) = leaving_only l acts stopped p.1
going_on_only limit l acts stopped (inr p) = listening_only l None acts stopped p.1

turning_only : (acts : Acts) (stopped : Option ℕ) → IsTurningAway acts stopped → OnlySpent stopped
turning_only acts stopped (inl p) = none_only stopped p.2
turning_only acts stopped (inr p) = spent_only stopped p.1

entering_as : (o : Opening) (link : LinkTold) (acts : Acts) (stopped : Option ℕ)
    → EntersSo o link acts stopped → OnlySpent stopped
entering_as o link acts stopped (inl p) = bare_only _ acts stopped p.2
entering_as o link acts stopped (inr (inl p)) = bare_only _ p.0 stopped p.2
entering_as o link acts stopped (inr (inr (inl p))) = ending_only _ _ p.1 stopped p.3
entering_as o link acts stopped (inr (inr (inr p))) =
    registering_only (first_held o link p.0) Dirs.Read None p.1 stopped p.3

entering_only : (o : Opening) (acts : Acts) (stopped : Option ℕ) → IsEntering o acts stopped
    → OnlySpent stopped
entering_only o acts stopped p = entering_as o p.0 acts stopped p.1

-- it stops since numbers are used up, or for want of memory, which an accept of the tally said
abbrev Starved : Acts → Option ℕ → Type 0
Starved acts stopped =
    (code : ℕ) → stopped ≡ Some code → (code ≡ spent) ⊎ ((code ≡ no_memory) × IsUncounted acts)

only_starved : (acts : Acts) (stopped : Option ℕ) → OnlySpent stopped → Starved acts stopped
only_starved acts stopped only code stops = inl (only code stops)

admitting_starved : (o : Opening) (acts rest : Acts) (stopped : Option ℕ)
    → acts ≡ then (called (Entries.Open o.fd (Opens.Opened o))) rest → IsAdmitting o rest stopped
    → Starved acts stopped
admitting_starved o acts rest stopped is (inl p) = only_starved acts stopped (entering_only o p.1 stopped p.4)
admitting_starved o acts rest stopped is (inr (inl p)) = λ code stops.
    inr (
      same_Some code no_memory (sym stops ∙ p.3),
      (
        called (Entries.Open o.fd (Opens.Opened o)),
        o,
        p.0,
        p.1,
        subst (λ (a : Acts). acts ≡ then (called (Entries.Open o.fd (Opens.Opened o))) a) p.2 is,
      ),
    )
admitting_starved o acts rest stopped is (inr (inr p)) = only_starved acts stopped (spent_only stopped p.1)

beginning_starved : (acts : Acts) (stopped : Option ℕ) → IsBeginning acts stopped → Starved acts stopped
beginning_starved acts stopped (inl p) = admitting_starved p.0 acts p.1 stopped p.2 p.3
beginning_starved acts stopped (inr (inl p)) = only_starved acts stopped (turning_only p.1 stopped p.4)
beginning_starved acts stopped (inr (inr p)) = only_starved acts stopped (spent_only stopped p.1)

taking_as : (limit : ℕ) (l : HeldListener) (acts first : Acts) (halt stopped : Option ℕ)
    → IsBeginning first halt → TakesSo limit l acts first halt stopped → Starved acts stopped
taking_as limit l acts first halt stopped began (inl p) =
    subst (λ (a : Acts). Starved a stopped) (sym p.2)
    (subst (λ (s : Option ℕ). Starved first s) (sym p.3) (beginning_starved first halt began))
taking_as limit l acts first halt stopped began (inr p) =
    only_starved acts stopped (going_on_only limit l p.1 stopped p.3)

taking_starved : (limit : ℕ) (l : HeldListener) (acts : Acts) (stopped : Option ℕ)
    → IsTakingLink limit l acts stopped → Starved acts stopped
taking_starved limit l acts stopped p = taking_as limit l acts p.0 p.1 stopped p.2 p.3

-- ---- the beginning

-- it stops since numbers are used up, or since the poller didn't take the listener or
-- memory was wanted for it
abbrev StartStops : Option ℕ → Type 0
StartStops stopped =
    (code : ℕ) → stopped ≡ Some code → (code ≡ spent) ⊎ (code ≡ poll_fault) ⊎ (code ≡ no_memory)

starting_at : (o : Opening) (listener : ListenerTold) (acts : Acts) (stopped : Option ℕ)
    → IsStartingAt o listener acts stopped → StartStops stopped
starting_at o listener acts stopped (inl p) =
    λ code stops.
    inl (listening_only (record { opening = o; listener = listener; accepted = 0 }) None
    acts stopped p code stops)
starting_at o listener acts stopped (inr p) =
    λ code stops. inr (subst (λ (n : ℕ). IsStartFault n) (same_Some p.1 code (sym p.3 ∙ stops)) p.2)

starting_stops : (listener : ListenerTold) (acts : Acts) (stopped : Option ℕ)
    → IsStarting listener acts stopped → StartStops stopped
starting_stops listener acts stopped (inl p) = starting_at p.0 listener p.2 stopped p.5
starting_stops listener acts stopped (inr p) = λ code stops. inl (spent_only stopped p.1 code stops)

-- ---- the causes

not_spent : {A : Type 0} (n : ℕ) (stopped : Option ℕ) → OnlySpent stopped → stopped ≡ Some n
    → (n ≡ spent → ⊥) → A
not_spent n stopped only stops other = absurd (other (only n stops))

module _ (limit : ℕ) (d : Deed) (f : Firing) (ran : d.job ≡ f ∷ []) where
  -- what is left of a run of the listener that held l, once that of a connection is excluded
  module _ (l k : HeldListener) (kind : f.1.kind ≡ Kinds.Job (listen_tag l))
      (same : k.opening ≡ l.opening) where
    failing_broken : k.accepted ≡ l.accepted → IsFailing k d.acts d.stopped
        → d.stopped ≡ Some accept_fault → IsBroken d
    failing_broken kept (inl p) stops =
        not_spent accept_fault d.stopped (listening_only k None d.acts d.stopped p) stops
        (λ e. absurd (omega arith))
    failing_broken kept (inr p) stops = (f, l, k, ran, kind, same, kept, p.0, p.1, stops)

    listener_broken : (marks : Marks) → ListensSo limit l k marks d.acts d.stopped
        → d.stopped ≡ Some accept_fault → IsBroken d
    listener_broken marks (inl p) stops =
        ⊎_elim (λ e. absurd (omega arith)) (λ e. let n =
        e.0 in absurd (omega arith)) (taking_starved limit k d.acts d.stopped p.1 accept_fault stops)
    listener_broken marks (inr (inl p)) stops =
        not_spent accept_fault d.stopped (listening_only k p.1 d.acts d.stopped p.3) stops
        (λ e. absurd (omega arith))
    listener_broken marks (inr (inr p)) stops = failing_broken p.0 p.1 stops

    failing_starved : IsFailing k d.acts d.stopped → d.stopped ≡ Some no_memory → IsStarved d
    failing_starved (inl p) stops =
        not_spent no_memory d.stopped (listening_only k None d.acts d.stopped p) stops
        (λ e. absurd (omega arith))
    failing_starved (inr p) stops =
        let n = same_Some no_memory accept_fault (sym stops ∙ p.2) in
        absurd (omega arith)

    listener_starved : (marks : Marks) → ListensSo limit l k marks d.acts d.stopped
        → d.stopped ≡ Some no_memory → IsStarved d
    listener_starved marks (inl p) stops =
        ⊎_elim (λ e. absurd (omega arith)) (λ e. inl (f, l, ran, kind, e.1, stops))
        (taking_starved limit k d.acts d.stopped p.1 no_memory stops)
    listener_starved marks (inr (inl p)) stops =
        not_spent no_memory d.stopped (listening_only k p.1 d.acts d.stopped p.3) stops
        (λ e. absurd (omega arith))
    listener_starved marks (inr (inr p)) stops = failing_starved p.1 stops

  run_broken : IsRun limit f d.acts d.stopped → d.stopped ≡ Some accept_fault → IsBroken d
  run_broken (inl p) stops =
      not_spent accept_fault d.stopped (connection_only p.0 f.1.marks d.acts d.stopped p.2) stops
      (λ e. absurd (omega arith))
  run_broken (inr p) stops = listener_broken p.0 p.2.0 p.1 p.2.1 f.1.marks p.2.2 stops

  run_starved : IsRun limit f d.acts d.stopped → d.stopped ≡ Some no_memory → IsStarved d
  run_starved (inl p) stops =
      not_spent no_memory d.stopped (connection_only p.0 f.1.marks d.acts d.stopped p.2) stops
      (λ e. absurd (omega arith))
  run_starved (inr p) stops = listener_starved p.0 p.2.0 p.1 p.2.1 f.1.marks p.2.2 stops

-- a deed that stops with the code of accepts that failed is a run of the listener, after
-- which 1,000 in a row have
pub deed_broken : (limit : ℕ) (d : Deed) → IsDeed limit d → d.stopped ≡ Some accept_fault → IsBroken d
deed_broken limit d (inl p) stops = run_broken limit d p.0 p.1 p.2 stops
deed_broken limit d (inr (inl p)) stops = absurd (none-some accept_fault (sym p.3 ∙ stops))
deed_broken limit d (inr (inr (inl p))) stops =
    not_spent accept_fault d.stopped (sweeping_only d.acts d.stopped p.1) stops (λ e. absurd (omega arith))
deed_broken limit d (inr (inr (inr (inl p)))) stops = absurd (none-some accept_fault (sym p.2 ∙ stops))
deed_broken limit d (inr (inr (inr (inr p)))) stops =
    ⊎_elim (λ e. absurd (omega arith)) (λ e. ⊎_elim (λ x. absurd (omega arith)) (λ x. absurd (omega arith)) e)
    (starting_stops p.0 d.acts d.stopped p.2 accept_fault stops)

-- a deed that stops with the code of want of memory wanted it
pub deed_starved : (limit : ℕ) (d : Deed) → IsDeed limit d → d.stopped ≡ Some no_memory → IsStarved d
deed_starved limit d (inl p) stops = run_starved limit d p.0 p.1 p.2 stops
deed_starved limit d (inr (inl p)) stops = absurd (none-some no_memory (sym p.3 ∙ stops))
deed_starved limit d (inr (inr (inl p))) stops =
    not_spent no_memory d.stopped (sweeping_only d.acts d.stopped p.1) stops (λ e. absurd (omega arith))
deed_starved limit d (inr (inr (inr (inl p)))) stops = absurd (none-some no_memory (sym p.2 ∙ stops))
deed_starved limit d (inr (inr (inr (inr p)))) stops =
    inr (p.0, p.1, subst (λ (s : Option ℕ). IsStarting p.0 d.acts s) stops p.2)

-- what follows for a deed from its being one and stopping so, follows for one of several
pub one_does : (limit : ℕ) (Is Does : Deed → Type 0) → ((d : Deed) → IsDeed limit d → Is d → Does d)
    → (ds : List Deed) → AreDeeds limit ds → HasOne Is ds → HasOne Does ds
one_does limit Is Does law [] are has = absurd has
one_does limit Is Does law (d ∷ ds) are has =
    ⊎_elim (λ a. inl (law d are.0 a)) (λ b. inr (one_does limit Is Does law ds are.1 b)) has

-- where a journal has a deed that stopped so, it has one that is what such a deed is
pub did_broken : (limit : ℕ) (now : ServeTold)
    → FitsUntil limit (Some accept_fault) now [] → DidOne limit IsBroken now
did_broken limit now fits = (
  fits.0,
  one_does limit (λ d. d.stopped ≡ Some accept_fault) IsBroken
      (deed_broken limit) fits.0.deeds fits.0.explains.lawful fits.1,
)

-- and the same of want of memory
pub did_starved : (limit : ℕ) (now : ServeTold)
    → FitsUntil limit (Some no_memory) now [] → DidOne limit IsStarved now
did_starved limit now fits = (
  fits.0,
  one_does limit (λ d. d.stopped ≡ Some no_memory) IsStarved
      (deed_starved limit) fits.0.deeds fits.0.explains.lawful fits.1,
)
