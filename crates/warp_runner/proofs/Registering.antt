-- A registration of a connection, put together, and a run of it.
use Rattle.std.proofs.Common.{◌≡◌, ℕ, ◌+◌, List, [], ◌∷◌, ◌++◌, Bool, true, false, sym, refl, ◌∙◌, subst, inl}
use Rattle.std.proofs.Common.{inr, append-nil}
use Rattle.std.specs.Prelude.{◌⊎◌, Option, Some, None}
use Rattle.std.specs.Option.{option_to_list}
use Rattle.reg_keys.specs.declared.opening.Opening.{Opening}
use Rattle.reg_keys.specs.declared.event.EventName.{EventName}
use Rattle.reg_keys.specs.declared.registration.Key.{Key}
use Rattle.reg_keys.specs.declared.registration.Dir.{Dir}
use Rattle.reg_keys.specs.declared.registration.Marks.{Marks}
use Rattle.reg_keys.specs.declared.entry.RegisterOutcome.TheVariants as Registers
use Rattle.dispatcher.specs.Runs.{CallsOfRuns}
use Rattle.timeout_mgr.specs.declared.view.TimeCall.TheVariants.{Tickle}
use Rattle.conn_loop.specs.declared.step.End.{End}
use Rattle.warp_books.specs.declared.finish.Turned.TheVariants as Turns
use Rattle.warp_books.specs.declared.finish.Finish.{Finish}
use Rattle.warp_books.specs.declared.finish.Finish.TheVariants.{Ended, TimedOut, TurnedAway}
use Rattle.warp_jobs.specs.Held.{Held}
use Rattle.warp_jobs.specs.Tags.{serve_tag}
use Rattle.warp_runner.specs.declared.serving.Ran.{Ran}
use Rattle.warp_runner.specs.Acts.{Acts, Did, ServeTold, nothing, watched, then}
use Rattle.warp_runner.specs.Deeds.{IsBroughtOn, IsConnectionRun, IsEnding, IsRegistering, end_of_shut}
use Rattle.warp_runner.specs.Deeds.{finished_held, mark_at, registering, spent}
use Rattle.warp_runner.specs.Runs.{named}
use Rattle.warp_runner.proofs.Doing.{did_then}

-- what a run or a part of it comes to
abbrev pub RanSo : ServeTold → Ran → ServeTold → (Acts → Option ℕ → Type 0) → Type 0
RanSo u ran w Is = (acts : Acts) × Did u acts (named ran) w × Is acts ran.stopped

-- what an end comes to
abbrev pub EndedSo : ServeTold → Option ℕ → ServeTold → Held → Finish → Type 0
EndedSo u stopped w h end =
    (acts : Acts) × Did u acts [] w × IsEnding h.watch (finished_held h end) acts stopped

pub ran_as : (u w : ServeTold) (ran like : Ran) (Is : Acts → Option ℕ → Type 0) → ran ≡ like
    → RanSo u like w Is → RanSo u ran w Is
ran_as u w ran like Is same r = subst (λ (x : Ran). RanSo u x w Is) (sym same) r

one_event : (u w : ServeTold) (acts : Acts) (e : Option EventName) → Did u acts (option_to_list e) w
    → Did u acts (option_to_list e ++ []) w
one_event u w acts e d =
    subst (λ (l : List EventName). Did u acts l w) (sym (append-nil (option_to_list e))) d

module _ (h : Held) (d : Dir) (m : Option ℕ) (u w : ServeTold) where
  pub registers_waits : (o : Opening) (e : Option EventName) → o ≡ h.opening
      → (key : Key) × Did u (registering o d m (serve_tag h) (Registers.Waits key e)) (option_to_list e) w
      → RanSo u (record { first = e; second = None; stopped = None }) w (IsRegistering h d m)
  registers_waits o e same did = (
    registering h.opening d m (serve_tag h) (Registers.Waits did.0 e),
    one_event u w _ e
        (subst (λ (p : Opening).
        Did u (registering p d m (serve_tag h) (Registers.Waits did.0 e)) (option_to_list e) w) same did.1),
    inl (did.0, e, refl, refl),
  )

  pub registers_spent : (o : Opening) → o ≡ h.opening
      → Did u nothing [] w ⊎ Did u (registering o d m (serve_tag h) Registers.Spent) [] w
      → RanSo u (record { first = None; second = None; stopped = Some spent }) w (IsRegistering h d m)
  registers_spent o same (inl x) = (nothing, x, inr (inr (inr (inl refl, refl))))
  registers_spent o same (inr x) = (
    registering h.opening d m (serve_tag h) Registers.Spent,
    subst (λ (p : Opening). Did u (registering p d m (serve_tag h) Registers.Spent) [] w) same x,
    inr (inr (inr (inr refl, refl))),
  )

module _ {T : Type 0} {tag : T → List (List ℕ)} (rules : CallsOfRuns tag) (h : Held) (d : Dir)
    (m : Option ℕ) (u v w : ServeTold) where
  pub registers_crowded : (o : Opening) (k : Held) (stopped : Option ℕ) → o ≡ h.opening → k ≡ h
      → Did u (registering o d m (serve_tag h) Registers.Crowded) [] v
      → EndedSo v stopped w k (TurnedAway Turns.Crowded)
      → RanSo u (record { first = None; second = None; stopped = stopped }) w (IsRegistering h d m)
  registers_crowded o k stopped same is did ended =
      let e = subst (λ (x : Held). EndedSo v stopped w x (TurnedAway Turns.Crowded)) is ended in (
        then (registering h.opening d m (serve_tag h) Registers.Crowded) e.0,
        did_then rules u v w (registering h.opening d m (serve_tag h) Registers.Crowded) e.0 [] []
            (subst (λ (p : Opening). Did u (registering p d m (serve_tag h) Registers.Crowded) [] v) same did)
            e.1,
        inr (inl (e.0, refl, e.2)),
      )

  pub registers_shut : (x : ServeTold) (o : Opening) (k : Held)
      (alive : Bool) (end : Finish) (stopped : Option ℕ)
      → o ≡ h.opening → k ≡ h
      → Did u (registering o d m (serve_tag h) Registers.Shut) [] v
      → Did v (watched (Tickle k.watch alive ∷ [])) [] x
      → end ≡ end_of_shut alive → EndedSo x stopped w k end
      → RanSo u (record { first = None; second = None; stopped = stopped }) w (IsRegistering h d m)
  registers_shut x o k alive end stopped same is did tickled ends ended =
      let e = subst (λ (f : Finish). EndedSo x stopped w h f) ends
      (subst (λ (y : Held). EndedSo x stopped w y end) is ended) in
      let reg = registering h.opening d m (serve_tag h) Registers.Shut in
      let tick = watched (Tickle h.watch alive ∷ []) in (
        then reg (then tick e.0),
        did_then rules u v w reg (then tick e.0) [] []
            (subst (λ (p : Opening). Did u (registering p d m (serve_tag h) Registers.Shut) [] v) same did)
            (did_then rules v x w tick e.0
            [] [] (subst (λ (y : Held). Did v (watched (Tickle y.watch alive ∷ [])) [] x) is tickled) e.1),
        inr (inr (inl (alive, e.0, refl, e.2))),
      )

-- ---- a run of a connection

module _ {T : Type 0} {tag : T → List (List ℕ)} (rules : CallsOfRuns tag) (h : Held)
    (marks : Marks) (u v w : ServeTold) where
  pub runs_gone : (stopped : Option ℕ) → Did u (watched (Tickle h.watch false ∷ [])) [] v
      → EndedSo v stopped w h TimedOut
      → RanSo u (record { first = None; second = None; stopped = stopped }) w (IsConnectionRun h marks)
  runs_gone stopped tickled ended = (
    then (watched (Tickle h.watch false ∷ [])) ended.0,
    did_then rules u v w (watched (Tickle h.watch false ∷ [])) ended.0 [] [] tickled ended.1,
    inl (ended.0, refl, ended.2),
  )

  pub runs_over : (k : Held) (end : End) (stopped : Option ℕ)
      → Did u (watched (Tickle h.watch true ∷ [])) [] v → IsBroughtOn h k → k.number ≡ h.number
      → EndedSo v stopped w k (Ended end)
      → RanSo u (record { first = None; second = None; stopped = stopped }) w (IsConnectionRun h marks)
  runs_over k end stopped tickled on number ended = (
    then (watched (Tickle h.watch true ∷ [])) ended.0,
    did_then rules u v w (watched (Tickle h.watch true ∷ [])) ended.0 [] [] tickled ended.1,
    inr (inl (
      k,
      end,
      ended.0,
      on,
      number,
      refl,
      subst (λ n. IsEnding n (finished_held k (Ended end)) ended.0 stopped) on.watch ended.2,
    )),
  )

  pub runs_on : (k : Held) (dir : Dir) (ran : Ran) → Did u (watched (Tickle h.watch true ∷ [])) [] v
      → IsBroughtOn h k → k.number ≡ h.number + 1
      → RanSo v ran w (IsRegistering k dir (Some (mark_at dir marks)))
      → RanSo u ran w (IsConnectionRun h marks)
  runs_on k dir ran tickled on number registered = (
    then (watched (Tickle h.watch true ∷ [])) registered.0,
    did_then rules u v w (watched (Tickle h.watch true ∷ [])) registered.0
        [] (named ran) tickled registered.1,
    inr (inr (inl (k, dir, registered.0, on, number, refl, registered.2))),
  )

pub runs_spent : (h : Held) (marks : Marks) (u w : ServeTold)
    → Did u (watched (Tickle h.watch true ∷ [])) [] w
    → RanSo u (record { first = None; second = None; stopped = Some spent }) w (IsConnectionRun h marks)
runs_spent h marks u w tickled = (watched (Tickle h.watch true ∷ []), tickled, inr (inr (inr (refl, refl))))

-- ---- what comes back is the connection that was registered

pub held_same : (j : Option Held) (a b : Held) → j ≡ Some a → j ≡ Some b → a ≡ b
held_same j a b x y = let z : Some a ≡ Some b = sym x ∙ y in cc
