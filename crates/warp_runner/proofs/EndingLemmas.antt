-- The end of a connection, put together.
use Rattle.std.proofs.Common.{◌≡◌, ℕ, List, [], ◌++◌, sym, refl, ap, ◌∙◌, subst, inl, inr}
use Rattle.std.specs.Prelude.{Option, Some}
use Rattle.reg_keys.specs.declared.opening.Opening.{Opening}
use Rattle.reg_keys.specs.declared.entry.Entry.TheVariants as Entries
use Rattle.reg_keys.specs.declared.entry.CloseOutcome.{CloseOutcome}
use Rattle.turn_cell.specs.declared.view.View.{View}
use Rattle.event_mgr.specs.Manager.{MgrView}
use Rattle.outside.specs.Causes.{LinkTold}
use Rattle.dispatcher.specs.Runs.{CallsOfRuns}
use Rattle.timeout_mgr.specs.declared.view.TimeView.{TimeView}
use Rattle.timeout_mgr.specs.declared.view.TimeCall.{TimeCall}
use Rattle.timeout_mgr.specs.declared.view.WatchName.{WatchName}
use Rattle.timeout_mgr.specs.Passes.{calls_of}
use Rattle.warp_tally.specs.declared.calls.TallyEntry.{TallyEntry}
use Rattle.warp_books.specs.Books.{BookTold, FinishedTold}
use Rattle.warp_books.specs.declared.finish.Finish.{Finish}
use Rattle.warp_jobs.specs.Sessions.{finished_as}
use Rattle.warp_runner.specs.Acts.{Acts, Did, ServeTold, told_of, nothing, called, watched, then}
use Rattle.warp_runner.specs.Calls.{DidAt}
use Rattle.warp_runner.specs.Deeds.{AreCancels, Halts, IsEnding, IsEndingBare, IsHanding, IsParting, spent}
use Rattle.warp_runner.proofs.Doing.{did_then, did_watch}
use Rattle.warp_runner.proofs.Handing.{HandsOver}

pub told_same : (v : MgrView) (t t' : View TallyEntry) (s s' : TimeView) (b b' : BookTold) → t' ≡ t
    → s' ≡ s → b' ≡ b → told_of v t s b ≡ told_of v t' s' b'
told_same v t t' s s' b b' x y z =
    ap (λ (k : View TallyEntry). told_of v k s b) (sym x) ∙ ap (λ (k : TimeView). told_of v t' k b) (sym y)
    ∙ ap (λ (k : BookTold). told_of v t' s' k) (sym z)

pub finished_same : (o o' : Opening) (l l' : LinkTold) (ms ms' : List ℕ) (x x' y y' : ℕ) (e e' : Finish)
    → o ≡ o' → l ≡ l' → ms ≡ ms' → x ≡ x' → y ≡ y' → e ≡ e'
    → finished_as o l ms x y e ≡ finished_as o' l' ms' x' y' e'
finished_same o o' l l' ms ms' x x' y y' e e' p q r s t u =
    ap (λ (k : Opening). finished_as k l ms x y e) p ∙ ap (λ (k : LinkTold). finished_as o' k ms x y e) q
    ∙ ap (λ (k : List ℕ). finished_as o' l' k x y e) r
    ∙ ap (λ (k : ℕ). finished_as o' l' ms' k y e) s ∙ ap (λ (k : ℕ). finished_as o' l' ms' x' k e) t
    ∙ ap (λ (k : Finish). finished_as o' l' ms' x' y' k) u

-- what a parting comes to
abbrev pub Parts : View TallyEntry → TimeView → BookTold → View TallyEntry → TimeView → BookTold
    → WatchName → FinishedTold → Option ℕ → Type 0
Parts t s b t' s' b' w h stopped =
    (acts : Acts) × ((v : MgrView) → Did (told_of v t s b) acts [] (told_of v t' s' b'))
    × IsParting w h acts stopped

module _ {T : Type 0} {tag : T → List (List ℕ)} (rules : CallsOfRuns tag) where
  -- cancelled and handed over; afterwards something else changed
  pub parts : (t u t' : View TallyEntry) (s r q s' : TimeView) (b c b' : BookTold) (n w : WatchName)
      (k h : FinishedTold) (halt stopped : Option ℕ)
      → n ≡ w → ((cancels : List TimeCall) × AreCancels n cancels × (calls_of r ≡ calls_of s ++ cancels))
      → k ≡ h → HandsOver t r b u q c k halt → Halts halt stopped
      → t' ≡ u → s' ≡ q → b' ≡ c → Parts t s b t' s' b' w h stopped
  parts t u t' s r q s' b c b' n w k h halt stopped same cancels is over halts x y z = (
    then (watched cancels.0) over.0,
    λ v.
        did_then rules (told_of v t s b) (told_of v t r b) (told_of v t' s' b') (watched cancels.0) over.0
        [] []
        (did_watch rules v t s r b cancels.0 cancels.2)
        (subst (λ (k : ServeTold). Did (told_of v t r b) over.0 [] k) (told_same v u t' q s' c b' x y z)
        (over.1 v)),
    (
      cancels.0,
      over.0,
      halt,
      subst (λ (m : WatchName). AreCancels m cancels.0) same cancels.1,
      refl,
      subst (λ (f : FinishedTold). IsHanding f over.0 halt) is over.2,
      halts,
    ),
  )

  -- closed, and then parted
  pub ends : (v w : MgrView) (t t' : View TallyEntry) (s s' : TimeView) (b b' : BookTold) (o : Opening)
      (n : WatchName) (h : FinishedTold) (stopped : Option ℕ)
      → o ≡ h.opening → ((x : CloseOutcome) × DidAt v (called (Entries.Close o x)) [] w)
      → Parts t s b t' s' b' n h stopped
      → (acts : Acts) × Did (told_of v t s b) acts [] (told_of w t' s' b') × IsEnding n h acts stopped
  ends v w t t' s s' b b' o n h stopped same closed parted = (
    then (called (Entries.Close h.opening closed.0)) parted.0,
    did_then rules (told_of v t s b) (told_of w t s b) (told_of w t' s' b')
        (called (Entries.Close h.opening closed.0)) parted.0 [] []
        (subst (λ (p : Opening).
        Did (told_of v t s b) (called (Entries.Close p closed.0)) [] (told_of w t s b)) same (closed.1 t s b))
        (parted.1 w),
    inl (closed.0, parted.0, refl, parted.2),
  )

  -- closed, and then handed over
  pub ends_bare : (v w : MgrView) (t t' : View TallyEntry) (s s' : TimeView) (b b' : BookTold)
      (k h : FinishedTold) (stopped : Option ℕ)
      → ((x : CloseOutcome) × DidAt v (called (Entries.Close h.opening x)) [] w) → k ≡ h
      → HandsOver t s b t' s' b' k stopped
      → (acts : Acts) × Did (told_of v t s b) acts [] (told_of w t' s' b') × IsEndingBare h acts stopped
  ends_bare v w t t' s s' b b' k h stopped closed is over = (
    then (called (Entries.Close h.opening closed.0)) over.0,
    did_then rules (told_of v t s b) (told_of w t s b) (told_of w t' s' b')
        (called (Entries.Close h.opening closed.0)) over.0 [] [] (closed.1 t s b) (over.1 w),
    inl (closed.0, over.0, refl, subst (λ (f : FinishedTold). IsHanding f over.0 stopped) is over.2),
  )

-- the close found numbers used up
pub ends_at_once : (v w : MgrView) (t : View TallyEntry)
    (s : TimeView) (b : BookTold) (n : WatchName) (h : FinishedTold)
    → DidAt v nothing [] w
    → (acts : Acts) × Did (told_of v t s b) acts [] (told_of w t s b) × IsEnding n h acts (Some spent)
ends_at_once v w t s b n h d = (nothing, d t s b, inr (refl, refl))

pub ends_bare_at_once : (v w : MgrView) (t : View TallyEntry) (s : TimeView) (b : BookTold) (h : FinishedTold)
    → DidAt v nothing [] w
    → (acts : Acts) × Did (told_of v t s b) acts [] (told_of w t s b) × IsEndingBare h acts (Some spent)
ends_bare_at_once v w t s b h d = (nothing, d t s b, inr (refl, refl))
