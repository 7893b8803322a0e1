-- A run of the listener, put together.
use Rattle.std.proofs.Common.{◌≡◌, ◌≤◌, ℕ, List, [], ◌∷◌, ◌++◌, sym, refl, ap, ◌∙◌, subst, inl, inr, arith}
use Rattle.std.proofs.Common.{append-nil}
use Rattle.std.specs.Prelude.{◌⊎◌, Option, Some, None}
use Rattle.std.specs.Option.{option_to_list}
use Rattle.reg_keys.specs.declared.opening.Opening.{Opening}
use Rattle.reg_keys.specs.declared.event.EventName.{EventName}
use Rattle.reg_keys.specs.declared.registration.Dir.TheVariants as Dirs
use Rattle.reg_keys.specs.declared.registration.Marks.{Marks}
use Rattle.reg_keys.specs.declared.entry.Entry.TheVariants as Entries
use Rattle.reg_keys.specs.declared.entry.OpenOutcome.TheVariants as Opens
use Rattle.reg_keys.specs.declared.entry.CloseOutcome.{CloseOutcome}
use Rattle.turn_cell.specs.declared.view.View.{View}
use Rattle.outside.specs.Causes.{LinkTold}
use Rattle.outside.specs.Counts.{more_by_one}
use Rattle.conn_loop.specs.declared.step.End.TheVariants.{NoMemory}
use Rattle.event_mgr.specs.Manager.{MgrView}
use Rattle.dispatcher.specs.Runs.{CallsOfRuns}
use Rattle.timeout_mgr.specs.declared.view.TimeView.{TimeView}
use Rattle.timeout_mgr.specs.declared.view.TimeCall.TheVariants.{Add}
use Rattle.timeout_mgr.specs.declared.view.AddOutcome.TheVariants as Adds
use Rattle.timeout_mgr.specs.declared.view.WatchName.{WatchName}
use Rattle.warp_tally.specs.declared.calls.TallyCall.{TallyCall}
use Rattle.warp_tally.specs.declared.calls.TallyCall.TheVariants as Tallies
use Rattle.warp_passes.specs.declared.tally.TallyOut.{TallyOut}
use Rattle.warp_passes.specs.declared.tally.TallyOut.TheVariants as TallyOuts
use Rattle.warp_passes.specs.TallyCalls.{HasCalled}
use Rattle.warp_jobs.specs.Tags.{listen_tag}
use Rattle.warp_tally.specs.declared.calls.TallyEntry.{TallyEntry}
use Rattle.warp_tally.specs.declared.calls.TallyReply.{TallyReply}
use Rattle.warp_tally.specs.declared.calls.Counted.TheVariants as Counts
use Rattle.warp_passes.specs.Own.{entries_of}
use Rattle.warp_books.specs.declared.finish.Turned.TheVariants as Turns
use Rattle.warp_books.specs.declared.finish.Finish.{Finish}
use Rattle.warp_books.specs.declared.finish.Finish.TheVariants.{Ended, TurnedAway}
use Rattle.warp_books.specs.Books.{BookTold, FinishedTold}
use Rattle.warp_jobs.specs.HeldListener.{HeldListener}
use Rattle.warp_jobs.specs.Sessions.{first_held}
use Rattle.warp_runner.specs.declared.serving.Ran.{Ran}
use Rattle.warp_runner.specs.Acts.{Acts, Did, ServeTold, told_of, nothing, called, counted, watched, then}
use Rattle.warp_runner.specs.Deeds.{IsAdmitting, IsBeginning, IsEndingBare, IsEntering, IsFailing, IsGoingOn}
use Rattle.warp_runner.specs.Deeds.{IsLeaving, IsListenerRun, IsListening, IsNoOpening, IsNote, IsRegistering}
use Rattle.warp_runner.specs.Deeds.{IsTakingLink, IsTriedUntilSpent, IsTriedUntilTaken, IsTurningAway}
use Rattle.warp_runner.specs.Deeds.{IsUnmade, unserved, spent, no_memory, accept_fault}
use Rattle.warp_runner.specs.Runs.{NamesOne, named}
use Rattle.warp_runner.proofs.Doing.{did_then, kept_book}
use Rattle.warp_runner.proofs.Registering.{RanSo, EndedSo}

-- a run that names no event and maybe stops
abbrev pub after : Option ℕ → Ran
after stopped = record { first = None; second = None; stopped = stopped }

-- what an end of a link comes to that has no watch
abbrev pub RefusedSo : ServeTold → Option ℕ → ServeTold → FinishedTold → Type 0
RefusedSo u stopped w h = (acts : Acts) × Did u acts [] w × IsEndingBare h acts stopped

-- ---- calls on the tally

module _ {T : Type 0} {tag : T → List (List ℕ)} (rules : CallsOfRuns tag) (v : MgrView)
    (t u : View TallyEntry) (s : TimeView) (b : BookTold) where
  pub did_count : (e : TallyEntry)
      → entries_of u ≡ entries_of t ++ e ∷ [] → Did (told_of v t s b) (counted e) [] (told_of v u s b)
  did_count e is = record {
    made = rules.none v;
    grew = λ f. omega arith;
    fires_none = λ φ. refl;
    all_out = omega arith;
    tallied = is;
    timed = sym (append-nil _);
    book = kept_book b;
  }

  pub did_no_count : entries_of u ≡ entries_of t → Did (told_of v t s b) nothing [] (told_of v u s b)
  did_no_count is = record {
    made = rules.none v;
    grew = λ f. omega arith;
    fires_none = λ φ. refl;
    all_out = omega arith;
    tallied = is ∙ sym (append-nil _);
    timed = sym (append-nil _);
    book = kept_book b;
  }

-- ---- entering

module _ (o : Opening) (link : LinkTold) (u w : ServeTold) where
  pub enters_unmade : (end : Finish) (stopped : Option ℕ) → IsUnmade end
      → RefusedSo u stopped w (unserved o link end) → RanSo u (after stopped) w (IsEntering o)
  enters_unmade end stopped is r = (r.0, r.1, (link, inl (end, is, r.2)))

  module _ {T : Type 0} {tag : T → List (List ℕ)} (rules : CallsOfRuns tag) (v : ServeTold) where
    pub enters_unwatched : (stopped : Option ℕ) → Did u (watched (Add o Adds.Full ∷ [])) [] v
        → RefusedSo v stopped w (unserved o link (TurnedAway Turns.Watches))
        → RanSo u (after stopped) w (IsEntering o)
    enters_unwatched stopped did r = (
      then (watched (Add o Adds.Full ∷ [])) r.0,
      did_then rules u v w (watched (Add o Adds.Full ∷ [])) r.0 [] [] did r.1,
      (link, inr (inl (r.0, refl, r.2))),
    )

    module _ (n : WatchName) (did : Did u (watched (Add o (Adds.Added n) ∷ [])) [] v) where
      abbrev added : Acts
      added = watched (Add o (Adds.Added n) ∷ [])

      pub enters_unboxed : (stopped : Option ℕ) → EndedSo v stopped w (first_held o link n) (Ended NoMemory)
          → RanSo u (after stopped) w (IsEntering o)
      enters_unboxed stopped r = (
        then added r.0,
        did_then rules u v w added r.0 [] [] did r.1,
        (link, inr (inr (inl (n, r.0, refl, r.2)))),
      )

      pub enters_on : (ran : Ran) → RanSo v ran w (IsRegistering (first_held o link n) Dirs.Read None)
          → RanSo u ran w (IsEntering o)
      enters_on ran r = (
        then added r.0,
        did_then rules u v w added r.0 [] (named ran) did r.1,
        (link, inr (inr (inr (n, r.0, refl, r.2)))),
      )

-- ---- admitting, turning away and beginning

module _ {T : Type 0} {tag : T → List (List ℕ)} (rules : CallsOfRuns tag) (u v w : ServeTold) where
  pub admits : (o : Opening) (r : TallyReply) (ran : Ran) → r.counted ≡ Counts.Yes
      → Did u (counted (record { call = Tallies.Accept o; reply = r })) [] v → RanSo v ran w (IsEntering o)
      → RanSo u ran w (IsAdmitting o)
  admits o r ran counts did entered =
      let c = counted (record { call = Tallies.Accept o; reply = r }) in (
        then c entered.0,
        did_then rules u v w c entered.0 [] (named ran) did entered.1,
        inl (r, entered.0, counts, refl, entered.2),
      )

  pub begins : (o : Opening) (ran : Ran) → Did u (called (Entries.Open o.fd (Opens.Opened o))) [] v
      → RanSo v ran w (IsAdmitting o) → RanSo u ran w IsBeginning
  begins o ran did r =
      let c = called (Entries.Open o.fd (Opens.Opened o)) in
      (then c r.0, did_then rules u v w c r.0 [] (named ran) did r.1, inl (o, r.0, refl, r.2))

  pub begins_none : (before : Acts) (ran : Ran) → IsNoOpening before → named ran ≡ [] → Did u before [] v
      → ((acts : Acts) × Did v acts [] w × IsTurningAway acts ran.stopped) → RanSo u ran w IsBeginning
  begins_none before ran is none did r = (
    then before r.0,
    subst (λ (l : List EventName). Did u (then before r.0) l w) (sym none)
        (did_then rules u v w before r.0 [] [] did r.1),
    inr (inl (before, r.0, is, refl, r.2)),
  )

pub begins_spent : (u w : ServeTold)
    → Did u nothing [] w ⊎ ((fd : ℕ) × Did u (called (Entries.Open fd Opens.Spent)) [] w)
    → RanSo u (after (Some spent)) w IsBeginning
begins_spent u w (inl did) = (nothing, did, inr (inr (inl refl, refl)))
begins_spent u w (inr did) =
    (called (Entries.Open did.0 Opens.Spent), did.1, inr (inr (inr (did.0, refl), refl)))

pub admits_none : (o : Opening) (u w : ServeTold) (r : TallyReply) → r.counted ≡ Counts.NoMemory
    → Did u (counted (record { call = Tallies.Accept o; reply = r })) [] w
    → RanSo u (after (Some no_memory)) w (IsAdmitting o)
admits_none o u w r is did =
    (counted (record { call = Tallies.Accept o; reply = r }), did, inr (inl (r, is, refl, refl)))

pub admits_spent : (o : Opening) (u w : ServeTold) → Did u nothing [] w
    → RanSo u (after (Some spent)) w (IsAdmitting o)
admits_spent o u w did = (nothing, did, inr (inr (refl, refl)))

-- ---- going on

-- what a run names that is put together of two that name one each
pub named_both : (a b : Option EventName) (x y : Ran) → x.first ≡ a → x.second ≡ None → y.first ≡ b
    → y.second ≡ None → named x ++ named y ≡ option_to_list a ++ option_to_list b
named_both a b x y p q r s =
    let e : named x ≡ option_to_list a =
    ap (λ (z : Option EventName). option_to_list z ++ option_to_list x.second) p
    ∙ ap (λ (z : Option EventName). option_to_list a ++ option_to_list z) q ∙ append-nil (option_to_list a) in
    let f : named y ≡ option_to_list b =
    ap (λ (z : Option EventName). option_to_list z ++ option_to_list y.second) r
    ∙ ap (λ (z : Option EventName). option_to_list b ++ option_to_list z) s ∙ append-nil (option_to_list b) in
    ap (λ (l : List EventName). l ++ named y) e ∙ ap (λ (l : List EventName). option_to_list a ++ l) f

-- where a run stops the dispatcher it names nothing
pub names_none : (ran : Ran) → NamesOne ran → (code : ℕ) → ran.stopped ≡ Some code → named ran ≡ []
names_none ran one code is =
    ap (λ (z : Option EventName). option_to_list z ++ option_to_list ran.second) (one.1 code is)
    ∙ ap (λ (z : Option EventName). option_to_list z) one.0

module _ {T : Type 0} {tag : T → List (List ℕ)} (rules : CallsOfRuns tag) (limit : ℕ)
    (k : HeldListener) (u v w : ServeTold) where
  pub takes_on : (x y : Ran) → x.second ≡ None → y.second ≡ None → x.stopped ≡ None
      → RanSo u x v IsBeginning → RanSo v y w (IsGoingOn limit k)
      → RanSo u (record { first = x.first; second = y.first; stopped = y.stopped }) w (IsTakingLink limit k)
  takes_on x y p q goes a b = (
    then a.0 b.0,
    subst (λ (l : List EventName). Did u (then a.0 b.0) l w) (named_both x.first y.first x y refl p refl q)
        (did_then rules u v w a.0 b.0 (named x) (named y) a.1 b.1),
    (a.0, x.stopped, a.2, inr (goes, b.0, refl, b.2)),
  )

pub takes_stopped : (limit : ℕ) (k : HeldListener) (u w : ServeTold) (x : Ran) (code : ℕ)
    → x.stopped ≡ Some code → RanSo u x w IsBeginning → RanSo u x w (IsTakingLink limit k)
takes_stopped limit k u w x code stops a = (a.0, a.1, (a.0, x.stopped, a.2, inl (code, stops, refl, refl)))

-- another way of the run is the same for the listener that it leaves
module _ (limit : ℕ) (l k : HeldListener) (marks : Marks) (u w : ServeTold) (ran : Ran)
    (same : k.opening ≡ l.opening) where
  pub listens_link : k.accepted ≡ more_by_one l.accepted → RanSo u ran w (IsTakingLink limit k)
      → RanSo u ran w (IsListenerRun limit l marks)
  listens_link more r = (r.0, r.1, (k, same, inl (more, r.2)))

  pub listens_again : (mark : Option ℕ) → (mark ≡ Some marks.read) ⊎ (mark ≡ None) → k.accepted ≡ l.accepted
      → RanSo u ran w (IsListening k mark) → RanSo u ran w (IsListenerRun limit l marks)
  listens_again mark is kept r = (r.0, r.1, (k, same, inr (inl (kept, mark, is, r.2))))

-- the accept failed
module _ (limit : ℕ) (l k : HeldListener) (marks : Marks) (u w : ServeTold) (ran : Ran)
    (same : k.opening ≡ l.opening) where
  pub listens_failed : k.accepted ≡ l.accepted → RanSo u ran w (IsFailing k)
      → RanSo u ran w (IsListenerRun limit l marks)
  listens_failed kept r = (r.0, r.1, (k, same, inr (inr (kept, r.2))))

pub fails_broken : (k : HeldListener) (u : ServeTold) → 1000 ≤ k.listener.failed_row → Did u nothing [] u
    → RanSo u (after (Some accept_fault)) u (IsFailing k)
fails_broken k u row did = (nothing, did, inr (row, refl, refl))

pub fails_again : (k : HeldListener) (u w : ServeTold) (ran : Ran) → RanSo u ran w (IsListening k None)
    → RanSo u ran w (IsFailing k)
fails_again k u w ran r = (r.0, r.1, inl r.2)

-- ---- the listener itself

pub leaves : (l : HeldListener) (o : Opening) (u w : ServeTold) → o ≡ l.opening
    → ((x : CloseOutcome) × Did u (called (Entries.Close o x)) [] w) → RanSo u (after None) w (IsLeaving l)
leaves l o u w same closed = (
  called (Entries.Close l.opening closed.0),
  subst (λ (p : Opening). Did u (called (Entries.Close p closed.0)) [] w) same closed.1,
  inl (closed.0, refl, refl),
)

pub leaves_spent : (l : HeldListener) (u w : ServeTold) → Did u nothing [] w
    → RanSo u (after (Some spent)) w (IsLeaving l)
leaves_spent l u w did = (nothing, did, inr (refl, refl))

pub listens : (l : HeldListener) (m : Option ℕ) (o : Opening) (e : Option EventName) (u w : ServeTold)
    → o ≡ l.opening
    → ((acts : Acts) × Did u acts (option_to_list e) w × IsTriedUntilTaken o Dirs.Read m (listen_tag l) acts)
    → RanSo u (record { first = e; second = None; stopped = None }) w (IsListening l m)
listens l m o e u w same r = (
  r.0,
  subst (λ (x : List EventName). Did u r.0 x w) (sym (append-nil (option_to_list e))) r.1,
  inl (subst (λ (p : Opening). IsTriedUntilTaken p Dirs.Read m (listen_tag l) r.0) same r.2, refl),
)

pub listens_spent : (l : HeldListener) (m : Option ℕ) (o : Opening) (u w : ServeTold) → o ≡ l.opening
    → ((acts : Acts) × Did u acts [] w × IsTriedUntilSpent o Dirs.Read m (listen_tag l) acts)
    → RanSo u (after (Some spent)) w (IsListening l m)
listens_spent l m o u w same r = (
  r.0,
  r.1,
  inr (subst (λ (p : Opening). IsTriedUntilSpent p Dirs.Read m (listen_tag l) r.0) same r.2, refl),
)

-- ---- words with the tally, and a link that is turned away

module _ {T : Type 0} {tag : T → List (List ℕ)} (rules : CallsOfRuns tag) (t u : View TallyEntry)
    (s : TimeView) (b : BookTold) where
  pub notes : (call : TallyCall) → (call ≡ Tallies.Look) ⊎ ((code : ℕ) × (call ≡ Tallies.Stop code))
      → (r : TallyOut) → HasCalled call t r u
      → (acts : Acts) × ((v : MgrView) → Did (told_of v t s b) acts [] (told_of v u s b)) × IsNote acts
  notes call is (TallyOuts.Done reply) e = (
    counted (record { call = call; reply = reply }),
    λ v. did_count rules v t u s b (record { call = call; reply = reply }) e.own,
    inr (reply, call, is, refl),
  )
  notes call is TallyOuts.Spent e = (nothing, λ v. did_no_count rules v t u s b e.own, inl refl)

  pub turns_away : (ran : Ran) (r : TallyReply) → ran ≡ after None
      → entries_of u ≡ entries_of t ++ record { call = Tallies.TurnAway; reply = r } ∷ []
      → (acts : Acts) × ((v : MgrView) → Did (told_of v t s b) acts [] (told_of v u s b))
      × IsTurningAway acts ran.stopped
  turns_away ran r is own = (
    counted (record { call = Tallies.TurnAway; reply = r }),
    λ v. did_count rules v t u s b (record { call = Tallies.TurnAway; reply = r }) own,
    inl (r, refl, ap (λ (x : Ran). x.stopped) is),
  )

  pub turns_none : (ran : Ran) → ran ≡ after (Some spent) → entries_of u ≡ entries_of t
      → (acts : Acts) × ((v : MgrView) → Did (told_of v t s b) acts [] (told_of v u s b))
      × IsTurningAway acts ran.stopped
  turns_none ran is own =
      (nothing, λ v. did_no_count rules v t u s b own, inr (refl, ap (λ (x : Ran). x.stopped) is))
