-- Inner: the account goes on over reports and dispatches, as the laws of the runner ask for.
use Rattle.std.proofs.Common.{◌≡◌, ℕ, ◌+◌, ◌≤◌, ⊎_elim, List, [], ◌∷◌, ◌++◌, map, sym, refl, ap, ◌∙◌, arith}
use Rattle.reg_keys.specs.declared.opening.Opening.{Opening}
use Rattle.reg_keys.specs.declared.event.EventName.{EventName}
use Rattle.reg_keys.specs.declared.registration.Dirs.{Dirs}
use Rattle.reg_keys.specs.declared.entry.LoadKind.{LoadKind}
use Rattle.reg_keys.specs.declared.entry.LoadKind.TheVariants as Kinds
use Rattle.reg_keys.specs.declared.entry.FiredKey.{FiredKey}
use Rattle.reg_keys.specs.declared.entry.Entry.{Entry}
use Rattle.reg_keys.specs.declared.entry.Entry.TheVariants as Entries
use Rattle.reg_keys.specs.declared.entry.DispatchOutcome.TheVariants as Dispatches
use Rattle.reg_keys.specs.Tests.{total}
use Rattle.reg_keys.specs.Laws.{total_append}
use Rattle.stripe_table.specs.declared.calls.ReportReply.{ReportReply}
use Rattle.stripe_table.specs.declared.calls.DispatchReply.{DispatchReply}
use Rattle.stripe_table.specs.declared.calls.DispatchReply.TheVariants as Dispatch
use Rattle.stripe_table.specs.Calls.{reported as reply_of_report, dispatched as reply_of_dispatch, fired_key}
use Rattle.event_mgr.specs.Stripes.{stripe_of}
use Rattle.event_mgr.specs.Manager.{MgrView, EnteredAt, SpentAt, own_weight, HasReported, HasDispatched}
use Rattle.event_mgr.specs.Laws.{entered_weighs, spent_weighs}
use Rattle.dispatcher.specs.Entries.{Firing, firings}
use Rattle.dispatcher.specs.Firings.{Jobs, job_of, jobs_of, with_fired}
use Rattle.event_tests.specs.Accounting.{of_job, accepted, ended, pending, Accounts}

pub trans : {A : Type 0} (a b c : A) → b ≡ a → c ≡ b → c ≡ a
trans a b c p q = q ∙ p

-- ---- pending jobs

pub pending_one : (o : Opening) (k : ℕ) (f : Firing) (kind : LoadKind) → f.1.kind ≡ kind
    → pending o k (job_of f kind) ≡ of_job o k kind
pending_one o k f (Kinds.Job tag) e = let a = ap (of_job o k) e in omega arith
pending_one o k f Kinds.Flag e = refl

pub pending_fired : (o : Opening) (k : ℕ) (p : Opening) (rs : List FiredKey)
    → pending o k (jobs_of (firings p rs)) ≡ total (λ (r : FiredKey). of_job o k r.kind) rs
pending_fired o k p [] = refl
pending_fired o k p (r ∷ rs) =
    let a = pending_fired o k p rs in
    let b = pending_one o k (p, r) r.kind refl in
    let c = total_append (λ (f : Firing). of_job o k f.1.kind)
    (job_of (p, r) r.kind) (jobs_of (firings p rs)) in
    omega arith

-- ---- a call that accepts no registration

module _ (finishes : Opening → ℕ → ℕ) where
  -- an entry that accepts nothing and ends as much as comes to the jobs
  pub entered_on : (s : ℕ) (e : Entry) (v w : MgrView) (jobs more : Jobs)
      → EnteredAt s e v w → ((o : Opening) (k : ℕ) → accepted o k e ≡ 0)
      → ((o : Opening) (k : ℕ) → pending o k more ≤ pending o k jobs + ended o k e)
      → Accounts finishes v jobs → Accounts finishes w more
  entered_on s e v w jobs more a none le r o k =
      let x = entered_weighs (accepted o (k + 1)) s v w e a in
      let y = entered_weighs (ended o k) s v w e a in
      let z = none o (k + 1) in
      let t = le o k in
      let q = r o k in
      omega arith

  pub refused_on : (s : ℕ) (v w : MgrView) (jobs : Jobs) → SpentAt s v w → Accounts finishes v jobs
      → Accounts finishes w jobs
  refused_on s v w jobs a r o k =
      let x = spent_weighs (accepted o (k + 1)) s v w a in
      let y = spent_weighs (ended o k) s v w a in
      let q = r o k in
      omega arith

  pub reported : (o : Opening) (ds : Dirs) (v : MgrView) (reply : ReportReply) (w : MgrView) (jobs : Jobs)
      → HasReported o ds v reply w → Accounts finishes v jobs → Accounts finishes w jobs
  reported o ds v reply w jobs h r = ⊎_elim
      (λ t. entered_on (stripe_of o.fd) (Entries.Report o ds (reply_of_report reply)) v w jobs jobs t.0
      (λ _ _. refl) (λ _ _. omega arith) r)
      (λ t. refused_on (stripe_of o.fd) v w jobs t.1 r) h

module _ {T : Type 0} (tag : T → List (List ℕ)) (finishes : Opening → ℕ → ℕ) where
  pub dispatched : (e : EventName) (v : MgrView) (reply : DispatchReply T) (w : MgrView) (jobs : Jobs)
      → HasDispatched tag e v reply w → Accounts finishes v jobs
      → Accounts finishes w (with_fired tag e reply jobs)
  dispatched e v (Dispatch.Ran list n) w jobs h r = let rs = map (fired_key tag) list in ⊎_elim
      (λ t. entered_on finishes (stripe_of e.opening.fd) (Entries.Dispatch e (Dispatches.Ran rs n)) v w jobs
      (jobs ++ jobs_of (firings e.opening rs)) t.0 (λ _ _. refl)
      (λ o k.
      let a = total_append (λ (f : Firing). of_job o k f.1.kind) jobs (jobs_of (firings e.opening rs)) in
      let b = pending_fired o k e.opening rs in
      omega arith) r)
      (λ t. let z = t.0 in absurd (cc)) h
  dispatched e v Dispatch.Stale w jobs h r = ⊎_elim
      (λ t. entered_on finishes (stripe_of e.opening.fd)
      (Entries.Dispatch e Dispatches.Stale) v w jobs jobs t.0 (λ _ _. refl) (λ _ _. omega arith) r)
      (λ t. refused_on finishes (stripe_of e.opening.fd) v w jobs t.1 r) h
  dispatched e v (Dispatch.Spent back) w jobs h r = ⊎_elim
      (λ t. entered_on finishes (stripe_of e.opening.fd)
      (Entries.Dispatch e Dispatches.Spent) v w jobs jobs t.0 (λ _ _. refl) (λ _ _. omega arith) r)
      (λ t. refused_on finishes (stripe_of e.opening.fd) v w jobs t.1 r) h
