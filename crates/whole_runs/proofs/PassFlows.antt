-- What a dispatcher's journal says of its pass and its book.
use Rattle.std.proofs.Common.{◌≡◌, ℕ, zero, suc, ◌+◌, ◌≤◌, List, [], ◌∷◌, ◌++◌, map, Bool, refl, sym, ap, ◌∙◌}
use Rattle.std.proofs.Common.{subst, arith}
use Rattle.reg_keys.specs.declared.opening.Opening.{Opening}
use Rattle.reg_keys.specs.declared.event.EventName.{EventName}
use Rattle.reg_keys.specs.declared.entry.FiredKey.{FiredKey}
use Rattle.reg_keys.specs.declared.entry.LoadKind.{LoadKind}
use Rattle.reg_keys.specs.declared.entry.LoadKind.TheVariants.{Job, Flag}
use Rattle.reg_keys.specs.declared.entry.Entry.{Entry}
use Rattle.reg_keys.specs.declared.entry.Entry.TheVariants as Entries
use Rattle.reg_keys.specs.declared.entry.CloseOutcome.TheVariants as Closes
use Rattle.reg_keys.specs.declared.entry.DispatchOutcome.TheVariants as Dispatches
use Rattle.reg_keys.specs.Tests.{total}
use Rattle.reg_keys.specs.AllStripes.{sum_below}
use Rattle.turn_cell.specs.declared.view.View.{View}
use Rattle.turn_cell.specs.Weights.{weigh}
use Rattle.turn_cell.specs.View.{own_entries}
use Rattle.turn_cell.specs.ListLaws.{weigh_same, weigh_sum}
use Rattle.event_mgr.specs.Manager.{MgrView, own_weight}
use Rattle.dispatcher.specs.Entries.{Firing, firings}
use Rattle.dispatcher.specs.Firings.{Jobs, job_of, jobs_of}
use Rattle.warp_tally.specs.declared.calls.TallyEntry.{TallyEntry}
use Rattle.warp_tally.specs.Accounts.{finished_in, turns_away}
use Rattle.warp_books.specs.Books.{BookTold, FinishedTold, IsBookOf}
use Rattle.warp_runner.specs.Acts.{Acts, ServeTold, all_out_in, fired_weight, nothing, then}
use Rattle.warp_runner.specs.Journal.{Deed, Explains, JournalFits, IsOfServer, all_of}
use Rattle.whole_runs.specs.Registrations.{registers, taken}
use Rattle.whole_runs.proofs.Flows.{AllCount, Flows, Handed, accepted, accepted_any, accepts_of, ended, given}
use Rattle.whole_runs.proofs.Flows.{is_handed, jobs_at, of_job, opens_of, shut}
use Rattle.whole_runs.proofs.Chains.{sum_same}
use Rattle.whole_runs.proofs.Flowing.{total_append}
use Rattle.whole_runs.proofs.JournalFlows.{acts_are, acts_of, all_out_are, jobs_in, jobs_weigh, journal_flows}
use Rattle.whole_runs.proofs.Numbers.{by_numbers, most_of}

-- what is known of one dispatcher: what it handed to its book, each connection with how often it was
-- registered, and that it registered and handed over no more than its pass's own entries let it
pub record PassFlows (limit : ℕ) (u : ServeTold) : Type 0 where
  pub journal : JournalFits limit u []
  pub handed : List Handed
  pub told : map (λ (h : Handed). h.0) handed ≡ all_of (λ d. d.acts.handed) journal.deeds
  pub book : IsBookOf (map (λ (h : Handed). h.0) handed) u.book
  pub count : AllCount handed
  pub first : (these : Opening → Bool)
      → own_weight (accepted these 0) u.mgr + total (is_handed these 0) handed
      ≤ weigh (accepts_of these) u.tallied
  pub next : (these : Opening → Bool) (k : ℕ)
      → own_weight (accepted these (suc k)) u.mgr + total (is_handed these (suc k)) handed
      ≤ own_weight (ended these k) u.mgr
  pub links : weigh turns_away u.tallied ≤ all_out_in u.mgr + own_weight taken u.mgr
  pub openings : (these : Opening → Bool)
      → weigh (accepts_of these) u.tallied ≤ own_weight (opens_of these) u.mgr
  pub finished : map (λ (d : FinishedTold). d.opening) (map (λ (h : Handed). h.0) handed)
      ≡ finished_in u.tallied
  pub most : ℕ
  pub numbers : (these : Opening → Bool) (m : ℕ) → most ≤ m
      → sum_below m (λ k. own_weight (accepted these k) u.mgr) ≡ own_weight (registers these) u.mgr

-- ---- weights of own entries

pub own_same : (f g : Entry → ℕ) (v : MgrView) → ((e : Entry) → f e ≡ g e) → own_weight f v ≡ own_weight g v
own_same f g v same =
    weigh_same (λ (x : View Entry). weigh (λ (e : ℕ × Entry). f e.1) (own_entries x))
    (λ (x : View Entry). weigh (λ (e : ℕ × Entry). g e.1) (own_entries x)) v.stripes
    (λ x. weigh_same (λ (e : ℕ × Entry). f e.1) (λ (e : ℕ × Entry). g e.1) (own_entries x) (λ e. same e.1))

own_sum : (f g : Entry → ℕ) (v : MgrView) → own_weight (λ e. f e + g e) v ≡ own_weight f v + own_weight g v
own_sum f g v = weigh_same (λ (x : View Entry). weigh (λ (e : ℕ × Entry). f e.1 + g e.1) (own_entries x))
    (λ (x : View Entry).
    weigh (λ (e : ℕ × Entry). f e.1) (own_entries x) + weigh (λ (e : ℕ × Entry). g e.1) (own_entries x))
    v.stripes
    (λ x. weigh_sum (λ (e : ℕ × Entry). f e.1) (λ (e : ℕ × Entry). g e.1) (own_entries x))
    ∙ weigh_sum (λ (x : View Entry). weigh (λ (e : ℕ × Entry). f e.1) (own_entries x))
    (λ (x : View Entry). weigh (λ (e : ℕ × Entry). g e.1) (own_entries x)) v.stripes

-- ---- what ended is what ran and what was shut

run_load : (these : Opening → Bool) (k : ℕ) (f : Firing) (kind : LoadKind) → f.1.kind ≡ kind
    → total (λ (x : Firing). of_job these k x.1.kind) (job_of f kind) ≡ of_job these k f.1.kind
run_load these k f (Job tag) is = omega arith
run_load these k f Flag is = sym (ap (of_job these k) is)

runs : (these : Opening → Bool) (k : ℕ) (o : Opening) (ran : List FiredKey)
    → total (λ (f : Firing). of_job these k f.1.kind) (jobs_of (firings o ran))
    ≡ total (λ (r : FiredKey). of_job these k r.kind) ran
runs these k o [] = refl
runs these k o (r ∷ ran) =
    let a =
    total_append (λ (f : Firing). of_job these k f.1.kind) (job_of (o, r) r.kind) (jobs_of (firings o ran)) in
    let b = run_load these k (o, r) r.kind refl in
    let c = runs these k o ran in omega arith

ends_by : (these : Opening → Bool) (k : ℕ) (e : Entry)
    → ended these k e ≡ fired_weight (λ (f : Firing). of_job these k f.1.kind) e + shut these k e
ends_by these k (Entries.Dispatch x (Dispatches.Ran ran e)) =
    let r = runs these k x.opening ran in
    omega arith
ends_by these k (Entries.Close o (Closes.Shut list)) = omega arith
ends_by these k _ = omega arith

-- ---- the journal

of_server : (f : Entry → ℕ) → ((o : Opening) (ds : _) (r : _) → f (Entries.Report o ds r) ≡ 0)
    → ((x : EventName) (r : _) → f (Entries.Dispatch x r) ≡ 0) → IsOfServer f
of_server f a b = record { reports = a; dispatches = b }

module _ (limit : ℕ) (u : ServeTold) (fits : JournalFits limit u []) where
  abbrev deeds : List Deed
  deeds = fits.deeds

  abbrev acts : Acts
  acts = acts_of fits.deeds

  calls_are : acts.calls ≡ all_of (λ d. d.acts.calls) deeds
  calls_are = acts_are (λ a. a.calls) refl (λ a b. refl) deeds

  tallied_are : acts.tallied ≡ u.tallied
  tallied_are = acts_are (λ a. a.tallied) refl (λ a b. refl) deeds ∙ sym fits.explains.tallied

  weighs : (f : Entry → ℕ) → IsOfServer f → own_weight f u.mgr ≡ weigh f acts.calls
  weighs f of = fits.explains.calls f of ∙ sym (ap (weigh f) calls_are)

  ended_are : (these : Opening → Bool) (k : ℕ) → own_weight (ended these k) u.mgr
      ≡ jobs_at (jobs_in deeds) these (suc k) + weigh (shut these k) acts.calls
  ended_are these k =
      let φ : Firing → ℕ = λ f. of_job these k f.1.kind in
      let a = own_same (ended these k) (λ e. fired_weight φ e + shut these k e) u.mgr (ends_by these k) in
      let b = own_sum (fired_weight φ) (shut these k) u.mgr in
      let c = fits.explains.fired φ in
      let d = jobs_weigh φ deeds in
      let e = weighs (shut these k) (of_server (shut these k) (λ o ds r. refl) (λ x r. refl)) in omega arith

  pub pass_flows : PassFlows limit u
  pass_flows = let s = journal_flows limit deeds fits.explains.lawful in record {
    journal = fits;
    handed = s.handed;
    told = s.told ∙ acts_are (λ a. a.handed) refl (λ a b. refl) deeds;
    book =
        subst (λ (l : List FinishedTold). IsBookOf l u.book)
        (sym (s.told ∙ acts_are (λ a. a.handed) refl (λ a b. refl) deeds)) fits.explains.book;
    count = s.count;
    first = λ these.
        let j = s.jobs these 0 in
        let w = weighs (accepted these 0) (of_server (accepted these 0) (λ o ds r. refl) (λ x r. refl)) in
        let t = ap (weigh (accepts_of these)) tallied_are in omega arith;
    next = λ these k.
        let j = s.jobs these (suc k) in
        let w =
        weighs (accepted these (suc k)) (of_server (accepted these (suc k)) (λ o ds r. refl) (λ x r. refl)) in
        let e = ended_are these k in omega arith;
    links =
        let j = s.links in
        let w = weighs taken (of_server taken (λ o ds r. refl) (λ x r. refl)) in
        let t = ap (weigh turns_away) tallied_are in
        let a = all_out_are deeds in
        let b = fits.explains.all_out in omega arith;
    openings = λ these.
        let j = s.openings these in
        let w = weighs (opens_of these) (of_server (opens_of these) (λ o ds r. refl) (λ x r. refl)) in
        let t = ap (weigh (accepts_of these)) tallied_are in omega arith;
    finished = ap (map (λ (d : FinishedTold). d.opening)) s.told ∙ (s.finished ∙ ap finished_in tallied_are);
    most = most_of acts.calls;
    numbers = λ these m le.
        sum_same (λ k. own_weight (accepted these k) u.mgr) (λ k. weigh (accepted these k) acts.calls) m
        (λ k lt. weighs (accepted these k) (of_server (accepted these k) (λ o ds r. refl) (λ x r. refl)))
        ∙ (by_numbers these m acts.calls le
        ∙ (sym (s.straight these)
        ∙ sym (weighs (registers these) (of_server (registers these) (λ o ds r. refl) (λ x r. refl)))));
  }
