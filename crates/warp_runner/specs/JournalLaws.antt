-- Inner: the journal goes on over reports and dispatches, and by one deed more.
use Rattle.std.specs.Prelude.{Option, Some, None}
use Rattle.std.proofs.Common.{◌≡◌, ℕ, ◌+◌, ⊎_elim, inl, inr, List, [], ◌∷◌, ◌++◌, map, sym, refl, ap, ◌∙◌}
use Rattle.std.proofs.Common.{subst, arith, append-nil, append_assoc}
use Rattle.reg_keys.specs.declared.opening.Opening.{Opening}
use Rattle.reg_keys.specs.declared.event.EventName.{EventName}
use Rattle.reg_keys.specs.declared.registration.Dirs.{Dirs}
use Rattle.reg_keys.specs.declared.entry.Entry.{Entry}
use Rattle.reg_keys.specs.declared.entry.Entry.TheVariants as Entries
use Rattle.reg_keys.specs.declared.entry.DispatchOutcome.TheVariants as Dispatches
use Rattle.reg_keys.specs.Tests.{total}
use Rattle.reg_keys.specs.Laws.{total_append}
use Rattle.stripe_table.specs.declared.calls.ReportReply.{ReportReply}
use Rattle.stripe_table.specs.declared.calls.DispatchReply.{DispatchReply}
use Rattle.stripe_table.specs.declared.calls.DispatchReply.TheVariants as Dispatch
use Rattle.stripe_table.specs.Calls.{reported as reply_of_report, fired_key}
use Rattle.turn_cell.specs.declared.view.View.{View}
use Rattle.turn_cell.specs.Weights.{weigh}
use Rattle.turn_cell.specs.ListLaws.{weigh-append}
use Rattle.event_mgr.specs.Stripes.{stripe_of}
use Rattle.event_mgr.specs.declared.numbers.NumbersEntry.{NumbersEntry}
use Rattle.event_mgr.specs.Manager.{MgrView, EnteredAt, SpentAt, HasReported, HasDispatched}
use Rattle.event_mgr.specs.Laws.{entered_weighs, spent_weighs}
use Rattle.dispatcher.specs.Entries.{Firing, firings}
use Rattle.dispatcher.specs.Firings.{Jobs, jobs_of, with_fired}
use Rattle.dispatcher.specs.Laws.{grown_same, grown_then as pass_grown_then}
use Rattle.turn_cell.specs.View.{own_entries}
use Rattle.fd_cache.specs.declared.deed.CacheDeed.{CacheDeed}
use Rattle.timeout_mgr.specs.declared.view.TimeView.{TimeView}
use Rattle.timeout_mgr.specs.declared.view.TimeCall.{TimeCall}
use Rattle.warp_tally.specs.declared.calls.TallyEntry.{TallyEntry}
use Rattle.warp_books.specs.Books.{BookTold, FinishedTold, IsBookOf}
use Rattle.warp_runner.specs.Acts.{Did, HaveGrown, ServeTold, told_of, fired_weight, is_all_out, all_out_in}
use Rattle.warp_runner.specs.Journal.{AreDeeds, Deed, Explains, JournalFits, FitsUntil, HasOne, IsDeed}
use Rattle.warp_runner.specs.Journal.{IsOfServer, StopsSo, all_of}

-- a call on a stripe alone tells nothing of the numbers
pub all_out_kept : (v w : MgrView) → w.numbers ≡ v.numbers → all_out_in w ≡ all_out_in v
all_out_kept v w same =
    ap (λ (n : View NumbersEntry).
    weigh (λ (e : ℕ × NumbersEntry). is_all_out e.1.call e.1.reply) (own_entries n)) same

-- The journal goes on with the same deeds
module _ (limit : ℕ) (ds : List Deed) (t : View TallyEntry) (s : TimeView) (b : BookTold) where
  -- an entry of a turn's own, which fired these jobs
  turned_on : (k : ℕ) (e : Entry) (v w : MgrView) (jobs more : Jobs) → EnteredAt k e v w
      → ((f : Entry → ℕ) → IsOfServer f → f e ≡ 0)
      → ((φ : Firing → ℕ) → fired_weight φ e ≡ total φ more) → Explains limit ds (told_of v t s b) jobs
      → Explains limit ds (told_of w t s b) (jobs ++ more)
  turned_on k e v w jobs more a none fires was = record {
    calls =
        λ f of.
        let x = entered_weighs f k v w e a in
        let y = was.calls f of in
        let z = none f of in
        omega arith;
    fired =
        λ φ.
        let x = entered_weighs (fired_weight φ) k v w e a in
        let y = was.fired φ in
        let z = fires φ in
        let q = total_append φ jobs more in
        omega arith;
    all_out = all_out_kept v w a.numbers ∙ was.all_out;
    tallied = was.tallied;
    timed = was.timed;
    book = was.book;
    lawful = was.lawful;
  }

  same_on : (k : ℕ) (e : Entry) (v w : MgrView) (jobs : Jobs) → EnteredAt k e v w
      → ((f : Entry → ℕ) → IsOfServer f → f e ≡ 0)
      → ((φ : Firing → ℕ) → fired_weight φ e ≡ 0) → Explains limit ds (told_of v t s b) jobs
      → Explains limit ds (told_of w t s b) jobs
  same_on k e v w jobs a none fires was = record {
    calls =
        λ f of.
        let x = entered_weighs f k v w e a in
        let y = was.calls f of in
        let z = none f of in
        omega arith;
    fired =
        λ φ.
        let x = entered_weighs (fired_weight φ) k v w e a in
        let y = was.fired φ in
        let z = fires φ in
        omega arith;
    all_out = all_out_kept v w a.numbers ∙ was.all_out;
    tallied = was.tallied;
    timed = was.timed;
    book = was.book;
    lawful = was.lawful;
  }

  unmoved_on : (k : ℕ) (v w : MgrView) (jobs : Jobs) → SpentAt k v w
      → Explains limit ds (told_of v t s b) jobs → Explains limit ds (told_of w t s b) jobs
  unmoved_on k v w jobs a was = record {
    calls = λ f of.
        let x = spent_weighs f k v w a in
        let y = was.calls f of in omega arith;
    fired = λ φ.
        let x = spent_weighs (fired_weight φ) k v w a in
        let y = was.fired φ in omega arith;
    all_out = all_out_kept v w a.numbers ∙ was.all_out;
    tallied = was.tallied;
    timed = was.timed;
    book = was.book;
    lawful = was.lawful;
  }

  explains_report : (o : Opening) (dirs : Dirs) (v : MgrView)
      (reply : ReportReply) (w : MgrView) (jobs : Jobs)
      → HasReported o dirs v reply w
      → Explains limit ds (told_of v t s b) jobs → Explains limit ds (told_of w t s b) jobs
  explains_report o dirs v reply w jobs h was = ⊎_elim
      (λ x. same_on (stripe_of o.fd) (Entries.Report o dirs (reply_of_report reply)) v w jobs x.0
      (λ f of. of.reports o dirs (reply_of_report reply)) (λ _. refl) was)
      (λ x. unmoved_on (stripe_of o.fd) v w jobs x.1 was) h

module _ {T : Type 0} (tag : T → List (List ℕ)) (limit : ℕ) (ds : List Deed) (t : View TallyEntry)
    (s : TimeView) (b : BookTold) where
  explains_dispatch : (e : EventName) (v : MgrView) (reply : DispatchReply T) (w : MgrView) (jobs : Jobs)
      → HasDispatched tag e v reply w
      → Explains limit ds (told_of v t s b) jobs
      → Explains limit ds (told_of w t s b) (with_fired tag e reply jobs)
  explains_dispatch e v (Dispatch.Ran list n) w jobs h was = let rs = map (fired_key tag) list in ⊎_elim
      (λ x.
      turned_on limit ds t s b (stripe_of e.opening.fd) (Entries.Dispatch e (Dispatches.Ran rs n)) v w jobs
      (jobs_of (firings e.opening rs)) x.0 (λ f of. of.dispatches e (Dispatches.Ran rs n)) (λ _. refl) was)
      (λ x. let z = x.0 in absurd (cc)) h
  explains_dispatch e v Dispatch.Stale w jobs h was = ⊎_elim
      (λ x. same_on limit ds t s b (stripe_of e.opening.fd) (Entries.Dispatch e Dispatches.Stale) v w jobs x.0
      (λ f of. of.dispatches e Dispatches.Stale) (λ _. refl) was)
      (λ x. unmoved_on limit ds t s b (stripe_of e.opening.fd) v w jobs x.1 was) h
  explains_dispatch e v (Dispatch.Spent back) w jobs h was = ⊎_elim
      (λ x. same_on limit ds t s b (stripe_of e.opening.fd) (Entries.Dispatch e Dispatches.Spent) v w jobs x.0
      (λ f of. of.dispatches e Dispatches.Spent) (λ _. refl) was)
      (λ x. unmoved_on limit ds t s b (stripe_of e.opening.fd) v w jobs x.1 was) h

module _ (limit : ℕ) (stop : Option ℕ) (t : View TallyEntry) (s : TimeView) (b : BookTold) where
  -- the journal of a server fits on over a report
  pub fits_report : (o : Opening) (ds : Dirs) (v : MgrView) (reply : ReportReply) (w : MgrView) (jobs : Jobs)
      → HasReported o ds v reply w
      → FitsUntil limit stop (told_of v t s b) jobs → FitsUntil limit stop (told_of w t s b) jobs
  fits_report o ds v reply w jobs h fits = (
    record {
      deeds = fits.0.deeds;
      explains = explains_report limit fits.0.deeds t s b o ds v reply w jobs h fits.0.explains;
    },
    fits.1,
  )

module _ {T : Type 0} (tag : T → List (List ℕ)) (limit : ℕ) (stop : Option ℕ) (t : View TallyEntry)
    (s : TimeView) (b : BookTold) where
  -- and over a dispatch, whose jobs are pending then
  pub fits_dispatch : (e : EventName) (v : MgrView) (reply : DispatchReply T) (w : MgrView) (jobs : Jobs)
      → HasDispatched tag e v reply w
      → FitsUntil limit stop (told_of v t s b) jobs
      → FitsUntil limit stop (told_of w t s b) (with_fired tag e reply jobs)
  fits_dispatch e v reply w jobs h fits = (
    record {
      deeds = fits.0.deeds;
      explains = explains_dispatch tag limit fits.0.deeds t s b e v reply w jobs h fits.0.explains;
    },
    fits.1,
  )

-- ---- one deed more

lawful_then : (limit : ℕ) (ds : List Deed) (d : Deed) → AreDeeds limit ds → IsDeed limit d
    → AreDeeds limit (ds ++ d ∷ [])
lawful_then limit [] d l is = (is, tt)
lawful_then limit (x ∷ ds) d l is = (l.0, lawful_then limit ds d l.1 is)

weigh_then : (g : Deed → ℕ) (ds : List Deed) (d : Deed) → weigh g (ds ++ d ∷ []) ≡ weigh g ds + g d
weigh_then g ds d = let a = weigh-append g ds (d ∷ []) in omega arith

all_then : {A : Type 0} (f : Deed → List A) (ds : List Deed) (d : Deed)
    → all_of f (ds ++ d ∷ []) ≡ all_of f ds ++ f d
all_then f [] d = append-nil (f d)
all_then {A} f (x ∷ ds) d =
    ap (λ (l : List A). f x ++ l) (all_then f ds d) ∙ sym (append_assoc (f x) (all_of f ds) (f d))

-- and over a deed, which does the next of the pending jobs
pub fits_then : (limit : ℕ) (u w : ServeTold) (d : Deed) (events : List EventName) (rest : Jobs)
    → Did u d.acts events w → IsDeed limit d → JournalFits limit u (d.job ++ rest) → JournalFits limit w rest
fits_then limit u w d events rest did is fits = record {
  deeds = fits.deeds ++ d ∷ [];
  explains = record {
    calls = λ f of.
        let x = did.grew f in
        let y = fits.explains.calls f of in
        let z : weigh f (all_of (λ (d : Deed). d.acts.calls) (fits.deeds ++ d ∷ []))
        ≡ weigh f (all_of (λ (d : Deed). d.acts.calls) fits.deeds ++ d.acts.calls) =
        ap (weigh f) (all_then (λ (d : Deed). d.acts.calls) fits.deeds d) in
        let q = weigh-append f (all_of (λ (d : Deed). d.acts.calls) fits.deeds) d.acts.calls in omega arith;
    fired =
        λ φ.
        let x = did.grew (fired_weight φ) in
        let n = did.fires_none φ in
        let y = fits.explains.fired φ in
        let z = weigh_then (λ (d : Deed). total φ d.job) fits.deeds d in
        let q = total_append φ d.job rest in
        omega arith;
    all_out =
        let x = did.all_out in
        let y = fits.explains.all_out in
        let z = weigh_then (λ (d : Deed). d.acts.all_out) fits.deeds d in
        omega arith;
    tallied =
        did.tallied ∙ ap (λ (l : List TallyEntry). l ++ d.acts.tallied) fits.explains.tallied
        ∙ sym (all_then (λ (d : Deed). d.acts.tallied) fits.deeds d);
    timed =
        did.timed ∙ ap (λ (l : List TimeCall). l ++ d.acts.timed) fits.explains.timed
        ∙ sym (all_then (λ (d : Deed). d.acts.timed) fits.deeds d);
    book =
        subst (λ (l : List FinishedTold). IsBookOf l w.book)
        (sym (all_then (λ (d : Deed). d.acts.handed) fits.deeds d))
        (did.book (all_of (λ (d : Deed). d.acts.handed) fits.deeds) fits.explains.book);
    lawful = lawful_then limit fits.deeds d fits.explains.lawful is;
  };
}

-- what one of some deeds is, one of more deeds is
has_more : (Is : Deed → Type 0) (ds : List Deed) (d : Deed) → HasOne Is ds → HasOne Is (ds ++ d ∷ [])
has_more Is [] d has = absurd has
has_more Is (x ∷ ds) d has = ⊎_elim (λ a. inl a) (λ b. inr (has_more Is ds d b)) has

has_last : (Is : Deed → Type 0) (ds : List Deed) (d : Deed) → Is d → HasOne Is (ds ++ d ∷ [])
has_last Is [] d is = inl is
has_last Is (x ∷ ds) d is = inr (has_last Is ds d is)

stops_more : (stop : Option ℕ) (ds : List Deed) (d : Deed) → StopsSo stop ds → StopsSo stop (ds ++ d ∷ [])
stops_more None ds d stops = tt
stops_more (Some code) ds d stops = has_more (λ e. e.stopped ≡ Some code) ds d stops

stops_last : (stop : Option ℕ) (ds : List Deed) (d : Deed) → d.stopped ≡ stop → StopsSo stop (ds ++ d ∷ [])
stops_last None ds d is = tt
stops_last (Some code) ds d is = has_last (λ e. e.stopped ≡ Some code) ds d is

module _ (limit : ℕ) (u w : ServeTold) (d : Deed) (events : List EventName) (rest : Jobs) where
  -- the dispatcher stops as before one deed more
  pub until_then : (stop : Option ℕ) → Did u d.acts events w → IsDeed limit d
      → FitsUntil limit stop u (d.job ++ rest) → FitsUntil limit stop w rest
  unfolding fits_then
  until_then stop did is fits =
      (fits_then limit u w d events rest did is fits.0, stops_more stop fits.0.deeds d fits.1)

  -- the dispatcher stops with that deed
  pub until_last : Did u d.acts events w → IsDeed limit d → JournalFits limit u (d.job ++ rest)
      → FitsUntil limit d.stopped w rest
  unfolding fits_then
  until_last did is fits =
      (fits_then limit u w d events rest did is fits, stops_last d.stopped fits.deeds d refl)

-- ---- passes that grow

-- what is the same over each of two steps is the same over both
pub same_trans : {A : Type 0} (a b c : A) → b ≡ a → c ≡ b → c ≡ a
same_trans a b c p q = q ∙ p

-- what is as it was has grown
pub grown_none : {L : Type 0} (c : View (CacheDeed L)) (t : View TallyEntry) → HaveGrown c c t t
grown_none c t = record { cached = grown_same c; tallied = grown_same t }

-- and what has grown twice
pub grown_then : {L : Type 0} (a b c : View (CacheDeed L)) (t u v : View TallyEntry)
    → HaveGrown a b t u → HaveGrown b c u v → HaveGrown a c t v
grown_then a b c t u v x y = record {
  cached = pass_grown_then a b c x.cached y.cached;
  tallied = pass_grown_then t u v x.tallied y.tallied;
}
