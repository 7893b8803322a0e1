-- What the manager's replies say of a call: that it was entered, or why it was refused.
use Rattle.std.proofs.Common.{◌≡◌, ℕ, zero, suc, ◌⊎◌, inl, inr, ⊎_elim, List, [], ◌∷◌, ◌++◌, map, sym, refl}
use Rattle.std.proofs.Common.{ap, ◌∙◌}
use Rattle.std.specs.Prelude.{Option, slice_get}
use Rattle.std.proofs.lemmas.List.{append_assoc, append-nil}
use mathlib.Core.List.{IsPrefix}
use Rattle.reg_keys.specs.declared.opening.Opening.{Opening}
use Rattle.reg_keys.specs.declared.event.EventName.{EventName}
use Rattle.reg_keys.specs.declared.registration.Dirs.{Dirs}
use Rattle.reg_keys.specs.declared.entry.Entry.{Entry}
use Rattle.reg_keys.specs.declared.entry.Entry.TheVariants as Entries
use Rattle.reg_keys.specs.declared.entry.ReportOutcome.TheVariants as Reports
use Rattle.reg_keys.specs.declared.entry.DispatchOutcome.TheVariants as Dispatches
use Rattle.turn_cell.specs.declared.view.View.{View}
use Rattle.turn_cell.specs.History.{Log}
use Rattle.stripe_table.specs.declared.calls.Fired.{Fired}
use Rattle.stripe_table.specs.declared.calls.ReportReply.TheVariants as Report
use Rattle.stripe_table.specs.declared.calls.DispatchReply.TheVariants as Dispatch
use Rattle.stripe_table.specs.Calls.{fired_key}
use Rattle.event_mgr.specs.Stripes.{stripe_of, StripeSpent}
use Rattle.event_mgr.specs.Manager.{MgrView, EnteredAt, SpentAt, HasReported, HasDispatched, own_in, own_by}
use Rattle.event_mgr.specs.Laws.{entered_own, stripe_after}
use Rattle.dispatcher.specs.declared.outcome.Halt.{Halt}
use Rattle.dispatcher.specs.declared.outcome.Halt.TheVariants as H
use Rattle.dispatcher.specs.Entries.{IsSpentEntry}
use Rattle.dispatcher.specs.Stripes.{Each, HasGrown, AllGrown}
use Rattle.dispatcher.specs.Turns.{HasMetSpent, HasHaltCause}

-- ---- which entry a reply shows

pub noted_entered : (o : Opening) (ds : Dirs) (v : MgrView) (n : Option EventName) (w : MgrView)
    → HasReported o ds v (Report.Noted n) w
    → EnteredAt (stripe_of o.fd) (Entries.Report o ds (Reports.Noted n)) v w
noted_entered o ds v n w k = ⊎_elim (λ t. t.0) (λ t. let e = t.0 in absurd (cc)) k

pub report_stale_entered : (o : Opening) (ds : Dirs) (v w : MgrView) → HasReported o ds v Report.Stale w
    → EnteredAt (stripe_of o.fd) (Entries.Report o ds Reports.Stale) v w
report_stale_entered o ds v w k = ⊎_elim (λ t. t.0) (λ t. let e = t.0 in absurd (cc)) k

pub report_spent : (o : Opening) (ds : Dirs) (v w : MgrView) → HasReported o ds v Report.Spent w
    → EnteredAt (stripe_of o.fd) (Entries.Report o ds Reports.Spent) v w ⊎ SpentAt (stripe_of o.fd) v w
report_spent o ds v w k = ⊎_elim (λ t. inl t.0) (λ t. inr t.1) k

module _ {T : Type 0} (tag : T → List (List ℕ)) where
  pub ran_entered : (e : EventName) (v : MgrView) (list : List (Fired T)) (n : Option EventName) (w : MgrView)
      → HasDispatched tag e v (Dispatch.Ran list n) w
      → EnteredAt (stripe_of e.opening.fd)
      (Entries.Dispatch e (Dispatches.Ran (map (fired_key tag) list) n)) v w
  ran_entered e v list n w k = ⊎_elim (λ t. t.0) (λ t. let e = t.0 in absurd (cc)) k

  pub stale_entered : (e : EventName) (v w : MgrView) → HasDispatched tag e v Dispatch.Stale w
      → EnteredAt (stripe_of e.opening.fd) (Entries.Dispatch e Dispatches.Stale) v w
  stale_entered e v w k = ⊎_elim (λ t. t.0) (λ t. let e = t.0 in absurd (cc)) k

  pub dispatch_spent : (e back : EventName) (v w : MgrView)
      → HasDispatched tag e v (Dispatch.Spent back) w → (back ≡ e)
      × (EnteredAt (stripe_of e.opening.fd) (Entries.Dispatch e Dispatches.Spent) v w
      ⊎ SpentAt (stripe_of e.opening.fd) v w)
  dispatch_spent e back v w k =
      ⊎_elim (λ t. (t.1, inl t.0)) (λ t. let h : back ≡ e = let r = t.0 in cc in (h, inr t.1)) k

-- ---- why a call was refused as spent

pub met_entry : (s : ℕ) (e : Entry) (v w : MgrView) → EnteredAt s e v w → IsSpentEntry e → HasMetSpent v w
met_entry s e v w a is = let o = entered_own s e v w a in (
  s,
  inr ([], o.0, e, o.1 ∙ ap (λ (l : Log Entry). l ++ (o.0, e) ∷ []) (sym (append-nil (own_in s v))), is),
)

pub met_cell : (s : ℕ) (v w : MgrView) → SpentAt s v w → HasMetSpent v w
met_cell s v w a = (
  s,
  inl (a.stripe.after, stripe_after s (StripeSpent s) v w a, a.stripe.moved.found, a.stripe.moved.met_spent),
)

pub met_either : (s : ℕ) (e : Entry) (v w : MgrView) → EnteredAt s e v w ⊎ SpentAt s v w
    → IsSpentEntry e → HasMetSpent v w
met_either s e v w c is = ⊎_elim (λ t. met_entry s e v w t is) (λ t. met_cell s v w t) c

own_from : (vs ws : List (View Entry)) → Each HasGrown vs ws → (t : ℕ)
    → IsPrefix (own_by (slice_get vs t)) (own_by (slice_get ws t))
own_from [] [] a t = ([], refl)
own_from [] (w ∷ ws) a t = absurd a
own_from (v ∷ vs) [] a t = absurd a
own_from (v ∷ vs) (w ∷ ws) a zero = a.0.own
own_from (v ∷ vs) (w ∷ ws) a (suc t) = own_from vs ws a.1 t

-- the pass's own entries at a stripe begin with those that it had
pub own_grown : (v w : MgrView) → AllGrown v w → (t : ℕ) → IsPrefix (own_in t v) (own_in t w)
own_grown v w g t = own_from v.stripes w.stripes g.stripes t

pub met_later : (u v w : MgrView) → AllGrown u v → HasMetSpent v w → HasMetSpent u w
met_later u v w g m =
    let s = m.0 in
    let b = own_grown u v g s in ⊎_elim
    (λ t. (s, inl t))
    (λ (t : (es : Log Entry) × (n : ℕ) × (e : Entry) × (own_in s w ≡ (own_in s v ++ es) ++ (n, e) ∷ [])
    × IsSpentEntry e).
    let front : own_in s v ++ t.0 ≡ own_in s u ++ (b.0 ++ t.0) =
    ap (λ (l : Log Entry). l ++ t.0) (sym b.1) ∙ append_assoc (own_in s u) b.0 t.0 in
    (s, inr (b.0 ++ t.0, t.1, t.2, t.3 ∙ ap (λ (l : Log Entry). l ++ (t.1, t.2) ∷ []) front, t.4)))
    m.1

pub cause_later : (u v : MgrView) (halt : Halt) (w : MgrView) → AllGrown u v → HasHaltCause v halt w
    → HasHaltCause u halt w
cause_later u v (H.Stop code) w g m = tt
cause_later u v H.Spent w g m = met_later u v w g m
