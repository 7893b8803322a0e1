-- The parts of a turn, put together.
use Rattle.std.proofs.Common.{◌≡◌, ℕ, ◌+◌, ◌⊎◌, inl, inr, ⊎_elim, List, [], ◌∷◌, ◌++◌, length, true, false}
use Rattle.std.proofs.Common.{refl, sym, ap, ◌∙◌, subst, arith}
use Rattle.std.proofs.lemmas.Bool.{eqb-true, eqb-false, eq-eqb, ne_eqb, cases_Bool}
use Rattle.std.proofs.lemmas.List.{append_assoc}
use Rattle.std.specs.Prelude.{Option, Some, None, ◌==◌}
use Rattle.std.specs.Option.{option_map}
use Rattle.poller.specs.declared.poller.PollOut.TheVariants.{Polled}
use Rattle.poller.specs.Polls.{Report}
use Rattle.ready_queue.specs.Calls.{view_of}
use Rattle.event_mgr.specs.Manager.{mgr_view}
use Rattle.dispatcher.specs.declared.pass.DispPass.{DispPass}
use Rattle.dispatcher.specs.declared.outcome.Halt.{Halt}
use Rattle.dispatcher.specs.declared.outcome.Halt.TheVariants as Halts
use Rattle.dispatcher.specs.declared.outcome.TurnTally.{TurnTally}
use Rattle.poller.specs.Meanings.{PollerMeaning}
use Rattle.dispatcher.specs.Meanings.{RunnerMeaning}
use Rattle.dispatcher.specs.Told.{Gains}
use Rattle.reg_keys.specs.declared.event.EventName.{EventName}
use Rattle.dispatcher.specs.Books.{WasFullWithin, IsLeftOf, PutsAll, IsAccounted}
use Rattle.dispatcher.specs.Firings.{job_keys_of}
use Rattle.dispatcher.specs.Turns.{book_of, work_with, turned_of, HasRunKeys, HasHalted, HasReportedAll}
use Rattle.dispatcher.specs.Turns.{HasLeftReports, TakesNone, EventsTaken, IsEnded, HasTurned, RefusedAt}
use Rattle.dispatcher.specs.Turns.{HasPolled}
use Rattle.dispatcher.proofs.Within.{within_later, within_sooner}
use Rattle.dispatcher.proofs.Accounts.{balanced_then, left_none}
use Rattle.dispatcher.proofs.Works.{worked_then, run_then, more_pairs, run_more_pairs}
use Rattle.dispatcher.proofs.Ends.{none_refused}
use Rattle.dispatcher.specs.Laws.{grown_then}
use Rattle.dispatcher.proofs.Replies.{met_later}

-- a list that is told, and a piece more
pub gains_piece : {A : Type 0} (o p : Option (List A)) (piece : List A)
    → p ≡ option_map (λ l. l ++ piece) o → Gains o p piece
gains_piece None None piece e = tt
gains_piece None (Some n) piece e = absurd (cc)
gains_piece (Some l) None piece e = tt
gains_piece (Some l) (Some n) piece e = cc

-- a part in the midst took so many, and those round it none
pub taken_around : {T : Type 0} (capacity max : ℕ) (p q r s : DispPass T) → TakesNone p q
    → EventsTaken capacity max q r → TakesNone r s → IsAccounted capacity (book_of p) (book_of q)
    → IsAccounted capacity (book_of r) (book_of s) → EventsTaken capacity max p s
taken_around capacity max p q r s a t b g k = ⊎_elim
    (λ h. inl (omega arith))
    (λ h. inr (within_sooner capacity (λ events. events ≡ []) (view_of p.queue) (view_of q.queue)
    (view_of s.queue) g.queue (within_later capacity (λ events. events ≡ []) (view_of q.queue)
    (view_of r.queue) (view_of s.queue) h k.queue)))
    t

-- more was reported before
refused_later : (halt : Halt) (refused before reported : List Report) → RefusedAt halt refused reported
    → RefusedAt halt refused (before ++ reported)
refused_later (Halts.Stop code) refused before reported k = k
refused_later Halts.Spent refused before reported k = ⊎_elim (λ e. inl e) (λ t. inr (
  before ++ t.0,
  t.1,
  t.2,
  ap (λ (l : List Report). before ++ l) t.3 ∙ sym (append_assoc before t.0 (t.1 ∷ [])),
)) k

-- a part took this many events where the number is zero exactly where the sums are equal
pub idle_is : (a b n : ℕ) → a ≡ b + n → (n == 0) ≡ (a == b)
idle_is a b n e = ⊎_elim
    (λ (h : (n == 0) ≡ true). let z = eqb-true n 0 h in h ∙ sym (eq-eqb a b (omega arith)))
    (λ (h : (n == 0) ≡ false). let z =
    eqb-false n 0 h in h ∙ sym (ne_eqb a b (λ (s : a ≡ b). z (omega arith)))) (cases_Bool (n == 0))

module _ {X P T : Type 0} (meaning : RunnerMeaning X P) (told : PollerMeaning P) where
  ended_halted : (capacity : ℕ) (p : DispPass T) (x : X)
      (halt : Halt) (left : List Report) (q : DispPass T) (y : X)
      → left ≡ [] → Gains (told.polled (meaning.poller_of x)) (told.polled (meaning.poller_of y))
      [] → HasHalted meaning [] [] [] p x halt q y
      → IsEnded meaning told capacity halt p x left q y
  ended_halted capacity p x halt left q y none gave k = record {
    balanced = k.balanced;
    queue = k.queue;
    pairs = [];
    polled = inl refl;
    gave = gave;
    back = k.back;
    refused = [];
    rest = [];
    work = k.work;
    left_is = none;
    was_last = none_refused halt _;
  }

  -- the turn was ended before the poll
  pub turned_halted : (capacity max : ℕ) (p : DispPass T) (x : X)
      (halt : Halt) (left : List Report) (q : DispPass T) (y : X)
      → left ≡ [] → Gains (told.polled (meaning.poller_of x)) (told.polled (meaning.poller_of y))
      [] → HasHalted meaning [] [] [] p x halt q y
      → HasTurned meaning told capacity max p x (turned_of halt) left q y
  turned_halted capacity max p x (Halts.Stop code) left q y none gave k =
      ended_halted capacity p x (Halts.Stop code) left q y none gave k
  turned_halted capacity max p x Halts.Spent left q y none gave k =
      (ended_halted capacity p x Halts.Spent left q y none gave k, k.cause)

  module _ (on : (x y z : X) → meaning.keeps x y → meaning.keeps y z → meaning.keeps x z) where
    ended_left : (capacity n : ℕ) (p : DispPass T) (x : X) (pairs : List Report) (q : DispPass T)
        (y : X) (halt : Halt) (left : List Report) (r : DispPass T) (z : X)
        → IsAccounted capacity (book_of p) (book_of q)
        → HasRunKeys meaning n (work_with [] [] p) x (work_with [] [] q) y
        → Gains (told.polled (meaning.poller_of x)) (told.polled (meaning.poller_of z)) pairs
        → HasPolled meaning told capacity (book_of p) Polled pairs
        → HasLeftReports meaning q y pairs halt r z left → IsEnded meaning told capacity halt p x left r z
    unfolding worked_then run_more_pairs more_pairs
    ended_left capacity n p x pairs q y halt left r z a w gave poll k = record {
      balanced = balanced_then (book_of p) (book_of q) (book_of r) a.balanced k.balanced;
      queue = grown_then (view_of p.queue) (view_of q.queue) (view_of r.queue) a.queue k.queue;
      pairs = pairs;
      polled = inr poll;
      gave = gave;
      back = k.back;
      refused = k.refused;
      rest = k.rest;
      work =
          worked_then meaning on (job_keys_of k.back) (work_with [] pairs p) x (work_with [] pairs q) y
          (work_with k.back k.rest r) z
          (run_more_pairs meaning n (mgr_view p.mgr) (mgr_view q.mgr) [] [] [] [] pairs x y w).0 k.work;
      left_is = k.left_is;
      was_last = refused_later halt k.refused w.0.reported k.work.reported k.was_last;
    }

    -- the turn was ended while pairs were reported
    pub turned_left : (capacity max n : ℕ) (p : DispPass T) (x : X) (pairs : List Report) (q : DispPass T)
        (y : X) (halt : Halt) (left : List Report) (r : DispPass T) (z : X)
        → IsAccounted capacity (book_of p) (book_of q)
        → HasRunKeys meaning n (work_with [] [] p) x (work_with [] [] q) y
        → Gains (told.polled (meaning.poller_of x)) (told.polled (meaning.poller_of z)) pairs
        → HasPolled meaning told capacity (book_of p) Polled pairs
        → HasLeftReports meaning q y pairs halt r z left
        → HasTurned meaning told capacity max p x (turned_of halt) left r z
    turned_left capacity max n p x pairs q y (Halts.Stop code) left r z a w gave poll k =
        ended_left capacity n p x pairs q y (Halts.Stop code) left r z a w gave poll k
    turned_left capacity max n p x pairs q y Halts.Spent left r z a w gave poll k = (
      ended_left capacity n p x pairs q y Halts.Spent left r z a w gave poll k,
      met_later (mgr_view p.mgr) (mgr_view q.mgr) (mgr_view r.mgr) w.0.grown k.cause,
    )

    -- so many keys were run before the poll, and so many as pairs were reported
    pub done_work : (n : ℕ) (p : DispPass T) (x : X) (pairs : List Report) (q : DispPass T) (y : X)
        (count : TurnTally) (r : DispPass T) (z : X) (left : List Report)
        → HasRunKeys meaning n (work_with [] [] p) x (work_with [] [] q) y
        → HasReportedAll meaning count q y pairs r z left
        → HasRunKeys meaning (n + count.ran) (work_with [] pairs p) x (work_with [] [] r) z
    done_work n p x pairs q y count r z left w k =
        run_then meaning on n count.ran (work_with [] pairs p) x (work_with [] pairs q) y
        (work_with [] [] r) z
        (run_more_pairs meaning n (mgr_view p.mgr) (mgr_view q.mgr) [] [] [] [] pairs x y w) (k.work, k.ran)

-- The hand was emptied but where the queue was full, and since then nothing came into it but where it was
-- full: so in the end each event that wasn't taken was put, but where the queue was full
pub emptied_on : {T : Type 0} (capacity : ℕ) (p q r : DispPass T)
    → IsAccounted capacity (book_of p) (book_of q)
    → WasFullWithin capacity (view_of p.queue) (view_of q.queue) ⊎ (q.hand ≡ [])
    → IsAccounted capacity (book_of q) (book_of r)
    → WasFullWithin capacity (view_of p.queue) (view_of r.queue) ⊎ (r.hand ≡ [])
emptied_on {T} capacity p q r a e k = ⊎_elim
    (λ f. inl (within_later capacity (λ events. length events ≡ capacity) (view_of p.queue)
    (view_of q.queue) (view_of r.queue) f k.queue))
    (λ (none : q.hand ≡ []). ⊎_elim
    (λ f. inl (within_sooner capacity (λ events. length events ≡ capacity) (view_of p.queue)
    (view_of q.queue) (view_of r.queue) a.queue f))
    (λ (t : PutsAll (book_of q) (book_of r)).
    inr (left_none r.hand (subst (λ (l : List EventName). IsLeftOf l r.hand) none t.hand)))
    k.full)
    e
