-- Work follows work.
use Rattle.std.proofs.Common.{◌≡◌, ℕ, ◌+◌, List, [], ◌∷◌, ◌++◌, length, sym, refl, ap, ◌∙◌, subst, arith}
use Rattle.std.proofs.lemmas.List.{append_assoc, append-nil, length-append}
use Rattle.reg_keys.specs.declared.registration.Key.{Key}
use Rattle.poller.specs.Polls.{Report}
use Rattle.event_mgr.specs.Manager.{MgrView}
use Rattle.dispatcher.specs.Entries.{Firing, fired_by, reported_by}
use Rattle.dispatcher.specs.Meanings.{RunnerMeaning}
use Rattle.dispatcher.specs.Told.{Gains}
use Rattle.dispatcher.specs.Firings.{keys_of}
use Rattle.dispatcher.specs.Work.{Work, HasWorked}
use Rattle.dispatcher.proofs.Lists.{gains_none, gains_then}
use Rattle.dispatcher.specs.Laws.{all_grown_same, all_grown_then}
use Rattle.dispatcher.proofs.Shown.{shows_same, shows_then}

pub keys-append : (fs gs : List Firing) → keys_of (fs ++ gs) ≡ keys_of fs ++ keys_of gs
keys-append [] gs = refl
keys-append (f ∷ fs) gs = ap (λ (l : List Key). f.1.key ∷ l) (keys-append fs gs)

-- two flows, one after the other
pub flow_then : {A : Type 0} → (a f r b g s c : List A) → a ++ f ≡ r ++ b → b ++ g ≡ s ++ c
    → a ++ (f ++ g) ≡ (r ++ s) ++ c
flow_then a f r b g s c p q =
    sym (append_assoc a f g)
    ∙ (ap (λ l. l ++ g) p ∙ (append_assoc r b g ∙ (ap (λ l. r ++ l) q ∙ sym (append_assoc r s c))))

abbrev pub work : MgrView → List Firing → List Report → Work
work m due pairs = record { mgr = m; due = due; pairs = pairs }

module _ {X P : Type 0} (meaning : RunnerMeaning X P) where
  unfoldable pub worked_then : ((x y z : X) → meaning.keeps x y → meaning.keeps y z → meaning.keeps x z)
      → (shut : List Key) (a : Work) (x : X) (b : Work) (y : X) (c : Work) (z : X)
      → HasWorked meaning [] a x b y → HasWorked meaning shut b y c z → HasWorked meaning shut a x c z
  worked_then on shut a x b y c z p q = record {
    fired = p.fired ++ q.fired;
    ran = p.ran ++ q.ran;
    reported = p.reported ++ q.reported;
    grown = all_grown_then a.mgr b.mgr c.mgr p.grown q.grown;
    shows_fired = shows_then fired_by a.mgr b.mgr c.mgr p.fired q.fired p.shows_fired q.shows_fired;
    in_order = flow_then a.due p.fired p.ran b.due q.fired q.ran c.due p.in_order q.in_order;
    shows_reported =
        shows_then reported_by a.mgr b.mgr c.mgr p.reported q.reported p.shows_reported q.shows_reported;
    each_once =
        p.each_once ∙ (ap (λ (l : List Report). p.reported ++ l) q.each_once
        ∙ sym (append_assoc p.reported q.reported c.pairs));
    gains_runs =
        subst (λ (l : List Key). Gains (meaning.runs x) (meaning.runs z) l) (sym (keys-append p.ran q.ran))
        (gains_then (meaning.runs x) (meaning.runs y) (meaning.runs z) (keys_of p.ran)
        (keys_of q.ran) p.gains_runs q.gains_runs);
    gains_shuts =
        gains_then (meaning.shuts x) (meaning.shuts y) (meaning.shuts z) [] shut p.gains_shuts q.gains_shuts;
    kept = on x y z p.kept q.kept;
  }

  pub worked_same : ((x : X) → meaning.keeps x x) → (a : Work) (x : X) → HasWorked meaning [] a x a x
  worked_same same a x = record {
    fired = [];
    ran = [];
    reported = [];
    grown = all_grown_same a.mgr;
    shows_fired = shows_same fired_by a.mgr a.mgr (λ t. refl);
    in_order = append-nil a.due;
    shows_reported = shows_same reported_by a.mgr a.mgr (λ t. refl);
    each_once = refl;
    gains_runs = gains_none (meaning.runs x);
    gains_shuts = gains_none (meaning.shuts x);
    kept = same x;
  }

  -- so many keys were run, and then so many more
  abbrev pub RunKeys : ℕ → Work → X → Work → X → Type 0
  RunKeys n a x b y = (w : HasWorked meaning [] a x b y) × (length w.ran ≡ n)

  pub run_then : ((x y z : X) → meaning.keeps x y → meaning.keeps y z → meaning.keeps x z)
      → (m n : ℕ) (a : Work) (x : X) (b : Work) (y : X) (c : Work) (z : X) → RunKeys m a x b y
      → RunKeys n b y c z → RunKeys (m + n) a x c z
  unfolding worked_then
  run_then on m n a x b y c z p q =
      let t = length-append p.0.ran q.0.ran in
      let k = p.1 in
      let l = q.1 in
      (worked_then on [] a x b y c z p.0 q.0, omega arith)

  pub run_same : ((x : X) → meaning.keeps x x) → (a : Work) (x : X) → RunKeys 0 a x a x
  unfolding worked_same
  run_same same a x = (worked_same same a x, refl)

  -- pairs that are still to be reported stay so
  unfoldable pub more_pairs : (shut : List Key) (m n : MgrView)
      (due back : List Firing) (before after ps : List Report) (x y : X)
      → HasWorked meaning shut (work m due before) x (work n back after) y
      → HasWorked meaning shut (work m due (before ++ ps)) x (work n back (after ++ ps)) y
  more_pairs shut m n due back before after ps x y p = record {
    fired = p.fired;
    ran = p.ran;
    reported = p.reported;
    grown = p.grown;
    shows_fired = p.shows_fired;
    in_order = p.in_order;
    shows_reported = p.shows_reported;
    each_once = ap (λ (l : List Report). l ++ ps) p.each_once ∙ append_assoc p.reported after ps;
    gains_runs = p.gains_runs;
    gains_shuts = p.gains_shuts;
    kept = p.kept;
  }

  unfoldable pub run_more_pairs : (k : ℕ) (m n : MgrView)
      (due back : List Firing) (before after ps : List Report) (x y : X)
      → RunKeys k (work m due before) x (work n back after) y
      → RunKeys k (work m due (before ++ ps)) x (work n back (after ++ ps)) y
  unfolding more_pairs
  run_more_pairs k m n due back before after ps x y p =
      (more_pairs [] m n due back before after ps x y p.0, p.1)
