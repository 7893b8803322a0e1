-- What the steps of a call come to: what it asks for, and what stands once it is done.
use Rattle.std.proofs.Common.{◌≡◌, ℕ, ◌<◌, Bool, List, Option, Some, None, option_map, refl, sym, ap, ◌∙◌}
use Rattle.std.proofs.Common.{subst}
use Rattle.outside.specs.Causes.{LinkTold}
use Rattle.conn_loop.specs.declared.step.Step.{Step}
use Rattle.conn_loop.specs.declared.step.Step.TheVariants.{WantRead, WantWrite, WantFile, Done}
use Rattle.conn_loop.specs.declared.step.End.{End}
use Rattle.conn_loop.specs.Causes.{end_of}
use Rattle.conn_loop.specs.Ends.{StepImplies, SendsPrefix, WhereTold}
use Rattle.conn_loop.specs.Stages.{Stage, unread, short, reading, refusing, ready, wanting, sending, unmade}
use Rattle.conn_loop.specs.Stages.{broken, finished}
use Rattle.outside.specs.Folder.{Folder}
use Rattle.app_trait.specs.Moves.{Moves}
use Rattle.conn_loop.specs.Replying.{Serving, replies, serving_over}
use Rattle.conn_loop.specs.ConnState.{ConnState, Accounts, AsksFor, IsAskingStage, AccountsUnless, HoldsAt}
use Rattle.conn_loop.specs.ConnState.{SendsPrefixFor, RepresentsBytes, StepImpliesFor, held_lease}
use Rattle.conn_loop.specs.Steps.{Comes, ComesFor, Goes, Proceeds, stage_kept}
use Rattle.conn_loop.proofs.AheadLemmas.{IsUnanswered}
use Rattle.conn_loop.proofs.AccountLemmas.{accounts_lies}
use Rattle.conn_loop.proofs.AccountImpliesLemmas.{prefix_of, fewer_of}
use Rattle.conn_loop.proofs.ToldLemmas.{told_kept}

-- ---- what is asked for

-- a part of a call in which the link stopped it
pub proceeds_stopped : (moves : Moves) (result : Option Step) (old new : ConnState) (k l : LinkTold)
    → new ≡ record old { pending = new.pending; bytes = new.bytes; waits = new.waits }
    → AsksFor moves old.stage → (IsAskingStage old.stage → ⊥) → Goes result old new k l
    → Proceeds moves result old new
proceeds_stopped moves result old new k l same asks quiet goes =
    let stage : new.stage ≡ old.stage = ap (λ (c : ConnState). c.stage) same in
    record {
      over = ap (λ (c : ConnState). c.over) same;
      lent = ap (λ (c : ConnState). held_lease c) same;
      asks = subst (λ (st : Stage). AsksFor moves st) (sym stage) asks;
      file = (goes.file, (λ asking. absurd (quiet (subst (λ (st : Stage). IsAskingStage st) stage asking))));
    }

-- a part of a call that answers nothing and asks for nothing
pub proceeds_quiet : (moves : Moves) (old new : ConnState) → new.over ≡ old.over
    → held_lease new ≡ held_lease old → AsksFor moves new.stage → (IsAskingStage new.stage → ⊥)
    → Proceeds moves None old new
proceeds_quiet moves old new over lent asks quiet =
    record { over = over; lent = lent; asks = asks; file = ((λ e. cc), (λ asking. absurd (quiet asking))) }

-- a part of a call after another one
pub proceeds_then : (moves : Moves) (result : Option Step) (old mid new : ConnState) → mid.over ≡ old.over
    → held_lease mid ≡ held_lease old → Proceeds moves result mid new
    → Proceeds moves result old new
proceeds_then moves result old mid new over lent x =
    record { over = x.over ∙ over; lent = x.lent ∙ lent; asks = x.asks; file = x.file }

asking_unanswered : (stage : Stage) → IsAskingStage stage → IsUnanswered stage
asking_unanswered unread x = absurd x
asking_unanswered short x = absurd x
asking_unanswered (reading a reader room) x = absurd x
asking_unanswered (refusing code) x = absurd x
asking_unanswered (ready a behind seen path) x = absurd x
asking_unanswered (wanting a behind seen path) x = tt
asking_unanswered (sending at size) x = absurd x
asking_unanswered (unmade end) x = absurd x
asking_unanswered (broken at) x = absurd x
asking_unanswered finished x = absurd x

-- a file is waited for
pub waits_for : (serving : Option Serving) (c : ConnState) (link : LinkTold) → IsAskingStage c.stage
    → 0 < c.left → ComesFor None serving c link → ComesFor (Some WantFile) serving c link
waits_for serving c link asks some x =
    told_kept (λ r t s. Comes None r c t s link.ended)
    (λ r t s. Comes (Some WantFile) r c t s link.ended) serving link
    (λ r t s y. record {
      accounts = y.accounts;
      at = (fewer_of r c t s some (asking_unanswered c.stage asks) y.accounts, y.at);
    }) x

-- ---- a whole call

pub prefix_for : (moves : Moves) (folder : Option Folder) (c : ConnState) (link : LinkTold)
    → WhereTold (serving_over moves folder) link (λ v t s. RepresentsBytes v c t s link.ended)
    → SendsPrefixFor (serving_over moves folder) c link
prefix_for moves folder c link x =
    told_kept (λ r t s. RepresentsBytes r c t s link.ended) (λ r t s. SendsPrefix (replies r) c.moments t s)
    (serving_over moves folder) link (λ r t s y. y.prefix) x

open_at : (c : ConnState) → c.over ≡ None → (r : Serving) (t s : List ℕ) (ended : Option Bool)
    → RepresentsBytes r c t s ended → Comes None r c t s ended
open_at c runs r t s ended x = record {
  accounts = subst (λ (o : Option End). AccountsUnless o r c t s) runs x.accounts;
  at = subst (λ (o : Option End). HoldsAt (option_map Done o) r c.moments t s ended) runs x.at;
}

-- a connection that isn't over goes on
pub open_for : (moves : Moves) (folder : Option Folder) (c : ConnState) (link : LinkTold) → c.over ≡ None
    → WhereTold (serving_over moves folder) link (λ v t s. RepresentsBytes v c t s link.ended)
    → ComesFor None (serving_over moves folder) c link
open_for moves folder c link runs x =
    told_kept (λ r t s. RepresentsBytes r c t s link.ended) (λ r t s. Comes None r c t s link.ended)
    (serving_over moves folder) link (λ r t s y. open_at c runs r t s link.ended y) x

at_kept : (step : Step) (serving : Serving) (moments t s : List ℕ) (ended : Option Bool)
    → StepImplies step (replies serving) moments t s ended
    → HoldsAt (option_map Done (end_of step)) serving moments t s ended
at_kept WantRead serving moments t s ended x = x.2
at_kept WantWrite serving moments t s ended x = x.1
at_kept WantFile serving moments t s ended x = x.1
at_kept (Done end) serving moments t s ended x = x

accounts_kept : (step : Step) (serving : Serving) (c : ConnState) (t s : List ℕ) → Accounts serving c t s
    → AccountsUnless (end_of step) serving
    (record c { over = end_of step; stage = stage_kept step c.stage }) t s
accounts_kept WantRead serving c t s x =
    accounts_lies serving c (record c { over = None }) t s refl refl refl x x.lies x.looks
accounts_kept WantWrite serving c t s x =
    accounts_lies serving c (record c { over = None }) t s refl refl refl x x.lies x.looks
accounts_kept WantFile serving c t s x =
    accounts_lies serving c (record c { over = None }) t s refl refl refl x x.lies x.looks
accounts_kept (Done end) serving c t s x = tt

-- what was answered is kept
pub kept_for : (step : Step) (moves : Moves) (folder : Option Folder) (mid new : ConnState) (link : LinkTold)
    → new ≡ record mid { over = end_of step; stage = stage_kept step mid.stage }
    → ComesFor (Some step) (serving_over moves folder) mid link
    → WhereTold (serving_over moves folder) link (λ v t s. RepresentsBytes v new t s link.ended)
kept_for step moves folder mid new link same x =
    subst (λ (c : ConnState).
    WhereTold (serving_over moves folder) link (λ v t s. RepresentsBytes v c t s link.ended)) (sym same)
    (told_kept (λ r t s. Comes (Some step) r mid t s link.ended)
    (λ r t s.
    RepresentsBytes r (record mid { over = end_of step; stage = stage_kept step mid.stage }) t s link.ended)
    (serving_over moves folder) link
    (λ r t s y. record {
      accounts = accounts_kept step r mid t s y.accounts;
      prefix = prefix_of r mid t s y.accounts;
      at = at_kept step r mid.moments t s link.ended y.at;
    }) x)

-- and what the step says holds
pub implied_for : (step : Step) (moves : Moves)
    (folder : Option Folder) (mid new : ConnState) (link : LinkTold)
    → new.moments ≡ mid.moments
    → ComesFor (Some step) (serving_over moves folder) mid link
    → StepImpliesFor step (serving_over moves folder) new link
implied_for step moves folder mid new link same x =
    told_kept (λ r t s. Comes (Some step) r mid t s link.ended)
    (λ r t s. StepImplies step (replies r) new.moments t s link.ended) (serving_over moves folder) link
    (λ r t s y. subst (λ (v : List ℕ). StepImplies step (replies r) v t s link.ended) (sym same) y.at) x

-- a connection that is over says so of its bytes
pub over_for : (end : End) (moves : Moves) (folder : Option Folder) (c : ConnState) (link : LinkTold)
    → c.over ≡ Some end
    → WhereTold (serving_over moves folder) link (λ v t s. RepresentsBytes v c t s link.ended)
    → StepImpliesFor (Done end) (serving_over moves folder) c link
over_for end moves folder c link over x =
    told_kept (λ r t s. RepresentsBytes r c t s link.ended)
    (λ r t s. StepImplies (Done end) (replies r) c.moments t s link.ended) (serving_over moves folder) link
    (λ r t s y. subst (λ (o : Option End). HoldsAt (option_map Done o) r c.moments t s link.ended) over y.at)
    x
