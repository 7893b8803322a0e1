-- What each act takes and gives of registrations that may still be made, and of connections
-- that may still be handed over.
use Rattle.std.specs.Prelude.{◌≡◌, ℕ, zero, suc, ◌+◌, ◌≤◌, ◌&&◌, ◌==◌, List, [], ◌∷◌, map, Bool}
use Rattle.reg_keys.specs.declared.opening.Opening.{Opening}
use Rattle.reg_keys.specs.declared.entry.LoadKind.{LoadKind}
use Rattle.reg_keys.specs.declared.entry.LoadKind.TheVariants.{Job}
use Rattle.reg_keys.specs.declared.entry.ShutKey.{ShutKey}
use Rattle.reg_keys.specs.declared.entry.Entry.{Entry}
use Rattle.reg_keys.specs.declared.entry.Entry.TheVariants.{Open, Close}
use Rattle.reg_keys.specs.declared.entry.OpenOutcome.TheVariants.{Opened}
use Rattle.reg_keys.specs.declared.entry.CloseOutcome.TheVariants.{Shut}
use Rattle.reg_keys.specs.Tests.{one_if, total}
use Rattle.reg_keys.specs.Accounts.{weight_accepted, weight_ended}
use Rattle.turn_cell.specs.Weights.{weigh}
use Rattle.dispatcher.specs.Entries.{Firing}
use Rattle.dispatcher.specs.Firings.{Jobs}
use Rattle.warp_tally.specs.declared.calls.TallyEntry.{TallyEntry}
use Rattle.warp_tally.specs.Accounts.{accepted_by, finished_in, turns_away}
use Rattle.warp_books.specs.Books.{BookTold, FinishedTold}
use Rattle.warp_passes.specs.Passes.{PassView}
use Rattle.warp_runner.specs.Acts.{Acts, told_of}
use Rattle.warp_runner.specs.Journal.{JournalFits}
use Rattle.whole_runs.specs.Registrations.{CountsFor, registers, taken}

-- one where the load is a connection's job of this number, under an opening of these, as its tag says
abbrev pub of_job : (Opening → Bool) → ℕ → LoadKind → ℕ
of_job these k (Job ((number ∷ fd ∷ []) ∷ (n ∷ []) ∷ more)) =
    one_if (these (record { number = number; fd = fd }) && (n == k))
of_job these k _ = 0

-- one where the load is a connection's job of any number, under an opening of these, as its tag says
abbrev pub of_any : (Opening → Bool) → LoadKind → ℕ
of_any these (Job ((number ∷ fd ∷ []) ∷ (n ∷ []) ∷ more)) =
    one_if (these (record { number = number; fd = fd }))
of_any these _ = 0

-- one for a registration of such a job that was accepted
abbrev pub accepted_any : (Opening → Bool) → Entry → ℕ
accepted_any these e = weight_accepted (λ key o kind. of_any these kind) e

-- the same of a job of this number
abbrev pub accepted : (Opening → Bool) → ℕ → Entry → ℕ
accepted these k e = weight_accepted (λ key o kind. of_job these k kind) e

-- how many jobs of this number ended: they ran, or were shut
abbrev pub ended : (Opening → Bool) → ℕ → Entry → ℕ
ended these k e = weight_ended (λ key o kind. of_job these k kind) e

-- how many of them were shut
abbrev pub shut : (Opening → Bool) → ℕ → Entry → ℕ
shut these k (Close o (Shut list)) = total (λ (x : ShutKey). of_job these k x.kind) list
shut these k _ = 0

-- one for an opening of these that was made
abbrev pub opens_of : (Opening → Bool) → Entry → ℕ
opens_of these (Open fd (Opened o)) = one_if (these o)
opens_of these _ = 0

-- how many of these openings an entry accepted
abbrev pub accepts_of : (Opening → Bool) → TallyEntry → ℕ
accepts_of these e = total (λ o. one_if (these o)) (accepted_by e.call e.reply.counted)

-- a finished connection, and how often it was registered
abbrev pub Handed : Type 0
Handed = FinishedTold × ℕ

-- one where it is of these openings and was registered so often
abbrev pub is_handed : (Opening → Bool) → ℕ → Handed → ℕ
is_handed these c h = one_if (these h.0.opening && (h.1 == c))

-- each of some was registered as often as its waits and its end say
abbrev pub AllCount : List Handed → Type 0
AllCount [] = Unit {0}
AllCount (h ∷ hs) = CountsFor h.0.end h.0.waits h.1 × AllCount hs

-- What may still be done: how many connections, that were registered so often, may be registered once more or
-- handed over; how many links may be turned away; how many openings may be counted
pub record Credit : Type 0 where
  pub jobs : (Opening → Bool) → ℕ → ℕ
  pub links : ℕ
  pub openings : (Opening → Bool) → ℕ

-- what a call on a stripe or on the tally gives of it: an accept lets a connection be registered for the
-- first time, and a job that was shut lets it be registered once more
abbrev pub given : (Opening → Bool) → ℕ → Acts → ℕ
given these zero acts = weigh (accepts_of these) acts.tallied
given these (suc k) acts = weigh (shut these k) acts.calls

-- The acts take no more than there was before them and they give themselves, and leave what there is after
-- them. Each connection that was handed over was registered as often as its waits and its end say, and is one
-- whose finish counted. The tags of registrations say under which opening they are
pub record Flows (before after : Credit) (acts : Acts) : Type 0 where
  pub handed : List Handed
  pub told : map (λ (h : Handed). h.0) handed ≡ acts.handed
  pub count : AllCount handed
  pub jobs : (these : Opening → Bool) (c : ℕ)
      → weigh (accepted these c) acts.calls + total (is_handed these c) handed + after.jobs these c
      ≤ before.jobs these c + given these c acts
  pub links : weigh turns_away acts.tallied + after.links
      ≤ before.links + acts.all_out + weigh taken acts.calls
  pub openings : (these : Opening → Bool) → weigh (accepts_of these) acts.tallied + after.openings these
      ≤ before.openings these + weigh (opens_of these) acts.calls
  pub finished : map (λ (d : FinishedTold). d.opening) acts.handed ≡ finished_in acts.tallied
  pub straight : (these : Opening → Bool)
      → weigh (registers these) acts.calls ≡ weigh (accepted_any these) acts.calls

-- what the jobs of a run, or those that were shut, let be done
abbrev pub jobs_at : Jobs → (Opening → Bool) → ℕ → ℕ
jobs_at js these zero = 0
jobs_at js these (suc k) = total (λ (f : Firing). of_job these k f.1.kind) js

abbrev pub of_fired : Jobs → Credit
of_fired js = record { jobs = jobs_at js; links = 0; openings = λ these. 0 }

abbrev pub shut_at : List ShutKey → (Opening → Bool) → ℕ → ℕ
shut_at xs these zero = 0
shut_at xs these (suc k) = total (λ (x : ShutKey). of_job these k x.kind) xs

abbrev pub of_shut : List ShutKey → Credit
of_shut xs = record { jobs = shut_at xs; links = 0; openings = λ these. 0 }

-- at each place a journal, which begins with nothing, explains what the passes and the book say
module _ {A L : Type 0} (known : A → PassView L) where
  abbrev pub AreExplainedBy : ℕ → List A → List BookTold → Type 0
  AreExplainedBy limit [] [] = Unit {0}
  AreExplainedBy limit (x ∷ xs) (b ∷ books) =
      JournalFits limit (told_of (known x).mgr (known x).tally (known x).times b) [] × AreExplainedBy limit xs books
  AreExplainedBy limit _ _ = ⊥
