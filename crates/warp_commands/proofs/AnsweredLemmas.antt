-- Inner: what the steps of a connection come to in the words of a command.
use Rattle.std.proofs.Common.{◌≡◌, ◌≢◌, ℕ, ◌≤◌, ◌<◌, Bool, true, List, [], ◌++◌, length, Option, Some, None}
use Rattle.std.proofs.Common.{IfSome, is_some, refl, sym, ap, subst, arith, append-nil, length-append, drop}
use Rattle.std.proofs.Common.{inl, inr}
use Rattle.outside.specs.Causes.{IsFresh, LinkTold}
use Rattle.outside.specs.Folder.{Folder}
use Rattle.outside.specs.Moments.{ClockTold, Gains, Gives}
use Rattle.conn_loop.specs.Answers.{answers_of, finals_of, IsOpen}
use Rattle.conn_loop.specs.Replying.{Replying, folder_replies, replies, request_of, serving_over}
use Rattle.app_trait.specs.FolderMoves.{folder_move}
use Rattle.app_trait.specs.FolderReply.{folder_reply}
use Rattle.app_trait.specs.Moves.{RequestText}
use Rattle.app_trait.specs.ReplyTo.{reply_to}
use mathlib.Core.Path.{fun_ext}
use Rattle.outside.specs.Counts.{Counts}
use Rattle.conn_loop.specs.Causes.{CountsWaits}
use Rattle.conn_loop.specs.Ends.{HasEnded, GoesOn, IsBroken, IsCleanEnd, IsCutShort, IsWhole, SendsPrefix}
use Rattle.conn_loop.specs.Ends.{StepImplies}
use Rattle.conn_loop.specs.ConnState.{ConnState, SendsPrefixFor, StepImpliesFor}
use Rattle.warp_response.specs.Reply.{sent_bytes}
use Rattle.conn_loop.specs.declared.step.Step.{Step}
use Rattle.conn_loop.specs.declared.step.Step.TheVariants.{WantRead, WantWrite, WantFile, Done}
use Rattle.conn_loop.specs.declared.step.End.TheVariants as End
use Rattle.warp_commands.specs.declared.status.Status.{Status}
use Rattle.warp_commands.specs.declared.status.Status.TheVariants.{Clean, Cut, Usage, ReadFault, WriteFault}
use Rattle.warp_commands.specs.declared.status.Status.TheVariants.{FileFault, NoMemory, NoSuchFolder}
use Rattle.warp_commands.specs.declared.status.Status.TheVariants.{PollFault, AcceptFault, Spent, OutFault}
use Rattle.warp_commands.specs.declared.status.Status.TheVariants.{CannotListen, NotReady, TurnedAway}
use Rattle.warp_commands.specs.Served.{IsAnswered, IsAnsweredFor, HoldsAt, IsUnused}
use Rattle.warp_commands.specs.Steps.{status_after}

-- a link that tells whether it has ended doesn't tell both
not_both : (ended : Option Bool) → is_some ended ≡ true → HasEnded ended → GoesOn ended → ⊥
not_both None told has goes = cc
not_both (Some e) told has goes = cc

-- a clock that wasn't asked gave nothing
gains_none : (given : Option (List ℕ)) → Gains given given []
gains_none None = tt
gains_none (Some moments) = sym (append-nil moments)

gives_none : (clock : ClockTold) → Gives [] clock clock
gives_none clock = record { gains = gains_none clock.given; stays = refl }

module _ (reply : Replying) (moments taken sent : List ℕ) (ended : Option Bool)
    (told : is_some ended ≡ true) where
  -- an end of either kind is none where the connection goes on
  pub not_clean : IsOpen taken → GoesOn ended → IsCleanEnd reply moments taken sent ended → ⊥
  not_clean goes_on goes x = elim x.over [
    | inl closed ↦ cc
    | inr y ↦ not_both ended told y.1 goes
  ]

  pub not_cut : GoesOn ended → IsCutShort reply moments taken sent ended → ⊥
  not_cut goes x = not_both ended told x.ended_there goes

  -- what is whole has no part left, and no answer that is due
  pub not_part : (rest : List ℕ) → answers_of reply taken moments ≡ sent ++ rest → 0 < length rest
      → IsWhole reply moments taken sent → ⊥
  not_part rest is some x = omega (arith, ap length is, ap length x.sent_all, length-append sent rest, some)

  pub not_broken : IsBroken reply moments taken sent → IsWhole reply moments taken sent → ⊥
  not_broken y x =
      not_part (drop y.at (sent_bytes (reply y.a).content) ++ y.behind) y.begins
      (omega (arith, y.some, length-append (drop y.at (sent_bytes (reply y.a).content)) y.behind)) x

  pub not_fewer : length moments < finals_of taken → IsWhole reply moments taken sent → ⊥
  not_fewer fewer x = omega (arith, fewer, x.answered_all)

-- a status that is neither of the two, of bytes that come to neither
neither : (status : Status) (before later : Counts) (clock after : ClockTold) (ended : Option Bool)
    (reply : Replying) (taken sent moments unsent : List ℕ)
    → status ≢ Clean → status ≢ Cut → Gives moments clock after → length moments ≤ finals_of taken
    → answers_of reply taken moments ≡ sent ++ unsent
    → (IsCleanEnd reply moments taken sent ended → ⊥) → (IsCutShort reply moments taken sent ended → ⊥)
    → HoldsAt status before later reply moments taken sent ended
    → IsAnswered status before later clock after ended reply taken sent
neither status before later clock after ended reply taken sent
    moments unsent other another gave few is no_end no_cut holds =
    record {
      moments = moments;
      given_by_clock = gave;
      no_more = few;
      unsent = unsent;
      prefix = is;
      clean = ((λ e. absurd (other e)), (λ x. absurd (no_end x)));
      cut = ((λ e. absurd (another e)), (λ x. absurd (no_cut x)));
      holds = holds;
    }

-- a command that began no connection, or one that had no memory or no root for it
abbrev pub IsUnbegun : Status → Type 0
IsUnbegun Clean = ⊥
IsUnbegun Cut = ⊥
IsUnbegun Usage = Unit {0}
IsUnbegun ReadFault = ⊥
IsUnbegun WriteFault = ⊥
IsUnbegun FileFault = Unit {0}
IsUnbegun NoMemory = Unit {0}
IsUnbegun NoSuchFolder = Unit {0}
IsUnbegun NotReady = ⊥
IsUnbegun PollFault = ⊥
IsUnbegun AcceptFault = ⊥
IsUnbegun Spent = ⊥
IsUnbegun OutFault = ⊥
IsUnbegun CannotListen = ⊥
IsUnbegun TurnedAway = ⊥

unbegun_holds : (status : Status) (counts : Counts) (reply : Replying) (moments taken sent : List ℕ)
    (ended : Option Bool)
    → IsUnbegun status → IsUnused taken sent → HoldsAt status counts counts reply moments taken sent ended
unbegun_holds Clean counts reply moments taken sent ended is x = absurd is
unbegun_holds Cut counts reply moments taken sent ended is x = absurd is
unbegun_holds Usage counts reply moments taken sent ended is x = x
unbegun_holds ReadFault counts reply moments taken sent ended is x = absurd is
unbegun_holds WriteFault counts reply moments taken sent ended is x = absurd is
unbegun_holds FileFault counts reply moments taken sent ended is x = inr x
unbegun_holds NoMemory counts reply moments taken sent ended is x = inr x
unbegun_holds NoSuchFolder counts reply moments taken sent ended is x = x
unbegun_holds NotReady counts reply moments taken sent ended is x = absurd is
unbegun_holds PollFault counts reply moments taken sent ended is x = absurd is
unbegun_holds AcceptFault counts reply moments taken sent ended is x = absurd is
unbegun_holds Spent counts reply moments taken sent ended is x = absurd is
unbegun_holds OutFault counts reply moments taken sent ended is x = absurd is
unbegun_holds CannotListen counts reply moments taken sent ended is x = absurd is
unbegun_holds TurnedAway counts reply moments taken sent ended is x = absurd is

unbegun_neither : (status : Status) → IsUnbegun status → (status ≢ Clean) × (status ≢ Cut)
unbegun_neither Clean is = absurd is
unbegun_neither Cut is = absurd is
unbegun_neither Usage is = (λ e. cc, λ e. cc)
unbegun_neither ReadFault is = absurd is
unbegun_neither WriteFault is = absurd is
unbegun_neither FileFault is = (λ e. cc, λ e. cc)
unbegun_neither NoMemory is = (λ e. cc, λ e. cc)
unbegun_neither NoSuchFolder is = (λ e. cc, λ e. cc)
unbegun_neither NotReady is = absurd is
unbegun_neither PollFault is = absurd is
unbegun_neither AcceptFault is = absurd is
unbegun_neither Spent is = absurd is
unbegun_neither OutFault is = absurd is
unbegun_neither CannotListen is = absurd is
unbegun_neither TurnedAway is = absurd is

-- a link that was not used leaves nothing to answer
untouched_told : IsOpen [] → (status : Status) (counts : Counts) (clock : ClockTold)
    (ended : Option Bool) (reply : Replying) (taken sent : List ℕ)
    → IsUnbegun status → is_some ended ≡ true → taken ≡ [] → sent ≡ [] → GoesOn ended
    → IsAnswered status counts counts clock clock ended reply taken sent
untouched_told opens status counts clock ended reply taken sent is told none_taken none_sent goes =
    let other = unbegun_neither status is in
    neither status counts counts clock clock ended reply taken sent
    [] (answers_of reply taken []) other.0 other.1 (gives_none clock) (omega arith)
    (ap (λ (v : List ℕ). v ++ answers_of reply taken []) (sym none_sent))
    (not_clean reply [] taken sent ended told (subst IsOpen (sym none_taken) opens) goes)
    (not_cut reply [] taken sent ended told goes)
    (unbegun_holds status counts reply [] taken sent ended is (none_taken, none_sent))

untouched_lists : IsOpen [] → (status : Status) (counts : Counts) (clock : ClockTold) (folder : Option Folder)
    (taken sent : Option (List ℕ)) (ended : Option Bool)
    → IsUnbegun status → is_some ended ≡ is_some taken
    → IfSome taken (λ t. t ≡ []) → IfSome sent (λ s. s ≡ []) → GoesOn ended
    → IfSome folder (λ f. IfSome taken
    (λ t. IfSome sent (λ s. IsAnswered status counts counts clock clock ended (folder_replies f) t s)))
untouched_lists opens status counts clock None taken sent ended is told no_bytes none goes = tt
untouched_lists opens status counts clock (Some r) None sent ended is told no_bytes none goes = tt
untouched_lists opens status counts clock (Some r) (Some t) None ended is told no_bytes none goes = tt
untouched_lists opens status counts clock (Some r) (Some t) (Some s) None is told no_bytes none goes = cc
untouched_lists opens status counts clock (Some r) (Some t) (Some s) (Some e) is told no_bytes none goes =
    untouched_told opens status counts clock (Some e) (folder_replies r) t s is refl no_bytes none goes

-- where no bytes close anything
pub untouched : IsOpen [] → (status : Status) (clock : ClockTold) (folder : Option Folder) (link : LinkTold)
    → IsUnbegun status → is_some link.ended ≡ is_some link.taken → IsFresh link
    → IsAnsweredFor status folder link link clock clock
untouched opens status clock folder link is told fresh =
    untouched_lists opens status link.waits clock folder link.taken link.sent link.ended is told
    fresh.nothing_taken fresh.nothing_sent fresh.not_ended

-- look by look the application comes to the reply of the folder's table
abbrev ComesToTable : Type 0
ComesToTable =
    (folder : Folder) (request : RequestText)
    → reply_to (λ r seen. folder_move r seen) folder request ≡ folder_reply folder request

-- the replies of its moves are those of the table
replies_folder : ComesToTable → (f : Folder)
    → replies (record { moves = folder_move; folder = f }) ≡ folder_replies f
unfolding replies folder_replies
replies_folder table f = fun_ext (λ a. table f (request_of a))

-- what a step says of the bytes is what a command says of them
module _ (link later : LinkTold) (clock after : ClockTold) (ended : Option Bool) (reply : Replying)
    (moments taken sent : List ℕ) (told : is_some ended ≡ true)
    (gave : Gives moments clock after) (x : SendsPrefix reply moments taken sent) where
  -- a step that is neither end
  other_end : (step : Step) → status_after step ≢ Clean → status_after step ≢ Cut
      → (IsCleanEnd reply moments taken sent ended → ⊥) → (IsCutShort reply moments taken sent ended → ⊥)
      → HoldsAt (status_after step) link.waits later.waits reply moments taken sent ended
      → IsAnswered (status_after step) link.waits later.waits clock after ended reply taken sent
  other_end step other another no_end no_cut holds =
      neither (status_after step) link.waits later.waits clock after ended reply taken sent moments
      x.rest other another gave x.counted x.begins no_end no_cut holds

  answered_after : (step : Step) → step ≢ WantFile → CountsWaits step link later
      → StepImplies step reply moments taken sent ended
      → IsAnswered (status_after step) link.waits later.waits clock after ended reply taken sent
  answered_after WantRead stops waits says =
      other_end WantRead (λ e. cc) (λ e. cc)
      (not_clean reply moments taken sent ended told says.1 says.2)
      (not_cut reply moments taken sent ended told says.2) (inl (waits, says))
  answered_after WantWrite stops waits says =
      let part = says.0 in
      other_end WantWrite (λ e. cc) (λ e. cc)
      (λ y. not_part reply moments taken sent ended told part.rest part.begins part.some y.whole)
      (not_cut reply moments taken sent ended told says.1) (inr (waits, says))
  answered_after WantFile stops waits says = absurd (stops refl)
  answered_after (Done End.Clean) stops waits says = record {
    moments = moments;
    given_by_clock = gave;
    no_more = x.counted;
    unsent = x.rest;
    prefix = x.begins;
    clean = ((λ e. says), (λ y. refl));
    cut = (
      (λ e. cc),
      (λ y. absurd (elim says.over [ inl closed ↦ let goes_on = y.goes_on in cc | inr z ↦ y.begun z.2 ])),
    );
    holds = says;
  }
  answered_after (Done End.Cut) stops waits says = record {
    moments = moments;
    given_by_clock = gave;
    no_more = x.counted;
    unsent = x.rest;
    prefix = x.begins;
    clean = (
      (λ e. cc),
      (λ y. absurd (elim y.over [ inl closed ↦ let goes_on = says.goes_on in cc | inr z ↦ says.begun z.2 ])),
    );
    cut = ((λ e. says), (λ y. refl));
    holds = says;
  }
  answered_after (Done End.ReadFault) stops waits says =
      other_end (Done End.ReadFault) (λ e. cc) (λ e. cc)
      (not_clean reply moments taken sent ended told says.1 says.2)
      (not_cut reply moments taken sent ended told says.2) says
  answered_after (Done End.WriteFault) stops waits says =
      let part = says.0 in
      other_end (Done End.WriteFault) (λ e. cc) (λ e. cc)
      (λ y. not_part reply moments taken sent ended told part.rest part.begins part.some y.whole)
      (not_cut reply moments taken sent ended told says.1) says
  answered_after (Done End.FileFault) stops waits says =
      other_end (Done End.FileFault) (λ e. cc) (λ e. cc)
      (λ y. elim says.0 [
        | inl short ↦ not_fewer reply moments taken sent ended told short.fewer y.whole
        | inr part ↦ not_broken reply moments taken sent ended told part y.whole
      ])
      (not_cut reply moments taken sent ended told says.1) (inl says)
  answered_after (Done End.NoMemory) stops waits says =
      other_end (Done End.NoMemory) (λ e. cc) (λ e. cc)
      (λ y. not_fewer reply moments taken sent ended told says.0.fewer y.whole)
      (not_cut reply moments taken sent ended told says.1) (inl says)

answered_lists : ComesToTable
    → (step : Step) (link later : LinkTold) (clock after : ClockTold) (folder : Option Folder)
    (moments : List ℕ) (taken sent : Option (List ℕ)) (ended : Option Bool)
    → step ≢ WantFile → is_some ended ≡ is_some taken → Gives moments clock after
    → CountsWaits step link later
    → IfSome (serving_over folder_move folder)
    (λ v. IfSome taken (λ t. IfSome sent (λ s. SendsPrefix (replies v) moments t s)))
    → IfSome (serving_over folder_move folder)
    (λ v. IfSome taken (λ t. IfSome sent (λ s. StepImplies step (replies v) moments t s ended)))
    → IfSome folder (λ f. IfSome taken (λ t. IfSome sent
    (λ s. IsAnswered (status_after step) link.waits later.waits clock after ended (folder_replies f) t s)))
answered_lists table step link later clock after None moments taken sent ended stops told gave waits x says =
    tt
answered_lists table step link later clock after (Some f)
    moments None sent ended stops told gave waits x says =
    tt
answered_lists table step link later clock after (Some f)
    moments (Some t) None ended stops told gave waits x says =
    tt
answered_lists table step link later clock after (Some f)
    moments (Some t) (Some s) None stops told gave waits x says =
    cc
answered_lists table step link later clock after (Some f) moments (Some t) (Some s) (Some e)
    stops told gave waits x says =
    subst (λ (r : Replying). IsAnswered (status_after step) link.waits later.waits clock after (Some e) r t s)
    (replies_folder table f)
    (answered_after link later clock after (Some e)
    (replies (record { moves = folder_move; folder = f })) moments t s refl gave x step stops waits says)

pub answered : ComesToTable
    → (step : Step) (link later : LinkTold) (clock after : ClockTold) (folder : Option Folder)
    (conn : ConnState)
    → step ≢ WantFile → is_some later.ended ≡ is_some later.taken → Gives conn.moments clock after
    → CountsWaits step link later
    → SendsPrefixFor (serving_over folder_move folder) conn later
    → StepImpliesFor step (serving_over folder_move folder) conn later
    → IsAnsweredFor (status_after step) folder link later clock after
answered table step link later clock after folder conn stops told gave waits x says =
    answered_lists table step link later clock after folder conn.moments later.taken later.sent
    later.ended stops told gave waits x says
