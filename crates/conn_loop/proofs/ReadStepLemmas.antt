-- What a read makes of what a connection stands for.
use Rattle.std.proofs.Common.{◌≡◌, ◌≢◌, ℕ, ◌+◌, ◌<◌, Bool, true, false, ◌||◌, List, [], ◌++◌, length, Option}
use Rattle.std.proofs.Common.{Some, None, IfSome, option_map, inr, refl, sym, ap, ◌∙◌, subst, arith}
use Rattle.std.proofs.Common.{append-nil}
use Rattle.std.specs.Prelude.{min}
use Rattle.std.proofs.lemmas.List.{nil_from_length}
use Rattle.outside.specs.Causes.{LinkTold, ReadWaits, is_end}
use Rattle.outside.specs.declared.link.ReadOut.{ReadOut}
use Rattle.outside.specs.declared.link.ReadOut.TheVariants as Reads
use Rattle.outside.specs.Counts.{Counts, full}
use Rattle.warp_request.specs.Next.{next_of}
use Rattle.warp_request.specs.Lines.{skip_empty}
use Rattle.conn_loop.specs.declared.step.Step.{Step}
use Rattle.conn_loop.specs.declared.step.Step.TheVariants.{WantRead, WantWrite, WantFile, Done}
use Rattle.conn_loop.specs.declared.step.End.TheVariants.{Clean, Cut, ReadFault, WriteFault, FileFault}
use Rattle.conn_loop.specs.declared.step.End.TheVariants.{NoMemory}
use Rattle.conn_loop.specs.Ends.{StepImplies, GoesOn, HasEnded}
use Rattle.conn_loop.specs.Stages.{Stage, unread, short, reading, refusing, ready, wanting, sending, unmade}
use Rattle.conn_loop.specs.Stages.{broken, finished, grown, LiesAhead, IsBetween, IsWanting}
use Rattle.conn_loop.proofs.WritingLemmas.{one_more}
use Rattle.conn_loop.specs.Moves.{Takes, HasSome, got_len, waits_read}
use Rattle.conn_loop.specs.Replying.{Serving, replies}
use Rattle.conn_loop.specs.ConnState.{ConnState, Accounts, Counted, HoldsAt}
use Rattle.conn_loop.specs.Steps.{Comes, ComesFor, stage_after}
use Rattle.conn_loop.proofs.AccountLemmas.{accounts_take, accounts_lies}
use Rattle.conn_loop.proofs.AccountImpliesLemmas.{whole_wanting, open_of, rest_is}
use Rattle.conn_loop.proofs.VerdictLemmas.{asked_some}
use Rattle.conn_loop.proofs.ToldLemmas.{told_taken}

-- ---- reading

goes_kept : (old new : Option Bool) → new ≡ option_map (λ e. e || false) old → GoesOn old → GoesOn new
goes_kept None None is x = tt
goes_kept None (Some new) is x = cc
goes_kept (Some old) None is x = cc
goes_kept (Some true) (Some new) is x = cc
goes_kept (Some false) (Some new) is x = cc

ended_now : (old new : Option Bool) → new ≡ option_map (λ e. e || true) old → HasEnded new
ended_now None None is = tt
ended_now None (Some new) is = cc
ended_now (Some old) None is = cc
ended_now (Some true) (Some new) is = cc
ended_now (Some false) (Some new) is = cc

-- what a read that gave no bytes leaves
abbrev Unread : ReadOut → ConnState → ConnState → Type 0
Unread out old new = new ≡ record old { waits = waits_read out old.waits }

stage_stays : (out : ReadOut) (stage : Stage) → got_len out ≡ 0
    → HasSome out [] → stage_after out stage ≡ stage
stage_stays (Reads.Got n) stage none some = absurd (omega (arith, some))
stage_stays Reads.End stage none some = refl
stage_stays Reads.NotYet stage none some = refl
stage_stays Reads.Failed stage none some = refl

-- where no bytes came, the input is as it was
pub taken_same : (out : ReadOut) (old new : List ℕ) (k l : LinkTold) → Takes out old new k l
    → got_len out ≡ 0 → new ≡ old
taken_same out old new k l takes none =
    takes.grown ∙ ap (λ (p : List ℕ). old ++ p) (nil_from_length takes.piece (takes.long ∙ none))
    ∙ append-nil old

-- where no bytes came, nothing is changed but the count of waits
nothing_read : (out : ReadOut) (old new : ConnState) (k l : LinkTold) → Takes out old.input new.input k l
    → new
    ≡ record old { input = new.input; stage = stage_after out old.stage; waits = waits_read out old.waits }
    → got_len out ≡ 0 → Unread out old new
nothing_read out old new k l takes same none =
    let empty : takes.piece ≡ [] = nil_from_length takes.piece (takes.long ∙ none) in
    let input : new.input ≡ old.input =
    takes.grown ∙ ap (λ (p : List ℕ). old.input ++ p) empty ∙ append-nil old.input in
    let stage : stage_after out old.stage ≡ old.stage =
    stage_stays out old.stage none (subst (λ (v : List ℕ). HasSome out v) empty takes.some) in
    same ∙ (λ i. record old { input = input i; stage = stage i; waits = waits_read out old.waits })

taken_none : (out : ReadOut) (serving : Serving) (old new : ConnState) (t s : List ℕ) (k l : LinkTold)
    (takes : Takes out old.input new.input k l)
    → new
    ≡ record old { input = new.input; stage = stage_after out old.stage; waits = waits_read out old.waits }
    → got_len out ≡ 0 → Accounts serving old t s
    → Accounts serving new (t ++ takes.piece) s
taken_none out serving old new t s k l takes same none x =
    let empty : takes.piece ≡ [] = nil_from_length takes.piece (takes.long ∙ none) in
    let stays : Unread out old new = nothing_read out old new k l takes same none in
    subst (λ (v : List ℕ). Accounts serving new v s)
    (sym (append-nil t) ∙ ap (λ (v : List ℕ). t ++ v) (sym empty))
    (subst (λ (c : ConnState). Accounts serving c t s) (sym stays)
    (accounts_lies serving old
    (record old { waits = waits_read out old.waits }) t s refl refl refl x x.lies x.looks))

taken_accounts : (out : ReadOut) (serving : Serving) (old new : ConnState) (t s : List ℕ)
    (k l : LinkTold) (takes : Takes out old.input new.input k l)
    → new
    ≡ record old { input = new.input; stage = stage_after out old.stage; waits = waits_read out old.waits }
    → Accounts serving old t s
    → Accounts serving new (t ++ takes.piece) s
taken_accounts (Reads.Got n) serving old new t s k l takes same x =
    let is : new
    ≡ record old { input = old.input ++ takes.piece; stage = grown old.stage; waits = old.waits } =
    same
    ∙ ap (λ (v : List ℕ). record old { input = v; stage = grown old.stage; waits = old.waits }) takes.grown in
    subst (λ (c : ConnState). Accounts serving c (t ++ takes.piece) s) (sym is)
    (accounts_take serving old t s takes.piece old.waits x)
taken_accounts Reads.End serving old new t s k l takes same x =
    taken_none Reads.End serving old new t s k l takes same refl x
taken_accounts Reads.NotYet serving old new t s k l takes same x =
    taken_none Reads.NotYet serving old new t s k l takes same refl x
taken_accounts Reads.Failed serving old new t s k l takes same x =
    taken_none Reads.Failed serving old new t s k l takes same refl x

-- a read that leaves the connection at this result
fill_for : (result : Option Step) (out : ReadOut) (serving : Option Serving) (old new : ConnState)
    (link later : LinkTold)
    → Takes out old.input new.input link later → new
    ≡ record old { input = new.input; stage = stage_after out old.stage; waits = waits_read out old.waits }
    → ((r : Serving) (t s : List ℕ) → Accounts r new t s → GoesOn link.ended
    → HoldsAt result r new.moments t s later.ended)
    → ComesFor None serving old link → ComesFor result serving new later
fill_for result out serving old new link later takes same at x =
    told_taken (λ r t s. Comes None r old t s link.ended)
    (λ r t s. Comes result r new t s later.ended) serving link later takes.piece takes.read.takes
    (ap (λ (v : LinkTold). v.sent) takes.read.same)
    (λ r t s y.
    let accounts : Accounts r new (t ++ takes.piece) s =
    taken_accounts out r old new t s link later takes same y.accounts in
    record { accounts = accounts; at = at r (t ++ takes.piece) s accounts y.at }) x

-- bytes came
pub got_for : (n : ℕ) (serving : Option Serving) (old new : ConnState) (link later : LinkTold)
    → Takes (Reads.Got n) old.input new.input link later
    → new ≡ record old {
      input = new.input;
      stage = stage_after (Reads.Got n) old.stage;
      waits = waits_read (Reads.Got n) old.waits;
    }
    → ComesFor None serving old link → ComesFor None serving new later
got_for n serving old new link later takes same x =
    fill_for None (Reads.Got n) serving old new link later takes same
    (λ r t s y goes. goes_kept link.ended later.ended takes.read.ends goes) x

-- all is written, and more bytes are wanted
pub record IsIdle (c : ConnState) : Type 0 where
  pub empty : c.pending ≡ []
  pub some : 0 < c.left
  pub wants : IsWanting c.stage c.input

-- once all is written
pub idle_of : (old new : ConnState)
    → new ≡ record old { pending = new.pending; bytes = new.bytes; waits = new.waits }
    → new.pending ≡ [] → 0 < old.left
    → IsWanting old.stage old.input → IsIdle new
idle_of old new same empty some wants = record {
  empty = empty;
  some = subst (λ (n : ℕ). 0 < n) (sym (ap (λ (c : ConnState). c.left) same)) some;
  wants = subst (λ (c : ConnState). IsWanting c.stage c.input) (sym same) wants;
}

-- the bytes ahead are no empty lines only, where the input isn't or a body is read
begun_not : (stage : Stage) (given : Bool) (input ahead : List ℕ) → IsWanting stage input
    → LiesAhead stage given input ahead
    → ¬ (IsBetween stage × (skip_empty input ≡ [])) → skip_empty ahead ≢ []
begun_not unread given input ahead wants x other = absurd wants
begun_not short given input ahead wants x other =
    λ blank. other (tt, ap (λ (v : List ℕ). skip_empty v) (sym x.1) ∙ blank)
begun_not (reading a reader room) given input ahead wants x other =
    asked_some ahead a (ap (λ (v : List ℕ). next_of v) (sym (append-nil ahead)) ∙ x.1.asks [])
begun_not (refusing code) given input ahead wants x other = absurd wants
begun_not (ready a behind seen path) given input ahead wants x other = absurd wants
begun_not (wanting a behind seen path) given input ahead wants x other = absurd wants
begun_not (sending at size) given input ahead wants x other = absurd wants
begun_not (unmade end) given input ahead wants x other = absurd wants
begun_not (broken at) given input ahead wants x other = absurd wants
begun_not finished given input ahead wants x other = absurd wants

blank_ahead : (stage : Stage) (given : Bool) (input ahead : List ℕ) → IsWanting stage input
    → LiesAhead stage given input ahead → IsBetween stage → skip_empty input ≡ []
    → skip_empty ahead ≡ []
blank_ahead unread given input ahead wants x between blank = absurd wants
blank_ahead short given input ahead wants x between blank = ap (λ (v : List ℕ). skip_empty v) x.1 ∙ blank
blank_ahead (reading a reader room) given input ahead wants x between blank = absurd between
blank_ahead (refusing code) given input ahead wants x between blank = absurd wants
blank_ahead (ready a behind seen path) given input ahead wants x between blank = absurd wants
blank_ahead (wanting a behind seen path) given input ahead wants x between blank = absurd wants
blank_ahead (sending at size) given input ahead wants x between blank = absurd wants
blank_ahead (unmade end) given input ahead wants x between blank = absurd wants
blank_ahead (broken at) given input ahead wants x between blank = absurd wants
blank_ahead finished given input ahead wants x between blank = absurd wants

-- how a read without bytes leaves an idle connection
abbrev pub IsStop : Step → ReadOut → ConnState → Type 0
IsStop WantRead out c = out ≡ Reads.NotYet
IsStop (Done ReadFault) out c = out ≡ Reads.Failed
IsStop (Done Clean) out c = (out ≡ Reads.End) × IsBetween c.stage × (skip_empty c.input ≡ [])
IsStop (Done Cut) out c = (out ≡ Reads.End) × ¬ (IsBetween c.stage × (skip_empty c.input ≡ []))
IsStop (Done WriteFault) out c = ⊥
IsStop (Done FileFault) out c = ⊥
IsStop (Done NoMemory) out c = ⊥
IsStop WantWrite out c = ⊥
IsStop WantFile out c = ⊥

stop_len : (step : Step) (out : ReadOut) (c : ConnState) → IsStop step out c → got_len out ≡ 0
stop_len WantRead out c is = rw is refl
stop_len (Done ReadFault) out c is = rw is refl
stop_len (Done Clean) out c is = rw is.0 refl
stop_len (Done Cut) out c is = rw is.0 refl
stop_len (Done WriteFault) out c is = absurd is
stop_len (Done FileFault) out c is = absurd is
stop_len (Done NoMemory) out c is = absurd is
stop_len WantWrite out c is = absurd is
stop_len WantFile out c is = absurd is

at_stop : (step : Step) (out : ReadOut) (serving : Serving)
    (c : ConnState) (t s : List ℕ) (ended now : Option Bool)
    → IsStop step out c → IsIdle c
    → now ≡ option_map (λ e. e || is_end out) ended → Accounts serving c t s → GoesOn ended
    → StepImplies step (replies serving) c.moments t s now
at_stop WantRead out serving c t s ended now is idle ends x goes = (
  whole_wanting serving c t s idle.empty idle.wants x,
  open_of serving c t s idle.some idle.wants x,
  goes_kept ended now (rw is at ends) goes,
)
at_stop (Done ReadFault) out serving c t s ended now is idle ends x goes = (
  whole_wanting serving c t s idle.empty idle.wants x,
  open_of serving c t s idle.some idle.wants x,
  goes_kept ended now (rw is at ends) goes,
)
at_stop (Done Clean) out serving c t s ended now is idle ends x goes = record {
  whole = whole_wanting serving c t s idle.empty idle.wants x;
  over = inr (
    open_of serving c t s idle.some idle.wants x,
    ended_now ended now (rw is.0 at ends),
    ap (λ (v : List ℕ). skip_empty v) (rest_is serving c t s x idle.wants)
        ∙ blank_ahead c.stage x.given c.input x.ahead idle.wants x.lies is.1 is.2,
  );
}
at_stop (Done Cut) out serving c t s ended now is idle ends x goes = record {
  whole = whole_wanting serving c t s idle.empty idle.wants x;
  goes_on = open_of serving c t s idle.some idle.wants x;
  ended_there = ended_now ended now (rw is.0 at ends);
  begun =
      λ blank. begun_not c.stage x.given c.input x.ahead idle.wants x.lies is.1
      (ap (λ (v : List ℕ). skip_empty v) (sym (rest_is serving c t s x idle.wants)) ∙ blank);
}
at_stop (Done WriteFault) out serving c t s ended now is idle ends x goes = absurd is
at_stop (Done FileFault) out serving c t s ended now is idle ends x goes = absurd is
at_stop (Done NoMemory) out serving c t s ended now is idle ends x goes = absurd is
at_stop WantWrite out serving c t s ended now is idle ends x goes = absurd is
at_stop WantFile out serving c t s ended now is idle ends x goes = absurd is

-- no bytes came
pub stop_for : (step : Step) (out : ReadOut) (serving : Option Serving) (old new : ConnState)
    (link later : LinkTold)
    → IsStop step out new → IsIdle old → Takes out old.input new.input link later
    → new
    ≡ record old { input = new.input; stage = stage_after out old.stage; waits = waits_read out old.waits }
    → ComesFor None serving old link → ComesFor (Some step) serving new later
stop_for step out serving old new link later is idle takes same x =
    let stays : Unread out old new =
    nothing_read out old new link later takes same (stop_len step out new is) in
    let idle_now : IsIdle new =
    subst IsIdle (sym stays) (record { empty = idle.empty; some = idle.some; wants = idle.wants }) in
    fill_for (Some step) out serving old new link later takes same
    (λ r t s y goes. at_stop step out r new t s link.ended later.ended is idle_now takes.read.ends y goes) x

-- ---- counts

waits_kept : (out : ReadOut) (old new : Counts) (was : ℕ) → ReadWaits out old new
    → was ≡ min (old.reads + old.writes) full
    → waits_read out was ≡ min (new.reads + new.writes) full
waits_kept (Reads.Got n) old new was counts x = rw counts x
waits_kept Reads.End old new was counts x = rw counts x
waits_kept Reads.NotYet old new was counts x =
    omega
    (arith, one_more old.writes old.reads new.writes new.reads was (counts.0, counts.1) (omega (arith, x)))
waits_kept Reads.Failed old new was counts x = rw counts x

-- the counts of a connection go on being its link's
pub takes_counted : (out : ReadOut) (old new : ConnState) (link later : LinkTold)
    → Takes out old.input new.input link later
    → new
    ≡ record old { input = new.input; stage = stage_after out old.stage; waits = waits_read out old.waits }
    → Counted old link → Counted new later
takes_counted out old new link later takes same c =
    subst (λ (v : ConnState). Counted v later) (sym same) (record {
      waits = waits_kept out link.waits later.waits old.waits takes.read.waited c.waits;
      bytes =
          subst (λ (v : Option (List ℕ)). IfSome v (λ s. old.bytes ≡ min (length s) full))
          (sym (ap (λ (v : LinkTold). v.sent) takes.read.same)) c.bytes;
    })
