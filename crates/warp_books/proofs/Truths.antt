-- What makes a finished connection true to its link.
use Rattle.std.proofs.Common.{◌≡◌, ℕ, ◌+◌, ◌≤◌, min, List, [], ◌++◌, length, refl, sym, ap, ◌∙◌, arith}
use Rattle.std.specs.Prelude.{Option, Some, None, IfSome}
use Rattle.reg_keys.specs.declared.opening.Opening.{Opening}
use Rattle.outside.specs.Causes.{LinkTold, IsFresh}
use Rattle.outside.specs.Counts.{Counts, nothing_counted}
use Rattle.outside.specs.FileCauses.{FilesTold}
use Rattle.outside.specs.Folder.{Folder}
use Rattle.conn_loop.specs.declared.step.End.{End}
use Rattle.conn_loop.specs.declared.step.End.TheVariants.{Clean, Cut, ReadFault, WriteFault, FileFault}
use Rattle.conn_loop.specs.declared.step.End.TheVariants.{NoMemory}
use Rattle.conn_loop.specs.declared.step.Step.TheVariants.{Done}
use Rattle.conn_loop.specs.Causes.{HasFault}
use Rattle.conn_loop.specs.Answers.{answers_of}
use Rattle.conn_loop.specs.Ends.{SendsPrefix}
use Rattle.conn_loop.specs.Replying.{Serving, replies}
use Rattle.conn_loop.specs.ConnState.{ConnState, Counted, SendsPrefixFor, StepImpliesFor, at_first}
use Rattle.warp_books.specs.declared.finish.Finish.{Finish}
use Rattle.warp_books.specs.declared.finish.Finish.TheVariants.{Ended, TimedOut, TurnedAway}
use Rattle.warp_books.specs.Truth.{IsTrueEnd, IsTrueTo, IsGivenUp, finished_of, folder_serving}
use Rattle.warp_books.specs.Books.{capped}

-- a count that rose isn't zero
rose : (a b : ℕ) → min (a + 1) 18446744073709551615 ≤ b → 1 ≤ b
rose a b h = omega (arith, h)

true_end : (folder : Option Folder) (c : ConnState) (end : End) (was : Option End)
    (before link : LinkTold) (files since : FilesTold)
    → StepImpliesFor (Done end) (folder_serving folder) c link
    → HasFault (Done end) was before link files since
    → IsTrueEnd (folder_serving folder) (Ended end) c.moments link
true_end folder c Clean was before link files since s h = s
true_end folder c Cut was before link files since s h = s
true_end folder c ReadFault was before link files since s h = rose before.faults.reads link.faults.reads h
true_end folder c WriteFault was before link files since s h = rose before.faults.writes link.faults.writes h
true_end folder c FileFault was before link files since s h = tt
true_end folder c NoMemory was before link files since s h = tt

given_up : (folder : Option Folder) (moments : List ℕ) (end : Finish) (link : LinkTold)
    → IsGivenUp end → IsTrueEnd (folder_serving folder) end moments link
given_up folder moments (Ended Clean) link g = absurd g
given_up folder moments (Ended Cut) link g = absurd g
given_up folder moments (Ended ReadFault) link g = absurd g
given_up folder moments (Ended WriteFault) link g = absurd g
given_up folder moments (Ended FileFault) link g = tt
given_up folder moments (Ended NoMemory) link g = tt
given_up folder moments TimedOut link g = tt
given_up folder moments (TurnedAway cause) link g = tt

pub is_true : (o : Opening) (folder : Option Folder) (c : ConnState) (end : Finish) (link : LinkTold)
    → SendsPrefixFor (folder_serving folder) c link → Counted c link
    → IsTrueEnd (folder_serving folder) end c.moments link
    → IsTrueTo (folder_serving folder) (finished_of o link c end)
is_true o folder c end link p n e = record { prefix = p; ends_so = e; bytes = n.bytes; waits = n.waits }

pub ended_is_true : (o : Opening) (folder : Option Folder) (c : ConnState) (end : End) (was : Option End)
    (before link : LinkTold) (files since : FilesTold) → SendsPrefixFor (folder_serving folder) c link
    → StepImpliesFor (Done end) (folder_serving folder) c link
    → HasFault (Done end) was before link files since
    → Counted c link → IsTrueTo (folder_serving folder) (finished_of o link c (Ended end))
ended_is_true o folder c end was before link files since p s h n =
    is_true o folder c (Ended end) link p n (true_end folder c end was before link files since s h)

pub given_up_is_true : (o : Opening) (folder : Option Folder) (c : ConnState) (end : Finish) (link : LinkTold)
    → SendsPrefixFor (folder_serving folder) c link → Counted c link → IsGivenUp end
    → IsTrueTo (folder_serving folder) (finished_of o link c end)
given_up_is_true o folder c end link p n g =
    is_true o folder c end link p n (given_up folder c.moments end link g)

nothing_sent : (serving : Option Serving) (taken sent : Option (List ℕ)) → IfSome sent (λ b. b ≡ [])
    → IfSome serving (λ v. IfSome taken (λ t. IfSome sent (λ s. SendsPrefix (replies v) [] t s)))
nothing_sent None taken sent e = tt
nothing_sent (Some v) None sent e = tt
nothing_sent (Some v) (Some t) None e = tt
nothing_sent (Some v) (Some t) (Some s) e = record {
  rest = answers_of (replies v) t [];
  begins = sym (ap (λ (x : List ℕ). x ++ answers_of (replies v) t []) e);
  counted = omega arith;
}

no_bytes : (sent : Option (List ℕ)) → IfSome sent (λ b. b ≡ []) → IfSome sent (λ s. 0 ≡ capped (length s))
no_bytes None e = tt
no_bytes (Some s) e = let l = ap length e in omega (arith, l)

pub unserved_is_true : (o : Opening) (folder : Option Folder) (end : Finish) (link : LinkTold) → IsFresh link
    → link.waits ≡ nothing_counted → IsGivenUp end
    → IsTrueTo (folder_serving folder) (finished_of o link at_first end)
unserved_is_true o folder end link f w g = record {
  prefix = nothing_sent (folder_serving folder) link.taken link.sent f.nothing_sent;
  ends_so = given_up folder [] end link g;
  bytes = no_bytes link.sent f.nothing_sent;
  waits =
      let r = ap (λ (x : Counts). x.reads) w in
      let s = ap (λ (x : Counts). x.writes) w in
      omega (arith, r, s);
}
