-- To be believed: a text begins with a request head, may become one, or never will; which
-- it is is a function of the text.
use Rattle.std.proofs.Common.{ℕ, List}
use Rattle.httparse.specs.Grammar.{RequestHead, ReadsRequest, HasNoRequest, MayBecomeRequest, NeverHasRequest}
use Rattle.httparse.specs.Pieces.{Then, RequestStart, Section}
use Rattle.httparse.proofs.PieceLemmas.{RequestStart_deterministic}
use Rattle.httparse.proofs.OpenLemmas.{Completes_next, request_may, request_may_from_line}
use Rattle.httparse.proofs.GrammarLemmas.{request_head, request_from_pieces}
use Rattle.httparse.proofs.HeadLemmas.{request_not_yet, request_never}
use Rattle.warp_request.specs.Decide.{Decision, found, cut, never, decide_then, decide_start, decide_section}

-- a text begins with a head, may become one with more bytes, or never will; where its first line
-- has ended, no two of these hold
pub data Beginning (s : List ℕ) : Type 0 where
  whole : (head : RequestHead) (rest : List ℕ) → ReadsRequest s head rest → Beginning s
  unfinished : HasNoRequest s → MayBecomeRequest s → Beginning s
  invalid : NeverHasRequest s → Beginning s

-- what the decision on the pieces of the grammar says of the whole
beginning_of : (s : List ℕ) → Decision (Then RequestStart Section) MayBecomeRequest s → Beginning s
beginning_of s (found t rest x) = whole (request_head t) rest (request_from_pieces s t rest x)
beginning_of s (cut nay may) = unfinished (request_not_yet nay) may
beginning_of s (never nay) = invalid (request_never nay)

-- one of the three holds of every text; what this function answers is trusted by its type
pub beginning : (s : List ℕ) → Beginning s
beginning s = beginning_of s
    (decide_then RequestStart_deterministic s request_may_from_line
    (λ a t x may. request_may (Completes_next RequestStart_deterministic {a = a} x may))
    (decide_start s) decide_section)
