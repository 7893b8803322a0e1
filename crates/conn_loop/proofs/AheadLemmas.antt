-- What the bytes ahead begin with, stage by stage, and what is due to them.
use Rattle.std.proofs.Common.{◌≡◌, ℕ, ◌+◌, ◌<◌, Bool, true, false, List, [], ◌++◌, length, take, drop, Option}
use Rattle.std.proofs.Common.{refl, sym, ap, ◌∙◌, arith, append_assoc, append-nil, length-append, length-take}
use Rattle.std.proofs.Math.Seq.{drop-append_seam}
use Rattle.std.proofs.lemmas.List.{drop_all, drop-append-le, take-append-le}
use Rattle.outside.specs.Folder.{Folder}
use Rattle.warp_request.specs.Body.{body_of}
use Rattle.warp_request.specs.Body as body
use Rattle.warp_request.specs.Next.{next_of}
use Rattle.warp_request.specs.Verdict.{more, Asked}
use Rattle.warp_request.specs.declared.body_reader.BodyReader.{BodyReader}
use Rattle.conn_loop.specs.Answers.{answers_within, answers_behind, finals_within}
use Rattle.conn_loop.specs.Replying.{Serving, replies}
use Rattle.conn_loop.specs.Stages.{Stage, unread, short, reading, refusing, ready, wanting, sending, unmade}
use Rattle.conn_loop.specs.Stages.{broken, finished, answers_left, grown, unread_at, HasNoContent, HasWhole}
use Rattle.conn_loop.specs.Stages.{LiesAhead, IsReading, IsReady, IsWanting}
use Rattle.conn_loop.specs.ConnState.{Looks}
use Rattle.conn_loop.specs.FirstRequest.{first_request, unfinished, whole, interim_of}
use Rattle.conn_loop.proofs.AnswerLemmas.{within_done, behind_done, within_behind, behind_unfinished}
use Rattle.conn_loop.proofs.AnswerLemmas.{behind_whole, finals_some, first_request_asked, first_request_more}
use Rattle.conn_loop.proofs.AnswerLemmas.{interim_is}

reading_take : (a : Asked) (reader : BodyReader) (input ahead piece : List ℕ) → IsReading a reader input ahead
    → IsReading a reader (input ++ piece) (ahead ++ piece)
reading_take a reader input ahead piece x = record {
  fed = x.fed;
  parts =
      ap (λ (v : List ℕ). v ++ piece) x.parts
      ∙ append_assoc (take a.len input) (x.fed ++ drop a.len input) piece
      ∙ ap (λ (v : List ℕ). take a.len input ++ v) (append_assoc x.fed (drop a.len input) piece)
      ∙ ap (λ (v : List ℕ). v ++ (x.fed ++ (drop a.len input ++ piece)))
      (sym (take-append-le a.len input piece x.inside))
      ∙ ap (λ (v : List ℕ). take a.len (input ++ piece) ++ (x.fed ++ v))
      (sym (drop-append-le a.len input piece x.inside));
  inside = omega (arith, x.inside, length-append input piece);
  stands = x.stands;
  goes_on = x.goes_on;
  asks = λ t. ap (λ (v : List ℕ). next_of v) (append_assoc ahead piece t) ∙ x.asks (piece ++ t);
}

ready_take : (a : Asked) (behind : ℕ) (input ahead piece : List ℕ) → IsReady a behind input ahead
    → IsReady a behind (input ++ piece) (ahead ++ piece)
ready_take a behind input ahead piece x = record {
  len = x.len;
  inside = omega (arith, x.inside, length-append input piece);
  fits = omega (arith, x.fits, length-append ahead piece);
  rest =
      drop-append-le x.len ahead piece x.fits ∙ ap (λ (v : List ℕ). v ++ piece) x.rest
      ∙ sym (drop-append-le (a.len + behind) input piece x.inside);
  is_whole = λ t. ap (λ (v : List ℕ). first_request v) (append_assoc ahead piece t) ∙ x.is_whole (piece ++ t);
}

-- a piece was read after them
pub lies_take : (stage : Stage) (given : Bool) (input ahead piece : List ℕ)
    → LiesAhead stage given input ahead
    → LiesAhead (grown stage) given (input ++ piece) (ahead ++ piece)
lies_take unread given input ahead piece x = (x.0, ap (λ (v : List ℕ). v ++ piece) x.1)
lies_take short given input ahead piece x = (x.0, ap (λ (v : List ℕ). v ++ piece) x.1)
lies_take (reading a reader room) given input ahead piece x =
    (x.0, reading_take a reader input ahead piece x.1)
lies_take (refusing code) given input ahead piece x =
    (x.0, λ t. ap (λ (v : List ℕ). first_request v) (append_assoc ahead piece t) ∙ x.1 (piece ++ t))
lies_take (ready a behind seen path) given input ahead piece x =
    (x.0, ready_take a behind input ahead piece x.1)
lies_take (wanting a behind seen path) given input ahead piece x =
    (x.0, ready_take a behind input ahead piece x.1)
lies_take (sending at size) given input ahead piece x = (x.0, ap (λ (v : List ℕ). v ++ piece) x.1)
lies_take (unmade end) given input ahead piece x = (
  x.0,
  record {
    a = x.1.a;
    len = x.1.len;
    is_whole =
        λ t. ap (λ (v : List ℕ). first_request v) (append_assoc ahead piece t) ∙ x.1.is_whole (piece ++ t);
  },
)
lies_take (broken at) given input ahead piece x = (x.0, ap (λ (v : List ℕ). v ++ piece) x.1)
lies_take finished given input ahead piece x = tt

pub looks_take : (serving : Serving) (stage : Stage) (lease : Option (List ℕ)) → Looks serving stage lease
    → Looks serving (grown stage) lease
looks_take serving unread lease x = x
looks_take serving short lease x = x
looks_take serving (reading a reader room) lease x = x
looks_take serving (refusing code) lease x = x
looks_take serving (ready a behind seen path) lease x = x
looks_take serving (wanting a behind seen path) lease x = x
looks_take serving (sending at size) lease x = x
looks_take serving (unmade end) lease x = x
looks_take serving (broken at) lease x = x
looks_take serving finished lease x = x

pub unread_take : (stage : Stage) (folder : Folder) (lease : Option (List ℕ))
    → unread_at stage folder lease ≡ unread_at (grown stage) folder lease
unread_take unread folder lease = refl
unread_take short folder lease = refl
unread_take (reading a reader room) folder lease = refl
unread_take (refusing code) folder lease = refl
unread_take (ready a behind seen path) folder lease = refl
unread_take (wanting a behind seen path) folder lease = refl
unread_take (sending at size) folder lease = refl
unread_take (unmade end) folder lease = refl
unread_take (broken at) folder lease = refl
unread_take finished folder lease = refl

-- no content is left where none is sent
pub unread_none : (stage : Stage) (folder : Folder) (lease : Option (List ℕ)) → HasNoContent stage
    → unread_at stage folder lease ≡ []
unread_none unread folder lease x = refl
unread_none short folder lease x = refl
unread_none (reading a reader room) folder lease x = refl
unread_none (refusing code) folder lease x = refl
unread_none (ready a behind seen path) folder lease x = refl
unread_none (wanting a behind seen path) folder lease x = refl
unread_none (sending at size) folder lease x = absurd x
unread_none (unmade end) folder lease x = refl
unread_none (broken at) folder lease x = absurd x
unread_none finished folder lease x = refl

-- none is sent where more input is wanted
pub wanting_content : (stage : Stage) (input : List ℕ) → IsWanting stage input → HasNoContent stage
wanting_content unread input x = absurd x
wanting_content short input x = tt
wanting_content (reading a reader room) input x = tt
wanting_content (refusing code) input x = absurd x
wanting_content (ready a behind seen path) input x = absurd x
wanting_content (wanting a behind seen path) input x = absurd x
wanting_content (sending at size) input x = absurd x
wanting_content (unmade end) input x = absurd x
wanting_content (broken at) input x = absurd x
wanting_content finished input x = absurd x

-- a body that isn't whole leaves its request so
reading_first_request : (a : Asked) (reader : BodyReader) (input ahead : List ℕ)
    → IsReading a reader input ahead → length input ≡ a.len → first_request ahead ≡ unfinished
reading_first_request a reader input ahead x up =
    let none : drop a.len input ≡ [] = drop_all a.len input (omega (arith, up)) in
    let size : length (take a.len input) ≡ a.len = omega (arith, length-take a.len input, x.inside) in
    let behind : drop a.len ahead ≡ x.fed =
    ap (λ (v : List ℕ). drop a.len v) (x.parts ∙ ap (λ (v : List ℕ). take a.len input ++ (x.fed ++ v)) none
    ∙ ap (λ (v : List ℕ). take a.len input ++ v) (append-nil x.fed))
    ∙ ap (λ (n : ℕ). drop n (take a.len input ++ x.fed)) (sym size)
    ∙ drop-append_seam (take a.len input) x.fed in
    first_request_asked ahead a body.more
    (ap (λ (v : List ℕ). next_of v) (sym (append-nil ahead)) ∙ x.asks [])
    (ap (λ (v : List ℕ). body_of a.framing v) behind ∙ x.goes_on)

-- where more is wanted, the bytes ahead begin with no whole request
pub wanting_first_request : (stage : Stage) (given : Bool) (input ahead : List ℕ)
    → LiesAhead stage given input ahead → IsWanting stage input → first_request ahead ≡ unfinished
wanting_first_request unread given input ahead x wants = absurd wants
wanting_first_request short given input ahead x wants =
    ap (λ (v : List ℕ). first_request v) x.1 ∙ first_request_more input x.2
wanting_first_request (reading a reader room) given input ahead x wants =
    reading_first_request a reader input ahead x.1 wants.1
wanting_first_request (refusing code) given input ahead x wants = absurd wants
wanting_first_request (ready a behind seen path) given input ahead x wants = absurd wants
wanting_first_request (wanting a behind seen path) given input ahead x wants = absurd wants
wanting_first_request (sending at size) given input ahead x wants = absurd wants
wanting_first_request (unmade end) given input ahead x wants = absurd wants
wanting_first_request (broken at) given input ahead x wants = absurd wants
wanting_first_request finished given input ahead x wants = absurd wants

-- and nothing is due, also no interim answer
pub wanting_none : (serving : Serving) (k : ℕ) (stage : Stage) (given : Bool) (input ahead : List ℕ)
    → LiesAhead stage given input ahead → IsWanting stage input
    → answers_left given (replies serving) k ahead [] ≡ []
wanting_none serving k unread given input ahead x wants = absurd wants
wanting_none serving k short given input ahead x wants =
    let none : interim_of ahead ≡ [] = interim_is ahead more (ap (λ (v : List ℕ). next_of v) x.1 ∙ x.2) in
    ap (λ (b : Bool). answers_left b (replies serving) k ahead []) x.0
    ∙ within_behind (replies serving) k ahead [] none
    ∙ behind_unfinished (replies serving) k ahead [] (wanting_first_request short given input ahead x wants)
wanting_none serving k (reading a reader room) given input ahead x wants =
    ap (λ (b : Bool). answers_left b (replies serving) k ahead []) x.0
    ∙ behind_unfinished (replies serving) k ahead
    [] (wanting_first_request (reading a reader room) given input ahead x wants)
wanting_none serving k (refusing code) given input ahead x wants = absurd wants
wanting_none serving k (ready a behind seen path) given input ahead x wants = absurd wants
wanting_none serving k (wanting a behind seen path) given input ahead x wants = absurd wants
wanting_none serving k (sending at size) given input ahead x wants = absurd wants
wanting_none serving k (unmade end) given input ahead x wants = absurd wants
wanting_none serving k (broken at) given input ahead x wants = absurd wants
wanting_none serving k finished given input ahead x wants = absurd wants

-- the bytes ahead begin with a whole request, whose interim answer was given
pub record IsAsked (given : Bool) (ahead : List ℕ) : Type 0 where
  pub given_there : given ≡ true
  pub there : HasWhole ahead

asked_whole : (given : Bool) (ahead : List ℕ) (a : Asked) (len : ℕ) → given ≡ true
    → ((t : List ℕ) → first_request (ahead ++ t) ≡ whole a len) → IsAsked given ahead
asked_whole given ahead a len was is =
    record { given_there = was; there = record { a = a; len = len; is_whole = is } }

-- a stage at which a whole request isn't answered
abbrev pub IsUnanswered : Stage → Type 0
IsUnanswered unread = ⊥
IsUnanswered short = ⊥
IsUnanswered (reading a reader room) = ⊥
IsUnanswered (refusing code) = ⊥
IsUnanswered (ready a behind seen path) = Unit {0}
IsUnanswered (wanting a behind seen path) = Unit {0}
IsUnanswered (sending at size) = ⊥
IsUnanswered (unmade end) = Unit {0}
IsUnanswered (broken at) = ⊥
IsUnanswered finished = ⊥

pub asked_at : (stage : Stage) (given : Bool) (input ahead : List ℕ) → LiesAhead stage given input ahead
    → IsUnanswered stage → IsAsked given ahead
asked_at unread given input ahead x is = absurd is
asked_at short given input ahead x is = absurd is
asked_at (reading a reader room) given input ahead x is = absurd is
asked_at (refusing code) given input ahead x is = absurd is
asked_at (ready a behind seen path) given input ahead x is =
    asked_whole given ahead a x.1.len x.0 x.1.is_whole
asked_at (wanting a behind seen path) given input ahead x is =
    asked_whole given ahead a x.1.len x.0 x.1.is_whole
asked_at (sending at size) given input ahead x is = absurd is
asked_at (unmade end) given input ahead x is = record { given_there = x.0; there = x.1 }
asked_at (broken at) given input ahead x is = absurd is
asked_at finished given input ahead x is = absurd is

pub unanswered_content : (stage : Stage) → IsUnanswered stage → HasNoContent stage
unanswered_content unread is = absurd is
unanswered_content short is = absurd is
unanswered_content (reading a reader room) is = absurd is
unanswered_content (refusing code) is = absurd is
unanswered_content (ready a behind seen path) is = tt
unanswered_content (wanting a behind seen path) is = tt
unanswered_content (sending at size) is = absurd is
unanswered_content (unmade end) is = tt
unanswered_content (broken at) is = absurd is
unanswered_content finished is = absurd is

asked_first_request : (given : Bool) (ahead : List ℕ) (x : IsAsked given ahead)
    → first_request ahead ≡ whole x.there.a x.there.len
asked_first_request given ahead x =
    ap (λ (v : List ℕ). first_request v) (sym (append-nil ahead)) ∙ x.there.is_whole []

-- a whole request calls for a final answer, which is none at no moment
pub asked_due : (k : ℕ) (given : Bool) (ahead : List ℕ) → 0 < k → IsAsked given ahead
    → 0 < finals_within k ahead
asked_due k given ahead some x =
    finals_some k ahead x.there.a x.there.len some (asked_first_request given ahead x)

pub asked_none : (serving : Serving) (k : ℕ) (given : Bool) (ahead : List ℕ) → IsAsked given ahead
    → answers_left given (replies serving) k ahead [] ≡ []
asked_none serving k given ahead x =
    ap (λ (b : Bool). answers_left b (replies serving) k ahead []) x.given_there
    ∙ behind_whole (replies serving) k ahead x.there.a x.there.len (asked_first_request given ahead x)

-- where no final answer may follow, nothing is due
pub left_none : (serving : Serving) (given : Bool) (k : ℕ) (s ks : List ℕ) → k ≡ 0
    → answers_left given (replies serving) k s ks ≡ []
left_none serving true k s ks none =
    ap (λ (n : ℕ). answers_behind (replies serving) n s ks) none ∙ behind_done (replies serving) s ks
left_none serving false k s ks none =
    ap (λ (n : ℕ). answers_within (replies serving) n s ks) none ∙ within_done (replies serving) s ks
