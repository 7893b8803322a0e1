-- What the account of a connection says of the bytes that were sent.
use Rattle.std.proofs.Common.{◌≡◌, ℕ, ◌+◌, ◌<◌, Bool, List, [], ◌++◌, length, drop, sym, ap, ◌∙◌, subst}
use Rattle.std.proofs.Common.{arith, append_assoc, append-nil, length-append, length-drop}
use Rattle.std.specs.Prelude.{◌⊎◌}
use Rattle.warp_response.specs.Reply.{sent_bytes}
use Rattle.warp_response.specs.Text.{interim_text}
use Rattle.conn_loop.specs.Answers.{limit, answers_of, answers_within, finals_of, finals_within}
use Rattle.conn_loop.specs.Answers.{closed_within, rest_of, rest_within, IsClosed, IsOpen}
use Rattle.conn_loop.specs.Ends.{IsWhole, IsPart, SendsPrefix, IsShort, IsBroken}
use Rattle.conn_loop.specs.Replying.{Serving, replies}
use Rattle.conn_loop.specs.Stages.{Stage, broken, answers_left, leased_bytes, unread_at, HasNoContent}
use Rattle.conn_loop.specs.Stages.{LiesAhead, IsWanting}
use Rattle.conn_loop.specs.ConnState.{ConnState, due_of, Accounts, Looks}
use Rattle.conn_loop.proofs.AnswerLemmas.{within_nothing, finals_done, finals_unfinished, closed_unfinished}
use Rattle.conn_loop.proofs.AnswerLemmas.{closed_done, rest_unfinished}
use Rattle.conn_loop.proofs.AheadLemmas.{unread_none, wanting_content, wanting_first_request, wanting_none}
use Rattle.conn_loop.proofs.AheadLemmas.{IsUnanswered, asked_at, unanswered_content, asked_due, asked_none}
use Rattle.conn_loop.proofs.AheadLemmas.{left_none}

-- what was sent, what is to be written and what is due at no further moment are the answers
pub begins_of : (serving : Serving) (c : ConnState) (t s : List ℕ) (x : Accounts serving c t s)
    → answers_of (replies serving) t c.moments
    ≡ s ++ (due_of serving c ++ answers_left x.given (replies serving) c.left x.ahead [])
begins_of serving c t s x =
    ap (λ (v : List ℕ). answers_of (replies serving) v c.moments) (sym (append-nil t))
    ∙ ap (λ (v : List ℕ). answers_of (replies serving) (t ++ []) v) (sym (append-nil c.moments))
    ∙ x.answered
    [] [] ∙ ap (λ (v : List ℕ). (s ++ due_of serving c) ++ answers_left x.given (replies serving) c.left v [])
    (append-nil x.ahead)
    ∙ append_assoc s (due_of serving c) (answers_left x.given (replies serving) c.left x.ahead [])

-- the final answers so far, and those that the bytes ahead call for
pub counted_of : (serving : Serving) (c : ConnState) (t s : List ℕ) (x : Accounts serving c t s)
    → finals_of t ≡ length c.moments + finals_within c.left x.ahead
counted_of serving c t s x =
    ap (λ (v : List ℕ). finals_of v) (sym (append-nil t))
    ∙ x.counted [] ∙ ap (λ (v : List ℕ). length c.moments + finals_within c.left v) (append-nil x.ahead)

pub prefix_of : (serving : Serving) (c : ConnState) (t s : List ℕ) → Accounts serving c t s
    → SendsPrefix (replies serving) c.moments t s
prefix_of serving c t s x = record {
  rest = _;
  begins = begins_of serving c t s x;
  counted = omega (arith, counted_of serving c t s x);
}

-- some of what was made is left to be written
pub part_of : (serving : Serving) (c : ConnState) (t s : List ℕ) → 0 < length c.pending
    → Accounts serving c t s → IsPart (replies serving) c.moments t s
part_of serving c t s some x = record {
  rest = _;
  begins = begins_of serving c t s x;
  some = omega (
    arith,
    some,
    length-append c.pending (unread_at c.stage serving.folder c.lease),
    length-append (due_of serving c) (answers_left x.given (replies serving) c.left x.ahead []),
  );
}

-- nothing is to be written
due_none : (serving : Serving) (c : ConnState) → c.pending ≡ [] → HasNoContent c.stage → due_of serving c ≡ []
due_none serving c empty none =
    ap (λ (v : List ℕ). v ++ unread_at c.stage serving.folder c.lease) empty
    ∙ unread_none c.stage serving.folder c.lease none

-- with nothing to be written and nothing due, all that was made is sent
sent_of : (serving : Serving) (c : ConnState) (t s : List ℕ) (x : Accounts serving c t s)
    → due_of serving c ≡ [] → answers_left x.given (replies serving) c.left x.ahead [] ≡ []
    → s ≡ answers_of (replies serving) t c.moments
sent_of serving c t s x empty none =
    sym (begins_of serving c t s x
    ∙ ap (λ (v : List ℕ). s ++ (v ++ answers_left x.given (replies serving) c.left x.ahead [])) empty
    ∙ ap (λ (v : List ℕ). s ++ v) none ∙ append-nil s)

-- with nothing to be written and nothing due, all is written
whole_of : (serving : Serving) (c : ConnState) (t s : List ℕ) (x : Accounts serving c t s)
    → due_of serving c ≡ [] → answers_left x.given (replies serving) c.left x.ahead [] ≡ []
    → finals_within c.left x.ahead ≡ 0 → IsWhole (replies serving) c.moments t s
whole_of serving c t s x empty none done = record {
  sent_all = sent_of serving c t s x empty none;
  answered_all = omega (arith, done, counted_of serving c t s x);
}

-- no final answer may follow
pub whole_closed : (serving : Serving) (c : ConnState) (t s : List ℕ) → c.pending ≡ [] → HasNoContent c.stage
    → c.left ≡ 0 → Accounts serving c t s
    → IsWhole (replies serving) c.moments t s
whole_closed serving c t s empty content none x =
    whole_of serving c t s x (due_none serving c empty content)
    (left_none serving x.given c.left x.ahead [] none) (finals_done c.left x.ahead none)

pub closed_of : (serving : Serving) (c : ConnState) (t s : List ℕ) → c.left ≡ 0
    → Accounts serving c t s → IsClosed t
closed_of serving c t s none x =
    ap (λ (v : List ℕ). closed_within limit v) (sym (append-nil t))
    ∙ x.closing [] ∙ closed_done c.left (x.ahead ++ []) none

-- more is wanted
pub whole_wanting : (serving : Serving) (c : ConnState) (t s : List ℕ)
    → c.pending ≡ [] → IsWanting c.stage c.input → Accounts serving c t s
    → IsWhole (replies serving) c.moments t s
whole_wanting serving c t s empty wants x =
    whole_of serving c t s x (due_none serving c empty (wanting_content c.stage c.input wants))
    (wanting_none serving c.left c.stage x.given c.input x.ahead x.lies wants)
    (finals_unfinished c.left x.ahead (wanting_first_request c.stage x.given c.input x.ahead x.lies wants))

-- a final answer is due that isn't made
pub fewer_of : (serving : Serving) (c : ConnState) (t s : List ℕ) → 0 < c.left → IsUnanswered c.stage
    → Accounts serving c t s → length c.moments < finals_of t
fewer_of serving c t s some is x =
    omega (
      arith,
      asked_due c.left x.given x.ahead some (asked_at c.stage x.given c.input x.ahead x.lies is),
      counted_of serving c t s x,
    )

-- all that was made is written, and the bytes ahead call for a final answer that isn't made
pub short_of : (serving : Serving) (c : ConnState) (t s : List ℕ) → c.pending ≡ [] → 0 < c.left
    → IsUnanswered c.stage → Accounts serving c t s → IsShort (replies serving) c.moments t s
short_of serving c t s empty some is x = record {
  sent_made = sent_of serving c t s x (due_none serving c empty (unanswered_content c.stage is))
      (asked_none serving c.left x.given x.ahead (asked_at c.stage x.given c.input x.ahead x.lies is));
  fewer = fewer_of serving c t s some is x;
}

-- a file failed whose content was sent from a place on
pub broken_of : (serving : Serving) (c : ConnState) (t s : List ℕ) (at : ℕ)
    → c.pending ≡ [] → c.stage ≡ broken at → Accounts serving c t s → IsBroken (replies serving) c.moments t s
broken_of serving c t s at empty is x =
    let looks : Looks serving (broken at) c.lease =
    subst (λ (st : Stage). Looks serving st c.lease) is x.looks in
    let lies : LiesAhead (broken at) x.given c.input x.ahead =
    subst (λ (st : Stage). LiesAhead st x.given c.input x.ahead) is x.lies in
    let bytes = leased_bytes serving.folder c.lease in
    let content : bytes ≡ sent_bytes (replies serving looks.0.a).content = sym looks.0.content in
    let due : due_of serving c
    ≡ drop at bytes = ap (λ (v : List ℕ). v ++ unread_at c.stage serving.folder c.lease) empty
    ∙ ap (λ (st : Stage). unread_at st serving.folder c.lease) is in
    let left = answers_left x.given (replies serving) c.left x.ahead [] in
    let none : left ≡ answers_within (replies serving) c.left x.ahead [] =
    ap (λ (b : Bool). answers_left b (replies serving) c.left x.ahead []) lies.0 in
    record {
      a = looks.0.a;
      at = at;
      behind = left;
      little =
          subst (λ (v : List ℕ). (v ≡ []) ⊎ (v ≡ interim_text)) (sym none)
          (within_nothing (replies serving) c.left x.ahead);
      begins =
          begins_of serving c t s x
          ∙ ap (λ (v : List ℕ). s ++ (v ++ left)) (due ∙ ap (λ (v : List ℕ). drop at v) content);
      some =
          subst (λ (v : List ℕ). 0 < length (drop at v)) content
          (omega (arith, length-drop at bytes, looks.1));
    }

-- more is wanted: the connection stays open
pub open_of : (serving : Serving) (c : ConnState) (t s : List ℕ) → 0 < c.left → IsWanting c.stage c.input
    → Accounts serving c t s → IsOpen t
open_of serving c t s some wants x =
    ap (λ (v : List ℕ). closed_within limit v) (sym (append-nil t))
    ∙ x.closing [] ∙ ap (λ (v : List ℕ). closed_within c.left v) (append-nil x.ahead)
    ∙ closed_unfinished c.left x.ahead some
    (wanting_first_request c.stage x.given c.input x.ahead x.lies wants)

-- and the bytes ahead are what is left behind the last whole request
pub rest_is : (serving : Serving) (c : ConnState) (t s : List ℕ) (x : Accounts serving c t s)
    → IsWanting c.stage c.input → rest_of t ≡ x.ahead
rest_is serving c t s x wants =
    ap (λ (v : List ℕ). rest_of v) (sym (append-nil t))
    ∙ x.resting [] ∙ ap (λ (v : List ℕ). rest_within c.left v) (append-nil x.ahead)
    ∙ rest_unfinished c.left x.ahead (wanting_first_request c.stage x.given c.input x.ahead x.lies wants)
