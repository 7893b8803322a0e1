-- What was taken stays accounted for through the steps of a connection.
use Rattle.std.proofs.Common.{◌≡◌, ℕ, suc, ◌+◌, ◌<◌, Bool, true, false, List, [], ◌∷◌, ◌++◌, length, drop}
use Rattle.std.proofs.Common.{refl, sym, ap, ◌∙◌, subst, arith, append_assoc, append-nil, length-append}
use Rattle.std.specs.Prelude.{if◌then◌else◌}
use Rattle.std.proofs.lemmas.List.{drop-append-le}
use Rattle.warp_request.specs.Verdict.{Asked}
use Rattle.warp_response.specs.Text.{answer_text, refusal_text}
use Rattle.conn_loop.specs.Answers.{limit, closes, last_word, answers_of, answers_within, answers_behind}
use Rattle.conn_loop.specs.Answers.{finals_of, finals_within, closed_within, rest_of, rest_within}
use Rattle.conn_loop.specs.Replying.{Serving, replies}
use Rattle.conn_loop.specs.Stages.{Stage, refusing, answers_left, grown, unread_at, LiesAhead, IsReady}
use Rattle.conn_loop.specs.ConnState.{ConnState, at_first, due_of, Accounts, Looks}
use Rattle.conn_loop.specs.FirstRequest.{first_request, refused, whole, interim_of}
use Rattle.conn_loop.proofs.AnswerLemmas.{within_is, answers_refused, answers_whole, finals_done}
use Rattle.conn_loop.proofs.AnswerLemmas.{finals_refused, finals_whole, closed_refused, closed_whole}
use Rattle.conn_loop.proofs.AnswerLemmas.{rest_refused, rest_whole}
use Rattle.conn_loop.proofs.AheadLemmas.{lies_take, looks_take, unread_take, left_none}

-- a connection that has read nothing and written nothing
pub accounts_first : (serving : Serving) → Accounts serving at_first [] []
accounts_first serving = record {
  ahead = [];
  given = false;
  lies = (refl, refl);
  looks = tt;
  answered = λ more later. refl;
  counted = λ more. omega arith;
  closing = λ more. refl;
  resting = λ more. refl;
}

-- a piece was read, and the count of waits is what it is
pub accounts_take : (serving : Serving) (c : ConnState) (t s piece : List ℕ) (waits : ℕ)
    → Accounts serving c t s
    → Accounts serving (record c { input = c.input ++ piece; stage = grown c.stage; waits = waits })
    (t ++ piece) s
accounts_take serving c t s piece waits x = record {
  ahead = x.ahead ++ piece;
  given = x.given;
  lies = lies_take c.stage x.given c.input x.ahead piece x.lies;
  looks = looks_take serving c.stage c.lease x.looks;
  answered = λ after ks.
      ap (λ (v : List ℕ). answers_of (replies serving) v (c.moments ++ ks)) (append_assoc t piece after)
      ∙ x.answered (piece ++ after) ks
      ∙ ap (λ (v : List ℕ). (s ++ due_of serving c) ++ answers_left x.given (replies serving) c.left v ks)
      (sym (append_assoc x.ahead piece after))
      ∙ ap (λ (v : List ℕ). (s ++ (c.pending ++ v))
      ++ answers_left x.given (replies serving) c.left ((x.ahead ++ piece) ++ after) ks)
      (unread_take c.stage serving.folder c.lease);
  counted = λ after.
      ap (λ (v : List ℕ). finals_of v) (append_assoc t piece after) ∙ x.counted (piece ++ after)
      ∙ ap (λ (v : List ℕ). length c.moments + finals_within c.left v)
      (sym (append_assoc x.ahead piece after));
  closing = λ after.
      ap (λ (v : List ℕ). closed_within limit v) (append_assoc t piece after) ∙ x.closing (piece ++ after)
      ∙ ap (λ (v : List ℕ). closed_within c.left v) (sym (append_assoc x.ahead piece after));
  resting = λ after.
      ap (λ (v : List ℕ). rest_of v) (append_assoc t piece after) ∙ x.resting (piece ++ after)
      ∙ ap (λ (v : List ℕ). rest_within c.left v) (sym (append_assoc x.ahead piece after));
}

-- the front of what was made was written
pub accounts_send : (serving : Serving) (c : ConnState) (t s front rest : List ℕ) (bytes waits : ℕ)
    → c.pending ≡ front ++ rest → Accounts serving c t s
    → Accounts serving (record c { pending = rest; bytes = bytes; waits = waits }) t (s ++ front)
accounts_send serving c t s front rest bytes waits is x =
    let unread = unread_at c.stage serving.folder c.lease in
    record {
      ahead = x.ahead;
      given = x.given;
      lies = x.lies;
      looks = x.looks;
      answered = λ after ks.
          x.answered after ks
          ∙ ap (λ (v : List ℕ). v ++ answers_left x.given (replies serving) c.left (x.ahead ++ after) ks)
          (ap (λ (v : List ℕ). s ++ (v ++ unread)) is
          ∙ ap (λ (v : List ℕ). s ++ v) (append_assoc front rest unread)
          ∙ sym (append_assoc s front (rest ++ unread)));
      counted = x.counted;
      closing = x.closing;
      resting = x.resting;
    }

-- the same bytes are ahead, wherever the connection stands with them now, and the same
-- bytes are to be written
pub accounts_lies : (serving : Serving) (c d : ConnState) (t s : List ℕ) → due_of serving d ≡ due_of serving c
    → d.moments ≡ c.moments → d.left ≡ c.left
    → (x : Accounts serving c t s) → LiesAhead d.stage x.given d.input x.ahead
    → Looks serving d.stage d.lease → Accounts serving d t s
accounts_lies serving c d t s due moments left x lies looks = record {
  ahead = x.ahead;
  given = x.given;
  lies = lies;
  looks = looks;
  answered = λ after ks.
      ap (λ (v : List ℕ). answers_of (replies serving) (t ++ after) (v ++ ks)) moments ∙ x.answered after ks
      ∙ ap (λ (v : List ℕ). (s ++ v) ++ answers_left x.given (replies serving) c.left (x.ahead ++ after) ks)
      (sym due)
      ∙ ap
      (λ (n : ℕ). (s ++ due_of serving d) ++ answers_left x.given (replies serving) n (x.ahead ++ after) ks)
      (sym left);
  counted = λ after. rw (moments, left) (x.counted after);
  closing = λ after. rw left (x.closing after);
  resting = λ after. rw left (x.resting after);
}

-- the interim answer that is due to the bytes ahead, if one is, was given
pub accounts_given : (serving : Serving) (c d : ConnState) (t s interim : List ℕ) → 0 < c.left
    → due_of serving d ≡ due_of serving c ++ interim → d.moments ≡ c.moments → d.left ≡ c.left
    → (x : Accounts serving c t s) → x.given ≡ false
    → ((after : List ℕ) → interim_of (x.ahead ++ after) ≡ interim) → LiesAhead d.stage true d.input x.ahead
    → Looks serving d.stage d.lease → Accounts serving d t s
accounts_given serving c d t s interim some due moments left x was is lies looks = record {
  ahead = x.ahead;
  given = true;
  lies = lies;
  looks = looks;
  answered = λ after ks.
      ap (λ (v : List ℕ). answers_of (replies serving) (t ++ after) (v ++ ks)) moments ∙ x.answered after ks
      ∙ ap
      (λ (b : Bool). (s ++ due_of serving c) ++ answers_left b (replies serving) c.left (x.ahead ++ after) ks)
      was
      ∙ ap (λ (v : List ℕ). (s ++ due_of serving c) ++ v)
      (within_is (replies serving) c.left (x.ahead ++ after) ks some
      ∙ ap (λ (v : List ℕ). v ++ answers_behind (replies serving) c.left (x.ahead ++ after) ks) (is after))
      ∙ sym (append_assoc (s ++ due_of serving c) interim
      (answers_behind (replies serving) c.left (x.ahead ++ after) ks))
      ∙ ap (λ (v : List ℕ). v ++ answers_behind (replies serving) c.left (x.ahead ++ after) ks)
      (append_assoc s (due_of serving c) interim ∙ ap (λ (v : List ℕ). s ++ v) (sym due))
      ∙ ap (λ (n : ℕ). (s ++ due_of serving d) ++ answers_behind (replies serving) n (x.ahead ++ after) ks)
      (sym left);
  counted = λ after. rw (moments, left) (x.counted after);
  closing = λ after. rw left (x.closing after);
  resting = λ after. rw left (x.resting after);
}

-- what is ahead is refused
pub accounts_refuse : (serving : Serving) (c d : ConnState) (t s : List ℕ) (k m code : ℕ) → c.left ≡ suc k
    → c.stage ≡ refusing code → d.stage ≡ c.stage → d.input ≡ c.input
    → d.left ≡ 0
    → d.moments ≡ c.moments ++ m ∷ [] → due_of serving d ≡ due_of serving c ++ refusal_text code m
    → Accounts serving c t s → Accounts serving d t s
accounts_refuse serving c d t s k m code some at stage input none moments due x =
    let lies : LiesAhead (refusing code) x.given c.input x.ahead =
    subst (λ (st : Stage). LiesAhead st x.given c.input x.ahead) at x.lies in
    let grows : (after : List ℕ) → first_request (x.ahead ++ after) ≡ refused code = lies.1 in
    let text = refusal_text code m in
    let old = due_of serving c in
    record {
      ahead = x.ahead;
      given = x.given;
      lies =
          subst (λ (st : Stage). LiesAhead st x.given d.input x.ahead) (sym (stage ∙ at))
          (subst (λ (v : List ℕ). LiesAhead (refusing code) x.given v x.ahead) (sym input) lies);
      looks = subst (λ (st : Stage). Looks serving st d.lease) (sym (stage ∙ at)) tt;
      answered = λ after ks.
          ap (λ (v : List ℕ). answers_of (replies serving) (t ++ after) (v ++ ks)) moments
          ∙ ap (λ (v : List ℕ). answers_of (replies serving) (t ++ after) v)
          (append_assoc c.moments (m ∷ []) ks) ∙ x.answered after (m ∷ ks)
          ∙ ap
          (λ (b : Bool). (s ++ old) ++ answers_left b (replies serving) c.left (x.ahead ++ after) (m ∷ ks))
          lies.0
          ∙ ap (λ (n : ℕ). (s ++ old) ++ answers_behind (replies serving) n (x.ahead ++ after) (m ∷ ks)) some
          ∙ ap (λ (v : List ℕ). (s ++ old) ++ v)
          (answers_refused (replies serving) k (x.ahead ++ after) m ks code (grows after))
          ∙ append_assoc s old text ∙ ap (λ (v : List ℕ). s ++ v) (sym due)
          ∙ sym (append-nil (s ++ due_of serving d))
          ∙ ap (λ (v : List ℕ). (s ++ due_of serving d) ++ v)
          (sym (left_none serving x.given d.left (x.ahead ++ after) ks none));
      counted = λ after.
          x.counted after ∙ ap (λ (n : ℕ). length c.moments + finals_within n (x.ahead ++ after)) some
          ∙ omega (
            arith,
            finals_refused k (x.ahead ++ after) code (grows after),
            finals_done 0 (x.ahead ++ after) refl,
            finals_done d.left (x.ahead ++ after) none,
            ap (λ (v : List ℕ). length v) moments,
            length-append c.moments (m ∷ []),
          );
      closing =
          λ after. x.closing after ∙ ap (λ (n : ℕ). closed_within n (x.ahead ++ after)) some
          ∙ closed_refused k (x.ahead ++ after) code (grows after)
          ∙ ap (λ (n : ℕ). closed_within n (x.ahead ++ after)) (sym none);
      resting =
          λ after. x.resting after ∙ ap (λ (n : ℕ). rest_within n (x.ahead ++ after)) some
          ∙ rest_refused k (x.ahead ++ after) code (grows after)
          ∙ ap (λ (n : ℕ). rest_within n (x.ahead ++ after)) (sym none);
    }

-- a request is answered
pub accounts_respond : (serving : Serving) (c d : ConnState) (t s : List ℕ) (k m : ℕ) (a : Asked) (behind : ℕ)
    → c.left ≡ suc k
    → (x : Accounts serving c t s) → x.given ≡ true → IsReady a behind c.input x.ahead
    → d.left ≡ (if closes a k then 0 else k) → d.moments ≡ c.moments ++ m ∷ []
    → due_of serving d ≡ due_of serving c ++ answer_text (replies serving a) m (last_word a k)
    → LiesAhead d.stage false d.input (drop (a.len + behind) c.input) → Looks serving d.stage d.lease
    → Accounts serving d t s
accounts_respond serving c d t s k m a behind some x given lies counted moments due lies_there looks =
    let len = lies.len in
    let grows : (after : List ℕ) → first_request (x.ahead ++ after) ≡ whole a len = lies.is_whole in
    let beyond : (after : List ℕ) → drop len (x.ahead ++ after) ≡ drop len x.ahead ++ after =
    λ after. drop-append-le len x.ahead after lies.fits in
    let text = answer_text (replies serving a) m (last_word a k) in
    let left = if closes a k then 0 else k in
    let old = due_of serving c in
    record {
      ahead = drop len x.ahead;
      given = false;
      lies = subst (λ (v : List ℕ). LiesAhead d.stage false d.input v) (sym lies.rest) lies_there;
      looks = looks;
      answered = λ after ks.
          ap (λ (v : List ℕ). answers_of (replies serving) (t ++ after) (v ++ ks)) moments
          ∙ ap (λ (v : List ℕ). answers_of (replies serving) (t ++ after) v)
          (append_assoc c.moments (m ∷ []) ks) ∙ x.answered after (m ∷ ks)
          ∙ ap
          (λ (b : Bool). (s ++ old) ++ answers_left b (replies serving) c.left (x.ahead ++ after) (m ∷ ks))
          given
          ∙ ap (λ (n : ℕ). (s ++ old) ++ answers_behind (replies serving) n (x.ahead ++ after) (m ∷ ks)) some
          ∙ ap (λ (v : List ℕ). (s ++ old) ++ v)
          (answers_whole (replies serving) k (x.ahead ++ after) m ks a len (grows after)
          ∙ ap (λ (v : List ℕ). text ++ answers_within (replies serving) left v ks) (beyond after))
          ∙ sym (append_assoc (s ++ old) text
          (answers_within (replies serving) left (drop len x.ahead ++ after) ks))
          ∙ ap (λ (v : List ℕ). v ++ answers_within (replies serving) left (drop len x.ahead ++ after) ks)
          (append_assoc s old text ∙ ap (λ (v : List ℕ). s ++ v) (sym due))
          ∙ ap (λ (n : ℕ).
          (s ++ due_of serving d) ++ answers_within (replies serving) n (drop len x.ahead ++ after) ks)
          (sym counted);
      counted = λ after.
          x.counted after ∙ ap (λ (n : ℕ). length c.moments + finals_within n (x.ahead ++ after)) some
          ∙ omega (
            arith,
            finals_whole k (x.ahead ++ after) a len (grows after),
            ap (λ (v : List ℕ). finals_within left v) (beyond after),
            ap (λ (n : ℕ). finals_within n (drop len x.ahead ++ after)) counted,
            ap (λ (v : List ℕ). length v) moments,
            length-append c.moments (m ∷ []),
          );
      closing = λ after.
          x.closing after ∙ ap (λ (n : ℕ). closed_within n (x.ahead ++ after)) some
          ∙ closed_whole k (x.ahead ++ after) a len (grows after)
          ∙ ap (λ (v : List ℕ). closed_within left v) (beyond after)
          ∙ ap (λ (n : ℕ). closed_within n (drop len x.ahead ++ after)) (sym counted);
      resting = λ after.
          x.resting after ∙ ap (λ (n : ℕ). rest_within n (x.ahead ++ after)) some
          ∙ rest_whole k (x.ahead ++ after) a len (grows after)
          ∙ ap (λ (v : List ℕ). rest_within left v) (beyond after)
          ∙ ap (λ (n : ℕ). rest_within n (drop len x.ahead ++ after)) (sym counted);
    }
