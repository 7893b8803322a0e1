-- What is ahead is judged, read on or refused: what that makes of what a connection stands for.
use Rattle.std.proofs.Common.{◌≡◌, ℕ, suc, ◌-◌, ◌<◌, Bool, true, List, [], ◌++◌, take, drop, Option, None}
use Rattle.std.proofs.Common.{sym, ap, ◌∙◌, subst, arith, append-nil}
use Rattle.outside.specs.Causes.{LinkTold}
use Rattle.warp_request.specs.BodyReader.{Represents as Reads}
use Rattle.warp_request.specs.declared.body_reader.BodyReader.{BodyReader}
use Rattle.warp_request.specs.Verdict.{Asked, asked, refused}
use Rattle.warp_request.specs.Laws.{StaysSettled}
use Rattle.warp_request.specs.Next.{next_of}
use Rattle.conn_loop.specs.Stages.{Stage, unread, reading, refusing, unread_at, HasNoContent, LiesAhead}
use Rattle.warp_response.specs.Text.{refusal_text}
use Rattle.conn_loop.specs.FirstRequest.{interim_of}
use Rattle.conn_loop.specs.Moves.{Refuses}
use Rattle.conn_loop.specs.Replying.{Serving}
use Rattle.conn_loop.specs.ConnState.{ConnState, HoldsAt, Looks, due_of}
use Rattle.conn_loop.specs.Steps.{Comes, ComesFor, IsBegun}
use Rattle.conn_loop.proofs.AheadLemmas.{unread_none}
use Rattle.conn_loop.proofs.AccountLemmas.{accounts_lies, accounts_given, accounts_refuse}
use Rattle.conn_loop.proofs.StageLemmas.{begun_content, begun_looks}
use Rattle.conn_loop.proofs.ToldLemmas.{told_kept}

-- what is ahead was judged, and the interim answer that is due, if one is, was given
pub given_for : (serving : Option Serving) (old new : ConnState) (link : LinkTold) (interim : List ℕ)
    → 0 < old.left → old.stage ≡ unread
    → new.moments ≡ old.moments → new.left ≡ old.left → new.pending ≡ old.pending ++ interim
    → ((after : List ℕ) → interim_of (old.input ++ after) ≡ interim)
    → LiesAhead new.stage true new.input old.input → HasNoContent new.stage
    → ((r : Serving) → Looks r new.stage new.lease) → ComesFor None serving old link
    → ComesFor None serving new link
given_for serving old new link interim some stage moments left pending is lies content looks x =
    told_kept (λ r t s. Comes None r old t s link.ended)
    (λ r t s. Comes None r new t s link.ended) serving link
    (λ r t s y.
    let was : LiesAhead unread y.accounts.given old.input y.accounts.ahead =
    subst (λ (st : Stage). LiesAhead st y.accounts.given old.input y.accounts.ahead) stage y.accounts.lies in
    let before : unread_at old.stage r.folder old.lease ≡ [] =
    ap (λ (st : Stage). unread_at st r.folder old.lease) stage in
    let due : due_of r new ≡ due_of r old ++ interim =
    ap (λ (v : List ℕ). new.pending ++ v) (unread_none new.stage r.folder new.lease content)
    ∙ append-nil new.pending ∙ pending
    ∙ ap (λ (v : List ℕ). v ++ interim)
    (sym (append-nil old.pending) ∙ ap (λ (v : List ℕ). old.pending ++ v) (sym before)) in
    record {
      accounts = accounts_given r old new t s interim some due moments left y.accounts was.0
          (λ after. ap (λ (v : List ℕ). interim_of (v ++ after)) was.1 ∙ is after)
          (subst (λ (v : List ℕ). LiesAhead new.stage true new.input v) (sym was.1) lies) (looks r);
      at = subst (λ (v : List ℕ). HoldsAt None r v t s link.ended) (sym moments) y.at;
    }) x

read_one : (serving : Serving) (old new : ConnState) (t s : List ℕ)
    (ended : Option Bool) (a : Asked) (reader : BodyReader) (room : ℕ)
    → old.stage ≡ reading a reader room
    → new ≡ record old { input = new.input; stage = new.stage } → IsBegun new.stage
    → ((fed ahead : List ℕ) → Reads reader a.framing fed → ahead
    ≡ take a.len old.input ++ (fed ++ drop a.len old.input) → ((u : List ℕ) → next_of (ahead ++ u) ≡ asked a)
    → LiesAhead new.stage true new.input ahead) → Comes None serving old t s ended
    → Comes None serving new t s ended
read_one serving old new t s ended a reader room was same begun lies x =
    let there : LiesAhead (reading a reader room) x.accounts.given old.input x.accounts.ahead =
    subst (λ (st : Stage). LiesAhead st x.accounts.given old.input x.accounts.ahead) was x.accounts.lies in
    let before : unread_at old.stage serving.folder old.lease ≡ [] =
    ap (λ (st : Stage). unread_at st serving.folder old.lease) was in
    let after : unread_at new.stage serving.folder new.lease ≡ [] =
    unread_none new.stage serving.folder new.lease (begun_content new.stage begun) in
    let due : due_of serving new ≡ due_of serving old =
    ap (λ (v : List ℕ). v ++ unread_at new.stage serving.folder new.lease)
    (ap (λ (c : ConnState). c.pending) same) ∙ ap (λ (v : List ℕ). old.pending ++ v) (after ∙ sym before) in
    let moments : new.moments ≡ old.moments = ap (λ (c : ConnState). c.moments) same in
    record {
      accounts =
          accounts_lies serving old new t s due moments (ap (λ (c : ConnState). c.left) same) x.accounts
          (subst (λ (b : Bool). LiesAhead new.stage b new.input x.accounts.ahead) (sym there.0)
          (lies there.1.fed x.accounts.ahead there.1.stands there.1.parts there.1.asks))
          (begun_looks serving new.stage new.lease begun);
      at = x.at;
    }

-- a body was read on
pub read_for : (serving : Option Serving) (old new : ConnState)
    (link : LinkTold) (a : Asked) (reader : BodyReader) (room : ℕ)
    → old.stage ≡ reading a reader room
    → new ≡ record old { input = new.input; stage = new.stage } → IsBegun new.stage
    → ((fed ahead : List ℕ) → Reads reader a.framing fed → ahead
    ≡ take a.len old.input ++ (fed ++ drop a.len old.input) → ((u : List ℕ) → next_of (ahead ++ u) ≡ asked a)
    → LiesAhead new.stage true new.input ahead) → ComesFor None serving old link
    → ComesFor None serving new link
read_for serving old new link a reader room was same begun lies x =
    told_kept (λ r t s. Comes None r old t s link.ended)
    (λ r t s. Comes None r new t s link.ended) serving link
    (λ r t s y. read_one r old new t s link.ended a reader room was same begun lies y) x

-- what stays refused, whatever follows
pub refused_stays : (s input : List ℕ) (code : ℕ) → s ≡ input → refused code ≡ next_of s
    → StaysSettled s → (t : List ℕ) → next_of (input ++ t) ≡ refused code
refused_stays s input code same is stays t =
    ap (λ (v : List ℕ). next_of (v ++ t)) (sym same) ∙ stays t (refused code) (sym is) (λ e. cc)

pub refuse_for : (serving : Option Serving) (old new : ConnState) (link : LinkTold) (m code : ℕ)
    → 0 < old.left
    → old.stage ≡ refusing code → Refuses code m old new → ComesFor None serving old link
    → ComesFor None serving new link
refuse_for serving old new link m code some is refuses x =
    let k = old.left - 1 in
    let left : old.left ≡ suc k = omega (arith, some) in
    let pending : new.pending ≡ old.pending ++ refusal_text code m =
    ap (λ (c : ConnState). c.pending) refuses in
    told_kept (λ r t s. Comes None r old t s link.ended)
    (λ r t s. Comes None r new t s link.ended) serving link
    (λ r t s y.
    let stage : new.stage ≡ old.stage = ap (λ (c : ConnState). c.stage) refuses in
    let before : unread_at old.stage r.folder old.lease ≡ [] =
    ap (λ (st : Stage). unread_at st r.folder old.lease) is in
    let after : unread_at new.stage r.folder new.lease ≡ [] =
    ap (λ (st : Stage). unread_at st r.folder new.lease) (stage ∙ is) in
    record {
      accounts =
          accounts_refuse r old new t s k m code left is stage (ap (λ (c : ConnState). c.input) refuses)
          (ap (λ (c : ConnState). c.left) refuses)
          (ap (λ (c : ConnState). c.moments) refuses)
          (ap (λ (v : List ℕ). new.pending ++ v) after ∙ append-nil new.pending ∙ pending
          ∙ ap (λ (v : List ℕ). v ++ refusal_text code m)
          (sym (append-nil old.pending) ∙ ap (λ (v : List ℕ). old.pending ++ v) (sym before))) y.accounts;
      at = y.at;
    }) x
