-- What holds of stages, one by one.
use Rattle.std.specs.Prelude.{if◌then◌else◌, nat_lt}
use Rattle.std.proofs.Common.{◌≡◌, ℕ, Bool, true, false, List, Option, None, refl, sym, subst}
use Rattle.app_trait.specs.declared.request.Seen.{Seen}
use Rattle.app_trait.specs.Moves.{Moves, PathKept}
use Rattle.warp_response.specs.declared.response.Content.{Content}
use Rattle.warp_response.specs.declared.response.Content.TheVariants as kept
use Rattle.conn_loop.specs.Moves.{stage_behind}
use Rattle.conn_loop.specs.Replying.{Serving, request_of}
use Rattle.conn_loop.proofs.LookLemmas.{looked_first}
use Rattle.outside.specs.declared.link.ReadOut.{ReadOut}
use Rattle.outside.specs.declared.link.ReadOut.TheVariants as Reads
use Rattle.conn_loop.specs.Stages.{Stage, unread, short, reading, refusing, ready, wanting, sending, unmade}
use Rattle.conn_loop.specs.Stages.{broken, finished, failing, grown, HasNoContent, IsWanting, IsReadyStage}
use Rattle.conn_loop.specs.ConnState.{AsksFor, HasLooked, IsAskingStage, Looks}
use Rattle.conn_loop.specs.Steps.{IsBegun, IsPlain, IsSendingOut, stage_after}

-- a plain stage asks for no file and doesn't fail
pub plain_quiet : (stage : Stage) → IsPlain stage
    → (IsAskingStage stage → ⊥) × (failing stage ≡ None) × HasNoContent stage
plain_quiet unread x = ((λ y. y), refl, tt)
plain_quiet short x = ((λ y. y), refl, tt)
plain_quiet (reading a reader room) x = ((λ y. y), refl, tt)
plain_quiet (refusing code) x = ((λ y. y), refl, tt)
plain_quiet (ready a behind seen path) x = ((λ y. y), refl, tt)
plain_quiet (wanting a behind seen path) x = absurd x
plain_quiet (sending at size) x = absurd x
plain_quiet (unmade end) x = absurd x
plain_quiet (broken at) x = absurd x
plain_quiet finished x = absurd x

-- where a body was begun, nothing was looked for
pub begun_asks : (moves : Moves) (stage : Stage) → IsBegun stage → AsksFor moves stage
begun_asks moves unread x = tt
begun_asks moves short x = tt
begun_asks moves (reading a reader room) x = tt
begun_asks moves (refusing code) x = tt
begun_asks moves (ready a behind seen path) x =
    subst (λ (v : Seen). PathKept (moves (request_of a)) v path) (sym x) tt
begun_asks moves (wanting a behind seen path) x = absurd x
begun_asks moves (sending at size) x = tt
begun_asks moves (unmade end) x = tt
begun_asks moves (broken at) x = tt
begun_asks moves finished x = tt

pub begun_plain : (stage : Stage) → IsBegun stage → IsPlain stage
begun_plain unread x = absurd x
begun_plain short x = absurd x
begun_plain (reading a reader room) x = tt
begun_plain (refusing code) x = tt
begun_plain (ready a behind seen path) x = tt
begun_plain (wanting a behind seen path) x = absurd x
begun_plain (sending at size) x = absurd x
begun_plain (unmade end) x = absurd x
begun_plain (broken at) x = absurd x
begun_plain finished x = absurd x

pub begun_content : (stage : Stage) → IsBegun stage → HasNoContent stage
begun_content stage x = (plain_quiet stage (begun_plain stage x)).2

-- no looks are known of, and none of a content
pub begun_looks : (serving : Serving) (stage : Stage) (lease : Option (List ℕ)) → IsBegun stage
    → Looks serving stage lease
begun_looks serving unread lease x = absurd x
begun_looks serving short lease x = absurd x
begun_looks serving (reading a reader room) lease x = tt
begun_looks serving (refusing code) lease x = tt
begun_looks serving (ready a behind seen path) lease x =
    subst (λ (v : Seen). HasLooked serving.moves serving.folder (request_of a) v lease) (sym x)
    (looked_first serving.moves serving.folder (request_of a) lease)
begun_looks serving (wanting a behind seen path) lease x = absurd x
begun_looks serving (sending at size) lease x = absurd x
begun_looks serving (unmade end) lease x = absurd x
begun_looks serving (broken at) lease x = absurd x
begun_looks serving finished lease x = absurd x

-- after a read more is wanted at a stage that asks for nothing
pub read_asks : (moves : Moves) (out : ReadOut) (stage : Stage) (input : List ℕ) → IsWanting stage input
    → AsksFor moves (stage_after out stage)
read_asks moves out unread input x = absurd x
read_asks moves (Reads.Got n) short input x = tt
read_asks moves Reads.End short input x = tt
read_asks moves Reads.NotYet short input x = tt
read_asks moves Reads.Failed short input x = tt
read_asks moves (Reads.Got n) (reading a reader room) input x = tt
read_asks moves Reads.End (reading a reader room) input x = tt
read_asks moves Reads.NotYet (reading a reader room) input x = tt
read_asks moves Reads.Failed (reading a reader room) input x = tt
read_asks moves out (refusing code) input x = absurd x
read_asks moves out (ready a behind seen path) input x = absurd x
read_asks moves out (wanting a behind seen path) input x = absurd x
read_asks moves out (sending at size) input x = absurd x
read_asks moves out (unmade end) input x = absurd x
read_asks moves out (broken at) input x = absurd x
read_asks moves out finished input x = absurd x

pub wanting_asks : (moves : Moves) (stage : Stage) (input : List ℕ) → IsWanting stage input
    → AsksFor moves stage
wanting_asks moves unread input x = absurd x
wanting_asks moves short input x = tt
wanting_asks moves (reading a reader room) input x = tt
wanting_asks moves (refusing code) input x = absurd x
wanting_asks moves (ready a behind seen path) input x = absurd x
wanting_asks moves (wanting a behind seen path) input x = absurd x
wanting_asks moves (sending at size) input x = absurd x
wanting_asks moves (unmade end) input x = absurd x
wanting_asks moves (broken at) input x = absurd x
wanting_asks moves finished input x = absurd x

pub sending_asks : (moves : Moves) (stage : Stage) → IsSendingOut stage → AsksFor moves stage
sending_asks moves unread x = tt
sending_asks moves short x = absurd x
sending_asks moves (reading a reader room) x = absurd x
sending_asks moves (refusing code) x = absurd x
sending_asks moves (ready a behind seen path) x = absurd x
sending_asks moves (wanting a behind seen path) x = absurd x
sending_asks moves (sending at size) x = tt
sending_asks moves (unmade end) x = absurd x
sending_asks moves (broken at) x = tt
sending_asks moves finished x = absurd x

-- after a head nothing is asked for
pub behind_quiet : (content : Content) → (IsAskingStage (stage_behind content) → ⊥)
    × (failing (stage_behind content) ≡ None) × ((moves : Moves) → AsksFor moves (stage_behind content))
behind_quiet kept.None = ((λ x. x), refl, (λ moves. tt))
behind_quiet kept.Empty = ((λ x. x), refl, (λ moves. tt))
behind_quiet (kept.File size false) = ((λ x. x), refl, (λ moves. tt))
behind_quiet (kept.File size true) =
    elim (nat_lt 0 size) as (λ (b : Bool). (IsAskingStage (if b then sending 0 size else unread) → ⊥)
    × (failing (if b then sending 0 size else unread) ≡ None)
    × ((moves : Moves) → AsksFor moves (if b then sending 0 size
    else unread))) [ true ↦ ((λ x. x), refl, (λ moves. tt)) | false ↦ ((λ x. x), refl, (λ moves. tt)) ]

-- a stage after a part of a content asks for no file
pub sending_quiet : (stage : Stage) → IsSendingOut stage → IsAskingStage stage → ⊥
sending_quiet unread x y = y
sending_quiet short x y = y
sending_quiet (reading a reader room) x y = y
sending_quiet (refusing code) x y = y
sending_quiet (ready a behind seen path) x y = y
sending_quiet (wanting a behind seen path) x y = x
sending_quiet (sending at size) x y = y
sending_quiet (unmade end) x y = y
sending_quiet (broken at) x y = y
sending_quiet finished x y = y

-- more is wanted at plain stages
pub wanting_plain : (stage : Stage) (input : List ℕ) → IsWanting stage input → IsPlain stage
wanting_plain unread input x = absurd x
wanting_plain short input x = tt
wanting_plain (reading a reader room) input x = tt
wanting_plain (refusing code) input x = absurd x
wanting_plain (ready a behind seen path) input x = absurd x
wanting_plain (wanting a behind seen path) input x = absurd x
wanting_plain (sending at size) input x = absurd x
wanting_plain (unmade end) input x = absurd x
wanting_plain (broken at) input x = absurd x
wanting_plain finished input x = absurd x

pub ready_plain : (stage : Stage) → IsReadyStage stage → IsPlain stage
ready_plain unread x = absurd x
ready_plain short x = absurd x
ready_plain (reading a reader room) x = absurd x
ready_plain (refusing code) x = absurd x
ready_plain (ready a behind seen path) x = tt
ready_plain (wanting a behind seen path) x = absurd x
ready_plain (sending at size) x = absurd x
ready_plain (unmade end) x = absurd x
ready_plain (broken at) x = absurd x
ready_plain finished x = absurd x

grown_plain : (stage : Stage) → IsPlain stage → IsPlain (grown stage)
grown_plain unread x = tt
grown_plain short x = tt
grown_plain (reading a reader room) x = tt
grown_plain (refusing code) x = tt
grown_plain (ready a behind seen path) x = tt
grown_plain (wanting a behind seen path) x = x
grown_plain (sending at size) x = x
grown_plain (unmade end) x = x
grown_plain (broken at) x = x
grown_plain finished x = x

-- and stay so after a read
pub read_plain : (out : ReadOut) (stage : Stage) → IsPlain stage → IsPlain (stage_after out stage)
read_plain (Reads.Got n) stage x = grown_plain stage x
read_plain Reads.End stage x = x
read_plain Reads.NotYet stage x = x
read_plain Reads.Failed stage x = x
