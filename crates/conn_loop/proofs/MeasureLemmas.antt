-- The steps that are left, at most.
use Rattle.std.proofs.Common.{◌≡◌, ℕ, ◌+◌, ◌*◌, ◌<◌, ◌≤◌, List, length, Option, Some, None, sym, ap, subst}
use Rattle.std.proofs.Common.{arith, length-append, length-drop}
use Rattle.std.specs.Prelude.{IfNone}
use Rattle.outside.specs.Causes.{LinkTold}
use Rattle.outside.specs.declared.link.ReadOut.TheVariants as Reads
use Rattle.conn_loop.specs.declared.step.Step.{Step}
use Rattle.conn_loop.specs.Stages.{Stage, unread, short, reading, refusing, ready, wanting, sending, unmade}
use Rattle.conn_loop.specs.Stages.{broken, finished, body_steps, grown, looks_left, steps_left, IsWanting}
use Rattle.app_trait.specs.Moves.{Moves}
use Rattle.conn_loop.specs.Moves.{AsksToLook, Takes, waits_read}
use Rattle.conn_loop.specs.ConnState.{ConnState}
use Rattle.conn_loop.specs.Steps.{stage_after, to_go}

-- what is wanted has room
pub wanting_room : (stage : Stage) (input : List ℕ) → IsWanting stage input → length input ≤ 8192
wanting_room unread input wants = absurd wants
wanting_room short input wants = wants
wanting_room (reading a reader room) input wants = wants.0
wanting_room (refusing code) input wants = absurd wants
wanting_room (ready a behind seen path) input wants = absurd wants
wanting_room (wanting a behind seen path) input wants = absurd wants
wanting_room (sending at size) input wants = absurd wants
wanting_room (unmade end) input wants = absurd wants
wanting_room (broken at) input wants = absurd wants
wanting_room finished input wants = absurd wants

stage_fewer : (stage : Stage) (old new : List ℕ) → IsWanting stage old → length old < length new
    → steps_left (grown stage) new < steps_left stage old
stage_fewer unread old new wants longer = absurd wants
stage_fewer short old new wants longer = omega (arith, wants, longer)
stage_fewer (reading a reader room) old new wants longer =
    omega (arith, wants.1, longer, length-drop a.len old, length-drop a.len new)
stage_fewer (refusing code) old new wants longer = absurd wants
stage_fewer (ready a behind seen path) old new wants longer = absurd wants
stage_fewer (wanting a behind seen path) old new wants longer = absurd wants
stage_fewer (sending at size) old new wants longer = absurd wants
stage_fewer (unmade end) old new wants longer = absurd wants
stage_fewer (broken at) old new wants longer = absurd wants
stage_fewer finished old new wants longer = absurd wants

-- what is written changes nothing of it
pub to_go_same : (old new : ConnState)
    → new ≡ record old { pending = new.pending; bytes = new.bytes; waits = new.waits } → to_go new ≡ to_go old
to_go_same old new same = ap (λ (c : ConnState). to_go c) same

-- bytes came
pub got_nearer : (n : ℕ) (old mid new : ConnState) (k l : LinkTold)
    → mid ≡ record old { pending = mid.pending; bytes = mid.bytes; waits = mid.waits }
    → IsWanting old.stage old.input
    → Takes (Reads.Got n) mid.input new.input k l → new ≡ record mid {
      input = new.input;
      stage = stage_after (Reads.Got n) mid.stage;
      waits = waits_read (Reads.Got n) mid.waits;
    }
    → to_go new < to_go old
got_nearer n old mid new k l written wants takes same =
    let wanting : IsWanting mid.stage mid.input =
    subst (λ (c : ConnState). IsWanting c.stage c.input) (sym written) wants in
    let longer : length mid.input < length new.input = omega
    (arith, takes.some, ap (λ (v : List ℕ). length v) takes.grown, length-append mid.input takes.piece) in
    let fewer : steps_left (grown mid.stage) new.input < steps_left mid.stage mid.input =
    stage_fewer mid.stage mid.input new.input wanting longer in
    let stays : to_go new ≡ mid.left * (2 * body_steps) + steps_left (grown mid.stage) new.input =
    ap (λ (c : ConnState). to_go c) same in
    omega (arith, fewer, stays, to_go_same old mid written)

-- one step after the other
pub nearer_from : (result : Option Step) (a b c : ℕ) → IfNone result (a < b) → b ≤ c → IfNone result (a < c)
nearer_from None a b c x later = omega (arith, x, later)
nearer_from (Some step) a b c x later = tt

-- a look is asked for
pub asks_nearer : (moves : Moves) (old new : ConnState) → AsksToLook moves old new → to_go new < to_go old
asks_nearer moves old new x =
    let after : to_go new ≡ old.left * (2 * body_steps) + 2 * looks_left x.seen =
    ap (λ (c : ConnState). to_go c) x.same in
    let before : to_go old ≡ old.left * (2 * body_steps) + (2 * looks_left x.seen + 1) =
    ap (λ (st : Stage). old.left * (2 * body_steps) + steps_left st old.input) x.was in
    omega (arith, after, before)
