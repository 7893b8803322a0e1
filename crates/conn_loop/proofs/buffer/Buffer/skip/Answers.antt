use Rattle.std.proofs.Common.{◌≡◌, ◌≤◌, ◌+◌, ◌-◌, ◌∙◌, ap, List, ℕ, length, take, drop, arith}
use Rattle.std.proofs.lemmas.List.{length-take}
use Rattle.conn_loop.proofs.WindowLemmas.{window_skip, window_gone}
use Rattle.conn_loop.proofs.buffer.Buffer.skip.Goals as goal
use Rattle.conn_loop.proofs.buffer.Buffer.skip.Goals.{then-start-self, else-start-self}

pub returns : goal.returns
returns c =
    let a = c.self.inside in
    let n = c.args.n in
    let was : take (a.end - a.start) (drop a.start a.room.items) ≡ c.args.self.now = c.self.view_is in
    let fits : n ≤ length (take (a.end - a.start) (drop a.start a.room.items)) =
    omega (arith, c.requires, ap (λ (t : List ℕ). length t) was) in
    let inside : a.start + n ≤ a.end =
    omega (arith, fits, length-take (a.end - a.start) (drop a.start a.room.items), c.self.invariant.0) in
    elim c.if-start-self.branch [
      | then-start-self w ↦ rw w.start-is
          (window_gone n a.start a.end a.room.items w.if-start-self.true ∙ ap (λ (t : List ℕ). drop n t) was)
      | else-start-self w ↦
          rw w.start-is (window_skip n a.start a.end a.room.items inside ∙ ap (λ (t : List ℕ). drop n t) was)
    ]
