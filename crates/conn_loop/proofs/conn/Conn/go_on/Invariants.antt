use Rattle.std.proofs.Common.{◌≡◌, ◌≤◌, None}
use Rattle.conn_loop.specs.Causes.{Clocked}
use Rattle.conn_loop.specs.Replying.{serving_over}
use Rattle.conn_loop.specs.ConnState.{AsksFor, held_lease}
use Rattle.conn_loop.specs.Steps.{ComesFor, GoesOver, to_go}
use Rattle.conn_loop.proofs.conn.Conn.go_on.Given as goal

abbrev pub invariant-requests : goal.invariant-requests
invariant-requests g l = record {
  stands : ComesFor None (serving_over (g.A.App.moves l.fn.app) g.F.Files.folder) l.self
      (g.L.Link.told l.link);
  asks : AsksFor (g.A.App.moves l.fn.app) l.self.stage;
  over : l.self.over ≡ l.fn.self.over;
  lent : held_lease l.self ≡ held_lease l.fn.self;
  nearer : to_go l.self ≤ to_go l.fn.self;
  clocked : Clocked l.fn.self l.self (g.C.Clock.told l.fn.clock) (g.C.Clock.told l.clock);
  goes : GoesOver None l.fn.self l.self (g.L.Link.told l.fn.link) (g.L.Link.told l.link)
      (g.F.Files.told l.fn.files) (g.F.Files.told l.files);
}

abbrev pub decreases-requests : goal.decreases-requests
decreases-requests g l = to_go l.self
