use Rattle.std.proofs.Common.{refl, None, Some, ◌∙◌, arith}
use Rattle.conn_loop.proofs.CauseLemmas.{clocked_none, clocked_then, goes_none, goes_then}
use Rattle.conn_loop.proofs.CallLemmas.{proceeds_then}
use Rattle.conn_loop.proofs.conn.Conn.go_on.Goals as goal

pub requests-init : goal.requests-init
requests-init g c = record {
  stands = c.requires.stands;
  asks = c.requires.asks;
  over = refl;
  lent = refl;
  nearer = omega arith;
  clocked = clocked_none c.args.self.now c.args.self.now _ refl;
  goes = goes_none c.args.self.now (g.L.Link.told c.args.link.now) (g.F.Files.told c.args.files.now);
}

pub step-requires-clause-running : goal.step-requires-clause-running
step-requires-clause-running g c = c.requests.invariant.over ∙ c.requires.running

pub requests-preserved : goal.requests-preserved
requests-preserved g c =
    let was = c.requests.invariant in
    record {
      stands = c.in_default.ensures.stands was.stands;
      asks = c.in_default.ensures.proceeds.asks;
      over = c.in_default.ensures.proceeds.over ∙ was.over;
      lent = c.in_default.ensures.proceeds.lent ∙ was.lent;
      nearer = omega (arith, was.nearer, c.in_default.ensures.nearer.0);
      clocked =
          clocked_then c.args.self.now c.requests.self c.step.new.self _ _ _ was.clocked
          c.step.ensures.clocked;
      goes =
          goes_then None c.args.self.now c.requests.self c.step.new.self (g.L.Link.told c.args.link.now)
          (g.L.Link.told c.requests.link) (g.L.Link.told c.step.new.link)
          (g.F.Files.told c.args.files.now) (g.F.Files.told c.requests.files)
          (g.F.Files.told c.step.new.files) was.goes c.in_default.ensures.goes;
    }

pub requests-smaller : goal.requests-smaller
requests-smaller g c = c.in_default.ensures.nearer.1

pub returns-in-Some-clause-stands : goal.returns-in-Some-clause-stands
returns-in-Some-clause-stands g c = c.in-Some.ensures.stands c.requests.invariant.stands

pub returns-in-Some-clause-proceeds : goal.returns-in-Some-clause-proceeds
returns-in-Some-clause-proceeds g c =
    proceeds_then (g.A.App.moves c.args.app.now) (Some c.in-Some.step) c.args.self.now c.requests.self
    c.step.new.self c.requests.invariant.over c.requests.invariant.lent c.in-Some.ensures.proceeds

pub returns-in-Some-clause-nearer : goal.returns-in-Some-clause-nearer
returns-in-Some-clause-nearer g c = omega (arith, c.requests.invariant.nearer, c.in-Some.ensures.nearer.0)

pub returns-in-Some-clause-clocked : goal.returns-in-Some-clause-clocked
returns-in-Some-clause-clocked g c =
    clocked_then c.args.self.now c.requests.self c.step.new.self _ _ _ c.requests.invariant.clocked
    c.step.ensures.clocked

pub returns-in-Some-clause-goes : goal.returns-in-Some-clause-goes
returns-in-Some-clause-goes g c =
    goes_then (Some c.in-Some.step) c.args.self.now c.requests.self c.step.new.self
    (g.L.Link.told c.args.link.now) (g.L.Link.told c.requests.link) (g.L.Link.told c.step.new.link)
    (g.F.Files.told c.args.files.now) (g.F.Files.told c.requests.files)
    (g.F.Files.told c.step.new.files) c.requests.invariant.goes c.in-Some.ensures.goes
