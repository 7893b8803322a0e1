use Rattle.std.proofs.Common.{◌<◌, sym, subst, arith, None, Some}
use Rattle.conn_loop.specs.Replying.{serving_over}
use Rattle.conn_loop.specs.ConnState.{ConnState}
use Rattle.conn_loop.specs.Steps.{IsSendingStage, to_go}
use Rattle.conn_loop.proofs.CauseLemmas.{goes_over, goes_part, goes_then}
use Rattle.conn_loop.proofs.MeasureLemmas.{to_go_same}
use Rattle.conn_loop.proofs.SendLemmas.{part_for, part_nearer, part_out, sending_out}
use Rattle.conn_loop.proofs.conn.Conn.send_part.Goals as goal

pub returns-in-Some-clause-stands : goal.returns-in-Some-clause-stands
returns-in-Some-clause-stands g c =
    λ moves x. c.in-Some.ensures.stands (serving_over moves g.F.Files.folder) x

pub returns-in-Some-clause-stage : goal.returns-in-Some-clause-stage
returns-in-Some-clause-stage g c =
    sending_out c.make_way_for_part.new.self.stage
    (subst (λ (s : ConnState). IsSendingStage s.stage)
    (sym c.make_way_for_part.ensures.same) c.requires.sends)

pub returns-in-Some-clause-nearer : goal.returns-in-Some-clause-nearer
returns-in-Some-clause-nearer g c = (
  omega (arith, to_go_same c.args.self.now c.make_way_for_part.new.self c.make_way_for_part.ensures.same),
  tt,
)

pub returns-in-Some-clause-goes : goal.returns-in-Some-clause-goes
returns-in-Some-clause-goes g c =
    goes_over (Some c.in-Some.step) c.args.self.now c.make_way_for_part.new.self
    (g.L.Link.told c.args.link.now) (g.L.Link.told c.make_way_for_part.new.link)
    (g.F.Files.told c.args.files.now) c.in-Some.ensures.goes

pub read_part-requires-clause-sends : goal.read_part-requires-clause-sends
read_part-requires-clause-sends g c =
    subst (λ (s : ConnState). IsSendingStage s.stage) (sym c.make_way_for_part.ensures.same) c.requires.sends

pub returns-clause-stands : goal.returns-clause-stands
returns-clause-stands g c = λ moves x.
    part_for moves g.F.Files.folder c.make_way_for_part.new.self c.read_part.new.self
    (g.L.Link.told c.make_way_for_part.new.link) _ _ c.read_part.ensures
    (c.in_default.ensures.stands (serving_over moves g.F.Files.folder) x)

pub returns-clause-stage : goal.returns-clause-stage
returns-clause-stage g c =
    part_out g.F.Files.folder c.make_way_for_part.new.self c.read_part.new.self _ _ c.read_part.ensures

pub returns-clause-nearer : goal.returns-clause-nearer
returns-clause-nearer g c =
    let fewer : to_go c.read_part.new.self < to_go c.args.self.now =
    omega (
      arith,
      part_nearer g.F.Files.folder c.make_way_for_part.new.self c.read_part.new.self _ _ c.read_part.ensures,
      to_go_same c.args.self.now c.make_way_for_part.new.self c.make_way_for_part.ensures.same,
    ) in
    (omega (arith, fewer), fewer)

pub returns-clause-goes : goal.returns-clause-goes
returns-clause-goes g c =
    let mid = c.make_way_for_part.new.self in
    let link = g.L.Link.told c.make_way_for_part.new.link in
    let files = g.F.Files.told c.args.files.now in
    goes_then None c.args.self.now mid c.read_part.new.self
    (g.L.Link.told c.args.link.now) link link files files (g.F.Files.told c.read_part.new.files)
    (goes_over None c.args.self.now mid (g.L.Link.told c.args.link.now) link files c.in_default.ensures.goes)
    (goes_part g.F.Files.folder mid c.read_part.new.self link files
    (g.F.Files.told c.read_part.new.files) c.read_part.ensures)
