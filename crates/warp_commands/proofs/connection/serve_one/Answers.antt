use Rattle.warp_commands.proofs.AnsweredLemmas.{untouched}
use Rattle.warp_commands.proofs.connection.serve_one.Goals as goal

pub returns-in-Absent-clause-answered : goal.returns-in-Absent-clause-answered
returns-in-Absent-clause-answered g c =
    untouched c.nothing_is_open.ensures _ (g.C.Clock.told c.args.clock.now) g.F.Files.folder
    (g.L.Link.told c.args.link.now) tt (g.met.L.Link.ended_told c.args.link.now) c.requires

pub returns-in-Failed-clause-answered : goal.returns-in-Failed-clause-answered
returns-in-Failed-clause-answered g c =
    untouched c.nothing_is_open.ensures _ (g.C.Clock.told c.args.clock.now) g.F.Files.folder
    (g.L.Link.told c.args.link.now) tt (g.met.L.Link.ended_told c.args.link.now) c.requires

pub returns-in-NoMemory-clause-answered : goal.returns-in-NoMemory-clause-answered
returns-in-NoMemory-clause-answered g c =
    untouched c.nothing_is_open.ensures _ (g.C.Clock.told c.args.clock.now) g.F.Files.folder
    (g.L.Link.told c.args.link.now) tt (g.met.L.Link.ended_told c.args.link.now) c.requires
