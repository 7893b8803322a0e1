use Rattle.warp_commands.proofs.AnsweredLemmas.{untouched}
use Rattle.warp_commands.proofs.connection.carry_out.Goals as goal

pub returns-in-Ok-Serve-clause-answered : goal.returns-in-Ok-Serve-clause-answered
returns-in-Ok-Serve-clause-answered g c =
    untouched c.nothing_is_open.ensures _ (g.C.Clock.told c.args.clock.now) g.F.Files.folder
    (g.L.Link.told c.args.link.now) tt (g.met.L.Link.ended_told c.args.link.now) c.requires

pub returns-in-Ok-Serve-2-clause-answered : goal.returns-in-Ok-Serve-2-clause-answered
returns-in-Ok-Serve-2-clause-answered g c =
    untouched c.nothing_is_open.ensures _ (g.C.Clock.told c.args.clock.now) g.F.Files.folder
    (g.L.Link.told c.args.link.now) tt (g.met.L.Link.ended_told c.args.link.now) c.requires
