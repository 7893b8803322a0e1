use Rattle.std.proofs.Common.{sym, subst}
use Rattle.warp_commands.specs.declared.status.Status.{Status}
use Rattle.warp_commands.specs.Causes.{IsServeCause}
use Rattle.warp_commands.specs.Served.{IsAnsweredFor}
use Rattle.warp_commands.proofs.AnsweredLemmas.{untouched, answered}
use Rattle.warp_commands.proofs.CauseLemmas.{gives_first, caused_after, stays_after}
use Rattle.warp_commands.proofs.connection.serve_link.Goals as goal

pub returns-in_default-clause-answered : goal.returns-in_default-clause-answered
returns-in_default-clause-answered g c =
    untouched c.nothing_is_open.ensures _ (g.C.Clock.told c.args.clock.now) g.F.Files.folder
    (g.L.Link.told c.args.link.now) tt (g.met.L.Link.ended_told c.args.link.now) c.requires

pub returns-in_default-new-clause-answered : goal.returns-in_default-new-clause-answered
returns-in_default-new-clause-answered g c =
    untouched c.nothing_is_open.ensures _ (g.C.Clock.told c.args.clock.now) g.F.Files.folder
    (g.L.Link.told c.args.link.now) tt (g.met.L.Link.ended_told c.args.link.now) c.requires

pub returns-in_default-new-2-clause-answered : goal.returns-in_default-new-2-clause-answered
returns-in_default-new-2-clause-answered g c =
    untouched c.nothing_is_open.ensures _ (g.C.Clock.told c.args.clock.now) g.F.Files.folder
    (g.L.Link.told c.args.link.now) tt (g.met.L.Link.ended_told c.args.link.now) c.requires

pub returns-clause-answered : goal.returns-clause-answered
returns-clause-answered g c =
    let link = g.L.Link.told c.args.link.now in
    let later = g.L.Link.told c.brought_on-step.new.link in
    let clock = g.C.Clock.told c.args.clock.now in
    let after = g.C.Clock.told c.brought_on-step.new.clock in
    let brought = c.brought_on-step.ensures in
    subst (λ (s : Status). IsAnsweredFor s g.F.Files.folder link later clock after) (sym c.status_of.ensures)
    (answered c.serves.ensures.table c.brought_on-step.result link later clock after g.F.Files.folder
    c.brought_on-step.new.conn brought.stops (g.met.L.Link.ended_told c.brought_on-step.new.link)
    (gives_first c.in-Ok.conn c.brought_on-step.new.conn clock after c.in-Ok.ensures.is brought.clocked)
    brought.brings.waits brought.prefix brought.implies)

pub returns-clause-caused : goal.returns-clause-caused
returns-clause-caused g c =
    let link = g.L.Link.told c.args.link.now in
    let later = g.L.Link.told c.brought_on-step.new.link in
    let files = g.F.Files.told c.args.files.now in
    let since = g.F.Files.told c.brought_on-step.new.files in
    subst (λ (s : Status). IsServeCause s link later files since) (sym c.status_of.ensures)
    (caused_after c.brought_on-step.result link later files since c.brought_on-step.ensures.stops
    c.brought_on-step.ensures.brings)

pub returns-clause-rooted : goal.returns-clause-rooted
returns-clause-rooted g c = c.brought_on-step.ensures.brings.of_files.rooted

pub returns-clause-stays : goal.returns-clause-stays
returns-clause-stays g c =
    stays_after c.brought_on-step.result _ _ _ _ c.in-Ok.conn c.brought_on-step.new.conn _ _
    c.brought_on-step.ensures.brings c.brought_on-step.ensures.clocked
