use Rattle.app_trait.proofs.folder_app.file_move.Goals as goal

pub returns-in-FirstFound-clause-fits : goal.returns-in-FirstFound-clause-fits
returns-in-FirstFound-clause-fits c =
    rw c.in-FirstFound.is (c.found.ensures.fits c.args.target.now c.in-FirstFound.mtime)

pub returns-in-SecondFound-clause-fits : goal.returns-in-SecondFound-clause-fits
returns-in-SecondFound-clause-fits c = c.moved.ensures.fits c.args.seen

pub returns-in-SecondAbsent-clause-fits : goal.returns-in-SecondAbsent-clause-fits
returns-in-SecondAbsent-clause-fits c = c.plain.ensures.fits c.args.target.now c.args.seen
