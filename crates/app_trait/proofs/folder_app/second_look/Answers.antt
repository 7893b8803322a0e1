use Rattle.app_trait.specs.declared.request.Seen.TheVariants.{FirstAbsent}
use Rattle.app_trait.proofs.folder_app.second_look.Goals as goal

pub returns-in-Index-clause-fits : goal.returns-in-Index-clause-fits
returns-in-Index-clause-fits c = c.plain.ensures.fits c.args.target.now FirstAbsent

pub returns-in-NotFound-clause-fits : goal.returns-in-NotFound-clause-fits
returns-in-NotFound-clause-fits c = c.plain-in-NotFound.ensures.fits c.args.target.now FirstAbsent
