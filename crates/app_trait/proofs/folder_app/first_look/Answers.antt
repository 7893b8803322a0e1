use Rattle.app_trait.specs.declared.request.Seen.TheVariants.{Nothing}
use Rattle.app_trait.proofs.folder_app.first_look.Goals as goal

pub returns-in-NotFound-clause-fits : goal.returns-in-NotFound-clause-fits
returns-in-NotFound-clause-fits c = c.plain.ensures.fits c.args.target.now Nothing
