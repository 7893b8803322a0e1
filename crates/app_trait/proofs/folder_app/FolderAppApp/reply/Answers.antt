use Rattle.std.proofs.Common.{ap}
use Rattle.app_trait.specs.Moves.{answer}
use Rattle.app_trait.specs.FolderMoves.{folder_move}
use Rattle.app_trait.specs.declared.method.Method.TheVariants.{Get, Head}
use Rattle.app_trait.specs.Moves.{text_of}
use Rattle.app_trait.proofs.KeptLemmas.{kept_of}
use Rattle.app_trait.proofs.folder_app.FolderAppApp.reply.Goals as goal

pub returns-in-Get-clause-is : goal.returns-in-Get-clause-is
unfolding folder_move
returns-in-Get-clause-is c = rw (← c.in-Get.ensures) c.file_move.ensures.is

pub returns-in-Head-clause-is : goal.returns-in-Head-clause-is
unfolding folder_move
returns-in-Head-clause-is c = rw (← c.in-Head.ensures) c.file_move-in-Head.ensures.is

pub returns-in-Options-clause-is : goal.returns-in-Options-clause-is
unfolding folder_move
returns-in-Options-clause-is c =
    rw (← c.in-Options.ensures) (ap answer (c.plain.ensures.is c.args.request.now.target.now))

pub returns-in-Options-clause-fits : goal.returns-in-Options-clause-fits
returns-in-Options-clause-fits c = c.plain.ensures.fits c.args.request.now.target.now c.args.seen

pub returns-in-Refused-clause-is : goal.returns-in-Refused-clause-is
unfolding folder_move
returns-in-Refused-clause-is c =
    rw (← c.in-Refused.ensures) (ap answer (c.plain-in-Refused.ensures.is c.args.request.now.target.now))

pub returns-in-Refused-clause-fits : goal.returns-in-Refused-clause-fits
returns-in-Refused-clause-fits c = c.plain-in-Refused.ensures.fits c.args.request.now.target.now c.args.seen

pub returns-in-Unknown-clause-is : goal.returns-in-Unknown-clause-is
unfolding folder_move
returns-in-Unknown-clause-is c =
    rw (← c.in-Unknown.ensures) (ap answer (c.plain-in-Unknown.ensures.is c.args.request.now.target.now))

pub returns-in-Unknown-clause-fits : goal.returns-in-Unknown-clause-fits
returns-in-Unknown-clause-fits c = c.plain-in-Unknown.ensures.fits c.args.request.now.target.now c.args.seen

pub file_move-requires : goal.file_move-requires
file_move-requires c = record {
  kept =
      kept_of (text_of c.args.request.now) Get c.args.seen c.args.path.now c.in-Get.ensures c.requires.kept;
}

pub file_move-requires-in-Head : goal.file_move-requires-in-Head
file_move-requires-in-Head c = record {
  kept =
      kept_of (text_of c.args.request.now) Head c.args.seen c.args.path.now c.in-Head.ensures c.requires.kept;
}
