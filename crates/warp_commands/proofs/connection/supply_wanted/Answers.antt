use Rattle.std.proofs.Common.{ℕ, List, sym, subst}
use Rattle.fd_cache.specs.Calls.{entry_of}
use Rattle.app_trait.specs.Below.{LiesBelow}
use Rattle.app_trait.specs.FolderLaws.{folder_ends}
use Rattle.app_trait.specs.FolderMoves.{folder_move}
use Rattle.warp_commands.specs.Steps.{fails_by}
use Rattle.warp_commands.proofs.BroughtLemmas.{asked_below, fails_held, files_look}
use Rattle.warp_commands.proofs.connection.supply_wanted.Goals as goal

pub returns-clause-represents : goal.returns-clause-represents
returns-clause-represents g c link x = c.supply.ensures.represents folder_move link folder_ends x

pub returns-clause-looked : goal.returns-clause-looked
returns-clause-looked g c =
    let old = g.F.Files.told c.args.files.now in
    let new = g.F.Files.told c.found_at-got.new.files in
    let looked = c.found_at-got.ensures.looked in
    let below = asked_below c.args.conn.now.stage c.requires.asking c.requires.asks c.serves.ensures.below in (
      files_look c.wanted.result.now (fails_by c.found_at-got.result) old new
          (subst (λ (path : List ℕ). LiesBelow path) (sym c.wanted.ensures) below) looked,
      fails_held (λ lease. g.F.Files.file_path lease.file) (λ lease. entry_of lease) c.found_at-got.result
          c.supply.new.self old.faults new.faults c.supply.ensures.holds.0 looked.failed,
    )
