use Rattle.std.proofs.Common.{◌∙◌, ap}
use Rattle.outside.specs.Folder.{file_at}
use Rattle.outside.proofs.MemFolderLemmas.{entry_at-folder_in}
use Rattle.outside.proofs.mem_files.MemFiles.new.Goals as goal

pub invariant_of-result-clause-are : goal.invariant_of-result-clause-are
invariant_of-result-clause-are g c =
    λ path. entry_at-folder_in c.args.contents.items path ∙ ap (λ f. file_at f path) c.requires
