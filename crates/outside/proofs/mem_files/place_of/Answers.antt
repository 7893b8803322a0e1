use Rattle.std.proofs.Common.{◌∙◌, sym, ap}
use Rattle.std.specs.Prelude.{bytes_eq, Some}
use Rattle.std.proofs.lemmas.Option.{slice_get-get_or}
use Rattle.outside.proofs.MemFolderLemmas.{entry_found}
use Rattle.outside.proofs.mem_files.place_of.Goals as goal

pub returns-then-eq : goal.returns-then-eq
returns-then-eq c =
    let file = c.index-contents-i.result in
    let e = c.eq.ensures in
    let s = c.as_str.ensures.value in (
      c.loop-i-test.true,
      (
        file,
        slice_get-get_or c.args.contents.now c.loop-i.i file c.loop-i-test.true
            ∙ ap Some (sym c.index-contents-i.is),
        entry_found c.args.contents.now c.loop-i.i file c.args.path.now c.loop-i-test.true
            c.index-contents-i.is
            (ap (λ t. bytes_eq c.args.path.now t) (sym s) ∙ sym e ∙ c.if-eq.true) c.loop-i.invariant.1,
      ),
    )
