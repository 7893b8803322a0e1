use Rattle.std.proofs.Common.{sym, ap, ◌∙◌, subst}
use Rattle.app_trait.specs.FolderMoves.{folder_move}
use Rattle.conn_loop.specs.Replying.{serving_over}
use Rattle.conn_loop.specs.ConnState.{ConnState, StepImpliesFor}
use Rattle.warp_commands.proofs.BroughtLemmas.{clocked_then, goes_supplied, brings_at}
use Rattle.warp_commands.proofs.connection.brought_on.Goals as goal

pub files-preserved : goal.files-preserved
files-preserved g c =
    let link = g.L.Link.told c.advance-step.new.link in
    let was = c.in-WantFile.ensures in
    record {
      stands =
          c.supply_wanted.ensures.represents link
          (c.spent_lease-spent.ensures.represents folder_move link was.represents);
      clocked =
          clocked_then c.args.conn.now c.files.conn c.advance-step.new.self c.supply_wanted.new.conn
          _ _ _ c.files.invariant.clocked was.clocked
          (ap (λ (s : ConnState). s.moments) c.supply_wanted.ensures.same
          ∙ ap (λ (s : ConnState). s.moments) c.spent_lease-spent.ensures.same);
      goes =
          goes_supplied c.advance-step.new.self c.supply_wanted.new.conn c.files.conn _ _ _ _ _
          _ _ c.files.invariant.goes was.counted.0 was.keeps.0
          (ap (λ (s : ConnState). s.over) c.supply_wanted.ensures.same
          ∙ ap (λ (s : ConnState). s.over) c.spent_lease-spent.ensures.same ∙ was.over.0)
          c.supply_wanted.ensures.looked.0
          c.supply_wanted.ensures.looked.1;
    }

pub returns-in_default : goal.returns-in_default
returns-in_default g c =
    let link = g.L.Link.told c.advance-step.new.link in
    let serving = serving_over folder_move g.F.Files.folder in
    let was = c.advance-step.ensures in
    record {
      prefix =
          c.sent_is_a_prefix.ensures folder_move g.F.Files.folder c.spent_lease-spent.new.self link
          (c.spent_lease-spent.ensures.represents folder_move link was.represents);
      implies =
          subst (λ (s : ConnState). StepImpliesFor c.advance-step.result serving s link)
          (sym c.spent_lease-spent.ensures.same) was.implies;
      stops = c.in_default.not-WantFile;
      clocked =
          clocked_then c.args.conn.now c.files.conn c.advance-step.new.self c.spent_lease-spent.new.self
          _ _ _ c.files.invariant.clocked was.clocked
          (ap (λ (s : ConnState). s.moments) c.spent_lease-spent.ensures.same);
      brings =
          brings_at c.advance-step.result c.files.conn c.advance-step.new.self _ _ _ _ _ _
          c.files.invariant.goes was.caused was.counted.0 was.keeps.0;
    }
