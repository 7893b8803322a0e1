use Rattle.event_mgr.specs.Manager.{mgr_view}
use Rattle.event_mgr.proofs.Shared.{shared_known}
use Rattle.event_mgr.proofs.leveling.MgrPassShare.share.Goals as goal

pub returns-clause-shared : goal.returns-clause-shared
returns-clause-shared g c =
    shared_known (mgr_view c.args.from.now) (mgr_view c.args.to.now) (mgr_view c.share.new.from)
    (mgr_view c.share.new.to) c.requires.from.lawful c.requires.to.lawful c.share.ensures.shared
