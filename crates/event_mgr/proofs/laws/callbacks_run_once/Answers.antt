use Rattle.event_mgr.proofs.Seen.{legal_seen}
use Rattle.event_mgr.proofs.laws.callbacks_run_once.Goals as goal

pub returns-clause-once : goal.returns-clause-once
returns-clause-once c = λ v s l. c.legal_runs_once.ensures s 1 _ (legal_seen v l s)

pub returns-clause-event : goal.returns-clause-event
returns-clause-event c = λ v s l. c.legal_has_one_event_each.ensures s 1 _ (legal_seen v l s)

pub returns-clause-everywhere : goal.returns-clause-everywhere
returns-clause-everywhere c =
    λ v l. c.legal_stripes_happen_once.ensures (λ s. 1) _ (λ s low. legal_seen v l s)
