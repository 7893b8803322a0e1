use Rattle.conn_loop.proofs.phase.Phase.read.Goals as goal

pub returns-in-Got-clause-kept : goal.returns-in-Got-clause-kept
returns-in-Got-clause-kept c =
    λ input longer left fits same kept. c.more_came.ensures.kept input longer left fits kept
