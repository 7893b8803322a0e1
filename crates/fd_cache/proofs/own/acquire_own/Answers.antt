use Rattle.fd_cache.proofs.Acquires.{ran_fresh, ran_hit, ran_past}
use Rattle.fd_cache.proofs.own.acquire_own.Goals as goal

pub returns-in-Hit-clause-ran : goal.returns-in-Hit-clause-ran
returns-in-Hit-clause-ran g c = ran_hit _ _ c.in-Hit.lease _ _ _ c.in-Ok.ensures.ok c.in-Hit.ensures.enters

pub returns-in-Fresh-clause-ran : goal.returns-in-Fresh-clause-ran
returns-in-Fresh-clause-ran g c =
    ran_fresh _ _ c.in-Fresh.ticket.entry _ _ _ _ c.acquire.new.self _ c.in-Ok.ensures.ok
    c.in-Fresh.ensures.enters c.look.ensures.looked c.look.ensures.ended

pub returns-in-Bypass-clause-ran : goal.returns-in-Bypass-clause-ran
returns-in-Bypass-clause-ran g c =
    ran_past _ _ _ _ _ _ _ c.in-Ok.ensures.ok c.in-Bypass.ensures.enters c.look_past.ensures.looked
