use Rattle.warp_core.specs.Rows.{OneDid, known_by}
use Rattle.warp_core.proofs.Caused.{caused_halted, caused_shown}
use Rattle.warp_core.proofs.Halting.{ends_halted, ends_shown}
use Rattle.warp_core.proofs.settling.settle.Goals as goal

pub show_over-over-requires-clause-some : goal.show_over-over-requires-clause-some
show_over-over-requires-clause-some g c = c.requires.some

pub show_over-over-requires-clause-serve : goal.show_over-over-requires-clause-serve
show_over-over-requires-clause-serve g c = c.requires.serve

pub show_over-over-requires-clause-limit : goal.show_over-over-requires-clause-limit
show_over-over-requires-clause-limit g c = c.requires.limit

pub show_over-over-requires-clause-seats : goal.show_over-over-requires-clause-seats
show_over-over-requires-clause-seats g c = c.requires.seats

pub returns-in-Some-clause-serve : goal.returns-in-Some-clause-serve
returns-in-Some-clause-serve g c = c.show_over-over.ensures.serve

pub returns-in-Some-clause-limit : goal.returns-in-Some-clause-limit
returns-in-Some-clause-limit g c = c.show_over-over.ensures.limit

pub returns-in-Some-clause-seats : goal.returns-in-Some-clause-seats
returns-in-Some-clause-seats g c = c.show_over-over.ensures.seats

pub returns-in-Some-clause-level : goal.returns-in-Some-clause-level
returns-in-Some-clause-level g c = c.show_over-over.ensures.level

pub returns-in-Some-clause-ends : goal.returns-in-Some-clause-ends
returns-in-Some-clause-ends g c =
    ends_halted known_by (λ row. (g.P.Poller.meaning.faults row.runner.poller).polls)
    (λ row. row.halted) c.args.limit c.in-Some.end c.show_over-over.new.rows
    (λ k d lt. (c.show_over-over.ensures.serve k d lt).halts) c.in-Some.ensures

pub returns-in-None-clause-serve : goal.returns-in-None-clause-serve
returns-in-None-clause-serve g c = c.show_over-over.ensures.serve

pub returns-in-None-clause-limit : goal.returns-in-None-clause-limit
returns-in-None-clause-limit g c = c.show_over-over.ensures.limit

pub returns-in-None-clause-seats : goal.returns-in-None-clause-seats
returns-in-None-clause-seats g c = c.show_over-over.ensures.seats

pub returns-in-None-clause-level : goal.returns-in-None-clause-level
returns-in-None-clause-level g c = c.show_over-over.ensures.level

pub returns-in-None-clause-ends : goal.returns-in-None-clause-ends
returns-in-None-clause-ends g c =
    ends_shown known_by (λ row. (g.P.Poller.meaning.faults row.runner.poller).polls) c.args.limit
    c.show_over-over.result c.show_over-over.new.rows c.show_over-over.ensures.ends

pub returns-in-Some-clause-cause : goal.returns-in-Some-clause-cause
returns-in-Some-clause-cause g c =
    caused_halted g.B.Book.told g.P.Poller.meaning.faults c.args.shared.now c.args.limit c.in-Some.end
    c.show_over-over.new.rows c.show_over-over.ensures.serve c.show_over-over.ensures.limit c.in-Some.ensures

pub returns-in-None-clause-cause : goal.returns-in-None-clause-cause
returns-in-None-clause-cause g c =
    caused_shown known_by c.args.limit c.show_over-over.result c.show_over-over.new.rows
    (OneDid g.B.Book.told c.args.limit c.show_over-over.new.rows) c.show_over-over.ensures.ends

pub returns-in-Some-clause-beats : goal.returns-in-Some-clause-beats
returns-in-Some-clause-beats g c = c.show_over-over.ensures.beats

pub returns-in-None-clause-beats : goal.returns-in-None-clause-beats
returns-in-None-clause-beats g c = c.show_over-over.ensures.beats
