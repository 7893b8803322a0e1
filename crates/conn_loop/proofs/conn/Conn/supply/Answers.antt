use Rattle.std.proofs.Common.{None}
use Rattle.conn_loop.specs.ConnState.{path_asked}
use Rattle.conn_loop.proofs.SupplyLemmas.{absent_is, fails_for, fails_nearer, found_is, sees_asked, sees_for}
use Rattle.conn_loop.proofs.SupplyLemmas.{sees_nearer}
use Rattle.conn_loop.proofs.conn.Conn.supply.Goals as goal

pub returns-in-Leased-clause-represents : goal.returns-in-Leased-clause-represents
returns-in-Leased-clause-represents g c = λ moves link ends y.
    let x = c.found.ensures in
    sees_for moves g.F.Files.folder c.args.self.now c.found.new.self link _ _ _ ends x
    (found_is g.F.Files.folder _ (path_asked c.args.self.now) x.path c.in-Leased.lease.size
    c.in-Leased.lease.mtime (sees_asked _ _ _ c.args.self.now c.found.new.self x)
    (rw c.in-Leased.is at c.requires.there) c.in-Leased.lease.there) y

pub returns-in-Leased-clause-nearer : goal.returns-in-Leased-clause-nearer
returns-in-Leased-clause-nearer g c = sees_nearer _ _ _ c.args.self.now c.found.new.self c.found.ensures

pub returns-in-Absent-clause-represents : goal.returns-in-Absent-clause-represents
returns-in-Absent-clause-represents g c = λ moves link ends y.
    let x = c.missed.ensures in
    sees_for moves g.F.Files.folder c.args.self.now c.missed.new.self link _ _ _ ends x
    (absent_is g.F.Files.folder (path_asked c.args.self.now) x.path None
    (sees_asked _ _ _ c.args.self.now c.missed.new.self x) (rw c.in-Absent.is at c.requires.there)) y

pub returns-in-Absent-clause-nearer : goal.returns-in-Absent-clause-nearer
returns-in-Absent-clause-nearer g c = sees_nearer _ _ _ c.args.self.now c.missed.new.self c.missed.ensures

pub returns-in-Failed-clause-represents : goal.returns-in-Failed-clause-represents
returns-in-Failed-clause-represents g c =
    λ moves link ends y.
    fails_for moves g.F.Files.folder c.args.self.now c.fail.new.self link _ c.fail.ensures.fails y

pub returns-in-Failed-clause-nearer : goal.returns-in-Failed-clause-nearer
returns-in-Failed-clause-nearer g c = fails_nearer _ c.args.self.now c.fail.new.self c.fail.ensures.fails
