use Rattle.std.proofs.Common.{◌≡◌, ◌∙◌, ap, sym, refl, arith, ℕ, List, Option}
use Rattle.conn_loop.specs.ConnState.{ConnState, held_lease}
use Rattle.conn_loop.proofs.CauseLemmas.{clocked_kept, clocked_none, files_none}
use Rattle.conn_loop.proofs.KeptLemmas.{caused_of, counted_of, if_ended, if_none, if_over, if_some, kept_asks}
use Rattle.conn_loop.proofs.KeptLemmas.{kept_fewer, kept_file}
use Rattle.conn_loop.proofs.CallLemmas.{implied_for, kept_for, open_for, over_for}
use Rattle.conn_loop.proofs.conn.Conn.advance.Goals as goal

pub returns-in-Some-clause-implies : goal.returns-in-Some-clause-implies
returns-in-Some-clause-implies g c =
    over_for c.in-Some.end (g.A.App.moves c.args.app.now) g.F.Files.folder c.args.self.now
    (g.L.Link.told c.args.link.now) (sym c.in-Some.ensures.is) c.requires.stands

pub returns-in-Some-clause-clocked : goal.returns-in-Some-clause-clocked
returns-in-Some-clause-clocked g c = clocked_none c.args.self.now c.args.self.now _ refl

pub returns-in-Some-clause-caused : goal.returns-in-Some-clause-caused
returns-in-Some-clause-caused g c = if_over c.args.self.now.over c.in-Some.end _ (sym c.in-Some.ensures.is)

pub returns-in-Some-clause-over : goal.returns-in-Some-clause-over
returns-in-Some-clause-over g c = (
  sym c.in-Some.ensures.is,
  ((λ e. cc), (λ asks. absurd (c.in-Some.ensures.quiet asks))),
  if_ended c.args.self.now.over c.in-Some.end _ (sym c.in-Some.ensures.is) (refl, refl, refl, refl, refl),
)

pub returns-in-Some-clause-keeps : goal.returns-in-Some-clause-keeps
returns-in-Some-clause-keeps g c = (
  record {
    of_link = record { reads = omega arith; writes = omega arith; plan = refl };
    of_files = files_none (g.F.Files.told c.args.files.now);
  },
  omega arith,
)

pub go_on-step-requires-clause-stands : goal.go_on-step-requires-clause-stands
go_on-step-requires-clause-stands g c =
    open_for (g.A.App.moves c.args.app.now) g.F.Files.folder c.args.self.now (g.L.Link.told c.args.link.now)
    (sym c.over.ensures.is ∙ c.in_default.is) c.requires.stands

pub returns-clause-represents : goal.returns-clause-represents
returns-clause-represents g c = record {
  stands =
      kept_for c.go_on-step.result (g.A.App.moves c.args.app.now) g.F.Files.folder c.go_on-step.new.self
      c.keep.new.self (g.L.Link.told c.go_on-step.new.link) c.keep.ensures c.go_on-step.ensures.stands;
  asks =
      kept_asks (g.A.App.moves c.args.app.now) c.go_on-step.result c.go_on-step.new.self c.keep.new.self
      c.keep.ensures c.go_on-step.ensures.proceeds.asks;
}

pub returns-clause-implies : goal.returns-clause-implies
returns-clause-implies g c =
    implied_for c.go_on-step.result (g.A.App.moves c.args.app.now) g.F.Files.folder c.go_on-step.new.self
    c.keep.new.self (g.L.Link.told c.go_on-step.new.link)
    (ap (λ (s : ConnState). s.moments) c.keep.ensures) c.go_on-step.ensures.stands

pub returns-clause-clocked : goal.returns-clause-clocked
returns-clause-clocked g c =
    clocked_kept c.args.self.now c.go_on-step.new.self c.keep.new.self _ _
    (ap (λ (s : ConnState). s.moments) c.keep.ensures) c.go_on-step.ensures.clocked

pub returns-clause-caused : goal.returns-clause-caused
returns-clause-caused g c =
    if_none c.args.self.now.over _
    (λ runs. caused_of c.go_on-step.result c.args.self.now c.go_on-step.new.self c.keep.new.self
    (g.L.Link.told c.args.link.now) (g.L.Link.told c.go_on-step.new.link)
    (g.F.Files.told c.args.files.now)
    (g.F.Files.told c.go_on-step.new.files) c.keep.ensures c.go_on-step.ensures.goes)

pub returns-clause-counted : goal.returns-clause-counted
returns-clause-counted g c = (
  c.go_on-step.ensures.goes.counts,
  λ was.
      counted_of c.go_on-step.result c.go_on-step.new.self c.keep.new.self
      (g.L.Link.told c.go_on-step.new.link) c.keep.ensures (c.go_on-step.ensures.goes.counted was),
)

pub returns-clause-over : goal.returns-clause-over
returns-clause-over g c = (
  ap (λ (s : ConnState). s.over) c.keep.ensures,
  kept_file c.go_on-step.result c.go_on-step.new.self c.keep.new.self c.keep.ensures
      c.go_on-step.ensures.proceeds.file,
  if_some c.args.self.now.over _ (sym c.over.ensures.is ∙ c.in_default.is),
)

pub returns-clause-keeps : goal.returns-clause-keeps
returns-clause-keeps g c = (
  c.go_on-step.ensures.goes.keeps,
  omega (
    arith,
    kept_fewer c.go_on-step.result c.go_on-step.new.self c.keep.new.self c.keep.ensures,
    c.go_on-step.ensures.nearer,
  ),
)

pub returns-clause-lends : goal.returns-clause-lends
returns-clause-lends g c =
    let lent : held_lease c.keep.new.self ≡ held_lease c.args.self.now =
    ap (λ (s : ConnState). held_lease s) c.keep.ensures ∙ c.go_on-step.ensures.proceeds.lent in
    (ap (λ (l : Option (List ℕ) × Option ℕ). l.0) lent, ap (λ (l : Option (List ℕ) × Option ℕ). l.1) lent)
