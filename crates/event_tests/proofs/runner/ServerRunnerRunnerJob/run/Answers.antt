use Rattle.std.proofs.Common.{◌≡◌, ℕ, [], refl, sym, ap, subst}
use Rattle.reg_keys.specs.declared.opening.Opening.{Opening}
use Rattle.event_mgr.specs.Manager.{mgr_view}
use Rattle.dispatcher.specs.Runs.{RunMade}
use Rattle.event_tests.specs.Accounting.{Owes, finishes_in, tag_of}
use Rattle.event_tests.proofs.Owing.{owes_from}
use Rattle.event_tests.proofs.runner.ServerRunnerRunnerJob.run.Goals as goal

pub returns-in_default-clause-made : goal.returns-in_default-clause-made
returns-in_default-clause-made g c =
    let v = mgr_view c.args.pass.now in
    subst (λ r. RunMade v r v) (sym c.events.ensures) (c.calls_of_runs.ensures.none v)

pub returns-in-Waits-clause-fits : goal.returns-in-Waits-clause-fits
returns-in-Waits-clause-fits g c o rest acc =
    let f = finishes_in c.note.new.self.finished.items in
    let job = c.in-Some.job in
    let noted : finishes_in c.args.self.now.book.now.finished.items ≡ f =
    ap (λ b. finishes_in b.items) (sym c.note.ensures) in
    let owes =
    subst (λ (h : Opening → ℕ → ℕ). Owes job.opening job.number h (mgr_view c.args.pass.now) rest) noted
    (owes_from (λ job. tag_of job.opening job.number) o c.args.fired.now job job.opening job.number
    (finishes_in c.args.self.now.book.now.finished.items)
    (mgr_view c.args.pass.now) rest c.in-Some.ensures.value refl acc) in
    c.in-Waits.ensures.taken f rest owes

pub returns-in-Refused-clause-fits : goal.returns-in-Refused-clause-fits
returns-in-Refused-clause-fits g c o rest acc =
    let f = finishes_in c.note.new.self.finished.items in
    let job = c.in-Some.job in
    let noted : finishes_in c.args.self.now.book.now.finished.items ≡ f =
    ap (λ b. finishes_in b.items) (sym c.note.ensures) in
    let owes =
    subst (λ (h : Opening → ℕ → ℕ). Owes job.opening job.number h (mgr_view c.args.pass.now) rest) noted
    (owes_from (λ job. tag_of job.opening job.number) o c.args.fired.now job job.opening job.number
    (finishes_in c.args.self.now.book.now.finished.items)
    (mgr_view c.args.pass.now) rest c.in-Some.ensures.value refl acc) in
    c.finish-in-Refused.ensures.finished rest (c.in-Refused.ensures.taken f rest owes)

pub returns-in-Refused-clause-made : goal.returns-in-Refused-clause-made
returns-in-Refused-clause-made g c =
    let v = mgr_view c.args.pass.now in
    let w = mgr_view c.finish-in-Refused.new.pass in
    let both = c.calls_of_runs.ensures.several v [] (mgr_view c.register_again.new.pass)
    [] w c.in-Refused.ensures.made c.finish-in-Refused.ensures.made in
    subst (λ r. RunMade v r w) (sym c.events-in-Refused.ensures) both

pub returns-in_default-drain-clause-fits : goal.returns-in_default-drain-clause-fits
returns-in_default-drain-clause-fits g c o rest acc =
    let f = finishes_in c.note.new.self.finished.items in
    let job = c.in-Some.job in
    let noted : finishes_in c.args.self.now.book.now.finished.items ≡ f =
    ap (λ b. finishes_in b.items) (sym c.note.ensures) in
    let owes =
    subst (λ (h : Opening → ℕ → ℕ). Owes job.opening job.number h (mgr_view c.args.pass.now) rest) noted
    (owes_from (λ job. tag_of job.opening job.number) o c.args.fired.now job job.opening job.number
    (finishes_in c.args.self.now.book.now.finished.items)
    (mgr_view c.args.pass.now) rest c.in-Some.ensures.value refl acc) in
    c.finish.ensures.finished rest owes
