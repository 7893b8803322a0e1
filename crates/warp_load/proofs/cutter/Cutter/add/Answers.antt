use Rattle.std.proofs.Common.{◌≡◌, ℕ, ◌++◌, [], List, length, drop, ap, sym, subst, ◌∙◌, arith, append_assoc}
use Rattle.std.proofs.Common.{append-nil}
use Rattle.std.proofs.lemmas.List.{take-append-drop, nil_from_length}
use Rattle.warp_load.specs.Cutting.{IsCut}
use Rattle.warp_load.proofs.CutterLemmas.{pos_of, zero_of}
use Rattle.warp_load.proofs.cutter.Cutter.add.Goals as goal

pub loop-rest-preserved : goal.loop-rest-preserved
loop-rest-preserved c =
    let inv = c.loop-rest.invariant in
    let next = c.split_at.result.0.now in
    let later = c.split_at.result.1.now in
    let parts : c.loop-rest.rest.now ≡ next ++ later =
    sym (take-append-drop c.min.result c.loop-rest.rest.now)
    ∙ ap (λ (t : List ℕ). t ++ drop c.min.result c.loop-rest.rest.now) (sym c.split_at.ensures.front)
    ∙ ap (λ (t : List ℕ). next ++ t) (sym c.split_at.ensures.back) in
    record {
      cut = λ front before.
          let so_far = inv.cut front before in (
            so_far.0 ++ next,
            so_far.1 ∙ ap (λ (t : List ℕ). so_far.0 ++ t) parts ∙ sym (append_assoc so_far.0 next later),
            subst (λ (t : List ℕ). IsCut c.fill.new.self t) (append_assoc front so_far.0 next)
                (c.in_ok-fill.ensures.cut (front ++ so_far.0) so_far.2),
          );
      same = record {
        seed = c.fill.ensures.same.seed ∙ inv.same.seed;
        connection = c.fill.ensures.same.connection ∙ inv.same.connection;
      };
      few = omega (
        arith,
        c.in_ok-fill.ensures.few,
        c.split_at.ensures.back_len,
        pos_of (length c.loop-rest.rest.now) c.loop-rest-test.ensures,
      );
      short = c.in_ok-fill.ensures.short;
    }

pub returns-clause-cut : goal.returns-clause-cut
returns-clause-cut c front before =
    let so_far = c.loop-rest.invariant.cut front before in
    let none : c.loop-rest.rest.now ≡ [] =
    nil_from_length _ (zero_of (length c.loop-rest.rest.now) c.loop-rest-test.ensures) in
    let all : so_far.0 ≡ c.args.bytes.now =
    sym (so_far.1 ∙ ap (λ (t : List ℕ). so_far.0 ++ t) none ∙ append-nil so_far.0) in
    subst (λ (t : List ℕ). IsCut c.loop-rest.self (front ++ t)) all so_far.2
