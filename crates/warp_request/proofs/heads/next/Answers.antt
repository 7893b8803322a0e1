use Rattle.std.proofs.Common.{◌≡◌, ◌∙◌, ◌==◌, ℕ, List, [], ◌∷◌, length, ap, sym, true, arith}
use Rattle.std.proofs.lemmas.Bool.{eqb-true}
use lib.Seq.{take-nil}
use Rattle.warp_request.specs.LimitsAndWords.{head_limit}
use Rattle.warp_request.specs.Lines.{has_line, skip_empty}
use Rattle.warp_request.specs.Next.{next_of, waits, window_of}
use Rattle.warp_request.specs.Verdict.{more}
use Rattle.warp_request.specs.LineRuleLaws.{whole_line}
use Rattle.warp_request.specs.BeginningLaws.{next_line, next_unfinished, next_never, next_whole}
use Rattle.warp_request.proofs.ShownLemmas.{shown-take, LiesIn-take}
use Rattle.warp_request.proofs.heads.next.Goals as goal

-- no bytes are too little to say
next_empty : (s : List ℕ) → (length s == 0) ≡ true → next_of s ≡ more
unfolding has_line skip_empty waits
next_empty [] none = next_line [] (ap has_line (take-nil head_limit))
next_empty (b ∷ s) none =
    let none_there : length (b ∷ s) ≡ 0 = eqb-true (length (b ∷ s)) 0 none in
    absurd (omega (arith, none_there))

pub returns-then-is_empty-clause-is : goal.returns-then-is_empty-clause-is
returns-then-is_empty-clause-is c =
    sym (next_empty c.args.bytes.now (sym c.is_empty.ensures ∙ c.if-is_empty.true))

pub returns-in-Whole-clause-is : goal.returns-in-Whole-clause-is
returns-in-Whole-clause-is c =
    let reads = rw c.window-window.ensures.is at c.in-Whole.ensures in
    let line : has_line (window_of c.args.bytes.now) ≡ true =
    whole_line (window_of c.args.bytes.now) reads.0.0 reads.0.1 reads.0.2 in
    shown-take c.args.bytes.now head_limit _ reads.1 ∙ reads.0.3
    ∙ sym (next_whole c.args.bytes.now reads.0.0 reads.0.1 line reads.0.2)

pub returns-in-Whole-clause-within : goal.returns-in-Whole-clause-within
returns-in-Whole-clause-within c =
    let reads = rw c.window-window.ensures.is at c.in-Whole.ensures in
    LiesIn-take c.args.bytes.now head_limit _ reads.1

pub returns-in_default-clause-is : goal.returns-in_default-clause-is
returns-in_default-clause-is c =
    c.more_or.ensures.is
    ∙ sym (next_line c.args.bytes.now
    (ap has_line (sym c.window-window.ensures.is) ∙ sym c.has_line.ensures ∙ c.if-not-has_line.true))

pub returns-in-Cut-clause-is : goal.returns-in-Cut-clause-is
returns-in-Cut-clause-is c =
    let line : has_line (window_of c.args.bytes.now) ≡ true =
    ap has_line (sym c.window-window.ensures.is) ∙ sym c.has_line.ensures ∙ c.if-not-has_line.false in
    let reads = rw c.window-window.ensures.is at c.in-Cut.ensures in
    c.more_or-in-Cut.ensures.is ∙ sym (next_unfinished c.args.bytes.now line reads.0 reads.1)

pub returns-in-Wrong-clause-is : goal.returns-in-Wrong-clause-is
returns-in-Wrong-clause-is c =
    let line : has_line (window_of c.args.bytes.now) ≡ true =
    ap has_line (sym c.window-window.ensures.is) ∙ sym c.has_line.ensures ∙ c.if-not-has_line.false in
    let reads = rw c.window-window.ensures.is at c.in-Wrong.ensures in
    sym (next_never c.args.bytes.now line reads)
