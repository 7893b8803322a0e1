-- Inner: laws that crates above cite, or that those stand on: what `next_of` is, by what
-- the grammar says of the window.
use Rattle.std.proofs.Common.{◌≡◌, ℕ, Bool, true, false, cond, not, List, [], refl, sym, ap, ◌∙◌, subst}
use Rattle.std.proofs.Common.{append-nil, inl, inr}
use Rattle.std.proofs.lemmas.Bool.{both_ways}
use Rattle.httparse.specs.Grammar.{RequestHead, ReadsRequest, HasNoRequest, MayBecomeRequest, NeverHasRequest}
use Rattle.httparse.proofs.GrammarLemmas.{request_unique}
use Rattle.warp_response.specs.Statuses.{bad_request, uri_too_long, header_fields_too_large}
use Rattle.warp_request.specs.Checks.{parts_of, checked}
use Rattle.warp_request.specs.Lines.{has_line, breaks_line_rule}
use Rattle.warp_request.specs.Next.{window_of, waits, by_beginning, next_of}
use Rattle.warp_request.specs.Beginning.{Beginning, whole, unfinished, invalid, beginning}
use Rattle.warp_request.specs.Verdict.{refused}
use Rattle.warp_request.specs.LineRuleLaws.{rules_follow}
use Rattle.warp_request.specs.TargetLaws.{unfinished_target}

by_whole : (s w : List ℕ) (r : Beginning w) (h : RequestHead) (rest : List ℕ) → ReadsRequest w h rest
    → by_beginning s w r ≡ checked (parts_of h)
unfolding by_beginning
by_whole s w (whole k q y) h rest x =
    ap (λ (g : RequestHead). checked (parts_of g)) (request_unique w k h q rest y x).0
by_whole s w (unfinished nay may) h rest x = absurd (nay h rest x)
by_whole s w (invalid nay) h rest x =
    absurd (nay [] h rest (subst (λ (t : List ℕ). ReadsRequest t h rest) (sym (append-nil w)) x))

by_never : (s w : List ℕ) (r : Beginning w) → has_line w ≡ true → NeverHasRequest w
    → by_beginning s w r ≡ refused bad_request
unfolding by_beginning
by_never s w (whole h rest x) line nay =
    absurd (nay [] h rest (subst (λ (t : List ℕ). ReadsRequest t h rest) (sym (append-nil w)) x))
by_never s w (unfinished none (inl may)) line nay = absurd (nay may.0 may.1 [] may.2)
by_never s w (unfinished none (inr target)) line nay =
    absurd (both_ways (has_line w) (unfinished_target w target) line)
by_never s w (invalid also) line nay = refl

by_unfinished : (s w : List ℕ) (r : Beginning w) → has_line w ≡ true → HasNoRequest w → MayBecomeRequest w
    → by_beginning s w r ≡ waits header_fields_too_large s
unfolding by_beginning
by_unfinished s w (whole h rest x) line none may = absurd (none h rest x)
by_unfinished s w (unfinished also mays) line none may = refl
by_unfinished s w (invalid nay) line none (inl may) = absurd (nay may.0 may.1 [] may.2)
by_unfinished s w (invalid nay) line none (inr target) =
    absurd (both_ways (has_line w) (unfinished_target w target) line)

by_rules : (s w : List ℕ) (line broken : Bool) → has_line w ≡ line → breaks_line_rule w ≡ broken
    → cond (not line) (waits uri_too_long s)
    (cond broken (refused bad_request) (by_beginning s w (beginning w)))
    ≡ cond line (by_beginning s w (beginning w)) (waits uri_too_long s)
by_rules s w false broken is rule = refl
by_rules s w true false is rule = refl
by_rules s w true true is rule = sym (by_never s w (beginning w) is (rules_follow w is rule))

-- the rules of lines are no second scan: the grammar refuses what they refuse
pub next_by_beginning : (s : List ℕ)
    → next_of s ≡ cond (has_line (window_of s)) (by_beginning s (window_of s) (beginning (window_of s)))
    (waits uri_too_long s)
unfolding next_of
next_by_beginning s =
    by_rules s (window_of s) (has_line (window_of s)) (breaks_line_rule (window_of s)) refl refl

-- no line's end
pub next_line : (s : List ℕ) → has_line (window_of s) ≡ false → next_of s ≡ waits uri_too_long s
next_line s none = next_by_beginning s ∙ rw none refl

-- a head at the front
pub next_whole : (s : List ℕ) (h : RequestHead) (rest : List ℕ) → has_line (window_of s) ≡ true
    → ReadsRequest (window_of s) h rest
    → next_of s ≡ checked (parts_of h)
next_whole s h rest line x =
    next_by_beginning s ∙ rw line (by_whole s (window_of s) (beginning (window_of s)) h rest x)

-- no head, whatever follows
pub next_never : (s : List ℕ) → has_line (window_of s) ≡ true → NeverHasRequest (window_of s)
    → next_of s ≡ refused bad_request
next_never s line nay =
    next_by_beginning s ∙ rw line (by_never s (window_of s) (beginning (window_of s)) line nay)

-- no head yet
pub next_unfinished : (s : List ℕ) → has_line (window_of s) ≡ true → HasNoRequest (window_of s)
    → MayBecomeRequest (window_of s)
    → next_of s ≡ waits header_fields_too_large s
next_unfinished s line none may =
    next_by_beginning s ∙ rw line (by_unfinished s (window_of s) (beginning (window_of s)) line none may)
