-- Inner: laws that crates above cite, or that those stand on: a refusal or a head stays,
-- whatever bytes follow.
use Rattle.std.proofs.Common.{◌≡◌, ◌≢◌, ℕ, ◌+◌, ◌-◌, ◌<◌, ◌≤◌, ◌⊎◌, Bool, true, false, cond, ◌==◌, ◌||◌, List}
use Rattle.std.proofs.Common.{◌++◌, length, take, refl, sym, ap, ◌∙◌, subst, arith, append_assoc}
use Rattle.std.proofs.Common.{length-append, inl, inr, nat_lt}
use Rattle.std.proofs.Math.Seq.{take-append-add}
use Rattle.std.specs.List.{list_any}
use Rattle.std.proofs.lemmas.Bool.{cases_lt}
use Rattle.std.proofs.lemmas.Bool.Decides.{nat_tests}
use Rattle.std.proofs.lemmas.List.{take_all, take-append-le}
use Rattle.std.proofs.lemmas.List.Folds.{list_any-append}
use Rattle.httparse.specs.Grammar.{ReadsRequest, NeverHasRequest}
use Rattle.httparse.proofs.GrammarLemmas.{ReadsRequest-append}
use Rattle.warp_request.specs.LimitsAndWords.{head_limit}
use Rattle.warp_response.specs.Statuses.{uri_too_long, header_fields_too_large}
use Rattle.warp_request.specs.Lines.{skip_empty, has_line}
use Rattle.warp_request.specs.Next.{window_of, waits, by_beginning, next_of}
use Rattle.warp_request.specs.Beginning.{Beginning, whole, unfinished, invalid, beginning}
use Rattle.warp_request.specs.Verdict.{Verdict, more, refused}
use Rattle.warp_request.specs.LineRuleLaws.{skip_empty-append}
use Rattle.warp_request.specs.BeginningLaws.{next_by_beginning, next_whole, next_never}

-- a line's end that is there stays there
pub has_line-append : (s t : List ℕ) → has_line s ≡ true → has_line (s ++ t) ≡ true
unfolding has_line
has_line-append s t line =
    ap (list_any (λ b. b == 10)) (skip_empty-append s t line)
    ∙ list_any-append (λ b. b == 10) (skip_empty s) t ∙ ap (λ v. v || list_any (λ b. b == 10) t) line

window-append : (s t : List ℕ) → length s < head_limit
    → window_of (s ++ t) ≡ s ++ take (head_limit - length s) t
window-append s t short =
    let e : head_limit ≡ length s + (head_limit - length s) = omega arith in
    ap (λ (n : ℕ). take n (s ++ t)) e ∙ take-append-add s t (head_limit - length s)

-- below the limit more is waited for
pub waits_short : (code : ℕ) (s : List ℕ) → length s < head_limit → waits code s ≡ more
unfolding waits
waits_short code s short =
    let test : nat_lt (length s) head_limit ≡ true = grind (arith, nat_tests) in
    rw test refl

-- at the limit what is waited for is refused
pub waits_long : (code : ℕ) (s : List ℕ) → head_limit ≤ length s → waits code s ≡ refused code
unfolding waits
waits_long code s long =
    let test : nat_lt (length s) head_limit ≡ false = grind (arith, nat_tests) in
    rw test refl

never-append : (w t : List ℕ) → NeverHasRequest w → NeverHasRequest (w ++ t)
never-append w t nay after head rest x =
    nay (t ++ after) head rest (subst (λ (u : List ℕ). ReadsRequest u head rest) (append_assoc w t after) x)

-- a short window, which is the bytes themselves
short_grows : (s t : List ℕ) (v : Verdict) (line : Bool) (r : Beginning s) → length s < head_limit
    → has_line s ≡ line
    → cond line (by_beginning s s r) (waits uri_too_long s) ≡ v → v ≢ more → next_of (s ++ t) ≡ v
unfolding by_beginning
short_grows s t v false r short is same settled =
    absurd (settled (sym same ∙ waits_short uri_too_long s short))
short_grows s t v true (whole h rest x) short is same settled =
    let window = window-append s t short in
    next_whole (s ++ t) h (rest ++ take (head_limit - length s) t)
    (ap has_line window ∙ has_line-append s (take (head_limit - length s) t) is)
    (subst (λ (u : List ℕ). ReadsRequest u h (rest ++ take (head_limit - length s) t))
    (sym window) (ReadsRequest-append s h rest (take (head_limit - length s) t) x))
    ∙ same
short_grows s t v true (unfinished none may) short is same settled =
    absurd (settled (sym same ∙ waits_short header_fields_too_large s short))
short_grows s t v true (invalid nay) short is same settled =
    let window = window-append s t short in
    next_never (s ++ t) (ap has_line window ∙ has_line-append s (take (head_limit - length s) t) is)
    (subst NeverHasRequest (sym window) (never-append s (take (head_limit - length s) t) nay)) ∙ same

next_short : (s : List ℕ) → length s < head_limit
    → next_of s ≡ cond (has_line s) (by_beginning s s (beginning s)) (waits uri_too_long s)
next_short s short =
    next_by_beginning s
    ∙ ap (λ (w : List ℕ). cond (has_line w) (by_beginning s w (beginning w)) (waits uri_too_long s))
    (take_all head_limit s (omega arith))

long_same : (s t w : List ℕ) (r : Beginning w) → head_limit ≤ length s
    → by_beginning s w r ≡ by_beginning (s ++ t) w r
unfolding by_beginning
long_same s t w (whole h rest x) long = refl
long_same s t w (unfinished none may) long =
    waits_long header_fields_too_large s long
    ∙ sym (waits_long header_fields_too_large (s ++ t) (omega (arith, length-append s t)))
long_same s t w (invalid nay) long = refl

long_grows : (s t : List ℕ) → head_limit ≤ length s → next_of s ≡ next_of (s ++ t)
long_grows s t long =
    next_by_beginning s
    ∙ ap (λ v. cond (has_line (window_of s)) v (waits uri_too_long s))
    (long_same s t (window_of s) (beginning (window_of s)) long)
    ∙ ap
    (λ v. cond (has_line (window_of s)) (by_beginning (s ++ t) (window_of s) (beginning (window_of s))) v)
    (waits_long uri_too_long s long
    ∙ sym (waits_long uri_too_long (s ++ t) (omega (arith, length-append s t))))
    ∙ ap
    (λ (w : List ℕ). cond (has_line w) (by_beginning (s ++ t) w (beginning w)) (waits uri_too_long (s ++ t)))
    (sym (take-append-le head_limit s t long))
    ∙ sym (next_by_beginning (s ++ t))

-- the law: what is settled stays
pub next_stays : (s t : List ℕ) (v : Verdict) → next_of s ≡ v → v ≢ more → next_of (s ++ t) ≡ v
next_stays s t v same settled = go (cases_lt (length s) head_limit)
  where
    go : (length s < head_limit) ⊎ (head_limit ≤ length s) → next_of (s ++ t) ≡ v
    go (inl short) =
        short_grows s t v (has_line s) (beginning s) short refl (sym (next_short s short) ∙ same) settled
    go (inr long) = sym (long_grows s t long) ∙ same
