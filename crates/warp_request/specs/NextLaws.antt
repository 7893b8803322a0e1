-- Inner: laws that crates above cite, or that those stand on: what a verdict tells of the bytes: what
-- callers need to know of `next_of`.
use Rattle.std.proofs.Common.{◌≡◌, ◌≢◌, ℕ, ◌<◌, ◌≤◌, ◌∙◌, ◌==◌, drop, Bool, true, false, cond, not, List, []}
use Rattle.std.proofs.Common.{◌∷◌, ◌++◌, length, refl, sym, ap, subst, arith, length-append, length-take}
use Rattle.std.proofs.Common.{nat_lt, Option, Some, None}
use Rattle.std.specs.List.{list_all, list_any}
use Rattle.std.proofs.lemmas.Bool.{both_ways, not-false}
use Rattle.std.proofs.lemmas.Bool.Decides.{nat_tests}
use Rattle.httparse.specs.Grammar.{IsToken, RequestHead, IsRequestHead, ReadsRequest, print_request}
use Rattle.httparse.specs.Grammar.{print_blank, print_end, print_version, print_section}
use Rattle.httparse.proofs.GrammarLemmas.{print_request-append}
use Rattle.warp_request.specs.LimitsAndWords.{head_limit, field_limit}
use Rattle.warp_response.specs.Statuses.{bad_request, uri_too_long, header_fields_too_large}
use Rattle.warp_request.specs.Checks.{Parts, parts_of, checked, first_fault, verdict_by, field_checks}
use Rattle.warp_request.specs.Laws.{TellsOf}
use Rattle.warp_request.specs.Lines.{has_line, skip_empty}
use Rattle.warp_request.specs.Next.{window_of, waits, by_beginning, next_of}
use Rattle.warp_request.specs.Beginning.{Beginning, whole, unfinished, invalid, beginning}
use Rattle.warp_request.specs.Target.{is_visible, is_target_form}
use Rattle.warp_request.specs.Verdict.{Verdict, more, refused, asked, Asked}
use Rattle.warp_request.specs.BeginningLaws.{next_by_beginning}
use Rattle.std.proofs.lemmas.List.{take-append-drop}
use Rattle.warp_request.specs.LineRuleLaws.{skip_empty-append}
use Rattle.warp_request.specs.StatusLaws.{status_of}

-- what is told but for statuses and empty lines
record HeadIn (s : List ℕ) (a : Asked) : Type 0 where
  some : 1 ≤ a.len
  within : a.len ≤ length s
  limit : a.len ≤ head_limit
  method : IsToken a.method
  visible : list_all is_visible a.target ≡ true
  form : is_target_form a.method a.target ≡ true
  minor : a.minor ≤ 1

abbrev Tells : List ℕ → Verdict → Type 0
Tells s more = length s < head_limit
Tells s (refused code) = Unit {0}
Tells s (asked a) = HeadIn s a

waits_tells : (code : ℕ) (s : List ℕ) (t : Bool) → nat_lt (length s) head_limit ≡ t
    → Tells s (cond t more (refused code))
waits_tells code s true short = grind (arith, nat_tests)
waits_tells code s false long = tt

waits_of : (code : ℕ) (s : List ℕ) → Tells s (waits code s)
unfolding waits
waits_of code s = waits_tells code s (nat_lt (length s) head_limit) refl

head_long : (h : RequestHead) → IsRequestHead h → 1 ≤ length (print_request h ++ [])
head_long h is = rw print_request-append
    (omega (
      arith,
      is.method.0,
      length-append (print_blank h.blank)
          (h.method ++ 32 ∷ (h.target ++ 32
          ∷ (print_version h.minor ++ (print_end h.line_end ++ (print_section h.fields h.last ++ []))))),
      length-append h.method
          (32 ∷ (h.target ++ 32
          ∷ (print_version h.minor ++ (print_end h.line_end ++ (print_section h.fields h.last ++ []))))),
    ))

two_faults : (many hidden wrong : Bool) (code other : ℕ) (rest : Option ℕ) (p : Parts) (P : Verdict → Type 0)
    → ((code : ℕ) → P (refused code)) → (hidden ≡ false → wrong ≡ false → P (verdict_by rest p))
    → P (verdict_by (cond many (Some code) (cond hidden (Some other) (cond wrong (Some other) rest))) p)
two_faults true hidden wrong code other rest p P no_head head = no_head code
two_faults false true wrong code other rest p P no_head head = no_head other
two_faults false false true code other rest p P no_head head = no_head other
two_faults false false false code other rest p P no_head head = head refl refl

by_fault : (s : List ℕ) (fault : Option ℕ) (h : RequestHead) (rest : List ℕ)
    → ReadsRequest (window_of s) h rest
    → list_all is_visible h.target ≡ true → is_target_form h.method h.target ≡ true
    → Tells s (verdict_by fault (parts_of h))
by_fault s (Some code) h rest x visible form = tt
by_fault s None h rest x visible form = record {
  some = omega (arith, head_long h x.0, length-append (print_request h) []);
  within = omega (arith, ap length x.1, length-append (print_request h) rest, length-take head_limit s);
  limit = omega (arith, ap length x.1, length-append (print_request h) rest, length-take head_limit s);
  method = x.0.method;
  visible = visible;
  form = form;
  minor = x.0.minor;
}

checked_tells : (s : List ℕ) (h : RequestHead) (rest : List ℕ) → ReadsRequest (window_of s) h rest
    → Tells s (checked (parts_of h))
unfolding checked
checked_tells s h rest x =
    two_faults (nat_lt field_limit (length (parts_of h).fields)) (not (list_all is_visible h.target))
    (not (is_target_form h.method h.target))
    header_fields_too_large bad_request (first_fault (field_checks h.minor (parts_of h).fields))
    (parts_of h) (Tells s) (λ code. tt)
    (λ visible form. by_fault s (first_fault (field_checks h.minor (parts_of h).fields)) h rest x
    (not-false (list_all is_visible h.target) visible) (not-false (is_target_form h.method h.target) form))

by_beginning_tells : (s : List ℕ) (r : Beginning (window_of s)) → Tells s (by_beginning s (window_of s) r)
unfolding by_beginning
by_beginning_tells s (whole h rest x) = checked_tells s h rest x
by_beginning_tells s (unfinished none may) = waits_of header_fields_too_large s
by_beginning_tells s (invalid never) = tt

either : (s : List ℕ) (line : Bool) (v w : Verdict) → Tells s v → Tells s w → Tells s (cond line v w)
either s true v w one two = one
either s false v w one two = two

next_says : (s : List ℕ) → Tells s (next_of s)
next_says s =
    subst (Tells s) (sym (next_by_beginning s))
    (either s (has_line (window_of s)) (by_beginning s (window_of s) (beginning (window_of s)))
    (waits uri_too_long s)
    (by_beginning_tells s (beginning (window_of s))) (waits_of uri_too_long s))

-- ---- a head has bytes besides empty lines

not_asked : (s : List ℕ) (a : Asked) (b : Bool) → nat_lt (length s) 8192 ≡ b → waits uri_too_long s ≢ asked a
unfolding waits
not_asked s a true short = rw short (λ e. cc)
not_asked s a false long = rw long (λ e. cc)

asked_line : (s : List ℕ) (a : Asked) (line : Bool) → has_line (window_of s) ≡ line
    → next_of s ≡ asked a → line ≡ true
asked_line s a true is same = refl
asked_line s a false is same =
    absurd (not_asked s a (nat_lt (length s) 8192) refl
    (sym (next_by_beginning s ∙ ap
    (λ (b : Bool). cond b (by_beginning s (window_of s) (beginning (window_of s))) (waits uri_too_long s)) is)
    ∙ same))

no_line : (s : List ℕ) → skip_empty s ≡ [] → has_line s ≡ false
unfolding has_line
no_line s blank = ap (λ (v : List ℕ). list_any (λ b. b == 10) v) blank

front_empty : (front rest : List ℕ) → front ++ rest ≡ [] → front ≡ []
front_empty [] rest is = refl
front_empty (x ∷ front) rest is = cc

asked_some : (s : List ℕ) (a : Asked) → next_of s ≡ asked a → skip_empty s ≢ []
asked_some s a is blank =
    let w = window_of s in
    let line : has_line w ≡ true = asked_line s a (has_line w) refl is in
    let all : skip_empty w ++ drop 8192 s ≡ [] =
    sym (skip_empty-append w (drop 8192 s) line) ∙ ap (λ (v : List ℕ). skip_empty v) (take-append-drop 8192 s)
    ∙ blank in
    both_ways (has_line w) (no_line w (front_empty (skip_empty w) (drop 8192 s) all)) line

told : (s : List ℕ) (v : Verdict) → next_of s ≡ v → Tells s v → TellsOf s v
told s more is short = short
told s (refused code) is _ = status_of s code is
told s (asked a) is x = record {
  some = x.some;
  within = x.within;
  limit = x.limit;
  method = x.method;
  visible = x.visible;
  form = x.form;
  minor = x.minor;
  begun = asked_some s a is;
}

-- the law: more is waited for only below the limit, a refusal has one of its statuses, and what
-- is asked is asked by the bytes
pub next_tells : (s : List ℕ) → TellsOf s (next_of s)
next_tells s = told s (next_of s) refl (next_says s)
