-- Inner: laws that crates above cite, or that those stand on: the rules of lines follow from the grammar of
-- heads: where a line breaks one, no head is there, whatever bytes follow.
use Rattle.std.proofs.Common.{◌≡◌, ℕ, zero, suc, ◌+◌, ◌-◌, ◌<◌, ◌≤◌, Bool, true, false, cond, not, ◌==◌, ◌&&◌}
use Rattle.std.proofs.Common.{◌||◌, List, [], ◌∷◌, ◌++◌, length, get_or, refl, sym, ap, ◌∙◌, subst, arith}
use Rattle.std.proofs.Common.{append_assoc, append-nil, length-append}
use Rattle.std.proofs.Math.Seq.{take-append_seam, get_or-append_seam}
use Rattle.std.specs.Prelude.{All}
use Rattle.std.specs.List.{list_any, list_all, flat_map, before_first}
use Rattle.std.specs.Str.Lines.{strip_carriage_return}
use Rattle.std.proofs.lemmas.Bool.{both_ways, ne_eqb, and_parts, not-true}
use Rattle.std.proofs.lemmas.List.Elements.{All-head, All-tail, All-append, All-cons, All-nil, All-weaker}
use Rattle.std.proofs.lemmas.List.Elements.{All-get_or}
use Rattle.std.proofs.lemmas.List.Prefix.{end_rest}
use Rattle.std.proofs.lemmas.List.Folds.{list_any-append}
use Rattle.std.proofs.lemmas.List.Sums.{AllPass-from_list_all}
use Rattle.std.proofs.Math.Bool.{and-false}
use Rattle.httparse.specs.Grammar.{RequestHead, IsRequestHead, NeverHasRequest, ReadsRequest, print_request}
use Rattle.httparse.specs.Grammar.{print_end, print_version, print_section, print_field, Field, IsField}
use Rattle.httparse.specs.Grammar.{LineEnd, crlf, lf, AllPass, is_token_byte, is_uri_byte, is_value_byte}
use Rattle.httparse.specs.Grammar.{is_ows}
use Rattle.httparse.specs.Pieces.{is_newline}
use Rattle.httparse.proofs.PieceLemmas.{token_is_no_newline, space_ends_token, colon_ends_token}
use Rattle.httparse.proofs.GrammarLemmas.{print_request-append}
use Rattle.warp_request.specs.Lines.{skip_empty, has_line, line_before, lines_from, ends_in_version}
use Rattle.warp_request.specs.Lines.{last_byte, is_field_line, are_lines_right, breaks_line_rule}
use Rattle.warp_request.specs.TargetLaws.{skip_blank, skip_other}

-- ---- what a line keeps when more bytes follow

one_more : (b : ℕ) (t : List ℕ) (x : Bool) → (b == 10) ≡ x
    → list_any (λ b. b == 10) (cond x [] (b ∷ [])) ≡ true
    → skip_empty (b ∷ t) ≡ cond x [] (b ∷ []) ++ t
one_more b t true is line = absurd (both_ways false refl line)
one_more b t false is line = absurd (both_ways (list_any (λ b. b == 10) (b ∷ [])) (rw is refl) line)

two_more : (b c : ℕ) (s t : List ℕ) (x y : Bool)
    → (list_any (λ b. b == 10) (skip_empty (c ∷ s)) ≡ true
    → skip_empty ((c ∷ s) ++ t) ≡ skip_empty (c ∷ s) ++ t)
    → (list_any (λ b. b == 10) (skip_empty s) ≡ true → skip_empty (s ++ t) ≡ skip_empty s ++ t)
    → list_any (λ b. b == 10) (cond x (skip_empty (c ∷ s)) (cond y (skip_empty s) (b ∷ c ∷ s))) ≡ true
    → cond x (skip_empty ((c ∷ s) ++ t)) (cond y (skip_empty (s ++ t)) (b ∷ c ∷ (s ++ t)))
    ≡ cond x (skip_empty (c ∷ s)) (cond y (skip_empty s) (b ∷ c ∷ s)) ++ t
two_more b c s t true y one two line = one line
two_more b c s t false true one two line = two line
two_more b c s t false false one two line = refl

skip_more : (s t : List ℕ) → list_any (λ b. b == 10) (skip_empty s) ≡ true
    → skip_empty (s ++ t) ≡ skip_empty s ++ t
unfolding skip_empty
skip_more [] t line = absurd (both_ways false refl line)
skip_more (b ∷ []) t line = one_more b t (b == 10) refl line
skip_more (b ∷ c ∷ s) t line =
    two_more b c s t (b == 10) (b == 13 && c == 10) (skip_more (c ∷ s) t) (skip_more s t) line

-- after the empty lines nothing changes when more bytes follow
pub skip_empty-append : (s t : List ℕ) → has_line s ≡ true → skip_empty (s ++ t) ≡ skip_empty s ++ t
unfolding has_line
skip_empty-append s t line = skip_more s t line

later_line : (line : List ℕ) (long short : List (List ℕ))
    → (list_all is_field_line long ≡ true → list_all is_field_line short ≡ true)
    → list_all is_field_line (line_before line long) ≡ true
    → list_all is_field_line (line_before line short) ≡ true
later_line [] long short on right = refl
later_line (b ∷ line) long short on right =
    let parts = and_parts (is_field_line (b ∷ line)) (list_all is_field_line long) right in
    rw (parts.0, on parts.1) refl

mutual_step : (front : List ℕ) (b : ℕ) (s t : List ℕ) (x : Bool)
    → (list_all is_field_line (lines_from [] (s ++ t)) ≡ true
    → list_all is_field_line (lines_from [] s) ≡ true)
    → (list_all is_field_line (lines_from (front ++ b ∷ []) (s ++ t)) ≡ true
    → list_all is_field_line (lines_from (front ++ b ∷ []) s) ≡ true)
    → list_all is_field_line
    (cond x (line_before (strip_carriage_return front) (lines_from [] (s ++ t)))
    (lines_from (front ++ b ∷ []) (s ++ t)))
    ≡ true
    → list_all is_field_line
    (cond x (line_before (strip_carriage_return front) (lines_from [] s)) (lines_from (front ++ b ∷ []) s))
    ≡ true
mutual_step front b s t true end on right =
    later_line (strip_carriage_return front) (lines_from [] (s ++ t)) (lines_from [] s) end right
mutual_step front b s t false end on right = on right

later_lines : (front s t : List ℕ) → list_all is_field_line (lines_from front (s ++ t)) ≡ true
    → list_all is_field_line (lines_from front s) ≡ true
unfolding lines_from
later_lines front [] t right = refl
later_lines front (b ∷ s) t right =
    mutual_step front b s t (b == 10) (later_lines [] s t) (later_lines (front ++ b ∷ []) s t) right

first_line : (line : List ℕ) (long short : List (List ℕ))
    → (list_all is_field_line long ≡ true → list_all is_field_line short ≡ true)
    → are_lines_right (line_before line long) ≡ true → are_lines_right (line_before line short) ≡ true
unfolding are_lines_right
first_line [] long short on right = refl
first_line (b ∷ line) long short on right =
    let parts = and_parts (ends_in_version (b ∷ line)) (list_all is_field_line long) right in
    rw (parts.0, on parts.1) refl

first_step : (front : List ℕ) (b : ℕ) (s t : List ℕ) (x : Bool)
    → (are_lines_right (lines_from (front ++ b ∷ []) (s ++ t)) ≡ true
    → are_lines_right (lines_from (front ++ b ∷ []) s) ≡ true)
    → are_lines_right (cond x (line_before (strip_carriage_return front) (lines_from [] (s ++ t)))
    (lines_from (front ++ b ∷ []) (s ++ t)))
    ≡ true
    → are_lines_right
    (cond x (line_before (strip_carriage_return front) (lines_from [] s)) (lines_from (front ++ b ∷ []) s))
    ≡ true
first_step front b s t true on right =
    first_line (strip_carriage_return front) (lines_from [] (s ++ t)) (lines_from [] s)
    (later_lines [] s t) right
first_step front b s t false on right = on right

-- where all lines of a longer text are right, those of its front are
all_lines : (front s t : List ℕ) → are_lines_right (lines_from front (s ++ t)) ≡ true
    → are_lines_right (lines_from front s) ≡ true
unfolding lines_from are_lines_right
all_lines front [] t right = refl
all_lines front (b ∷ s) t right = first_step front b s t (b == 10) (all_lines (front ++ b ∷ []) s t) right

-- ---- the lines of a head

-- a byte inside a line
is_inner : ℕ → Bool
is_inner b = not (is_newline b)

inner_no_lf : (b : ℕ) → not (is_newline b) ≡ true → (b == 10) ≡ false
inner_no_lf b inner = go (b == 13) (b == 10) refl refl inner
  where
    go : (x y : Bool) → (b == 13) ≡ x → (b == 10) ≡ y → not (x || y) ≡ true → (b == 10) ≡ false
    go x false cr line in_line = line
    go true true cr line in_line = absurd (both_ways false refl in_line)
    go false true cr line in_line = absurd (both_ways false refl in_line)

inner_no_cr : (b : ℕ) → not (is_newline b) ≡ true → (b == 13) ≡ false
inner_no_cr b inner = go (b == 13) (b == 10) refl refl inner
  where
    go : (x y : Bool) → (b == 13) ≡ x → (b == 10) ≡ y → not (x || y) ≡ true → (b == 13) ≡ false
    go false y cr line in_line = cr
    go true y cr line in_line = absurd (both_ways false refl in_line)

lines_run : (front line s : List ℕ) → AllPass is_inner line
    → lines_from front (line ++ s) ≡ lines_from (front ++ line) s
unfolding lines_from is_inner
lines_run front [] s inner = ap (λ (f : List ℕ). lines_from f s) (sym (append-nil front))
lines_run front (b ∷ line) s inner =
    rw (inner_no_lf b (All-head (λ v. is_inner v ≡ true) b line inner))
    (lines_run (front ++ b ∷ []) line s (All-tail (λ v. is_inner v ≡ true) b line inner)
    ∙ ap (λ (f : List ℕ). lines_from f s) (append_assoc front (b ∷ []) line))

strip_cr : (line : List ℕ) → strip_carriage_return (line ++ 13 ∷ []) ≡ line
strip_cr line =
    let len : length (line ++ 13 ∷ []) - 1 ≡ length line = omega (arith, length-append line (13 ∷ [])) in
    rw (len, get_or-append_seam line 13 [] 0) (take-append_seam line (13 ∷ []))

strip_none : (line : List ℕ) → AllPass is_inner line → strip_carriage_return line ≡ line
unfolding is_inner
strip_none [] inner = refl
strip_none (b ∷ line) inner =
    let inside : length (b ∷ line) - 1 < length (b ∷ line) = omega arith in
    rw (inner_no_cr (get_or (b ∷ line) (length (b ∷ line) - 1) 0)
    (All-get_or (λ v. is_inner v ≡ true) (b ∷ line) (length (b ∷ line) - 1) 0 inside inner)) refl

-- a line and its end
line_ended : (line : List ℕ) (e : LineEnd) (s : List ℕ) → AllPass is_inner line
    → lines_from [] (line ++ (print_end e ++ s)) ≡ line_before line (lines_from [] s)
unfolding lines_from
line_ended line crlf s inner =
    lines_run [] line (13 ∷ 10 ∷ s) inner
    ∙ ap (λ (l : List ℕ). line_before l (lines_from [] s)) (strip_cr line)
line_ended line lf s inner =
    lines_run [] line (10 ∷ s) inner
    ∙ ap (λ (l : List ℕ). line_before l (lines_from [] s)) (strip_none line inner)

-- ---- each line of a head is right

-- a byte that passes a test is none that fails it
other_byte : (test : ℕ → Bool) (c : ℕ) → test c ≡ false → (b : ℕ) → test b ≡ true → (b == c) ≡ false
other_byte test c fails b pass =
    ne_eqb b c (λ e. both_ways (test c) fails (subst (λ (v : ℕ). test v ≡ true) e pass))

tab_ends_token : is_token_byte 9 ≡ false
unfolding is_token_byte
tab_ends_token = refl

token_not_ows : (b : ℕ) → is_token_byte b ≡ true → is_ows b ≡ false
token_not_ows b token =
    rw
    (other_byte is_token_byte 32 space_ends_token b token, other_byte is_token_byte 9 tab_ends_token b token)
    refl

one-plus : (n : ℕ) → 1 + n ≡ suc n
one-plus n = omega arith

before_colon : (name raw : List ℕ) → AllPass is_token_byte name
    → before_first (λ b. b == 58) (name ++ 58 ∷ raw) ≡ name
before_colon [] raw token = refl
before_colon (b ∷ name) raw token =
    rw (other_byte is_token_byte 58 colon_ends_token b (All-head (λ v. is_token_byte v ≡ true) b name token))
    (rw one-plus (ap (λ (l : List ℕ). b ∷ l)
    (before_colon name raw (All-tail (λ v. is_token_byte v ≡ true) b name token))))

last_token : (b : ℕ) (name : List ℕ) → AllPass is_token_byte (b ∷ name)
    → is_token_byte (last_byte (b ∷ name)) ≡ true
last_token b name token =
    let inside : length (b ∷ name) - 1 < length (b ∷ name) = omega arith in
    All-get_or (λ v. is_token_byte v ≡ true) (b ∷ name) (length (b ∷ name) - 1) 0 inside token

-- a field's line, without its end
abbrev field_text : Field → List ℕ
field_text f = f.name ++ 58 ∷ f.raw

field_line_right : (name raw : List ℕ) → 0 < length name → AllPass is_token_byte name
    → is_field_line (name ++ 58 ∷ raw) ≡ true
unfolding is_field_line
field_line_right [] raw some token = absurd (omega (arith, some))
field_line_right (b ∷ name) raw some token =
    let first = token_not_ows b (All-head (λ v. is_token_byte v ≡ true) b name token) in
    let last = token_not_ows (last_byte (b ∷ name)) (last_token b name token) in
    let before = before_colon (b ∷ name) raw token in
    rw (first, before, last, and-false (list_any (λ b. b == 58) ((b ∷ name) ++ 58 ∷ raw))) refl

inner_of : (test : ℕ → Bool) → test 10 ≡ false → test 13 ≡ false → (bytes : List ℕ)
    → AllPass test bytes → AllPass is_inner bytes
unfolding is_inner
inner_of test no_lf no_cr bytes pass =
    All-weaker (λ b. test b ≡ true) (λ b. not (is_newline b) ≡ true)
    (λ b yes. rw (other_byte test 13 no_cr b yes, other_byte test 10 no_lf b yes) refl) bytes pass

lf_ends_token : is_token_byte 10 ≡ false
unfolding is_token_byte
lf_ends_token = refl

cr_ends_token : is_token_byte 13 ≡ false
unfolding is_token_byte
cr_ends_token = refl

field_inner : (f : Field) → IsField f → AllPass is_inner (f.name ++ 58 ∷ f.raw)
unfolding is_inner
field_inner f is =
    All-append (λ v. is_inner v ≡ true) f.name (58 ∷ f.raw)
    (inner_of is_token_byte lf_ends_token cr_ends_token f.name is.name.1)
    (All-cons (λ v. is_inner v ≡ true) 58 f.raw refl (inner_of is_value_byte refl refl f.raw is.raw))

some_line : (name raw : List ℕ) (later : List (List ℕ)) → 0 < length name
    → line_before (name ++ 58 ∷ raw) later ≡ (name ++ 58 ∷ raw) ∷ later
some_line [] raw later some = absurd (omega (arith, some))
some_line (b ∷ name) raw later some = refl

field_print : (f : Field) (s : List ℕ) → print_field f ++ s ≡ (f.name ++ 58 ∷ f.raw) ++ (print_end f.end ++ s)
field_print f s = simp append_assoc

section_lines : (fields : List Field) (last : LineEnd) (rest : List ℕ) → All IsField fields
    → list_all is_field_line (lines_from [] (flat_map print_field fields ++ (print_end last ++ rest))) ≡ true
section_lines [] last rest all = ap (list_all is_field_line) (line_ended [] last rest (All-nil _))
section_lines (f ∷ fields) last rest all =
    let is = All-head IsField f fields all in
    let more = flat_map print_field fields ++ (print_end last ++ rest) in
    let text : flat_map print_field (f ∷ fields) ++ (print_end last ++ rest)
    ≡ (f.name ++ 58 ∷ f.raw) ++ (print_end f.end ++ more) =
    append_assoc (print_field f) (flat_map print_field fields) (print_end last ++ rest)
    ∙ field_print f more in
    let lines : lines_from [] (flat_map print_field (f ∷ fields) ++ (print_end last ++ rest))
    ≡ (f.name ++ 58 ∷ f.raw) ∷ lines_from [] more =
    ap (λ (t : List ℕ). lines_from [] t) text
    ∙ line_ended (f.name ++ 58 ∷ f.raw) f.end more (field_inner f is)
    ∙ some_line f.name f.raw (lines_from [] more) is.name.0 in
    rw (lines, field_line_right f.name f.raw is.name.0 is.name.1)
    (section_lines fields last rest (All-tail IsField f fields all))

version_ends : (front : List ℕ) (minor : ℕ) → minor ≤ 1
    → ends_in_version (front ++ 32 ∷ print_version minor) ≡ true
unfolding ends_in_version
version_ends front zero small =
    rw (end_rest (front ++ 32 ∷ print_version 0) (32 ∷ print_version 0) front refl) refl
version_ends front (suc zero) small =
    rw (end_rest (front ++ 32 ∷ print_version 1) (32 ∷ print_version 1) front refl) refl
version_ends front (suc (suc minor)) small = absurd (omega (arith, small))

version_inner : (minor : ℕ) → minor ≤ 1 → AllPass is_inner (print_version minor)
unfolding is_inner
version_inner zero small =
    inner_of is_value_byte refl refl (print_version 0)
    (AllPass-from_list_all is_value_byte (print_version 0) refl)
version_inner (suc zero) small =
    inner_of is_value_byte refl refl (print_version 1)
    (AllPass-from_list_all is_value_byte (print_version 1) refl)
version_inner (suc (suc minor)) small = absurd (omega (arith, small))

-- a request line, without its end
abbrev request_text : List ℕ → List ℕ → ℕ → List ℕ
request_text method target minor = method ++ 32 ∷ (target ++ 32 ∷ print_version minor)

request_inner : (h : RequestHead) → IsRequestHead h
    → AllPass is_inner (request_text h.method h.target h.minor)
unfolding is_inner
request_inner h is =
    let P : ℕ → Type 0 = λ (v : ℕ). is_inner v ≡ true in
    All-append P h.method (32 ∷ (h.target ++ 32 ∷ print_version h.minor))
    (inner_of is_token_byte lf_ends_token cr_ends_token h.method is.method.1)
    (All-cons P 32 (h.target ++ 32 ∷ print_version h.minor) refl
    (All-append P h.target (32 ∷ print_version h.minor) (inner_of is_uri_byte refl refl h.target is.target.1)
    (All-cons P 32 (print_version h.minor) refl (version_inner h.minor is.minor))))

request_right : (method target : List ℕ) (minor : ℕ) (later : List (List ℕ)) → 0 < length method
    → minor ≤ 1 → list_all is_field_line later ≡ true
    → are_lines_right (line_before (request_text method target minor) later) ≡ true
unfolding are_lines_right
request_right [] target minor later some small right = absurd (omega (arith, some))
request_right (b ∷ method) target minor later some small right =
    let text : request_text (b ∷ method) target minor ≡ ((b ∷ method) ++ 32 ∷ target) ++ 32
    ∷ print_version minor = simp append_assoc in
    rw (ap ends_in_version text ∙ version_ends ((b ∷ method) ++ 32 ∷ target) minor small, right) refl

skip_token : (method t : List ℕ) → 0 < length method → AllPass is_token_byte method
    → skip_empty (method ++ t) ≡ method ++ t
skip_token [] t some token = absurd (omega (arith, some))
skip_token (b ∷ method) t some token =
    skip_other b (method ++ t) (token_is_no_newline b (All-head (λ v. is_token_byte v ≡ true) b method token))

-- the lines of a head after its request line, and what follows it
abbrev lines_behind : RequestHead → List ℕ → List ℕ
lines_behind h rest = flat_map print_field h.fields ++ (print_end h.last ++ rest)

-- after the empty lines a head begins with its request line
request_front : (h : RequestHead) (rest : List ℕ) → IsRequestHead h
    → skip_empty (print_request h ++ rest) ≡ request_text h.method h.target h.minor
    ++ (print_end h.line_end ++ lines_behind h rest)
request_front h rest is =
    let behind : List ℕ = 32 ∷ (h.target ++ 32
    ∷ (print_version h.minor ++ (print_end h.line_end ++ (print_section h.fields h.last ++ rest)))) in
    let front : skip_empty (print_request h ++ rest) ≡ h.method ++ behind =
    ap (λ (t : List ℕ). skip_empty t) (print_request-append h rest) ∙ skip_blank h.blank (h.method ++ behind)
    ∙ skip_token h.method behind is.method.0 is.method.1 in
    let text : h.method ++ behind ≡ request_text h.method h.target h.minor
    ++ (print_end h.line_end ++ lines_behind h rest) = simp append_assoc in
    front ∙ text

end_there : (e : LineEnd) (s : List ℕ) → list_any (λ b. b == 10) (print_end e ++ s) ≡ true
end_there crlf s = refl
end_there lf s = refl

or_there : (a b : Bool) → b ≡ true → (a || b) ≡ true
or_there true b is = refl
or_there false b is = is

-- where a head is at the front, a line's end is there
pub whole_line : (w : List ℕ) (h : RequestHead) (rest : List ℕ) → ReadsRequest w h rest → has_line w ≡ true
unfolding has_line
whole_line w h rest x =
    let line = request_text h.method h.target h.minor in
    let behind = print_end h.line_end ++ lines_behind h rest in
    ap (λ (t : List ℕ). list_any (λ b. b == 10) (skip_empty t)) x.1
    ∙ ap (λ (t : List ℕ). list_any (λ b. b == 10) t) (request_front h rest x.0)
    ∙ list_any-append (λ b. b == 10) line behind ∙ or_there (list_any (λ b. b == 10) line)
    (list_any (λ b. b == 10) behind) (end_there h.line_end (lines_behind h rest))

-- the lines of a head are right
request_lines : (h : RequestHead) (rest : List ℕ) → IsRequestHead h
    → are_lines_right (lines_from [] (skip_empty (print_request h ++ rest))) ≡ true
request_lines h rest is =
    let later = lines_behind h rest in
    let line = request_text h.method h.target h.minor in
    ap (λ (t : List ℕ). are_lines_right (lines_from [] t)) (request_front h rest is)
    ∙ ap are_lines_right (line_ended line h.line_end later (request_inner h is))
    ∙ request_right h.method h.target h.minor (lines_from [] later) is.method.0 is.minor
    (section_lines h.fields h.last rest is.fields)

-- where a rule is broken, no head is there
pub rules_follow : (w : List ℕ) → has_line w ≡ true → breaks_line_rule w ≡ true → NeverHasRequest w
unfolding breaks_line_rule
rules_follow w line broken more h rest x =
    both_ways (are_lines_right (lines_from [] (skip_empty w)))
    (not-true (are_lines_right (lines_from [] (skip_empty w))) broken)
    (all_lines [] (skip_empty w) more
    (ap (λ (t : List ℕ). are_lines_right (lines_from [] t))
    (sym (skip_empty-append w more line) ∙ ap (λ (t : List ℕ). skip_empty t) x.1)
    ∙ request_lines h rest x.0))
