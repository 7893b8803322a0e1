-- Inner: the proof that `beginning` has an answer for every text. Nobody need read it: what it makes is
-- trusted by the type of `beginning`.
use Rattle.std.proofs.Common.{◌≡◌, ℕ, zero, suc, ◌<◌, ◌≤◌, ◌⊎◌, Bool, true, false, List, [], ◌∷◌, ◌++◌}
use Rattle.std.proofs.Common.{length, refl, sym, ap, ◌∙◌, subst, arith, append-nil, length-append, inl, inr}
use Rattle.std.proofs.Common.{IsUtf8}
use Rattle.std.specs.Str.{is_utf8}
use Rattle.std.proofs.lemmas.Bool.{cases_eq, both_ways}
use Rattle.std.proofs.lemmas.List.Elements.{All-nil, All-cons}
use Rattle.std.proofs.lemmas.Str.{IsUtf8-from_is_utf8, is_utf8-from_IsUtf8}
use Rattle.httparse.specs.Grammar.{is_token_byte, is_uri_byte, is_value_byte, AllPass, LineEnd, crlf, lf}
use Rattle.httparse.specs.Grammar.{print_end, print_blank, print_version, Field}
use Rattle.httparse.specs.Pieces.{Piece, Begins, Then, Refutes, NotYet, Never, Completes, Stops, is_newline}
use Rattle.httparse.specs.Pieces.{Bytes, Newline, BlankLines, Blank, Word, Method, Target, Version, Text}
use Rattle.httparse.specs.Pieces.{FieldLine, FieldLines, BeginsLine, CompletesLine, Section, RequestStart}
use Rattle.httparse.specs.Pieces.{MayBecomeRequestStart}
use Rattle.httparse.proofs.RunLemmas.{run_unique, run_unstopped}
use Rattle.httparse.proofs.PieceLemmas.{IsDeterministic, Refutes_by, Never_intro, Never_elim, NotYet_intro}
use Rattle.httparse.proofs.PieceLemmas.{Refutes_first, Refutes_next, front-append, Word_deterministic}
use Rattle.httparse.proofs.PieceLemmas.{Method_deterministic, Target_deterministic, Version_deterministic}
use Rattle.httparse.proofs.PieceLemmas.{Blank_deterministic, Name_deterministic, Stops_value, Stops-FieldLine}
use Rattle.httparse.proofs.PieceLemmas.{FieldLines_push, space_ends_token, colon_ends_token}
use Rattle.httparse.proofs.ReadLemmas.{Blank_after, Blank_newline, blank_more, BeginsLine_either}
use Rattle.httparse.proofs.ReadLemmas.{FieldLine_at_newline, Newline_at_other, FieldLine_row, FieldLine_done}
use Rattle.httparse.proofs.ReadLemmas.{Section_after, Section_done}
use Rattle.httparse.proofs.OpenLemmas.{Completes_first, Completes_next, some_newline, some_bytes}
use Rattle.httparse.proofs.OpenLemmas.{some_version, some_target, some_text, Newline_after_cr}
use Rattle.httparse.proofs.OpenLemmas.{BlankLines_after, Word_cut, letter_is_token, FieldLine_of_row}
use Rattle.httparse.proofs.OpenLemmas.{Section_after_lines, Section_of_line, line_blank, ends_in_target}

-- what a text is to a piece: May is what is known of one that may become it
pub data Decision {A : Type 0} (G : Piece A) (May : List ℕ → Type 0) (s : List ℕ) : Type 0 where
  found : (a : A) (rest : List ℕ) → G a s rest → Decision G May s
  cut : NotYet (Begins G) s → May s → Decision G May s
  never : Never (Begins G) s → Decision G May s

sides : (b : Bool) → (b ≡ true) ⊎ (b ≡ false)
sides true = inl refl
sides false = inr refl

never_yet : {H : List ℕ → Type 0} {s : List ℕ} → Never H s → NotYet H s
never_yet nay = record { none = λ more _ h. Never_elim nay more h }

-- ---- one piece and then another

module _ {A B : Type 0} {G : Piece A} {H : Piece B} {MayH May : List ℕ → Type 0}
    (det : IsDeterministic G) where
  second : (s : List ℕ) → ((a : A) (t : List ℕ) → G a s t → MayH t → May s)
      → (a : A) (t : List ℕ) → G a s t → Decision H MayH t → Decision (Then G H) May s
  second s next a t x (found b rest y) = found (a, b) rest (t, x, y)
  second s next a t x (cut nay may) = cut (Refutes_next H det x nay) (next a t x may)
  second s next a t x (never nay) = never (Refutes_next H det x nay)

  pub decide_then : {MayG : List ℕ → Type 0} (s : List ℕ) → (MayG s → May s)
      → ((a : A) (t : List ℕ) → G a s t → MayH t → May s)
      → Decision G MayG s → ((t : List ℕ) → Decision H MayH t) → Decision (Then G H) May s
  decide_then s first next (found a t x) rest = second s next a t x (rest t)
  decide_then s first next (cut nay may) rest = cut (Refutes_first G H nay) (first may)
  decide_then s first next (never nay) rest = never (Refutes_first G H nay)

-- ---- line ends

newline_first : (e : LineEnd) (b : ℕ) (t rest : List ℕ) → b ∷ t ≡ print_end e ++ rest → (b ≡ 10) ⊎ (b ≡ 13)
newline_first crlf b t rest e = inr (cc)
newline_first lf b t rest e = inl (cc)

newline_of_none : (e : LineEnd) (rest : List ℕ) → Newline e [] rest → ⊥
newline_of_none crlf rest e = cc
newline_of_none lf rest e = cc

newline_of_cr : (e : LineEnd) (b : ℕ) (rest : List ℕ) → (b ≡ 10 → ⊥) → Newline e (b ∷ []) rest → ⊥
newline_of_cr crlf b rest nay e = cc
newline_of_cr lf b rest nay e = nay (cc)

newline_after : (e : LineEnd) (b c : ℕ) (t rest : List ℕ) → (b ≡ 10 → ⊥) → (c ≡ 10 → ⊥)
    → Newline e (b ∷ c ∷ t) rest → ⊥
newline_after crlf b c t rest nay other e = other (cc)
newline_after lf b c t rest nay other e = nay (cc)

neither : (b : ℕ) → (b ≡ 10) ⊎ (b ≡ 13) → (b ≡ 10 → ⊥) → (b ≡ 13 → ⊥) → ⊥
neither b (inl e) nay nor = nay e
neither b (inr e) nay nor = nor e

second_byte : (b c : ℕ) (s : List ℕ) → (b ≡ 10 → ⊥) → b ≡ 13 → (c ≡ 10) ⊎ (c ≡ 10 → ⊥)
    → Decision Newline (Completes Newline) (b ∷ c ∷ s)
second_byte b c s nay cr (inl e) = found crlf s (cc)
second_byte b c s nay cr (inr other) =
    never (Never_intro (λ more h. newline_after h.0 b c (s ++ more) h.1 nay other h.2))

first_byte : (b : ℕ) (s : List ℕ) → (b ≡ 10) ⊎ (b ≡ 10 → ⊥) → (b ≡ 13) ⊎ (b ≡ 13 → ⊥)
    → Decision Newline (Completes Newline) (b ∷ s)
first_byte b s (inl e) _ = found lf s (cc)
first_byte b [] (inr nay) (inl cr) =
    cut (NotYet_intro (λ h. newline_of_cr h.0 b h.1 nay h.2)) (Newline_after_cr (cc))
first_byte b (c ∷ s) (inr nay) (inl cr) = second_byte b c s nay cr (cases_eq c 10)
first_byte b s (inr nay) (inr nor) =
    never (Never_intro (λ more h. neither b (newline_first h.0 b (s ++ more) h.1 h.2) nay nor))

-- a line end
pub decide_newline : (s : List ℕ) → Decision Newline (Completes Newline) s
decide_newline [] = cut (NotYet_intro (λ h. newline_of_none h.0 h.1 h.2)) some_newline
decide_newline (b ∷ s) = first_byte b s (cases_eq b 10) (cases_eq b 13)

-- ---- words

-- the longest run of bytes at the front that pass a test
pub record Split (test : ℕ → Bool) (s : List ℕ) : Type 0 where
  pub run : List ℕ
  pub rest : List ℕ
  pub pass : AllPass test run
  pub whole : s ≡ run ++ rest
  pub stops : (rest ≡ []) ⊎ Stops test rest

split_at : (test : ℕ → Bool) (b : ℕ) (s : List ℕ) → (test b ≡ true) ⊎ (test b ≡ false)
    → Split test s → Split test (b ∷ s)
split_at test b s (inl yea) r = record {
  run = b ∷ r.run;
  rest = r.rest;
  pass = All-cons (λ v. test v ≡ true) b r.run yea r.pass;
  whole = ap (λ (t : List ℕ). b ∷ t) r.whole;
  stops = r.stops;
}
split_at test b s (inr nay) r = record {
  run = [];
  rest = b ∷ s;
  pass = All-nil _;
  whole = refl;
  stops = inr nay;
}

-- the longest run of bytes at the front that pass a test, of any text
pub run_split : (test : ℕ → Bool) (s : List ℕ) → Split test s
run_split test [] = record { run = []; rest = []; pass = All-nil _; whole = refl; stops = inl refl }
run_split test (b ∷ s) = split_at test b s (sides (test b)) (run_split test s)

module _ (test : ℕ → Bool) (stop : ℕ) (fails : test stop ≡ false) where
  word_cut : (s : List ℕ) → AllPass test s → Decision (Word test stop) (AllPass test) s
  word_cut s all =
      cut (NotYet_intro (λ h. run_unstopped test h.0 (stop ∷ h.1) (subst (AllPass test) h.2.2 all) fails)) all

  word_stop : (s w : List ℕ) (b : ℕ) (rest : List ℕ) → AllPass test w → s ≡ w ++ b ∷ rest → test b ≡ false
      → (b ≡ stop) ⊎ (b ≡ stop → ⊥) → Decision (Word test stop) (AllPass test) s
  word_stop s [] b rest pass whole nay (inl e) = never (Never_intro λ more h.
      let same = run_unique test h.0 [] (stop ∷ h.1) (b ∷ (rest ++ more)) h.2.1 pass fails nay
      (sym h.2.2 ∙ front-append s [] (b ∷ rest) more whole) in
      omega (arith, h.2.0, ap length same.0))
  word_stop s (x ∷ w) b rest pass whole nay (inl e) =
      found (x ∷ w) rest (omega arith, pass, whole ∙ ap (λ (v : ℕ). (x ∷ w) ++ v ∷ rest) e)
  word_stop s w b rest pass whole nay (inr other) = never (Never_intro λ more h.
      let same = run_unique test h.0 w (stop ∷ h.1) (b ∷ (rest ++ more)) h.2.1 pass fails nay
      (sym h.2.2 ∙ front-append s w (b ∷ rest) more whole) in
      other (cc))

  word_at : (s w rest : List ℕ) → AllPass test w → s ≡ w ++ rest → (rest ≡ []) ⊎ Stops test rest
      → Decision (Word test stop) (AllPass test) s
  word_at s w [] pass whole _ = word_cut s (subst (AllPass test) (sym (whole ∙ append-nil w)) pass)
  word_at s w (b ∷ rest) pass whole (inl e) = absurd (cc)
  word_at s w (b ∷ rest) pass whole (inr nay) = word_stop s w b rest pass whole nay (cases_eq b stop)

  pub decide_word : (s : List ℕ) → Decision (Word test stop) (AllPass test) s
  decide_word s = let r = run_split test s in word_at s r.run r.rest r.pass r.whole r.stops

-- ---- targets

target_text : (s w rest : List ℕ) → Word is_uri_byte 32 w s rest → (is_utf8 w ≡ true) ⊎ (is_utf8 w ≡ false)
    → Decision Target (AllPass is_uri_byte) s
target_text s w rest x (inl yea) = found w rest (x, IsUtf8-from_is_utf8 w yea)
target_text s w rest x (inr nay) = never (Never_intro λ more h.
    let word = Word_deterministic is_uri_byte 32 refl in
    let same = word.unique h.0 w (s ++ more) h.1 (rest ++ more) h.2.0 (word.append w s rest more x) in
    both_ways (is_utf8 w) nay (is_utf8-from_IsUtf8 w (subst IsUtf8 same.0 h.2.1)))

target_of : (s : List ℕ) → Decision (Word is_uri_byte 32) (AllPass is_uri_byte) s
    → Decision Target (AllPass is_uri_byte) s
target_of s (found w rest x) = target_text s w rest x (sides (is_utf8 w))
target_of s (cut nay may) = cut (Refutes_by (λ more h. (h.0, h.1, h.2.0)) nay) may
target_of s (never nay) = never (Refutes_by (λ more h. (h.0, h.1, h.2.0)) nay)

-- a target
pub decide_target : (s : List ℕ) → Decision Target (AllPass is_uri_byte) s
decide_target s = target_of s (decide_word is_uri_byte 32 refl s)

-- ---- versions

bytes_more : (c b : ℕ) (bytes s : List ℕ) → b ≡ c → Decision (Bytes bytes) (Completes (Bytes bytes)) s
    → Decision (Bytes (c ∷ bytes)) (Completes (Bytes (c ∷ bytes))) (b ∷ s)
bytes_more c b bytes s e (found a rest x) = found tt rest (cc)
bytes_more c b bytes s e (cut nay may) = cut (Refutes_by (λ more h. (tt, h.1, (cc))) nay)
    (record { more = may.more; tree = tt; reads = λ rest. let x = may.reads rest in (cc) })
bytes_more c b bytes s e (never nay) = never (Refutes_by (λ more h. (tt, h.1, (cc))) nay)

bytes_at : (c b : ℕ) (bytes s : List ℕ) → (b ≡ c) ⊎ (b ≡ c → ⊥)
    → Decision (Bytes bytes) (Completes (Bytes bytes)) s
    → Decision (Bytes (c ∷ bytes)) (Completes (Bytes (c ∷ bytes))) (b ∷ s)
bytes_at c b bytes s (inl e) d = bytes_more c b bytes s e d
bytes_at c b bytes s (inr nay) d = never (Never_intro (λ more h. nay (cc)))

-- these bytes
pub decide_bytes : (bytes s : List ℕ) → Decision (Bytes bytes) (Completes (Bytes bytes)) s
decide_bytes [] s = found tt s refl
decide_bytes (c ∷ bytes) [] = cut (NotYet_intro (λ h. cc)) (some_bytes (c ∷ bytes))
decide_bytes (c ∷ bytes) (b ∷ s) = bytes_at c b bytes s (cases_eq b c) (decide_bytes bytes s)

version_either : (minor : ℕ) (t rest : List ℕ) → Version minor t rest
    → Begins (Bytes (print_version 0)) t ⊎ Begins (Bytes (print_version 1)) t
version_either zero t rest x = inl (tt, rest, x.1)
version_either (suc zero) t rest x = inr (tt, rest, x.1)
version_either (suc (suc n)) t rest x = absurd (omega (arith, x.0))

no_version : {M : List ℕ → Type 0} {s : List ℕ} → Refutes M (Begins (Bytes (print_version 0))) s
    → Refutes M (Begins (Bytes (print_version 1))) s → Refutes M (Begins Version) s
no_version old new = record {
  none = λ more follows h. elim (version_either h.0 _ h.1 h.2) [
    | inl x ↦ old.none more follows x
    | inr y ↦ new.none more follows y
  ];
}

completes_version : (minor : ℕ) (s : List ℕ) → minor ≤ 1 → Completes (Bytes (print_version minor)) s
    → Completes Version s
completes_version minor s small x =
    record { more = x.more; tree = minor; reads = λ rest. (small, x.reads rest) }

version_of : (s : List ℕ) → Decision (Bytes (print_version 0)) (Completes (Bytes (print_version 0))) s
    → Decision (Bytes (print_version 1)) (Completes (Bytes (print_version 1))) s
    → Decision Version (Completes Version) s
version_of s (found a rest x) _ = found 0 rest (omega arith, x)
version_of s (cut nay may) (found a rest x) = found 1 rest (omega arith, x)
version_of s (cut nay may) (cut nor y) = cut (no_version nay nor) (completes_version 0 s (omega arith) may)
version_of s (cut nay may) (never nor) =
    cut (no_version nay (never_yet nor)) (completes_version 0 s (omega arith) may)
version_of s (never nay) (found a rest x) = found 1 rest (omega arith, x)
version_of s (never nay) (cut nor may) =
    cut (no_version (never_yet nay) nor) (completes_version 1 s (omega arith) may)
version_of s (never nay) (never nor) = never (no_version nay nor)

-- a version
pub decide_version : (s : List ℕ) → Decision Version (Completes Version) s
decide_version s = version_of s (decide_bytes (print_version 0) s) (decide_bytes (print_version 1) s)

-- ---- empty lines

blank_of_none : (hs : List LineEnd) (rest : List ℕ) → Blank hs [] rest → ⊥
blank_of_none [] rest h = subst (Stops is_newline) (sym h.0) h.1
blank_of_none (crlf ∷ hs) rest h = let e = h.0 in cc
blank_of_none (lf ∷ hs) rest h = let e = h.0 in cc

newline_shorter : (e : LineEnd) (s r : List ℕ) → Newline e s r → length r < length s
newline_shorter crlf s r x = omega (arith, ap length x)
newline_shorter lf s r x = omega (arith, ap length x)

blank_at : (text : List ℕ) (es : List LineEnd) (b : ℕ) (s : List ℕ) → text ≡ print_blank es ++ b ∷ s
    → is_newline b ≡ true
    → Decision Newline (Completes Newline) (b ∷ s)
    → ((e : LineEnd) (r : List ℕ) → length r ≤ length s → text ≡ print_blank (es ++ e ∷ []) ++ r
    → Decision Blank (Completes BlankLines) text)
    → Decision Blank (Completes BlankLines) text
blank_at text es b s is newline (found e r x) again =
    again e r (omega (arith, newline_shorter e (b ∷ s) r x)) (blank_more es e text (b ∷ s) r is x)
blank_at text es b s is newline (cut nay may) again =
    cut (Blank_after es is (Blank_newline (b ∷ s) 0 (omega arith) newline nay)) (BlankLines_after es is may)
blank_at text es b s is newline (never nay) again =
    never (Blank_after es is (Blank_newline (b ∷ s) 0 (omega arith) newline nay))

blank_side : (text : List ℕ) (es : List LineEnd) (b : ℕ) (s : List ℕ) → text ≡ print_blank es ++ b ∷ s
    → (is_newline b ≡ true) ⊎ (is_newline b ≡ false)
    → ((e : LineEnd) (r : List ℕ) → length r ≤ length s → text ≡ print_blank (es ++ e ∷ []) ++ r
    → Decision Blank (Completes BlankLines) text)
    → Decision Blank (Completes BlankLines) text
blank_side text es b s is (inl newline) again = blank_at text es b s is newline (decide_newline (b ∷ s)) again
blank_side text es b s is (inr other) again = found es (b ∷ s) (is, other)

blank_from : (n : ℕ) (text : List ℕ) (es : List LineEnd) (s : List ℕ) → length s ≤ n
    → text ≡ print_blank es ++ s
    → Decision Blank (Completes BlankLines) text
blank_from n text es [] fits is =
    cut (Blank_after es is (NotYet_intro (λ h. blank_of_none h.0 h.1 h.2)))
    (BlankLines_after es is some_newline)
blank_from zero text es (b ∷ s) fits is = absurd (omega (arith, fits))
blank_from (suc n) text es (b ∷ s) fits is =
    blank_side text es b s is (sides (is_newline b))
    (λ e r short also. blank_from n text (es ++ e ∷ []) r (omega (arith, fits, short)) also)

-- empty lines
pub decide_blank : (s : List ℕ) → Decision Blank (Completes BlankLines) s
decide_blank s = blank_from (length s) s [] s (omega arith) refl

-- ---- the request line

AfterTarget : List ℕ → Type 0
AfterTarget u = Completes (Then Target (Then Version Newline)) u ⊎ AllPass is_uri_byte u

AfterMethod : List ℕ → Type 0
AfterMethod t = Completes (Then Method (Then Target (Then Version Newline))) t
    ⊎ ((m : List ℕ) × (u : List ℕ) × Method m t u × AllPass is_uri_byte u)

decide_line_end : (s : List ℕ) → Decision (Then Version Newline) (Completes (Then Version Newline)) s
decide_line_end s =
    decide_then Version_deterministic s (λ may. Completes_first may some_newline)
    (λ a t x may. Completes_next Version_deterministic {a = a} x may) (decide_version s) decide_newline

decide_target_on : (s : List ℕ) → Decision (Then Target (Then Version Newline)) AfterTarget s
unfolding AfterTarget
decide_target_on s =
    decide_then Target_deterministic s (λ may. inr may)
    (λ a t x may. inl (Completes_next Target_deterministic {a = a} x may)) (decide_target s) decide_line_end

method_next : (s : List ℕ) (m t : List ℕ) → Method m s t → AfterTarget t → AfterMethod s
unfolding AfterTarget AfterMethod
method_next s m t x (inl may) = inl (Completes_next Method_deterministic {a = m} x may)
method_next s m t x (inr all) = inr (m, t, x, all)

decide_method_on : (s : List ℕ) → Decision (Then Method (Then Target (Then Version Newline))) AfterMethod s
unfolding AfterMethod
decide_method_on s =
    decide_then Method_deterministic s
    (λ all. inl (Completes_first (Word_cut is_token_byte 32 65 letter_is_token all)
    (Completes_first some_target (Completes_first some_version some_newline))))
    (λ a t x may. method_next s a t x may) (decide_word is_token_byte 32 space_ends_token s) decide_target_on

blank_next : (s : List ℕ) (es : List LineEnd) (t : List ℕ) → Blank es s t → AfterMethod t
    → MayBecomeRequestStart s
unfolding AfterMethod
blank_next s es t x (inl may) = inl (Completes_next Blank_deterministic {a = es} x may)
blank_next s es t x (inr p) = inr (ends_in_target es p.0 p.1 x p.2 p.3)

-- a request line with the empty lines before it
pub decide_start : (s : List ℕ) → Decision RequestStart MayBecomeRequestStart s
decide_start s =
    decide_then Blank_deterministic s (λ may. inl (line_blank may)) (λ a t x may. blank_next s a t x may)
    (decide_blank s) decide_method_on

-- ---- fields

text_refuted : {M : List ℕ → Type 0} (s w rest : List ℕ) → AllPass is_value_byte w
    → s ≡ w ++ rest → Stops is_value_byte rest
    → Refutes M (Begins Newline) rest → Refutes M (Begins Text) s
text_refuted s w rest pass whole stops = Refutes_by λ more h.
    let same = run_unique is_value_byte h.0.0 w (print_end h.0.1 ++ h.1) (rest ++ more) h.2.0 pass
    (Stops_value h.0.1 h.1) (stops_more rest more stops) (sym h.2.1 ∙ front-append s w rest more whole) in
    (h.0.1, h.1, sym same.1)
  where
    stops_more : (r more : List ℕ) → Stops is_value_byte r → Stops is_value_byte (r ++ more)
    stops_more [] more x = absurd x
    stops_more (b ∷ r) more x = x

text_end : (s w rest : List ℕ) → AllPass is_value_byte w → s ≡ w ++ rest → Stops is_value_byte rest
    → Decision Newline (Completes Newline) rest → Decision Text (Completes Text) s
text_end s w rest pass whole stops (found e q x) =
    found (w, e) q (pass, whole ∙ ap (λ (t : List ℕ). w ++ t) x)
text_end s w rest pass whole stops (cut nay may) = cut (text_refuted s w rest pass whole stops nay) (record {
  more = may.more;
  tree = (w, may.tree);
  reads =
      λ q. (pass, front-append s w rest (may.more ++ q) whole ∙ ap (λ (t : List ℕ). w ++ t) (may.reads q));
})
text_end s w rest pass whole stops (never nay) = never (text_refuted s w rest pass whole stops nay)

text_at : (s w rest : List ℕ) → AllPass is_value_byte w → s ≡ w ++ rest
    → (rest ≡ []) ⊎ Stops is_value_byte rest
    → Decision Text (Completes Text) s
text_at s w rest pass whole (inl e) =
    let all : AllPass is_value_byte s =
    subst (AllPass is_value_byte) (sym (whole ∙ ap (λ (t : List ℕ). w ++ t) e ∙ append-nil w)) pass in
    cut (NotYet_intro λ h. run_unstopped is_value_byte h.0.0 (print_end h.0.1 ++ h.1)
    (subst (AllPass is_value_byte) h.2.1 all) (Stops_value h.0.1 h.1))
    (record { more = 10 ∷ []; tree = (s, lf); reads = λ q. (all, refl) })
text_at s w rest pass whole (inr stops) = text_end s w rest pass whole stops (decide_newline rest)

-- the value of a field
pub decide_text : (s : List ℕ) → Decision Text (Completes Text) s
decide_text s = let r = run_split is_value_byte s in text_at s r.run r.rest r.pass r.whole r.stops

decide_row : (s : List ℕ)
    → Decision (Then (Word is_token_byte 58) Text) (Completes (Then (Word is_token_byte 58) Text)) s
decide_row s =
    decide_then Name_deterministic s
    (λ all. Completes_first (Word_cut is_token_byte 58 65 letter_is_token all) some_text)
    (λ a t x may. Completes_next Name_deterministic {a = a} x may)
    (decide_word is_token_byte 58 colon_ends_token s) decide_text

-- what a text is to the lines of a section
pub data Line (s : List ℕ) : Type 0 where
  last : (e : LineEnd) (rest : List ℕ) → Newline e s rest → Line s
  field : (f : Field) (rest : List ℕ) → FieldLine f s rest → length rest < length s → Line s
  short : NotYet BeginsLine s → CompletesLine s → Line s
  wrong : Never BeginsLine s → Line s

then_shorter : (s t rest name raw : List ℕ) (e : LineEnd) → Word is_token_byte 58 name s t
    → Text (raw, e) t rest
    → length rest < length s
then_shorter s t rest name raw e word value =
    omega (
      arith,
      ap length word.2,
      length-append name (58 ∷ t),
      ap length value.1,
      length-append raw (print_end e ++ rest),
      length-append (print_end e) rest,
    )

line_other : (b : ℕ) (s : List ℕ) → is_newline b ≡ false
    → Decision (Then (Word is_token_byte 58) Text) (Completes (Then (Word is_token_byte 58) Text)) (b ∷ s)
    → Line (b ∷ s)
line_other b s other (found a rest x) =
    field (record { name = a.0; raw = a.1.0; end = a.1.1 }) rest
    (FieldLine_done a.0 a.1.0 a.1.1 (b ∷ s) x.0 rest x.1 x.2)
    (then_shorter (b ∷ s) x.0 rest a.0 a.1.0 a.1.1 x.1 x.2)
line_other b s other (cut nay may) =
    short (BeginsLine_either (Newline_at_other _ (b ∷ s) 0 (omega arith) other) (FieldLine_row nay))
    (inr (FieldLine_of_row may))
line_other b s other (never nay) =
    wrong (BeginsLine_either (Newline_at_other _ (b ∷ s) 0 (omega arith) other) (FieldLine_row nay))

line_newline : (b : ℕ) (s : List ℕ) → is_newline b ≡ true → Decision Newline (Completes Newline) (b ∷ s)
    → Line (b ∷ s)
line_newline b s newline (found e rest x) = last e rest x
line_newline b s newline (cut nay may) =
    short (BeginsLine_either nay (FieldLine_at_newline _ (b ∷ s) 0 (omega arith) newline)) (inl may)
line_newline b s newline (never nay) =
    wrong (BeginsLine_either nay (FieldLine_at_newline _ (b ∷ s) 0 (omega arith) newline))

line_side : (b : ℕ) (s : List ℕ) → (is_newline b ≡ true) ⊎ (is_newline b ≡ false) → Line (b ∷ s)
line_side b s (inl newline) = line_newline b s newline (decide_newline (b ∷ s))
line_side b s (inr other) = line_other b s other (decide_row (b ∷ s))

no_line : BeginsLine [] → ⊥
no_line (inl x) = newline_of_none x.0 x.1 x.2
no_line (inr y) = Stops-FieldLine y.0 [] y.1 y.2

-- a line of a section
pub decide_line : (s : List ℕ) → Line s
decide_line [] = short (NotYet_intro no_line) (inl some_newline)
decide_line (b ∷ s) = line_side b s (sides (is_newline b))

section_step : (text : List ℕ) (fs : List Field) (s : List ℕ) → FieldLines fs text s → Line s
    → ((gs : List Field) (r : List ℕ) → length r < length s → FieldLines gs text r
    → Decision Section (Completes Section) text)
    → Decision Section (Completes Section) text
section_step text fs s lines (last e rest x) again =
    found (fs, e) rest (Section_done fs e text s rest lines x)
section_step text fs s lines (field f rest x shorter) again =
    again (fs ++ f ∷ []) rest shorter (FieldLines_push fs f text s rest lines x)
section_step text fs s lines (short nay may) again =
    cut (Section_after fs lines nay) (Section_after_lines fs lines (Section_of_line may))
section_step text fs s lines (wrong nay) again = never (Section_after fs lines nay)

section_from : (n : ℕ) (text : List ℕ) (fs : List Field) (s : List ℕ) → length s < n → FieldLines fs text s
    → Decision Section (Completes Section) text
section_from zero text fs s fits lines = absurd (omega (arith, fits))
section_from (suc n) text fs s fits lines =
    section_step text fs s lines (decide_line s)
    (λ gs r shorter also. section_from n text gs r (omega (arith, fits, shorter)) also)

-- a section of fields
pub decide_section : (s : List ℕ) → Decision Section (Completes Section) s
decide_section s = section_from (suc (length s)) s [] s (omega arith) (All-nil _, refl)
