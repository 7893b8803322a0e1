-- The digits of a chunk line, and the byte after them.
use Rattle.std.proofs.Common.{◌≡◌, ◌≢◌, ℕ, suc, ◌+◌, ◌*◌, ◌-◌, ◌<◌, ◌≤◌, ◌^◌, Bool, true, false, cond, List}
use Rattle.std.proofs.Common.{[], ◌∷◌, ◌++◌, Option, Some, None, length, min, refl, sym, ap, ◌∙◌}
use Rattle.std.proofs.Common.{length-append, add-one, arith}
use Rattle.std.specs.Prelude.{is_some, nat_le, unwrap_or}
use Rattle.std.proofs.lemmas.Bool.Decides.{nat_tests}
use Rattle.std.proofs.lemmas.List.{take_all}
use Rattle.std.proofs.Math.Nat.{pow-le-pow_right, pow-suc}
use Rattle.warp_request.specs.declared.body_place.BodyPlace.TheVariants as Places
use Rattle.warp_response.specs.Statuses.{bad_request}
use Rattle.warp_request.specs.declared.verdict.Framing.{Framing}
use Rattle.warp_request.specs.Body.{behind_digits, behind_extension, hex_digit, is_hex, line_end, line_of}
use Rattle.warp_request.specs.Body.{opens_extension, with_digit}
use Rattle.warp_request.specs.BodyReader.{IsDigits, RepresentsAt}
use Rattle.warp_request.proofs.BodyLemmas.{all_more, capped_wrong, digits_end, digits_many, digits_none}
use Rattle.warp_request.proofs.BodyLemmas.{digits_some, number_more}
use Rattle.warp_request.specs.BodyGrowthLaws.{line_end_wrong}
use Rattle.warp_request.proofs.ChunkedLemmas.{one_more, more_of_line, line_refused}

digit_below : (b d : ℕ) → hex_digit b ≡ Some d → d < 16
digit_below b d is =
    by (nat_le 48 b) refl (nat_le b 57) refl (nat_le 65 b) refl (nat_le b 70) refl
    (nat_le 97 b) refl (nat_le b 102) refl is
  where
    some_is : (m n : ℕ) → Some m ≡ Some n → m ≡ n
    some_is m n e = ap (λ (o : Option ℕ). unwrap_or o 0) e

    by : (p : Bool) → nat_le 48 b ≡ p → (q : Bool) → nat_le b 57 ≡ q → (r : Bool) → nat_le 65 b ≡ r
        → (s : Bool) → nat_le b 70 ≡ s → (t : Bool) → nat_le 97 b ≡ t → (u : Bool) → nat_le b 102 ≡ u
        → hex_digit b ≡ Some d → d < 16
    by p pe q qe r re s se t te u ue e = grind (arith, nat_tests)

-- one more digit
pub digit_more : (framing : Framing) (fed : List ℕ) (sum count number b d next : ℕ)
    → hex_digit b ≡ Some d → count < 8
    → next ≡ min (min (number * 16) 18446744073709551615 + d) 18446744073709551615
    → RepresentsAt (Places.Size count number) sum framing fed
    → RepresentsAt (Places.Size (count + 1) next) sum framing (fed ++ b ∷ [])
digit_more framing fed sum count number b d next some few is (chunked_is, in_line) =
    let x = in_line.holds in
    let line = in_line.line in
    let below : d < 16 = digit_below b d some in
    let power : 16 ^ suc count ≡ 16 ^ count * 16 = pow-suc 16 count in
    let small : number * 16 + d < 16 ^ suc count = omega (arith, x.small, below, power) in
    let some_base : 0 < 16 = omega arith in
    let at_most : suc count ≤ 8 = omega (arith, few) in
    let bound : 16 ^ suc count ≤ 16 ^ 8 = pow-le-pow_right some_base at_most in
    let exact : next ≡ number * 16 + d = omega (arith, is, small, bound) in
    let size : length (line ++ b ∷ []) ≡ length line + 1 = length-append line (b ∷ []) in (
      chunked_is,
      record {
        before = in_line.before;
        line = line ++ b ∷ [];
        left = in_line.left;
        parts = more_of_line in_line.before line fed b in_line.parts;
        chunks = in_line.chunks;
        holds = record {
          all = all_more is_hex line b x.all (ap is_some some);
          counted = size ∙ ap (λ n. n + 1) x.counted;
          few = omega (arith, few);
          means =
              number_more line b ∙ ap (λ n. with_digit n b) x.means
              ∙ ap (λ (o : Option ℕ). number * 16 + unwrap_or o 0) some ∙ sym exact;
          small = omega (arith, small, exact, ap (λ n. 16 ^ n) (add-one count));
        };
      },
    )

-- a ninth digit is refused
pub digit_refused : (framing : Framing) (fed : List ℕ) (sum count number b d : ℕ)
    → hex_digit b ≡ Some d → 8 ≤ count
    → RepresentsAt (Places.Size count number) sum framing fed
    → RepresentsAt (Places.Refused bad_request) sum framing (fed ++ b ∷ [])
digit_refused framing fed sum count number b d some many (chunked_is, in_line) =
    let x = in_line.holds in
    let line = in_line.line in
    let full : length line ≡ 8 = omega (arith, x.counted, x.few, many) in
    line_refused framing in_line.before line fed in_line.left sum b bad_request chunked_is
    in_line.parts in_line.chunks
    (λ t. capped_wrong 256 bad_request bad_request line t b line_of (omega (arith, full))
    (λ u. digits_many line u b d x.all some full))

-- what the byte after the digits leaves of the line
number_leaves : (line : List ℕ) (count number b : ℕ) → IsDigits count number line
    → hex_digit b ≡ None → 1 ≤ count
    → (u : List ℕ) → line_of (line ++ b ∷ u)
    ≡ cond (opens_extension b) (line_end number (behind_extension u)) (line_end number (b ∷ u))
number_leaves line count number b x none some u =
    digits_end line u b x.all none (omega (arith, x.counted, x.few))
    ∙ digits_some line u b number (omega (arith, x.counted, some)) x.means

-- a line that begins with no digit is refused
pub number_none : (framing : Framing) (fed : List ℕ) (sum count number b : ℕ) → hex_digit b ≡ None → count ≡ 0
    → RepresentsAt (Places.Size count number) sum framing fed
    → RepresentsAt (Places.Refused bad_request) sum framing (fed ++ b ∷ [])
number_none framing fed sum count number b none zero_is (chunked_is, in_line) =
    let x = in_line.holds in
    let line = in_line.line in
    let short : length line ≤ 8 = omega (arith, x.counted, x.few) in
    let empty : line ≡ [] = sym (take_all 0 line (omega (arith, x.counted, zero_is))) in
    line_refused framing in_line.before line fed in_line.left sum b bad_request chunked_is
    in_line.parts in_line.chunks
    (λ t. capped_wrong 256 bad_request bad_request line t b line_of (omega (arith, short))
    (λ u. digits_end line u b x.all none short ∙ ap (λ (l : List ℕ). behind_digits l (b ∷ u)) empty
    ∙ digits_none b u))

-- CR after the digits
pub number_return : (framing : Framing) (fed : List ℕ) (sum count number b : ℕ)
    → hex_digit b ≡ None → 1 ≤ count → b ≡ 13
    → RepresentsAt (Places.Size count number) sum framing fed
    → RepresentsAt (Places.LineFeed number) sum framing (fed ++ b ∷ [])
number_return framing fed sum count number b none some is (chunked_is, in_line) =
    let x = in_line.holds in
    let line = in_line.line in
    let size : length (line ++ b ∷ []) ≡ length line + 1 = length-append line (b ∷ []) in (
      chunked_is,
      (
        255 - count,
        omega (arith, x.few),
        record {
          before = in_line.before;
          line = line ++ b ∷ [];
          left = in_line.left;
          parts = more_of_line in_line.before line fed b in_line.parts;
          chunks = in_line.chunks;
          holds = record {
            kept = omega (arith, size, x.counted, x.few);
            reads =
                λ t. ap (λ (s : List ℕ). line_of s) (one_more line t b)
                ∙ number_leaves line count number b x none some t
                ∙ ap (λ m.
                cond (opens_extension m) (line_end number (behind_extension t)) (line_end number (m ∷ t))) is;
          };
        },
      ),
    )

-- an extension begins
pub number_extension : (framing : Framing) (fed : List ℕ) (sum count number b : ℕ) → hex_digit b ≡ None
    → 1 ≤ count → opens_extension b ≡ true
    → RepresentsAt (Places.Size count number) sum framing fed
    → RepresentsAt (Places.Extension (255 - count) number) sum framing (fed ++ b ∷ [])
number_extension framing fed sum count number b none some opens (chunked_is, in_line) =
    let x = in_line.holds in
    let line = in_line.line in
    let size : length (line ++ b ∷ []) ≡ length line + 1 = length-append line (b ∷ []) in (
      chunked_is,
      omega (arith, x.few),
      record {
        before = in_line.before;
        line = line ++ b ∷ [];
        left = in_line.left;
        parts = more_of_line in_line.before line fed b in_line.parts;
        chunks = in_line.chunks;
        holds = record {
          kept = omega (arith, size, x.counted, x.few);
          reads =
              λ t. ap (λ (s : List ℕ). line_of s) (one_more line t b)
              ∙ number_leaves line count number b x none some t
              ∙ ap (λ (c : Bool). cond c (line_end number (behind_extension t)) (line_end number (b ∷ t)))
              opens;
        };
      },
    )

-- any other byte after the digits is refused
pub number_refused : (framing : Framing) (fed : List ℕ) (sum count number b : ℕ)
    → hex_digit b ≡ None → 1 ≤ count → b ≢ 13
    → opens_extension b ≡ false → RepresentsAt (Places.Size count number) sum framing fed
    → RepresentsAt (Places.Refused bad_request) sum framing (fed ++ b ∷ [])
number_refused framing fed sum count number b none some other opens (chunked_is, in_line) =
    let x = in_line.holds in
    let line = in_line.line in
    line_refused framing in_line.before line fed in_line.left sum b bad_request chunked_is
    in_line.parts in_line.chunks
    (λ t. capped_wrong 256 bad_request bad_request line t b line_of (omega (arith, x.counted, x.few))
    (λ u. number_leaves line count number b x none some u
    ∙ ap (λ (c : Bool). cond c (line_end number (behind_extension u)) (line_end number (b ∷ u))) opens
    ∙ line_end_wrong number b u other))
