-- The parts of a chunked body, one byte further: lines and sections within their first bytes.
use Rattle.std.proofs.Common.{◌≡◌, ◌≢◌, ℕ, suc, ◌+◌, ◌-◌, ◌<◌, ◌≤◌, Bool, true, false, cond, List, [], ◌∷◌}
use Rattle.std.proofs.Common.{◌++◌, Option, Some, None, length, take, drop, refl, sym, ap, ◌∙◌, inl, inr}
use Rattle.std.proofs.Common.{length-append, arith}
use Rattle.std.specs.Prelude.{◌&&◌, ◌⊎◌, ◌==◌, is_some, nat_lt, nat_le}
use Rattle.std.specs.List.{list_all, prefix_len}
use Rattle.std.proofs.lemmas.Bool.Decides.{nat_tests}
use Rattle.std.proofs.lemmas.List.{append-nil, drop_all, take_all}
use Rattle.std.proofs.lemmas.List.Sums.{fold-append}
use Rattle.std.proofs.Math.Seq.{drop-append-add, drop-append_seam, take-append-add, take-append_seam}
use Rattle.std.proofs.lemmas.Bool.{and_parts}
use Rattle.warp_response.specs.Statuses.{bad_request}
use Rattle.warp_request.specs.Body.{Part, cut, wrong, past, behind_digits, behind_extension, capped}
use Rattle.warp_request.specs.Body.{hex_digit, is_extension_byte, is_hex, line_end, line_of, number_of}
use Rattle.warp_request.specs.Body.{opens_extension, section_of, with_digit}
use Rattle.warp_request.specs.BodyGrowthLaws.{digits_nil, line_end_wrong, line_end_nil}

-- ---- a part within its first bytes

-- what the first bytes are where some of them were read
window_byte : (limit : ℕ) (line t : List ℕ) (b : ℕ) → length line < limit
    → take limit (line ++ b ∷ t) ≡ line ++ b ∷ take (limit - (length line + 1)) t
window_byte limit line t b short =
    let k = limit - (length line + 1) in
    let whole_is : limit ≡ length line + suc k = omega (arith, short) in
    ap (λ n. take n (line ++ b ∷ t)) whole_is ∙ take-append-add line (b ∷ t) (suc k)

-- a part that ends at this byte ends there within its first bytes
pub capped_past : (limit code : ℕ) (line t : List ℕ) (b n : ℕ) (R : List ℕ → Part) → length line < limit
    → ((u : List ℕ) → R (line ++ b ∷ u) ≡ past n u)
    → capped limit code (line ++ b ∷ t) (take limit (line ++ b ∷ t)) (R (take limit (line ++ b ∷ t)))
    ≡ past n t
capped_past limit code line t b n R short reads =
    let s = line ++ b ∷ t in
    let rest = take (limit - (length line + 1)) t in
    let w_is = window_byte limit line t b short in
    let part : R (take limit s) ≡ past n rest = ap R w_is ∙ reads rest in
    let size : length (take limit s) ≡ length line + length (b ∷ rest) =
    ap (λ (x : List ℕ). length x) w_is ∙ length-append line (b ∷ rest) in
    let count : length (take limit s) - length rest ≡ length line + 1 = omega (arith, size) in
    ap (λ p. capped limit code s (take limit s) p) part ∙ ap (λ m. past n (drop m s)) count
    ∙ ap (λ (x : List ℕ). past n x) (drop-append-add line (b ∷ t) 1)

-- a part that is refused at this byte is so within its first bytes
pub capped_wrong : (limit code c : ℕ) (line t : List ℕ) (b : ℕ) (R : List ℕ → Part) → length line < limit
    → ((u : List ℕ) → R (line ++ b ∷ u) ≡ wrong c)
    → capped limit code (line ++ b ∷ t) (take limit (line ++ b ∷ t)) (R (take limit (line ++ b ∷ t)))
    ≡ wrong c
capped_wrong limit code c line t b R short reads =
    ap (λ p. capped limit code (line ++ b ∷ t) (take limit (line ++ b ∷ t)) p)
    (ap R (window_byte limit line t b short) ∙ reads (take (limit - (length line + 1)) t))

-- a part that isn't whole within fewer bytes is waited for
pub capped_cut : (limit code : ℕ) (line : List ℕ) (R : List ℕ → Part) → length line < limit → R line ≡ cut
    → capped limit code line (take limit line) (R (take limit line)) ≡ cut
capped_cut limit code line R short reads =
    let some : nat_le limit (length line) ≡ false = grind (arith, nat_tests) in
    ap (λ p. capped limit code line (take limit line) p)
    (ap R (take_all limit line (omega (arith, short))) ∙ reads)
    ∙ ap (λ (c : Bool). cond c (wrong code) cut) some

-- a part that isn't whole at the last of its first bytes is refused there
pub capped_full : (limit code : ℕ) (line t : List ℕ) (b : ℕ) (R : List ℕ → Part) → length line + 1 ≡ limit
    → (R (line ++ b ∷ []) ≡ cut) ⊎ (R (line ++ b ∷ []) ≡ wrong code)
    → capped limit code (line ++ b ∷ t) (take limit (line ++ b ∷ t)) (R (take limit (line ++ b ∷ t)))
    ≡ wrong code
capped_full limit code line t b R full reads =
    let s = line ++ b ∷ t in
    let none : limit - (length line + 1) ≡ 0 = omega (arith, full) in
    let w_is : take limit s ≡ line ++ b ∷ [] =
    window_byte limit line t b (omega (arith, full)) ∙ ap (λ n. line ++ b ∷ take n t) none in
    let size : length s ≡ length line + length (b ∷ t) = length-append line (b ∷ t) in
    let enough : nat_le limit (length s) ≡ true = grind (arith, nat_tests) in
    elim reads [
      | inl e ↦ ap (λ p. capped limit code s (take limit s) p) (ap R w_is ∙ e)
          ∙ ap (λ (c : Bool). cond c (wrong code) cut) enough
      | inr e ↦ ap (λ p. capped limit code s (take limit s) p) (ap R w_is ∙ e)
    ]

-- ---- the digits of a chunk line

-- digits before others are counted
prefix_behind : (p : ℕ → Bool) (line t : List ℕ) → list_all p line ≡ true
    → prefix_len p (line ++ t) ≡ length line + prefix_len p t
prefix_behind p [] t all = omega arith
prefix_behind p (x ∷ line) t all =
    let parts = and_parts (p x) (list_all p line) all in
    let more : prefix_len p (line ++ t) ≡ length line + prefix_len p t = prefix_behind p line t parts.1 in
    ap (λ (c : Bool). cond c (1 + prefix_len p (line ++ t)) 0) parts.0 ∙ omega (arith, more)

-- one more digit
pub all_more : (p : ℕ → Bool) (line : List ℕ) (b : ℕ) → list_all p line ≡ true → p b ≡ true
    → list_all p (line ++ b ∷ []) ≡ true
all_more p [] b all one = ap (λ (c : Bool). c && true) one
all_more p (x ∷ line) b all one =
    let parts = and_parts (p x) (list_all p line) all in
    ap (λ (c : Bool). c && list_all p (line ++ b ∷ [])) parts.0 ∙ all_more p line b parts.1 one

-- the number that one more digit makes
pub number_more : (line : List ℕ) (b : ℕ) → number_of (line ++ b ∷ []) ≡ with_digit (number_of line) b
number_more line b = fold-append with_digit 0 line (b ∷ [])

-- after the digits stands a byte that is none
pub digits_end : (line u : List ℕ) (b : ℕ) → list_all is_hex line ≡ true → hex_digit b ≡ None
    → length line ≤ 8
    → line_of (line ++ b ∷ u) ≡ behind_digits line (b ∷ u)
unfolding line_of
digits_end line u b all none few =
    let s = line ++ b ∷ u in
    let stops : prefix_len is_hex (b ∷ u) ≡ 0 =
    ap (λ (o : Option ℕ). cond (is_some o) (1 + prefix_len is_hex u) 0) none in
    let counted = prefix_behind is_hex line (b ∷ u) all in
    let n_is : prefix_len is_hex s ≡ length line = omega (arith, counted, stops) in
    let in_limit : nat_lt 8 (length line) ≡ false = grind (arith, nat_tests) in
    ap (λ n. cond (nat_lt 8 n) (wrong bad_request) (behind_digits (take n s) (drop n s))) n_is
    ∙ ap
    (λ (c : Bool). cond c (wrong bad_request) (behind_digits (take (length line) s) (drop (length line) s)))
    in_limit
    ∙ ap (λ (x : List ℕ). behind_digits x (drop (length line) s)) (take-append_seam line (b ∷ u))
    ∙ ap (λ (x : List ℕ). behind_digits line x) (drop-append_seam line (b ∷ u))

-- a ninth digit is one too many
pub digits_many : (line u : List ℕ) (b d : ℕ) → list_all is_hex line ≡ true → hex_digit b ≡ Some d
    → length line ≡ 8
    → line_of (line ++ b ∷ u) ≡ wrong bad_request
unfolding line_of
digits_many line u b d all some full =
    let s = line ++ b ∷ u in
    let goes : prefix_len is_hex (b ∷ u) ≡ 1 + prefix_len is_hex u =
    ap (λ (o : Option ℕ). cond (is_some o) (1 + prefix_len is_hex u) 0) some in
    let counted = prefix_behind is_hex line (b ∷ u) all in
    let above : 8 < prefix_len is_hex s = omega (arith, counted, goes, full) in
    let over : nat_lt 8 (prefix_len is_hex s) ≡ true = grind (arith, nat_tests) in
    ap (λ (c : Bool).
    cond c (wrong bad_request) (behind_digits (take (prefix_len is_hex s) s) (drop (prefix_len is_hex s) s)))
    over

-- digits alone are waited for
pub digits_cut : (line : List ℕ) → list_all is_hex line ≡ true → length line ≤ 8 → line_of line ≡ cut
unfolding line_of
digits_cut line all few =
    let counted = prefix_behind is_hex line [] all in
    let n_is : prefix_len is_hex line ≡ length line =
    ap (λ (x : List ℕ). prefix_len is_hex x) (sym (append-nil line)) ∙ counted ∙ omega arith in
    let in_limit : nat_lt 8 (length line) ≡ false = grind (arith, nat_tests) in
    ap (λ n. cond (nat_lt 8 n) (wrong bad_request) (behind_digits (take n line) (drop n line))) n_is
    ∙ ap (λ (c : Bool).
    cond c (wrong bad_request) (behind_digits (take (length line) line) (drop (length line) line))) in_limit
    ∙ ap (λ (x : List ℕ). behind_digits (take (length line) line) x)
    (drop_all (length line) line (omega arith))
    ∙ digits_nil (take (length line) line)

-- a line that begins with no digit is refused
pub digits_none : (b : ℕ) (u : List ℕ) → behind_digits [] (b ∷ u) ≡ wrong bad_request
unfolding behind_digits
digits_none b u = refl

-- what follows at least one digit
pub digits_some : (line u : List ℕ) (b n : ℕ) → 1 ≤ length line → number_of line ≡ n
    → behind_digits line (b ∷ u) ≡ cond (opens_extension b) (line_end n (behind_extension u))
    (line_end n (b ∷ u))
unfolding behind_digits
digits_some [] u b n some means = absurd (omega (arith, some))
digits_some (d ∷ line) u b n some means =
    ap (λ m. cond (opens_extension b) (line_end m (behind_extension u)) (line_end m (b ∷ u))) means

-- ---- the end of a line

pub line_end_no_feed : (n b : ℕ) (u : List ℕ) → b ≢ 10 → line_end n (13 ∷ b ∷ u) ≡ wrong bad_request
unfolding line_end
line_end_no_feed n b u other =
    let no_feed : (b == 10) ≡ false = grind (arith, nat_tests) in
    ap (λ (c : Bool). cond c (past n u) (wrong bad_request)) no_feed

pub line_end_past : (n : ℕ) (u : List ℕ) → line_end n (13 ∷ 10 ∷ u) ≡ past n u
unfolding line_end
line_end_past n u = refl

pub line_end_return : (n : ℕ) → line_end n (13 ∷ []) ≡ cut
unfolding line_end
line_end_return n = refl

-- ---- an extension

pub extension_return : (t : List ℕ) → behind_extension (13 ∷ t) ≡ 13 ∷ t
unfolding behind_extension
extension_return t = refl

pub extension_nil : behind_extension [] ≡ []
unfolding behind_extension
extension_nil = refl

pub extension_text : (b : ℕ) (t : List ℕ) → is_extension_byte b ≡ true
    → behind_extension (b ∷ t) ≡ behind_extension t
unfolding behind_extension
extension_text b t text = ap (λ (c : Bool). cond c (behind_extension t) (b ∷ t)) text

pub extension_other : (b : ℕ) (t : List ℕ) → is_extension_byte b ≡ false → behind_extension (b ∷ t) ≡ b ∷ t
unfolding behind_extension
extension_other b t other = ap (λ (c : Bool). cond c (behind_extension t) (b ∷ t)) other

-- no byte of an extension ends its line
pub extension_last : (n b : ℕ) → (line_end n (behind_extension (b ∷ [])) ≡ cut)
    ⊎ (line_end n (behind_extension (b ∷ [])) ≡ wrong bad_request)
extension_last n b = by (is_extension_byte b) refl (b == 13) refl
  where
    by : (t : Bool) → is_extension_byte b ≡ t → (r : Bool) → (b == 13) ≡ r
        → (line_end n (behind_extension (b ∷ [])) ≡ cut)
        ⊎ (line_end n (behind_extension (b ∷ [])) ≡ wrong bad_request)
    by true e r f =
        inl (ap (λ (x : List ℕ). line_end n x) (extension_text b [] e ∙ extension_nil) ∙ line_end_nil n)
    by false e true f =
        let is : b ≡ 13 = grind (arith, nat_tests) in
        inl
        (ap (λ (x : List ℕ). line_end n x) (extension_other b [] e ∙ ap (λ m. m ∷ []) is) ∙ line_end_return n)
    by false e false f =
        let other : b ≢ 13 = grind (arith, nat_tests) in
        inr (ap (λ (x : List ℕ). line_end n x) (extension_other b [] e) ∙ line_end_wrong n b [] other)

-- ---- a trailer section

pub section_text : (fresh : Bool) (b : ℕ) (t : List ℕ) → b ≢ 13 → b ≢ 10 → b ≢ 0
    → section_of fresh (b ∷ t) ≡ section_of false t
unfolding section_of
section_text fresh b [] no_return no_feed no_nul =
    let r : (b == 13) ≡ false = grind (arith, nat_tests) in
    let f : (b == 10) ≡ false = grind (arith, nat_tests) in
    let z : (b == 0) ≡ false = grind (arith, nat_tests) in
    rw (r, f, z) refl
section_text fresh b (c ∷ t) no_return no_feed no_nul =
    let r : (b == 13) ≡ false = grind (arith, nat_tests) in
    let f : (b == 10) ≡ false = grind (arith, nat_tests) in
    let z : (b == 0) ≡ false = grind (arith, nat_tests) in
    rw (r, f, z) refl

pub section_feed : (fresh : Bool) (t : List ℕ) → section_of fresh (10 ∷ t) ≡ wrong bad_request
unfolding section_of
section_feed fresh [] = refl
section_feed fresh (c ∷ t) = refl

pub section_nul : (fresh : Bool) (t : List ℕ) → section_of fresh (0 ∷ t) ≡ wrong bad_request
unfolding section_of
section_nul fresh [] = refl
section_nul fresh (c ∷ t) = refl

pub section_no_feed : (fresh : Bool) (b : ℕ) (t : List ℕ) → b ≢ 10
    → section_of fresh (13 ∷ b ∷ t) ≡ wrong bad_request
unfolding section_of
section_no_feed fresh b t other =
    let f : (b == 10) ≡ false = grind (arith, nat_tests) in
    ap (λ (c : Bool). cond c (cond fresh (past 0 t) (section_of true t)) (wrong bad_request)) f

pub section_line : (t : List ℕ) → section_of false (13 ∷ 10 ∷ t) ≡ section_of true t
unfolding section_of
section_line t = refl

pub section_end : (t : List ℕ) → section_of true (13 ∷ 10 ∷ t) ≡ past 0 t
unfolding section_of
section_end t = refl

pub section_nil : (fresh : Bool) → section_of fresh [] ≡ cut
unfolding section_of
section_nil fresh = refl

pub section_return : (fresh : Bool) → section_of fresh (13 ∷ []) ≡ cut
unfolding section_of
section_return fresh = refl
