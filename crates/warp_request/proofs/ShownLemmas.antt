-- What the answer about a window shows of the bytes.
use Rattle.std.proofs.Common.{◌≡◌, ◌≢◌, ℕ, ◌-◌, ◌≤◌, List, length, take, drop, refl, sym, ap, ◌∙◌, arith}
use Rattle.std.proofs.Common.{length-take, take-append-drop}
use Rattle.httparse.specs.Grammar.{NeverHasRequest}
use Rattle.httparse.specs.Spans.{span_bytes, IsWithin, IsRequestOf, RequestExceeds}
use Rattle.httparse.specs.declared.Error.{Error}
use Rattle.httparse.specs.declared.Error.TheVariants.{HeaderName, HeaderValue, NewLine, Status, Token}
use Rattle.httparse.specs.declared.Error.TheVariants.{TooManyHeaders, Version}
use Rattle.httparse.specs.declared.spans.Span.{Span}
use Rattle.httparse.specs.declared.spans.HeaderSpan.{HeaderSpan}
use Rattle.httparse.specs.declared.spans.RequestSpans.{RequestSpans}
use Rattle.warp_request.specs.declared.limits.TheConstants.{FIELD_ROOM}
use Rattle.warp_request.specs.LimitsAndWords.{head_limit}
use Rattle.warp_request.specs.declared.verdict.Next.{Next}
use Rattle.warp_request.specs.declared.verdict.Next.TheVariants.{More, Refuse, Head}
use Rattle.warp_request.specs.Checks.{parts_of}
use Rattle.warp_request.specs.Shown.{shown, parts_shown, LiesIn}
use Rattle.warp_request.specs.ListLaws.{slice_range-append}
use Rattle.warp_request.proofs.RoomLemmas.{room_enough}

span_bytes-take : (s : List ℕ) (n : ℕ) (span : Span) (len : ℕ) → IsWithin len span → len ≤ length (take n s)
    → span_bytes s span ≡ span_bytes (take n s) span
span_bytes-take s n span len is fits =
    ap (λ (x : List ℕ). span_bytes x span) (sym (take-append-drop n s))
    ∙ slice_range-append (take n s) (drop n s) span.start span.end is.0 (omega (arith, is.1, fits))

-- the window shows what the bytes show
pub shown-take : (s : List ℕ) (n : ℕ) (r : Next) → LiesIn (take n s) r → shown s r ≡ shown (take n s) r
shown-take s n More x = refl
shown-take s n (Refuse code) x = refl
shown-take s n (Head h) x =
    let method = span_bytes-take s n h.method h.head_len x.0 x.2 in
    let target = span_bytes-take s n h.target h.head_len x.1 x.2 in
    cc

pub LiesIn-take : (s : List ℕ) (n : ℕ) (r : Next) → LiesIn (take n s) r → LiesIn s r
LiesIn-take s n More x = x
LiesIn-take s n (Refuse code) x = x
LiesIn-take s n (Head h) x = (x.0, x.1, omega (arith, x.2, length-take n s))

-- whatever the parser's error is, no head is there
pub by_error : (w : List ℕ) (e : Error) → length w ≤ head_limit → (e ≢ TooManyHeaders → NeverHasRequest w)
    → (◌≡◌ {A = Error} e TooManyHeaders → RequestExceeds FIELD_ROOM w) → NeverHasRequest w
by_error w HeaderName fits other many = other (λ p. cc)
by_error w HeaderValue fits other many = other (λ p. cc)
by_error w NewLine fits other many = other (λ p. cc)
by_error w Status fits other many = other (λ p. cc)
by_error w Token fits other many = other (λ p. cc)
by_error w TooManyHeaders fits other many = absurd (room_enough w fits (many refl))
by_error w Version fits other many = other (λ p. cc)

-- the spans show the parts of the head
pub same_parts : (w : List ℕ) (fields : List HeaderSpan) (r : RequestSpans) (x : IsRequestOf w fields r)
    → parts_shown w fields r ≡ parts_of x.0
same_parts w fields r x =
    let a = x.1.method in
    let b = x.1.path in
    let c = x.1.version in
    let d = x.1.fields in
    let e = x.1.len in
    cc
