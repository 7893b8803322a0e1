-- To be believed: what an answer of `next` shows of the bytes that it was given.
use Rattle.std.specs.Prelude.{ℕ, ◌≤◌, List, length, take, map}
use Rattle.httparse.specs.declared.spans.HeaderSpan.{HeaderSpan}
use Rattle.httparse.specs.declared.spans.RequestSpans.{RequestSpans}
use Rattle.httparse.specs.Spans.{span_bytes, header_bytes, IsWithin}
use Rattle.warp_request.specs.declared.verdict.Next.{Next}
use Rattle.warp_request.specs.declared.verdict.Next.TheVariants.{More, Refuse, Head}
use Rattle.warp_request.specs.Checks.{Parts}
use Rattle.warp_request.specs.Verdict.{Verdict, more, refused, asked}

-- the verdict that the answer gives, with the bytes that its spans cover
abbrev pub shown : List ℕ → Next → Verdict
shown s More = more
shown s (Refuse code) = refused code
shown s (Head h) = asked (record {
  method = span_bytes s h.method;
  target = span_bytes s h.target;
  minor = h.minor;
  len = h.head_len;
  framing = h.framing;
  keeps = h.keeps;
  interim = h.interim;
})

-- the spans lie in the head, and the head in the bytes
abbrev pub LiesIn : List ℕ → Next → Type 0
LiesIn s (Head h) = IsWithin h.head_len h.method × IsWithin h.head_len h.target × (h.head_len ≤ length s)
LiesIn s (Refuse code) = Unit {0}
LiesIn s More = Unit {0}

-- the parts of a head that the parser's spans cover
abbrev pub parts_shown : List ℕ → List HeaderSpan → RequestSpans → Parts
parts_shown s fields r = record {
  method = span_bytes s r.method;
  target = span_bytes s r.path;
  minor = r.version;
  fields = map (header_bytes s) (take r.headers fields);
  len = r.len;
}
