-- Inner: what the head found in an input asks for.
use Rattle.std.specs.Prelude.{ℕ, List}
use Rattle.httparse.specs.Spans.{span_bytes}
use Rattle.warp_request.specs.declared.verdict.HeadInfo.{HeadInfo}
use Rattle.warp_request.specs.Verdict.{Asked}

-- what the head found in an input asks for, as the definitions see it
abbrev pub asked_in : List ℕ → HeadInfo → Asked
asked_in s h = record {
  method = span_bytes s h.method;
  target = span_bytes s h.target;
  minor = h.minor;
  len = h.head_len;
  framing = h.framing;
  keeps = h.keeps;
  interim = h.interim;
}
