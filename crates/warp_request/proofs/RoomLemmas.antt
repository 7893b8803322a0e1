-- A head within the limit has no more fields than a scratch has room for.
use Rattle.std.proofs.Common.{ℕ, ◌+◌, ◌*◌, ◌≤◌, List, [], ◌∷◌, ◌++◌, length, ap, arith, append-nil}
use Rattle.std.proofs.Common.{length-append}
use Rattle.std.specs.Prelude.{All}
use Rattle.std.specs.List.{flat_map}
use Rattle.std.proofs.lemmas.List.Elements.{All-head, All-tail}
use Rattle.httparse.specs.Grammar.{RequestHead, IsRequestHead, print_request, print_blank, print_end}
use Rattle.httparse.specs.Grammar.{print_version, print_section, print_field, Field, IsField, LineEnd, crlf}
use Rattle.httparse.specs.Grammar.{lf}
use Rattle.httparse.specs.Spans.{RequestExceeds}
use Rattle.httparse.proofs.GrammarLemmas.{print_request-append}
use Rattle.warp_request.specs.declared.limits.TheConstants.{FIELD_ROOM}
use Rattle.warp_request.specs.LimitsAndWords.{head_limit}

fields_long : (fs : List Field) → All IsField fs → 3 * length fs ≤ length (flat_map print_field fs)
fields_long [] all = omega arith
fields_long (f ∷ fs) all =
    let first = All-head IsField f fs all in
    let end : 1 ≤ length (print_end f.end) = end_long f.end in
    omega (
      arith,
      fields_long fs (All-tail IsField f fs all),
      first.name.0,
      end,
      length-append (print_field f) (flat_map print_field fs),
      length-append (f.name ++ 58 ∷ f.raw) (print_end f.end),
      length-append f.name (58 ∷ f.raw),
    )
  where
    end_long : (e : LineEnd) → 1 ≤ length (print_end e)
    end_long crlf = omega arith
    end_long lf = omega arith

pub room_enough : (w : List ℕ) → length w ≤ head_limit → RequestExceeds FIELD_ROOM w → ⊥
room_enough w fits x =
    let h = x.3 in
    let reads = x.4 in
    let long = fields_long h.fields reads.0.fields in
    omega (
      arith,
      fits,
      x.5,
      long,
      ap length x.2,
      length-append x.0 x.1,
      ap length reads.1,
      length-append x.0 (print_end lf),
      append-nil (print_request h),
      head_long h reads.0,
    )
  where
    head_long : (h : RequestHead) → IsRequestHead h
        → length (flat_map print_field h.fields) + 12 ≤ length (print_request h ++ [])
    head_long h is = rw print_request-append
        (omega (
          arith,
          is.method.0,
          is.target.0,
          length-append (print_blank h.blank)
              (h.method ++ 32 ∷ (h.target ++ 32
              ∷ (print_version h.minor ++ (print_end h.line_end ++ (print_section h.fields h.last ++ []))))),
          length-append h.method
              (32 ∷ (h.target ++ 32
              ∷ (print_version h.minor ++ (print_end h.line_end ++ (print_section h.fields h.last ++ []))))),
          length-append h.target
              (32
              ∷ (print_version h.minor ++ (print_end h.line_end ++ (print_section h.fields h.last ++ [])))),
          length-append (print_end h.line_end) (print_section h.fields h.last ++ []),
          length-append (print_section h.fields h.last) [],
          length-append (flat_map print_field h.fields) (print_end h.last),
        ))
