use Rattle.std.proofs.Common.{◌≡◌, map, take}
use Rattle.httparse.specs.Spans.{header_bytes}
use Rattle.warp_request.specs.NamedLines.{lines_shown, named_lines}
use Rattle.warp_request.proofs.fields.NamedLines.read.Given as goal

abbrev pub invariant-loop-field : goal.invariant-loop-field
invariant-loop-field l =
    lines_shown l.lines ≡ named_lines (map (header_bytes l.bytes) (take l.field-index l.fields))
