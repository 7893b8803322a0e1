use Rattle.std.proofs.Common.{arith, sym, length-take}
use Rattle.std.proofs.lemmas.List.{take_all}
use Rattle.warp_request.proofs.heads.window.Goals as goal

pub slice_bounds-result-end : goal.slice_bounds-result-end
slice_bounds-result-end c = omega (arith, length-take 8192 c.args.bytes.now)

pub returns-then-bytes-gt-HEAD_LIMIT-clause-fits : goal.returns-then-bytes-gt-HEAD_LIMIT-clause-fits
returns-then-bytes-gt-HEAD_LIMIT-clause-fits c = omega (arith, length-take 8192 c.args.bytes.now)

pub returns-else-bytes-gt-HEAD_LIMIT-clause-is : goal.returns-else-bytes-gt-HEAD_LIMIT-clause-is
returns-else-bytes-gt-HEAD_LIMIT-clause-is c = sym (take_all 8192 c.args.bytes.now (omega arith))
