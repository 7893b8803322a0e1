use Rattle.std.proofs.Common.{◌≡◌, ◌-◌, ◌^◌, min, take}
use Rattle.warp_request.specs.Content.{decimal_of}
use Rattle.warp_request.proofs.length.number_of.Given as goal

abbrev pub invariant-loop-digit : goal.invariant-loop-digit
invariant-loop-digit l = l.number ≡ min (decimal_of (take l.digit-index l.digits)) (2 ^ 64 - 1)
