use Rattle.std.proofs.Common.{refl}
use Rattle.warp_request.specs.Fields.{values_of, members_of, has_member}
use Rattle.warp_request.specs.NamedLines.{coding_lines, connection_lines, expect_lines, host_lines}
use Rattle.warp_request.specs.NamedLines.{length_lines, named_lines}
use Rattle.warp_request.proofs.fields.NamedLines.read.Goals as goal

pub loop-field-init : goal.loop-field-init
unfolding named_lines host_lines connection_lines coding_lines length_lines expect_lines
    values_of has_member members_of
loop-field-init c = refl
