use Rattle.std.proofs.Common.{◌≡◌, Bool, false, IsTrue}
use Rattle.warp_commands.proofs.summary.status_of_own_ends.Goals as goal

-- what a test would show that was not met
unmet : (test : Bool) → test ≡ false → IsTrue test → ⊥
unmet test is met = cc

pub returns-clause-cause : goal.returns-clause-cause
returns-clause-cause g c = record {
  served = c.requires;
  no_read_fault = λ some. unmet c.some_ended.result c.if-some_ended.false (c.some_ended.ensures.1 some);
  no_write_fault =
      λ some. unmet c.some_ended-2.result c.if-some_ended-2.false (c.some_ended-2.ensures.1 some);
  no_file_fault = λ some. unmet c.some_ended-3.result c.if-some_ended-3.false (c.some_ended-3.ensures.1 some);
  no_cut = λ some. unmet c.some_ended-4.result c.if-some_ended-4.false (c.some_ended-4.ensures.1 some);
}
