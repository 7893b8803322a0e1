use Rattle.std.proofs.Common.{◌≡◌, ◌<◌, ◌^◌, length, vec_len}
use Rattle.std.specs.Prelude.{All}
use Rattle.poller.specs.declared.script.Script.{Script}
use Rattle.poller.proofs.tests.net.short_scripts.Given as goal

-- this many were made, and each is short
abbrev pub invariant-loop-made : goal.invariant-loop-made
invariant-loop-made l =
    (vec_len l.scripts ≡ l._made) × All (λ (s : Script). length s.steps.items < 2 ^ 32) l.scripts.items
