use Rattle.std.proofs.Common.{◌≡◌, map}
use Rattle.std.specs.List.{range_with_len}
use Rattle.warp_load.specs.LoadScripts.{load_script, script_shown}
use Rattle.warp_load.proofs.scripts.load_scripts.Given as goal

-- the scripts so far are those of the load
abbrev pub invariant-loop-connection : goal.invariant-loop-connection
invariant-loop-connection l =
    map script_shown l.scripts.items
    ≡ map (λ i. load_script l.load.seed l.load.requests i) (range_with_len 0 l.connection)
