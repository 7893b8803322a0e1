use Rattle.std.proofs.Common.{◌≡◌, ℕ, ◌∷◌, ◌++◌, [], List, map, ap, sym, ◌∙◌, arith}
use Rattle.std.specs.List.{range_with_len}
use Rattle.std.proofs.lemmas.List.{map-append}
use Rattle.poller.specs.declared.script.Script.{Script}
use Rattle.warp_load.specs.declared.load.Load.{Load}
use Rattle.warp_load.specs.LoadScripts.{load_script, script_shown}
use Rattle.warp_load.proofs.LoadLists.{map_next, plans_are, scripts_fit}
use Rattle.warp_load.proofs.RangeLemmas.{ranges}
use Rattle.warp_load.proofs.scripts.load_scripts.Goals as goal

-- the scripts of the connections below a number
abbrev scripts_below : Load → ℕ → List (List (List ℕ × ℕ) × ℕ)
scripts_below load n = map (λ i. load_script load.seed load.requests i) (range_with_len 0 n)

pub loop-connection-preserved : goal.loop-connection-preserved
loop-connection-preserved c =
    let load = c.args.load in
    let n = c.loop-connection.connection in
    let scripts = c.loop-connection.scripts.items in
    let made = c.in_ok-script.field-0 in
    ap (λ (ss : List Script). map script_shown ss) c.in_ok-push.ensures.items
    ∙ map-append script_shown scripts (made ∷ [])
    ∙ ap (λ (shown : List (List ℕ × ℕ) × ℕ). map script_shown scripts ++ shown ∷ []) c.in_ok-script.ensures
    ∙ ap (λ (shown : List (List (List ℕ × ℕ) × ℕ)). shown ++ load_script load.seed load.requests n ∷ [])
    c.loop-connection.invariant
    ∙ sym (map_next (λ i. load_script load.seed load.requests i) n)

pub returns-clause-scripts : goal.returns-clause-scripts
returns-clause-scripts c =
    let all : c.loop-connection.connection ≡ c.args.load.connections = omega arith in
    c.loop-connection.invariant ∙ ap (λ (n : ℕ). scripts_below c.args.load n) all

pub returns-clause-plans : goal.returns-clause-plans
returns-clause-plans c =
    let load = c.args.load in
    let all : c.loop-connection.connection ≡ load.connections = omega arith in
    plans_are load.seed load.requests 0 load.connections c.loop-connection.scripts.items
    (c.loop-connection.invariant ∙ ap (λ (n : ℕ). scripts_below load n) all)

pub returns-clause-fit : goal.returns-clause-fit
returns-clause-fit c =
    let load = c.args.load in
    let all : c.loop-connection.connection ≡ load.connections = omega arith in
    let fits = ranges load.seed load.connections load.requests load.in_range in
    scripts_fit load.seed load.requests load.connections c.loop-connection.scripts.items
    (c.loop-connection.invariant ∙ ap (λ (n : ℕ). scripts_below load n) all) fits.requests_fit
    fits.connections_fit
