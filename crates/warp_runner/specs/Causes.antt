-- To be believed: what happened at a deed that stopped its dispatcher.
use Rattle.std.specs.Prelude.{◌≡◌, ◌⊎◌, ◌≤◌, [], ◌∷◌, Some}
use Rattle.reg_keys.specs.declared.opening.Opening.{Opening}
use Rattle.reg_keys.specs.declared.entry.LoadKind.TheVariants as Kinds
use Rattle.dispatcher.specs.Entries.{Firing}
use Rattle.outside.specs.ListenCauses.{ListenerTold}
use Rattle.warp_tally.specs.declared.calls.TallyCall.TheVariants as Tallies
use Rattle.warp_tally.specs.declared.calls.Counted.TheVariants as Counts
use Rattle.warp_tally.specs.declared.calls.TallyReply.{TallyReply}
use Rattle.warp_jobs.specs.HeldListener.{HeldListener}
use Rattle.warp_jobs.specs.Tags.{listen_tag}
use Rattle.warp_runner.specs.Acts.{Acts, nothing, counted, then}
use Rattle.warp_runner.specs.Deeds.{IsStarting, accept_fault, no_memory}
use Rattle.warp_runner.specs.Journal.{Deed}

-- a run of the listener, after which 1,000 accepts in a row have failed: it did nothing else,
-- and stopped with the code of that
abbrev pub IsBroken : Deed → Type 0
IsBroken d =
    (f : Firing) × (l : HeldListener) × (k : HeldListener) × (d.job ≡ f ∷ [])
    × (f.1.kind ≡ Kinds.Job (listen_tag l)) × (k.opening ≡ l.opening)
    × (k.accepted ≡ l.accepted) × (1000 ≤ k.listener.failed_row) × (d.acts ≡ nothing)
    × (d.stopped ≡ Some accept_fault)

-- the last of these acts is an accept at the tally, which answered that memory was wanted
abbrev pub IsUncounted : Acts → Type 0
IsUncounted acts =
    (before : Acts) × (o : Opening) × (r : TallyReply) × (r.counted ≡ Counts.NoMemory)
    × (acts ≡ then before (counted (record { call = Tallies.Accept o; reply = r })))

-- a run of the listener that stopped since memory was wanted for the count of a link; or the beginning, which
-- stopped since memory was wanted for the listener
abbrev pub IsStarved : Deed → Type 0
IsStarved d =
    ((f : Firing) × (l : HeldListener) × (d.job ≡ f ∷ []) × (f.1.kind ≡ Kinds.Job (listen_tag l))
    × IsUncounted d.acts × (d.stopped ≡ Some no_memory))
    ⊎ ((listener : ListenerTold) × (d.job ≡ []) × IsStarting listener d.acts (Some no_memory))
