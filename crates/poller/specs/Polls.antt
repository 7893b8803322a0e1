-- To be believed: what a poll gives, and how much.
use Rattle.std.specs.Prelude.{◌<◌, ◌^◌, ◌++◌, List, Option, option_map}
use Rattle.reg_keys.specs.declared.limits.TheConstants.{DESCRIPTORS}
use Rattle.reg_keys.specs.declared.opening.Opening.{Opening}
use Rattle.reg_keys.specs.declared.registration.Dirs.{Dirs}
use Rattle.poller.specs.declared.poller.PollOut.{PollOut}
use Rattle.poller.specs.declared.poller.PollOut.TheVariants.{Polled, Failed}

-- an opening, and the directions in which it may be ready
abbrev pub Report : Type 0
Report = Opening × Dirs

-- an opening that fits the one number which pollers keep with each source
abbrev pub HasToken : Opening → Type 0
HasToken o = (o.number < 2 ^ 57) × (o.fd < DESCRIPTORS)

-- the reports that are told after a poll: those of a poll that didn't fail come after the others
abbrev pub polled_after : PollOut → Option (List Report) → List Report → Option (List Report)
polled_after Polled told out = option_map (λ reports. reports ++ out) told
polled_after Failed told out = told
