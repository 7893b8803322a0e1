-- Inner: what is so after a past, taken together, and what the calls make of it.
use Rattle.std.specs.Prelude.{ℕ, ◌++◌, not, if◌then◌else◌, ◌+◌, ◌*◌, ◌&&◌, ◌||◌, ◌==◌, List, [], ◌∷◌, filter}
use Rattle.std.specs.Prelude.{map, Bool, Option, Some, None}
use Rattle.std.specs.List.{list_any}
use Rattle.reg_keys.specs.declared.opening.Opening.{Opening}
use Rattle.reg_keys.specs.declared.registration.Dir.{Dir}
use Rattle.reg_keys.specs.declared.entry.Entry.{Entry}
use Rattle.reg_keys.specs.declared.registration.Dir.TheVariants.{Read, Write}
use Rattle.reg_keys.specs.declared.registration.Dirs.{Dirs}
use Rattle.reg_keys.specs.declared.event.EventName.{EventName}
use Rattle.reg_keys.specs.declared.registration.Key.{Key}
use Rattle.reg_keys.specs.declared.entry.LoadKind.{LoadKind}
use Rattle.reg_keys.specs.declared.entry.FiredKey.{FiredKey}
use Rattle.reg_keys.specs.declared.entry.ShutKey.{ShutKey}
use Rattle.reg_keys.specs.Tests.{same, same_event, same_dir, has_dir}
use Rattle.reg_keys.specs.Histories.{count_after, owner_of, mark_of, ready_bits, Registered, waiting}
use Rattle.reg_keys.specs.Histories.{EventOut, is_of, events_out, is_it, names_mark, without, keys_run}
use Rattle.reg_keys.specs.Histories.{keys_shut, flag_made, flag_back, flag_run, flag_shut, not_asked, Unasked}
use Rattle.reg_keys.specs.Histories.{unasked, is_fired}

-- the count, the owner of each descriptor, the mark and the bit of each direction, what waits, the events
-- that are out, and the flags that are unasked
pub record Facts : Type 0 where
  pub count : ℕ
  pub owner : ℕ → Option Opening
  pub mark : Opening → Dir → ℕ
  pub bit : Opening → Dir → Bool
  pub waits : List Registered
  pub outs : List EventOut
  pub flags : List Unasked

-- the facts after a past of stripe s that began at count c
abbrev pub facts_of : ℕ → ℕ → List Entry → Facts
facts_of s c past = record {
  count = count_after c past;
  owner = owner_of past;
  mark = mark_of s c past;
  bit = ready_bits s c past;
  waits = waiting past;
  outs = events_out s c past;
  flags = unasked past;
}

-- the number that is drawn next
abbrev pub next : ℕ → Facts → ℕ
next s f = 32 * f.count + s

-- the registration is of this descriptor
abbrev pub waits_at : ℕ → Registered → Bool
waits_at fd w = w.opening.fd == fd

-- the event is of this descriptor
abbrev pub out_at : ℕ → EventOut → Bool
out_at fd x = x.event.opening.fd == fd

-- a flag of this opening that fired and wasn't asked for
abbrev pub fired_of : Opening → Unasked → Bool
fired_of o u = same o u.opening && is_fired u.standing

-- the number of a registration
abbrev pub number_of : Registered → ℕ
number_of w = w.key.number

-- the number of a flag
abbrev pub flag_number : Unasked → ℕ
flag_number u = u.key.number

-- the flag has this number
abbrev pub flag_at : ℕ → Unasked → Bool
flag_at k u = u.key.number == k

-- ---- events

-- a registration of the opening whose direction is ready
abbrev pub is_due : Facts → Opening → Registered → Bool
is_due f o w = same o w.opening && f.bit w.opening w.dir

-- some registration of the opening is due
abbrev pub has_due : Facts → Opening → Bool
has_due f o = list_any (is_due f o) f.waits

-- some registration of the opening and this direction is due
abbrev pub due_in : Facts → Opening → Dir → Bool
due_in f o d = list_any (λ w. is_due f o w && same_dir d w.dir) f.waits

-- some event of the opening is out
abbrev pub has_out : Facts → Opening → Bool
has_out f o = list_any (is_of o) f.outs

-- the event that is named for the opening now
abbrev pub event_of : ℕ → Facts → Opening → Option EventName
event_of s f o =
    if has_due f o && not (has_out f o) then Some (record { number = next s f; opening = o }) else None

-- what is so once the event is named
abbrev pub with_event : Facts → Option EventName → Facts
with_event f None = f
with_event f (Some e) = record f {
  count = f.count + 1;
  outs =
      f.outs ++ record { event = e; read = due_in f e.opening Read; write = due_in f e.opening Write } ∷ [];
}

-- what is so once a report is noted, before an event is named
abbrev pub noted : ℕ → Facts → Opening → Dirs → Facts
noted s f o ds = record f {
  count = f.count + 1;
  mark = λ p d. if same o p && has_dir ds d then next s f else f.mark p d;
  bit = λ p d. (same o p && has_dir ds d) || f.bit p d;
}

-- ---- what the other calls do, before an event is named

-- an opening is made on a descriptor
abbrev pub made : Facts → ℕ → Opening → Facts
made f fd o = record f {
  count = f.count + 1;
  owner = λ at. if fd == at then Some o else f.owner at;
  mark = λ p d. if same o p then p.number else f.mark p d;
  bit = λ p d. same o p || f.bit p d;
}

-- a registration waits
abbrev pub registered : Facts → Opening → Dir → Option ℕ → LoadKind → Key → Facts
registered f o d m kind key = record f {
  count = f.count + 1;
  bit = λ p e. not (same o p && same_dir d e && names_mark (f.mark o d) m) && f.bit p e;
  waits = f.waits ++ record { key = key; opening = o; dir = d; kind = kind } ∷ [];
  flags = flag_made kind key o f.flags;
}

-- a registration is given back
abbrev pub withdrawn : Facts → Key → LoadKind → Facts
withdrawn f key kind = record f { waits = without (key ∷ []) f.waits; flags = flag_back kind key f.flags }

-- a flag's owner is told how it came out
abbrev pub told : Facts → Key → Facts
told f key = record f { flags = not_asked key f.flags }

-- an event runs these keys
abbrev pub run : Facts → EventName → List FiredKey → Facts
run f e ran = record f {
  waits = without (keys_run ran) f.waits;
  outs = filter (λ y. not (same_event e y.event)) f.outs;
  flags = map (flag_run ran) f.flags;
}

-- an opening is closed with these keys
abbrev pub shut : Facts → Opening → List ShutKey → Facts
shut f o xs = record f {
  owner = λ fd. if is_it o (f.owner fd) then None else f.owner fd;
  waits = without (keys_shut xs) f.waits;
  outs = filter (λ y. not (is_of o y)) f.outs;
  flags = map (flag_shut xs) f.flags;
}
