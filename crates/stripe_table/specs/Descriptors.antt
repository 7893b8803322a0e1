-- Inner: what the calls do to what is kept of an open descriptor.
use Rattle.std.specs.Prelude.{ℕ, ◌+◌, ◌&&◌, ◌==◌, not, nat_lt, true, false, Bool, Option, Some, None, List}
use Rattle.std.specs.Prelude.{[], ◌∷◌, ◌++◌, filter, if◌then◌else◌}
use Rattle.std.specs.List.{list_any}
use Rattle.reg_keys.specs.Tests.{same_dir, has_dir, how_many}
use Rattle.reg_keys.specs.Histories.{names_mark}
use Rattle.reg_keys.specs.declared.registration.Dir.{Dir}
use Rattle.reg_keys.specs.declared.registration.Dir.TheVariants.{Read, Write}
use Rattle.reg_keys.specs.declared.registration.Dirs.{Dirs}
use Rattle.reg_keys.specs.declared.registration.Dirs.TheVariants as Named
use Rattle.reg_keys.specs.declared.registration.Marks.{Marks}
use Rattle.stripe_table.specs.Loads.{is_flag}
use Rattle.stripe_table.specs.declared.load.Payload.{Payload}
use Rattle.stripe_table.specs.declared.descriptor.Side.{Side}
use Rattle.stripe_table.specs.declared.descriptor.OutSlot.{OutSlot}
use Rattle.stripe_table.specs.declared.descriptor.Registration.{Registration}
use Rattle.stripe_table.specs.declared.descriptor.OpenDescriptor.{OpenDescriptor}

-- the directions of two tests, if one of them is met
abbrev pub dirs_of : Bool → Bool → Option Dirs
dirs_of true true = Some Named.Both
dirs_of true false = Some Named.Read
dirs_of false true = Some Named.Write
dirs_of false false = None

-- a direction that was reported by this number
abbrev pub ready_since : ℕ → Side
ready_since n = record { ready = true; mark = n }

-- a direction for which a registration named this mark
abbrev pub tried_at : Option ℕ → Side → Side
tried_at m x = record { ready = not (names_mark x.mark m) && x.ready; mark = x.mark }

-- no event is named while one is out
abbrev pub unless_out : Option OutSlot → Option Dirs → Option Dirs
unless_out None ds = ds
unless_out (Some x) ds = None

module _ {T : Type 0} where
  -- the registration waits for this direction
  abbrev pub goes : Dir → Registration T → Bool
  goes dir r = same_dir dir r.dir

  -- the registration has this key
  abbrev pub waits_as : ℕ → Registration T → Bool
  waits_as k r = r.key == k

  -- the registration brought a flag
  abbrev pub flag_waits : Registration T → Bool
  flag_waits r = is_flag r.load

  -- the event runs the registration: it is older, and waits for a direction of the event
  abbrev pub is_for : OutSlot → Registration T → Bool
  is_for x r = nat_lt r.key x.number && has_dir x.dirs r.dir

  -- an opening with this number, just made
  abbrev pub just_opened : ℕ → OpenDescriptor T
  just_opened n =
      record { number = n; read = ready_since n; write = ready_since n; waits = []; fired = 0; out = None }

  -- some registration waits for a direction that is ready
  abbrev pub due_to_read : OpenDescriptor T → Bool
  due_to_read d = d.read.ready && list_any (goes Read) d.waits

  -- the same for writing
  abbrev pub due_to_write : OpenDescriptor T → Bool
  due_to_write d = d.write.ready && list_any (goes Write) d.waits

  -- a report of this number names these directions
  abbrev pub noted : OpenDescriptor T → Dirs → ℕ → OpenDescriptor T
  noted d ds n = record d {
    read = (if has_dir ds Read then ready_since n else d.read);
    write = (if has_dir ds Write then ready_since n else d.write);
  }

  -- a registration for this direction names this mark
  abbrev pub tried : OpenDescriptor T → Dir → Option ℕ → OpenDescriptor T
  tried d Read m = record d { read = tried_at m d.read }
  tried d Write m = record d { write = tried_at m d.write }

  -- one more registration waits
  abbrev pub registered : OpenDescriptor T → ℕ → Dir → Option ℕ → Payload T → OpenDescriptor T
  registered d key dir m load =
      record (tried d dir m) { waits = d.waits ++ record { key = key; dir = dir; load = load } ∷ [] }

  -- the directions of the event that is to be named now, if one is
  abbrev pub dirs_to_name : OpenDescriptor T → Option Dirs
  dirs_to_name d = unless_out d.out (dirs_of (due_to_read d) (due_to_write d))

  -- the event of this number is out, if it has directions
  abbrev pub with_out : OpenDescriptor T → ℕ → Option Dirs → OpenDescriptor T
  with_out d n None = d
  with_out d n (Some ds) = record d { out = Some (record { number = n; dirs = ds }) }

  -- the event that is named now has this number
  abbrev pub named : OpenDescriptor T → ℕ → OpenDescriptor T
  named d n = with_out d n (dirs_to_name d)

  -- both marks
  abbrev pub marks_now : OpenDescriptor T → Marks
  marks_now d = record { read = d.read.mark; write = d.write.mark }

  -- what the event of this number runs, if this is the one that is out
  abbrev pub taken_by : Option OutSlot → ℕ → List (Registration T) → List (Registration T)
  taken_by None n rs = []
  taken_by (Some x) n rs = if x.number == n then filter (is_for x) rs else []

  -- what the event of this number runs, if it is out
  abbrev pub taken : OpenDescriptor T → ℕ → List (Registration T)
  taken d n = taken_by d.out n d.waits

  -- the event has run: its flags keep their places
  abbrev pub after_taking : OpenDescriptor T → OutSlot → OpenDescriptor T
  after_taking d x = record d {
    out = None;
    waits = filter (λ r. not (is_for x r)) d.waits;
    fired = d.fired + how_many flag_waits (filter (is_for x) d.waits);
  }

  -- what is left after the event of this number, if this is the one that is out
  abbrev pub after_event : Option OutSlot → ℕ → OpenDescriptor T → OpenDescriptor T
  after_event None n d = d
  after_event (Some x) n d = if x.number == n then after_taking d x else d

  -- what is left after the event of this number
  abbrev pub after_run : OpenDescriptor T → ℕ → OpenDescriptor T
  after_run d n = after_event d.out n d

  -- the key waits at the descriptor, if it is open
  abbrev pub waits_at : ℕ → Option (OpenDescriptor T) → Bool
  waits_at k None = false
  waits_at k (Some d) = list_any (waits_as k) d.waits
