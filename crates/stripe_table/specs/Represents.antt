-- To be believed: what a stripe stands for, which is the legal pasts whose facts its table shows.
use Rattle.std.specs.Prelude.{◌≡◌, ℕ, ◌+◌, ◌*◌, ◌%◌, ◌<◌, ◌≤◌, List, [], ◌∷◌, filter, map, length, true}
use Rattle.std.specs.Prelude.{false, Option, Some, None, slice_get}
use Rattle.std.specs.List.{list_any}
use Rattle.reg_keys.specs.declared.opening.Opening.{Opening}
use Rattle.reg_keys.specs.declared.registration.Dir.TheVariants.{Read, Write}
use Rattle.reg_keys.specs.declared.entry.Entry.{Entry}
use Rattle.reg_keys.specs.Tests.{has_dir, how_many, IsIn}
use Rattle.reg_keys.specs.Histories.{Registered, EventOut, Unasked, Standing, StillWaits, HasRun, WasShut}
use Rattle.reg_keys.specs.Replies.{is_flag, reply_of, IsLegal}
use Rattle.stripe_table.specs.Ascending.{Ascends, AllBelow}
use Rattle.stripe_table.specs.Calls.{kind_of}
use Rattle.stripe_table.specs.Index.{IsIndexed}
use Rattle.stripe_table.specs.Facts.{Facts, facts_of, next, waits_at, out_at, fired_of, number_of}
use Rattle.stripe_table.specs.Facts.{flag_number, flag_at}
use Rattle.stripe_table.specs.declared.descriptor.OutSlot.{OutSlot}
use Rattle.stripe_table.specs.declared.descriptor.Registration.{Registration}
use Rattle.stripe_table.specs.declared.descriptor.OpenDescriptor.{OpenDescriptor}
use Rattle.stripe_table.specs.declared.flags.FlagState.{FlagState}
use Rattle.stripe_table.specs.declared.flags.FlagState.TheVariants as State
use Rattle.stripe_table.specs.declared.flags.UnaskedFlag.{UnaskedFlag}
use Rattle.stripe_table.specs.declared.stripe.Stripe.{Stripe}

-- the opening with this number on this descriptor
abbrev pub opening : ℕ → ℕ → Opening
opening n fd = record { number = n; fd = fd }

-- what the definitions say of a flag's state
abbrev pub standing_of : FlagState → Standing
standing_of State.Waiting = StillWaits
standing_of (State.Ran d m) = HasRun d m
standing_of State.Closed = WasShut

-- a flag of the stripe, as the definitions have it
abbrev pub unasked_of : UnaskedFlag → Unasked
unasked_of f = record { key = record { number = f.key }; opening = f.opening; standing = standing_of f.state }

-- the event of an opening, as the definitions have it
abbrev pub outs_of : Option OutSlot → Opening → List EventOut
outs_of None o = []
outs_of (Some x) o = record {
  event = record { number = x.number; opening = o };
  read = has_dir x.dirs Read;
  write = has_dir x.dirs Write;
} ∷ []

-- what is so after each legal past, as far as the table needs it. The next number is n.
pub record IsOrdered (s n : ℕ) (owner : ℕ → Option Opening) (waits : List Registered)
    (flags : List Unasked) : Type 0 where
  -- keys ascend, and none is drawn yet that is still to come
  pub waits_ascend : Ascends number_of waits
  pub waits_old : AllBelow number_of n waits
  pub flags_ascend : Ascends flag_number flags
  pub flags_old : AllBelow flag_number n flags
  -- each live opening is on its own descriptor, which is one of the stripe's
  pub within : (fd : ℕ) (o : Opening) → owner fd ≡ Some o
      → (o.fd ≡ fd) × (fd < 4096) × (fd % 32 ≡ s) × (o.number < n)
  -- what waits belongs to a live opening
  pub held : (w : Registered) → IsIn w waits → owner w.opening.fd ≡ Some w.opening
  -- a flag belongs to an opening that was made in the stripe
  pub made : (u : Unasked) → IsIn u flags → (u.opening.number < n) × (u.opening.fd % 32 ≡ s)
  -- of the keys that wait just the flags are unasked
  pub jobs : (w : Registered) → IsIn w waits → is_flag w.kind ≡ false
      → list_any (flag_at w.key.number) flags ≡ false
  pub waiters : (w : Registered) → IsIn w waits → is_flag w.kind ≡ true
      → IsIn (record { key = w.key; opening = w.opening; standing = StillWaits }) flags
  pub few : length flags ≤ 512

-- the facts are ordered
abbrev pub AreOrdered : ℕ → Facts → Type 0
AreOrdered s f = IsOrdered s (next s f) f.owner f.waits f.flags

-- nothing is kept of a descriptor that isn't open
pub record FitsShut (f : Facts) (fd : ℕ) : Type 0 where
  pub owner : f.owner fd ≡ None
  pub waits : filter (waits_at fd) f.waits ≡ []
  pub outs : filter (out_at fd) f.outs ≡ []

module _ {T : Type 0} (tag : T → List (List ℕ)) where
  -- a registration of the table, as the definitions have it
  abbrev pub registered_of : Opening → Registration T → Registered
  registered_of o r =
      record { key = record { number = r.key }; opening = o; dir = r.dir; kind = kind_of tag r.load }

  -- what is kept of an open descriptor shows what is so of its opening
  pub record FitsOpen (f : Facts) (o : Opening) (d : OpenDescriptor T) : Type 0 where
    pub owner : f.owner o.fd ≡ Some o
    pub read : f.bit o Read ≡ d.read.ready
    pub read_mark : f.mark o Read ≡ d.read.mark
    pub write : f.bit o Write ≡ d.write.ready
    pub write_mark : f.mark o Write ≡ d.write.mark
    pub waits : filter (waits_at o.fd) f.waits ≡ map (registered_of o) d.waits
    pub outs : filter (out_at o.fd) f.outs ≡ outs_of d.out o
    pub fired : how_many (fired_of o) f.flags ≡ d.fired
    pub room : length d.waits + d.fired ≤ 4

  -- what is kept of a descriptor shows what is so of it
  abbrev pub FitsAt : Facts → ℕ → Option (OpenDescriptor T) → Type 0
  FitsAt f fd None = FitsShut f fd
  FitsAt f fd (Some d) = FitsOpen f (opening d.number fd) d

  -- a table of descriptors and a list of flags show what is so
  pub record FitsTable (s : ℕ) (f : Facts) (table : List (Option (OpenDescriptor T)))
      (flags : List UnaskedFlag) : Type 0 where
    pub many : length table ≡ 128
    pub each : (i : ℕ) (d : Option (OpenDescriptor T)) → slice_get table i ≡ Some d → FitsAt f (32 * i + s) d
    pub unasked : map unasked_of flags ≡ f.flags

  -- the stripe shows these facts
  pub record Shows (f : Facts) (st : Stripe T) : Type 0 where
    pub small : st.stripe < 32
    pub count : f.count ≡ st.count
    pub table : FitsTable st.stripe f st.descriptors.items st.flags
    pub ordered : AreOrdered st.stripe f
    pub index : IsIndexed st.index st.descriptors.items

  -- the stripe shows what is so after the past
  abbrev pub ShowsPast : List Entry → Stripe T → Type 0
  ShowsPast past st = Shows (facts_of st.stripe st.first past) st

  -- a call added this entry, whose reply is the right one
  pub record Step (past : List Entry) (e : Entry) (old new : Stripe T) : Type 0 where
    pub name : (new.stripe ≡ old.stripe) × (new.first ≡ old.first)
    pub right : e ≡ reply_of old.stripe old.first past e
    pub fits : ShowsPast (e ∷ past) new

  -- the stripe stands for the past
  pub record Represents (past : List Entry) (st : Stripe T) : Type 0 where
    pub legal : IsLegal st.stripe st.first past
    pub fits : ShowsPast past st
