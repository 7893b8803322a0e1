-- To be believed: what holds after a history of one stripe.
-- Each definition reads the history as a past: the list of its entries, the latest first, so that it can
-- say what the latest entry changes. `s` is the stripe, and `c` the count that the stripe began with.
use Rattle.std.specs.Prelude.{◌≡◌, ℕ, ◌+◌, ◌*◌, ◌&&◌, ◌||◌, ◌==◌, not, List, [], ◌∷◌, ◌++◌, map, filter}
use Rattle.std.specs.Prelude.{reverse, true, false, Bool, Option, Some, None, if◌then◌else◌}
use Rattle.std.specs.List.{list_any}
use Rattle.reg_keys.specs.declared.opening.Opening.{Opening}
use Rattle.reg_keys.specs.declared.event.EventName.{EventName}
use Rattle.reg_keys.specs.declared.registration.Key.{Key}
use Rattle.reg_keys.specs.declared.registration.Dir.{Dir}
use Rattle.reg_keys.specs.declared.registration.Dir.TheVariants.{Read, Write}
use Rattle.reg_keys.specs.declared.registration.Marks.{Marks}
use Rattle.reg_keys.specs.declared.entry.LoadKind.{LoadKind}
use Rattle.reg_keys.specs.declared.entry.LoadKind.TheVariants.{Job, Flag}
use Rattle.reg_keys.specs.declared.entry.FiredKey.{FiredKey}
use Rattle.reg_keys.specs.declared.entry.ShutKey.{ShutKey}
use Rattle.reg_keys.specs.declared.entry.OpenOutcome.TheVariants.{Opened}
use Rattle.reg_keys.specs.declared.entry.ReportOutcome.TheVariants.{Noted}
use Rattle.reg_keys.specs.declared.entry.RegisterOutcome.TheVariants.{Waits}
use Rattle.reg_keys.specs.declared.entry.WithdrawOutcome.TheVariants.{Back}
use Rattle.reg_keys.specs.declared.entry.AskOutcome.TheVariants as Asked
use Rattle.reg_keys.specs.declared.entry.DispatchOutcome.TheVariants.{Ran}
use Rattle.reg_keys.specs.declared.entry.CloseOutcome.TheVariants.{Shut}
use Rattle.reg_keys.specs.declared.entry.Entry.{Entry}
use Rattle.reg_keys.specs.declared.entry.Entry.TheVariants.{Open, Report, Register, Withdraw, Ask, Dispatch}
use Rattle.reg_keys.specs.declared.entry.Entry.TheVariants.{Close}
use Rattle.reg_keys.specs.Tests.{same, same_key, same_event, same_dir, has_dir}

-- the past of a history that is listed in the order of its entries, the latest last
abbrev pub past_of : List Entry → List Entry
past_of h = reverse h

-- ---- numbers

-- the count after an event is named, where one is
abbrev pub count_named : Option EventName → ℕ → ℕ
count_named None n = n
count_named (Some e) n = n + 1

-- the count: the first one, and one more for each number drawn since. An opening, an accepted report and a
-- registration draw one each, and then an event one more.
abbrev pub count_after : ℕ → List Entry → ℕ
count_after c [] = c
count_after c (Open fd (Opened o) ∷ past) = count_after c past + 1
count_after c (Report o ds (Noted e) ∷ past) = count_named e (count_after c past + 1)
count_after c (Register o d m kind (Waits key e) ∷ past) = count_named e (count_after c past + 1)
count_after c (Dispatch x (Ran ran e) ∷ past) = count_named e (count_after c past)
count_after c (_ ∷ past) = count_after c past

-- the number that is drawn next
abbrev pub next_number : ℕ → ℕ → List Entry → ℕ
next_number s c past = 32 * count_after c past + s

-- ---- openings

-- the opening that is there, if one is, is this one
abbrev pub is_it : Opening → Option Opening → Bool
is_it o None = false
is_it o (Some p) = same o p

-- the opening that has a descriptor: the last one made on it that hasn't been closed
abbrev pub owner_of : List Entry → ℕ → Option Opening
owner_of [] fd = None
owner_of (Open at (Opened o) ∷ past) fd = if at == fd then Some o else owner_of past fd
owner_of (Close o (Shut xs) ∷ past) fd = if is_it o (owner_of past fd) then None else owner_of past fd
owner_of (_ ∷ past) fd = owner_of past fd

-- an opening is live while its descriptor is its own
abbrev pub is_live : List Entry → Opening → Bool
is_live past o = is_it o (owner_of past o.fd)

-- the same as a fact
abbrev pub IsLive : List Entry → Opening → Type 0
IsLive past o = is_live past o ≡ true

-- ---- readiness

-- the mark of a direction: the number of the last report that named it, and before any the opening's
abbrev pub mark_of : ℕ → ℕ → List Entry → Opening → Dir → ℕ
mark_of s c [] o d = o.number
mark_of s c (Open fd (Opened p) ∷ past) o d = if same p o then o.number else mark_of s c past o d
mark_of s c (Report p ds (Noted e) ∷ past) o d =
    if same p o && has_dir ds d then next_number s c past else mark_of s c past o d
mark_of s c (_ ∷ past) o d = mark_of s c past o d

-- both marks of an opening
abbrev pub marks_of : ℕ → ℕ → List Entry → Opening → Marks
marks_of s c past o = record { read = mark_of s c past o Read; write = mark_of s c past o Write }

-- a registration that names the mark of its direction has seen all that was reported
abbrev pub names_mark : ℕ → Option ℕ → Bool
names_mark now None = false
names_mark now (Some m) = m == now

-- whether a direction counts as ready: from the opening on and after each report that names it,
-- until a registration names its mark
abbrev pub ready_bits : ℕ → ℕ → List Entry → Opening → Dir → Bool
ready_bits s c [] o d = false
ready_bits s c (Open fd (Opened p) ∷ past) o d = same p o || ready_bits s c past o d
ready_bits s c (Report p ds (Noted e) ∷ past) o d = (same p o && has_dir ds d) || ready_bits s c past o d
ready_bits s c (Register p x m kind (Waits key e) ∷ past) o d =
    not (same p o && same_dir x d && names_mark (mark_of s c past p x) m) && ready_bits s c past o d
ready_bits s c (_ ∷ past) o d = ready_bits s c past o d

-- ---- registrations

-- a registration that waits
pub record Registered : Type 0 where
  pub key : Key
  pub opening : Opening
  pub dir : Dir
  pub kind : LoadKind

-- the registrations whose keys are none of these
abbrev pub without : List Key → List Registered → List Registered
without ks ws = filter (λ (w : Registered). not (list_any (λ k. same_key k w.key) ks)) ws

-- the keys of a Ran list
abbrev pub keys_run : List FiredKey → List Key
keys_run ran = map (λ (r : FiredKey). r.key) ran

-- the keys of a Shut list
abbrev pub keys_shut : List ShutKey → List Key
keys_shut xs = map (λ (x : ShutKey). x.key) xs

-- the registrations that wait, in the order in which they were made, which is that of their keys
abbrev pub waiting : List Entry → List Registered
waiting [] = []
waiting (Register o d m kind (Waits key e) ∷ past) =
    waiting past ++ record { key = key; opening = o; dir = d; kind = kind } ∷ []
waiting (Withdraw key (Back kind) ∷ past) = without (key ∷ []) (waiting past)
waiting (Dispatch x (Ran ran e) ∷ past) = without (keys_run ran) (waiting past)
waiting (Close o (Shut xs) ∷ past) = without (keys_shut xs) (waiting past)
waiting (_ ∷ past) = waiting past

-- a registration of this opening whose direction is ready
abbrev pub is_due : ℕ → ℕ → List Entry → Opening → Registered → Bool
is_due s c past o w = same o w.opening && ready_bits s c past w.opening w.dir

-- a key is due while it waits and its direction is ready
abbrev pub IsDue : ℕ → ℕ → List Entry → Key → Type 0
IsDue s c past k =
    list_any (λ (w : Registered). same_key w.key k && ready_bits s c past w.opening w.dir) (waiting past)
    ≡ true

-- some key of this opening is due
abbrev pub has_due : ℕ → ℕ → List Entry → Opening → Bool
has_due s c past o = list_any (is_due s c past o) (waiting past)

-- some key of this opening and this direction is due
abbrev pub due_in : ℕ → ℕ → List Entry → Opening → Dir → Bool
due_in s c past o d = list_any (λ (w : Registered). is_due s c past o w && same_dir d w.dir) (waiting past)

-- ---- events

-- an event that is out, with the directions that were due as it was named
pub record EventOut : Type 0 where
  pub event : EventName
  pub read : Bool
  pub write : Bool

-- an event of this opening
abbrev pub is_of : Opening → EventOut → Bool
is_of o x = same o x.event.opening

-- the event that the latest entry names, if it names one, comes to those that are out, with the directions of
-- the keys of its opening that are due now
abbrev pub put_out : ℕ → ℕ → List Entry → Option EventName → List EventOut → List EventOut
put_out s c past None outs = outs
put_out s c past (Some e) outs =
    outs
    ++ record { event = e; read = due_in s c past e.opening Read; write = due_in s c past e.opening Write }
    ∷ []

-- the events that are out: each from the reply that names it until it is dispatched or its opening closes
abbrev pub events_out : ℕ → ℕ → List Entry → List EventOut
events_out s c [] = []
events_out s c (Report o ds (Noted e) ∷ past) =
    put_out s c (Report o ds (Noted e) ∷ past) e (events_out s c past)
events_out s c (Register o d m kind (Waits key e) ∷ past) =
    put_out s c (Register o d m kind (Waits key e) ∷ past) e (events_out s c past)
events_out s c (Dispatch x (Ran ran e) ∷ past) =
    put_out s c (Dispatch x (Ran ran e) ∷ past) e
    (filter (λ (y : EventOut). not (same_event x y.event)) (events_out s c past))
events_out s c (Close o (Shut xs) ∷ past) = filter (λ (y : EventOut). not (is_of o y)) (events_out s c past)
events_out s c (_ ∷ past) = events_out s c past

-- ---- flags

-- what a flag's owner can be told
pub data Standing : Type 0 where
  StillWaits : Standing
  HasRun : Dir → Marks → Standing
  WasShut : Standing

-- a flag that hasn't been asked to its end
pub record Unasked : Type 0 where
  pub key : Key
  pub opening : Opening
  pub standing : Standing

-- a flag that stands in a Ran list has run, with the direction and marks that stand there
abbrev pub standing_run : Key → List FiredKey → Standing → Standing
standing_run k [] now = now
standing_run k (r ∷ ran) now = if same_key r.key k then HasRun r.dir r.marks else standing_run k ran now

-- what a Ran list makes of a flag
abbrev pub flag_run : List FiredKey → Unasked → Unasked
flag_run ran f = record f { standing = standing_run f.key ran f.standing }

-- what a Shut list makes of a flag: one that stands there was shut
abbrev pub flag_shut : List ShutKey → Unasked → Unasked
flag_shut xs f =
    record f { standing = if list_any (λ k. same_key k f.key) (keys_shut xs) then WasShut else f.standing }

-- the flags with other keys
abbrev pub not_asked : Key → List Unasked → List Unasked
not_asked k fs = filter (λ (f : Unasked). not (same_key k f.key)) fs

-- a flag comes with its registration, and a job is none
abbrev pub flag_made : LoadKind → Key → Opening → List Unasked → List Unasked
flag_made (Job tag) k o fs = fs
flag_made Flag k o fs = fs ++ record { key = k; opening = o; standing = StillWaits } ∷ []

-- a flag that is given back won't be asked
abbrev pub flag_back : LoadKind → Key → List Unasked → List Unasked
flag_back (Job tag) k fs = fs
flag_back Flag k fs = not_asked k fs

-- the flags that are unasked: each from its registration until an answer has told that it ran or
-- was shut, or it was given back
abbrev pub unasked : List Entry → List Unasked
unasked [] = []
unasked (Register o d m kind (Waits key e) ∷ past) = flag_made kind key o (unasked past)
unasked (Withdraw key (Back kind) ∷ past) = flag_back kind key (unasked past)
unasked (Ask key (Asked.Ran d m) ∷ past) = not_asked key (unasked past)
unasked (Ask key Asked.Closed ∷ past) = not_asked key (unasked past)
unasked (Dispatch x (Ran ran e) ∷ past) = map (flag_run ran) (unasked past)
unasked (Close o (Shut xs) ∷ past) = map (flag_shut xs) (unasked past)
unasked (_ ∷ past) = unasked past

-- a flag that has run
abbrev pub is_fired : Standing → Bool
is_fired (HasRun d m) = true
is_fired _ = false
