-- To be believed: the devices behind a stripe, and that no wake-up of theirs is lost.
-- Devices become ready and are used up, pollers see it and report it, and callers try, fail and register.
-- This is the project's own model of edge reports: an edge for each change, a report for one or more
-- edges, and reports without cause.
use Rattle.std.specs.Prelude.{◌≡◌, ℕ, ◌+◌, ◌-◌, ◌<◌, ◌≤◌, ◌&&◌, ◌==◌, ◌⊎◌, List, [], ◌∷◌, ◌++◌, true, false}
use Rattle.std.specs.Prelude.{Bool, Some, if◌then◌else◌}
use Rattle.reg_keys.specs.declared.opening.Opening.{Opening}
use Rattle.reg_keys.specs.declared.registration.Dir.{Dir}
use Rattle.reg_keys.specs.declared.registration.Dir.TheVariants.{Read, Write}
use Rattle.reg_keys.specs.declared.registration.Dirs.{Dirs}
use Rattle.reg_keys.specs.declared.entry.OpenOutcome.TheVariants.{Opened}
use Rattle.reg_keys.specs.declared.entry.ReportOutcome.{ReportOutcome}
use Rattle.reg_keys.specs.declared.entry.ReportOutcome.TheVariants as Reports
use Rattle.reg_keys.specs.declared.entry.Entry.{Entry}
use Rattle.reg_keys.specs.declared.entry.Entry.TheVariants.{Open, Report, Register}
use Rattle.reg_keys.specs.Tests.{same, same_dir, has_dir, IsIn}
use Rattle.reg_keys.specs.Histories.{IsLive, mark_of, ready_bits, Registered, waiting, IsDue}
use Rattle.reg_keys.specs.Replies.{report_reply, reply_of}

-- a stripe's history and its devices
pub record World : Type 0 where
  pub past : List Entry
  -- whether the device is ready, for each opening and direction
  pub truth : Opening → Dir → Bool
  -- how many edges there are: changes to ready that no poller has seen
  pub edges : Opening → Dir → ℕ
  -- how many hands there are: reports polled and not yet made
  pub hands : Opening → Dir → ℕ
  -- how many callers hold this mark, having tried in vain
  pub tries : Opening → Dir → ℕ → ℕ

-- the world at the beginning, with devices ready or not
abbrev pub first_world : (Opening → Dir → Bool) → World
first_world truth =
    record { past = []; truth = truth; edges = λ o d. 0; hands = λ o d. 0; tries = λ o d m. 0 }

-- one step of the devices, the pollers or the callers
pub data WorldStep : Type 0 where
  -- the device becomes ready, and gives an edge
  Ready : Opening → Dir → WorldStep
  -- what was ready is used up
  Use : Opening → Dir → WorldStep
  -- a poller takes this many edges, and has one report to make
  Poll : Opening → Dir → ℕ → WorldStep
  -- a report is made, with cause or without
  MakeReport : Opening → Dirs → WorldStep
  -- a caller tries in vain, and keeps a mark that he was told
  Blocked : Opening → Dir → ℕ → WorldStep
  -- a call that is no report. A new opening's device is ready or not, to read and to write.
  Call : Entry → Bool → Bool → WorldStep

-- a table that is changed at one opening and direction
abbrev pub changed : {A : Type 0} → Opening → Dir → (A → A) → (Opening → Dir → A) → Opening → Dir → A
changed o d g f p e = if same o p && same_dir d e then g (f p e) else f p e

-- a report takes a hand of each direction that it names, where there is one, unless it was refused as spent
abbrev pub hands_left : ReportOutcome → Opening → Dirs → (Opening → Dir → ℕ) → Opening → Dir → ℕ
hands_left Reports.Spent o ds hands p e = hands p e
hands_left Reports.Stale o ds hands p e = if same o p && has_dir ds e then hands p e - 1 else hands p e
hands_left (Reports.Noted x) o ds hands p e = if same o p && has_dir ds e then hands p e - 1 else hands p e

-- a registration that names a mark takes the try with this mark
abbrev pub tries_left : Entry → (Opening → Dir → ℕ → ℕ) → Opening → Dir → ℕ → ℕ
tries_left (Register o d (Some m) kind r) tries p e n =
    if same o p && same_dir d e && (m == n) then tries p e n - 1 else tries p e n
tries_left _ tries p e n = tries p e n

-- one truth to read and one to write
abbrev pub by_dir : Bool → Bool → Dir → Bool
by_dir r w Read = r
by_dir r w Write = w

-- a new opening's devices are as they are
abbrev pub truth_opened : Entry → Bool → Bool → (Opening → Dir → Bool) → Opening → Dir → Bool
truth_opened (Open fd (Opened o)) r w truth p e = if same o p then by_dir r w e else truth p e
truth_opened _ r w truth p e = truth p e

-- the world after a step
abbrev pub world_after : ℕ → ℕ → World → WorldStep → World
world_after s c w (Ready o d) =
    record w { truth = changed o d (λ _. true) w.truth; edges = changed o d (λ n. n + 1) w.edges }
world_after s c w (Use o d) = record w { truth = changed o d (λ _. false) w.truth }
world_after s c w (Poll o d n) =
    record w { edges = changed o d (λ k. k - n) w.edges; hands = changed o d (λ k. k + 1) w.hands }
world_after s c w (MakeReport o ds) = record w {
  past = Report o ds (report_reply s c w.past o ds) ∷ w.past;
  hands = hands_left (report_reply s c w.past o ds) o ds w.hands;
}
world_after s c w (Blocked o d m) = record w {
  tries = λ p e n. if same o p && same_dir d e && (m == n) then w.tries p e n + 1 else w.tries p e n;
}
world_after s c w (Call e r x) = record w {
  past = reply_of s c w.past e ∷ w.past;
  truth = truth_opened (reply_of s c w.past e) r x w.truth;
  tries = tries_left e w.tries;
}

-- a registration that names a mark needs a try with it, and a report is a step of its own
abbrev pub MayCall : World → Entry → Type 0
MayCall w (Register o d (Some m) kind r) = 1 ≤ w.tries o d m
MayCall w (Report o ds r) = ⊥
MayCall w _ = Unit {0}

-- where a step may come
abbrev pub MayCome : ℕ → ℕ → World → WorldStep → Type 0
MayCome s c w (Poll o d n) = (1 ≤ n) × (n ≤ w.edges o d)
MayCome s c w (Blocked o d m) =
    (w.truth o d ≡ false)
    × ((later : List Entry) × (earlier : List Entry) × (w.past ≡ later ++ earlier)
    × IsLive earlier o × (m ≡ mark_of s c earlier o d))
MayCome s c w (Call e r x) = MayCall w e
MayCome s c w _ = Unit {0}

-- the world after a list of steps
abbrev pub world_at : ℕ → ℕ → World → List WorldStep → World
world_at s c w [] = w
world_at s c w (x ∷ xs) = world_at s c (world_after s c w x) xs

-- each step may come where it comes
abbrev pub IsLawful : ℕ → ℕ → World → List WorldStep → Type 0
IsLawful s c w [] = Unit {0}
IsLawful s c w (x ∷ xs) = MayCome s c w x × IsLawful s c (world_after s c w x) xs

-- an edge or a hand is there, so a report is still to come
abbrev pub IsComing : World → Opening → Dir → Type 0
IsComing w o d = (1 ≤ w.edges o d) ⊎ (1 ≤ w.hands o d)

-- no wake-up is lost
pub record LosesNoWakeUp (s c : ℕ) (w : World) : Type 0 where
  -- what is ready is reported still, or counts as ready
  pub ready : (o : Opening) (d : Dir) → IsLive w.past o → w.truth o d ≡ true
      → IsComing w o d ⊎ (ready_bits s c w.past o d ≡ true)
  -- what became ready since a try is reported still, or was reported since the try's mark
  pub tried : (o : Opening) (d : Dir) (m : ℕ) → 1 ≤ w.tries o d m → IsLive w.past o → w.truth o d ≡ true
      → IsComing w o d ⊎ (m < mark_of s c w.past o d)
  -- no try holds a mark that is still to come
  pub marks : (o : Opening) (d : Dir) (m : ℕ) → 1 ≤ w.tries o d m → IsLive w.past o
      → m ≤ mark_of s c w.past o d
  -- so a registration that waits while its device is ready is due, or a report of it is still to come
  pub wakes : (r : Registered) → IsIn r (waiting w.past) → w.truth r.opening r.dir ≡ true
      → IsComing w r.opening r.dir ⊎ IsDue s c w.past r.key
