-- To be believed: what a poll of a memory net does: it meets its links, raises the words of those that have
-- steps left, and reports just these.
use Rattle.std.specs.Prelude.{◌≡◌, ℕ, ◌+◌, ◌==◌, ◌||◌, ◌⊎◌, Bool, List, [], ◌∷◌, ◌++◌, Option, Some, None}
use Rattle.std.specs.Prelude.{if◌then◌else◌, length, map, nat_lt}
use Rattle.std.specs.List.{flat_map}
use Rattle.reg_keys.specs.declared.opening.Opening.{Opening}
use Rattle.reg_keys.specs.declared.registration.Dirs.TheVariants.{Both}
use Rattle.poller.specs.declared.limits.TheConstants.{REPORTS}
use Rattle.poller.specs.declared.mem_poller.Entry.{Entry}
use Rattle.poller.specs.declared.mem_poller.MemPoller.{MemPoller}
use Rattle.poller.specs.declared.poller.AddOut.{AddOut}
use Rattle.poller.specs.declared.poller.AddOut.TheVariants as Adds
use Rattle.poller.specs.Faults.{PollerFaults}
use Rattle.poller.specs.Polls.{Report}
use Rattle.poller.specs.LinkSeats.{DeliveryState}

-- an entry of a poller is at its end: its link was found to have left, or all steps were delivered
abbrev pub is_done : Entry → Bool
is_done e = nat_lt 0 e.delivery.left || (e.delivery.delivered == e.delivery.limit)

-- an entry, and what was found where its link notes that it leaves: 0 where it hadn't left
pub record Meeting : Type 0 where
  pub entry : Entry
  pub found : ℕ

-- the entry that one met stays as: its poller looked once more whether the link had left; where it had it is
-- marked so, and else its word was raised by one
abbrev pub met_as : Entry → ℕ → Entry
met_as e found = record e {
  delivery = record e.delivery {
    left = found;
    looks = e.delivery.looks + 1;
    delivered = if found == 0 then e.delivery.delivered + 1 else e.delivery.delivered;
  };
}

-- what stays of an entry that was met: one at its end leaves
abbrev pub stays_as : Meeting → List Entry
stays_as m = if is_done m.entry then [] else met_as m.entry m.found ∷ []

-- the opening of an entry whose word was raised when it was met: it isn't at its end,
-- and its link hadn't left
abbrev pub raised_of : Meeting → List Opening
raised_of m = if is_done m.entry || nat_lt 0 m.found then [] else m.entry.opening ∷ []

-- what is reported of openings whose words were raised: each in both directions, in order
abbrev pub reports_of : List Opening → List Report
reports_of raised = map (λ (o : Opening). (o, Both)) raised

-- A poll goes round the entries in their order and meets each once, until there are as many reports as fit.
-- Those that it met and that stay come behind those that it didn't meet
pub record IsRound (old new : List Entry) (reports : List Report) : Type 0 where
  pub met : List Meeting
  pub others : List Entry
  pub before : old ≡ map (λ (m : Meeting). m.entry) met ++ others
  pub after : new ≡ others ++ flat_map stays_as met
  pub given : reports ≡ reports_of (flat_map raised_of met)
  pub ends : (others ≡ []) ⊎ (length reports ≡ REPORTS)

-- a poll is on its way round, and this many entries weren't met
pub record Rounding (old now : List Entry) (reports : List Report) (n : ℕ) : Type 0 where
  pub met : List Meeting
  pub others : List Entry
  pub before : old ≡ map (λ (m : Meeting). m.entry) met ++ others
  pub after : now ≡ others ++ flat_map stays_as met
  pub given : reports ≡ reports_of (flat_map raised_of met)
  pub left : length others ≡ n

-- an entry was met: it stays or leaves, and what is to be reported came to the reports
pub record HasMet (old : Entry) (stays : Bool) (new : Entry) (reports reports' : List Report) : Type 0 where
  pub found : ℕ
  pub kept : (if stays then new ∷ [] else []) ≡ stays_as (record { entry = old; found = found })
  pub given : reports' ≡ reports ++ reports_of (raised_of (record { entry = old; found = found }))

-- the first entry was met, and went after the others where it stays
pub record HasMetFirst (old new : List Entry) (reports reports' : List Report) : Type 0 where
  pub met : Meeting
  pub others : List Entry
  pub before : old ≡ met.entry ∷ others
  pub after : new ≡ others ++ stays_as met
  pub given : reports' ≡ reports ++ reports_of (raised_of met)

-- a poll may change the entries by a round
abbrev pub IsPolled : List Entry → List Entry → Type 0
IsPolled old new = (reports : List Report) × IsRound old new reports

-- nothing was added to a poller
abbrev pub HasNoEntries : MemPoller → Type 0
HasNoEntries poller = poller.entries.items ≡ []

-- a poller of a memory net has no faults
abbrev pub no_faults : PollerFaults
no_faults = record { links = 0; polls = 0 }

-- an add puts the delivery that a link or a listener had after the entries, and changes nothing where that
-- was added before or memory was short
abbrev pub Adding : Opening → Option DeliveryState → Option DeliveryState → List Entry
    → List Entry → AddOut → Type 0
Adding opening None fed old new result = (result ≡ Adds.Added) × (fed ≡ None) × (new ≡ old)
Adding opening (Some delivery) fed old new Adds.Added =
    (fed ≡ None) × (new ≡ old ++ record { opening = opening; delivery = delivery } ∷ [])
Adding opening (Some delivery) fed old new Adds.NoMemory = (fed ≡ Some delivery) × (new ≡ old)
Adding opening (Some delivery) fed old new Adds.Failed = ⊥
