-- To be believed: which numbers of descriptors are out after a history of the calls on them, and what each
-- call is answered. The definitions read the history as a past: the list of its entries, the latest first.
use Rattle.std.specs.Prelude.{◌≡◌, ℕ, ◌<◌, suc, zero, ◌==◌, Bool, true, false, not, if◌then◌else◌, List, []}
use Rattle.std.specs.Prelude.{◌∷◌, map, filter, reverse, Option, Some, None}
use Rattle.std.specs.List.{list_any}
use Rattle.event_mgr.specs.declared.numbers.NumbersCall.{NumbersCall}
use Rattle.event_mgr.specs.declared.numbers.NumbersCall.TheVariants.{Draw, GiveBack}
use Rattle.event_mgr.specs.declared.numbers.NumbersReply.{NumbersReply}
use Rattle.event_mgr.specs.declared.numbers.NumbersReply.TheVariants.{Drawn, AllOut, Back, NotOut}
use Rattle.event_mgr.specs.declared.numbers.NumbersEntry.{NumbersEntry}

-- the past of a history that is listed in the order of its entries, each with its seat
abbrev pub numbers_past : List (ℕ × NumbersEntry) → List NumbersEntry
numbers_past h = reverse (map (λ e. e.1) h)

-- the number is one of the list
abbrev pub is_among : List ℕ → ℕ → Bool
is_among ms n = list_any (λ m. m == n) ms

-- the numbers that are out once a call was answered, of those that were out before
abbrev pub out_after : NumbersCall → NumbersReply → List ℕ → List ℕ
out_after Draw (Drawn n) ms = n ∷ ms
out_after (GiveBack n) Back ms = filter (λ m. not (m == n)) ms
out_after _ _ ms = ms

-- the numbers that are out: drawn, and not given back since
abbrev pub numbers_out : List NumbersEntry → List ℕ
numbers_out [] = []
numbers_out (e ∷ past) = out_after e.call e.reply (numbers_out past)

-- the least number below k + 1 that isn't in the list, by the one below k
abbrev pub or_next : List ℕ → ℕ → Option ℕ → Option ℕ
or_next ms k (Some n) = Some n
or_next ms k None = if is_among ms k then None else Some k

-- the least number below k that isn't in the list, if there is one
unfoldable pub least_missing : ℕ → List ℕ → Option ℕ
least_missing zero ms = None
least_missing (suc k) ms = or_next ms k (least_missing k ms)

-- the reply to a draw that finds this number, or none
abbrev pub drawn : Option ℕ → NumbersReply
drawn (Some n) = Drawn n
drawn None = AllOut

-- the reply that a call must have after the past
abbrev pub number_reply : List NumbersEntry → NumbersCall → NumbersReply
number_reply past Draw = drawn (least_missing 4096 (numbers_out past))
number_reply past (GiveBack n) = if is_among (numbers_out past) n then Back else NotOut

-- each reply of the past is the one that its call must have
abbrev pub IsNumbersPast : List NumbersEntry → Type 0
IsNumbersPast [] = Unit {0}
IsNumbersPast (e ∷ past) = (e.reply ≡ number_reply past e.call) × IsNumbersPast past

-- the least number that isn't out
pub record IsLeastFree (out : ℕ → Bool) (n : ℕ) : Type 0 where
  pub within : n < 4096
  pub free : out n ≡ false
  pub least : (m : ℕ) → m < n → out m ≡ true

-- all numbers are out
abbrev pub AreAllOut : (ℕ → Bool) → Type 0
AreAllOut out = (n : ℕ) → n < 4096 → out n ≡ true
