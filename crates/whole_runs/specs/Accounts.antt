-- To be believed: what the passes and the books of a server that is over say together.
use Rattle.std.specs.Prelude.{◌≡◌, ◌⊎◌, ℕ, ◌+◌, ◌-◌, ◌^◌, ◌≤◌, ◌<◌, List, [], ◌∷◌, map, All, Some, IfSome}
use Rattle.std.specs.Prelude.{Bool, true, false}
use Rattle.outside.specs.declared.files.Files.{Ghosts}
use Rattle.reg_keys.specs.declared.opening.Opening.{Opening}
use Rattle.reg_keys.specs.declared.entry.Entry.{Entry}
use Rattle.reg_keys.specs.Accounts.{opens}
use Rattle.reg_keys.specs.Tests.{same, total}
use Rattle.turn_cell.specs.Weights.{weigh}
use Rattle.event_mgr.specs.Manager.{own_weight}
use Rattle.timeout_mgr.specs.Passes.{calls_of}
use Rattle.outside.specs.ListenCauses.{ListenerTold}
use Rattle.conn_loop.specs.declared.step.End.TheVariants.{Clean, Cut, ReadFault, WriteFault, FileFault}
use Rattle.conn_loop.specs.declared.step.End.TheVariants.{NoMemory}
use Rattle.warp_tally.specs.Accounts.{accepts, finishes, finishes_any, finished_in, times, turns_away}
use Rattle.warp_books.specs.declared.finish.Finish.{Finish}
use Rattle.warp_books.specs.declared.finish.Finish.TheVariants.{Ended, TimedOut, TurnedAway}
use Rattle.warp_books.specs.declared.finish.Turned.TheVariants.{Watches, Crowded, Poller, Shut}
use Rattle.warp_books.specs.Books.{BookTold, FinishedTold, IsBookOf, same_kind}
use Rattle.warp_jobs.specs.declared.kit.Kit.{Kit}
use Rattle.warp_passes.specs.Own.{entries_of}
use Rattle.warp_passes.specs.declared.shared.ServePass.{ServePass}
use Rattle.warp_passes.specs.Passes.{PassView, pass_view}
use Rattle.warp_runner.specs.Acts.{all_out_in, told_of}
use Rattle.warp_runner.specs.Deeds.{IsStarting}
use Rattle.warp_runner.specs.Journal.{Deed, JournalFits, all_of}
use Rattle.warp_runner.specs.Sweeps.{StopsInSweep, closes, gave}
use Rattle.warp_core.specs.declared.served.Counts.{Counts}
use Rattle.warp_core.specs.declared.served.Served.{Served}
use Rattle.warp_core.specs.declared.served.ServeEnd.{ServeEnd}
use Rattle.warp_core.specs.declared.served.ServeEnd.TheVariants.{Over, PollFault, AcceptFault, Spent}
use Rattle.warp_core.specs.declared.served.ServeEnd.TheVariants as Serving
use Rattle.warp_core.specs.Ends.{tally_weight}
use Rattle.warp_core.specs.Journals.{SomeDid}
use Rattle.whole_runs.specs.Registrations.{CountsFor, registers, taken}
use Rattle.whole_runs.specs.EndCauses.{AllEndsRest}

-- every opening
abbrev pub any : Opening → Bool
any o = true

-- a book that counts a connection only where its end is clean
abbrev pub IsAllClean : BookTold → Type 0
IsAllClean b = (k : Finish) → same_kind k (Ended Clean) ≡ false → b.sums.ends k ≡ 0

-- how many connections a book counts that came to an end of their own, other than want of memory
abbrev pub own_ends : BookTold → ℕ
own_ends b =
    b.sums.ends (Ended Clean) + b.sums.ends (Ended Cut) + b.sums.ends (Ended ReadFault)
    + b.sums.ends (Ended WriteFault) + b.sums.ends (Ended FileFault)

-- the sum of a book's waits isn't at the end of its type
abbrev pub IsUncapped : BookTold → Type 0
IsUncapped b = b.sums.waits < 2 ^ 64 - 1

-- each kind of end once
abbrev pub all_kinds : List Finish
all_kinds =
    Ended Clean ∷ Ended Cut ∷ Ended ReadFault ∷ Ended WriteFault ∷ Ended FileFault ∷ Ended NoMemory ∷ TimedOut
    ∷ TurnedAway Watches ∷ TurnedAway Crowded ∷ TurnedAway Poller ∷ TurnedAway Shut ∷ []

-- the openings of some connections
abbrev pub openings_in : List FinishedTold → List Opening
openings_in ds = map (λ d. d.opening) ds

-- a deed made this opening and didn't count it, which the beginning does, and one that stopped its dispatcher
abbrev pub OpensUncounted : Opening → Deed → Type 0
OpensUncounted o d = (1 ≤ weigh (opens o) d.acts.calls)
    × (((listener : ListenerTold) × (d.job ≡ []) × IsStarting listener d.acts d.stopped)
    ⊎ ((code : ℕ) × (d.stopped ≡ Some code)))

-- what is known of each kit's book
abbrev pub books_of : {P F C B G : Type 0} → (B → BookTold) → List (Kit P F C B G) → List BookTold
books_of told kits = map (λ kit. told kit.book) kits

-- where a server came to its own end, its counts are so
abbrev pub WhereOver : ServeEnd → (Counts → Type 0) → Type 0
WhereOver (Over counts) Are = Are counts
WhereOver PollFault Are = Unit {0}
WhereOver AcceptFault Are = Unit {0}
WhereOver Spent Are = Unit {0}
WhereOver Serving.NoMemory Are = Unit {0}

-- whatever holds passes of the shared things, by the function from each to what its pass knows
module _ {A L : Type 0} (known : A → PassView L) where
  -- what all passes did on the stripes, together, by a weight of entries
  abbrev pub whole : (Entry → ℕ) → List A → ℕ
  whole f xs = weigh (λ x. own_weight f (known x).mgr) xs

  -- how often the sweeps of all passes gave this opening, together
  abbrev pub all_gave : Opening → List A → ℕ
  all_gave o xs = weigh (λ x. weigh (gave o) (calls_of (known x).times)) xs

  -- the accepted registrations under its opening are as many as its waits and its end say
  abbrev pub IsCounted : List A → FinishedTold → Type 0
  IsCounted xs d = CountsFor d.end d.waits (whole (registers (same d.opening)) xs)

  -- so of each connection that a book tells
  abbrev pub AreCounted : List A → List BookTold → Type 0
  AreCounted xs books = All (λ b. IfSome b.kept (λ ds. All (λ d. IsCounted xs d) ds)) books

  -- All accepted registrations of connections are at least as many as all waits that the books sum up, and
  -- one more for each end of a connection's own; and at most these waits and one more for each connection.
  -- They are the latter where every end is clean
  pub record WaitsAddUp (xs : List A) (books : List BookTold) : Type 0 where
    pub least : total (λ b. b.sums.waits) books + total own_ends books ≤ whole (registers any) xs
    pub most : whole (registers any) xs ≤ total (λ b. b.sums.waits) books + tally_weight known finishes_any xs
    pub clean : All IsAllClean books
        → whole (registers any) xs ≡ total (λ b. b.sums.waits) books + tally_weight known finishes_any xs

  -- No opening was finished twice. Each that was finished was accepted, each that was accepted was made, and
  -- each was made once at most. As many links at most were turned away as openings were refused, since all
  -- descriptors were open or the one that was drawn was taken
  pub record OpeningsAddUp (xs : List A) : Type 0 where
    pub finished : (o : Opening) → tally_weight known (finishes o) xs ≤ tally_weight known (accepts o) xs
    pub accepted : (o : Opening) → tally_weight known (accepts o) xs ≤ whole (opens o) xs
    pub opened : (o : Opening) → whole (opens o) xs ≤ 1
    pub turned : tally_weight known turns_away xs ≤ weigh (λ x. all_out_in (known x).mgr) xs + whole taken xs

  -- A journal explains what the pass and the book say, and its deeds handed these connections over, in this
  -- order. They are what the book was handed, so that its numbers are their sums, and a list that it tells is
  -- this one. One by one they are the connections of which the pass's own finishes counted; so where no count is
  -- at the end of its type, the kinds of ends that the book counts add up to as many
  pub record TookWhatCounted (limit : ℕ) (x : A) (b : BookTold) (counted : List FinishedTold) : Type 0 where
    pub journal : JournalFits limit (told_of (known x).mgr (known x).tally (known x).times b) []
    pub deeds : counted ≡ all_of (λ d. d.acts.handed) journal.deeds
    pub book : IsBookOf counted b
    pub each : openings_in counted ≡ finished_in (entries_of (known x).tally)
    pub many : ((k : Finish) → b.sums.ends k < 2 ^ 64 - 1)
        → total b.sums.ends all_kinds ≡ weigh finishes_any (entries_of (known x).tally)

  -- so at each place
  abbrev pub AreTaken : ℕ → List A → List BookTold → List (List FinishedTold) → Type 0
  AreTaken limit [] [] [] = Unit {0}
  AreTaken limit (x ∷ xs) (b ∷ books) (ds ∷ lists) = TookWhatCounted limit x b ds × AreTaken limit xs books lists
  AreTaken _ _ _ _ = ⊥

  -- These are the connections that each book was handed: those that its own pass counted. All books together
  -- were handed an opening as often as all passes finished it, and once at most. So each connection that is
  -- finished is in one book, that of the pass which counted it
  pub record BooksAddUp (limit : ℕ) (xs : List A) (books : List BookTold) : Type 0 where
    pub counted : List (List FinishedTold)
    pub own : AreTaken limit xs books counted
    pub each : (o : Opening)
        → total (λ ds. times o (openings_in ds)) counted ≡ tally_weight known (finishes o) xs
    pub once : (o : Opening) → total (λ ds. times o (openings_in ds)) counted ≤ 1

  -- however a server ended: each connection that a book tells was registered as often as it says, no opening
  -- was finished twice, and each book was handed what its pass counted
  pub record RunsAddUp (limit : ℕ) (xs : List A) (books : List BookTold) : Type 0 where
    pub each : AreCounted xs books
    pub openings : OpeningsAddUp xs
    pub taken_by : BooksAddUp limit xs books

  -- A server is over: it accepted as many links as it was to, each was finished or turned away, and all
  -- registrations add up. The ends that all books count, of all kinds, and the links that were turned away are
  -- as many as the server was to accept
  pub record OverAddsUp (limit : ℕ) (counts : Counts) (xs : List A) (books : List BookTold) : Type 0 where
    pub limit_is : counts.accepted ≡ limit
    pub accepted : counts.accepted ≡ tally_weight known finishes_any xs + counts.turned
    pub turned : counts.turned ≤ weigh (λ x. all_out_in (known x).mgr) xs + whole taken xs
    pub each_finished : (o : Opening) → tally_weight known (finishes o) xs ≡ tally_weight known (accepts o) xs
    pub ends : total (λ b. total b.sums.ends all_kinds) books + counts.turned ≡ limit
    pub waits : All IsUncapped books → WaitsAddUp xs books

module _ {J P F C B G X : Type 0} {H : Ghosts F X} (told : B → BookTold) where
  -- each opening that was made was counted as accepted, or is the listener's, or a
  -- dispatcher stopped where it was made
  abbrev pub OpeningsAreCounted : ℕ → List (ServePass J F X H) → List (Kit P F C B G) → Type 0
  OpeningsAreCounted limit passes kits = (o : Opening)
      → (whole pass_view (opens o) passes ≤ tally_weight pass_view (accepts o) passes)
      ⊎ SomeDid told limit passes kits (OpensUncounted o)

  -- each opening that a sweep gave was closed as often as it was given, or a sweep stopped its dispatcher
  abbrev pub SweptAreClosed : ℕ → List (ServePass J F X H) → List (Kit P F C B G) → Type 0
  SweptAreClosed limit passes kits = (o : Opening)
      → (all_gave pass_view o passes ≤ whole pass_view (closes o) passes)
      ⊎ SomeDid told limit passes kits StopsInSweep

module _ {P F C B G L I X : Type 0} {H : Ghosts F X} (told : B → BookTold) where
  -- what a server of this many links leaves behind adds up, and the ends that it tells have their causes
  pub record ServedAddsUp (limit : ℕ) (s : Served P F C B G L I X H) : Type 0 where
    pub runs : RunsAddUp pass_view limit s.passes.items (books_of told s.kits.items)
    pub causes : AllEndsRest pass_view s.passes.items (books_of told s.kits.items)
    pub opened : OpeningsAreCounted told limit s.passes.items s.kits.items
    pub closed : SweptAreClosed told limit s.passes.items s.kits.items
    pub over : WhereOver s.end
        (λ counts. OverAddsUp pass_view limit counts s.passes.items (books_of told s.kits.items))
