-- What a run of steps leaves, step by step.
use Rattle.std.proofs.Common.{◌≡◌, ℕ, ◌≤◌, List, [], ◌∷◌, ◌++◌, Option, Some, None, option_map, refl, sym, ap}
use Rattle.std.proofs.Common.{◌∙◌, subst, arith, inl, inr, append-nil, append_assoc}
use Rattle.std.specs.Prelude.{◌⊎◌, IfNone, IfSome}
use Rattle.outside.specs.Causes.{KeepsLink, LinkTold}
use Rattle.outside.specs.Counts.{Counts, Rises}
use Rattle.outside.specs.FileCauses.{FilesTold, Looked, looked_after}
use Rattle.outside.specs.Folder.{Folder}
use Rattle.outside.specs.declared.files.Files.{Ghosts}
use Rattle.outside.specs.declared.files.FindOut.{FindOut}
use Rattle.outside.specs.declared.files.FindOut.TheVariants as Finds
use Rattle.fd_cache.specs.Acquired.{found_of}
use Rattle.fd_cache.specs.declared.lease.Lease.{Lease}
use Rattle.conn_loop.specs.Supplies.{Holds}
use Rattle.conn_loop.specs.declared.supply.Supply.{Supply}
use Rattle.conn_loop.specs.declared.supply.Supply.TheVariants as supply
use Rattle.app_trait.specs.Below.{LiesBelow, StaysBelow}
use Rattle.app_trait.specs.FolderMoves.{folder_move}
use Rattle.app_trait.specs.Moves.{AppMove, RequestText, look_at}
use Rattle.app_trait.specs.declared.request.Seen.{Seen}
use Rattle.outside.specs.Moments.{ClockTold, Gains}
use Rattle.conn_loop.specs.Causes.{Clocked, CountsWaits, HasFault, IsCaused, Keeps}
use Rattle.conn_loop.specs.Replying.{request_of}
use Rattle.conn_loop.specs.Stages.{Stage, unread, short, reading, refusing, ready, wanting, sending, unmade}
use Rattle.conn_loop.specs.Stages.{broken, finished, failing}
use Rattle.conn_loop.specs.ConnState.{AsksFor, IsAskingStage, ConnState, path_asked_at}
use Rattle.conn_loop.specs.declared.step.Step.{Step}
use Rattle.conn_loop.specs.declared.step.Step.TheVariants.{WantRead, WantWrite, WantFile, Done}
use Rattle.conn_loop.specs.declared.step.End.{End as Finish}
use Rattle.conn_loop.specs.declared.step.End.TheVariants as End
use Rattle.warp_commands.specs.Causes.{AreBelow, LooksBelow}
use Rattle.warp_commands.specs.Steps.{Brings, FailsSince, FaultSince, FilesKept, MayLook, fails_by}

-- ---- paths

below_more : (a b : List (List ℕ)) → AreBelow a → AreBelow b → AreBelow (a ++ b)
below_more [] b x y = y
below_more (p ∷ a) b x y = (x.0, below_more a b x.1 y)

more_none : (o : Option (List (List ℕ))) → o ≡ option_map (λ before. before ++ []) o
more_none None = refl
more_none (Some paths) = ap (λ (v : List (List ℕ)). Some v) (sym (append-nil paths))

more_then : (o p q : Option (List (List ℕ))) (a b : List (List ℕ)) → p ≡ option_map (λ before. before ++ a) o
    → q ≡ option_map (λ before. before ++ b) p
    → q ≡ option_map (λ before. before ++ (a ++ b)) o
more_then None p q a b x y = y ∙ ap (λ (v : Option (List (List ℕ))). option_map (λ before. before ++ b) v) x
more_then (Some o) p q a b x y =
    y ∙ ap (λ (v : Option (List (List ℕ))). option_map (λ before. before ++ b) v) x
    ∙ ap (λ (v : List (List ℕ)). Some v) (append_assoc o a b)

looks_none : (o p : Option (List (List ℕ))) → p ≡ o → LooksBelow o p
looks_none o p same = record { paths = []; below = tt; looked = same ∙ more_none o }

looks_then : (o p q : Option (List (List ℕ))) → LooksBelow o p → LooksBelow p q → LooksBelow o q
looks_then o p q x y = record {
  paths = x.paths ++ y.paths;
  below = below_more x.paths y.paths x.below y.below;
  looked = more_then o p q x.paths y.paths x.looked y.looked;
}

-- ---- files

pub files_none : (f : FilesTold) → FilesKept f f
files_none f =
    record { later = omega arith; rooted = refl; firm = refl; looks = looks_none f.looked f.looked refl }

files_then : (f g h : FilesTold) → FilesKept f g → FilesKept g h → FilesKept f h
files_then f g h x y = record {
  later = omega (arith, x.later, y.later);
  rooted = y.rooted ∙ x.rooted;
  firm = y.firm ∙ x.firm;
  looks = looks_then f.looked g.looked h.looked x.looks y.looks;
}

files_read : (k l : LinkTold) (f g : FilesTold) → Keeps k l f g → FilesKept f g
files_read k l f g x = record {
  later = x.of_files.later;
  rooted = ap (λ (v : FilesTold). v.rooted) x.of_files.same;
  firm = ap (λ (v : FilesTold). v.firm) x.of_files.same;
  looks = looks_none f.looked g.looked (ap (λ (v : FilesTold). v.looked) x.of_files.same);
}

-- a look for a path that lies below
pub files_look : (path : List ℕ) (fails : Option Finish) (f g : FilesTold) → LiesBelow path
    → MayLook path fails f g → FilesKept f g
files_look path fails f g below x = record {
  later = x.later;
  rooted = x.rooted;
  firm = x.firm;
  looks = elim x.looked [
    | inl same ↦ looks_none f.looked g.looked same
    | inr more ↦ record { paths = path ∷ []; below = (below, tt); looked = more }
  ];
}

-- what the folder's application asks for lies below
lies_below : (move : AppMove) (path : List ℕ) → move ≡ look_at path → StaysBelow move → LiesBelow path
lies_below move path is x = subst (λ (m : AppMove). StaysBelow m) is x

pub asked_below : (stage : Stage) → IsAskingStage stage → AsksFor folder_move stage
    → ((request : RequestText) (seen : Seen) → StaysBelow (folder_move request seen))
    → LiesBelow (path_asked_at stage)
asked_below unread asks x below = absurd asks
asked_below short asks x below = absurd asks
asked_below (reading a reader room) asks x below = absurd asks
asked_below (refusing code) asks x below = absurd asks
asked_below (ready a behind seen path) asks x below = absurd asks
asked_below (wanting a behind seen path) asks x below =
    lies_below (folder_move (request_of a) seen) path x (below (request_of a) seen)
asked_below (sending at size) asks x below = absurd asks
asked_below (unmade end) asks x below = absurd asks
asked_below (broken at) asks x below = absurd asks
asked_below finished asks x below = absurd asks

-- ---- a run of steps

-- what holds between two steps
pub record Goes (c : ConnState) (link later : LinkTold) (files since : FilesTold) : Type 0 where
  pub running : c.over ≡ None
  pub fails : FailsSince (failing c.stage) files.faults since.faults
  pub waits : later.waits ≡ link.waits
  pub of_link : KeepsLink link later
  pub of_files : FilesKept files since

pub goes_first : (c : ConnState) (k : LinkTold) (f : FilesTold) → c.over ≡ None
    → failing c.stage ≡ None → Goes c k k f f
goes_first c k f runs sound = record {
  running = runs;
  fails = subst (λ (o : Option Finish). FailsSince o f.faults f.faults) (sym sound) tt;
  waits = refl;
  of_link = record { reads = omega arith; writes = omega arith; plan = refl };
  of_files = files_none f;
}

keeps_then : (k l m : LinkTold) → KeepsLink k l → KeepsLink l m → KeepsLink k m
keeps_then k l m x y = record {
  reads = omega (arith, x.reads, y.reads);
  writes = omega (arith, x.writes, y.writes);
  plan = y.plan ∙ x.plan;
}

fault_since : (step : Step) (fails : Option Finish) (k l m : LinkTold) (f g h : FilesTold) → KeepsLink k l
    → f.faults ≤ g.faults → g.faults ≤ h.faults → FailsSince fails f.faults g.faults
    → HasFault step fails l m g h → FaultSince step k m f h
fault_since WantRead fails k l m f g h keeps first second was x = tt
fault_since WantWrite fails k l m f g h keeps first second was x = tt
fault_since WantFile fails k l m f g h keeps first second was x = tt
fault_since (Done End.Clean) fails k l m f g h keeps first second was x = tt
fault_since (Done End.Cut) fails k l m f g h keeps first second was x = tt
fault_since (Done End.ReadFault) fails k l m f g h keeps first second was x = omega (arith, keeps.reads, x)
fault_since (Done End.WriteFault) fails k l m f g h keeps first second was x = omega (arith, keeps.writes, x)
fault_since (Done End.FileFault) fails k l m f g h keeps first second was x = elim x [
  | inl failed ↦
      let rose : Rises f.faults g.faults =
      subst (λ (o : Option Finish). FailsSince o f.faults g.faults) failed was in
      omega (arith, rose, second)
  | inr rises ↦ omega (arith, first, rises)
]
fault_since (Done End.NoMemory) fails k l m f g h keeps first second was x = tt

counts_since : (step : Step) (k l m : LinkTold) → l.waits ≡ k.waits → CountsWaits step l m
    → CountsWaits step k m
counts_since WantRead k l m same x =
    subst (λ (w : Counts). CountsWaits WantRead (record k { waits = w }) m) same x
counts_since WantWrite k l m same x =
    subst (λ (w : Counts). CountsWaits WantWrite (record k { waits = w }) m) same x
counts_since WantFile k l m same x = x ∙ same
counts_since (Done end) k l m same x = x ∙ same

-- a fact of a connection that isn't over
runs_of : (o : Option Finish) (P : Type 0) → o ≡ None → IfNone o P → P
runs_of o P runs x = subst (λ (v : Option Finish). IfNone v P) runs x

-- the run ends with this step
pub brings_at : (step : Step) (c d : ConnState) (k l m : LinkTold) (f g h : FilesTold) → Goes c k l f g
    → IfNone c.over (IsCaused step c d l m g h) → CountsWaits step l m → Keeps l m g h
    → Brings step k m f h
brings_at step c d k l m f g h x caused waits keeps =
    let why : IsCaused step c d l m g h = runs_of c.over (IsCaused step c d l m g h) x.running caused in
    record {
      fault =
          fault_since step
          (failing c.stage) k l m f g h x.of_link x.of_files.later keeps.of_files.later x.fails why.fault;
      waits = counts_since step k l m x.waits waits;
      of_link = keeps_then k l m x.of_link keeps.of_link;
      of_files = files_then f g h x.of_files (files_read l m g h keeps);
    }

fails_from : (o : Option Finish) (f h i : ℕ) → f ≤ h → FailsSince o h i → FailsSince o f i
fails_from None f h i first x = tt
fails_from (Some End.Clean) f h i first x = x
fails_from (Some End.Cut) f h i first x = x
fails_from (Some End.ReadFault) f h i first x = x
fails_from (Some End.WriteFault) f h i first x = x
fails_from (Some End.FileFault) f h i first x = omega (arith, first, x)
fails_from (Some End.NoMemory) f h i first x = tt

-- or goes on after a file that was supplied
pub goes_supplied : (d e : ConnState) (c : ConnState) (k l m : LinkTold) (f g h i : FilesTold)
    → Goes c k l f g → CountsWaits WantFile l m → Keeps l m g h → e.over ≡ None → FilesKept h i
    → FailsSince (failing e.stage) h.faults i.faults → Goes e k m f i
goes_supplied d e c k l m f g h i x waits keeps runs kept fails = record {
  running = runs;
  fails =
      fails_from (failing e.stage) f.faults h.faults i.faults
      (omega (arith, x.of_files.later, keeps.of_files.later)) fails;
  waits = waits ∙ x.waits;
  of_link = keeps_then k l m x.of_link keeps.of_link;
  of_files = files_then f h i (files_then f g h x.of_files (files_read l m g h keeps)) kept;
}

-- ---- what an acquire answers

may_none : (path : List ℕ) (f g : FilesTold) → g ≡ f → MayLook path None f g
may_none path f g same = record {
  later = subst (λ (v : FilesTold). f.faults ≤ v.faults) (sym same) (omega arith);
  rooted = ap (λ (v : FilesTold). v.rooted) same;
  firm = ap (λ (v : FilesTold). v.firm) same;
  looked = inl (ap (λ (v : FilesTold). v.looked) same);
  failed = tt;
}

may_looked : {X : Type 0} (result : FindOut X) (path : List ℕ) (fails : Option Finish) (f g : FilesTold)
    → Looked result path f g → f.faults ≤ g.faults
    → (looked_after result path f.looked ≡ f.looked)
    ⊎ (looked_after result path f.looked ≡ option_map (λ paths. paths ++ path ∷ []) f.looked)
    → FailsSince fails f.faults g.faults → MayLook path fails f g
may_looked result path fails f g x later notes failed = record {
  later = later;
  rooted = ap (λ (v : FilesTold). v.rooted) x.same;
  firm = ap (λ (v : FilesTold). v.firm) x.same;
  looked = elim notes [ inl same ↦ inl (x.noted ∙ same) | inr more ↦ inr (x.noted ∙ more) ];
  failed = failed;
}

module _ {F X : Type 0} {G : Ghosts F X} where
  pub may_lease : (path : List ℕ) (lease : Lease F X G) (f g : FilesTold)
      → (g ≡ f) ⊎ Looked (found_of lease) path f g → MayLook path None f g
  may_lease path lease f g x = elim x [
    | inl same ↦ may_none path f g same
    | inr looked ↦ may_looked (found_of lease) path None f g looked looked.faulted (inr refl) tt
  ]

pub may_absent : {X : Type 0} (path : List ℕ) (f g : FilesTold) → Looked {X = X} Finds.Absent path f g
    → MayLook path None f g
may_absent {X} path f g x = may_looked {X = X} Finds.Absent path None f g x x.faulted (inr refl) tt

pub may_fail : {X : Type 0} (path : List ℕ) (f g : FilesTold) → Looked {X = X} Finds.Failed path f g
    → MayLook path (Some End.FileFault) f g
may_fail {X} path f g x =
    may_looked {X = X} Finds.Failed path (Some End.FileFault) f g x x.faulted.0 (inr refl) x.faulted.1

pub may_short : {X : Type 0} (path : List ℕ) (f g : FilesTold)
    → (g ≡ f) ⊎ Looked {X = X} Finds.NoMemory path f g → MayLook path (Some End.NoMemory) f g
may_short {X} path f g x = elim x [
  | inl same ↦
      let none = may_none path f g same in
      record { later = none.later; rooted = none.rooted; firm = none.firm; looked = none.looked; failed = tt }
  | inr looked ↦
      may_looked {X = X} Finds.NoMemory path (Some End.NoMemory) f g looked looked.faulted (inl refl) tt
]

-- what was supplied leads to the end that the files' answer names
pub fails_held : {X : Type 0} (path_of : X → List ℕ)
    (entry_of : X → Option ℕ) (got : Supply X) (c : ConnState) (f g : ℕ)
    → Holds path_of entry_of got c
    → FailsSince (fails_by got) f g → FailsSince (failing c.stage) f g
fails_held path_of entry_of (supply.Leased lease) c f g x since =
    subst (λ (o : Option Finish). FailsSince o f g) (sym x.2) since
fails_held path_of entry_of supply.Absent c f g x since =
    subst (λ (o : Option Finish). FailsSince o f g) (sym x.1) since
fails_held path_of entry_of supply.Failed c f g x since =
    subst (λ (o : Option Finish). FailsSince o f g) (sym x.1) since
fails_held path_of entry_of supply.NoMemory c f g x since =
    subst (λ (o : Option Finish). FailsSince o f g) (sym x.1) since

-- what is supplied by a lease that has the path, where the folder is told
pub leased_there : (folder : Option Folder) (path wanted : List ℕ) → path ≡ wanted
    → IfSome folder (λ f. path ≡ wanted)
leased_there None path wanted is = tt
leased_there (Some f) path wanted is = is

-- ---- moments

gains_more : (o p q : Option (List ℕ)) (a b : List ℕ) → Gains o p a → Gains p q b → Gains o q (a ++ b)
gains_more o p None a b x y = tt
gains_more o None (Some q) a b x y = absurd y
gains_more None (Some p) (Some q) a b x y = absurd x
gains_more (Some o) (Some p) (Some q) a b x y = y ∙ ap (λ (t : List ℕ). t ++ b) x ∙ append_assoc o a b

gains_none : (o : Option (List ℕ)) → Gains o o []
gains_none None = tt
gains_none (Some o) = sym (append-nil o)

-- a clock that wasn't asked
pub clocked_first : (c : ConnState) (k : ClockTold) → Clocked c c k k
clocked_first c k = record {
  gained = [];
  grown = sym (append-nil c.moments);
  gave = record { gains = gains_none k.given; stays = refl };
}

-- the moments of two steps, after which none came
pub clocked_then : (first was now new : ConnState) (k l m : ClockTold) → Clocked first was k l
    → Clocked was now l m → new.moments ≡ now.moments → Clocked first new k m
clocked_then first was now new k l m x y same = record {
  gained = x.gained ++ y.gained;
  grown =
      same ∙ y.grown ∙ ap (λ (t : List ℕ). t ++ y.gained) x.grown
      ∙ append_assoc first.moments x.gained y.gained;
  gave = record {
    gains = gains_more k.given l.given m.given x.gained y.gained x.gave.gains y.gave.gains;
    stays = y.gave.stays ∙ x.gave.stays;
  };
}
