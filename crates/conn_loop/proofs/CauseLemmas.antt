-- Why a step comes, over one part of a call after the other.
use Rattle.std.proofs.Common.{◌≡◌, ℕ, ◌+◌, ◌≤◌, List, [], ◌∷◌, ◌++◌, length, Option, Some, None, IfSome, refl}
use Rattle.std.proofs.Common.{sym, ap, ◌∙◌, subst, arith, inl, inr, append_assoc, append-nil}
use Rattle.std.specs.Prelude.{◌⊎◌, min, nat_lt, Bool, true, false, if◌then◌else◌}
use Rattle.outside.specs.Causes.{LinkTold, KeepsLink}
use Rattle.outside.specs.Counts.{Counts, Rises, full}
use Rattle.outside.specs.FileCauses.{FilesTold}
use Rattle.outside.specs.Moments.{ClockTold, Gains, Gives}
use Rattle.conn_loop.specs.declared.step.Step.{Step}
use Rattle.conn_loop.specs.declared.step.Step.TheVariants.{WantRead, WantWrite, WantFile, Done}
use Rattle.conn_loop.specs.declared.step.End.{End}
use Rattle.conn_loop.specs.declared.step.End.TheVariants.{Clean, Cut, ReadFault, WriteFault, FileFault}
use Rattle.conn_loop.specs.declared.step.End.TheVariants.{NoMemory}
use Rattle.conn_loop.specs.Causes.{Clocked, CountsWaits, HasFault, ReadsOnly}
use Rattle.conn_loop.specs.Stages.{Stage, unread, sending, failing, FailsBy}
use Rattle.conn_loop.specs.ConnState.{ConnState, IsAsking}
use Rattle.conn_loop.specs.declared.writing.WriteEnd.{WriteEnd}
use Rattle.conn_loop.specs.declared.writing.WriteEnd.TheVariants.{All, Waits, Fails}
use Rattle.app_trait.specs.Moves.{Moves}
use Rattle.outside.specs.Folder.{Folder}
use Rattle.outside.specs.FileCauses.{PartFaults}
use Rattle.outside.specs.declared.files.PartOut.{PartOut}
use Rattle.outside.specs.declared.files.PartOut.TheVariants as Parts
use Rattle.conn_loop.specs.Moves.{AsksToLook, ReadsPart, Sends, stage_read}
use Rattle.conn_loop.proofs.WriteStepLemmas.{due_step}
use Rattle.conn_loop.proofs.WritingLemmas.{sends_counted}
use Rattle.conn_loop.specs.Steps.{Goes, GoesOver, EndsWith, CountsFor, MayEnd}

-- ---- moments

gains_more : (o p q : Option (List ℕ)) (a b : List ℕ) → Gains o p a → Gains p q b → Gains o q (a ++ b)
gains_more o p None a b x y = tt
gains_more o None (Some q) a b x y = absurd y
gains_more None (Some p) (Some q) a b x y = absurd x
gains_more (Some o) (Some p) (Some q) a b x y = y ∙ ap (λ (t : List ℕ). t ++ b) x ∙ append_assoc o a b

gains_none : (o : Option (List ℕ)) → Gains o o []
gains_none None = tt
gains_none (Some o) = sym (append-nil o)

-- moments were handed out, twice
gives_then : (k l m : ClockTold) (a b : List ℕ) → Gives a k l → Gives b l m → Gives (a ++ b) k m
gives_then k l m a b x y =
    record { gains = gains_more k.given l.given m.given a b x.gains y.gains; stays = y.stays ∙ x.stays }

-- the moments of two steps
pub clocked_then : (first was new : ConnState) (k l m : ClockTold) → Clocked first was k l
    → Clocked was new l m → Clocked first new k m
clocked_then first was new k l m x y = record {
  gained = x.gained ++ y.gained;
  grown = y.grown ∙ ap (λ (t : List ℕ). t ++ y.gained) x.grown ∙ append_assoc first.moments x.gained y.gained;
  gave = gives_then k l m x.gained y.gained x.gave y.gave;
}

-- a clock that wasn't asked
pub clocked_none : (old new : ConnState) (k : ClockTold) → new.moments ≡ old.moments → Clocked old new k k
clocked_none old new k same = record {
  gained = [];
  grown = same ∙ sym (append-nil old.moments);
  gave = record { gains = gains_none k.given; stays = refl };
}

-- a clock that gave one moment
pub clocked_one : (old new : ConnState) (m : ℕ) (k l : ClockTold)
    → new.moments ≡ old.moments ++ m ∷ [] → Gives (m ∷ []) k l → Clocked old new k l
clocked_one old new m k l same gave = record { gained = m ∷ []; grown = same; gave = gave }

-- a step in which nothing was noted before
pub clocked_same : (old mid new : ConnState) (k l : ClockTold) → mid.moments ≡ old.moments
    → Clocked mid new k l → Clocked old new k l
clocked_same old mid new k l same x =
    record { gained = x.gained; grown = x.grown ∙ ap (λ (v : List ℕ). v ++ x.gained) same; gave = x.gave }

-- what was noted is kept
pub clocked_kept : (old mid new : ConnState) (k l : ClockTold) → new.moments ≡ mid.moments
    → Clocked old mid k l → Clocked old new k l
clocked_kept old mid new k l same x = record { gained = x.gained; grown = same ∙ x.grown; gave = x.gave }

-- ---- what stays

pub keeps_then : (k l m : LinkTold) → KeepsLink k l → KeepsLink l m → KeepsLink k m
keeps_then k l m x y = record {
  reads = omega (arith, x.reads, y.reads);
  writes = omega (arith, x.writes, y.writes);
  plan = y.plan ∙ x.plan;
}

pub files_then : (f g h : FilesTold) → ReadsOnly f g → ReadsOnly g h → ReadsOnly f h
files_then f g h x y = record {
  later = omega (arith, x.later, y.later);
  same = y.same ∙ ap (λ (v : FilesTold). record v { faults = h.faults }) x.same;
}

-- files that weren't asked
pub files_none : (f : FilesTold) → ReadsOnly f f
files_none f = record { later = omega arith; same = refl }

-- ---- causes

fails_then : (a b c : Option End) (f g h : ℕ) → f ≤ g → g ≤ h → FailsBy a b f g
    → FailsBy b c g h → FailsBy a c f h
fails_then a b c f g h first second x y = elim y [
  | inl same ↦
      elim x [ inl was ↦ inl (same ∙ was) | inr rose ↦ inr (same ∙ rose.0, omega (arith, rose.1, second)) ]
  | inr rose ↦ inr (rose.0, omega (arith, rose.1, first))
]

-- a cause that was counted from here on was counted from before
fault_from : (step : Step) (old mid : Option End) (k l m : LinkTold) (f g h : FilesTold)
    → KeepsLink k l → f.faults ≤ g.faults → g.faults ≤ h.faults
    → FailsBy old mid f.faults g.faults → HasFault step mid l m g h → HasFault step old k m f h
fault_from (Done ReadFault) old mid k l m f g h of_link first second fails x = omega (arith, of_link.reads, x)
fault_from (Done WriteFault) old mid k l m f g h of_link first second fails x =
    omega (arith, of_link.writes, x)
fault_from (Done FileFault) old mid k l m f g h of_link first second fails x = elim x [
  | inl was ↦ elim fails [ inl same ↦ inl (sym same ∙ was) | inr rose ↦ inr (omega (arith, rose.1, second)) ]
  | inr rises ↦ inr (omega (arith, first, rises))
]
fault_from (Done Clean) old mid k l m f g h of_link first second fails x = tt
fault_from (Done Cut) old mid k l m f g h of_link first second fails x = tt
fault_from (Done NoMemory) old mid k l m f g h of_link first second fails x =
    elim fails [
      | inl same ↦ sym same ∙ x
      | inr rose ↦ absurd (let e : Some FileFault ≡ Some NoMemory = sym rose.0 ∙ x in cc)
    ]
fault_from WantRead old mid k l m f g h of_link first second fails x = tt
fault_from WantWrite old mid k l m f g h of_link first second fails x = tt
fault_from WantFile old mid k l m f g h of_link first second fails x = tt

counts_from : (step : Step) (k l m : LinkTold) → l.waits ≡ k.waits → CountsWaits step l m
    → CountsWaits step k m
counts_from WantRead k l m same x =
    subst (λ (w : Counts). CountsWaits WantRead (record k { waits = w }) m) same x
counts_from WantWrite k l m same x =
    subst (λ (w : Counts). CountsWaits WantWrite (record k { waits = w }) m) same x
counts_from WantFile k l m same x = x ∙ same
counts_from (Done end) k l m same x = x ∙ same

-- a part of a call that answered nothing, and then another one
pub goes_then : (result : Option Step) (a b c : ConnState) (k l m : LinkTold) (f g h : FilesTold)
    → GoesOver None a b k l f g → GoesOver result b c l m g h
    → GoesOver result a c k m f h
goes_then None a b c k l m f g h x y = record {
  keeps = record {
    of_link = keeps_then k l m x.keeps.of_link y.keeps.of_link;
    of_files = files_then f g h x.keeps.of_files y.keeps.of_files;
  };
  cause = tt;
  fails =
      fails_then (failing a.stage) (failing b.stage) (failing c.stage) f.faults g.faults h.faults
      x.keeps.of_files.later y.keeps.of_files.later x.fails y.fails;
  counts = y.counts ∙ x.counts;
  counted = λ was. y.counted (x.counted was);
  file = y.file;
}
goes_then (Some step) a b c k l m f g h x y = record {
  keeps = record {
    of_link = keeps_then k l m x.keeps.of_link y.keeps.of_link;
    of_files = files_then f g h x.keeps.of_files y.keeps.of_files;
  };
  cause =
      fault_from step (failing a.stage) (failing b.stage) k l m f g h x.keeps.of_link
      x.keeps.of_files.later y.keeps.of_files.later x.fails y.cause;
  fails =
      fails_then (failing a.stage) (failing b.stage) (failing c.stage) f.faults g.faults h.faults
      x.keeps.of_files.later y.keeps.of_files.later x.fails y.fails;
  counts = counts_from step k l m x.counts y.counts;
  counted = λ was. y.counted (x.counted was);
  file = y.file;
}

-- a part of a call that files have no part in
pub goes_over : (result : Option Step) (a b : ConnState) (k l : LinkTold) (f : FilesTold)
    → Goes result a b k l → GoesOver result a b k l f f
goes_over result a b k l f y = record {
  keeps = record { of_link = y.keeps; of_files = files_none f };
  cause = y.cause f f;
  fails = inl y.stays;
  counts = y.counts;
  counted = y.counted;
  file = y.file;
}

-- an end is a part of a call
pub ends_over : (end : End) (result : Step) (a b : ConnState) (k l : LinkTold) (f : FilesTold)
    → HasFault (Done end) (failing a.stage) k l f f → EndsWith end result a b k l
    → GoesOver (Some result) a b k l f f
ends_over end result a b k l f fault y = record {
  keeps = record { of_link = y.keeps; of_files = files_none f };
  cause = y.cause f f fault;
  fails = inl y.stays;
  counts = y.counts;
  counted = y.counted;
  file = λ is. absurd (y.file (let e : result ≡ WantFile = cc in e));
}

-- a cause of the link's alone that was counted from here on was counted from before
link_from : (step : Step) (old mid : Option End) (k l m : LinkTold) (f h : FilesTold) → KeepsLink k l
    → mid ≡ old → HasFault step mid l m f h → HasFault step old k m f h
link_from (Done ReadFault) old mid k l m f h of_link same x = omega (arith, of_link.reads, x)
link_from (Done WriteFault) old mid k l m f h of_link same x = omega (arith, of_link.writes, x)
link_from (Done FileFault) old mid k l m f h of_link same x =
    elim x [ inl was ↦ inl (sym same ∙ was) | inr rises ↦ inr rises ]
link_from (Done Clean) old mid k l m f h of_link same x = tt
link_from (Done Cut) old mid k l m f h of_link same x = tt
link_from (Done NoMemory) old mid k l m f h of_link same x = sym same ∙ x
link_from WantRead old mid k l m f h of_link same x = tt
link_from WantWrite old mid k l m f h of_link same x = tt
link_from WantFile old mid k l m f h of_link same x = tt

-- two parts of a call that files have no part in
pub goes_on : (result : Option Step) (a b c : ConnState) (k l m : LinkTold) → Goes None a b k l
    → Goes result b c l m → Goes result a c k m
goes_on None a b c k l m x y = record {
  keeps = keeps_then k l m x.keeps y.keeps;
  cause = λ files since. tt;
  counts = y.counts ∙ x.counts;
  counted = λ was. y.counted (x.counted was);
  stays = y.stays ∙ x.stays;
  file = y.file;
}
goes_on (Some step) a b c k l m x y = record {
  keeps = keeps_then k l m x.keeps y.keeps;
  cause =
      λ files since.
      link_from step (failing a.stage) (failing b.stage) k l m files since x.keeps x.stays
      (y.cause files since);
  counts = counts_from step k l m x.counts y.counts;
  counted = λ was. y.counted (x.counted was);
  stays = y.stays ∙ x.stays;
  file = y.file;
}

counted_kept : (sent : Option (List ℕ)) (was now : ℕ) → now ≡ was
    → IfSome sent (λ s. was ≡ min (length s) full) → IfSome sent (λ s. now ≡ min (length s) full)
counted_kept None was now same x = tt
counted_kept (Some s) was now same x = same ∙ x

-- a part of a call that the link has no part in
pub goes_still : (a b : ConnState) (k : LinkTold) → b.bytes ≡ a.bytes → b.waits ≡ a.waits
    → failing b.stage ≡ failing a.stage → Goes None a b k k
goes_still a b k bytes waits stays = record {
  keeps = record { reads = omega arith; writes = omega arith; plan = refl };
  cause = λ files since. tt;
  counts = refl;
  counted =
      λ was.
      record { waits = waits ∙ was.waits; bytes = counted_kept k.sent a.bytes b.bytes bytes was.bytes };
  stays = stays;
  file = λ is. cc;
}

-- writing is a part of a call
due_cause : (end : WriteEnd) (old new : ConnState) (k l : LinkTold) → Sends end old new k l
    → (files since : FilesTold)
    → IfSome (due_step end) (λ step. HasFault step (failing old.stage) k l files since)
due_cause All old new k l x files since = tt
due_cause Waits old new k l x files since = tt
due_cause Fails old new k l x files since = x.writes.ran.failed refl

due_counts : (end : WriteEnd) (old new : ConnState) (k l : LinkTold) → Sends end old new k l
    → CountsFor (due_step end) k l
due_counts All old new k l x = x.writes.ran.waited
due_counts Waits old new k l x = x.writes.ran.waited
due_counts Fails old new k l x = x.writes.ran.waited

due_file : (end : WriteEnd) → due_step end ≡ Some WantFile → ⊥
due_file All is = cc
due_file Waits is = cc
due_file Fails is = cc

pub goes_due : (end : WriteEnd) (old new : ConnState) (k l : LinkTold) → Sends end old new k l
    → Goes (due_step end) old new k l
goes_due end old new k l x = record {
  keeps = record {
    reads = omega (arith, ap (λ (v : LinkTold). v.faults.reads) x.writes.ran.same);
    writes = x.writes.ran.counted;
    plan = ap (λ (v : LinkTold). v.plan) x.writes.ran.same;
  };
  cause = λ files since. due_cause end old new k l x files since;
  counts = due_counts end old new k l x;
  counted = λ was. sends_counted end old new k l x was;
  stays = ap (λ (v : ConnState). failing v.stage) x.same;
  file = λ is. absurd (due_file end is);
}

-- ---- ends

-- all is written, and the end is answered
pub ends_done : (end : End) (a b : ConnState) (k l : LinkTold) → Goes None a b k l
    → EndsWith end (Done end) a b k l
ends_done end a b k l x = record {
  keeps = x.keeps;
  cause = λ files since fault. fault;
  counts = x.counts;
  counted = x.counted;
  stays = x.stays;
  file = λ is. cc;
}

-- the link must be waited for first, or failed
pub ends_stopped : (end : End) (step : Step) (a b : ConnState) (k l : LinkTold) → (IsAsking b → ⊥)
    → Goes (Some step) a b k l → EndsWith end step a b k l
ends_stopped end step a b k l quiet x = record {
  keeps = x.keeps;
  cause = λ files since fault. x.cause files since;
  counts = x.counts;
  counted = x.counted;
  stays = x.stays;
  file = λ is. quiet (x.file (ap (λ (s : Step). Some s) is));
}

-- an application that asks for a look
pub goes_asks : (moves : Moves) (old new : ConnState) (k : LinkTold) → AsksToLook moves old new
    → Goes (Some WantFile) old new k k
goes_asks moves old new k x = record {
  keeps = record { reads = omega arith; writes = omega arith; plan = refl };
  cause = λ files since. tt;
  counts = refl;
  counted = λ was. record {
    waits = ap (λ (v : ConnState). v.waits) x.same ∙ was.waits;
    bytes = counted_kept k.sent old.bytes new.bytes (ap (λ (v : ConnState). v.bytes) x.same) was.bytes;
  };
  stays = ap (λ (v : ConnState). failing v.stage) x.same ∙ sym (ap (λ (st : Stage). failing st) x.was);
  file = λ is. subst (λ (v : ConnState). IsAsking v) (sym x.same) tt;
}

-- an end that may come has its cause
pub end_fault : (end : End) (c : ConnState) (k l : LinkTold) (f g : FilesTold) → MayEnd end c
    → HasFault (Done end) (failing c.stage) k l f g
end_fault Clean c k l f g may = tt
end_fault Cut c k l f g may = tt
end_fault ReadFault c k l f g may = absurd may
end_fault WriteFault c k l f g may = absurd may
end_fault FileFault c k l f g may = inl may.fails
end_fault NoMemory c k l f g may = may.fails

-- a file is waited for
pub goes_waits : (c : ConnState) (k : LinkTold) (f : FilesTold) → IsAsking c
    → GoesOver (Some WantFile) c c k k f f
goes_waits c k f asks = record {
  keeps = record {
    of_link = record { reads = omega arith; writes = omega arith; plan = refl };
    of_files = files_none f;
  };
  cause = tt;
  fails = inl refl;
  counts = refl;
  counted = λ was. was;
  file = λ is. asks;
}

-- nothing was done
pub goes_none : (c : ConnState) (k : LinkTold) (f : FilesTold) → GoesOver None c c k k f f
goes_none c k f = record {
  keeps = record {
    of_link = record { reads = omega arith; writes = omega arith; plan = refl };
    of_files = files_none f;
  };
  cause = tt;
  fails = inl refl;
  counts = refl;
  counted = λ was. was;
  file = λ is. cc;
}

-- a part of a content was read, or the file failed
part_fails : (out : PartOut) (at size f g : ℕ) → PartFaults out f g
    → (failing (stage_read out at size) ≡ None)
    ⊎ ((failing (stage_read out at size) ≡ Some FileFault) × Rises f g)
part_fails (Parts.Got n) at size f g x =
    inl
    (elim (nat_lt (at + n) size) as (λ (b : Bool).
    failing (if b then sending (at + n) size else unread) ≡ None) [
      | true ↦ refl
      | false ↦ refl
    ])
part_fails Parts.Failed at size f g x = inr (refl, x.1)

part_later : (out : PartOut) (f g : ℕ) → PartFaults out f g → f ≤ g
part_later (Parts.Got n) f g x = x
part_later Parts.Failed f g x = x.0

pub goes_part : (folder : Option Folder) (old new : ConnState) (k : LinkTold) (f g : FilesTold)
    → ReadsPart folder old new f g → GoesOver None old new k k f g
goes_part folder old new k f g x =
    let before : failing old.stage ≡ None = ap (λ (st : Stage). failing st) x.was in
    let after : failing new.stage ≡ failing (stage_read x.out x.at x.size) =
    ap (λ (c : ConnState). failing c.stage) x.same in
    record {
      keeps = record {
        of_link = record { reads = omega arith; writes = omega arith; plan = refl };
        of_files = record { later = part_later x.out f.faults g.faults x.read.faulted; same = x.read.same };
      };
      cause = tt;
      fails = elim (part_fails x.out x.at x.size f.faults g.faults x.read.faulted) [
        | inl none ↦ inl (after ∙ none ∙ sym before)
        | inr rose ↦ inr (after ∙ rose.0, rose.1)
      ];
      counts = refl;
      counted = λ was. record {
        waits = ap (λ (v : ConnState). v.waits) x.same ∙ was.waits;
        bytes = counted_kept k.sent old.bytes new.bytes (ap (λ (v : ConnState). v.bytes) x.same) was.bytes;
      };
      file = λ is. cc;
    }
