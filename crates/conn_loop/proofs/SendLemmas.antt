-- What a part of a content makes of what a connection stands for.
use Rattle.std.proofs.Common.{◌≡◌, ℕ, ◌+◌, ◌*◌, ◌<◌, ◌≤◌, Bool, true, false, List, ◌++◌, length, take, drop}
use Rattle.std.proofs.Common.{Option, Some, None, refl, sym, ap, ◌∙◌, subst, arith, append-nil, append_assoc}
use Rattle.std.proofs.Common.{take-append-drop}
use Rattle.std.specs.Prelude.{if◌then◌else◌, IsSomeAnd, nat_lt}
use Rattle.std.proofs.lemmas.Bool.Decides.{nat_tests}
use Rattle.std.proofs.lemmas.List.{drop_all, drop-drop, nil_from_length}
use Rattle.outside.specs.Causes.{LinkTold}
use Rattle.outside.specs.FileCauses.{FilesTold}
use Rattle.outside.specs.Folder.{Folder, Content, file_at}
use Rattle.outside.specs.declared.files.PartOut.{PartOut}
use Rattle.outside.specs.declared.files.PartOut.TheVariants as Parts
use Rattle.app_trait.specs.Moves.{Moves}
use Rattle.conn_loop.specs.Moves.{ReadsPart, HasPart, IsPartOf, part_len, stage_read}
use Rattle.conn_loop.specs.Replying.{Serving, serving_over}
use Rattle.conn_loop.specs.Stages.{Stage, unread, sending, bytes_of, leased_bytes, steps_left, body_steps}
use Rattle.conn_loop.specs.Stages.{unread_at, LiesAhead}
use Rattle.conn_loop.specs.ConnState.{ConnState, Looks, due_of}
use Rattle.conn_loop.specs.Steps.{Comes, ComesFor, IsSendingOut, IsSendingStage, to_go}
use Rattle.conn_loop.proofs.AccountLemmas.{accounts_lies}
use Rattle.conn_loop.proofs.ToldLemmas.{told_kept}

-- after a part of n bytes the rest of the content is to be read
rest_read : (folder : Folder) (lease : Option (List ℕ)) (at n size : ℕ) (b : Bool)
    → nat_lt (at + n) size ≡ b → length (leased_bytes folder lease) ≡ size
    → unread_at (if b then sending (at + n) size else unread) folder lease
    ≡ drop (at + n) (leased_bytes folder lease)
rest_read folder lease at n size true is long = refl
rest_read folder lease at n size false is long =
    sym (drop_all (at + n) (leased_bytes folder lease) (grind (arith, nat_tests)))

-- the part is the front of what was to be read
part_front : (bytes piece : List ℕ) (at n : ℕ) → piece ≡ take n (drop at bytes)
    → piece ++ drop (at + n) bytes ≡ drop at bytes
part_front bytes piece at n is =
    ap (λ (v : List ℕ). v ++ drop (at + n) bytes) is ∙ ap (λ (v : List ℕ). take n (drop at bytes) ++ v)
    (ap (λ (k : ℕ). drop k bytes) (omega arith) ∙ sym (drop-drop n at bytes))
    ∙ take-append-drop n (drop at bytes)

piece_at : (file : Option Content) (piece : List ℕ) (at n : ℕ)
    → IsSomeAnd file (λ c. piece ≡ take n (drop at c.0)) → piece ≡ take n (drop at (bytes_of file))
piece_at None piece at n x = absurd x
piece_at (Some c) piece at n x = x

lies_read : (out : PartOut) (at size : ℕ) (given : Bool) (input ahead : List ℕ)
    → LiesAhead (sending at size) given input ahead → LiesAhead (stage_read out at size) given input ahead
lies_read (Parts.Got n) at size given input ahead x =
    elim (nat_lt (at + n) size) as (λ (b : Bool).
    LiesAhead (if b then sending (at + n) size else unread) given input ahead) [
      | true ↦ x
      | false ↦ x
    ]
lies_read Parts.Failed at size given input ahead x = x

looks_read : (serving : Serving) (out : PartOut) (at size : ℕ) (lease : Option (List ℕ)) → at < size
    → Looks serving (sending at size) lease → Looks serving (stage_read out at size) lease
looks_read serving (Parts.Got n) at size lease inside x =
    elim (nat_lt (at + n) size) as (λ (b : Bool).
    Looks serving (if b then sending (at + n) size else unread) lease) [
      | true ↦ x
      | false ↦ tt
    ]
looks_read serving Parts.Failed at size lease inside x = (x.0, omega (arith, inside, x.1))

-- what is to be written stays the same
due_read : (folder : Folder) (out : PartOut) (path piece old new : List ℕ) (at size : ℕ)
    → new ≡ old ++ piece → length piece ≡ part_len out
    → IsPartOf out folder path at piece → length (leased_bytes folder (Some path)) ≡ size
    → new ++ unread_at (stage_read out at size) folder (Some path)
    ≡ old ++ drop at (leased_bytes folder (Some path))
due_read folder (Parts.Got n) path piece old new at size grown long is size_is =
    let bytes = leased_bytes folder (Some path) in
    let rest : unread_at (stage_read (Parts.Got n) at size) folder (Some path) ≡ drop (at + n) bytes =
    rest_read folder (Some path) at n size (nat_lt (at + n) size) refl size_is in
    ap (λ (v : List ℕ). v ++ unread_at (stage_read (Parts.Got n) at size) folder (Some path)) grown
    ∙ append_assoc old piece (unread_at (stage_read (Parts.Got n) at size) folder (Some path))
    ∙ ap (λ (v : List ℕ). old ++ (piece ++ v)) rest ∙ ap (λ (v : List ℕ). old ++ v)
    (part_front bytes piece at n (piece_at (file_at folder path) piece at n is))
due_read folder Parts.Failed path piece old new at size grown long is size_is =
    ap (λ (v : List ℕ). v ++ drop at (leased_bytes folder (Some path)))
    (grown ∙ ap (λ (v : List ℕ). old ++ v) (nil_from_length piece long) ∙ append-nil old)

part_one : (serving : Serving) (old new : ConnState)
    (t s : List ℕ) (ended : Option Bool) (files since : FilesTold)
    → ReadsPart (Some serving.folder) old new files since
    → Comes None serving old t s ended → Comes None serving new t s ended
part_one serving old new t s ended files since x comes =
    let looks : Looks serving (sending x.at x.size) old.lease =
    subst (λ (st : Stage). Looks serving st old.lease) x.was comes.accounts.looks in
    let lies : LiesAhead (sending x.at x.size) comes.accounts.given old.input comes.accounts.ahead =
    subst (λ (st : Stage). LiesAhead st comes.accounts.given old.input comes.accounts.ahead)
    x.was comes.accounts.lies in
    let size : length (leased_bytes serving.folder (Some x.path)) ≡ x.size =
    ap (λ (l : Option (List ℕ)). length (leased_bytes serving.folder l)) (sym x.lent) ∙ looks.1 in
    let stage : new.stage ≡ stage_read x.out x.at x.size = ap (λ (c : ConnState). c.stage) x.same in
    let lease : new.lease ≡ old.lease = ap (λ (c : ConnState). c.lease) x.same in
    let input : new.input ≡ old.input = ap (λ (c : ConnState). c.input) x.same in
    let due : due_of serving new ≡ due_of serving old =
    ap (λ (st : Stage). new.pending ++ unread_at st serving.folder new.lease) stage
    ∙ ap (λ (l : Option (List ℕ)). new.pending ++ unread_at (stage_read x.out x.at x.size) serving.folder l)
    (lease ∙ x.lent)
    ∙ due_read serving.folder x.out x.path x.takes.piece old.pending new.pending x.at x.size
    x.takes.grown x.takes.long x.takes.is size
    ∙ ap (λ (l : Option (List ℕ)). old.pending ++ drop x.at (leased_bytes serving.folder l)) (sym x.lent)
    ∙ ap (λ (st : Stage). old.pending ++ unread_at st serving.folder old.lease) (sym x.was) in
    record {
      accounts =
          accounts_lies serving old new t s due (ap (λ (c : ConnState). c.moments) x.same)
          (ap (λ (c : ConnState). c.left) x.same) comes.accounts
          (subst (λ (st : Stage). LiesAhead st comes.accounts.given new.input comes.accounts.ahead)
          (sym stage)
          (subst (λ (v : List ℕ).
          LiesAhead (stage_read x.out x.at x.size) comes.accounts.given v comes.accounts.ahead) (sym input)
          (lies_read x.out x.at x.size comes.accounts.given old.input comes.accounts.ahead lies)))
          (subst (λ (st : Stage). Looks serving st new.lease) (sym stage)
          (subst (λ (l : Option (List ℕ)). Looks serving (stage_read x.out x.at x.size) l) (sym lease)
          (looks_read serving x.out x.at x.size old.lease x.inside looks)));
      at = comes.at;
    }

-- a part of the content was read, or the file failed
pub part_for : (moves : Moves) (folder : Option Folder)
    (old new : ConnState) (link : LinkTold) (files since : FilesTold)
    → ReadsPart folder old new files since
    → ComesFor None (serving_over moves folder) old link → ComesFor None (serving_over moves folder) new link
part_for moves None old new link files since x comes = tt
part_for moves (Some f) old new link files since x comes =
    let serving : Serving = record { moves = moves; folder = f } in
    told_kept (λ r t s. Comes None serving old t s link.ended)
    (λ r t s. Comes None serving new t s link.ended) (Some serving) link
    (λ r t s y. part_one serving old new t s link.ended files since x y) comes

-- ---- the stage

pub read_out : (out : PartOut) (at size : ℕ) → IsSendingOut (stage_read out at size)
read_out (Parts.Got n) at size =
    elim (nat_lt (at + n) size) as (λ (b : Bool).
    IsSendingOut (if b then sending (at + n) size else unread)) [
      | true ↦ tt
      | false ↦ tt
    ]
read_out Parts.Failed at size = tt

fewer_read : (at n size : ℕ) (input : List ℕ) (b : Bool) → at < size → 0 < n → at + n ≤ size
    → steps_left (if b then sending (at + n) size else unread) input < steps_left (sending at size) input
fewer_read at n size input true inside some fits = omega (arith, inside, some, fits)
fewer_read at n size input false inside some fits = omega (arith, inside, some, fits)

-- a part that was read has some bytes
abbrev SomePart : PartOut → Type 0
SomePart (Parts.Got n) = 0 < n
SomePart Parts.Failed = Unit {0}

some_part : (out : PartOut) (piece : List ℕ) → length piece ≡ part_len out → HasPart out piece → SomePart out
some_part (Parts.Got n) piece long some = omega (arith, long, some)
some_part Parts.Failed piece long some = tt

-- a part was read, so fewer steps are left
pub read_fewer : (out : PartOut) (at size : ℕ) (input : List ℕ) → at < size → at + part_len out ≤ size
    → SomePart out → steps_left (stage_read out at size) input < steps_left (sending at size) input
read_fewer (Parts.Got n) at size input inside fits some =
    fewer_read at n size input (nat_lt (at + n) size) inside some fits
read_fewer Parts.Failed at size input inside fits some = omega (arith, inside)

pub part_nearer : (folder : Option Folder) (old new : ConnState) (files since : FilesTold)
    → ReadsPart folder old new files since → to_go new < to_go old
part_nearer folder old new files since x =
    let fewer : steps_left (stage_read x.out x.at x.size) old.input
    < steps_left (sending x.at x.size) old.input =
    read_fewer x.out x.at x.size old.input x.inside (omega (arith, x.takes.few, x.takes.long, x.fits))
    (some_part x.out x.takes.piece x.takes.long x.takes.some) in
    let after : to_go new ≡ old.left * (2 * body_steps)
    + steps_left (stage_read x.out x.at x.size) old.input = ap (λ (c : ConnState). to_go c) x.same in
    let before : to_go old ≡ old.left * (2 * body_steps) + steps_left (sending x.at x.size) old.input =
    ap (λ (st : Stage). old.left * (2 * body_steps) + steps_left st old.input) x.was in
    omega (arith, fewer, after, before)

pub part_out : (folder : Option Folder) (old new : ConnState) (files since : FilesTold)
    → ReadsPart folder old new files since → IsSendingOut new.stage
part_out folder old new files since x =
    subst (λ (c : ConnState). IsSendingOut c.stage) (sym x.same) (read_out x.out x.at x.size)

pub sending_out : (stage : Stage) → IsSendingStage stage → IsSendingOut stage
sending_out stage x = subst (λ (st : Stage). IsSendingOut st) (sym x.2) tt
