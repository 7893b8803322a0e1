-- The looks for the file of a reply, one after the other.
use Rattle.std.proofs.Common.{◌≡◌, ℕ, ◌+◌, ◌*◌, ◌<◌, List, length, Option, Some, None, refl, sym, ◌∙◌, subst}
use Rattle.std.proofs.Common.{arith}
use Rattle.std.specs.Prelude.{IsSomeAnd}
use Rattle.outside.specs.Folder.{Folder, Content, file_at}
use Rattle.app_trait.specs.declared.request.Seen.{Seen}
use Rattle.app_trait.specs.declared.request.Seen.TheVariants.{Nothing, FirstFound, FirstAbsent, SecondFound}
use Rattle.app_trait.specs.declared.request.Seen.TheVariants.{SecondAbsent}
use Rattle.app_trait.specs.Seen.{next_seen}
use Rattle.app_trait.specs.Moves.{RequestText, AppMove, look_at, Moves, EndsWithTwo, PathKept}
use Rattle.app_trait.specs.ReplyTo.{facts_of}
use Rattle.app_trait.specs.ReplyLaws.{reply_to-is, reply_after-look, SawFound-next}
use Rattle.conn_loop.specs.Stages.{looks_left}
use Rattle.conn_loop.specs.ConnState.{HasAsked, HasLooked, IsAt}

pub looked_first : (moves : Moves) (folder : Folder) (request : RequestText) (path : Option (List ℕ))
    → HasLooked moves folder request Nothing path
looked_first moves folder request path =
    record { found = None; saw = refl; at = tt; same = sym (reply_to-is moves folder request) }

-- one more look
looked_at : (moves : Moves) → EndsWithTwo moves
    → (folder : Folder) (request : RequestText) (seen : Seen) (new : Option (List ℕ)) (path : List ℕ)
    → IsAt folder (file_at folder path) new → HasAsked moves folder request seen path
    → HasLooked moves folder request (next_seen seen (facts_of (file_at folder path))) new
looked_at moves ends folder request seen new path at x = record {
  found = file_at folder path;
  saw = SawFound-next seen (file_at folder path);
  at = at;
  same = sym (reply_after-look moves ends folder request seen x.found path x.looks) ∙ x.same;
}

at_absent : (folder : Folder) (file : Option Content) (path : Option (List ℕ)) → file ≡ None
    → IsAt folder file path
at_absent folder None path is = tt
at_absent folder (Some c) path is = cc

-- a look that found nothing
pub looked_absent : (moves : Moves) → EndsWithTwo moves
    → (folder : Folder) (request : RequestText) (seen : Seen) (new : Option (List ℕ)) (path : List ℕ)
    → file_at folder path ≡ None → HasAsked moves folder request seen path
    → HasLooked moves folder request (next_seen seen None) new
looked_absent moves ends folder request seen new path absent x =
    subst (λ (o : Option Content). HasLooked moves folder request (next_seen seen (facts_of o)) new) absent
    (looked_at moves ends folder request seen new path (at_absent folder (file_at folder path) new absent) x)

facts_at : (file : Option Content) (size mtime : ℕ)
    → IsSomeAnd file (λ c. (size ≡ length c.0) × (mtime ≡ c.1)) → facts_of file ≡ Some (size, mtime)
facts_at None size mtime x = absurd x
facts_at (Some c) size mtime x = λ i. Some (sym x.0 i, sym x.1 i)

at_found : (folder : Folder) (file : Option Content) (path : List ℕ) → file_at folder path ≡ file
    → IsAt folder file (Some path)
at_found folder None path is = tt
at_found folder (Some c) path is = is

-- a look that found a file
pub looked_found : (moves : Moves) → EndsWithTwo moves
    → (folder : Folder) (request : RequestText) (seen : Seen) (path at : List ℕ) (size mtime : ℕ)
    → at ≡ path → IsSomeAnd (file_at folder at) (λ c. (size ≡ length c.0) × (mtime ≡ c.1))
    → HasAsked moves folder request seen path
    → HasLooked moves folder request (next_seen seen (Some (size, mtime))) (Some at)
looked_found moves ends folder request seen path at size mtime here found x =
    let there : IsSomeAnd (file_at folder path) (λ c. (size ≡ length c.0) × (mtime ≡ c.1)) =
    subst (λ (p : List ℕ). IsSomeAnd (file_at folder p) (λ c. (size ≡ length c.0) × (mtime ≡ c.1)))
    here found in
    subst (λ (p : List ℕ). HasLooked moves folder request (next_seen seen (Some (size, mtime))) (Some p))
    (sym here)
    (subst (λ (o : Option (ℕ × ℕ)). HasLooked moves folder request (next_seen seen o) (Some path))
    (facts_at (file_at folder path) size mtime there)
    (looked_at moves ends folder request seen (Some path) path
    (at_found folder (file_at folder path) path refl) x))

-- the path of a look is kept after it
pub next_kept : (move : Seen → AppMove) (seen : Seen) (found : Option (ℕ × ℕ)) (path : List ℕ)
    → move seen ≡ look_at path → PathKept move (next_seen seen found) path
next_kept move Nothing None path is = record { before = Nothing; found = None; next = refl; looked = is }
next_kept move Nothing (Some f) path is =
    record { before = Nothing; found = Some f; next = refl; looked = is }
next_kept move (FirstFound size mtime) None path is =
    record { before = FirstFound size mtime; found = None; next = refl; looked = is }
next_kept move (FirstFound size mtime) (Some f) path is =
    record { before = FirstFound size mtime; found = Some f; next = refl; looked = is }
next_kept move FirstAbsent None path is =
    record { before = FirstAbsent; found = None; next = refl; looked = is }
next_kept move FirstAbsent (Some f) path is =
    record { before = FirstAbsent; found = Some f; next = refl; looked = is }
next_kept move (SecondFound size mtime) None path is =
    record { before = SecondFound size mtime; found = None; next = refl; looked = is }
next_kept move (SecondFound size mtime) (Some f) path is =
    record { before = SecondFound size mtime; found = Some f; next = refl; looked = is }
next_kept move SecondAbsent None path is =
    record { before = SecondAbsent; found = None; next = refl; looked = is }
next_kept move SecondAbsent (Some f) path is =
    record { before = SecondAbsent; found = Some f; next = refl; looked = is }

-- and fewer looks may follow
pub next_fewer : (seen : Seen) (found : Option (ℕ × ℕ)) → 0 < looks_left seen
    → 2 * looks_left (next_seen seen found) + 1 < 2 * looks_left seen
next_fewer Nothing None some = omega arith
next_fewer Nothing (Some f) some = omega arith
next_fewer (FirstFound size mtime) None some = omega arith
next_fewer (FirstFound size mtime) (Some f) some = omega arith
next_fewer FirstAbsent None some = omega arith
next_fewer FirstAbsent (Some f) some = omega arith
next_fewer (SecondFound size mtime) found some = absurd (omega (arith, some))
next_fewer SecondAbsent found some = absurd (omega (arith, some))
