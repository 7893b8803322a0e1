-- Facts of an application over a folder and of the bytes that a link has taken and sent, where they are told.
use Rattle.std.proofs.Common.{◌≡◌, List, ℕ, ◌++◌, Option, Some, None, option_map, IfSome, sym, subst}
use Rattle.outside.specs.Causes.{LinkTold}
use Rattle.conn_loop.specs.Replying.{Serving}
use Rattle.conn_loop.specs.Ends.{WhereTold}

-- the same of lists that may be told
abbrev Lists : Option Serving → Option (List ℕ) → Option (List ℕ) → (Serving → List ℕ → List ℕ → Type 0)
    → Type 0
Lists serving taken sent P = IfSome serving (λ r. IfSome taken (λ t. IfSome sent (λ s. P r t s)))

-- nothing was taken and nothing sent
lists_kept : (P Q : Serving → List ℕ → List ℕ → Type 0) (serving : Option Serving)
    (taken sent : Option (List ℕ))
    → ((r : Serving) (t s : List ℕ) → P r t s → Q r t s) → Lists serving taken sent P
    → Lists serving taken sent Q
lists_kept P Q None taken sent step x = tt
lists_kept P Q (Some r) None sent step x = tt
lists_kept P Q (Some r) (Some t) None step x = tt
lists_kept P Q (Some r) (Some t) (Some s) step x = step r t s x

sent_at : (P Q : Serving → List ℕ → List ℕ → Type 0)
    (r : Serving) (t s front : List ℕ) (later : Option (List ℕ))
    → later ≡ Some (s ++ front)
    → (P r t s → Q r t (s ++ front)) → P r t s → IfSome later (λ s. Q r t s)
sent_at P Q r t s front None is step x = cc
sent_at P Q r t s front (Some later) is step x =
    let same : later ≡ s ++ front = cc in
    subst (λ (v : List ℕ). Q r t v) (sym same) (step x)

-- a front was sent
lists_sent : (P Q : Serving → List ℕ → List ℕ → Type 0) (serving : Option Serving)
    (taken sent later : Option (List ℕ)) (front : List ℕ)
    → later ≡ option_map (λ bytes. bytes ++ front) sent
    → ((r : Serving) (t s : List ℕ) → P r t s → Q r t (s ++ front))
    → Lists serving taken sent P → Lists serving taken later Q
lists_sent P Q None taken sent later front is step x = tt
lists_sent P Q (Some r) None sent later front is step x = tt
lists_sent P Q (Some r) (Some t) None None front is step x = tt
lists_sent P Q (Some r) (Some t) None (Some later) front is step x = cc
lists_sent P Q (Some r) (Some t) (Some s) later front is step x =
    sent_at P Q r t s front later is (step r t s) x

taken_at : (P Q : Serving → List ℕ → List ℕ → Type 0) (r : Serving)
    (t piece : List ℕ) (sent later : Option (List ℕ))
    → later ≡ Some (t ++ piece)
    → ((s : List ℕ) → P r t s → Q r (t ++ piece) s) → IfSome sent (λ s. P r t s)
    → IfSome later (λ t. IfSome sent (λ s. Q r t s))
taken_at P Q r t piece sent None is step x = cc
taken_at P Q r t piece None (Some later) is step x = tt
taken_at P Q r t piece (Some s) (Some later) is step x =
    let same : later ≡ t ++ piece = cc in
    subst (λ (v : List ℕ). Q r v s) (sym same) (step s x)

-- a piece was taken
lists_taken : (P Q : Serving → List ℕ → List ℕ → Type 0) (serving : Option Serving)
    (taken later sent : Option (List ℕ)) (piece : List ℕ)
    → later ≡ option_map (λ bytes. bytes ++ piece) taken
    → ((r : Serving) (t s : List ℕ) → P r t s → Q r (t ++ piece) s)
    → Lists serving taken sent P → Lists serving later sent Q
lists_taken P Q None taken later sent piece is step x = tt
lists_taken P Q (Some r) None None sent piece is step x = tt
lists_taken P Q (Some r) None (Some later) sent piece is step x = cc
lists_taken P Q (Some r) (Some t) later sent piece is step x =
    taken_at P Q r t piece sent later is (step r t) x

-- nothing was taken and nothing sent
pub told_kept : (P Q : Serving → List ℕ → List ℕ → Type 0) (serving : Option Serving) (link : LinkTold)
    → ((r : Serving) (t s : List ℕ) → P r t s → Q r t s) → WhereTold serving link P → WhereTold serving link Q
told_kept P Q serving link step x = lists_kept P Q serving link.taken link.sent step x

-- a front was sent
pub told_sent : (P Q : Serving → List ℕ → List ℕ → Type 0) (serving : Option Serving)
    (link later : LinkTold) (front : List ℕ)
    → later.taken ≡ link.taken → later.sent ≡ option_map (λ bytes. bytes ++ front) link.sent
    → ((r : Serving) (t s : List ℕ) → P r t s → Q r t (s ++ front))
    → WhereTold serving link P → WhereTold serving later Q
told_sent P Q serving link later front same is step x =
    subst (λ (t : Option (List ℕ)). Lists serving t later.sent Q) (sym same)
    (lists_sent P Q serving link.taken link.sent later.sent front is step x)

-- a piece was taken
pub told_taken : (P Q : Serving → List ℕ → List ℕ → Type 0) (serving : Option Serving)
    (link later : LinkTold) (piece : List ℕ)
    → later.taken ≡ option_map (λ bytes. bytes ++ piece) link.taken → later.sent ≡ link.sent
    → ((r : Serving) (t s : List ℕ) → P r t s → Q r (t ++ piece) s)
    → WhereTold serving link P → WhereTold serving later Q
told_taken P Q serving link later piece is same step x =
    subst (λ (s : Option (List ℕ)). Lists serving later.taken s Q) (sym same)
    (lists_taken P Q serving link.taken later.taken link.sent piece is step x)
