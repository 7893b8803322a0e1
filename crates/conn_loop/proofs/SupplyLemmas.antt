-- What is supplied to a connection, and what it gives back.
use Rattle.std.proofs.Common.{◌≡◌, ℕ, ◌+◌, ◌*◌, ◌<◌, Bool, false, List, [], ◌++◌, length, Option, Some, None}
use Rattle.std.proofs.Common.{IfSome, refl, sym, ap, ◌∙◌, subst, arith}
use Rattle.std.specs.Prelude.{IsSomeAnd}
use Rattle.outside.specs.Causes.{IsFresh, LinkTold}
use Rattle.outside.specs.Folder.{Content, Folder, HasFile, file_at}
use Rattle.app_trait.specs.declared.request.Seen.{Seen}
use Rattle.app_trait.specs.declared.request.Seen.TheVariants.{Nothing, FirstFound, FirstAbsent, SecondFound}
use Rattle.app_trait.specs.declared.request.Seen.TheVariants.{SecondAbsent}
use Rattle.app_trait.specs.Seen.{next_seen}
use Rattle.app_trait.specs.Moves.{EndsWithTwo, Moves, RequestText}
use Rattle.conn_loop.specs.declared.step.End.{End}
use Rattle.conn_loop.specs.declared.phase.Phase.{Phase}
use Rattle.conn_loop.specs.declared.phase.Phase.TheVariants.{Fresh, Waits, Reading, Refused, Ready, Wanting}
use Rattle.conn_loop.specs.declared.phase.Phase.TheVariants.{Sending, Unmade, Broken, Over}
use Rattle.conn_loop.specs.Ends.{GoesOn}
use Rattle.conn_loop.specs.Moves.{FailsTo, SeesNext}
use Rattle.conn_loop.specs.Phases.{HasFound, HasLease, stage_in}
use Rattle.conn_loop.specs.Replying.{Serving, request_of, serving_over}
use Rattle.conn_loop.specs.Stages.{Stage, unread, short, reading, refusing, ready, wanting, sending, unmade}
use Rattle.conn_loop.specs.Stages.{broken, finished, body_steps, is_found, looks_left, needs_file, steps_left}
use Rattle.conn_loop.specs.Stages.{unread_at, LiesAhead}
use Rattle.conn_loop.specs.ConnState.{path_asked, path_asked_at, ConnState, at_first, Accounts}
use Rattle.conn_loop.specs.ConnState.{AccountsUnless, AsksFor, HasAsked, HasLooked, IsAt, Looks, Represents}
use Rattle.conn_loop.specs.ConnState.{RepresentsBytes}
use Rattle.conn_loop.specs.Steps.{to_go}
use Rattle.conn_loop.proofs.LookLemmas.{looked_absent, looked_found, next_fewer, next_kept}
use Rattle.conn_loop.proofs.AccountLemmas.{accounts_first, accounts_lies}
use Rattle.conn_loop.proofs.AccountImpliesLemmas.{prefix_of}
use Rattle.conn_loop.proofs.ToldLemmas.{told_kept}

-- ---- what is supplied

-- a connection that stands so before stands so after a step that changes its stage and its lease alone
restaged : (serving : Serving) (old new : ConnState) (t s : List ℕ) (ended : Option Bool)
    (stage was : Stage) (lease : Option (List ℕ)) (entry : Option ℕ)
    → old.over ≡ None → old.stage ≡ was
    → new ≡ record old { stage = stage; lease = lease; entry = entry }
    → unread_at was serving.folder old.lease ≡ [] → unread_at stage serving.folder lease ≡ []
    → ((given : Bool) (input ahead : List ℕ)
    → LiesAhead was given input ahead → LiesAhead stage given input ahead)
    → (Looks serving was old.lease → Looks serving stage lease)
    → RepresentsBytes serving old t s ended → RepresentsBytes serving new t s ended
restaged serving old new t s ended stage was lease entry over at same before after lies looks x =
    let accounts : Accounts serving old t s =
    subst (λ (o : Option End). AccountsUnless o serving old t s) over x.accounts in
    let next : ConnState = record old { stage = stage; lease = lease; entry = entry } in
    let there : Accounts serving next t s =
    accounts_lies serving old next t s
    (ap (λ (v : List ℕ). old.pending ++ v)
    (after ∙ sym before ∙ ap (λ (st : Stage). unread_at st serving.folder old.lease) (sym at)))
    refl refl accounts
    (lies accounts.given old.input accounts.ahead
    (subst (λ (st : Stage). LiesAhead st accounts.given old.input accounts.ahead) at accounts.lies))
    (looks (subst (λ (st : Stage). Looks serving st old.lease) at accounts.looks)) in
    subst (λ (c : ConnState). RepresentsBytes serving c t s ended) (sym same) (record {
      accounts = subst (λ (o : Option End). AccountsUnless o serving next t s) (sym over) there;
      prefix = x.prefix;
      at = x.at;
    })

-- what is known of the lease where a look found a file
abbrev pub IsFound : Folder → (path : List ℕ) → (found : Option (ℕ × ℕ)) → (lease : Option (List ℕ)) → Type 0
IsFound folder path None lease = file_at folder path ≡ None
IsFound folder path (Some facts) None = ⊥
IsFound folder path (Some facts) (Some at) =
    (at ≡ path) × IsSomeAnd (file_at folder at) (λ c. (facts.0 ≡ length c.0) × (facts.1 ≡ c.1))

module _ (serving : Serving) (ends : EndsWithTwo serving.moves) (seen : Seen) (path : List ℕ) where
  looked_next : (request : RequestText) (found : Option (ℕ × ℕ)) (lease : Option (List ℕ))
      → IsFound serving.folder path found lease
      → HasAsked serving.moves serving.folder request seen path
      → HasLooked serving.moves serving.folder request (next_seen seen found) lease
  looked_next request None lease is x =
      looked_absent serving.moves ends serving.folder request seen lease path is x
  looked_next request (Some facts) None is x = absurd is
  looked_next request (Some facts) (Some at) is x =
      looked_found serving.moves ends serving.folder request seen path at facts.0 facts.1 is.0 is.1 x

sees_one : (serving : Serving) (old new : ConnState) (t s : List ℕ) (ended : Option Bool)
    (found : Option (ℕ × ℕ)) (lease : Option (List ℕ)) (entry : Option ℕ)
    → EndsWithTwo serving.moves
    → (x : SeesNext found lease entry old new) → IsFound serving.folder x.path found lease
    → RepresentsBytes serving old t s ended → RepresentsBytes serving new t s ended
sees_one serving old new t s ended found lease entry ends x is stands =
    restaged serving old new t s ended (ready x.a x.behind (next_seen x.seen found) x.path)
    (wanting x.a x.behind x.seen x.path) lease entry x.over x.was x.same refl refl
    (λ given input ahead y. y)
    (λ looks. looked_next serving ends x.seen x.path (request_of x.a) found lease is looks) stands

-- a look was made
pub sees_for : (moves : Moves) (folder : Option Folder) (old new : ConnState)
    (link : LinkTold) (found : Option (ℕ × ℕ)) (lease : Option (List ℕ)) (entry : Option ℕ)
    → EndsWithTwo moves
    → (x : SeesNext found lease entry old new) → IfSome folder (λ f. IsFound f x.path found lease)
    → Represents moves folder old link → Represents moves folder new link
sees_for moves None old new link found lease entry ends x is y = record {
  stands = tt;
  asks =
      subst (λ (c : ConnState). AsksFor moves c.stage) (sym x.same)
      (next_kept (moves (request_of x.a)) x.seen found x.path
      (subst (λ (st : Stage). AsksFor moves st) x.was y.asks));
}
sees_for moves (Some f) old new link found lease entry ends x is y =
    let serving : Serving = record { moves = moves; folder = f } in
    record {
      stands =
          told_kept (λ r t s. RepresentsBytes serving old t s link.ended)
          (λ r t s. RepresentsBytes serving new t s link.ended) (Some serving) link
          (λ r t s z. sees_one serving old new t s link.ended found lease entry ends x is z) y.stands;
      asks =
          subst (λ (c : ConnState). AsksFor moves c.stage) (sym x.same)
          (next_kept (moves (request_of x.a)) x.seen found x.path
          (subst (λ (st : Stage). AsksFor moves st) x.was y.asks));
    }

fails_one : (serving : Serving) (old new : ConnState) (t s : List ℕ)
    (ended : Option Bool) (end : End) (x : FailsTo end old new)
    → RepresentsBytes serving old t s ended → RepresentsBytes serving new t s ended
fails_one serving old new t s ended end x stands =
    restaged serving old new t s ended (unmade end)
    (wanting x.a x.behind x.seen x.path) old.lease old.entry x.over x.was x.same refl refl
    (λ given input ahead y. (y.0, record { a = x.a; len = y.1.len; is_whole = y.1.is_whole }))
    (λ looks. tt) stands

-- a look couldn't be made
pub fails_for : (moves : Moves) (folder : Option Folder) (old new : ConnState)
    (link : LinkTold) (end : End) (x : FailsTo end old new)
    → Represents moves folder old link
    → Represents moves folder new link
fails_for moves folder old new link end x y = record {
  stands =
      told_kept (λ r t s. RepresentsBytes r old t s link.ended)
      (λ r t s. RepresentsBytes r new t s link.ended) (serving_over moves folder) link
      (λ r t s z. fails_one r old new t s link.ended end x z) y.stands;
  asks = subst (λ (c : ConnState). AsksFor moves c.stage) (sym x.same) tt;
}

pub sees_nearer : (found : Option (ℕ × ℕ)) (lease : Option (List ℕ)) (entry : Option ℕ) (old new : ConnState)
    → SeesNext found lease entry old new → to_go new < to_go old
sees_nearer found lease entry old new x =
    let after : to_go new ≡ old.left * (2 * body_steps) + (2 * looks_left (next_seen x.seen found) + 1) =
    ap (λ (c : ConnState). to_go c) x.same in
    let before : to_go old ≡ old.left * (2 * body_steps) + 2 * looks_left x.seen =
    ap (λ (st : Stage). old.left * (2 * body_steps) + steps_left st old.input) x.was in
    omega (arith, after, before, next_fewer x.seen found x.some)

pub fails_nearer : (end : End) (old new : ConnState) → FailsTo end old new → to_go new < to_go old
fails_nearer end old new x =
    let after : to_go new ≡ old.left * (2 * body_steps) =
    ap (λ (c : ConnState). to_go c) x.same ∙ omega arith in
    let before : to_go old ≡ old.left * (2 * body_steps) + 2 * looks_left x.seen =
    ap (λ (st : Stage). old.left * (2 * body_steps) + steps_left st old.input) x.was in
    omega (arith, after, before, x.some)

-- the file of the lease is the one that was asked for
pub found_is : (folder : Option Folder) (at wanted path : List ℕ) (size mtime : ℕ) → wanted ≡ path
    → IfSome folder (λ f. at ≡ wanted) → HasFile folder at size mtime
    → IfSome folder (λ f. IsFound f path (Some (size, mtime)) (Some at))
found_is None at wanted path size mtime same here there = tt
found_is (Some f) at wanted path size mtime same here there = (here ∙ same, there)

pub absent_is : (folder : Option Folder) (wanted path : List ℕ) (lease : Option (List ℕ))
    → wanted ≡ path → IfSome folder (λ f. file_at f wanted ≡ None)
    → IfSome folder (λ f. IsFound f path None lease)
absent_is None wanted path lease same absent = tt
absent_is (Some f) wanted path lease same absent = subst (λ (p : List ℕ). file_at f p ≡ None) same absent

pub sees_asked : (found : Option (ℕ × ℕ)) (lease : Option (List ℕ))
    (entry : Option ℕ) (old new : ConnState) (x : SeesNext found lease entry old new)
    → path_asked old ≡ x.path
sees_asked found lease entry old new x = ap (λ (st : Stage). path_asked_at st) x.was

-- ---- a lease that isn't needed

unread_spent : (stage : Stage) (folder : Folder) (lease : Option (List ℕ)) → needs_file stage ≡ false
    → unread_at stage folder None ≡ unread_at stage folder lease
unread_spent unread folder lease none = refl
unread_spent short folder lease none = refl
unread_spent (reading a reader room) folder lease none = refl
unread_spent (refusing code) folder lease none = refl
unread_spent (ready a behind seen path) folder lease none = refl
unread_spent (wanting a behind seen path) folder lease none = refl
unread_spent (sending at size) folder lease none = cc
unread_spent (unmade end) folder lease none = refl
unread_spent (broken at) folder lease none = cc
unread_spent finished folder lease none = refl

looked_spent : (moves : Moves) (folder : Folder)
    (request : RequestText) (seen : Seen) (lease : Option (List ℕ))
    → is_found seen ≡ false
    → HasLooked moves folder request seen lease → HasLooked moves folder request seen None
looked_spent moves folder request Nothing lease none x = record {
  found = x.found;
  saw = x.saw;
  at = subst (λ (o : Option Content). IsAt folder o None) (sym x.saw) tt;
  same = x.same;
}
looked_spent moves folder request (FirstFound size mtime) lease none x = cc
looked_spent moves folder request FirstAbsent lease none x = record {
  found = x.found;
  saw = x.saw;
  at = subst (λ (o : Option Content). IsAt folder o None) (sym x.saw) tt;
  same = x.same;
}
looked_spent moves folder request (SecondFound size mtime) lease none x = cc
looked_spent moves folder request SecondAbsent lease none x = record {
  found = x.found;
  saw = x.saw;
  at = subst (λ (o : Option Content). IsAt folder o None) (sym x.saw) tt;
  same = x.same;
}

looks_spent : (serving : Serving) (stage : Stage) (lease : Option (List ℕ)) → needs_file stage ≡ false
    → Looks serving stage lease → Looks serving stage None
looks_spent serving unread lease none x = tt
looks_spent serving short lease none x = tt
looks_spent serving (reading a reader room) lease none x = tt
looks_spent serving (refusing code) lease none x = tt
looks_spent serving (ready a behind seen path) lease none x =
    looked_spent serving.moves serving.folder (request_of a) seen lease none x
looks_spent serving (wanting a behind seen path) lease none x = x
looks_spent serving (sending at size) lease none x = cc
looks_spent serving (unmade end) lease none x = tt
looks_spent serving (broken at) lease none x = cc
looks_spent serving finished lease none x = tt

accounts_spent : (o : Option End) (serving : Serving) (c : ConnState) (t s : List ℕ)
    → needs_file c.stage ≡ false → AccountsUnless o serving c t s
    → AccountsUnless o serving (record c { lease = None; entry = None }) t s
accounts_spent None serving c t s none x =
    accounts_lies serving c (record c { lease = None; entry = None }) t s
    (ap (λ (v : List ℕ). c.pending ++ v) (unread_spent c.stage serving.folder c.lease none))
    refl refl x x.lies
    (looks_spent serving c.stage c.lease none x.looks)
accounts_spent (Some end) serving c t s none x = tt

-- the lease is given back
pub spent_for : (moves : Moves) (folder : Option Folder) (old new : ConnState) (link : LinkTold)
    → needs_file old.stage ≡ false → new ≡ record old { lease = None; entry = None }
    → Represents moves folder old link → Represents moves folder new link
spent_for moves folder old new link none same y =
    subst (λ (c : ConnState). Represents moves folder c link) (sym same) (record {
      stands =
          told_kept (λ r t s. RepresentsBytes r old t s link.ended)
          (λ r t s. RepresentsBytes r (record old { lease = None; entry = None }) t s link.ended)
          (serving_over moves folder) link
          (λ r t s z. record {
            accounts = accounts_spent old.over r old t s none z.accounts;
            prefix = z.prefix;
            at = z.at;
          }) y.stands;
      asks = y.asks;
    })

found_spent : (seen : Seen) (size : Option ℕ) → is_found seen ≡ false → HasFound seen size
found_spent Nothing size none = tt
found_spent (FirstFound n mtime) size none = cc
found_spent FirstAbsent size none = tt
found_spent (SecondFound n mtime) size none = cc
found_spent SecondAbsent size none = tt

pub lease_spent : (input path : List ℕ) (phase : Phase) (size : Option ℕ)
    → needs_file (stage_in input path phase) ≡ false → HasLease phase size
lease_spent input path Fresh size none = tt
lease_spent input path Waits size none = tt
lease_spent input path (Reading head reader room) size none = tt
lease_spent input path (Refused code) size none = tt
lease_spent input path (Ready head behind seen) size none = found_spent seen size none
lease_spent input path (Wanting head behind seen) size none = tt
lease_spent input path (Sending at n) size none = cc
lease_spent input path (Unmade end) size none = tt
lease_spent input path (Broken at) size none = tt
lease_spent input path (Over end) size none = tt

-- ---- a new connection

fresh_lists : (serving : Option Serving) (taken sent : Option (List ℕ)) (ended : Option Bool)
    → IfSome taken (λ t. t ≡ []) → IfSome sent (λ s. s ≡ []) → GoesOn ended
    → IfSome serving (λ v. IfSome taken (λ t. IfSome sent (λ s. RepresentsBytes v at_first t s ended)))
fresh_lists None taken sent ended none_taken none_sent goes = tt
fresh_lists (Some v) None sent ended none_taken none_sent goes = tt
fresh_lists (Some v) (Some t) None ended none_taken none_sent goes = tt
fresh_lists (Some v) (Some t) (Some s) ended none_taken none_sent goes =
    subst (λ (x : List ℕ). RepresentsBytes v at_first x s ended) (sym none_taken)
    (subst (λ (x : List ℕ). RepresentsBytes v at_first [] x ended) (sym none_sent)
    (record {
      accounts = accounts_first v;
      prefix = prefix_of v at_first [] [] (accounts_first v);
      at = goes;
    }))

pub fresh_for : (moves : Moves) (folder : Option Folder) (c : ConnState) (link : LinkTold)
    → c ≡ at_first → IsFresh link → Represents moves folder c link
fresh_for moves folder c link is fresh =
    subst (λ (v : ConnState). Represents moves folder v link) (sym is)
    (record {
      stands =
          fresh_lists (serving_over moves folder) link.taken link.sent link.ended fresh.nothing_taken
          fresh.nothing_sent fresh.not_ended;
      asks = tt;
    })
