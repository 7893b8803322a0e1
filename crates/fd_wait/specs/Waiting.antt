-- To be believed: what a wait says, over what its passes know before and after.
use Rattle.std.specs.Prelude.{◌≡◌, ℕ, ◌^◌, ◌⊎◌, List, [], ◌∷◌, ◌++◌, map, length, true, Option, Some, None}
use mathlib.Core.List.{IsPrefix}
use Rattle.reg_keys.specs.declared.opening.Opening.{Opening}
use Rattle.reg_keys.specs.declared.event.EventName.{EventName}
use Rattle.reg_keys.specs.declared.registration.Key.{Key}
use Rattle.reg_keys.specs.declared.registration.Dir.{Dir}
use Rattle.reg_keys.specs.declared.entry.LoadKind.TheVariants.{Flag}
use Rattle.reg_keys.specs.declared.entry.RegisterOutcome.TheVariants as Registers
use Rattle.reg_keys.specs.declared.entry.AskOutcome.{AskOutcome}
use Rattle.reg_keys.specs.declared.entry.AskOutcome.TheVariants as Asked
use Rattle.reg_keys.specs.declared.entry.Entry.{Entry}
use Rattle.reg_keys.specs.declared.entry.Entry.TheVariants.{Register, Ask}
use Rattle.turn_cell.specs.declared.view.View.{View}
use Rattle.turn_cell.specs.History.{Log, Ahead}
use Rattle.turn_cell.specs.View.{own_entries, seat_of}
use Rattle.ready_queue.specs.declared.rule.Move.{Move}
use Rattle.ready_queue.specs.declared.rule.Move.TheVariants.{Put}
use Rattle.ready_queue.specs.Calls.{HasMoved}
use Rattle.event_mgr.specs.Stripes.{stripe_of, past_in}
use Rattle.event_mgr.specs.Manager.{MgrView, OnlyAt, EnteredAt, SpentAt}
use Rattle.fd_wait.specs.declared.waiting.WaitOut.{WaitOut}
use Rattle.fd_wait.specs.declared.waiting.WaitOut.TheVariants.{Ready, Closed, Shut, Crowded, Spent}
use Rattle.fd_wait.specs.OwnFlags.{OwnFlag, registers, FlagRan, WasShut}

-- The pass made these entries, one after another, and no others. What it had seen begins what it has seen
pub record HasMade (es : List Entry) (x y : View Entry) : Type 0 where
  pub own : own_entries y ≡ own_entries x ++ map (λ e. (seat_of x, e)) es
  pub begins : IsPrefix x.seen y.seen
  pub classes : y.classes ≡ x.classes

-- a flag that is asked for hasn't come to its end, or another pass has asked for it
abbrev pub IsUndecided : AskOutcome → Type 0
IsUndecided Asked.Waiting = Unit {0}
IsUndecided Asked.Unknown = Unit {0}
IsUndecided _ = ⊥

-- so it is of each
abbrev pub AreUndecided : List AskOutcome → Type 0
AreUndecided [] = Unit {0}
AreUndecided (r ∷ rs) = IsUndecided r × AreUndecided rs

-- one who asks is told the end
abbrev pub asks : Key → List AskOutcome → List Entry
asks key rs = map (λ r. Ask key r) rs

-- the stripe's cell was found spent: a history that goes on from what the pass has seen has 2 ^ 62 entries
pub record MetSpent (y : View Entry) : Type 0 where
  pub met : y.met_spent ≡ true
  pub log : Log Entry
  pub ahead : Ahead y.classes y.seen log
  pub full : length log ≡ 2 ^ 62

-- the event that a registration named was put into the queue, and nothing else was
abbrev pub HasPutNamed : ℕ → Option EventName → View Move → View Move → Type 0
HasPutNamed capacity None q r = r ≡ q
HasPutNamed capacity (Some e) q r = HasMoved capacity (Put e) q r

-- The flag was asked for until the last answer, where there is one. Then this is so of
-- what the pass knows of its stripe
pub record HasAskedOn (key : Key) (last : List AskOutcome) (Then : View Entry → Type 0)
    (v w : MgrView) : Type 0 where
  pub tries : List AskOutcome
  pub undecided : AreUndecided tries
  pub made : OnlyAt (stripe_of key.number) (λ x y. HasMade (asks key (tries ++ last)) x y × Then y) v w

-- what each answer says of one that asks for a flag until it is told
abbrev pub AsksUntil : Key → MgrView → WaitOut → MgrView → Type 0
AsksUntil key v (Ready marks) w = (d : Dir) × HasAskedOn key (Asked.Ran d marks ∷ []) (λ y. Unit {0}) v w
AsksUntil key v Closed w = HasAskedOn key (Asked.Closed ∷ []) (λ y. Unit {0}) v w
AsksUntil key v Spent w = HasAskedOn key [] MetSpent v w
AsksUntil key v Shut w = ⊥
AsksUntil key v Crowded w = ⊥

-- A flag was registered for this opening and direction, with this mark, and it waited. The event that was
-- named was put. Then the flag was asked for until the last answer, where there is one, and this is so of the
-- flag and of what the pass knows of its stripe
pub record HasWaitedFor (capacity : ℕ) (o : Opening) (d : Dir) (m : Option ℕ) (last : List AskOutcome)
    (Then : OwnFlag → View Entry → Type 0) (v : MgrView) (q : View Move) (w : MgrView)
    (r : View Move) : Type 0 where
  pub key : Key
  pub named : Option EventName
  pub tries : List AskOutcome
  pub undecided : AreUndecided tries
  pub put : HasPutNamed capacity named q r
  pub made : (let flag : OwnFlag = record { opening = o; dir = d; mark = m; key = key; named = named } in
      OnlyAt (stripe_of o.fd)
      (λ x y. HasMade (registers flag ∷ asks key (tries ++ last)) x y × Then flag y) v w)

-- the flag couldn't be registered, or a later call found its cell spent
abbrev pub HasMetSpent : ℕ → Opening → Dir → Option ℕ → MgrView → View Move → MgrView → View Move → Type 0
HasMetSpent capacity o d m v q w r =
    ((r ≡ q)
    × (EnteredAt (stripe_of o.fd) (Register o d m Flag Registers.Spent) v w ⊎ SpentAt (stripe_of o.fd) v w))
    ⊎ HasWaitedFor capacity o d m [] (λ flag y. MetSpent y) v q w r

-- what each answer of a wait says
abbrev pub HasWaited : ℕ → Opening → Dir → Option ℕ → MgrView → View Move → WaitOut
    → MgrView → View Move → Type 0
HasWaited capacity o d m v q (Ready marks) w r =
    HasWaitedFor capacity o d m
    (Asked.Ran d marks ∷ []) (λ flag y. FlagRan flag marks (past_in y.seen)) v q w r
HasWaited capacity o d m v q Closed w r =
    HasWaitedFor capacity o d m (Asked.Closed ∷ []) (λ flag y. WasShut flag (past_in y.seen)) v q w r
HasWaited capacity o d m v q Shut w r =
    EnteredAt (stripe_of o.fd) (Register o d m Flag Registers.Shut) v w × (r ≡ q)
HasWaited capacity o d m v q Crowded w r =
    EnteredAt (stripe_of o.fd) (Register o d m Flag Registers.Crowded) v w × (r ≡ q)
HasWaited capacity o d m v q Spent w r = HasMetSpent capacity o d m v q w r
