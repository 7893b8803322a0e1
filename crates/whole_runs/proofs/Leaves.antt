-- What single acts take and give.
use Rattle.std.proofs.Common.{◌≡◌, ℕ, zero, suc, ◌+◌, ◌≤◌, List, [], ◌∷◌, map, Bool, true, false}
use Rattle.std.proofs.Common.{⊎_elim, refl, sym, ap, ◌∙◌, subst, arith}
use Rattle.std.specs.Prelude.{◌==◌, ◌&&◌, Option}
use Rattle.std.proofs.lemmas.Bool.{eqb-true, eqb-false, eq-eqb, ne_eqb, cases_Bool}
use Rattle.reg_keys.specs.declared.opening.Opening.{Opening}
use Rattle.reg_keys.specs.declared.event.EventName.{EventName}
use Rattle.reg_keys.specs.declared.registration.Key.{Key}
use Rattle.reg_keys.specs.declared.registration.Dir.{Dir}
use Rattle.reg_keys.specs.declared.entry.Entry.{Entry}
use Rattle.reg_keys.specs.declared.entry.Entry.TheVariants as Entries
use Rattle.reg_keys.specs.declared.entry.LoadKind.TheVariants as Kinds
use Rattle.reg_keys.specs.declared.entry.OpenOutcome.TheVariants as Opens
use Rattle.reg_keys.specs.declared.entry.RegisterOutcome.{RegisterOutcome}
use Rattle.reg_keys.specs.declared.entry.RegisterOutcome.TheVariants as Registers
use Rattle.reg_keys.specs.declared.entry.CloseOutcome.{CloseOutcome}
use Rattle.reg_keys.specs.declared.entry.CloseOutcome.TheVariants as Closes
use Rattle.reg_keys.specs.Tests.{one_if, total}
use Rattle.turn_cell.specs.Weights.{weigh}
use Rattle.timeout_mgr.specs.declared.view.TimeCall.{TimeCall}
use Rattle.warp_tally.specs.declared.calls.TallyCall.TheVariants as Tallies
use Rattle.warp_tally.specs.declared.calls.Counted.{Counted}
use Rattle.warp_tally.specs.declared.calls.Counted.TheVariants as Counts
use Rattle.warp_tally.specs.declared.calls.TallyReply.{TallyReply}
use Rattle.warp_tally.specs.declared.calls.TallyEntry.{TallyEntry}
use Rattle.warp_tally.specs.Accounts.{accepted_by, finished_in, turns_away}
use Rattle.warp_books.specs.Books.{FinishedTold}
use Rattle.warp_jobs.specs.Held.{Held}
use Rattle.warp_jobs.specs.HeldListener.{HeldListener}
use Rattle.warp_jobs.specs.Tags.{serve_tag, listen_tag}
use Rattle.warp_runner.specs.Acts.{Acts, nothing, called, counted, found_all_out, watched}
use Rattle.warp_runner.specs.Deeds.{handing, registering, shut_by, tried}
use Rattle.whole_runs.specs.Registrations.{CountsFor, registers}
use Rattle.whole_runs.proofs.Flows.{Credit, Flows, accepted, accepted_any, accepts_of, given, of_shut}
use Rattle.whole_runs.proofs.Flows.{shut_at}
use Rattle.whole_runs.proofs.Flowing.{flows_fit}

-- nothing may be done
abbrev pub none : Credit
none = record { jobs = λ these c. 0; links = 0; openings = λ these. 0 }

-- one connection of this opening, which was registered so often, may be registered once more or handed over
abbrev pub one_job : Opening → ℕ → Credit
one_job o n = record { jobs = λ these c. one_if (these o && (n == c)); links = 0; openings = λ these. 0 }

-- one link may be turned away
abbrev pub one_link : Credit
one_link = record { jobs = λ these c. 0; links = 1; openings = λ these. 0 }

-- this opening may be counted
abbrev pub one_opening : Opening → Credit
one_opening o = record { jobs = λ these c. 0; links = 0; openings = λ these. one_if (these o) }

-- ---- what is left over

pub wasted : (x y : Credit) (a : Acts) → Flows x y a → Flows x none a
wasted x y a s =
    flows_fit x y x none a
    (record { jobs = λ these c. omega arith; links = omega arith; openings = λ these. omega arith }) s

pub unused : (x : Credit) (a : Acts) → Flows none none a → Flows x none a
unused x a s =
    flows_fit none none x none a
    (record { jobs = λ these c. omega arith; links = omega arith; openings = λ these. omega arith }) s

-- acts that are the same
pub by_acts : (x y : Credit) (a b : Acts) → a ≡ b → Flows x y b → Flows x y a
by_acts x y a b e s = subst (Flows x y) (sym e) s

-- ---- acts of which nothing is to be counted

pub watch : (x : Credit) (cs : List TimeCall) → Flows x x (watched cs)
watch x cs = record {
  handed = [];
  told = refl;
  count = tt;
  jobs = λ these c. omega arith;
  links = omega arith;
  openings = λ these. omega arith;
  finished = refl;
  straight = λ these. refl;
}

pub idle : (x : Credit) → Flows x x nothing
idle x = watch x []

pub call_quiet : (x : Credit) (e : Entry) → ((these : Opening → Bool) (c : ℕ) → accepted these c e ≡ 0)
    → ((these : Opening → Bool) → registers these e ≡ accepted_any these e) → Flows x x (called e)
call_quiet x e zero_of same = record {
  handed = [];
  told = refl;
  count = tt;
  jobs = λ these c. let z = zero_of these c in omega arith;
  links = omega arith;
  openings = λ these. omega arith;
  finished = refl;
  straight = λ these. let z = same these in omega arith;
}

pub count_quiet : (x : Credit) (e : TallyEntry) → ((these : Opening → Bool) → accepts_of these e ≡ 0)
    → turns_away e ≡ 0 → finished_in (e ∷ []) ≡ [] → Flows x x (counted e)
count_quiet x e accepts turns finishes = record {
  handed = [];
  told = refl;
  count = tt;
  jobs = λ these c. omega arith;
  links = omega arith;
  openings = λ these. let z = accepts these in omega arith;
  finished = sym finishes;
  straight = λ these. refl;
}

-- the listener's tag is no connection's
listen_quiet : (these : Opening → Bool) (c : ℕ) (o : Opening) (d : Dir)
    (m : Option ℕ) (l : HeldListener) (out : RegisterOutcome)
    → accepted these c (Entries.Register o d m (Kinds.Job (listen_tag l)) out) ≡ 0
listen_quiet these c o d m l Registers.Shut = refl
listen_quiet these c o d m l Registers.Crowded = refl
listen_quiet these c o d m l Registers.Spent = refl
listen_quiet these c o d m l (Registers.Waits key e) = refl

listen_straight : (these : Opening → Bool) (o : Opening) (d : Dir) (m : Option ℕ)
    (l : HeldListener) (out : RegisterOutcome)
    → registers these (Entries.Register o d m (Kinds.Job (listen_tag l)) out)
    ≡ accepted_any these (Entries.Register o d m (Kinds.Job (listen_tag l)) out)
listen_straight these o d m l Registers.Shut = refl
listen_straight these o d m l Registers.Crowded = refl
listen_straight these o d m l Registers.Spent = refl
listen_straight these o d m l (Registers.Waits key e) = refl

pub listen : (x : Credit) (o : Opening) (d : Dir) (m : Option ℕ) (l : HeldListener) (out : RegisterOutcome)
    → Flows x x (registering o d m (listen_tag l) out)
listen x o d m l out =
    call_quiet x (Entries.Register o d m (Kinds.Job (listen_tag l)) out)
    (λ these c. listen_quiet these c o d m l out) (λ these. listen_straight these o d m l out)

weigh_map_none : {A B : Type 0} (f : B → ℕ) (g : A → B) → ((x : A) → f (g x) ≡ 0)
    → (xs : List A) → weigh f (map g xs) ≡ 0
weigh_map_none f g z [] = refl
weigh_map_none f g z (x ∷ xs) =
    let r = weigh_map_none f g z xs in
    let y = z x in omega arith

weigh_map_same : {A B : Type 0} (f h : B → ℕ) (g : A → B) → ((x : A) → f (g x) ≡ h (g x))
    → (xs : List A) → weigh f (map g xs) ≡ weigh h (map g xs)
weigh_map_same f h g z [] = refl
weigh_map_same f h g z (x ∷ xs) =
    let r = weigh_map_same f h g z xs in
    let y = z x in omega arith

pub try_listen : (x : Credit) (o : Opening) (d : Dir)
    (m : Option ℕ) (l : HeldListener) (outs : List RegisterOutcome)
    → Flows x x (tried o d m (listen_tag l) outs)
try_listen x o d m l outs = record {
  handed = [];
  told = refl;
  count = tt;
  jobs =
      λ these c.
      let z = weigh_map_none (accepted these c) (λ out.
      Entries.Register o d m (Kinds.Job (listen_tag l)) out) (λ out. listen_quiet these c o d m l out) outs in
      omega arith;
  links = omega arith;
  openings = λ these. omega arith;
  finished = refl;
  straight =
      λ these. weigh_map_same (registers these) (accepted_any these) (λ out.
      Entries.Register o d m (Kinds.Job (listen_tag l)) out) (λ out. listen_straight these o d m l out) outs;
}

-- ---- a connection is registered, or handed over

pub register : (h : Held) (d : Dir) (m : Option ℕ) (key : Key) (e : Option EventName)
    → Flows (one_job h.opening h.number) none
    (registering h.opening d m (serve_tag h) (Registers.Waits key e))
register h d m key e = record {
  handed = [];
  told = refl;
  count = tt;
  jobs = λ these c. omega arith;
  links = omega arith;
  openings = λ these. omega arith;
  finished = refl;
  straight = λ these. refl;
}

hand_by : (h : FinishedTold) (n : ℕ) → CountsFor h.end h.waits n → (k : Counted) (a t f : ℕ) (stop : Option ℕ)
    → Flows (one_job h.opening n) none
    (handing h (record { counted = k; accepted = a; turned = t; finished = f; stop = stop }))
hand_by h n counts Counts.Yes a t f stop = record {
  handed = (h, n) ∷ [];
  told = refl;
  count = (counts, tt);
  jobs = λ these c. omega arith;
  links = omega arith;
  openings = λ these. omega arith;
  finished = refl;
  straight = λ these. refl;
}
hand_by h n counts Counts.No a t f stop = record {
  handed = [];
  told = refl;
  count = tt;
  jobs = λ these c. omega arith;
  links = omega arith;
  openings = λ these. omega arith;
  finished = refl;
  straight = λ these. refl;
}
hand_by h n counts Counts.NoMemory a t f stop = record {
  handed = [];
  told = refl;
  count = tt;
  jobs = λ these c. omega arith;
  links = omega arith;
  openings = λ these. omega arith;
  finished = refl;
  straight = λ these. refl;
}

pub hand : (h : FinishedTold) (n : ℕ) (r : TallyReply) → CountsFor h.end h.waits n
    → Flows (one_job h.opening n) none (handing h r)
hand h n r counts = hand_by h n counts r.counted r.accepted r.turned r.finished r.stop

-- ---- what was shut, and what was opened

shuts : (these : Opening → Bool) (o : Opening) (s : CloseOutcome) (c : ℕ)
    → shut_at (shut_by s) these c ≤ given these c (called (Entries.Close o s))
shuts these o s zero = omega arith
shuts these o Closes.NotOpen (suc k) = omega arith
shuts these o (Closes.Shut list) (suc k) = omega arith

pub close : (o : Opening) (s : CloseOutcome) → Flows none (of_shut (shut_by s)) (called (Entries.Close o s))
close o s = record {
  handed = [];
  told = refl;
  count = tt;
  jobs = λ these c. let z = shuts these o s c in omega arith;
  links = omega arith;
  openings = λ these. omega arith;
  finished = refl;
  straight = λ these. refl;
}

pub close_quiet : (x : Credit) (o : Opening) (s : CloseOutcome) → Flows x x (called (Entries.Close o s))
close_quiet x o s = call_quiet x (Entries.Close o s) (λ these c. refl) (λ these. refl)

pub open_one : (o : Opening) → Flows none (one_opening o) (called (Entries.Open o.fd (Opens.Opened o)))
open_one o = record {
  handed = [];
  told = refl;
  count = tt;
  jobs = λ these c. omega arith;
  links = omega arith;
  openings = λ these. omega arith;
  finished = refl;
  straight = λ these. refl;
}

pub find_taken : (o : Opening) → Flows none one_link (called (Entries.Open o.fd (Opens.Taken o)))
find_taken o = record {
  handed = [];
  told = refl;
  count = tt;
  jobs = λ these c. omega arith;
  links = omega arith;
  openings = λ these. omega arith;
  finished = refl;
  straight = λ these. refl;
}

pub find_all_out : Flows none one_link found_all_out
find_all_out = record {
  handed = [];
  told = refl;
  count = tt;
  jobs = λ these c. omega arith;
  links = omega arith;
  openings = λ these. omega arith;
  finished = refl;
  straight = λ these. refl;
}

-- ---- words with the tally

pub and_false : (b : Bool) → one_if (b && false) ≡ 0
and_false true = refl
and_false false = refl

pub and_true : (b : Bool) → one_if (b && true) ≡ one_if b
and_true true = refl
and_true false = refl

first_job : (o : Opening) (these : Opening → Bool) (r : TallyReply) → r.counted ≡ Counts.Yes → (c : ℕ)
    → one_if (these o && (0 == c)) ≤ given these c (counted (record { call = Tallies.Accept o; reply = r }))
first_job o these r counts zero =
    let a = and_true (these o) in
    let e : accepts_of these (record { call = Tallies.Accept o; reply = r }) ≡ one_if (these o) + 0 =
    ap (λ k. total (λ p. one_if (these p)) (accepted_by (Tallies.Accept o) k)) counts in
    omega arith
first_job o these r counts (suc k) =
    let z = ap (λ b. one_if (these o && b)) (ne_eqb 0 (suc k) (λ e. omega arith)) in
    let w = and_false (these o) in
    omega arith

pub accept : (o : Opening) (r : TallyReply) → r.counted ≡ Counts.Yes
    → Flows (one_opening o) (one_job o 0) (counted (record { call = Tallies.Accept o; reply = r }))
accept o r counts = record {
  handed = [];
  told = refl;
  count = tt;
  jobs = λ these c. let z = first_job o these r counts c in omega arith;
  links = omega arith;
  openings = λ these.
      let e : accepts_of these (record { call = Tallies.Accept o; reply = r }) ≡ one_if (these o) + 0 =
      ap (λ k. total (λ p. one_if (these p)) (accepted_by (Tallies.Accept o) k)) counts in
      omega arith;
  finished = refl;
  straight = λ these. refl;
}

pub accept_none : (x : Credit) (o : Opening) (r : TallyReply) → r.counted ≡ Counts.NoMemory
    → Flows x x (counted (record { call = Tallies.Accept o; reply = r }))
accept_none x o r not_so =
    count_quiet x (record { call = Tallies.Accept o; reply = r })
    (λ these. ap (λ k. total (λ p. one_if (these p)) (accepted_by (Tallies.Accept o) k)) not_so) refl refl

pub turn_away : (r : TallyReply)
    → Flows one_link none (counted (record { call = Tallies.TurnAway; reply = r }))
turn_away r = record {
  handed = [];
  told = refl;
  count = tt;
  jobs = λ these c. omega arith;
  links = omega arith;
  openings = λ these. omega arith;
  finished = refl;
  straight = λ these. refl;
}

pub look : (x : Credit) (r : TallyReply) → Flows x x (counted (record { call = Tallies.Look; reply = r }))
look x r = count_quiet x (record { call = Tallies.Look; reply = r }) (λ these. refl) refl refl

pub stop : (x : Credit) (code : ℕ) (r : TallyReply)
    → Flows x x (counted (record { call = Tallies.Stop code; reply = r }))
stop x code r = count_quiet x (record { call = Tallies.Stop code; reply = r }) (λ these. refl) refl refl

-- ---- a job of a number is one that was registered once more

same_next : (n k : ℕ) → (n + 1 == suc k) ≡ (n == k)
same_next n k = ⊎_elim
    (λ (h : (n == k) ≡ true). let e = eqb-true n k h in eq-eqb (n + 1) (suc k) (omega arith) ∙ sym h)
    (λ (h : (n == k) ≡ false). let e =
    eqb-false n k h in ne_eqb (n + 1) (suc k) (λ x. e (omega arith)) ∙ sym h)
    (cases_Bool (n == k))

pub job_next : (b : Bool) (n k : ℕ) → one_if (b && (n + 1 == suc k)) ≡ one_if (b && (n == k))
job_next b n k = ap (λ t. one_if (b && t)) (same_next n k)

pub job_none : (b : Bool) (n : ℕ) → one_if (b && (n + 1 == 0)) ≡ 0
job_none b n = ap (λ t. one_if (b && t)) (ne_eqb (n + 1) 0 (λ e. omega arith)) ∙ and_false b
