-- To be believed: the listener of a memory net: which links it may give, and which it gave.
use Rattle.std.specs.Prelude.{◌≡◌, ℕ, ◌+◌, ◌*◌, ◌≤◌, ◌<◌, ◌⊎◌, List, Option, Some, drop, length}
use Rattle.atomic_table.specs.Seated.{TableId}
use Rattle.outside.specs.declared.count.Count.{Count}
use Rattle.outside.specs.declared.listener.AcceptOut.{AcceptOut}
use Rattle.outside.specs.declared.listener.AcceptOut.TheVariants as Accepts
use Rattle.poller.specs.declared.limits.TheConstants.{ACCEPTS}
use Rattle.poller.specs.declared.mem_link.MemLink.{MemLink}
use Rattle.poller.specs.declared.script.Script.{Script}
use Rattle.poller.specs.Deliveries.{listener_limit}
use Rattle.poller.specs.NetLinks.{fresh_net_link, net_link_of}
use Rattle.poller.specs.LinkSeats.{DealerState, DeliveryState, LinkSeatState}
use Rattle.poller.specs.Scripts.{AreScripts}

-- the net and its scripts, how many links it gave, how often it last found its word raised and how often it
-- looked, how many answers were that the caller must wait, and the seat that delivers
-- its word, until a poller has it
pub record NetListener : Type 0 where
  pub table : TableId
  pub scripts : List Script
  pub accepted : Count
  pub raised : ℕ
  pub looks : ℕ
  pub waits : Count
  pub delivery : Option DeliveryState

-- a listener has the first word, gave a link for each of the first scripts, and keeps the others
pub record IsListener (seat : LinkSeatState) (dealer : DealerState) (scripts : List Script)
    (accepted : ℕ) : Type 0 where
  pub own : seat.word ≡ 0
  pub same_table : seat.table ≡ dealer.table
  pub same_scripts : seat.scripts ≡ dealer.scripts
  pub are : AreScripts dealer.scripts
  pub next : dealer.next ≡ accepted + 1
  pub most : accepted ≤ length dealer.scripts
  pub others : scripts ≡ drop accepted dealer.scripts

-- how many links a listener may give in all, where its word was raised so often
abbrev pub allowed_by : ℕ → ℕ
allowed_by raised = ACCEPTS * (raised + 1)

-- an accept, where the word was found raised so often: the next link where one more is allowed and there is
-- one, and else the caller must wait
abbrev pub AcceptsNext : TableId → List Script → ℕ → ℕ → AcceptOut MemLink → Type 0
AcceptsNext table scripts accepted raised (Accepts.Accepted link) =
    (accepted < allowed_by raised) × (accepted < length scripts)
    × (net_link_of link ≡ fresh_net_link table scripts accepted)
AcceptsNext table scripts accepted raised Accepts.NotYet =
    (allowed_by raised ≤ accepted) ⊎ (length scripts ≤ accepted)
AcceptsNext table scripts accepted raised Accepts.NoMemory =
    (accepted < allowed_by raised) × (accepted < length scripts)
AcceptsNext table scripts accepted raised Accepts.Failed = ⊥

-- an accept finds by one load how often the listener's word was raised, and answers by it
pub record AcceptsNet (old new : NetListener) (result : AcceptOut MemLink) : Type 0 where
  pub later : old.raised ≤ new.raised
  pub looked : new.looks ≡ old.looks + 1
  pub others : new
      ≡ record old { accepted = new.accepted; raised = new.raised; looks = new.looks; waits = new.waits }
  pub answer : AcceptsNext old.table old.scripts old.accepted.n new.raised result

-- the listener of a net of scripts that gave no link yet, and whose word is raised as
-- often as accepts need it
pub record IsFreshListener (scripts : List Script) (l : NetListener) : Type 0 where
  pub same : l.scripts ≡ scripts
  pub none : (l.accepted.n ≡ 0) × (l.raised ≡ 0) × (l.waits.n ≡ 0)
  pub delivery : l.delivery ≡ Some (record {
    table = l.table;
    word = 0;
    delivered = 0;
    limit = listener_limit (length scripts);
    left = 0;
    looks = 0;
  })
