use Rattle.std.proofs.Common.{◌≡◌, ◌<◌, ◌+◌, ◌-◌, length, refl, sym, ap, ◌∙◌, subst, arith}
use Rattle.poller.specs.NetLinks.{NetLink, input_of}
use Rattle.poller.specs.LinkSeats.{DealerState, LinkSeatState}
use Rattle.poller.specs.Scripts.{AreScripts, pieces_in, room_at, steps_at}
use Rattle.poller.proofs.ScriptLemmas.{front_script, goes_on, more_plain, planned}
use Rattle.poller.proofs.mem_listener.MemListenerListener.accept.Goals as goal

pub next_link-requires-clause-steps : goal.next_link-requires-clause-steps
next_link-requires-clause-steps c =
    let i = c.self.inside in
    let v = c.self.invariant in
    let some : 0 < length i.scripts.items = omega (arith, c.in-Some.ensures.variant.0 refl, i.scripts.ok.0) in
    let f = front_script i.dealer.scripts i.accepted.n i.scripts.items c.in-Some.script.now
    v.others some c.in-Some.ensures.lookup in
    let e : i.accepted.n ≡ i.dealer.next - 1 = omega (arith, v.next) in
    f.0 ∙ ap (steps_at i.dealer.scripts) e

pub next_link-requires-clause-room : goal.next_link-requires-clause-room
next_link-requires-clause-room c =
    let i = c.self.inside in
    let v = c.self.invariant in
    let some : 0 < length i.scripts.items = omega (arith, c.in-Some.ensures.variant.0 refl, i.scripts.ok.0) in
    let f = front_script i.dealer.scripts i.accepted.n i.scripts.items c.in-Some.script.now
    v.others some c.in-Some.ensures.lookup in
    let e : i.accepted.n ≡ i.dealer.next - 1 = omega (arith, v.next) in
    f.1 ∙ ap (room_at i.dealer.scripts) e

pub invariant_of-self-2 : goal.invariant_of-self-2
invariant_of-self-2 c =
    let i = c.self.inside in
    let v = c.self.invariant in
    let some : 0 < length i.scripts.items = omega (arith, c.in-Some.ensures.variant.0 refl, i.scripts.ok.0) in
    let f = front_script i.dealer.scripts i.accepted.n i.scripts.items c.in-Some.script.now
    v.others some c.in-Some.ensures.lookup in
    let d = c.in-Ok.ensures.next in
    let scripts = ap (λ (s : DealerState). s.scripts) d in
    let seat = c.delivered.ensures.found in
    let n : c.rise-2.new.self.n ≡ i.accepted.n + 1 =
    c.rise-2.ensures ∙ more_plain i.dealer.scripts i.accepted.n v.are f.2 in
    let next = ap (λ (s : DealerState). s.next) d in record {
      own = ap (λ (p : LinkSeatState). p.word) seat ∙ v.own;
      same_table =
          ap (λ (p : LinkSeatState). p.table) seat
          ∙ (v.same_table ∙ sym (ap (λ (s : DealerState). s.table) d));
      same_scripts = ap (λ (p : LinkSeatState). p.scripts) seat ∙ (v.same_scripts ∙ sym scripts);
      are = subst AreScripts (sym scripts) v.are;
      next = omega (arith, next, n, v.next);
      most = let l = ap length scripts in omega (arith, n, f.2, l);
      others =
          c.pop_front-given.ensures.rest
          ∙ goes_on i.dealer.scripts c.next_link.new.dealer.scripts i.accepted.n c.rise-2.new.self.n
          i.scripts.items v.others (sym scripts) n;
    }

pub returns-clause-planned : goal.returns-clause-planned
returns-clause-planned c =
    let i = c.self.inside in
    let v = c.self.invariant in
    let some : 0 < length i.scripts.items = omega (arith, c.in-Some.ensures.variant.0 refl, i.scripts.ok.0) in
    let f = front_script i.dealer.scripts i.accepted.n i.scripts.items c.in-Some.script.now
    v.others some c.in-Some.ensures.lookup in
    let e : i.dealer.next - 1 ≡ i.accepted.n = omega (arith, v.next) in
    let k = c.in-Ok.ensures.link in
    rw (← c.self.view_is)
    (planned i.dealer.scripts i.accepted.n _ _ f.2 (ap (λ (l : NetLink). l.number) k ∙ e)
    (ap input_of k ∙ ap (λ n. pieces_in (steps_at i.dealer.scripts n)) e))
