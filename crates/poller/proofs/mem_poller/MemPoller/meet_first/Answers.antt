use Rattle.std.proofs.Common.{List, ◌++◌, sym, ap, ◌∙◌}
use Rattle.std.proofs.lemmas.List.{append-nil}
use Rattle.poller.specs.declared.mem_poller.Entry.{Entry}
use Rattle.poller.proofs.mem_poller.MemPoller.meet_first.Goals as goal

pub returns-then-not-meet : goal.returns-then-not-meet
returns-then-not-meet c = let h = c.if-not-meet.ensures in record {
  met = record { entry = c.in-Some.entry; found = h.found };
  others = c.pop_front.new.self.items;
  before = c.in-Some.ensures.items;
  after =
      sym (append-nil c.pop_front.new.self.items)
      ∙ ap (λ (t : List Entry). c.pop_front.new.self.items ++ t) h.kept;
  given = h.given;
}

pub returns : goal.returns
returns c = let h = c.if-not-meet.ensures in record {
  met = record { entry = c.in-Some.entry; found = h.found };
  others = c.pop_front.new.self.items;
  before = c.in-Some.ensures.items;
  after =
      c.push_back_reserved.ensures.items ∙ ap (λ (t : List Entry). c.pop_front.new.self.items ++ t) h.kept;
  given = h.given;
}
