use Rattle.std.proofs.Common.{refl}
use Rattle.fd_cache.specs.History.{IsCacheHistory}
use Rattle.fd_cache.specs.Represents.{past_of}
use Rattle.warp_tally.specs.Tallies.{tally_past, IsTallyPast}
use Rattle.warp_passes.specs.Laws.{shared_from, shared_to, passes_shared}
use Rattle.warp_core.proofs.sharing.RowShareRow.share_row.Goals as goal

pub share-requires-clause-from : goal.share-requires-clause-from
share-requires-clause-from g c = c.requires.from.passes.disp.0

pub share-requires-clause-to : goal.share-requires-clause-to
share-requires-clause-to g c = c.requires.to.passes.disp.0

pub tell_queue-requires-clause-from : goal.tell_queue-requires-clause-from
tell_queue-requires-clause-from g c = c.requires.from.passes.disp.1

pub tell_queue-requires-clause-to : goal.tell_queue-requires-clause-to
tell_queue-requires-clause-to g c = c.requires.to.passes.disp.1

pub share-requires-2-clause-from : goal.share-requires-2-clause-from
share-requires-2-clause-from g c = c.requires.from.passes.cache.cell

pub share-requires-2-clause-to : goal.share-requires-2-clause-to
share-requires-2-clause-to g c = c.requires.to.passes.cache.cell

pub share-requires-3-clause-from : goal.share-requires-3-clause-from
share-requires-3-clause-from g c = c.requires.from.passes.tally.cell

pub share-requires-3-clause-to : goal.share-requires-3-clause-to
share-requires-3-clause-to g c = c.requires.to.passes.tally.cell

pub returns-clause-from : goal.returns-clause-from
returns-clause-from g c =
    let own = c.requires.from.passes in
    let cached = c.share-2.ensures.shared tt in
    let tallied = c.share-3.ensures.shared tt in record {
      passes = record {
        disp = (c.share.ensures.from, c.tell_queue.ensures.from);
        times = own.times;
        cache = record {
          cell = c.share-2.ensures.from;
          legal = shared_from (λ h. IsCacheHistory (past_of h)) _ _ _ _ cached own.cache.legal;
        };
        tally = record {
          cell = c.share-3.ensures.from;
          right = shared_from (λ h. IsTallyPast (tally_past h)) _ _ _ _ tallied own.tally.right;
        };
      };
      shared = c.requires.from.shared;
    }

pub returns-clause-to : goal.returns-clause-to
returns-clause-to g c =
    let own = c.requires.from.passes in
    let other = c.requires.to.passes in
    let cached = c.share-2.ensures.shared tt in
    let tallied = c.share-3.ensures.shared tt in record {
      passes = record {
        disp = (c.share.ensures.to, c.tell_queue.ensures.to);
        times = other.times;
        cache = record {
          cell = c.share-2.ensures.to;
          legal =
              shared_to (λ h. IsCacheHistory (past_of h)) _ _ _ _ cached own.cache.legal other.cache.legal;
        };
        tally = record {
          cell = c.share-3.ensures.to;
          right =
              shared_to (λ h. IsTallyPast (tally_past h)) _ _ _ _ tallied own.tally.right other.tally.right;
        };
      };
      shared = c.requires.to.shared;
    }

pub returns-clause-shared : goal.returns-clause-shared
returns-clause-shared g c =
    passes_shared _ _ _ _ c.share.ensures.shared c.tell_queue.ensures.shared (c.share-2.ensures.shared tt)
    (c.share-3.ensures.shared tt)

pub returns-clause-rest : goal.returns-clause-rest
returns-clause-rest g c = refl

pub returns-clause-other_rest : goal.returns-clause-other_rest
returns-clause-other_rest g c = refl
