use Rattle.fd_cache.specs.History.{IsCacheHistory}
use Rattle.fd_cache.specs.Represents.{past_of}
use Rattle.warp_tally.specs.Tallies.{tally_past, IsTallyPast}
use Rattle.warp_passes.specs.Laws.{shared_from, shared_to, passes_shared}
use Rattle.warp_passes.proofs.shared.Shared.tell.Goals as goal

pub returns-clause-from : goal.returns-clause-from
returns-clause-from g c =
    let cached = c.share-2.ensures.shared tt in
    let tallied = c.share-3.ensures.shared tt in record {
      disp = (c.share.ensures.from, c.tell_queue.ensures.from);
      times = c.requires.from.times;
      cache = record {
        cell = c.share-2.ensures.from;
        legal = shared_from (λ h. IsCacheHistory (past_of h)) _ _ _ _ cached c.requires.from.cache.legal;
      };
      tally = record {
        cell = c.share-3.ensures.from;
        right = shared_from (λ h. IsTallyPast (tally_past h)) _ _ _ _ tallied c.requires.from.tally.right;
      };
    }

pub returns-clause-to : goal.returns-clause-to
returns-clause-to g c =
    let cached = c.share-2.ensures.shared tt in
    let tallied = c.share-3.ensures.shared tt in record {
      disp = (c.share.ensures.to, c.tell_queue.ensures.to);
      times = c.requires.to.times;
      cache = record {
        cell = c.share-2.ensures.to;
        legal =
            shared_to (λ h. IsCacheHistory (past_of h)) _ _ _ _ cached c.requires.from.cache.legal
            c.requires.to.cache.legal;
      };
      tally = record {
        cell = c.share-3.ensures.to;
        right =
            shared_to (λ h. IsTallyPast (tally_past h)) _ _ _ _ tallied c.requires.from.tally.right
            c.requires.to.tally.right;
      };
    }

pub returns-clause-shared : goal.returns-clause-shared
returns-clause-shared g c =
    passes_shared _ _ _ _ c.share.ensures.shared c.tell_queue.ensures.shared (c.share-2.ensures.shared tt)
    (c.share-3.ensures.shared tt)
