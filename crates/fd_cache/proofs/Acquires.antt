-- How an acquire and a release went, from what each of their parts says.
use Rattle.std.proofs.Common.{◌≡◌, ℕ, inl, inr, List, [], ◌∷◌, refl, sym, ap, subst, ◌∙◌}
use Rattle.turn_cell.specs.declared.view.View.{View}
use Rattle.outside.specs.declared.files.Files.{Ghosts}
use Rattle.outside.specs.declared.files.FindOut.{FindOut}
use Rattle.outside.specs.FileCauses.{FilesTold, Looked}
use Rattle.fd_cache.specs.declared.acquired.Acquired.{Acquired}
use Rattle.fd_cache.specs.declared.acquired.Acquired.TheVariants.{Leased}
use Rattle.fd_cache.specs.declared.cache.Cache.{Cache}
use Rattle.fd_cache.specs.declared.calls.CacheCall.TheVariants as Calls
use Rattle.fd_cache.specs.declared.calls.CacheReply.{CacheReply}
use Rattle.fd_cache.specs.declared.calls.CacheReply.TheVariants as Replies
use Rattle.fd_cache.specs.declared.deed.CacheDeed.{CacheDeed}
use Rattle.fd_cache.specs.declared.deed.CacheDeed.TheVariants as Deeds
use Rattle.fd_cache.specs.declared.lease.Lease.{Lease}
use Rattle.fd_cache.specs.Acquired.{HasAcquired, HasReleased, LookedSo, Ran, ending}
use Rattle.fd_cache.specs.Calls.{answers_call, deed_of, number_of}
use Rattle.fd_cache.specs.Represents.{Enters}
use Rattle.fd_cache.specs.Shared.{EnteredIn, HasAbandoned, HasEndedTicket, HasShared}

module _ {F X : Type 0} {G : Ghosts F X} where
  -- a lease came back before
  pub ran_hit : (path asked : List ℕ) (lease : Lease F X G) (files : FilesTold) (before after : Cache F X G)
      → asked ≡ path
      → Enters (Deeds.Hit (number_of lease.entry) asked lease) before after
      → Ran path (Leased lease) files files before after
  ran_hit path asked lease files before after same enters = record {
    deeds = Deeds.Hit (number_of lease.entry) path lease ∷ [];
    acquired = HasAcquired.hit lease refl refl refl;
    stands =
        subst (λ (x : List ℕ). Enters (Deeds.Hit (number_of lease.entry) x lease) before after) same enters;
  }

  -- the files were looked at, and the ticket ended
  pub ran_fresh : (path asked : List ℕ) (k : ℕ) (result : Acquired F X G)
      (old new : FilesTold) (before between after : Cache F X G)
      → asked ≡ path
      → Enters (Deeds.Fresh k asked) before between → LookedSo result path old new
      → Enters (ending k path result) between after → Ran path result old new before after
  ran_fresh path asked k result old new before between after same first looked second = record {
    deeds = ending k path result ∷ Deeds.Fresh k path ∷ [];
    acquired = HasAcquired.fresh k refl looked;
    stands =
        λ past r. second (Deeds.Fresh k path ∷ past)
        (subst (λ (x : List ℕ). Enters (Deeds.Fresh k x) before between) same first past r);
  }

  -- the files were looked at for a path that the cache doesn't keep
  pub ran_past : (path asked : List ℕ) (result : Acquired F X G)
      (old new : FilesTold) (before after : Cache F X G)
      → asked ≡ path
      → Enters (Deeds.Bypass asked) before after → LookedSo result path old new
      → Ran path result old new before after
  ran_past path asked result old new before after same enters looked = record {
    deeds = Deeds.Bypass path ∷ [];
    acquired = HasAcquired.past refl looked;
    stands = subst (λ (x : List ℕ). Enters (Deeds.Bypass x) before after) same enters;
  }

  -- a lease came back
  pub has_released : (lease : Lease F X G) (reply : CacheReply F X G) (before after : Cache F X G)
      → answers_call (Calls.Release lease) reply
      → Enters (deed_of (Calls.Release lease) reply) before after → HasReleased lease before after
  has_released lease Replies.Kept before after answers enters =
      record { deed = deed_of (Calls.Release lease) Replies.Kept; released = inl refl; enters = enters }
  has_released lease (Replies.Extra file) before after answers enters = record {
    deed = deed_of (Calls.Release lease) (Replies.Extra file);
    released = inr refl;
    enters = enters;
  }
  has_released lease (Replies.Hit other) before after answers enters = absurd answers
  has_released lease (Replies.Fresh ticket) before after answers enters = absurd answers
  has_released lease (Replies.Bypass path) before after answers enters = absurd answers
  has_released lease (Replies.Made other) before after answers enters = absurd answers
  has_released lease Replies.Abandoned before after answers enters = absurd answers
  has_released lease (Replies.Reaped basket) before after answers enters = absurd answers

  -- a ticket was given, and then it ended or not
  pub shared_fresh : (path : List ℕ) (k : ℕ) (result : Acquired F X G)
      (v u w : View (CacheDeed (Lease F X G))) (old new : FilesTold)
      → EnteredIn (Deeds.Fresh k path) v u → HasEndedTicket k path result u w old new
      → HasShared path result v w old new
  shared_fresh path k result v u w old new first (HasEndedTicket.ended looked ends) =
      HasShared.fresh k u first looked ends
  shared_fresh path k result v u w old new first (HasEndedTicket.left found is looked spent) =
      HasShared.cut k u found is first looked spent

  -- a ticket was given back, or the cell took no call
  pub ended_so : (k : ℕ) (path : List ℕ) (answer result : Acquired F X G)
      (u w : View (CacheDeed (Lease F X G))) (old new : FilesTold) (found : FindOut X)
      → HasAbandoned k answer result u w → LookedSo answer path old new
      → ending k path answer ≡ Deeds.Abandoned k → Looked found path old new
      → HasEndedTicket k path result u w old new
  ended_so k path answer result u w old new found (inl (is, entered)) looked so this =
      HasEndedTicket.ended (subst (λ (r : Acquired F X G). LookedSo r path old new) (sym is) looked)
      (subst (λ (d : CacheDeed (Lease F X G)). EnteredIn d u w) (sym (ap (ending k path) is ∙ so)) entered)
  ended_so k path answer result u w old new found (inr (is, spent)) looked so this =
      HasEndedTicket.left found is this spent
