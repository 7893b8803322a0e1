-- To be believed: what an acquire and a release say, of the files and of the cache's history.
use Rattle.std.specs.Prelude.{◌≡◌, ℕ, ◌⊎◌, List, [], ◌∷◌, ◌++◌, None, IfSome}
use Rattle.outside.specs.declared.files.Files.{Ghosts}
use Rattle.outside.specs.declared.files.FindOut.{FindOut}
use Rattle.outside.specs.declared.files.FindOut.TheVariants as Finds
use Rattle.outside.specs.FileCauses.{FilesTold, Looked}
use Rattle.outside.specs.Folder.{file_at}
use Rattle.fd_cache.specs.declared.lease.Lease.{Lease}
use Rattle.fd_cache.specs.declared.acquired.Acquired.{Acquired}
use Rattle.fd_cache.specs.declared.acquired.Acquired.TheVariants.{Leased, Absent, Failed, NoMemory, Spent}
use Rattle.fd_cache.specs.declared.deed.CacheDeed.{CacheDeed}
use Rattle.fd_cache.specs.declared.deed.CacheDeed.TheVariants as Deeds
use Rattle.fd_cache.specs.declared.cache.Cache.{Cache}
use Rattle.fd_cache.specs.Calls.{number_of}
use Rattle.fd_cache.specs.Represents.{Enters, Represents}

module _ {F X : Type 0} {G : Ghosts F X} where
  -- a lease has the path that was asked for, and where the folder is told, `Absent` says
  -- that it hasn't the path
  abbrev pub Gives : List ℕ → Acquired F X G → Type 0
  Gives path (Leased lease) = G.file_path lease.file ≡ path
  Gives path Absent = IfSome G.folder (λ f. file_at f path ≡ None)
  Gives path Failed = Unit {0}
  Gives path NoMemory = Unit {0}
  Gives path Spent = Unit {0}

  -- what a look found of which a lease was made
  abbrev pub found_of : Lease F X G → FindOut X
  found_of lease = Finds.Found (record { file = lease.file; size = lease.size; mtime = lease.mtime })

  -- the files were looked at once, for this path, and answered so
  abbrev pub LookedSo : Acquired F X G → List ℕ → FilesTold → FilesTold → Type 0
  LookedSo (Leased lease) path old new = Looked (found_of lease) path old new
  LookedSo Absent path old new = Looked {X = X} Finds.Absent path old new
  LookedSo Failed path old new = Looked {X = X} Finds.Failed path old new
  LookedSo NoMemory path old new = Looked {X = X} Finds.NoMemory path old new
  LookedSo Spent path old new = ⊥

  -- the deed that ends a ticket
  abbrev pub ending : ℕ → List ℕ → Acquired F X G → CacheDeed (Lease F X G)
  ending k path (Leased lease) = Deeds.Made k path lease.entry
  ending k path Absent = Deeds.Abandoned k
  ending k path Failed = Deeds.Abandoned k
  ending k path NoMemory = Deeds.Abandoned k
  ending k path Spent = Deeds.Abandoned k

  -- how an acquire went: its own deeds, the last one first, and what the files told before and after
  pub data HasAcquired (path : List ℕ) (result : Acquired F X G) (deeds : List (CacheDeed (Lease F X G)))
      (old new : FilesTold) : Type 0 where
    -- a lease came back before, and the files weren't asked
    hit : (lease : Lease F X G) → result ≡ Leased lease
        → deeds ≡ Deeds.Hit (number_of lease.entry) path lease ∷ [] → new ≡ old
        → HasAcquired path result deeds old new
    -- the files were looked at, and the ticket ended
    fresh : (k : ℕ) → deeds ≡ ending k path result ∷ Deeds.Fresh k path ∷ [] → LookedSo result path old new
        → HasAcquired path result deeds old new
    -- the files were looked at for a path that the cache doesn't keep
    past : deeds ≡ Deeds.Bypass path ∷ [] → LookedSo result path old new
        → HasAcquired path result deeds old new
    -- memory was short before anything was asked
    short : result ≡ NoMemory → deeds ≡ [] → new ≡ old → HasAcquired path result deeds old new

  -- what an answer says of the files: a lease alone may have cost no look, and want of memory
  abbrev pub Asks : List ℕ → Acquired F X G → FilesTold → FilesTold → Type 0
  Asks path (Leased lease) old new = (new ≡ old) ⊎ LookedSo (Leased lease) path old new
  Asks path Absent old new = LookedSo Absent path old new
  Asks path Failed old new = LookedSo Failed path old new
  Asks path NoMemory old new = (new ≡ old) ⊎ LookedSo NoMemory path old new
  Asks path Spent old new = ⊥

  -- the deed of a release: the lease is kept, or it isn't
  abbrev pub IsRelease : Lease F X G → CacheDeed (Lease F X G) → Type 0
  IsRelease lease deed =
      (deed ≡ Deeds.Kept (number_of lease.entry) (G.file_path lease.file) lease)
      ⊎ (deed ≡ Deeds.Extra lease.entry (G.file_path lease.file))

  -- an acquire of one's own: whatever history the cache stood for, it then stands for that
  -- one and the acquire's own deeds
  pub record Ran (path : List ℕ) (result : Acquired F X G) (old new : FilesTold)
      (before after : Cache F X G) : Type 0 where
    pub deeds : List (CacheDeed (Lease F X G))
    pub acquired : HasAcquired path result deeds old new
    pub stands : (past : List (CacheDeed (Lease F X G))) → Represents past before
        → Represents (deeds ++ past) after

  -- a release of one's own: the same with the one deed of the release
  pub record HasReleased (lease : Lease F X G) (before after : Cache F X G) : Type 0 where
    pub deed : CacheDeed (Lease F X G)
    pub released : IsRelease lease deed
    pub enters : Enters deed before after
