-- To be believed: which deed a call and its reply come to, what a call has to meet, and
-- how a reply answers it.
use Rattle.std.specs.Prelude.{◌≡◌, ℕ, [], Option, Some, None, IsSome, string_bytes}
use Rattle.outside.specs.declared.files.Files.{Ghosts}
use Rattle.outside.specs.Folder.{HasFile}
use Rattle.fd_cache.specs.declared.lease.Lease.{Lease}
use Rattle.fd_cache.specs.declared.calls.CacheCall.{CacheCall}
use Rattle.fd_cache.specs.declared.calls.CacheCall.TheVariants as Calls
use Rattle.fd_cache.specs.declared.calls.CacheReply.{CacheReply}
use Rattle.fd_cache.specs.declared.calls.CacheReply.TheVariants as Replies
use Rattle.fd_cache.specs.declared.deed.CacheDeed.{CacheDeed}
use Rattle.fd_cache.specs.declared.deed.CacheDeed.TheVariants as Deeds

-- the number of an entry that is named
abbrev pub number_of : Option ℕ → ℕ
number_of None = 0
number_of (Some k) = k

module _ {F X : Type 0} {G : Ghosts F X} where
  -- the number of the entry that a lease names, where it names one
  abbrev pub entry_of : Lease F X G → Option ℕ
  entry_of lease = lease.entry

  -- the same of a lease that is there or isn't
  abbrev pub entry_held : Option (Lease F X G) → Option ℕ
  entry_held None = None
  entry_held (Some lease) = entry_of lease

  -- what one call and its reply come to
  abbrev pub deed_of : CacheCall F X G → CacheReply F X G → CacheDeed (Lease F X G)
  deed_of (Calls.Acquire path) (Replies.Hit lease) =
      Deeds.Hit (number_of lease.entry) (string_bytes path) lease
  deed_of (Calls.Acquire path) (Replies.Fresh ticket) = Deeds.Fresh ticket.entry (string_bytes path)
  deed_of (Calls.Acquire path) (Replies.Bypass back) = Deeds.Bypass (string_bytes path)
  deed_of (Calls.Supplied ticket file size mtime) (Replies.Made lease) =
      Deeds.Made ticket.entry (G.file_path file) lease.entry
  deed_of (Calls.Abandon ticket) Replies.Abandoned = Deeds.Abandoned ticket.entry
  deed_of (Calls.Release lease) Replies.Kept =
      Deeds.Kept (number_of lease.entry) (G.file_path lease.file) lease
  deed_of (Calls.Release lease) (Replies.Extra file) = Deeds.Extra lease.entry (G.file_path lease.file)
  deed_of (Calls.Reap basket) (Replies.Reaped after) = Deeds.Reaped after
  deed_of _ _ = Deeds.Bypass []

  -- what a call has to meet: size and time of a file that was found are the folder's,
  -- and the basket of a reap is empty
  abbrev pub may_ask : CacheCall F X G → Type 0
  may_ask (Calls.Supplied ticket file size mtime) = HasFile G.folder (G.file_path file) size mtime
  may_ask (Calls.Reap basket) = basket ≡ []
  may_ask _ = Unit {0}

  -- which replies a call has, and what of it they hand on: a lease has the path that was asked
  -- for, and a file goes on as it was
  abbrev pub answers_call : CacheCall F X G → CacheReply F X G → Type 0
  answers_call (Calls.Acquire path) (Replies.Hit lease) =
      (G.file_path lease.file ≡ string_bytes path) × IsSome lease.entry
  answers_call (Calls.Acquire path) (Replies.Fresh ticket) = Unit {0}
  answers_call (Calls.Acquire path) (Replies.Bypass back) = back ≡ path
  answers_call (Calls.Supplied ticket file size mtime) (Replies.Made lease) =
      (lease.file ≡ file) × (lease.size ≡ size) × (lease.mtime ≡ mtime)
  answers_call (Calls.Abandon ticket) Replies.Abandoned = Unit {0}
  answers_call (Calls.Release lease) Replies.Kept = IsSome lease.entry
  answers_call (Calls.Release lease) (Replies.Extra file) = file ≡ lease.file
  answers_call (Calls.Reap basket) (Replies.Reaped after) = Unit {0}
  answers_call _ _ = ⊥
