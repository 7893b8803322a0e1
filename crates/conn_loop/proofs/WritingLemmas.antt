-- What was written, piece by piece, and what it makes of a connection.
use Rattle.std.proofs.Common.{◌≡◌, ℕ, ◌+◌, ◌-◌, ◌<◌, ◌≤◌, List, [], ◌++◌, length, take, drop, Option, Some}
use Rattle.std.proofs.Common.{None, option_map, refl, sym, ap, ◌∙◌, append_assoc, append-nil, length-append}
use Rattle.std.proofs.Common.{length-drop, subst, arith, inl, inr}
use Rattle.std.specs.Prelude.{IfSome, min, nat_lt, Bool, true, false, if◌then◌else◌, ◌⊎◌}
use Rattle.std.proofs.lemmas.Bool.Decides.{nat_tests}
use Rattle.std.proofs.lemmas.List.{take_rest, take-append-drop, drop_all}
use Rattle.std.proofs.Math.Seq.{take-add}
use Rattle.outside.specs.Causes.{LinkTold, Wrote}
use Rattle.outside.specs.Counts.{Counts, full, more_by_one}
use Rattle.outside.specs.declared.link.WriteOut.TheVariants as write
use Rattle.conn_loop.specs.Moves.{Sends, waits_after}
use Rattle.conn_loop.specs.ConnState.{ConnState, Counted}
use Rattle.conn_loop.specs.declared.writing.WriteEnd.{WriteEnd}
use Rattle.conn_loop.specs.declared.writing.WriteEnd.TheVariants.{All, Waits, Fails}
use Rattle.conn_loop.specs.Writing.{Ran, Writes, Leaves, CountsWait}

-- a list that is told gains two pieces one after the other
pub told_more : (o p q : Option (List ℕ)) (a b : List ℕ) → p ≡ option_map (λ s. s ++ a) o
    → q ≡ option_map (λ s. s ++ b) p → q ≡ option_map (λ s. s ++ (a ++ b)) o
told_more None p q a b first second = second ∙ ap (λ v. option_map (λ s. s ++ b) v) first
told_more (Some s) p q a b first second =
    second ∙ ap (λ v. option_map (λ s. s ++ b) v) first ∙ ap Some (append_assoc s a b)

-- two runs of writes, one after the other
pub ran_then : (end : WriteEnd) (a b : List ℕ) (k l m : LinkTold) → Ran All a k l
    → Ran end b l m → Ran end (a ++ b) k m
ran_then end a b k l m first second = record {
  sends = told_more k.sent l.sent m.sent a b first.sends second.sends;
  counted = omega (arith, first.counted, second.counted);
  failed = λ e. omega (arith, first.counted, second.failed e);
  waited = subst (λ (v : Counts). CountsWait end v m.waits) first.waited second.waited;
  same = second.same ∙ ap (λ (v : LinkTold). record v {
    sent = m.sent;
    faults = record v.faults { writes = m.faults.writes };
    waits = m.waits;
  }) first.same;
}

-- one write is a run
pub ran_took : (n : ℕ) (took : List ℕ) (l m : LinkTold) → Wrote (write.Took n) took l m → Ran All took l m
ran_took n took l m x =
    record { sends = x.sends; counted = x.faulted.later; failed = λ e. cc; waited = x.waited; same = x.same }

pub ran_waits : (l m : LinkTold) → Wrote write.NotYet [] l m → Ran Waits [] l m
ran_waits l m x =
    record { sends = x.sends; counted = x.faulted.later; failed = λ e. cc; waited = x.waited; same = x.same }

pub ran_fails : (l m : LinkTold) → Wrote write.Failed [] l m → Ran Fails [] l m
ran_fails l m x = record {
  sends = x.sends;
  counted = x.faulted.later;
  failed = λ e. x.faulted.failed refl;
  waited = x.waited;
  same = x.same;
}

pub ran_nothing : (n : ℕ) (xs : List ℕ) (l m : LinkTold) → n ≡ 0 → Wrote (write.Took n) (take n xs) l m
    → Ran Fails [] l m
ran_nothing n xs l m none x = record {
  sends = x.sends ∙ ap (λ (k : ℕ). option_map (λ s. s ++ take k xs) l.sent) none;
  counted = x.faulted.later;
  failed = λ e. x.faulted.nothing (ap (λ (k : ℕ). write.Took k) none);
  waited = x.waited;
  same = x.same;
}

-- n more bytes of a piece were written
pub ran_on : (xs : List ℕ) (at n : ℕ) (k l m : LinkTold) → Ran All (take at xs) k l
    → Wrote (write.Took n) (take n (take (length xs - at) (drop at xs))) l m → Ran All (take (at + n) xs) k m
ran_on xs at n k l m first x =
    subst (λ (t : List ℕ). Ran All t k m)
    (ap (λ (t : List ℕ). take at xs ++ take n t) (take_rest xs at) ∙ sym (take-add at n xs))
    (ran_then All (take at xs) (take n (take (length xs - at) (drop at xs))) k l m first (ran_took n _ l m x))

-- the first bytes of a piece were written, and then writing stopped
pub writes_here : (end : WriteEnd) (xs : List ℕ) (at : ℕ) (k l m : LinkTold) → Ran All (take at xs) k l
    → Ran end [] l m → Leaves end (drop at xs)
    → Writes end xs (drop at xs) k m
writes_here end xs at k l m first second leaves = record {
  front = take at xs;
  split = sym (take-append-drop at xs);
  left = leaves;
  ran =
      subst (λ (t : List ℕ). Ran end t k m) (append-nil (take at xs))
      (ran_then end (take at xs) [] k l m first second);
}

-- a piece was written whole
pub writes_whole : (xs : List ℕ) (at : ℕ) (k l : LinkTold) → length xs ≤ at → Ran All (take at xs) k l
    → Writes All xs (drop at xs) k l
writes_whole xs at k l all first = record {
  front = take at xs;
  split = sym (take-append-drop at xs);
  left = drop_all at xs all;
  ran = first;
}

pub some_left : (xs : List ℕ) (at : ℕ) → at < length xs → 0 < length (drop at xs)
some_left xs at inside = omega (arith, length-drop at xs)

-- ---- counts

bytes_told : (old new : Option (List ℕ)) (front : List ℕ) (was now : ℕ)
    → new ≡ option_map (λ s. s ++ front) old → now ≡ min (was + length front) full
    → IfSome old (λ s. was ≡ min (length s) full) → IfSome new (λ s. now ≡ min (length s) full)
bytes_told None None front was now is sum x = tt
bytes_told None (Some s) front was now is sum x = cc
bytes_told (Some s) None front was now is sum x = cc
bytes_told (Some s) (Some t) front was now is sum x =
    let same : t ≡ s ++ front = cc in
    let long : length t ≡ length s + length front =
    ap (λ (v : List ℕ). length v) same ∙ length-append s front in
    omega (arith, long, sum, x)

-- a count that rises by one, and another that stays
more_cases : (n : ℕ) → ((n < full) × (more_by_one n ≡ n + 1)) ⊎ ((full ≤ n) × (more_by_one n ≡ n))
more_cases n =
    elim (nat_lt n full) as (λ (b : Bool). nat_lt n full ≡ b
    → ((n < full) × ((if b then n + 1 else n) ≡ n + 1)) ⊎ ((full ≤ n) × ((if b then n + 1 else n) ≡ n))) [
      | true ↦ λ is. inl (grind (arith, nat_tests), refl)
      | false ↦ λ is. inr (grind (arith, nat_tests), refl)
    ] refl

pub one_more : (a b c d was : ℕ) → (d ≡ more_by_one b) × (c ≡ a) → was ≡ min (a + b) full
    → min (was + 1) full ≡ min (c + d) full
one_more a b c d was counts x = elim (more_cases b) [
  | inl y ↦ omega (arith, counts.0, counts.1, x, y.0, y.1)
  | inr y ↦ omega (arith, counts.0, counts.1, x, y.0, y.1)
]

waits_told : (end : WriteEnd) (old new : Counts) (was : ℕ) → CountsWait end old new
    → was ≡ min (old.reads + old.writes) full
    → waits_after end was ≡ min (new.reads + new.writes) full
waits_told All old new was counts x = rw counts x
waits_told Waits old new was counts x = one_more old.reads old.writes new.reads new.writes was counts x
waits_told Fails old new was counts x = rw counts x

-- the counts of a connection go on being its link's
pub sends_counted : (end : WriteEnd) (old new : ConnState) (link later : LinkTold)
    → Sends end old new link later → Counted old link → Counted new later
sends_counted end old new link later x c = record {
  waits = x.waits ∙ waits_told end link.waits later.waits old.waits x.writes.ran.waited c.waits;
  bytes =
      bytes_told link.sent later.sent x.writes.front old.bytes new.bytes x.writes.ran.sends x.bytes c.bytes;
}

-- what was written of the output was written of the connection
pub sends_of : (end : WriteEnd) (s old : ConnState) (n : ℕ)
    (wrote rest : List ℕ) (bytes waits : ℕ) (k l : LinkTold)
    → s ≡ old → wrote ≡ s.pending → n ≤ length wrote
    → rest ≡ drop n s.pending → Writes end wrote (drop n wrote) k l → bytes ≡ min (s.bytes + n) full
    → waits ≡ waits_after end s.waits
    → Sends end old (record s { pending = rest; bytes = bytes; waits = waits }) k l
sends_of end s old n wrote rest bytes waits k l was there fits is x counted waited =
    let left : drop n wrote ≡ rest = ap (λ (v : List ℕ). drop n v) there ∙ sym is in
    let long : length x.front ≡ n = omega (
      arith,
      ap (λ (v : List ℕ). length v) x.split,
      length-append x.front (drop n wrote),
      length-drop n wrote,
      fits,
    ) in
    record {
      writes = record {
        front = x.front;
        split =
            ap (λ (v : ConnState). v.pending) (sym was) ∙ sym there ∙ x.split
            ∙ ap (λ (v : List ℕ). x.front ++ v) left;
        left = subst (λ (v : List ℕ). Leaves end v) left x.left;
        ran = x.ran;
      };
      bytes =
          counted ∙ ap (λ (v : ℕ). min (s.bytes + v) full) (sym long)
          ∙ ap (λ (v : ConnState). min (v.bytes + length x.front) full) was;
      waits = waited ∙ ap (λ (v : ConnState). waits_after end v.waits) was;
      same = ap (λ (v : ConnState). record v { pending = rest; bytes = bytes; waits = waits }) was;
    }
