-- What the journals of all dispatchers say of their passes and their books together.
use Rattle.std.proofs.Common.{◌≡◌, ℕ, zero, suc, ◌+◌, ◌-◌, ◌^◌, ◌≤◌, ◌<◌, List, [], ◌∷◌, ◌++◌, map, length}
use Rattle.std.proofs.Common.{All, Bool, true, false, ⊎_elim, inl, inr, refl, sym, ap, ◌∙◌, subst, arith}
use Rattle.std.specs.Prelude.{Option, Some, None, IfSome, min, ◌==◌}
use Rattle.std.proofs.lemmas.Bool.{eqb-true, eq-eqb, cases_Bool}
use Rattle.std.proofs.lemmas.List.{map-append}
use Rattle.std.proofs.lemmas.List.Elements.{All-cons, All-nil}
use Rattle.reg_keys.specs.declared.opening.Opening.{Opening}
use Rattle.reg_keys.specs.declared.entry.Entry.{Entry}
use Rattle.reg_keys.specs.Tests.{one_if, same, total}
use Rattle.reg_keys.specs.AllStripes.{sum_below}
use Rattle.turn_cell.specs.Weights.{weigh}
use Rattle.conn_loop.specs.declared.step.End.TheVariants as Ends
use Rattle.event_mgr.specs.Manager.{own_weight}
use Rattle.warp_tally.specs.declared.calls.TallyEntry.{TallyEntry}
use Rattle.warp_tally.specs.Accounts.{finished_by, finished_in, finishes, finishes_any, times, turns_away}
use Rattle.warp_books.specs.declared.finish.Finish.{Finish}
use Rattle.warp_books.specs.declared.finish.Finish.TheVariants.{Ended, TimedOut, TurnedAway}
use Rattle.warp_books.specs.declared.finish.Turned.TheVariants as Turns
use Rattle.warp_books.specs.Books.{BookTold, FinishedTold, IsBookOf, capped, kind_number, same_kind}
use Rattle.warp_passes.specs.Own.{entries_of}
use Rattle.warp_passes.specs.Passes.{PassView}
use Rattle.warp_runner.specs.Acts.{ServeTold, all_out_in, told_of}
use Rattle.warp_runner.specs.Journal.{JournalFits}
use Rattle.warp_core.specs.Ends.{tally_weight}
use Rattle.whole_runs.specs.Registrations.{CountsFor, MayLackOne, registers, taken}
use Rattle.whole_runs.proofs.Flows.{AllCount, AreExplainedBy, Handed, accepted, accepts_of, ended, is_handed}
use Rattle.whole_runs.proofs.Flows.{opens_of}
use Rattle.whole_runs.specs.Accounts.{AreTaken, IsAllClean, IsUncapped, TookWhatCounted, all_kinds, own_ends}
use Rattle.whole_runs.specs.Accounts.{openings_in, whole}
use Rattle.whole_runs.proofs.Chains.{sum_both, sum_none}
use Rattle.whole_runs.proofs.Flowing.{count_append, total_append}
use Rattle.whole_runs.proofs.PassFlows.{PassFlows, pass_flows}

-- ---- facts of each of a list

abbrev pub AllOf : {A : Type 0} → (A → Type 0) → List A → Type 0
AllOf P [] = Unit {0}
AllOf P (x ∷ xs) = P x × AllOf P xs

module _ {A : Type 0} where
  pub all_of_left : (P : A → Type 0) (xs ys : List A) → AllOf P (xs ++ ys) → AllOf P xs
  all_of_left P [] ys a = tt
  all_of_left P (x ∷ xs) ys a = (a.0, all_of_left P xs ys a.1)

  pub all_of_right : (P : A → Type 0) (xs ys : List A) → AllOf P (xs ++ ys) → AllOf P ys
  all_of_right P [] ys a = a
  all_of_right P (x ∷ xs) ys a = all_of_right P xs ys a.1

  pub all_of_both : (P : A → Type 0) (xs ys : List A) → AllOf P xs → AllOf P ys → AllOf P (xs ++ ys)
  all_of_both P [] ys a b = b
  all_of_both P (x ∷ xs) ys a b = (a.0, all_of_both P xs ys a.1 b)

  pub all_of_map : {B : Type 0} (f : B → A) (P : A → Type 0) (xs : List B) → AllOf (λ x. P (f x)) xs
      → All P (map f xs)
  all_of_map f P [] a = All-nil P
  all_of_map f P (x ∷ xs) a = All-cons P (f x) (map f xs) a.0 (all_of_map f P xs a.1)

  pub total_map : {B : Type 0} (f : A → ℕ) (g : B → A) (xs : List B)
      → total f (map g xs) ≡ total (λ x. f (g x)) xs
  total_map f g [] = refl
  total_map f g (x ∷ xs) = let r = total_map f g xs in omega arith

-- the first and the others of All
all_head : {A : Type 0} (P : A → Type 0) (x : A) (xs : List A) → All P (x ∷ xs) → P x
all_head P x xs all = all 0 x (omega arith)

all_tail : {A : Type 0} (P : A → Type 0) (x : A) (xs : List A) → All P (x ∷ xs) → All P xs
all_tail P x xs all k d h = all (suc k) d (omega arith)

-- ---- one book

finished_length : (es : List TallyEntry) → length (finished_in es) ≡ weigh finishes_any es
finished_length [] = refl
finished_length (e ∷ es) =
    let r = finished_length es in
    let a = both (finished_by e.call e.reply.counted) (finished_in es) in
    let b = ones (finished_by e.call e.reply.counted) in omega arith
  where
    both : (xs ys : List Opening) → length (xs ++ ys) ≡ length xs + length ys
    both [] ys = omega arith
    both (x ∷ xs) ys = let r = both xs ys in omega arith

    ones : (xs : List Opening) → total (λ o. 1) xs ≡ length xs
    ones [] = refl
    ones (x ∷ xs) = let r = ones xs in omega arith

map_length : {A B : Type 0} (f : A → B) (xs : List A) → length (map f xs) ≡ length xs
map_length f [] = refl
map_length f (x ∷ xs) = ap suc (map_length f xs)

-- how often an opening is among those that some entries finished
finished_times : (o : Opening) (es : List TallyEntry) → times o (finished_in es) ≡ weigh (finishes o) es
finished_times o [] = refl
finished_times o (e ∷ es) =
    let r = finished_times o es in
    let a = total_append (λ (p : Opening). one_if (same o p)) (finished_by e.call e.reply.counted)
    (finished_in es) in omega arith

one_if_le : (t : Bool) → one_if t ≤ 1
one_if_le true = omega arith
one_if_le false = omega arith

ones_le : (f : FinishedTold → Bool) (ds : List FinishedTold) → total (λ (d : FinishedTold). one_if (f d)) ds ≤ length ds
ones_le f [] = omega arith
ones_le f (d ∷ ds) =
    let r = ones_le f ds in
    let a = one_if_le (f d) in omega arith

uncapped_few : (n m l : ℕ) → m ≡ capped n → n ≤ l → l < 2 ^ 64 → m ≡ n
uncapped_few n m l e le lt = omega arith

uncapped : (n m : ℕ) → m ≡ capped n → m < 2 ^ 64 - 1 → n ≡ m
uncapped n m e lt = omega arith

never : (n : ℕ) → 0 ≡ capped n → n ≡ 0
never n e = omega arith

-- a connection whose end is of the kind of a clean one has no end with which one may lack
clean_lacks : (end : Finish) → same_kind end (Ended Ends.Clean) ≡ true → MayLackOne end → ⊥
clean_lacks (Ended Ends.Clean) is may = may
clean_lacks (Ended Ends.Cut) is may = may
clean_lacks (Ended Ends.ReadFault) is may = may
clean_lacks (Ended Ends.WriteFault) is may = may
clean_lacks (Ended Ends.FileFault) is may = may
clean_lacks (Ended Ends.NoMemory) is may = let e = eqb-true 5 0 is in absurd (omega arith)
clean_lacks TimedOut is may = let e = eqb-true 6 0 is in absurd (omega arith)
clean_lacks (TurnedAway Turns.Watches) is may = let e = eqb-true 7 0 is in absurd (omega arith)
clean_lacks (TurnedAway Turns.Crowded) is may = let e = eqb-true 8 0 is in absurd (omega arith)
clean_lacks (TurnedAway Turns.Poller) is may = let e = eqb-true 9 0 is in absurd (omega arith)
clean_lacks (TurnedAway Turns.Shut) is may = let e = eqb-true 10 0 is in absurd (omega arith)

-- each end is of one kind
one_kind : (end : Finish) → total (λ (k : Finish). one_if (same_kind k end)) all_kinds ≡ 1
one_kind (Ended Ends.Clean) = refl
one_kind (Ended Ends.Cut) = refl
one_kind (Ended Ends.ReadFault) = refl
one_kind (Ended Ends.WriteFault) = refl
one_kind (Ended Ends.FileFault) = refl
one_kind (Ended Ends.NoMemory) = refl
one_kind TimedOut = refl
one_kind (TurnedAway Turns.Watches) = refl
one_kind (TurnedAway Turns.Crowded) = refl
one_kind (TurnedAway Turns.Poller) = refl
one_kind (TurnedAway Turns.Shut) = refl

-- one for an end of a connection's own, other than want of memory
abbrev pub own_end : Finish → ℕ
own_end end =
    one_if (same_kind (Ended Ends.Clean) end) + one_if (same_kind (Ended Ends.Cut) end)
    + one_if (same_kind (Ended Ends.ReadFault) end) + one_if (same_kind (Ended Ends.WriteFault) end)
    + one_if (same_kind (Ended Ends.FileFault) end)

pub own_le : (end : Finish) → own_end end ≤ 1
own_le (Ended Ends.Clean) = omega arith
own_le (Ended Ends.Cut) = omega arith
own_le (Ended Ends.ReadFault) = omega arith
own_le (Ended Ends.WriteFault) = omega arith
own_le (Ended Ends.FileFault) = omega arith
own_le (Ended Ends.NoMemory) = omega arith
own_le TimedOut = omega arith
own_le (TurnedAway Turns.Watches) = omega arith
own_le (TurnedAway Turns.Crowded) = omega arith
own_le (TurnedAway Turns.Poller) = omega arith
own_le (TurnedAway Turns.Shut) = omega arith

pub own_none : (end : Finish) → MayLackOne end → own_end end ≡ 0
own_none (Ended Ends.Clean) may = absurd may
own_none (Ended Ends.Cut) may = absurd may
own_none (Ended Ends.ReadFault) may = absurd may
own_none (Ended Ends.WriteFault) may = absurd may
own_none (Ended Ends.FileFault) may = absurd may
own_none (Ended Ends.NoMemory) may = refl
own_none TimedOut may = refl
own_none (TurnedAway Turns.Watches) may = refl
own_none (TurnedAway Turns.Crowded) may = refl
own_none (TurnedAway Turns.Poller) may = refl
own_none (TurnedAway Turns.Shut) may = refl

own_total : (ds : List FinishedTold) → total (λ (d : FinishedTold). own_end d.end) ds
    ≡ total (λ (d : FinishedTold). one_if (same_kind (Ended Ends.Clean) d.end)) ds
    + total (λ (d : FinishedTold). one_if (same_kind (Ended Ends.Cut) d.end)) ds
    + total (λ (d : FinishedTold). one_if (same_kind (Ended Ends.ReadFault) d.end)) ds
    + total (λ (d : FinishedTold). one_if (same_kind (Ended Ends.WriteFault) d.end)) ds
    + total (λ (d : FinishedTold). one_if (same_kind (Ended Ends.FileFault) d.end)) ds
own_total [] = refl
own_total (d ∷ ds) = let r = own_total ds in omega arith

capped_le : (n : ℕ) → capped n ≤ n
capped_le n = omega arith

total_both : {A : Type 0} (f g : A → ℕ) (xs : List A) → total (λ x. f x + g x) xs ≡ total f xs + total g xs
total_both f g [] = omega arith
total_both f g (x ∷ xs) = let r = total_both f g xs in omega arith

total_none : {A : Type 0} (xs : List A) → total (λ x. 0) xs ≡ 0
total_none [] = refl
total_none (x ∷ xs) = let r = total_none xs in omega arith

kinds_each : (ds : List FinishedTold)
    → total (λ (k : Finish). total (λ (d : FinishedTold). one_if (same_kind k d.end)) ds) all_kinds
    ≡ length ds
kinds_each [] = total_none all_kinds
kinds_each (d ∷ ds) =
    let r = kinds_each ds in
    let a = one_kind d.end in
    let b = total_both (λ (k : Finish). one_if (same_kind k d.end))
    (λ (k : Finish). total (λ (x : FinishedTold). one_if (same_kind k x.end)) ds) all_kinds in
    sums (total (λ (k : Finish). one_if (same_kind k d.end)) all_kinds)
    (total (λ (k : Finish). total (λ (x : FinishedTold). one_if (same_kind k x.end)) ds) all_kinds)
    (length ds) _ b a r
  where
    sums : (m n l t : ℕ) → t ≡ m + n → m ≡ 1 → n ≡ l → t ≡ suc l
    sums m n l t p q r = omega arith

one_of : (f : FinishedTold → ℕ) (d : FinishedTold) (ds : List FinishedTold) → total f (d ∷ ds) ≡ 0
    → (f d ≡ 0) × (total f ds ≡ 0)
one_of f d ds z = (omega arith, omega arith)

all_clean : (ds : List FinishedTold)
    → ((k : Finish) → same_kind k (Ended Ends.Clean) ≡ false
    → total (λ (d : FinishedTold). one_if (same_kind k d.end)) ds ≡ 0)
    → AllOf (λ (d : FinishedTold). MayLackOne d.end → ⊥) ds
all_clean [] none = tt
all_clean (d ∷ ds) none = (
  ⊎_elim (λ is. clean_lacks d.end is)
      (λ isnt. let z =
      (one_of (λ (x : FinishedTold). one_if (same_kind d.end x.end)) d ds (none d.end isnt)).0 in
      let s : one_if (same_kind d.end d.end) ≡ 1 =
      ap one_if (eq-eqb (kind_number d.end) (kind_number d.end) refl) in
      absurd (omega arith))
      (cases_Bool (same_kind d.end (Ended Ends.Clean))),
  all_clean ds (λ k isnt. (one_of (λ (x : FinishedTold). one_if (same_kind k x.end)) d ds (none k isnt)).1),
)

-- ---- all passes and books

-- a connection that was handed over
abbrev told_in : List Handed → List FinishedTold
told_in hs = map (λ (h : Handed). h.0) hs

-- what is known of all dispatchers: what each handed to its book, and that together they registered and
-- handed over no more than the passes' own entries let them
pub record AllFlows {A L : Type 0} (known : A → PassView L) (limit : ℕ) (xs : List A)
    (books : List BookTold) : Type 1 where
  pub handed : List Handed
  pub count : AllCount handed
  pub first : (these : Opening → Bool) → whole known (accepted these 0) xs + total (is_handed these 0) handed
      ≤ tally_weight known (accepts_of these) xs
  pub next : (these : Opening → Bool) (k : ℕ)
      → whole known (accepted these (suc k)) xs + total (is_handed these (suc k)) handed
      ≤ whole known (ended these k) xs
  pub links : tally_weight known turns_away xs ≤ weigh (λ x. all_out_in (known x).mgr) xs
      + whole known taken xs
  pub openings : (these : Opening → Bool)
      → tally_weight known (accepts_of these) xs ≤ whole known (opens_of these) xs
  pub many : length handed ≡ tally_weight known finishes_any xs
  pub most : ℕ
  pub numbers : (these : Opening → Bool) (m : ℕ) → most ≤ m
      → sum_below m (λ k. whole known (accepted these k) xs) ≡ whole known (registers these) xs
  pub waits : All IsUncapped books
      → total (λ (h : Handed). h.0.waits) handed ≡ total (λ b. b.sums.waits) books
  pub own : total own_ends books ≤ total (λ (h : Handed). own_end h.0.end) handed
  pub clean : All IsAllClean books → AllOf (λ (h : Handed). MayLackOne h.0.end → ⊥) handed
  pub kept : (P : FinishedTold → Type 0) → AllOf (λ (h : Handed). P h.0) handed
      → All (λ b. IfSome b.kept (λ ds. All P ds)) books
  pub lists : List (List FinishedTold)
  pub took : AreTaken known limit xs books lists
  pub each : (o : Opening)
      → total (λ (ds : List FinishedTold). times o (openings_in ds)) lists ≡ tally_weight known (finishes o) xs
  pub kinds : length handed < 2 ^ 64
      → total (λ (b : BookTold). total b.sums.ends all_kinds) books ≡ length handed

module _ {A L : Type 0} (known : A → PassView L) where
  abbrev served : A → BookTold → ServeTold
  served x b = told_of (known x).mgr (known x).tally (known x).times b

  kept_by : (P : FinishedTold → Type 0) (kept : Option (List FinishedTold)) (hs : List Handed)
      → IfSome kept (λ now. now ≡ told_in hs) → AllOf (λ (h : Handed). P h.0) hs
      → IfSome kept (λ ds. All P ds)
  kept_by P None hs is all = tt
  kept_by P (Some ds) hs is all = subst (All P) (sym is) (all_of_map (λ (h : Handed). h.0) P hs all)

  -- the counts of all kinds are as many as there are connections
  kinds_of : (b : BookTold) (ds : List FinishedTold) → IsBookOf ds b
      → ((k : Finish) → b.sums.ends k < 2 ^ 64 - 1) → (ks : List Finish)
      → total b.sums.ends ks
      ≡ total (λ (k : Finish). total (λ (d : FinishedTold). one_if (same_kind k d.end)) ds) ks
  kinds_of b ds of small [] = refl
  kinds_of b ds of small (k ∷ ks) =
      let r = kinds_of b ds of small ks in
      let u = uncapped (total (λ (d : FinishedTold). one_if (same_kind k d.end)) ds)
      (b.sums.ends k) (of.ends k) (small k) in
      omega arith

  -- the same where there are fewer connections than a number holds
  kinds_few : (b : BookTold) (ds : List FinishedTold) → IsBookOf ds b → length ds < 2 ^ 64
      → (ks : List Finish) → total b.sums.ends ks
      ≡ total (λ (k : Finish). total (λ (d : FinishedTold). one_if (same_kind k d.end)) ds) ks
  kinds_few b ds of few [] = refl
  kinds_few b ds of few (k ∷ ks) =
      let r = kinds_few b ds of few ks in
      let u = uncapped_few (total (λ (d : FinishedTold). one_if (same_kind k d.end)) ds)
      (b.sums.ends k) (length ds) (of.ends k) (ones_le (λ d. same_kind k d.end) ds) few in
      omega arith

  -- the ends of their own that a book counts
  own_by : (b : BookTold) (ds : List FinishedTold) → IsBookOf ds b
      → own_ends b ≤ total (λ (d : FinishedTold). own_end d.end) ds
  own_by b ds of =
      let e1 = of.ends (Ended Ends.Clean) in
      let e2 = of.ends (Ended Ends.Cut) in
      let e3 = of.ends (Ended Ends.ReadFault) in
      let e4 = of.ends (Ended Ends.WriteFault) in
      let e5 = of.ends (Ended Ends.FileFault) in
      let l1 = capped_le (total (λ (d : FinishedTold). one_if (same_kind (Ended Ends.Clean) d.end)) ds) in
      let l2 = capped_le (total (λ (d : FinishedTold). one_if (same_kind (Ended Ends.Cut) d.end)) ds) in
      let l3 = capped_le (total (λ (d : FinishedTold). one_if (same_kind (Ended Ends.ReadFault) d.end)) ds) in
      let l4 =
      capped_le (total (λ (d : FinishedTold). one_if (same_kind (Ended Ends.WriteFault) d.end)) ds) in
      let l5 = capped_le (total (λ (d : FinishedTold). one_if (same_kind (Ended Ends.FileFault) d.end)) ds) in
      let t = own_total ds in
      sums (b.sums.ends (Ended Ends.Clean)) (b.sums.ends (Ended Ends.Cut))
      (b.sums.ends (Ended Ends.ReadFault)) (b.sums.ends (Ended Ends.WriteFault))
      (b.sums.ends (Ended Ends.FileFault))
      (capped (total (λ (d : FinishedTold). one_if (same_kind (Ended Ends.Clean) d.end)) ds))
      (capped (total (λ (d : FinishedTold). one_if (same_kind (Ended Ends.Cut) d.end)) ds))
      (capped (total (λ (d : FinishedTold). one_if (same_kind (Ended Ends.ReadFault) d.end)) ds))
      (capped (total (λ (d : FinishedTold). one_if (same_kind (Ended Ends.WriteFault) d.end)) ds))
      (capped (total (λ (d : FinishedTold). one_if (same_kind (Ended Ends.FileFault) d.end)) ds))
      (total (λ (d : FinishedTold). one_if (same_kind (Ended Ends.Clean) d.end)) ds)
      (total (λ (d : FinishedTold). one_if (same_kind (Ended Ends.Cut) d.end)) ds)
      (total (λ (d : FinishedTold). one_if (same_kind (Ended Ends.ReadFault) d.end)) ds)
      (total (λ (d : FinishedTold). one_if (same_kind (Ended Ends.WriteFault) d.end)) ds)
      (total (λ (d : FinishedTold). one_if (same_kind (Ended Ends.FileFault) d.end)) ds)
      (total (λ (d : FinishedTold). own_end d.end) ds) e1 e2 e3 e4 e5 l1 l2 l3 l4 l5 t
    where
      sums : (a b c d e ca cb cc cd ce ta tb tc td te t : ℕ) → a ≡ ca → b ≡ cb → c ≡ cc → d ≡ cd
          → e ≡ ce → ca ≤ ta → cb ≤ tb → cc ≤ tc → cd ≤ td → ce ≤ te → t ≡ ta + tb + tc + td + te
          → a + b + c + d + e ≤ t
      sums a b c d e ca cb cc cd ce ta tb tc td te t p q r s u v w x y z total_is = omega arith

  took_all : (limit : ℕ) (x : A) (b : BookTold) → (s : PassFlows limit (served x b))
      → TookWhatCounted known limit x b (told_in s.handed)
  took_all limit x b s = record {
    journal = s.journal;
    deeds = s.told;
    book = s.book;
    each = s.finished;
    many = λ small.
        let u = kinds_of b (told_in s.handed) s.book small all_kinds in
        let v = kinds_each (told_in s.handed) in
        let w = ap length s.finished in
        let q = map_length (λ (d : FinishedTold). d.opening) (told_in s.handed) in
        let l = finished_length (entries_of (known x).tally) in omega arith;
  }

  clean_by : (b : BookTold) (hs : List Handed) → IsBookOf (told_in hs) b → IsAllClean b
      → AllOf (λ (h : Handed). MayLackOne h.0.end → ⊥) hs
  clean_by b hs of clean =
      back hs (all_clean (told_in hs)
      (λ k isnt. never (total (λ (d : FinishedTold). one_if (same_kind k d.end)) (told_in hs))
      (sym (clean k isnt) ∙ of.ends k)))
    where
      back : (hs : List Handed) → AllOf (λ (d : FinishedTold). MayLackOne d.end → ⊥) (told_in hs)
          → AllOf (λ (h : Handed). MayLackOne h.0.end → ⊥) hs
      back [] a = tt
      back (h ∷ hs) a = (a.0, back hs a.1)

  pub all_flows : (limit : ℕ) (xs : List A) (books : List BookTold) → AreExplainedBy known limit xs books
      → AllFlows known limit xs books
  all_flows limit [] [] explained = record {
    handed = [];
    count = tt;
    first = λ these. omega arith;
    next = λ these k. omega arith;
    links = omega arith;
    openings = λ these. omega arith;
    many = refl;
    most = 0;
    numbers = λ these m le. sum_none m;
    waits = λ small. refl;
    own = omega arith;
    clean = λ clean. tt;
    kept = λ P all. All-nil (λ (b : BookTold). IfSome b.kept (λ ds. All P ds));
    lists = [];
    took = tt;
    each = λ o. refl;
    kinds = λ few. refl;
  }
  all_flows limit [] (b ∷ books) explained = absurd explained
  all_flows limit (x ∷ xs) [] explained = absurd explained
  all_flows limit (x ∷ xs) (b ∷ books) explained =
      let s = pass_flows limit (served x b) explained.0 in
      let r = all_flows limit xs books explained.1 in record {
        handed = s.handed ++ r.handed;
        count = count_append s.handed r.handed s.count r.count;
        first =
            λ these.
            let u = s.first these in
            let v = r.first these in
            let w = total_append (is_handed these 0) s.handed r.handed in
            omega arith;
        next =
            λ these k.
            let u = s.next these k in
            let v = r.next these k in
            let w = total_append (is_handed these (suc k)) s.handed r.handed in
            omega arith;
        links =
            let u = s.links in
            let v = r.links in omega arith;
        openings = λ these.
            let u = s.openings these in
            let v = r.openings these in omega arith;
        many =
            let u = ap length s.finished in
            let v = finished_length (entries_of (known x).tally) in
            let w = map_length (λ (d : FinishedTold). d.opening) (told_in s.handed) in
            let q = map_length (λ (h : Handed). h.0) s.handed in
            let l = lengths s.handed r.handed in
            let m = r.many in omega arith;
        most = s.most + r.most;
        numbers = λ these m le.
            let u = s.numbers these m (omega arith) in
            let v = r.numbers these m (omega arith) in
            let w = sum_both (λ k. own_weight (accepted these k) (known x).mgr)
            (λ k. whole known (accepted these k) xs) m in
            omega arith;
        waits = λ small.
            let u = uncapped (total (λ (d : FinishedTold). d.waits) (told_in s.handed)) b.sums.waits
            s.book.waits (all_head IsUncapped b books small) in
            let v = r.waits (all_tail IsUncapped b books small) in
            let w = total_append (λ (h : Handed). h.0.waits) s.handed r.handed in
            let q = total_map (λ (d : FinishedTold). d.waits) (λ (h : Handed). h.0) s.handed in omega arith;
        own =
            let u = own_by b (told_in s.handed) s.book in
            let v = r.own in
            let w = total_append (λ (h : Handed). own_end h.0.end) s.handed r.handed in
            let q = total_map (λ (d : FinishedTold). own_end d.end) (λ (h : Handed). h.0) s.handed in
            omega arith;
        clean = λ clean. all_of_both (λ (h : Handed). MayLackOne h.0.end → ⊥) s.handed r.handed
            (clean_by b s.handed s.book (all_head IsAllClean b books clean))
            (r.clean (all_tail IsAllClean b books clean));
        kept = λ P all. All-cons (λ (c : BookTold). IfSome c.kept (λ ds. All P ds)) b books
            (kept_by P b.kept s.handed s.book.kept
            (all_of_left (λ (h : Handed). P h.0) s.handed r.handed all))
            (r.kept P (all_of_right (λ (h : Handed). P h.0) s.handed r.handed all));
        lists = told_in s.handed ∷ r.lists;
        took = (took_all limit x b s, r.took);
        each =
            λ o.
            let u = ap (times o) s.finished in
            let v = finished_times o (entries_of (known x).tally) in
            let w = r.each o in omega arith;
        kinds =
            λ few.
            let l = lengths s.handed r.handed in
            let q = map_length (λ (h : Handed). h.0) s.handed in
            let u = kinds_few b (told_in s.handed) s.book (omega arith) all_kinds in
            let v = kinds_each (told_in s.handed) in
            let w = r.kinds (omega arith) in omega arith;
      }
    where
      lengths : (xs ys : List Handed) → length (xs ++ ys) ≡ length xs + length ys
      lengths [] ys = omega arith
      lengths (x ∷ xs) ys = let r = lengths xs ys in omega arith
