-- Inner: laws that crates above cite: all passes come to have seen one history, of which each entry is one
-- pass's own, and a pass that is split off one and joined into another changes nobody's entries.
use Rattle.std.proofs.Common.{◌≡◌, ◌≢◌, ℕ, zero, suc, ◌+◌, ⊎_elim, List, ◌∷◌, map, set, sym, refl, ap, ◌∙◌}
use Rattle.std.proofs.Common.{subst, arith, Some, ◌*◌, ◌<◌, ◌≤◌, ◌⊎◌, inl, inr, [], length, All}
use Rattle.std.specs.Prelude.{slice_get, nat_lt}
use Rattle.std.proofs.lemmas.Option.{same_Some, slice_get_within, get_or_from_slice_get}
use Rattle.std.proofs.Math.Bool.{or-false}
use Rattle.std.proofs.lemmas.List.Elements.{All-cons, All-set, All-tail, All-head}
use mathlib.Core.List.{IsPrefix}
use Rattle.turn_cell.specs.declared.view.View.{View}
use Rattle.turn_cell.specs.Classes.{count_in, within}
use Rattle.turn_cell.specs.History.{Log, longer, entries_in}
use Rattle.turn_cell.specs.View.{own_entries, right_of, joined_of}
use Rattle.turn_cell.specs.Calls.{IsSplit, IsJoined}
use Rattle.turn_cell.specs.ListLaws.{same_or, weigh_set, prefix_refl, prefix_trans, get_else, get_here}
use Rattle.turn_cell.specs.ListLaws.{weigh_same, weigh_sum, weigh_scaled, weigh_none}
use Rattle.level.specs.Leveling.{seen_by, tries_of, KeepsOwn, Grows, classes_of, HoldsEachOnce, BroughtLevel}
use Rattle.level.specs.Gathering.{Shares, Gathered, Spread, AreGathered, AreSpread, HaveTold}
use Rattle.level.specs.Meanings.{PassMeaning, views, AllAreOf, KeepOwn, HaveShared, HoldAllSeats}
use Rattle.level.specs.Meanings.{AreBroughtLevel}
use Rattle.level.specs.ListLaws.{set_again, get_map, All-from_get, weigh_map}
use Rattle.std.proofs.lemmas.List.{map-set, length-map}
use Rattle.std.specs.List.{Contains}
use Rattle.std.proofs.lemmas.Bool.{cond_both}
use Rattle.turn_cell.specs.Weights.{weigh, one_if}
use Rattle.turn_cell.specs.ClassLaws.{count_within}
use Rattle.turn_cell.specs.Laws.{weigh_entries, longer_right}

-- ---- a pass is split off one and joined into another. It is said of any larger passes, by the function
-- `view` from each to what it knows of the cell

module _ {E : Type 0} where
  -- passes that don't change keep their own
  pub keeps_refl : (vs : List (View E)) → KeepsOwn vs vs
  keeps_refl vs =
      record { own = refl; tries = refl; counts = λ n. refl; grows = λ k x at. (x, at, prefix_refl x) }

  -- and so do passes that keep it twice
  pub keeps_trans : (us vs ws : List (View E)) → KeepsOwn us vs → KeepsOwn vs ws → KeepsOwn us ws
  keeps_trans us vs ws a b = record {
    own = b.own ∙ a.own;
    tries = b.tries ∙ a.tries;
    counts = λ n. b.counts n ∙ a.counts n;
    grows =
        λ k x at. (let y =
        a.grows k x at in
        let z = b.grows k y.0 y.1 in
        (z.0, z.1, prefix_trans x y.0 z.0 y.2 z.2));
  }

  -- the pass at i was split, and what was split off was joined into the pass at j
  module _ (vs : List (View E)) (i j : ℕ) (v w v' o w' : View E) (ne : i ≢ j) (at_i : slice_get vs i ≡ Some v)
      (at_j : slice_get (set vs i v') j ≡ Some w) (cut : IsSplit v v' o) (put : IsJoined w o w') where
    was_j : slice_get vs j ≡ Some w
    was_j = sym (get_else vs i j v' (λ e. ne (sym e))) ∙ at_j

    -- a function of a view that neither the split nor the join changes
    stays : {A : Type 0} (f : View E → A) → f v' ≡ f v → f w' ≡ f w
        → map f (set (set vs i v') j w') ≡ map f vs
    stays f first second =
        map-set f (set vs i v') j w'
        ∙ (ap (λ x. set (map f (set vs i v')) j x) second
        ∙ (ap (λ l. set l j (f w)) (map-set f vs i v'
        ∙ (ap (λ x. set (map f vs) i x) first ∙ set_again (map f vs) i (f v) (get_map f vs i v at_i)))
        ∙ set_again (map f vs) j (f w) (get_map f vs j w was_j)))

    tries_stay : tries_of w' ≡ tries_of w
    tries_stay = let is : w' ≡ joined_of w (right_of v) = put.both ∙ ap (joined_of w) cut.right in
        let less : w.tries + 0 ≡ w.tries = omega arith in
        ap tries_of is ∙ (λ k. (w.name, less k, w.found, or-false w.met_spent k))

    -- the other comes to see what the first has seen
    pub shared_seen : Shares i j (map seen_by vs) (map seen_by (set (set vs i v') j w'))
    shared_seen =
        let os : o.seen ≡ v.seen = ap seen_by cut.right in
        let ws : w'.seen ≡ longer w.seen v.seen = ap seen_by put.both ∙ ap (longer w.seen) os in (
          v.seen,
          w.seen,
          get_map seen_by vs i v at_i,
          get_map seen_by vs j w was_j,
          map-set seen_by (set vs i v') j w'
              ∙ (ap (λ x. set (map seen_by (set vs i v')) j x) ws ∙ ap (λ l. set l j (longer w.seen v.seen))
              (map-set seen_by vs i v' ∙ (ap (λ x. set (map seen_by vs) i x) (ap seen_by cut.left)
              ∙ set_again (map seen_by vs) i v.seen (get_map seen_by vs i v at_i)))),
          subst (λ (x : Log E × Log E). IsPrefix x.0 x.1) (λ k. (os k, ws k)) put.begins_other,
          subst (λ (x : Log E). IsPrefix w.seen x) ws put.begins,
        )

    shared_grows : Grows (map seen_by vs) (map seen_by (set (set vs i v') j w'))
    shared_grows k x at = let s = shared_seen in ⊎_elim (λ (e : k ≡ j). (
      longer s.1 s.0,
      ap (λ (l : List (Log E)). slice_get l k) s.4
          ∙ (ap (slice_get (set (map seen_by vs) j (longer s.1 s.0))) e
          ∙ get_here (map seen_by vs) j (longer s.1 s.0) s.1 s.3),
      subst (λ (l : Log E). IsPrefix l (longer s.1 s.0))
          (same_Some s.1 x (sym s.3 ∙ (ap (slice_get (map seen_by vs)) (sym e) ∙ at))) s.6,
    ))
        (λ (n : k ≢ j). (
          x,
          ap (λ (l : List (Log E)). slice_get l k) s.4
              ∙ (get_else (map seen_by vs) j k (longer s.1 s.0) n ∙ at),
          prefix_refl x,
        )) (same_or k j)

    -- and each has its own entries as before
    pub shared_keeps : KeepsOwn vs (set (set vs i v') j w')
    shared_keeps = record {
      own = stays own_entries cut.own (put.same cut.none);
      tries = stays tries_of (ap tries_of cut.left) tries_stay;
      counts = λ n. (let a = weigh_set (λ (x : View E). count_in n x.classes) (set vs i v') j w' w at_j in
          let b = weigh_set (λ (x : View E). count_in n x.classes) vs i v' v at_i in
          let h = cut.counts n in
          let p = put.counts n in omega arith);
      grows = shared_grows;
    }

-- The same of larger passes
module _ {A E : Type 0} (view : A → View E) (ps : List A) (i j : ℕ) (v w v' w' : A) (o : View E)
    (ne : i ≢ j) (at_i : slice_get ps i ≡ Some v) (at_j : slice_get (set ps i v') j ≡ Some w)
    (cut : IsSplit (view v) (view v') o) (put : IsJoined (view w) o (view w')) where
  views_are : map view (set (set ps i v') j w') ≡ set (set (map view ps) i (view v')) j (view w')
  views_are = map-set view (set ps i v') j w' ∙ ap (λ l. set l j (view w')) (map-set view ps i v')

  at_view : slice_get (set (map view ps) i (view v')) j ≡ Some (view w)
  at_view =
      ap (λ (l : List (View E)). slice_get l j) (sym (map-set view ps i v'))
      ∙ get_map view (set ps i v') j w at_j

  -- each has its own entries as before
  pub rows_keep : KeepsOwn (map view ps) (map view (set (set ps i v') j w'))
  rows_keep =
      subst (λ (l : List (View E)). KeepsOwn (map view ps) l) (sym views_are)
      (shared_keeps (map view ps) i j (view v) (view w) (view v') o (view w') ne
      (get_map view ps i v at_i) at_view cut put)

  -- the other comes to see what the first has seen
  pub rows_share : Shares i j (map seen_by (map view ps)) (map seen_by (map view (set (set ps i v') j w')))
  rows_share =
      subst (λ (l : List (View E)). Shares i j (map seen_by (map view ps)) (map seen_by l)) (sym views_are)
      (shared_seen (map view ps) i j (view v) (view w) (view v') o (view w') ne
      (get_map view ps i v at_i) at_view cut put)

-- ---- one pass tells another, of each cell

module _ {P O : Type 0} (m : PassMeaning P O) where
  -- of each cell: passes that don't change keep their own
  pub keep_refl : (ps : List P) → KeepOwn m ps ps
  keep_refl ps k = keeps_refl _

  -- and so do passes that keep it twice
  pub keep_trans : (ps qs rs : List P) → KeepOwn m ps qs → KeepOwn m qs rs → KeepOwn m ps rs
  keep_trans ps qs rs a b k = keeps_trans _ _ _ (a k) (b k)

zero_not_suc : (i : ℕ) → zero ≡ suc i → ⊥
zero_not_suc i e = omega arith

-- the first pass f, and the pass p at a place among the others
module _ {P O : Type 0} (m : PassMeaning P O) (f f' : P) (ps : List P) (i : ℕ) (p p' : P)
    (at : slice_get ps i ≡ Some p) where
  -- p told f
  module _ (told : HaveShared m p f p' f') where
    -- each has its own entries as before
    pub gather_keeps : KeepOwn m (f ∷ ps) (f' ∷ set ps i p')
    gather_keeps k =
        let h = told k in
        rows_keep (m.view k) (f ∷ ps) (suc i) zero p f p' f' h.between
        (λ e. zero_not_suc i (sym e)) at refl h.split h.joined

    -- f comes to see what p has seen
    pub gather_shares : (k : m.cell)
        → Shares (suc i) zero (map seen_by (views m k (f ∷ ps))) (map seen_by (views m k (f' ∷ set ps i p')))
    gather_shares k =
        let h = told k in
        rows_share (m.view k) (f ∷ ps) (suc i) zero p f p' f' h.between
        (λ e. zero_not_suc i (sym e)) at refl h.split h.joined

  -- f told p
  module _ (told : HaveShared m f p f' p') where
    -- each has its own entries as before
    pub spread_keeps : KeepOwn m (f ∷ ps) (f' ∷ set ps i p')
    spread_keeps k =
        let h = told k in
        rows_keep (m.view k) (f ∷ ps) zero (suc i) f p f' p' h.between
        (zero_not_suc i) refl at h.split h.joined

    -- p comes to see what f has seen
    pub spread_shares : (k : m.cell)
        → Shares zero (suc i) (map seen_by (views m k (f ∷ ps))) (map seen_by (views m k (f' ∷ set ps i p')))
    spread_shares k =
        let h = told k in
        rows_share (m.view k) (f ∷ ps) zero (suc i) f p f' p' h.between
        (zero_not_suc i) refl at h.split h.joined

-- ---- the loops over the others

module _ {P O : Type 0} (m : PassMeaning P O) (o : O) (f f' : P) (ps : List P) (i : ℕ)
    (p p' : P) (at : slice_get ps i ≡ Some p) where
  -- the first and one of the others were replaced by passes of the same cells
  pub own_stay_own : m.is_of o f' → m.is_of o p' → AllAreOf m o (f ∷ ps) → AllAreOf m o (f' ∷ set ps i p')
  own_stay_own first other own =
      All-cons (m.is_of o) f' (set ps i p') first
      (All-set (m.is_of o) ps i p' other (All-tail (m.is_of o) f ps own))

-- ---- all passes see one history

module _ {E : Type 0} where
  -- ---- the first comes to see what the others have

  -- at the start the first pass has gathered from itself alone
  pub gathered_start : (ls : List (Log E)) (h : Log E) → slice_get ls 0 ≡ Some h → Gathered ls 1 ls
  gathered_start ls h at = record {
    log = h;
    first = at;
    below =
        λ k x less is. (let z : k ≡ 0 =
        omega arith in subst (λ (y : Log E). IsPrefix y h)
        (same_Some h x (sym at ∙ (ap (slice_get ls) (sym z) ∙ is))) (prefix_refl h));
    from = (0, at);
    others = λ k some. refl;
  }

  -- with one pass more the first has gathered from one more
  pub gathers_one_more : (olds : List (Log E)) (i : ℕ) (ls ms : List (Log E)) → 0 < i
      → Gathered olds i ls → Shares i 0 ls ms → Gathered olds (i + 1) ms
  gathers_one_more olds i ls ms some g s =
      let u = s.0 in
      let w = s.1 in
      let h = longer w u in
      let first : w ≡ g.log = same_Some w g.log (sym s.3 ∙ g.first) in
      let here : slice_get ms 0 ≡ Some h =
      ap (λ (l : List (Log E)). slice_get l 0) s.4 ∙ get_here ls 0 h w s.3 in
      let elsewhere : (k : ℕ) → k ≢ 0 → slice_get ms k ≡ slice_get ls k =
      λ k n. ap (λ (l : List (Log E)). slice_get l k) s.4 ∙ get_else ls 0 k h n in
      record {
        log = h;
        first = here;
        below = λ k x less at. ⊎_elim
            (λ (z : k ≡ 0). subst (λ (y : Log E). IsPrefix y h)
            (same_Some h x (sym here ∙ (ap (slice_get ms) (sym z) ∙ at))) (prefix_refl h))
            (λ (z : k ≢ 0). let was : slice_get ls k ≡ Some x = sym (elsewhere k z) ∙ at in ⊎_elim
            (λ (y : k ≡ i). subst (λ (l : Log E). IsPrefix l h)
            (same_Some u x (sym s.2 ∙ (ap (slice_get ls) (sym y) ∙ was))) s.5)
            (λ (y : k ≢ i).
            prefix_trans x w h (subst (IsPrefix x) (sym first) (g.below k x (omega arith) was)) s.6)
            (same_or k i))
            (same_or k 0);
        from =
            cond_both (nat_lt (length w) (length u)) u w
            (λ (l : Log E). (k : ℕ) × (slice_get olds k ≡ Some l))
            (λ _. (i, sym (g.others i some) ∙ s.2))
            (λ _. subst (λ (l : Log E). (k : ℕ) × (slice_get olds k ≡ Some l)) (sym first) g.from);
        others = λ k more. elsewhere k (λ z. omega arith) ∙ g.others k more;
      }

  -- ---- the others come to see what the first has

  -- what the first has gathered is told to itself
  pub spread_start : (olds : List (Log E)) (n : ℕ) (ls : List (Log E)) → length ls ≡ n
      → Gathered olds n ls → Spread olds 1 ls
  spread_start olds n ls len g = record {
    log = g.log;
    first = g.first;
    below = λ k x is. g.below k x (let l = slice_get_within ls k x is in omega arith) is;
    same =
        λ k x less is. (let z : k ≡ 0 =
        omega arith in same_Some x g.log (sym is ∙ (ap (slice_get ls) z ∙ g.first)));
    from = g.from;
  }

  -- with one pass more one more is told
  pub tells_one_more : (olds : List (Log E)) (i : ℕ) (ls ms : List (Log E)) → 0 < i → Spread olds i ls
      → Shares 0 i ls ms → Spread olds (i + 1) ms
  tells_one_more olds i ls ms some g s =
      let u = s.0 in
      let w = s.1 in
      let first : u ≡ g.log = same_Some u g.log (sym s.2 ∙ g.first) in
      let whole : longer w u ≡ u = longer_right w u (subst (IsPrefix w) (sym first) (g.below i w s.3)) in
      let at : (k : ℕ) (x : Log E) → slice_get ms k ≡ Some x
      → ((k ≡ i) × (x ≡ u)) ⊎ ((k ≢ i) × (slice_get ls k ≡ Some x)) = λ k x is. ⊎_elim
      (λ (y : k ≡ i). inl (
        y,
        sym (same_Some (longer w u) x
            (sym (ap (λ (l : List (Log E)). slice_get l i) s.4 ∙ get_here ls i (longer w u) w s.3)
            ∙ (ap (slice_get ms) (sym y) ∙ is)))
            ∙ whole,
      ))
      (λ (y : k ≢ i). inr
      (y, sym (get_else ls i k (longer w u) y) ∙ (ap (λ (l : List (Log E)). slice_get l k) (sym s.4) ∙ is)))
      (same_or k i) in record {
        log = u;
        first =
            ap (λ (l : List (Log E)). slice_get l 0) s.4
            ∙ (get_else ls i 0 (longer w u) (λ e. omega arith) ∙ s.2);
        below = λ k x is. ⊎_elim
            (λ (y : (k ≡ i) × (x ≡ u)). subst (λ (l : Log E). IsPrefix l u) (sym y.1) (prefix_refl u))
            (λ (y : (k ≢ i) × (slice_get ls k ≡ Some x)). subst (IsPrefix x) (sym first) (g.below k x y.1))
            (at k x is);
        same = λ k x less is. ⊎_elim
            (λ (y : (k ≡ i) × (x ≡ u)). y.1)
            (λ (y : (k ≢ i) × (slice_get ls k ≡ Some x)). let n =
            y.0 in g.same k x (omega arith) y.1 ∙ sym first)
            (at k x is);
        from = subst (λ (l : Log E). (k : ℕ) × (slice_get olds k ≡ Some l)) (sym first) g.from;
      }

  -- ---- sums over all passes

  weigh_within : (f : View E → ℕ) (vs : List (View E)) → weigh f vs ≤ 1 → (g : View E → ℕ)
      → ((v : View E) → f v ≤ 1 → g v ≡ f v) → weigh g vs ≡ weigh f vs
  weigh_within f [] le g each = refl
  weigh_within f (v ∷ vs) le g each =
      let a = each v (omega arith) in
      let r = weigh_within f vs (omega arith) g each in
      omega arith

  -- passes that have each seat once have of any history, all together, each entry once
  shared_out : (vs : List (View E)) → HoldsEachOnce vs → (f : ℕ × E → ℕ) (log : Log E)
      → weigh (λ v. weigh f (entries_in v.classes log)) vs ≡ weigh f log
  shared_out vs once f [] = weigh_none vs
  shared_out vs once f (e ∷ es) =
      let a = weigh_same (λ (v : View E). weigh f (entries_in v.classes (e ∷ es)))
      (λ v. one_if (within v.classes e.0) * f e + weigh f (entries_in v.classes es)) vs
      (λ v. weigh_entries v.classes f e es) in
      let b = weigh_sum (λ (v : View E). one_if (within v.classes e.0) * f e)
      (λ v. weigh f (entries_in v.classes es)) vs in
      let c = weigh_scaled (λ (v : View E). one_if (within v.classes e.0)) (f e) vs in
      let o = once e.0 in
      let d : weigh (λ (v : View E). one_if (within v.classes e.0)) vs
      ≡ 1 = weigh_within (λ (v : View E). count_in e.0 v.classes) vs (omega arith)
      (λ v. one_if (within v.classes e.0)) (λ v. count_within v.classes e.0) ∙ o in
      let r = shared_out vs once f es in
      let m : weigh (λ (v : View E). one_if (within v.classes e.0)) vs * f e ≡ f e =
      ap (λ (k : ℕ). k * f e) d ∙ omega arith in
      omega arith

  same_log : (f : ℕ × E → ℕ) (log : Log E) (vs : List (View E)) → All (λ v. v.seen ≡ log) vs
      → weigh (λ v. weigh f (own_entries v)) vs ≡ weigh (λ v. weigh f (entries_in v.classes log)) vs
  same_log f log [] saw = refl
  same_log f log (v ∷ vs) saw =
      let e : weigh f (own_entries v) ≡ weigh f (entries_in v.classes log) = ap (λ (l : Log E).
      weigh f (entries_in v.classes l)) (All-head (λ (x : View E). x.seen ≡ log) v vs saw) in
      let r = same_log f log vs (All-tail (λ (x : View E). x.seen ≡ log) v vs saw) in
      omega arith

  -- passes whose classes stay share all seats as before
  pub once_by : (vs ws : List (View E)) → map classes_of ws ≡ map classes_of vs
      → HoldsEachOnce vs → HoldsEachOnce ws
  once_by vs ws same once n =
      let count : List (ℕ × ℕ) → ℕ = λ cs. count_in n cs in
      sym (weigh_map classes_of count ws) ∙ (ap (weigh count) same ∙ (weigh_map classes_of count vs ∙ once n))

  -- an item that stands at a place is one of the list
  contains_at : (ls : List (Log E)) (x : Log E) (k : ℕ) → slice_get ls k ≡ Some x → Contains ls x
  contains_at ls x k is = (k, slice_get_within ls k x is, get_or_from_slice_get ls k x x is)

  -- passes that each have been told have seen one history, and its entries are shared out
  pub told_are_level : (vs ws : List (View E)) (n : ℕ) → length ws ≡ n → HoldsEachOnce ws
      → Spread (map seen_by vs) n (map seen_by ws) → BroughtLevel vs ws
  told_are_level vs ws n len once s =
      let saw : All (λ v. v.seen ≡ s.log) ws = All-from_get (λ (v : View E). v.seen ≡ s.log) ws (λ k v is.
      (let l = slice_get_within ws k v is in s.same k v.seen (omega arith) (get_map seen_by ws k v is))) in
      record {
        level = record {
          log = s.log;
          saw = saw;
          sums = λ f. same_log f s.log ws saw ∙ shared_out ws once f s.log;
        };
        from = contains_at (map seen_by vs) s.log s.from.0 s.from.1;
      }

-- ---- the same of each cell

module _ {P O : Type 0} (m : PassMeaning P O) where
  -- of each cell: at the start the first has gathered from itself alone
  pub all_gathered_start : (f : P) (ps : List P) → AreGathered m (f ∷ ps) 1 (f ∷ ps)
  all_gathered_start f ps k = gathered_start (map seen_by (views m k (f ∷ ps))) (seen_by (m.view k f)) refl

  -- once all is gathered, it is told to the first
  pub all_told_start : (ps : List P) → HaveTold m ps 1 ps
  all_told_start ps olds gathered k =
      spread_start (map seen_by (views m k olds)) (length ps) (map seen_by (views m k ps))
      (length-map (views m k ps) seen_by ∙ length-map ps (m.view k)) (gathered k)

  -- once all are told, all are level
  pub all_level : (ps qs : List P) → HoldAllSeats m ps → KeepOwn m ps qs → AreSpread m ps (length qs) qs
      → AreBroughtLevel m ps qs
  all_level ps qs seats keeps told k =
      told_are_level (views m k ps) (views m k qs) (length qs) (length-map qs (m.view k))
      (λ n. (keeps k).counts n ∙ seats k n) (told k)

  -- no pass is no pass of anything
  pub none_level : (ps : List P) → length ps ≡ 0 → HoldAllSeats m ps → AreBroughtLevel m ps ps
  none_level [] none seats k = absurd (let e = seats k 0 in omega arith)
  none_level (p ∷ ps) none seats k = absurd (omega arith)
