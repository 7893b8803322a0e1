-- Sums over what level passes did.
use Rattle.std.proofs.Common.{◌≡◌, ℕ, List, [], ◌∷◌, map, reverse, All, refl, sym, ap, ◌∙◌, arith}
use Rattle.std.proofs.lemmas.List.{reverse-append}
use Rattle.reg_keys.specs.Tests.{total}
use Rattle.turn_cell.specs.declared.view.View.{View}
use Rattle.turn_cell.specs.Weights.{weigh}
use Rattle.turn_cell.specs.View.{own_entries}
use Rattle.turn_cell.specs.ListLaws.{weigh-append, weigh_same}
use Rattle.level.specs.Leveling.{IsLevel}
use Rattle.std.proofs.lemmas.List.Elements.{All-head}
use Rattle.level.specs.ListLaws.{weigh_map}
use Rattle.event_mgr.specs.Manager.{IsLawful}
use Rattle.event_mgr.specs.Level.{AtStripe, AtNumbers}
use Rattle.event_mgr.specs.Level as Mgr
use Rattle.fd_cache.specs.Represents.{past_of}
use Rattle.warp_tally.specs.declared.calls.TallyEntry.{TallyEntry}
use Rattle.warp_tally.specs.Tallies.{tally_past}
use Rattle.warp_passes.specs.Own.{entries_of}
use Rattle.warp_passes.specs.Passes.{PassView, IsLawfulPass}
use Rattle.warp_passes.specs.Cells.{AtMgr, AtQueue, AtCache, AtTally, CameLevel}
use Rattle.warp_passes.specs.Levels.{ArePassesLevel, PassesAddUp}

module _ {A : Type 0} where
  weigh_reverse : (f : A → ℕ) (xs : List A) → weigh f (reverse xs) ≡ weigh f xs
  weigh_reverse f [] = refl
  weigh_reverse f (x ∷ xs) =
      let r = weigh_reverse f xs in
      let a = weigh-append f (reverse xs) (x ∷ []) in
      let b = ap (weigh f) (reverse-append (x ∷ []) xs) in
      omega arith

module _ {A E : Type 0} (view : A → View E) where
  -- what was made with level passes weighs together what the history weighs that the first has seen
  sums_up : (f : ℕ × E → ℕ) (x : A) (xs : List A) → IsLevel (map view (x ∷ xs))
      → weigh (λ y. weigh f (own_entries (view y))) (x ∷ xs) ≡ weigh f (view x).seen
  sums_up f x xs l =
      sym (weigh_map view (λ v. weigh f (own_entries v)) (x ∷ xs))
      ∙ (l.sums f
      ∙ ap (weigh f) (sym (All-head (λ (v : View E). v.seen ≡ l.log) (view x) (map view xs) l.saw)))

  -- and so by weights of entries without their seats
  adds_up : (f : E → ℕ) (x : A) (xs : List A) → (l : IsLevel (map view (x ∷ xs)))
      → weigh (λ y. weigh f (entries_of (view y))) (x ∷ xs) ≡ weigh (λ e. f e.1) (view x).seen
  adds_up f x xs l =
      let g : ℕ × E → ℕ = λ e. f e.1 in
      weigh_same (λ y. weigh f (entries_of (view y))) (λ y. weigh g (own_entries (view y))) (x ∷ xs)
      (λ y. weigh_map (λ (e : ℕ × E). e.1) f (own_entries (view y)))
      ∙ sums_up g x xs l

-- the newest first, or the oldest first
past_weighs : {D : Type 0} (f : D → ℕ) (h : List (ℕ × D)) → weigh f (past_of h) ≡ weigh (λ e. f e.1) h
past_weighs f h = weigh_reverse f (map (λ e. e.1) h) ∙ weigh_map (λ e. e.1) f h

module _ {A L : Type 0} (known : A → PassView L) where
  pub rows_level : (xs ys : List A) → CameLevel known xs ys → ArePassesLevel known ys
  rows_level xs ys b = record {
    mgr = record {
      stripes = λ s low. (b (AtMgr (AtStripe s low))).level;
      numbers = (b (AtMgr AtNumbers)).level;
    };
    queue = (b AtQueue).level;
    cache = (b AtCache).level;
    tally = (b AtTally).level;
  }

  pub managers_lawful : (xs : List A) → All (λ y. IsLawfulPass (known y)) xs
      → All (λ y. IsLawful (known y).mgr) xs
  managers_lawful xs l k d h = (l k d h).mgr

  pub all_add_up : (x : A) (xs : List A) → All (λ y. IsLawfulPass (known y)) (x ∷ xs)
      → ArePassesLevel known (x ∷ xs)
      → Mgr.AddUp (λ y. (known y).mgr) x xs
      → ((f : TallyEntry → ℕ) (h : List (ℕ × TallyEntry)) → total f (tally_past h) ≡ weigh (λ e. f e.1) h)
      → PassesAddUp known x xs
  all_add_up x xs lawful level mgr past =
      let first = All-head (λ y. IsLawfulPass (known y)) x xs lawful in
      record {
        mgr = mgr;
        allowed = first.queue;
        moved = λ f. sums_up (λ y. (known y).queue) f x xs level.queue;
        legal = first.cache;
        cached =
            λ f. adds_up (λ y. (known y).cache) f x xs level.cache ∙ sym (past_weighs f (known x).cache.seen);
        right = first.tally;
        tallied = λ f. adds_up (λ y. (known y).tally) f x xs level.tally ∙ sym (past f (known x).tally.seen);
      }
