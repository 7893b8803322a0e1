-- Two passes of one history are joined: which of them had seen more, and whose entries are whose.
use Rattle.std.proofs.Common.{◌≡◌, ℕ, ◌≤◌, ⊎_elim, List, [], ◌++◌, length, sym, refl, ap, ◌∙◌, subst, arith}
use Rattle.std.proofs.Common.{nat_lt}
use Rattle.std.proofs.lemmas.Bool.{cond-false}
use Rattle.std.proofs.lemmas.Bool.Decides.{nat_tests}
use Rattle.std.proofs.lemmas.List.{length-append}
use mathlib.Core.List.{IsPrefix}
use Rattle.turn_cell.specs.declared.view.JoinPending.TheVariants.{Joined}
use Rattle.turn_cell.specs.History.{Log, entries_in, Ahead, longer}
use Rattle.turn_cell.specs.View.{JoinFits}
use Rattle.turn_cell.specs.ListLaws.{prefix_refl}
use Rattle.turn_cell.specs.Laws.{entries_in_ahead, longer_right}
use Rattle.turn_cell.proofs.Entries.{entries_in_more, foreign_entries}

module _ {E : Type 0} where
  pub longer_left : (xs ys : Log E) → length ys ≤ length xs → longer xs ys ≡ xs
  longer_left xs ys le = cond-false (nat_lt (length xs) (length ys)) _ _ (grind (arith, nat_tests))

  -- what either had seen begins what the two have seen, and of either there is exactly what it had
  pub record JoinKeeps (cs ds : List (ℕ × ℕ)) (xs ys zs : Log E) : Type 0 where
    pub begins : IsPrefix xs zs
    pub begins_other : IsPrefix ys zs
    pub kept : entries_in cs zs ≡ entries_in cs xs
    pub kept_other : entries_in ds zs ≡ entries_in ds ys

  pub join_keeps : (cs ds : List (ℕ × ℕ)) (xs ys : Log E) → JoinFits (Joined xs cs ys ds)
      → JoinKeeps cs ds xs ys (longer xs ys)
  join_keeps cs ds xs ys fits = ⊎_elim
      (λ (a : Ahead ds ys xs). subst (JoinKeeps cs ds xs ys)
      (sym (longer_left xs ys (omega (arith, length-append ys a.0, ap length a.1))))
      record {
        begins = prefix_refl xs;
        begins_other = (a.0, sym a.1);
        kept = refl;
        kept_other = ap (entries_in ds) a.1 ∙ entries_in_ahead ds ys a.0 a.2;
      })
      (λ (a : Ahead cs xs ys). subst (JoinKeeps cs ds xs ys) (sym (longer_right xs ys (a.0, sym a.1)))
      record {
        begins = (a.0, sym a.1);
        begins_other = prefix_refl ys;
        kept = ap (entries_in cs) a.1 ∙ entries_in_ahead cs xs a.0 a.2;
        kept_other = refl;
      })
      fits

  -- a pass that made no calls adds no entries
  pub join_same : (cs ds : List (ℕ × ℕ)) (xs ys zs : Log E) → JoinKeeps cs ds xs ys zs
      → entries_in ds ys ≡ [] → entries_in (cs ++ ds) zs ≡ entries_in cs xs
  join_same cs ds xs ys zs k none_in =
      entries_in_more cs ds zs (foreign_entries ds zs (k.kept_other ∙ none_in)) ∙ k.kept
