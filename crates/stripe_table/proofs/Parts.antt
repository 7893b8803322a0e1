-- The stripe as a part: what its calls add to what it stands for.
use Rattle.std.proofs.Common.{◌≡◌, ℕ, ◌+◌, ◌*◌, ◌<◌, List, [], ◌∷◌, ◌++◌, map, length, false, sym, refl, ap}
use Rattle.std.proofs.Common.{◌∙◌, subst, arith}
use Rattle.std.specs.Prelude.{Option, Some, None, is_some, slice_get}
use Rattle.std.specs.List.{list_any}
use Rattle.std.proofs.lemmas.Bool.{both_ways}
use Rattle.std.proofs.lemmas.List.{map-append}
use Rattle.std.proofs.lemmas.Option.{none-some}
use Rattle.reg_keys.specs.declared.entry.Entry.{Entry}
use Rattle.reg_keys.specs.Histories.{past_of}
use Rattle.reg_keys.specs.Replies.{IsLegal}
use Rattle.reg_keys.specs.Laws.{past_of-more}
use Rattle.stripe_table.specs.Facts.{facts_of}
use Rattle.stripe_table.specs.Represents.{FitsAt, Step, Represents}
use Rattle.stripe_table.specs.declared.descriptor.OpenDescriptor.{OpenDescriptor}
use Rattle.stripe_table.specs.declared.stripe.Stripe.{Stripe}
use Rattle.stripe_table.proofs.Lists.{any_at}

module _ {T : Type 0} (tag : T → List (List ℕ)) where
  stands_after : (past : List Entry) (e : Entry) (st st' : Stripe T) → Represents tag past st
      → Step tag past e st st' → Represents tag (e ∷ past) st'
  stands_after past e st st' s step = record {
    legal =
        subst (λ (x : ℕ × ℕ). IsLegal x.0 x.1 (e ∷ past)) (λ i. (sym step.name.0 i, sym step.name.1 i))
        (s.legal, step.right);
    fits = step.fits;
  }

  -- the stripe stands for one entry more
  pub stands_more : (st st' : Stripe T) (h : List (ℕ × Entry)) (seat : ℕ) (e : Entry)
      → Represents tag (past_of (map (λ (x : ℕ × Entry). x.1) h)) st
      → Step tag (past_of (map (λ (x : ℕ × Entry). x.1) h)) e st st'
      → Represents tag (past_of (map (λ (x : ℕ × Entry). x.1) (h ++ (seat, e) ∷ []))) st'
  stands_more st st' h seat e s step = subst (λ (past : List Entry). Represents tag past st')
      (sym (ap past_of (map-append (λ (x : ℕ × Entry). x.1) h ((seat, e) ∷ []))
      ∙ past_of-more (map (λ (x : ℕ × Entry). x.1) h) e))
      (stands_after (past_of (map (λ (x : ℕ × Entry). x.1) h)) e st st' s step)

  -- a stripe that was just made stands for nothing
  pub stands_new : (st : Stripe T) → st.stripe < 32 → st.count ≡ st.first → length st.descriptors.items ≡ 128
      → list_any is_some st.descriptors.items ≡ false → st.flags ≡ [] → Represents tag [] st
  stands_new st small count many shut flags = record {
    legal = tt;
    fits = record {
      small = small;
      count = sym count;
      table = record {
        many = many;
        each = fits_shut;
        unasked = ap (map _) flags;
      };
      ordered = record {
        waits_ascend = tt;
        waits_old = tt;
        flags_ascend = tt;
        flags_old = tt;
        within = λ fd o e. absurd (none-some o e);
        held = λ w i. absurd i;
        made = λ u i. absurd i;
        jobs = λ w i e. absurd i;
        waiters = λ w i e. absurd i;
        few = omega arith;
      };
      index =
          λ i d at. absurd (both_ways (list_any is_some st.descriptors.items) shut
          (any_at is_some st.descriptors.items i (Some d) at refl));
    };
  }
    where
      fits_shut : (i : ℕ) (d : Option (OpenDescriptor T)) → slice_get st.descriptors.items i ≡ Some d
          → FitsAt tag (facts_of st.stripe st.first []) (32 * i + st.stripe) d
      fits_shut i None at = record { owner = refl; waits = refl; outs = refl }
      fits_shut i (Some d) at =
          absurd (both_ways (list_any is_some st.descriptors.items) shut
          (any_at is_some st.descriptors.items i (Some d) at refl))
