-- What a beat did, put together.
use Rattle.std.proofs.Common.{◌≡◌, List, [], ◌∷◌, ◌++◌, map, sym, ap, ◌∙◌, append-nil, append_assoc}
use Rattle.std.proofs.lemmas.List.{map-append}
use Rattle.turn_cell.specs.declared.view.View.{View}
use Rattle.turn_cell.specs.View.{own_entries}
use Rattle.fd_cache.specs.declared.deed.CacheDeed.{CacheDeed}
use Rattle.fd_cache.specs.declared.deed.CacheDeed.TheVariants.{Reaped}
use Rattle.dispatcher.specs.Stripes.{HasGrown}
use Rattle.warp_passes.specs.Own.{entries_of}
use Rattle.warp_core.specs.Beats.{HasReaped, HasReapedTwice}

module _ {L : Type 0} (u v w : View (CacheDeed L)) where
  -- one reap after another
  pub reaped_twice : HasReaped u v → HasReaped v w → HasReapedTwice u w
  reaped_twice a b = (
    [],
    a.0,
    b.0,
    b.1 ∙ (ap (λ (l : List (CacheDeed L)). l ++ Reaped b.0 ∷ []) a.1
        ∙ (append_assoc (entries_of u) (Reaped a.0 ∷ []) (Reaped b.0 ∷ []) ∙ ap
        (λ (l : List (CacheDeed L)). l ++ Reaped a.0 ∷ Reaped b.0 ∷ []) (sym (append-nil (entries_of u))))),
  )

  -- two reaps after other deeds
  pub reaped_behind : HasGrown u v → HasReapedTwice v w → HasReapedTwice u w
  reaped_behind grown r =
      let front : entries_of v ≡ entries_of u ++ map (λ e. e.1) grown.own.0 =
      ap (map (λ e. e.1)) (sym grown.own.1) ∙ map-append (λ e. e.1) (own_entries u) grown.own.0 in (
        map (λ e. e.1) grown.own.0 ++ r.0,
        r.1,
        r.2,
        r.3 ∙ ap (λ (l : List (CacheDeed L)). l ++ Reaped r.1 ∷ Reaped r.2 ∷ [])
            (ap (λ (l : List (CacheDeed L)). l ++ r.0) front
            ∙ append_assoc (entries_of u) (map (λ e. e.1) grown.own.0) r.0),
      )
