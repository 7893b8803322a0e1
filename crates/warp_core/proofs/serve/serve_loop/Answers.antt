use Rattle.std.proofs.Common.{rules, ◌≡◌, [], ◌++◌, length, map, take, drop, sym, ap}
use Rattle.std.proofs.Common.{subst, arith}
use Rattle.std.specs.Prelude.{All, get_or}
use Rattle.std.specs.Arc.{arc_value}
use Rattle.std.proofs.lemmas.List.{length-map}
use Rattle.level.specs.ListLaws.{whole_slice}
use Rattle.warp_passes.specs.Cells.{SeatsAreOnce}
use Rattle.warp_passes.specs.Levels.{AreNewPasses}
use Rattle.warp_passes.specs.Passes.{lawful_of, pass_view}
use Rattle.warp_core.specs.Making.{HasParts}
use Rattle.warp_core.specs.Rows.{Serves, beat_of, known_by, passes_of}
use Rattle.warp_core.specs.SweepTimes.{FirstKeeps}
use Rattle.warp_core.proofs.Apart.{caused_apart, explained_apart, served_count, served_ends, served_level}
use Rattle.warp_core.proofs.Apart.{served_events, served_own}
use Rattle.warp_core.proofs.BeatsApart.{kept_apart}
use Rattle.warp_core.proofs.EventSums.{all_placed}
use Rattle.warp_core.proofs.KeepingBeats.{first_on}
use Rattle.warp_core.proofs.Made.{known_rows, new_hands}
use Rattle.warp_core.proofs.serve.serve_loop.Goals as goal

pub rows_of-requires-clause-new : goal.rows_of-requires-clause-new
rows_of-requires-clause-new g c =
    subst (λ s. AreNewPasses s c.in_ok-shared.passes.items)
    (sym c.in_ok-shared-2.ensures.ok) c.in_ok-shared.ensures.new

pub rows_of-requires-clause-books : goal.rows_of-requires-clause-books
rows_of-requires-clause-books g c = c.requires.books

pub listen_and_serve-end-requires-clause-some : goal.listen_and_serve-end-requires-clause-some
listen_and_serve-end-requires-clause-some g c =
    let rows = c.in_ok-rows.rows.items in
    let slice = ap length c.as_mut_slice.ensures.value in
    let same = ap length c.in_ok-rows.ensures.passes in
    let mapped = length-map rows passes_of in
    let ok = c.args.kits.ok.0 in
    let len = c.len-count.ensures in
    let count = c.in_ok-shared.ensures.count in
    let some = c.requires.kits.0 in
    omega arith

pub listen_and_serve-end-requires-clause-serve : goal.listen_and_serve-end-requires-clause-serve
listen_and_serve-end-requires-clause-serve g c = λ κs lives.
    subst (λ s. All (λ row. Serves g.B.Book.told g.P.Poller.meaning.faults s row) c.as_mut_slice.result.now)
    (sym c.deref.ensures)
    (subst
    (All (λ row. Serves g.B.Book.told g.P.Poller.meaning.faults (arc_value c.in_ok-shared-2.shared) row))
    (sym c.as_mut_slice.ensures.value) c.in_ok-rows.ensures.serve)

pub listen_and_serve-end-requires-clause-limit : goal.listen_and_serve-end-requires-clause-limit
listen_and_serve-end-requires-clause-limit g c =
    λ κs lives. subst (All (λ row. row.runner.limit ≡ c.args.limit))
    (sym c.as_mut_slice.ensures.value) c.in_ok-rows.ensures.limit

pub listen_and_serve-end-requires-clause-new : goal.listen_and_serve-end-requires-clause-new
listen_and_serve-end-requires-clause-new g c = λ κs lives.
    (let rows = c.in_ok-rows.rows.items in
    let passes = c.in_ok-shared.passes.items in
    let new = c.in_ok-shared.ensures.new in
    let same = c.in_ok-rows.ensures.passes in
    let slice = sym c.as_mut_slice.ensures.value in (
      subst (SeatsAreOnce known_by) slice
          (c.moved_passes_hold_the_seats.ensures pass_view known_by passes rows
          (known_rows c.in_ok-shared.shared rows passes same) new.seats),
      subst (All (λ row. row.disp.hand ≡ [])) slice (new_hands c.in_ok-shared.shared rows passes same new),
    ))

pub listen_and_serve-end-requires-clause-listener : goal.listen_and_serve-end-requires-clause-listener
listen_and_serve-end-requires-clause-listener g c = λ κs lives. c.requires.listener

pub fill-passes-requires-clause-empty : goal.fill-passes-requires-clause-empty
fill-passes-requires-clause-empty g c = c.in_ok-parts.ensures.empty

pub fill-passes-requires-clause-room : goal.fill-passes-requires-clause-room
fill-passes-requires-clause-room g c =
    let rows = c.in_ok-rows.rows.items in
    let slice = ap length c.as_mut_slice.ensures.value in
    let same = ap length c.in_ok-rows.ensures.passes in
    let mapped = length-map rows passes_of in
    let ok = c.args.kits.ok.0 in
    let len = c.len-count.ensures in
    let count = c.in_ok-shared.ensures.count in
    let ws = c.listen_and_serve-end.new.rows in
    let stays : length ws ≡ length c.as_mut_slice.result.now = search rules in
    let many : c.in_ok-rows.rows.len ≡ length ws = search rules in
    let whole = ap length (whole_slice c.in_ok-rows.rows.len ws (drop (length ws) rows) many) in
    let first = c.in_ok-parts.ensures.room.0 in
    let other = c.in_ok-parts.ensures.room.1 in
    (omega arith, omega arith)

pub returns-clause-own : goal.returns-clause-own
returns-clause-own g c =
    let told = g.B.Book.told in
    let faults = g.P.Poller.meaning.faults in
    let s = arc_value c.in_ok-shared-2.shared in
    let rows = c.in_ok-rows.rows.items in
    let ws = c.listen_and_serve-end.new.rows in
    let many : c.in_ok-rows.rows.len ≡ length ws = search rules in
    let whole : take c.in_ok-rows.rows.len (ws ++ drop (length ws) rows) ≡ ws =
    whole_slice c.in_ok-rows.rows.len ws (drop (length ws) rows) many in
    let parts = subst (λ rs. HasParts rs c.fill-passes.result.passes.items c.fill-passes.result.kits.items)
    whole c.fill-passes.ensures in
    let serve = subst (λ z. All (λ row. Serves told faults z row) ws) c.deref.ensures
    c.listen_and_serve-end.ensures.serve.0 in
    served_own told faults s c.args.limit ws c.fill-passes.result.passes.items
    c.fill-passes.result.kits.items parts serve

pub returns-clause-level : goal.returns-clause-level
returns-clause-level g c =
    let told = g.B.Book.told in
    let faults = g.P.Poller.meaning.faults in
    let s = arc_value c.in_ok-shared-2.shared in
    let rows = c.in_ok-rows.rows.items in
    let ws = c.listen_and_serve-end.new.rows in
    let many : c.in_ok-rows.rows.len ≡ length ws = search rules in
    let whole : take c.in_ok-rows.rows.len (ws ++ drop (length ws) rows) ≡ ws =
    whole_slice c.in_ok-rows.rows.len ws (drop (length ws) rows) many in
    let parts = subst (λ rs. HasParts rs c.fill-passes.result.passes.items c.fill-passes.result.kits.items)
    whole c.fill-passes.ensures in
    let serve = subst (λ z. All (λ row. Serves told faults z row) ws) c.deref.ensures
    c.listen_and_serve-end.ensures.serve.0 in
    served_level told faults s c.args.limit ws c.fill-passes.result.passes.items
    c.fill-passes.result.kits.items parts c.listen_and_serve-end.ensures.level

pub returns-clause-events : goal.returns-clause-events
returns-clause-events g c =
    let told = g.B.Book.told in
    let faults = g.P.Poller.meaning.faults in
    let s = arc_value c.in_ok-shared-2.shared in
    let rows = c.in_ok-rows.rows.items in
    let ws = c.listen_and_serve-end.new.rows in
    let many : c.in_ok-rows.rows.len ≡ length ws = search rules in
    let whole : take c.in_ok-rows.rows.len (ws ++ drop (length ws) rows) ≡ ws =
    whole_slice c.in_ok-rows.rows.len ws (drop (length ws) rows) many in
    let passes = c.fill-passes.result.passes.items in
    let kits = c.fill-passes.result.kits.items in
    let parts = subst (λ rs. HasParts rs passes kits) whole c.fill-passes.ensures in
    let serve = subst (λ z. All (λ row. Serves told faults z row) ws) c.deref.ensures
    c.listen_and_serve-end.ensures.serve.0 in
    let own = served_own told faults s c.args.limit ws passes kits parts serve in
    all_placed pass_view (c.level_passes_add_up.ensures pass_view) c.legal_stripes_happen_once.ensures
    c.histories_are_first_in_first_out.ensures passes
    (λ k d lt. lawful_of s (get_or passes k d) (own k d lt))
    (served_level told faults s c.args.limit ws passes kits parts c.listen_and_serve-end.ensures.level)
    (served_events told faults s c.args.limit ws passes kits parts serve)

pub returns-clause-explained : goal.returns-clause-explained
returns-clause-explained g c =
    let told = g.B.Book.told in
    let faults = g.P.Poller.meaning.faults in
    let s = arc_value c.in_ok-shared-2.shared in
    let rows = c.in_ok-rows.rows.items in
    let ws = c.listen_and_serve-end.new.rows in
    let many : c.in_ok-rows.rows.len ≡ length ws = search rules in
    let whole : take c.in_ok-rows.rows.len (ws ++ drop (length ws) rows) ≡ ws =
    whole_slice c.in_ok-rows.rows.len ws (drop (length ws) rows) many in
    let parts = subst (λ rs. HasParts rs c.fill-passes.result.passes.items c.fill-passes.result.kits.items)
    whole c.fill-passes.ensures in
    let serve = subst (λ z. All (λ row. Serves told faults z row) ws) c.deref.ensures
    c.listen_and_serve-end.ensures.serve.0 in
    explained_apart told faults s c.args.limit ws c.fill-passes.result.passes.items
    c.fill-passes.result.kits.items parts serve c.listen_and_serve-end.ensures.serve.1

pub returns-clause-ends : goal.returns-clause-ends
returns-clause-ends g c =
    let told = g.B.Book.told in
    let faults = g.P.Poller.meaning.faults in
    let s = arc_value c.in_ok-shared-2.shared in
    let rows = c.in_ok-rows.rows.items in
    let ws = c.listen_and_serve-end.new.rows in
    let many : c.in_ok-rows.rows.len ≡ length ws = search rules in
    let whole : take c.in_ok-rows.rows.len (ws ++ drop (length ws) rows) ≡ ws =
    whole_slice c.in_ok-rows.rows.len ws (drop (length ws) rows) many in
    let parts = subst (λ rs. HasParts rs c.fill-passes.result.passes.items c.fill-passes.result.kits.items)
    whole c.fill-passes.ensures in
    let serve = subst (λ z. All (λ row. Serves told faults z row) ws) c.deref.ensures
    c.listen_and_serve-end.ensures.serve.0 in
    served_ends told faults s c.args.limit c.listen_and_serve-end.result ws c.fill-passes.result.passes.items
    c.fill-passes.result.kits.items parts c.listen_and_serve-end.ensures.ends

pub returns-clause-cause : goal.returns-clause-cause
returns-clause-cause g c =
    let told = g.B.Book.told in
    let faults = g.P.Poller.meaning.faults in
    let s = arc_value c.in_ok-shared-2.shared in
    let rows = c.in_ok-rows.rows.items in
    let ws = c.listen_and_serve-end.new.rows in
    let many : c.in_ok-rows.rows.len ≡ length ws = search rules in
    let whole : take c.in_ok-rows.rows.len (ws ++ drop (length ws) rows) ≡ ws =
    whole_slice c.in_ok-rows.rows.len ws (drop (length ws) rows) many in
    let parts = subst (λ rs. HasParts rs c.fill-passes.result.passes.items c.fill-passes.result.kits.items)
    whole c.fill-passes.ensures in
    let serve = subst (λ z. All (λ row. Serves told faults z row) ws) c.deref.ensures
    c.listen_and_serve-end.ensures.serve.0 in
    caused_apart told faults s c.args.limit c.listen_and_serve-end.result ws c.fill-passes.result.passes.items
    c.fill-passes.result.kits.items parts c.listen_and_serve-end.ensures.cause

pub returns-clause-count : goal.returns-clause-count
returns-clause-count g c =
    let told = g.B.Book.told in
    let faults = g.P.Poller.meaning.faults in
    let s = arc_value c.in_ok-shared-2.shared in
    let rows = c.in_ok-rows.rows.items in
    let ws = c.listen_and_serve-end.new.rows in
    let many : c.in_ok-rows.rows.len ≡ length ws = search rules in
    let whole : take c.in_ok-rows.rows.len (ws ++ drop (length ws) rows) ≡ ws =
    whole_slice c.in_ok-rows.rows.len ws (drop (length ws) rows) many in
    let parts = subst (λ rs. HasParts rs c.fill-passes.result.passes.items c.fill-passes.result.kits.items)
    whole c.fill-passes.ensures in
    let serve = subst (λ z. All (λ row. Serves told faults z row) ws) c.deref.ensures
    c.listen_and_serve-end.ensures.serve.0 in
    let slice = ap length c.as_mut_slice.ensures.value in
    let same = ap length c.in_ok-rows.ensures.passes in
    let mapped = length-map rows passes_of in
    let ok = c.args.kits.ok.0 in
    let len = c.len-count.ensures in
    let count = c.in_ok-shared.ensures.count in
    let stays : length ws ≡ length c.as_mut_slice.result.now = search rules in
    let counted = served_count told faults s c.args.limit ws c.fill-passes.result.passes.items
    c.fill-passes.result.kits.items parts in
    omega arith

pub returns-clause-beats : goal.returns-clause-beats
returns-clause-beats g c =
    let clock = g.C.Clock.told in
    let rows = c.in_ok-rows.rows.items in
    let ws = c.listen_and_serve-end.new.rows in
    let many : c.in_ok-rows.rows.len ≡ length ws = search rules in
    let whole : take c.in_ok-rows.rows.len (ws ++ drop (length ws) rows) ≡ ws =
    whole_slice c.in_ok-rows.rows.len ws (drop (length ws) rows) many in
    let passes = c.fill-passes.result.passes.items in
    let kits = c.fill-passes.result.kits.items in
    let parts = subst (λ rs. HasParts rs passes kits) whole c.fill-passes.ensures in
    kept_apart clock c.args.seconds ws passes kits parts
    (first_on c.args.seconds (map (beat_of clock) c.as_mut_slice.result.now) (map (beat_of clock) ws)
    c.listen_and_serve-end.ensures.beats
    (subst (λ rs. FirstKeeps c.args.seconds (map (beat_of clock) rs)) (sym c.as_mut_slice.ensures.value)
    c.in_ok-rows.ensures.beats))
