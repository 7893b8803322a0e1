-- Beats are kept, whatever a dispatcher does.
use Rattle.std.proofs.Common.{◌≡◌, ℕ, ◌+◌, List, [], ◌∷◌, ◌++◌, map, All, sym, refl, ap, ◌∙◌, subst, arith}
use Rattle.std.proofs.Common.{append_assoc, length, true, false, Bool}
use Rattle.std.specs.Prelude.{◌==◌, Option, Some, None, IfSome}
use Rattle.std.proofs.lemmas.Bool.{eqb-false, eqb-true}
use Rattle.std.proofs.lemmas.List.Elements.{All-cons, All-head, All-nil, All-tail}
use Rattle.outside.specs.declared.files.Files.{Ghosts}
use Rattle.outside.specs.Moments.{ClockTold, Gains, Gives}
use Rattle.reg_keys.specs.Tests.{one_if}
use Rattle.turn_cell.specs.Weights.{weigh}
use Rattle.turn_cell.specs.ListLaws.{weigh-append}
use Rattle.dispatcher.specs.Stripes.{Each}
use Rattle.timeout_mgr.specs.Calls.{view_of as seen_of}
use Rattle.timeout_mgr.specs.Passes.{calls_of}
use Rattle.timeout_mgr.specs.declared.timeouts.TimePass.{TimePass}
use Rattle.timeout_mgr.specs.declared.view.TimeCall.{TimeCall}
use Rattle.timeout_mgr.specs.declared.view.TimeCall.TheVariants.{Sweep}
use Rattle.warp_runner.specs.Asking.{HasAsked, HasNotSwept, asked_none}
use Rattle.warp_runner.specs.Sweeps.{HasSweptOnce, is_sweep}
use Rattle.warp_core.specs.declared.beat.Beats.{Beats}
use Rattle.warp_core.specs.declared.row.Row.{Row}
use Rattle.warp_core.specs.Making.{KeepsWhere}
use Rattle.warp_core.specs.Rows.{beat_of, last_of, seconds_of}
use Rattle.warp_core.specs.SweepTimes.{AreBeats, BeatTold, BeatsOf, FirstKeeps, IsDueAt, IsFirstAlone}
use Rattle.warp_core.specs.SweepTimes.{KeepsBeats, KeepsOn, StandIn, SweptWhenDue}

-- ---- numbers that stand in a list

stand_more : (ms l p : List ℕ) → StandIn ms l → StandIn ms (l ++ p)
stand_more [] l p s = tt
stand_more (m ∷ ms) l p s = (
  s.0,
  s.1 ++ p,
  ap (λ (x : List ℕ). x ++ p) s.2 ∙ append_assoc s.0 (m ∷ s.1) p,
  stand_more ms s.1 p s.3,
)

stand_next : (ms l : List ℕ) (m : ℕ) → StandIn ms l → StandIn (ms ++ m ∷ []) (l ++ m ∷ [])
stand_next [] l m s = (l, [], refl, tt)
stand_next (x ∷ xs) l m s = (
  s.0,
  s.1 ++ m ∷ [],
  ap (λ (y : List ℕ). y ++ m ∷ []) s.2 ∙ append_assoc s.0 (x ∷ s.1) (m ∷ []),
  stand_next xs s.1 m s.3,
)

given_first : (told : Option (List ℕ)) → IfSome told (λ given. StandIn [] given)
given_first None = tt
given_first (Some given) = tt

given_more : (ms : List ℕ) (a b : Option (List ℕ)) (p : List ℕ) → Gains a b p
    → IfSome a (λ given. StandIn ms given) → IfSome b (λ given. StandIn ms given)
given_more ms a None p gains s = tt
given_more ms None (Some n) p gains s = absurd gains
given_more ms (Some o) (Some n) p gains s = subst (StandIn ms) (sym gains) (stand_more ms o p s)

given_next : (ms : List ℕ) (m : ℕ) (a b : Option (List ℕ)) → Gains a b (m ∷ [])
    → IfSome a (λ given. StandIn ms given) → IfSome b (λ given. StandIn (ms ++ m ∷ []) given)
given_next ms m a None gains s = tt
given_next ms m None (Some n) gains s = absurd gains
given_next ms m (Some o) (Some n) gains s =
    subst (StandIn (ms ++ m ∷ [])) (sym gains) (stand_next ms o m s)

-- ---- one beat more

beats_next : (seconds : ℕ) (ms : List ℕ) (was : Option ℕ) (k : ℕ) (mid : Option ℕ) (now : ℕ) (due : Bool)
    (last : Option ℕ) → AreBeats seconds ms was k mid → IsDueAt seconds mid now due last
    → AreBeats seconds (ms ++ now ∷ []) was (k + one_if due) last
beats_next seconds [] was k mid now due last p is =
    let none = p.0 in (
      due,
      last,
      0,
      subst (λ (o : Option ℕ). IsDueAt seconds o now due last) p.1 is,
      omega arith,
      (refl, refl),
    )
beats_next seconds (m ∷ ms) was k mid now due last p is =
    let swept = p.4 in (
      p.0,
      p.1,
      p.2 + one_if due,
      p.3,
      omega arith,
      beats_next seconds ms p.1 p.2 mid now due last p.5 is,
    )

-- a beat, by what the clock gave and by what the calls are then
pub beat_kept : (seconds : ℕ) (last next : Option ℕ) (clock after : ClockTold) (calls more : List TimeCall)
    (now : ℕ) (due : Bool) → Gives (now ∷ []) clock after → IsDueAt seconds last now due next
    → weigh is_sweep more ≡ weigh is_sweep calls + one_if due → SweptWhenDue seconds last clock calls
    → SweptWhenDue seconds next after more
beat_kept seconds last next clock after calls more now due gives is swept kept = record {
  moments = kept.moments ++ now ∷ [];
  given = given_next kept.moments now clock.given after.given gives.gains kept.given;
  swept =
      subst (λ n. AreBeats seconds (kept.moments ++ now ∷ []) None n next) (sym swept)
      (beats_next seconds kept.moments None (weigh is_sweep calls) last now due next kept.swept is);
}

-- one sweep more
pub swept_more : (old new : List TimeCall) → HasSweptOnce old new
    → weigh is_sweep new ≡ weigh is_sweep old + one_if true
swept_more old new once =
    let a = ap (weigh is_sweep) once.2 in
    let b = weigh-append is_sweep old (Sweep once.0 ∷ once.1) in
    let c = once.3 in
    omega arith

-- ---- what is no beat

turned_of : (of : Option ℕ) (last : Option ℕ) (clock after : ClockTold) (calls more : List TimeCall)
    → HasAsked clock after → HasNotSwept calls more → BeatsOf of last clock calls → BeatsOf of last after more
turned_of None last clock after calls more asked none kept = none ∙ kept
turned_of (Some seconds) last clock after calls more asked none kept = record {
  moments = kept.moments;
  given = given_more kept.moments clock.given after.given asked.0 asked.1.gains kept.given;
  swept = subst (λ n. AreBeats seconds kept.moments None n last) (sym none) kept.swept;
}

-- the clock may have been asked, and nobody swept
pub on_turned : (v : BeatTold) (after : ClockTold) (more : List TimeCall) → HasAsked v.clock after
    → HasNotSwept v.calls more
    → KeepsOn v (record { seconds = v.seconds; last = v.last; clock = after; calls = more })
on_turned v after more asked none = record {
  seconds = refl;
  keeps = turned_of v.seconds v.last v.clock after v.calls more asked none;
}

pub on_same : (v : BeatTold) → KeepsOn v v
on_same v = record { seconds = refl; keeps = λ kept. kept }

pub on_as : (v w : BeatTold) → w ≡ v → KeepsOn v w
on_as v w same = subst (λ x. KeepsOn v x) (sym same) (on_same v)

pub on_then : (u v w : BeatTold) → KeepsOn u v → KeepsOn v w → KeepsOn u w
on_then u v w a b = record { seconds = b.seconds ∙ a.seconds; keeps = λ kept. b.keeps (a.keeps kept) }

-- ---- several dispatchers

pub each_on_as : (vs ws : List BeatTold) → ws ≡ vs → Each KeepsOn vs ws
each_on_as vs ws same = subst (λ xs. Each KeepsOn vs xs) (sym same) (alike vs)
  where
    alike : (vs : List BeatTold) → Each KeepsOn vs vs
    alike [] = tt
    alike (v ∷ vs) = (on_same v, alike vs)

pub each_on_then : (us vs ws : List BeatTold) → Each KeepsOn us vs → Each KeepsOn vs ws → Each KeepsOn us ws
each_on_then [] [] [] a b = tt
each_on_then [] [] (w ∷ ws) a b = absurd b
each_on_then [] (v ∷ vs) ws a b = absurd a
each_on_then (u ∷ us) [] ws a b = absurd a
each_on_then (u ∷ us) (v ∷ vs) [] a b = absurd b
each_on_then (u ∷ us) (v ∷ vs) (w ∷ ws) a b = (on_then u v w a.0 b.0, each_on_then us vs ws a.1 b.1)

all_on : (vs ws : List BeatTold) → Each KeepsOn vs ws → All KeepsBeats vs → All KeepsBeats ws
all_on [] [] on kept = All-nil KeepsBeats
all_on [] (w ∷ ws) on kept = absurd on
all_on (v ∷ vs) [] on kept = absurd on
all_on (v ∷ vs) (w ∷ ws) on kept = All-cons KeepsBeats w ws (on.0.keeps (All-head KeepsBeats v vs kept))
    (all_on vs ws on.1 (All-tail KeepsBeats v vs kept))

nones_on : (vs ws : List BeatTold) → Each KeepsOn vs ws → All (λ (x : Option ℕ). x ≡ None) (map (λ b. b.seconds) vs)
    → All (λ (x : Option ℕ). x ≡ None) (map (λ b. b.seconds) ws)
nones_on [] [] on none = none
nones_on [] (w ∷ ws) on none = absurd on
nones_on (v ∷ vs) [] on none = absurd on
nones_on (v ∷ vs) (w ∷ ws) on none =
    All-cons (λ (x : Option ℕ). x ≡ None) w.seconds (map (λ b. b.seconds) ws)
    (on.0.seconds ∙ All-head (λ (x : Option ℕ). x ≡ None) v.seconds (map (λ b. b.seconds) vs) none)
    (nones_on vs ws on.1 (All-tail (λ (x : Option ℕ). x ≡ None) v.seconds (map (λ b. b.seconds) vs) none))

alone_on : (seconds : ℕ) (vs ws : List BeatTold) → Each KeepsOn vs ws
    → IsFirstAlone seconds (map (λ b. b.seconds) vs) → IsFirstAlone seconds (map (λ b. b.seconds) ws)
alone_on seconds [] [] on first = tt
alone_on seconds [] (w ∷ ws) on first = absurd on
alone_on seconds (v ∷ vs) [] on first = absurd on
alone_on seconds (v ∷ vs) (w ∷ ws) on first = (on.0.seconds ∙ first.0, nones_on vs ws on.1 first.1)

pub first_on : (seconds : ℕ) (vs ws : List BeatTold) → Each KeepsOn vs ws → FirstKeeps seconds vs
    → FirstKeeps seconds ws
first_on seconds vs ws on first =
    record { first = alone_on seconds vs ws on first.first; kept = all_on vs ws on first.kept }

-- ---- dispatchers that made no turn

-- one that made no call on the timeouts, and has no last sweep
pub kept_first : (v : BeatTold) → v.last ≡ None → v.calls ≡ [] → KeepsBeats v
kept_first v unasked uncalled = of v.seconds
  where
    of : (seconds : Option ℕ) → BeatsOf seconds v.last v.clock v.calls
    of None = ap (weigh is_sweep) uncalled
    of (Some seconds) = record {
      moments = [];
      given = given_first v.clock.given;
      swept = (ap (weigh is_sweep) uncalled, unasked);
    }

-- one more is put behind them
pub alone_next : (seconds : ℕ) (xs : List (Option ℕ)) (x : Option ℕ) (first : Bool) (n : ℕ)
    → first ≡ (n == 0) → n ≡ length xs → KeepsWhere first seconds x
    → IsFirstAlone seconds xs → IsFirstAlone seconds (xs ++ x ∷ [])
alone_next seconds [] x true n is many keeps first = (keeps, All-nil (λ (y : Option ℕ). y ≡ None))
alone_next seconds [] x false n is many keeps first =
    let some = eqb-false n 0 (sym is) in absurd (some many)
alone_next seconds (y ∷ ys) x true n is many keeps first =
    let none = eqb-true n 0 (sym is) in absurd (omega arith)
alone_next seconds (y ∷ ys) x false n is many keeps first = (first.0, behind ys first.1)
  where
    behind : (zs : List (Option ℕ)) → All (λ (z : Option ℕ). z ≡ None) zs
        → All (λ (z : Option ℕ). z ≡ None) (zs ++ x ∷ [])
    behind [] none = All-cons (λ (z : Option ℕ). z ≡ None) x [] keeps none
    behind (z ∷ zs) none = All-cons (λ (z : Option ℕ). z ≡ None) z (zs ++ x ∷ [])
        (All-head (λ (z : Option ℕ). z ≡ None) z zs none)
        (behind zs (All-tail (λ (z : Option ℕ). z ≡ None) z zs none))

-- ---- rows of dispatchers

module _ {P F C B G L I X : Type 0} {H : Ghosts F X} (clock : C → ClockTold) where
  -- the clock may have been asked, and nobody swept
  pub on_turns : (x y : Row P F C B G L I X H) → y.beats ≡ x.beats
      → HasAsked (clock x.runner.clock) (clock y.runner.clock)
      → HasNotSwept (calls_of (seen_of x.runner.timed)) (calls_of (seen_of y.runner.timed))
      → KeepsOn (beat_of clock x) (beat_of clock y)
  on_turns x y same asked none = record {
    seconds = ap seconds_of same;
    keeps =
        λ kept.
        subst (λ (b : Option (Beats F X H)). BeatsOf (seconds_of b) (last_of b) (clock y.runner.clock)
        (calls_of (seen_of y.runner.timed))) (sym same)
        (turned_of (seconds_of x.beats) (last_of x.beats) (clock x.runner.clock) (clock y.runner.clock)
        (calls_of (seen_of x.runner.timed)) (calls_of (seen_of y.runner.timed)) asked none kept);
  }

  -- neither clock nor timeouts were called
  pub on_aside : (x y : Row P F C B G L I X H) → y.beats ≡ x.beats → y.runner.clock ≡ x.runner.clock
      → y.runner.timed ≡ x.runner.timed → KeepsOn (beat_of clock x) (beat_of clock y)
  on_aside x y same still aside = on_turns x y same
      (subst (λ (c : C). HasAsked (clock x.runner.clock) (clock c)) (sym still)
      (asked_none (clock x.runner.clock)))
      (ap (λ (t : TimePass). weigh is_sweep (calls_of (seen_of t))) aside)

  -- a beat of the one that keeps them
  pub on_beat : (x y : Row P F C B G L I X H) (was left : Beats F X H) → x.beats ≡ Some was
      → y.beats ≡ Some left → left.seconds ≡ was.seconds → (now : ℕ) (due : Bool)
      → Gives (now ∷ []) (clock x.runner.clock) (clock y.runner.clock)
      → IsDueAt was.seconds was.last now due left.last
      → weigh is_sweep (calls_of (seen_of y.runner.timed))
      ≡ weigh is_sweep (calls_of (seen_of x.runner.timed)) + one_if due
      → KeepsOn (beat_of clock x) (beat_of clock y)
  on_beat x y was left before behind same now due gives is swept = record {
    seconds = ap seconds_of behind ∙ (ap Some same ∙ sym (ap seconds_of before));
    keeps =
        λ kept.
        subst (λ (b : Option (Beats F X H)). BeatsOf (seconds_of b) (last_of b) (clock y.runner.clock)
        (calls_of (seen_of y.runner.timed))) (sym behind)
        (subst (λ n. SweptWhenDue n left.last (clock y.runner.clock) (calls_of (seen_of y.runner.timed)))
        (sym same)
        (beat_kept was.seconds was.last left.last (clock x.runner.clock) (clock y.runner.clock)
        (calls_of (seen_of x.runner.timed)) (calls_of (seen_of y.runner.timed)) now due gives is swept
        (subst (λ (b : Option (Beats F X H)). BeatsOf (seconds_of b) (last_of b) (clock x.runner.clock)
        (calls_of (seen_of x.runner.timed))) before kept)));
  }
