-- The steps of a memory net are lawful steps of the device world.
use Rattle.std.proofs.Common.{◌≡◌, ℕ, ◌+◌, ◌-◌, ◌≤◌, ◌&&◌, ◌||◌, cond, Bool, true, false, List, [], ◌∷◌, refl}
use Rattle.std.proofs.Common.{ap, ◌∙◌, arith}
use Rattle.std.specs.List.{list_any}
use Rattle.reg_keys.specs.ListLaws.{same_self}
use Rattle.reg_keys.specs.declared.opening.Opening.{Opening}
use Rattle.reg_keys.specs.declared.registration.Dir.{Dir}
use Rattle.reg_keys.specs.declared.registration.Dir.TheVariants.{Read, Write}
use Rattle.reg_keys.specs.Tests.{one_if, same, same_dir}
use Rattle.reg_keys.specs.World.{World, world_at}
use Rattle.poller.specs.NetSteps.{RaisesAreLawful, WaitIsLawful, WasTold, steps_of_raise}

same_dir_self : (d : Dir) → same_dir d d ≡ true
same_dir_self Read = refl
same_dir_self Write = refl

-- a table that is changed at one opening and direction, read at another: b says whether
-- the openings are the same
abbrev pick : {A : Type 0} → Bool → Dir → Dir → (A → A) → A → A
pick b d e g n = cond (b && same_dir d e) (g n) n

-- the edges after a raise are those before it
edges_of : (b : Bool) (e : Dir) (n : ℕ) → pick b Write e (λ k. k - 1)
    (pick b Read e (λ k. k - 1) (pick b Write e (λ k. k + 1) (pick b Read e (λ k. k + 1) n))) ≡ n
edges_of true Read n = omega arith
edges_of true Write n = omega arith
edges_of false Read n = refl
edges_of false Write n = refl

-- there is one hand more for the opening, to read and to write
hands_of : (b : Bool) (e : Dir) (n : ℕ)
    → pick b Write e (λ k. k + 1) (pick b Read e (λ k. k + 1) n) ≡ n + one_if b
hands_of true Read n = refl
hands_of true Write n = refl
hands_of false Read n = omega arith
hands_of false Write n = omega arith

-- the opening is ready
truth_of : (b : Bool) (e : Dir) (t : Bool)
    → pick b Write e (λ _. true) (pick b Read e (λ _. true) t) ≡ (t || b)
truth_of true Read true = refl
truth_of true Read false = refl
truth_of true Write true = refl
truth_of true Write false = refl
truth_of false Read true = refl
truth_of false Read false = refl
truth_of false Write true = refl
truth_of false Write false = refl

or_false : (a : Bool) → a ≡ (a || false)
or_false true = refl
or_false false = refl

or_assoc : (a b c : Bool) → ((a || b) || c) ≡ (a || (b || c))
or_assoc true b c = refl
or_assoc false b c = refl

-- an edge is there for each of the two polls
first_edge : (b : Bool) (n : ℕ) → b ≡ true
    → 1 ≤ pick b Write Read (λ k. k + 1) (pick b Read Read (λ k. k + 1) n)
first_edge true n is = omega arith
first_edge false n is = absurd (cc)

second_edge : (b : Bool) (n : ℕ) → b ≡ true
    → 1 ≤ pick b Read Write (λ k. k - 1) (pick b Write Write (λ k. k + 1) (pick b Read Write (λ k. k + 1) n))
second_edge true n is = omega arith
second_edge false n is = absurd (cc)

pub raises_lawful : (s c : ℕ) (w : World) (raised : List Opening) → RaisesAreLawful s c w raised
raises_lawful s c w [] = record {
  lawful = tt;
  edges = λ o d. refl;
  hands = λ o d. omega arith;
  truth = λ o d. or_false (w.truth o d);
  past = refl;
}
raises_lawful s c w (o ∷ os) =
    let w1 : World = world_at s c w (steps_of_raise o) in
    let r = raises_lawful s c w1 os in record {
      lawful = (
        tt,
        (
          tt,
          (
            (omega arith, first_edge (same o o) (w.edges o Read) (same_self o)),
            ((omega arith, second_edge (same o o) (w.edges o Write) (same_self o)), r.lawful),
          ),
        ),
      );
      edges = λ p d. r.edges p d ∙ edges_of (same o p) d (w.edges p d);
      hands =
          λ p d.
          let a = r.hands p d in
          let b = hands_of (same o p) d (w.hands p d) in
          omega (arith, a, b);
      truth =
          λ p d. r.truth p d
          ∙ (ap (λ (t : Bool). t || list_any (λ q. same q p) os) (truth_of (same o p) d (w.truth p d))
          ∙ or_assoc (w.truth p d) (same o p) (list_any (λ q. same q p) os));
      past = r.past;
    }

blocked_off : (b : Bool) (d e : Dir) (t : Bool) → b ≡ true → same_dir d e ≡ true
    → pick b d e (λ _. false) t ≡ false
blocked_off true d e t is same = ap (λ (x : Bool). cond x false t) same
blocked_off false d e t is same = absurd (cc)

pub wait_lawful : (s c : ℕ) (w : World) (o : Opening) (d : Dir) (m : ℕ) → WasTold s c w o d m
    → WaitIsLawful s c w o d m
wait_lawful s c w o d m told = record {
  lawful = (tt, ((blocked_off (same o o) d d (w.truth o d) (same_self o) (same_dir_self d), told), tt));
  edges = refl;
  hands = refl;
  past = refl;
}
