-- Inner: pieces that are put one after the other are one piece.
use Rattle.std.proofs.Common.{◌≡◌, ◌≢◌, ◌+◌, ◌≤◌, ℕ, List, ◌++◌, take, length, Option, None, Some, option_map}
use Rattle.std.proofs.Common.{refl, sym, ap, subst, ◌∙◌, append_assoc, arith, length-append}
use Rattle.std.proofs.lemmas.List.{take-append-le}
use Rattle.std.proofs.Math.Seq.{take-append-add}
use Rattle.outside.specs.Counts.{Rises}
use Rattle.outside.specs.declared.sink.SinkOut.{SinkOut}
use Rattle.outside.specs.declared.sink.SinkOut.TheVariants.{Stored, Failed}
use Rattle.outside.specs.SinkCauses.{Puts, PutsSome, SinkTold}

-- what is stored after what was stored
stored_twice : (first second : List ℕ) (stored : Option (List ℕ))
    → option_map (λ bytes. bytes ++ second) (option_map (λ bytes. bytes ++ first) stored)
    ≡ option_map (λ bytes. bytes ++ (first ++ second)) stored
stored_twice first second None = refl
stored_twice first second (Some bytes) = ap Some (append_assoc bytes first second)

-- a piece that was put in part is a part of it and of whatever follows
pub puts_part : (first second : List ℕ) (old new : SinkTold) → PutsSome first old new
    → PutsSome (first ++ second) old new
puts_part first second old new x = record {
  size = x.size;
  within = omega (arith, x.within, length-append first second);
  stores =
      x.stores ∙ ap (λ (piece : List ℕ). option_map (λ bytes. bytes ++ piece) old.stored)
      (sym (take-append-le x.size first second x.within));
  later = x.later;
  failed = x.failed;
}

-- a piece that was put whole, and one after it
pub puts_then : (first second : List ℕ) (r : SinkOut) (old mid new : SinkTold) → Puts Stored first old mid
    → Puts r second mid new → Puts r (first ++ second) old new
puts_then first second Stored old mid new x y =
    let stored : new.stored ≡ option_map (λ bytes. bytes ++ (first ++ second)) old.stored =
    ap (λ (s : SinkTold). s.stored) y
    ∙ ap (λ (s : SinkTold). option_map (λ bytes. bytes ++ second) s.stored) x
    ∙ stored_twice first second old.stored in
    let faults : new.faults ≡ old.faults =
    ap (λ (s : SinkTold). s.faults) y ∙ ap (λ (s : SinkTold). s.faults) x in
    cc
puts_then first second Failed old mid new x y =
    let faults : mid.faults ≡ old.faults = ap (λ (s : SinkTold). s.faults) x in
    record {
      size = length first + y.size;
      within = omega (arith, y.within, length-append first second);
      stores =
          y.stores ∙ ap (λ (s : SinkTold). option_map (λ bytes. bytes ++ take y.size second) s.stored) x
          ∙ stored_twice first (take y.size second) old.stored
          ∙ ap (λ (piece : List ℕ). option_map (λ bytes. bytes ++ piece) old.stored)
          (sym (take-append-add first second y.size));
      later = omega (arith, y.later);
      failed = subst (λ (n : ℕ). Rises n new.faults) faults y.failed;
    }

-- a piece whose putting did not fail was put whole
pub puts_whole : (r : SinkOut) (piece : List ℕ) (old new : SinkTold) → r ≢ Failed
    → Puts r piece old new → Puts Stored piece old new
puts_whole Stored piece old new other x = x
puts_whole Failed piece old new other x = absurd (other refl)
