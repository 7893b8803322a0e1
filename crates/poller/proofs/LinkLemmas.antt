-- What a link of a memory net gives and takes.
use Rattle.std.proofs.Common.{◌≡◌, ℕ, ◌+◌, ◌-◌, ◌≤◌, ◌<◌, ◌==◌, ◌≢◌, eq-eqb, ne_eqb, cond, Bool, true, false}
use Rattle.std.proofs.Common.{List, [], ◌∷◌, ◌++◌, length, take, drop, min, refl, sym, ap, ◌∙◌, arith}
use Rattle.std.proofs.Math.Seq.{take-add, take-append_seam}
use Rattle.std.proofs.lemmas.List.{drop-take, nil_from_length, take-append-drop, take-take, length-append}
use Rattle.std.proofs.lemmas.List.{length-drop, length-take}
use Rattle.poller.specs.declared.script.ScriptStep.{ScriptStep}
use Rattle.outside.specs.declared.link.ReadOut.TheVariants as Reads
use Rattle.outside.specs.declared.link.WriteOut.TheVariants as Writes
use Rattle.outside.specs.Room.{RoomState}
use Rattle.poller.specs.NetLinks.{NetLink, ReadsNet, WritesNet, can_take, is_whole, net_read_answer}
use Rattle.poller.specs.NetLinks.{net_write_answer}
use Rattle.poller.specs.Scripts.{pieces_in}
use Rattle.poller.proofs.ScriptLemmas.{pieces_append}

-- a part that lies within a beginning is a part of the whole
part_of : (xs : List ℕ) (g n r : ℕ) → g + n ≤ r → take n (drop g (take r xs)) ≡ take n (drop g xs)
part_of xs g n r within =
    let e : r ≡ g + (r - g) = omega arith in
    ap (λ (k : ℕ). take n (drop g (take k xs))) e
    ∙ (ap (take n) (drop-take g (r - g) xs) ∙ take-take n (r - g) (drop g xs) (omega arith))

-- what the first k steps bring begins the whole input
pub pieces_begin : (steps : List ScriptStep) (k : ℕ)
    → take (length (pieces_in (take k steps))) (pieces_in steps) ≡ pieces_in (take k steps)
pieces_begin steps k =
    let whole : pieces_in steps ≡ pieces_in (take k steps) ++ pieces_in (drop k steps) =
    ap pieces_in (sym (take-append-drop k steps)) ∙ pieces_append (take k steps) (drop k steps) in
    ap (λ (t : List ℕ). take (length (pieces_in (take k steps))) t) whole
    ∙ take-append_seam (pieces_in (take k steps)) (pieces_in (drop k steps))

-- and is no longer
pub pieces_within : (steps : List ScriptStep) (k : ℕ)
    → length (pieces_in (take k steps)) ≤ length (pieces_in steps)
pieces_within steps k =
    let whole : pieces_in steps ≡ pieces_in (take k steps) ++ pieces_in (drop k steps) =
    ap pieces_in (sym (take-append-drop k steps)) ∙ pieces_append (take k steps) (drop k steps) in
    let l = ap length whole in
    let m = length-append (pieces_in (take k steps)) (pieces_in (drop k steps)) in
    omega (arith, l, m)

-- a read gives some of the bytes that are there
some_there : (whole : Bool) (there : List ℕ) (size : ℕ) → 0 < length there
    → net_read_answer whole there size ≡ Reads.Got (min (length there) size)
some_there whole [] size some = absurd (omega arith)
some_there whole (byte ∷ bytes) size some = refl

module _ (l : NetLink) (d0 k0 d reach : ℕ) (is : d ≡ l.delivered) (looked : l.looks ≡ k0 + 1) (later : d0 ≤ d)
    (most : d ≤ length l.steps) (reaches : reach ≡ length (pieces_in (take d l.steps))) where
  -- what is there of the delivered steps
  abbrev there : List ℕ
  there = drop l.given (pieces_in (take l.delivered l.steps))

  there_is : drop l.given (pieces_in (take d l.steps)) ≡ there
  there_is = ap (λ (k : ℕ). drop l.given (pieces_in (take k l.steps))) is

  there_long : length there ≡ reach - l.given
  there_long =
      ap length (sym there_is)
      ∙ (length-drop l.given (pieces_in (take d l.steps)) ∙ ap (λ (k : ℕ). k - l.given) (sym reaches))

  module _ (input buf : List ℕ) (whole : input ≡ pieces_in l.steps) where
    reached : take reach input ≡ pieces_in (take d l.steps)
    reached =
        ap (λ (k : ℕ). take k input) reaches
        ∙ (ap (λ (t : List ℕ). take (length (pieces_in (take d l.steps))) t) whole ∙ pieces_begin l.steps d)

    module _ (n : ℕ) (some : l.given < reach) (count : n ≡ min (reach - l.given) (length buf))
        (same : take n buf ≡ take n (drop l.given (take reach input))) where
      got : take n buf ≡ take n there
      got = same ∙ (ap (λ (t : List ℕ). take n (drop l.given t)) reached ∙ ap (take n) there_is)

      pub plays_got : ReadsNet (record l { delivered = d0; looks = k0 }) (record l { given = l.given + n })
          (Reads.Got n) buf
      plays_got = let long = there_long in record {
        later = omega (arith, later, is);
        most = omega (arith, most, is);
        looked = looked;
        others = refl;
        answer =
            let e : n ≡ min (length there) (length buf) = omega (arith, count, long) in
            ap Reads.Got e ∙ sym (some_there (is_whole l) there (length buf) (omega (arith, long, some)));
        bytes = got;
        gives = let t = length-take n buf in omega (arith, t, count);
      }

      pub takes_got : take (l.given + n) (pieces_in l.steps) ≡ take l.given (pieces_in l.steps) ++ take n buf
      takes_got = let within = pieces_within l.steps d in
          take-add l.given n (pieces_in l.steps) ∙ ap (λ (t : List ℕ). take l.given (pieces_in l.steps) ++ t)
          (sym (same ∙ (ap (λ (t : List ℕ). take n (drop l.given (take reach t))) whole
          ∙ part_of (pieces_in l.steps) l.given n reach (omega (arith, count, some)))))

  module _ (none : reach ≤ l.given) where
    nothing : there ≡ []
    nothing = let long = there_long in nil_from_length there (omega (arith, long, none))

    pub plays_end : (buf : List ℕ) → d ≡ length l.steps
        → ReadsNet (record l { delivered = d0; looks = k0 }) (record l { ended = true }) Reads.End buf
    plays_end buf all = record {
      later = omega (arith, later, is);
      most = omega (arith, most, is);
      looked = looked;
      others = refl;
      answer =
          let w : is_whole l ≡ true = eq-eqb l.delivered (length l.steps) (sym is ∙ all) in
          ap (λ (t : List ℕ × Bool). net_read_answer t.1 t.0 (length buf)) (λ i. (sym nothing i, sym w i));
      bytes = refl;
      gives = omega arith;
    }

    pub plays_wait : (buf : List ℕ) → d ≢ length l.steps
        → ReadsNet (record l { delivered = d0; looks = k0 }) l Reads.NotYet buf
    plays_wait buf some = record {
      later = omega (arith, later, is);
      most = omega (arith, most, is);
      looked = looked;
      others = refl;
      answer =
          let w : is_whole l ≡ false = ne_eqb l.delivered (length l.steps) (λ e. some (is ∙ e)) in
          ap (λ (t : List ℕ × Bool). net_read_answer t.1 t.0 (length buf)) (λ i. (sym nothing i, sym w i));
      bytes = refl;
      gives = omega arith;
    }

took : (size can n : ℕ) → n ≡ min size can → n ≢ 0 → Writes.Took n ≡ net_write_answer size can
took size can n is some =
    let b : (min size can == 0) ≡ false = ne_eqb (min size can) 0 (λ e. some (is ∙ e)) in
    ap Writes.Took is ∙ ap (λ (t : Bool). cond t Writes.NotYet (Writes.Took (min size can))) (sym b)

waited : (size can n : ℕ) → n ≡ min size can → n ≡ 0 → Writes.NotYet ≡ net_write_answer size can
waited size can n is none = let b : (min size can == 0) ≡ true = eq-eqb (min size can) 0 (sym is ∙ none) in
    ap (λ (t : Bool). cond t Writes.NotYet (Writes.Took (min size can))) (sym b)

module _ (l : NetLink) (d0 k0 d size can n : ℕ) (is : d ≡ l.delivered) (looked : l.looks ≡ k0 + 1)
    (later : d0 ≤ d) (most : d ≤ length l.steps) (can_is : can ≡ can_take l) (count : n ≡ min size can) where
  pub plays_took : (room : RoomState) → n ≢ 0
      → WritesNet (record l { delivered = d0; looks = k0 }) (record l { room = room }) size (Writes.Took n)
  plays_took room some = record {
    later = omega (arith, later, is);
    most = omega (arith, most, is);
    looked = looked;
    others = refl;
    answer = took size (can_take l) n (count ∙ ap (min size) can_is) some;
  }

  pub plays_full : n ≡ 0 → WritesNet (record l { delivered = d0; looks = k0 }) l size Writes.NotYet
  plays_full none = record {
    later = omega (arith, later, is);
    most = omega (arith, most, is);
    looked = looked;
    others = refl;
    answer = waited size (can_take l) n (count ∙ ap (min size) can_is) none;
  }
