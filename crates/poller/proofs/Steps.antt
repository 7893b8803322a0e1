-- Each step on a net's table keeps its rule.
use Rattle.std.proofs.Common.{◌≡◌, ◌≢◌, ℕ, ◌+◌, ◌%◌, ◌^◌, ◌<◌, ◌≤◌, ⊎_elim, List, [], ◌∷◌, length, set}
use Rattle.std.proofs.Common.{get_or, replicate, true, sym, refl, ap, ◌∙◌, subst, lt_of_not-le, arith}
use Rattle.std.specs.Prelude.{slice_index}
use Rattle.std.proofs.lemmas.List.{set-get_or, get_or-set_same, get_or-set_other, get_or-replicate}
use Rattle.std.proofs.lemmas.List.{get_or_past, length-set, length-replicate}
use mathlib.Core.Option.{some, some-ne-none}
use mathlib.Core.Option as maths
use lib.ListN.{get_elem?}
use native.Mathlib.Decide.{dec_le, ℕ_discrete}
use Rattle.atomic_table.specs.Table.{State, Me, step, keeps, opening, Allows, Splits}
use Rattle.poller.specs.declared.seat_knowledge.Role.{Role}
use Rattle.poller.specs.declared.seat_knowledge.Role.TheVariants.{Raises, Delivers, Reads}
use Rattle.poller.specs.declared.seat_knowledge.SeatKnowledge.{SeatKnowledge}
use Rattle.poller.specs.Deliveries.{MayRaise, MayRead, HasSeen, HasWords, IsInside, Knows, IsNet, IsNoteOf}
use Rattle.poller.specs.Deliveries.{ReaderHasLeft, first_knowledge, first_of, others_of, deliverer_of}
use Rattle.poller.specs.Deliveries.{reader_of, word_of, delivered, received, looked, noted}
use Rattle.poller.proofs.Views.{at_end, changed_view, cut_apart, left_before, leaves, still_apart, still_left}

-- what a seat has seen stays so where one word rises that it doesn't raise
seen_stays : (words : List ℕ) (i x : ℕ) (r : Role) (seen : ℕ) → slice_index words i ≤ x → i < length words
    → (MayRaise r i → ⊥) → HasSeen words r seen → HasSeen (set words i x) r seen
seen_stays words i x (Raises from until) seen more inside not has =
    λ k low high. has k low high ∙ sym
    (get_or-set_other words i k x 0 (λ e. not (subst (λ (n : ℕ). (from ≤ n) × (n < until)) e (low, high))))
seen_stays words i x (Delivers word) seen more inside not has =
    has ∙ sym (get_or-set_other words i word x 0 (λ e. not (sym e)))
seen_stays words i x (Reads word) seen more inside not has = elim (ℕ_discrete word i) [
  | yes e ↦ let at : slice_index (set words i x) word ≡ x =
      ap (λ (k : ℕ). get_or (set words i x) k 0) e ∙ get_or-set_same words i x 0 inside in
      let was : slice_index words word ≡ slice_index words i = ap (λ (k : ℕ). get_or words k 0) e in
      omega (arith, has, more, at, was)
  | no n ↦ let at : slice_index (set words i x) word ≡ slice_index words word =
      get_or-set_other words i word x 0 n in
      omega (arith, has, at)
]

-- what a seat has seen stays so where no word changes that is counted in
seen_in : (n : ℕ) (words words' : List ℕ) → ((k : ℕ) → k < n → slice_index words' k ≡ slice_index words k)
    → (r : Role) (seen : ℕ) → IsInside n r → HasSeen words r seen → HasSeen words' r seen
seen_in n words words' same (Raises from until) seen inside has =
    λ k low high. has k low high ∙ sym (same k (omega arith))
seen_in n words words' same (Delivers word) seen inside has = has ∙ sym (same word inside)
seen_in n words words' same (Reads word) seen inside has = let e = same word inside in omega (arith, has, e)

module _ (limits : List ℕ) (s : State ℕ SeatKnowledge) (net : IsNet limits s) (id : ℕ) (v0 w0 : SeatKnowledge)
    (at : get_elem? s.views id ≡ some v0) (role : w0.role ≡ v0.role) where
  -- a step that changes no word that is counted in
  uncounted : (words' : List ℕ) → length words' ≡ length s.words
      → ((k : ℕ) → k < length limits → slice_index words' k ≡ slice_index s.words k) → Knows limits words' w0
      → ((k : ℕ) → 0 < slice_index words' (length limits + k) → ReaderHasLeft (set s.views id w0) k)
      → IsNet limits record { words = words'; homes = s.homes; views = set s.views id w0 }
  uncounted words' long same mine notes = record {
    enough = let enough = net.enough in omega (arith, long, enough);
    within = λ k inside.
        let e = same k inside in
        let was = net.within k inside in omega (arith, e, was);
    knowledge =
        changed_view (λ j v. Knows limits words' v) s.views id w0 mine (λ j v _ e.
        let k = net.knowledge j v e in
        record {
          same_limits = k.same_limits;
          inside = k.inside;
          has_seen = seen_in (length limits) s.words words' same v.role v.seen k.inside k.has_seen;
        });
    raised_apart = still_apart MayRaise s.views id v0 at net.raised_apart w0 role;
    read_apart = still_apart MayRead s.views id v0 at net.read_apart w0 role;
    notes = notes;
  }

  -- who left has still left
  pub still_gone : (v0.gone ≡ true → w0.gone ≡ true) → (k : ℕ) → ReaderHasLeft s.views k
      → ReaderHasLeft (set s.views id w0) k
  still_gone on k r = still_left s.views id v0 w0 k at (λ reads gone. (role ∙ reads, on gone)) r

  -- a step that changes no word
  read_only : (words' : List ℕ) → words' ≡ s.words
      → Knows limits words' w0 → (v0.gone ≡ true → w0.gone ≡ true)
      → IsNet limits record { words = words'; homes = s.homes; views = set s.views id w0 }
  read_only words' words mine on =
      uncounted words' (ap length words) (λ k low. ap (λ (l : List ℕ). slice_index l k) words) mine
      (λ k note. still_gone on k
      (net.notes k (subst (λ (l : List ℕ). 0 < slice_index l (length limits + k)) words note)))

module _ (limits : List ℕ) where
  -- a seat that raises a word alone raises it
  pub delivers : (slots : ℕ) (id : ℕ) (me : Me ℕ SeatKnowledge) (word : ℕ) → me.0.role ≡ Delivers word
      → me.0.limits ≡ limits → me.0.seen < slice_index limits word → me.0.seen + 1 < 2 ^ 64
      → Allows (IsNet limits) slots id me word (λ n. (n + 1) % 2 ^ 64)
      (delivered (step slots word 1 0 maths.none) me)
  delivers slots id me word role same below small s net len at found =
      let v : SeatKnowledge = me.0 in
      let n : ℕ = get_or s.words word 0 in
      let knows = net.knowledge id v at in
      let n_is : v.seen ≡ n = subst (λ (r : Role). HasSeen s.words r v.seen) role knows.has_seen in
      let inside : word < length limits = subst (IsInside (length limits)) role knows.inside in
      let enough = net.enough in
      let there : word < length s.words = omega arith in
      let x : ℕ = (n + 1) % 2 ^ 64 in
      let x_is : x ≡ n + 1 = omega (arith, n_is, small) in
      let here : slice_index (set s.words word x) word ≡ x = get_or-set_same s.words word x 0 there in
      let w : SeatKnowledge = record v { seen = v.seen + 1 } in (
        w,
        keeps,
        tt,
        record {
          enough = let l = length-set s.words word x in omega (arith, l, enough);
          within = λ k low. elim (ℕ_discrete k word) [
            | yes e ↦ let e1 : slice_index (set s.words word x) k ≡ x =
                ap (λ (i : ℕ). get_or (set s.words word x) i 0) e ∙ here in
                let e2 : slice_index limits k ≡ slice_index limits word =
                ap (λ (i : ℕ). get_or limits i 0) e in
                omega (arith, e1, e2, x_is, n_is, below)
            | no d ↦ let e1 : slice_index (set s.words word x) k ≡ slice_index s.words k =
                get_or-set_other s.words word k x 0 d in
                let was = net.within k low in
                omega (arith, e1, was)
          ];
          knowledge = changed_view (λ j d. Knows limits (set s.words word x) d) s.views id w
              (record {
                same_limits = knows.same_limits;
                inside = knows.inside;
                has_seen =
                    subst (λ (r : Role). HasSeen (set s.words word x) r (v.seen + 1)) (sym role)
                    (omega (arith, here, x_is, n_is));
              })
              (λ j d ne e.
              let k = net.knowledge j d e in
              let not : MayRaise d.role word → ⊥ = λ m.
              net.raised_apart j id d v ne e at word m
              (subst (λ (r : Role). MayRaise r word) (sym role) refl) in
              record {
                same_limits = k.same_limits;
                inside = k.inside;
                has_seen = seen_stays s.words word x d.role d.seen (omega (arith, x_is)) there not k.has_seen;
              });
          raised_apart = still_apart MayRaise s.views id v at net.raised_apart w refl;
          read_apart = still_apart MayRead s.views id v at net.read_apart w refl;
          notes = λ k note.
              let other : slice_index (set s.words word x) (length limits + k)
              ≡ slice_index s.words (length limits + k) =
              get_or-set_other s.words word (length limits + k) x 0 (λ e. absurd (omega arith)) in
              still_gone limits s net id v w at refl (λ g. g) k (net.notes k (omega (arith, other, note)));
        },
        (sym n_is, refl),
      )

  -- a seat that reads a word reads it
  pub receives : (slots : ℕ) (id : ℕ) (me : Me ℕ SeatKnowledge) (word : ℕ)
      → me.0.role ≡ Reads word → me.0.limits ≡ limits
      → Allows (IsNet limits) slots id me word (λ n. n) (received (step slots word 0 0 maths.none) me)
  receives slots id me word role same s net len at found =
      let v : SeatKnowledge = me.0 in
      let n : ℕ = get_or s.words word 0 in
      let knows = net.knowledge id v at in
      let has : v.seen ≤ n = subst (λ (r : Role). HasSeen s.words r v.seen) role knows.has_seen in
      let inside : word < length limits = subst (IsInside (length limits)) role knows.inside in
      let within = net.within word inside in
      let words : set s.words word n ≡ s.words = set-get_or s.words word 0 in
      let w : SeatKnowledge = record v { seen = n; looks = v.looks + 1 } in
      let seen : HasSeen (set s.words word n) (Reads word) n =
      subst (λ (l : List ℕ). n ≤ slice_index l word) (sym words) (omega arith) in (
        w,
        keeps,
        tt,
        read_only limits s net id v w at refl (set s.words word n) words
            (record {
              same_limits = knows.same_limits;
              inside = knows.inside;
              has_seen = subst (λ (r : Role). HasSeen (set s.words word n) r n) (sym role) seen;
            })
            (λ g. g),
        (has, subst (λ (l : List ℕ). n ≤ slice_index l word) (sym same) within, refl),
      )

  -- a seat may look at a word, and what it found is the note of its word where it looked there
  pub looks : (slots : ℕ) (id : ℕ) (me : Me ℕ SeatKnowledge) (word : ℕ)
      → IsNoteOf (step slots word 0 0 maths.none) me.0
      → Allows (IsNet limits) slots id me word (λ n. n) (looked (step slots word 0 0 maths.none) me)
  looks slots id me word is s net len at found =
      let v : SeatKnowledge = me.0 in
      let n : ℕ = get_or s.words word 0 in
      let knows = net.knowledge id v at in
      let words : set s.words word n ≡ s.words = set-get_or s.words word 0 in
      let same : (k : ℕ) → k < length limits → slice_index (set s.words word n) k ≡ slice_index s.words k =
      λ k low. ap (λ (l : List ℕ). slice_index l k) words in
      let w : SeatKnowledge = record v { left = n; looks = v.looks + 1 } in (
        w,
        keeps,
        tt,
        read_only limits s net id v w at refl (set s.words word n) words
            (record {
              same_limits = knows.same_limits;
              inside = knows.inside;
              has_seen =
                  seen_in (length limits) s.words
                  (set s.words word n) same v.role v.seen knows.inside knows.has_seen;
            })
            (λ g. g),
        (is, refl),
      )

  -- a seat that reads a word may write the word's note, and has left then
  pub notes : (slots : ℕ) (id : ℕ) (me : Me ℕ SeatKnowledge) (at_word word x : ℕ) → me.0.role ≡ Reads word
      → me.0.limits ≡ limits → at_word ≡ length limits + word
      → Allows (IsNet limits) slots id me at_word (λ _. x)
      (λ _. noted (step slots at_word x 0 maths.none) me x)
  notes slots id me at_word word x role limits_are place s net len at found =
      let v : SeatKnowledge = me.0 in
      let knows = net.knowledge id v at in
      let same : (k : ℕ) → k < length limits → slice_index (set s.words at_word x) k ≡ slice_index s.words k =
      λ k low. get_or-set_other s.words at_word k x 0 (λ e. absurd (omega arith)) in
      let w : SeatKnowledge = record v { gone = true } in (
        w,
        keeps,
        tt,
        uncounted limits s net id v w at refl (set s.words at_word x) (length-set s.words at_word x) same
            (record {
              same_limits = knows.same_limits;
              inside = knows.inside;
              has_seen =
                  seen_in (length limits) s.words
                  (set s.words at_word x) same v.role v.seen knows.inside knows.has_seen;
            })
            (λ k note. elim (ℕ_discrete k word) [
              | yes e ↦ leaves s.views id v w k at (role ∙ ap Reads (sym e)) refl
              | no d ↦
                  let other : slice_index (set s.words at_word x) (length limits + k)
                  ≡ slice_index s.words (length limits + k) =
                  get_or-set_other s.words at_word (length limits + k) x 0 (λ e. d (omega arith)) in
                  still_gone limits s net id v w at refl (λ g. refl) k
                  (net.notes k (omega (arith, other, note)))
            ]),
        (
          let l = ap length limits_are in
              let r : word_of v.role ≡ word = ap word_of role in
              omega (arith, l, r, place),
          refl,
        ),
      )

  -- a role that raises words is cut in two, which have no word in common
  pub record IsCut (r left right : Role) : Type 0 where
    pub raises_left : (k : ℕ) → MayRaise left k → MayRaise r k
    pub raises_right : (k : ℕ) → MayRaise right k → MayRaise r k
    pub raises_apart : (k : ℕ) → MayRaise left k → MayRaise right k → ⊥
    pub reads_left : (k : ℕ) → MayRead left k → MayRead r k
    pub reads_right : (k : ℕ) → MayRead right k → MayRead r k
    pub reads_apart : (k : ℕ) → MayRead left k → MayRead right k → ⊥
    pub no_reader : (k : ℕ) → r ≡ Reads k → ⊥
    pub inside_left : IsInside (length limits) left
    pub inside_right : IsInside (length limits) right
    pub seen_left : (words : List ℕ) (seen : ℕ) → HasSeen words r seen → HasSeen words left seen
    pub seen_right : (words : List ℕ) (seen : ℕ) → HasSeen words r seen → HasSeen words right seen

  cuts : (id : ℕ) (v : SeatKnowledge) (left right : Role) → IsCut v.role left right
      → Splits (IsNet limits) id v (record v { role = left }) (record v { role = right })
  cuts id v left right cut s net at =
      let l : SeatKnowledge = record v { role = left } in
      let r : SeatKnowledge = record v { role = right } in
      let vs : List SeatKnowledge = set s.views id l in
      let knows = net.knowledge id v at in
      let known : (j : ℕ) (d : SeatKnowledge) → get_elem? vs j ≡ some d
      → Knows limits s.words d = changed_view (λ j d. Knows limits s.words d) s.views id l
      (record {
        same_limits = knows.same_limits;
        inside = cut.inside_left;
        has_seen = cut.seen_left s.words v.seen knows.has_seen;
      })
      (λ j d _ e. net.knowledge j d e) in
      let new : Knows limits s.words r = record {
        same_limits = knows.same_limits;
        inside = cut.inside_right;
        has_seen = cut.seen_right s.words v.seen knows.has_seen;
      } in record {
        enough = net.enough;
        within = net.within;
        knowledge =
            λ j d e. ⊎_elim (λ h. known j d h)
            (λ (t : (j ≡ length vs) × (r ≡ d)). subst (Knows limits s.words) t.1 new) (at_end vs r j d e);
        raised_apart =
            cut_apart MayRaise s.views id v at net.raised_apart l r cut.raises_left
            cut.raises_right cut.raises_apart;
        read_apart =
            cut_apart MayRead s.views id v at net.read_apart l r cut.reads_left cut.reads_right
            cut.reads_apart;
        notes =
            λ k note. left_before vs r k (still_left s.views id v l k at
            (λ reads gone. absurd (cut.no_reader k reads)) (net.notes k note));
      }

  -- a role that raises words isn't one that reads
  raises_not_reads : (from until k : ℕ) → Raises from until ≡ Reads k → ⊥
  raises_not_reads from until k e = absurd (cc)

  cut_first : (r : Role) → HasWords (length limits) r → IsCut r (others_of r) (first_of r)
  cut_first (Raises from until) has =
      let low = has.0 in
      let high = has.1 in record {
        raises_left = λ k m.
            let a = m.0 in
            let b = m.1 in (omega arith, b);
        raises_right = λ k m.
            let a = m.0 in
            let b = m.1 in (a, omega arith);
        raises_apart = λ k m n.
            let a = m.0 in
            let b = n.1 in absurd (omega arith);
        reads_left = λ k m.
            let a = m.0 in
            let b = m.1 in (omega arith, b);
        reads_right = λ k m.
            let a = m.0 in
            let b = m.1 in (a, omega arith);
        reads_apart = λ k m n.
            let a = m.0 in
            let b = n.1 in absurd (omega arith);
        no_reader = raises_not_reads from until;
        inside_left = high;
        inside_right = omega arith;
        seen_left = λ words seen has k a b. has k (omega arith) b;
        seen_right = λ words seen has k a b. has k a (omega arith);
      }
  cut_first (Delivers word) has = absurd has
  cut_first (Reads word) has = absurd has

  cut_reader : (r : Role) → HasWords (length limits) r → IsCut r (deliverer_of r) (reader_of r)
  cut_reader (Raises from until) has =
      let low = has.0 in
      let high = has.1 in record {
        raises_left = λ k m. (omega arith, omega arith);
        raises_right = λ k m. absurd m;
        raises_apart = λ k m n. n;
        reads_left = λ k m. absurd m;
        reads_right = λ k m. (omega arith, omega arith);
        reads_apart = λ k m n. m;
        no_reader = raises_not_reads from until;
        inside_left = omega arith;
        inside_right = omega arith;
        seen_left = λ words seen has. has from (omega arith) low;
        seen_right = λ words seen has. let e = has from (omega arith) low in omega (arith, e);
      }
  cut_reader (Delivers word) has = absurd has
  cut_reader (Reads word) has = absurd has

  -- the first of the words that a seat raises goes to a seat of its own
  pub cuts_first : (id : ℕ) (v : SeatKnowledge) → HasWords (length limits) v.role
      → Splits (IsNet limits) id v (record v { role = others_of v.role })
      (record v { role = first_of v.role })
  cuts_first id v has = cuts id v (others_of v.role) (first_of v.role) (cut_first v.role has)

  -- a seat is split off that reads the first of the words that a seat raises
  pub cuts_reader : (id : ℕ) (v : SeatKnowledge) → HasWords (length limits) v.role
      → Splits (IsNet limits) id v (record v { role = deliverer_of v.role })
      (record v { role = reader_of v.role })
  cuts_reader id v has = cuts id v (deliverer_of v.role) (reader_of v.role) (cut_reader v.role has)

  -- words that are zero, and what stands after them
  all_nought : (n k : ℕ) → slice_index (replicate n 0) k ≡ 0
  all_nought n k = elim (dec_le n k) [
    | yes h ↦ let l = length-replicate {A = ℕ} n 0 in get_or_past (replicate n 0) k 0 (omega (arith, l, h))
    | no h ↦ get_or-replicate n k 0 0 (lt_of_not-le h)
  ]

  -- one seat alone is apart from all others
  alone_apart : (May : Role → ℕ → Type 0) (v0 : SeatKnowledge) (i j : ℕ) (v w : SeatKnowledge)
      → i ≢ j → get_elem? (v0 ∷ []) i ≡ some v → get_elem? (v0 ∷ []) j ≡ some w → (k : ℕ)
      → May v.role k → May w.role k → ⊥
  alone_apart May v0 i j v w ne ei ej k mv mw = ⊎_elim
      (λ h. absurd (some-ne-none v (sym h)))
      (λ (t : (i ≡ 0) × (v0 ≡ v)). ⊎_elim (λ h. absurd (some-ne-none w (sym h)))
      (λ (u : (j ≡ 0) × (v0 ≡ w)). absurd (ne (t.0 ∙ sym u.0))) (at_end [] v0 j w ej))
      (at_end [] v0 i v ei)

  -- the table at the beginning
  pub opens : (n : ℕ) → length limits ≤ n → IsNet limits (opening (replicate n 0) [] (first_knowledge limits))
  opens n enough =
      let zeros : (k : ℕ) → k < n → slice_index (replicate n 0) k ≡ 0 =
      λ k low. get_or-replicate n k 0 0 low in
      let first : SeatKnowledge = first_knowledge limits in
      let knows : Knows limits (replicate n 0) first = record {
        same_limits = refl;
        inside = omega arith;
        has_seen = λ k low high. sym (zeros k (omega arith));
      } in record {
        enough = let e = length-replicate {A = ℕ} n 0 in omega (arith, e);
        within = λ k low. let e = zeros k (omega arith) in omega (arith, e);
        knowledge = λ j v e. ⊎_elim
            (λ h. absurd (some-ne-none v (sym h)))
            (λ (u : (j ≡ 0) × (first ≡ v)). subst (Knows limits (replicate n 0)) u.1 knows)
            (at_end [] first j v e);
        raised_apart = alone_apart MayRaise first;
        read_apart = alone_apart MayRead first;
        notes = λ k note. let e = all_nought n (length limits + k) in absurd (omega arith);
      }
