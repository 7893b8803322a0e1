-- Each step of a call keeps the rule of a turn cell.
use Rattle.std.proofs.Common.{◌≡◌, ℕ, ◌+◌, ◌-◌, ◌*◌, ◌/◌, ◌%◌, ◌^◌, ◌<◌, ◌≤◌, ◌≢◌, ◌⊎◌, inl, inr, ⊎_elim}
use Rattle.std.proofs.Common.{List, [], ◌∷◌, ◌++◌, length, set, get_or, false, sym, refl, ap, ◌∙◌, subst}
use Rattle.std.proofs.Common.{arith}
use Rattle.std.specs.Int.Bits.{bit_or, or_zero_r}
use Rattle.std.proofs.lemmas.Nat.{or_block, or_shifted}
use Rattle.std.proofs.lemmas.List.{length-append}
use Rattle.std.proofs.lemmas.Option.{none-some, same_Some}
use Rattle.std.specs.Prelude.{Option, Some, None}
use mathlib.Core.Option as maths
use mathlib.Core.Option.{some}
use lib.ListN.{get_elem?}
use lib.Seq.{set-get_or}
use Rattle.atomic_table.specs.Table.{State, Me, step, keeps, put_back, takes, gives, opening, Allows}
use Rattle.atomic_table.proofs.Lists.{at_set, set_here}
use Rattle.turn_cell.specs.declared.view.Turn.{Turn}
use Rattle.turn_cell.specs.declared.view.Turn.TheVariants.{Idle, Making, Holds}
use Rattle.turn_cell.specs.declared.view.JoinPending.TheVariants.{Nothing}
use Rattle.turn_cell.specs.declared.view.View.{View}
use Rattle.turn_cell.specs.Classes.{Within, AreClasses, Apart}
use Rattle.turn_cell.specs.History.{Log, AtFirsts, Ahead, IsPart}
use Rattle.turn_cell.specs.View.{turned, tried, has_seen, newcomer, seat_of, JoinFits}
use Rattle.turn_cell.specs.Rule.{words_with, odd_of, Sees, KnowsTurn, Kept, asked, begun, given_back, ended}
use Rattle.turn_cell.specs.Rule.{looked}
use Rattle.turn_cell.specs.Laws.{one_item_at, stays_elsewhere, first_within, only_first, only_outside}
use Rattle.turn_cell.specs.Laws.{firsts_snoc, ahead_snoc, ahead_here, firsts_before}

pub or_even : (m : ℕ) → bit_or (2 * m) 1 ≡ 2 * m + 1
or_even m =
    let e : 2 * m ≡ m * 2 ^ 1 = omega arith in
    ap (λ (k : ℕ). bit_or k 1) e ∙ (or_shifted m 1 1 (omega arith) ∙ omega arith)

pub or_odd : (m : ℕ) → bit_or (2 * m + 1) 1 ≡ 2 * m + 1
or_odd m =
    let e : 2 * m + 1 ≡ m * 2 ^ 1 + 1 = omega arith in
    let z : bit_or m 0 ≡ m = or_zero_r m in
    ap (λ (k : ℕ). bit_or k 1) e ∙ (or_block 1 m 0 1 1 (omega arith) (omega arith) ∙ omega (arith, z))

-- half of the word is the number of entries
halves : (b n : ℕ) (h : Option ℕ) → n ≡ 2 * b + odd_of h → n / 2 ≡ b
halves b n None is = omega arith
halves b n (Some j) is = omega arith

holder_cases : (h : Option ℕ) → (h ≡ None) ⊎ ((j : ℕ) × (h ≡ Some j))
holder_cases None = inl refl
holder_cases (Some j) = inr (j, refl)

abbrev list_of : {E : Type 0} → Log E → Turn E → Log E
list_of d (Holds l) = l
list_of d _ = d

-- what is put back is at home
home_again : {A : Type 0} (hs : List A) (x : A) → length hs ≡ 3 → get_elem? (set hs 1 x) 1 ≡ some x
home_again hs x e = set_here hs 1 x (omega arith)

module _ {E P : Type 0} (stands : P → Log E → Type 0) (name_of : P → List ℕ) (name : List ℕ) where
  abbrev St : Type 0
  St = State (Option P) (View E)

  abbrev Rule : St → Type 0
  Rule = Kept stands name_of name

  -- the seats other than the one that holds the turn, or than one that asks where nobody does, do not hold it
  others_idle : (holder : Option ℕ) (log : Log E) (homes : List (maths.Option (Option P))) (id j : ℕ)
      → (holder ≡ None) ⊎ (holder ≡ Some id) → j ≢ id → (t : Turn E)
      → KnowsTurn stands name_of holder log homes j t → t ≡ Idle
  others_idle holder log homes id j at other Idle k = refl
  others_idle holder log homes id j at other Making k =
      absurd (⊎_elim (λ e. none-some j (sym e ∙ k.0)) (λ e. other (same_Some _ _ (sym k.0 ∙ e))) at)
  others_idle holder log homes id j at other (Holds l) k =
      absurd (⊎_elim (λ e. none-some j (sym e ∙ k.0)) (λ e. other (same_Some _ _ (sym k.0 ∙ e))) at)

  -- the seats stay apart, where one has a new view with the same classes
  apart_stays : (vs : List (View E)) (id : ℕ) (v0 w0 : View E) → get_elem? vs id ≡ some v0
      → w0.classes ≡ v0.classes → w0.gone ≡ v0.gone
      → ((i j : ℕ) (v w : View E) → i ≢ j → get_elem? vs i ≡ some v → get_elem? vs j ≡ some w
      → v.gone ≡ false → w.gone ≡ false → Apart v.classes w.classes)
      → (i j : ℕ) (v w : View E) → i ≢ j → get_elem? (set vs id w0) i ≡ some v
      → get_elem? (set vs id w0) j ≡ some w → v.gone ≡ false → w.gone ≡ false → Apart v.classes w.classes
  apart_stays vs id v0 w0 at cs sp apart i j v w ne ei ej vu wu =
      let was : (k : ℕ) (d : View E) → get_elem? (set vs id w0) k ≡ some d
      → (d0 : View E) × (get_elem? vs k ≡ some d0) × (d.classes ≡ d0.classes) × (d.gone ≡ d0.gone) =
      λ k d e. ⊎_elim (λ (t : (k ≡ id) × (w0 ≡ d)). (
        v0,
        subst (λ (x : ℕ). get_elem? vs x ≡ some v0) (sym t.0) at,
        ap (λ (x : View E). x.classes) (sym t.1) ∙ cs,
        ap (λ (x : View E). x.gone) (sym t.1) ∙ sp,
      ))
      (λ (t : (k ≢ id) × (get_elem? vs k ≡ some d)). (d, t.1, refl, refl)) (at_set vs id k w0 d e) in
      let a = was i v ei in
      let b = was j w ej in
      subst (λ (x : List (ℕ × ℕ) × List (ℕ × ℕ)). Apart x.0 x.1) (λ k. (sym a.2 k, sym b.2 k))
      (apart i j a.0 b.0 ne a.1 b.1 (sym a.3 ∙ vu) (sym b.3 ∙ wu))

  same_sight : (log : Log E) (v w : View E) → w.classes ≡ v.classes → w.name ≡ v.name → w.seen ≡ v.seen
      → w.told ≡ v.told → Sees name log v → Sees name log w
  same_sight log v w cs nm sn tl k = (
    nm ∙ k.0,
    subst AreClasses (sym cs) k.1,
    subst (λ (x : List (ℕ × ℕ) × Log E). Ahead x.0 x.1 log) (λ i. (sym cs i, sym sn i)) k.2,
    subst (λ (x : List (ℕ × ℕ)). AtFirsts x log) (sym cs) k.3,
    subst JoinFits (sym tl) k.4,
  )

  module _ (s : St) (r : Rule s) (id : ℕ) (v0 w0 : View E) (at : get_elem? s.views id ≡ some v0)
      (cs : w0.classes ≡ v0.classes) (sp : w0.gone ≡ v0.gone) where
    -- a step of the seat that holds the turn, or takes it
    rebuilt : (log' : Log E) (holder' : Option ℕ) (ws : List ℕ) (hs : List (maths.Option (Option P)))
        → (r.holder ≡ None) ⊎ (r.holder ≡ Some id) → ws ≡ words_with (2 * length log' + odd_of holder')
        → length log' ≤ 2 ^ 62
        → (holder' ≡ None
        → (p : P) × (get_elem? hs 1 ≡ some (some (Some p))) × IsPart stands name_of name log' p)
        → KnowsTurn stands name_of holder' log' hs id w0.turn
        → (w0.gone ≡ false → Sees name log' w0)
        → ((j : ℕ) (d : View E) → j ≢ id → get_elem? s.views j ≡ some d → d.gone ≡ false → Sees name log' d)
        → Rule record { words = ws; homes = hs; views = set s.views id w0 }
    rebuilt log' holder' ws hs whose word short home mine own others = record {
      log = log';
      holder = holder';
      word = word;
      short = short;
      home = home;
      turns =
          stays_elsewhere (λ j (d : View E). KnowsTurn stands name_of holder' log' hs j d.turn)
          s.views id w0 mine
          (λ j d ne e. subst (KnowsTurn stands name_of holder' log' hs j)
          (sym (others_idle r.holder r.log s.homes id j whose ne d.turn (r.turns j d e))) tt);
      sights = stays_elsewhere (λ j (d : View E). d.gone ≡ false → Sees name log' d) s.views id w0 own others;
      apart = apart_stays s.views id v0 w0 at cs sp r.apart;
    }

    -- a step that changes no word and no slot
    shown : w0.turn ≡ Idle → (w0.gone ≡ false → Sees name r.log w0)
        → Rule record { words = s.words; homes = s.homes; views = set s.views id w0 }
    shown idle sees = record {
      log = r.log;
      holder = r.holder;
      word = r.word;
      short = r.short;
      home = r.home;
      turns =
          stays_elsewhere (λ j (d : View E). KnowsTurn stands name_of r.holder r.log s.homes j d.turn)
          s.views id w0 (subst (KnowsTurn stands name_of r.holder r.log s.homes id) (sym idle) tt)
          (λ j d _. r.turns j d);
      sights =
          stays_elsewhere (λ j (d : View E). d.gone ≡ false → Sees name r.log d) s.views id w0 sees
          (λ j d _. r.sights j d);
      apart = apart_stays s.views id v0 w0 at cs sp r.apart;
    }

    unmoved : w0.turn ≡ Idle → w0.name ≡ v0.name → w0.seen ≡ v0.seen → w0.told ≡ v0.told
        → Rule record { words = s.words; homes = s.homes; views = set s.views id w0 }
    unmoved idle nm sn tl =
        shown idle (λ u. same_sight r.log v0 w0 cs nm sn tl (r.sights id v0 at (sym sp ∙ u)))

  pub takes_turn : (slots : ℕ) → slots ≡ 3 → (id : ℕ) (me : Me (Option P) (View E)) → me.0.gone ≡ false
      → Allows Rule slots id me 16 (λ n. bit_or n 1) (asked stands name_of (step slots 16 1 0 maths.none) me)
  takes_turn slots one id me fresh s r len at small =
      let n : ℕ = get_or s.words 16 0 in
      let L : ℕ = length r.log in
      let see = r.sights id me.0 at fresh in
      let n_is : n ≡ 2 * L + odd_of r.holder = ap (λ ws. get_or ws 16 0) r.word in
      let set_is : (k : ℕ) → set s.words 16 k ≡ words_with k = λ k. ap (λ ws. set ws 16 k) r.word in
      elim (holder_cases r.holder) [
        | inl free ↦
            let h = r.home free in
            let even : n ≡ 2 * L = n_is ∙ (ap (λ o. 2 * L + odd_of o) free ∙ omega arith) in
            let w : View E = tried n (Holds r.log) me.0 in (
              w,
              takes 1 (Some h.0),
              h.1,
              rebuilt s r id me.0 w at refl refl r.log (Some id) _ _ (inl free)
                  (set_is (bit_or n 1) ∙ ap words_with (ap (λ (k : ℕ). bit_or k 1) even ∙ or_even L)) r.short
                  (λ e. absurd (none-some id (sym e))) (refl, refl)
                  (λ _. see) (λ j d _. r.sights j d),
              inr (r.log, h.0, even, r.short, refl, refl, (h.2.0, h.2.1 ∙ sym see.0), see.2, see.1),
            )
        | inr held ↦ let odd : n ≡ 2 * L + 1 = n_is ∙ ap (λ o. 2 * L + odd_of o) held.1 in
            let w : View E = tried n Idle me.0 in
            let same : set s.words 16 (bit_or n 1) ≡ s.words = set_is (bit_or n 1)
            ∙ (ap words_with (ap (λ (k : ℕ). bit_or k 1) odd ∙ (or_odd L ∙ (sym odd ∙ n_is))) ∙ sym r.word) in (
              w,
              keeps,
              tt,
              subst (λ ws. Rule record { words = ws; homes = s.homes; views = set s.views id w })
                  (sym same) (unmoved s r id me.0 w at refl refl refl refl refl refl),
              inl (omega arith, refl, refl),
            )
      ]

  pub gives_back : (slots : ℕ) → slots ≡ 3 → (id : ℕ) (me : Me (Option P) (View E)) (l : Log E) (p : P)
      → me.0.turn ≡ Holds l → me.0.gone ≡ false
      → me.1 ≡ (1, Some p) ∷ [] → IsPart stands name_of me.0.name l p
      → Allows Rule slots id me 16 (λ n. (n + (2 ^ 64 - 1)) % 2 ^ 64)
      (given_back (step slots 16 1 0 maths.none) me)
  gives_back slots one id me l p holds fresh out part s r len at small =
      let n : ℕ = get_or s.words 16 0 in
      let L : ℕ = length r.log in
      let see = r.sights id me.0 at fresh in
      let kt = subst (KnowsTurn stands name_of r.holder r.log s.homes id) holds (r.turns id me.0 at) in
      let n_is : n ≡ 2 * L + 1 = ap (λ ws. get_or ws 16 0) r.word ∙ ap (λ o. 2 * L + odd_of o) kt.0 in
      let short : L ≤ 2 ^ 62 = r.short in
      let w : View E = turned Idle me.0 in (
        w,
        gives,
        tt,
        rebuilt s r id me.0 w at refl refl r.log None _ _ (inr kt.0)
            (ap (λ ws. set ws 16 ((n + (2 ^ 64 - 1)) % 2 ^ 64)) r.word ∙ ap words_with (omega arith)) r.short
            (λ _. (
              p,
              ap (λ c. get_elem? (put_back s.homes c) 1) out ∙ home_again s.homes (some (Some p)) (len ∙ one),
              (subst (stands p) kt.1 part.0, part.1 ∙ see.0),
            )) tt (λ _. see) (λ j d _. r.sights j d),
        (refl, refl),
      )

  pub ends : (slots : ℕ) → slots ≡ 3
      → (id : ℕ) (me : Me (Option P) (View E)) (l : Log E) (p : P) (e : E) (item : Option E)
      → me.0.turn ≡ Holds l → me.0.gone ≡ false → me.1 ≡ (1, Some p) ∷ [] → me.0.classes ≢ [] → item ≡ Some e
      → length l < 2 ^ 62
      → IsPart stands name_of me.0.name (l ++ (seat_of me.0, e) ∷ []) p
      → Allows Rule slots id me 16 (λ n. (n + 1) % 2 ^ 64) (ended item (step slots 16 1 0 maths.none) me)
  ends slots one id me l p e item holds fresh out full said short part s r len at small =
      let n : ℕ = get_or s.words 16 0 in
      let see = r.sights id me.0 at fresh in
      let kt = subst (KnowsTurn stands name_of r.holder r.log s.homes id) holds (r.turns id me.0 at) in
      let n_is : n ≡ 2 * length l + 1 =
      ap (λ ws. get_or ws 16 0) r.word ∙ (λ i. 2 * length (sym kt.1 i) + odd_of (kt.0 i)) in
      let x : ℕ × E = (seat_of me.0, e) in
      let log' : Log E = l ++ x ∷ [] in
      let long : length log' ≡ length l + 1 = length-append l (x ∷ []) in
      let inside : Within x.0 me.0.classes = first_within me.0.classes full see.1 in
      let w : View E = has_seen log' me.0 in (
        w,
        gives,
        tt,
        rebuilt s r id me.0 w at refl refl log' None _ _ (inr kt.0)
            (ap (λ ws. set ws 16 ((n + 1) % 2 ^ 64)) r.word ∙ ap words_with (omega arith)) (omega arith)
            (λ _. (
              p,
              ap (λ c. get_elem? (put_back s.homes c) 1) out ∙ home_again s.homes (some (Some p)) (len ∙ one),
              (part.0, part.1 ∙ see.0),
            )) tt
            (λ _. (
              see.0,
              see.1,
              ahead_here me.0.classes log',
              subst (λ (k : Log E). AtFirsts me.0.classes (k ++ x ∷ [])) (sym kt.1)
                  (firsts_snoc me.0.classes r.log x see.3 (only_first me.0.classes see.1)),
              see.4,
            ))
            (λ j d ne there u.
            let k = r.sights j d there u in
            let apart : ¬ (Within x.0 d.classes) =
            λ h. r.apart j id d me.0 ne there at u fresh x.0 h inside in
            subst (λ (y : Log E). Sees name (y ++ x ∷ []) d) (sym kt.1) (
              k.0,
              k.1,
              ahead_snoc d.classes d.seen r.log x k.2 apart,
              firsts_snoc d.classes r.log x k.3 (only_outside x.0 d.classes apart),
              k.4,
            )),
        λ l' e' h' said'. (
          ap (λ (y : ℕ × (Log E × E)). has_seen (y.1.0 ++ (seat_of me.0, y.1.1) ∷ []) me.0)
              (λ i. (0, (ap (list_of l) (sym holds ∙ h') i, same_Some e e' (sym said ∙ said') i))),
          refl,
        ),
      )

  pub begins : (slots : ℕ) → slots ≡ 3 → (id : ℕ) (me : Me (Option P) (View E)) → me.0.turn ≡ Making
      → me.0.gone ≡ false → Allows Rule slots id me 16 (λ n. n) (begun (step slots 16 0 0 maths.none) me)
  begins slots one id me making fresh s r len at small = let n : ℕ = get_or s.words 16 0 in
      let kt = subst (KnowsTurn stands name_of r.holder r.log s.homes id) making (r.turns id me.0 at) in
      let see = r.sights id me.0 at fresh in
      let w : View E = turned (Holds []) me.0 in (
        w,
        takes 1 None,
        kt.2,
        rebuilt s r id me.0 w at refl refl r.log r.holder _ _ (inr kt.0)
            (ap (λ ws. set ws 16 (get_or ws 16 0)) r.word) r.short (λ e. absurd (none-some id (sym e ∙ kt.0)))
            (kt.0, sym kt.1) (λ _. see) (λ j d _. r.sights j d),
        (refl, refl),
      )

  pub looks : (slots : ℕ) → (id : ℕ) (me : Me (Option P) (View E)) → me.0.turn ≡ Idle → me.0.gone ≡ false
      → Allows Rule slots id me 16 (λ n. n) (looked (step slots 16 0 0 maths.none) me)
  looks slots id me idle fresh s r len at small =
      let n : ℕ = get_or s.words 16 0 in
      let see = r.sights id me.0 at fresh in
      let n_is : n ≡ 2 * length r.log + odd_of r.holder = ap (λ ws. get_or ws 16 0) r.word in
      let w : View E = record me.0 { told = Nothing } in
      let same : set s.words 16 n ≡ s.words = set-get_or s.words 16 0 in (
        w,
        keeps,
        tt,
        subst (λ ws. Rule record { words = ws; homes = s.homes; views = set s.views id w }) (sym same)
            (shown s r id me.0 w at refl refl idle (λ _. (see.0, see.1, see.2, see.3, tt))),
        (
          refl,
          refl,
          record {
            log = r.log;
            ahead = see.2;
            count = halves (length r.log) n r.holder n_is;
            fits = see.4;
            are = see.1;
            firsts =
                firsts_before me.0.classes me.0.seen see.2.0 (subst (AtFirsts me.0.classes) see.2.1 see.3);
          },
        ),
      )

  -- the table at the start: the first seat has the turn, and no part is in the slot
  pub starts : Rule (opening (words_with 1) (None ∷ None ∷ None ∷ []) (newcomer name))
  starts = record {
    log = [];
    holder = Some 0;
    word = refl;
    short = omega arith;
    home = λ e. absurd (none-some 0 (sym e));
    turns =
        λ j v e. (let h =
        one_item_at (newcomer name) j v e in subst (λ (x : ℕ × View E).
        KnowsTurn stands name_of (Some 0) [] (some None ∷ some None ∷ some None ∷ []) x.0 x.1.turn)
        (λ i. (sym h.0 i, h.1 i)) (refl, refl, refl));
    sights =
        λ j v e _. (let h =
        one_item_at (newcomer name) j v e in
        subst (Sees name []) h.1 (refl, ((omega arith), (λ n _ w. w), tt), ([], refl, tt), tt, tt));
    apart =
        λ i j v w ne ei ej _ _.
        absurd (ne ((one_item_at (newcomer name) i v ei).0 ∙ sym (one_item_at (newcomer name) j w ej).0));
  }
