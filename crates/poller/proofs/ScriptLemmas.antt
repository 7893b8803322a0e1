-- Scripts, step by step and one by one.
use Rattle.std.proofs.Common.{◌≡◌, ℕ, zero, suc, ◌+◌, ◌-◌, ◌≤◌, ◌<◌, List, [], ◌∷◌, ◌++◌, length, map, take}
use Rattle.std.proofs.Common.{drop, get_or, refl, sym, ap, ◌∙◌, subst, append_assoc, lt-ltb, cond, Bool, true}
use Rattle.std.proofs.Common.{arith}
use Rattle.std.specs.Prelude.{IsSomeAnd, Some, nat_lt, slice_get, slice_index}
use Rattle.std.proofs.lemmas.List.{append-nil, drop-drop, get_or-drop, length-drop, take_more}
use Rattle.outside.specs.Counts.{full, more_by_one}
use Rattle.outside.specs.ListenCauses.{Plan}
use Rattle.poller.specs.declared.script.Script.{Script}
use Rattle.poller.specs.declared.script.ScriptStep.{ScriptStep}
use Rattle.poller.specs.Deliveries.{limits_of}
use Rattle.poller.specs.Scripts.{AreScripts, allowed_in, pieces_in, plans_from, room_at, steps_at}

pub pieces_append : (xs ys : List ScriptStep) → pieces_in (xs ++ ys) ≡ pieces_in xs ++ pieces_in ys
pieces_append [] ys = refl
pieces_append (x ∷ xs) ys =
    ap (λ (t : List ℕ). x.piece.items ++ t) (pieces_append xs ys)
    ∙ sym (append_assoc x.piece.items (pieces_in xs) (pieces_in ys))

allowed_append : (xs ys : List ScriptStep) → allowed_in (xs ++ ys) ≡ allowed_in xs + allowed_in ys
allowed_append [] ys = omega arith
allowed_append (x ∷ xs) ys = let h = allowed_append xs ys in omega (arith, h)

-- what the first k steps and one more bring
pub pieces_more : (steps : List ScriptStep) (k : ℕ) (s : ScriptStep) → k < length steps → s ≡ get_or steps k s
    → pieces_in (take (k + 1) steps) ≡ pieces_in (take k steps) ++ s.piece.items
pieces_more steps k s inside is =
    ap pieces_in (take_more steps k s inside)
    ∙ (pieces_append (take k steps) (get_or steps k s ∷ [])
    ∙ ap (λ (x : ScriptStep). pieces_in (take k steps) ++ (x.piece.items ++ [])) (sym is)
    ∙ ap (λ (t : List ℕ). pieces_in (take k steps) ++ t) (append-nil s.piece.items))

pub allowed_more : (steps : List ScriptStep) (k : ℕ) (s : ScriptStep) → k < length steps
    → s ≡ get_or steps k s → allowed_in (take (k + 1) steps) ≡ allowed_in (take k steps) + s.allowance
allowed_more steps k s inside is =
    let a = ap allowed_in (take_more steps k s inside) in
    let b = allowed_append (take k steps) (get_or steps k s ∷ []) in
    let c : s.allowance ≡ (get_or steps k s).allowance = ap (λ (x : ScriptStep). x.allowance) is in
    omega (arith, a, b, c)

-- a word's limit is the number of its script's steps
limit_at : (scripts : List Script) (n : ℕ)
    → slice_index (map (λ (s : Script). length s.steps.items) scripts) n ≡ length (steps_at scripts n)
limit_at [] n = refl
limit_at (s ∷ ss) zero = refl
limit_at (s ∷ ss) (suc n) = limit_at ss n

pub word_limit : (scripts : List Script) (word : ℕ) → 1 ≤ word
    → slice_index (limits_of scripts) word ≡ length (steps_at scripts (word - 1))
word_limit scripts zero some = absurd (omega arith)
word_limit scripts (suc n) some =
    let e : n ≡ suc n - 1 = omega arith in
    limit_at scripts n ∙ ap (λ (k : ℕ). length (steps_at scripts k)) e

-- the script with a number is the one at that place
pub script_at : (scripts : List Script) (n : ℕ) (s : Script) → n < length scripts → s ≡ get_or scripts n s
    → (s.steps.items ≡ steps_at scripts n) × (s.room ≡ room_at scripts n)
script_at [] n s inside is = absurd (omega arith)
script_at (x ∷ xs) zero s inside is = (ap (λ (k : Script). k.steps.items) is, ap (λ (k : Script). k.room) is)
script_at (x ∷ xs) (suc n) s inside is = script_at xs n s (omega arith) is

-- the plan at a place has the number of the place, and the input of the script there
pub plan_at : (scripts : List Script) (m n : ℕ) → n < length scripts
    → slice_get (plans_from m scripts) n ≡ Some (m + n, pieces_in (steps_at scripts n))
plan_at [] m n inside = absurd (omega arith)
plan_at (s ∷ ss) m zero inside =
    let e : m ≡ m + 0 = omega arith in
    ap (λ (k : ℕ). Some (k, pieces_in s.steps.items)) e
plan_at (s ∷ ss) m (suc n) inside =
    let e : suc m + n ≡ m + suc n = omega arith in
    plan_at ss (suc m) n (omega arith) ∙ ap (λ (k : ℕ). Some (k, pieces_in (steps_at ss n))) e

-- the first of the scripts that are left is the next one
pub front_script : (scripts : List Script) (n : ℕ) (left : List Script) (s : Script)
    → left ≡ drop n scripts → 0 < length left → s ≡ get_or left 0 s
    → (s.steps.items ≡ steps_at scripts n) × (s.room ≡ room_at scripts n) × (n < length scripts)
front_script scripts n left s are some is =
    let l : length left ≡ length scripts - n = ap length are ∙ length-drop n scripts in
    let inside : n < length scripts = omega (arith, l, some) in
    let here : n + 0 ≡ n = omega arith in
    let at = script_at scripts n s inside (is ∙ (ap (λ (r : List Script). get_or r 0 s) are
    ∙ (get_or-drop n scripts 0 s ∙ ap (λ (k : ℕ). get_or scripts k s) here))) in
    (at.0, at.1, inside)

-- the scripts that are left once the first of them was given
pub goes_on : (scripts scripts' : List Script) (n m : ℕ) (left : List Script) → left ≡ drop n scripts
    → scripts ≡ scripts' → m ≡ n + 1 → drop 1 left ≡ drop m scripts'
goes_on scripts scripts' n m left are same is =
    ap (drop 1) are ∙ (drop-drop 1 n scripts ∙ (λ i. drop (sym is i) (same i)))

-- a count of scripts rises by one
pub more_plain : (scripts : List Script) (n : ℕ) → AreScripts scripts → n < length scripts
    → more_by_one n ≡ n + 1
more_plain scripts n are inside =
    let few = are.count in
    let b : nat_lt n full ≡ true = lt-ltb n full (omega (arith, few, inside)) in
    ap (λ (t : Bool). cond t (n + 1) n) b

-- a link with this number and this input has the plan at this place
pub planned : (scripts : List Script) (n m : ℕ) (input : List ℕ)
    → n < length scripts → m ≡ n → input ≡ pieces_in (steps_at scripts n)
    → IsSomeAnd (slice_get (plans_from 0 scripts) n) (λ p. Some (m, input) ≡ Some p)
planned scripts n m input inside number is =
    let e : 0 + n ≡ n = omega arith in
    subst (λ o. IsSomeAnd o (λ (p : Plan). Some (m, input) ≡ Some p)) (sym (plan_at scripts 0 n inside))
    (λ i. Some ((number ∙ sym e) i, is i))
