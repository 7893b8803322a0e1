-- Lists over the numbers of connections and requests: one more of them, and what all scripts have.
use Rattle.std.proofs.Common.{◌≡◌, ℕ, zero, suc, ◌+◌, ◌*◌, ◌<◌, ◌≤◌, ◌^◌, List, [], ◌∷◌, ◌++◌, length, map}
use Rattle.std.proofs.Common.{refl, sym, ap, ◌∙◌, arith, add-one, zero-add, zero-mul, suc-mul, add_comm}
use Rattle.std.proofs.Common.{append-nil, lit<, lit≤, length-append}
use Rattle.std.specs.Prelude.{All, sum_by}
use Rattle.std.specs.List.{flat_map, range_with_len}
use Rattle.std.proofs.lemmas.Grind.{flat_map-append}
use Rattle.std.proofs.lemmas.List.{length-map, map-append}
use Rattle.std.proofs.lemmas.List.Elements.{All-nil, All-cons}
use Rattle.std.proofs.lemmas.List.FromFn.{length-map-range_with_len}
use Rattle.std.proofs.lemmas.List.Sums.{sum_by-append, sum_by-cons}
use Rattle.outside.specs.ListenCauses.{Plan}
use Rattle.poller.specs.declared.script.Script.{Script}
use Rattle.poller.specs.Scripts.{plans_from, pieces_in, AreScripts}
use Rattle.warp_load.specs.declared.request_kind.RequestKind.{RequestKind}
use Rattle.warp_load.specs.declared.request_kind.RequestKind.TheVariants.{Index, Text, TextHead, Big, Absent}
use Rattle.warp_load.specs.declared.request_kind.RequestKind.TheVariants.{Folder, Posted, Browser}
use Rattle.warp_load.specs.LoadScripts.{answer_length, load_script, script_shown, step_shown, steps_for}
use Rattle.warp_load.specs.Requests.{load_input, request_bytes, request_kind, request_kinds}
use Rattle.warp_load.proofs.CutLemmas.{length-steps_within, pieces-steps_within, pieces_in-shown, pieces_of}

-- ---- one number more

from_next : (a n : ℕ) → range_with_len a (suc n) ≡ range_with_len a n ++ (a + n) ∷ []
from_next a zero = let e : a ≡ a + 0 = omega arith in ap (λ (x : ℕ). x ∷ []) e
from_next a (suc n) =
    let e : a + 1 + n ≡ a + suc n = omega arith in
    ap (λ (xs : List ℕ). a ∷ xs) (from_next (a + 1) n ∙ ap (λ (x : ℕ). range_with_len (a + 1) n ++ x ∷ []) e)

pub numbers_next : (n : ℕ) → range_with_len 0 (n + 1) ≡ range_with_len 0 n ++ n ∷ []
numbers_next n =
    let e : n + 1 ≡ suc n = omega arith in
    let z : 0 + n ≡ n = omega arith in
    ap (λ (m : ℕ). range_with_len 0 m) e ∙ from_next 0 n ∙ ap (λ (x : ℕ). range_with_len 0 n ++ x ∷ []) z

pub map_next : {X : Type 0} (f : ℕ → X) (n : ℕ)
    → map f (range_with_len 0 (n + 1)) ≡ map f (range_with_len 0 n) ++ f n ∷ []
map_next {X} f n =
    ap (λ (ns : List ℕ). map f ns) (numbers_next n) ∙ map-append f (range_with_len 0 n) (n ∷ [])

pub sum_next : (f : ℕ → ℕ) (n : ℕ) → sum_by f (range_with_len 0 (n + 1)) ≡ sum_by f (range_with_len 0 n) + f n
sum_next f n =
    ap (λ (ns : List ℕ). sum_by f ns) (numbers_next n)
    ∙ sum_by-append f (range_with_len 0 n) (n ∷ [])
    ∙ ap (λ (m : ℕ). sum_by f (range_with_len 0 n) + m) (zero-add (f n))

pub sum_same : (r a n : ℕ) → sum_by (λ i. r) (range_with_len a n) ≡ n * r
sum_same r a zero = sym (zero-mul r)
sum_same r a (suc n) =
    let later = sum_same r (a + 1) n in
    sum_by-cons (λ i. r) a (range_with_len (a + 1) n) ∙ ap (λ (m : ℕ). r + m) later
    ∙ add_comm r (n * r) ∙ sym (suc-mul n r)

-- a sum over what a function makes of numbers
pub sum_by-map : {X : Type 0} (g : X → ℕ) (f : ℕ → X) (ns : List ℕ)
    → sum_by g (map f ns) ≡ sum_by (λ n. g (f n)) ns
sum_by-map {X} g f [] = refl
sum_by-map {X} g f (n ∷ ns) =
    sum_by-cons g (f n) (map f ns) ∙ ap (λ (m : ℕ). g (f n) + m) (sum_by-map g f ns)
    ∙ sym (sum_by-cons (λ k. g (f k)) n ns)

-- no request
pub input_none : (seed i : ℕ) → load_input seed 0 i ≡ []
unfolding load_input
input_none seed i = refl

-- one request more
pub input_next : (seed n i : ℕ)
    → load_input seed (n + 1) i ≡ load_input seed n i ++ request_bytes (request_kind seed i n)
unfolding load_input
input_next seed n i =
    ap (λ (ks : List RequestKind). flat_map request_bytes ks) (map_next (λ j. request_kind seed i j) n)
    ∙ flat_map-append request_bytes (request_kinds seed n i) (request_kind seed i n ∷ [])
    ∙ ap (λ (t : List ℕ). load_input seed n i ++ t) (append-nil (request_bytes (request_kind seed i n)))

pub lengths_next : (seed n i : ℕ) → sum_by answer_length (request_kinds seed (n + 1) i)
    ≡ sum_by answer_length (request_kinds seed n i) + answer_length (request_kind seed i n)
lengths_next seed n i =
    ap (λ (ks : List RequestKind). sum_by answer_length ks) (map_next (λ j. request_kind seed i j) n)
    ∙ sum_by-append answer_length (request_kinds seed n i) (request_kind seed i n ∷ [])
    ∙ ap (λ (m : ℕ). sum_by answer_length (request_kinds seed n i) + m)
    (zero-add (answer_length (request_kind seed i n)))

-- ---- how long requests and answers are

pub length-request_bytes : (k : RequestKind) → length (request_bytes k) ≤ 600
unfolding request_bytes
length-request_bytes Index = lit≤ tt
length-request_bytes Text = lit≤ tt
length-request_bytes TextHead = lit≤ tt
length-request_bytes Big = lit≤ tt
length-request_bytes Absent = lit≤ tt
length-request_bytes Folder = lit≤ tt
length-request_bytes Posted = lit≤ tt
length-request_bytes Browser = lit≤ tt

pub request_bytes-some : (k : RequestKind) → 0 < length (request_bytes k)
unfolding request_bytes
request_bytes-some Index = lit< tt
request_bytes-some Text = lit< tt
request_bytes-some TextHead = lit< tt
request_bytes-some Big = lit< tt
request_bytes-some Absent = lit< tt
request_bytes-some Folder = lit< tt
request_bytes-some Posted = lit< tt
request_bytes-some Browser = lit< tt

pub length-flat_map-request_bytes : (ks : List RequestKind)
    → length (flat_map request_bytes ks) ≤ 600 * length ks
length-flat_map-request_bytes [] = omega arith
length-flat_map-request_bytes (k ∷ ks) = omega (
  arith,
  length-append (request_bytes k) (flat_map request_bytes ks),
  length-request_bytes k,
  length-flat_map-request_bytes ks,
)

pub length-load_input : (seed requests i : ℕ) → length (load_input seed requests i) ≤ 600 * requests
unfolding load_input
length-load_input seed requests i =
    let few : length (flat_map request_bytes (request_kinds seed requests i))
    ≤ 600 * length (request_kinds seed requests i) =
    length-flat_map-request_bytes (request_kinds seed requests i) in
    let count : length (request_kinds seed requests i) ≡ requests =
    length-map-range_with_len (λ j. request_kind seed i j) 0 requests in
    omega arith

pub answer_length-le : (k : RequestKind) → answer_length k ≤ 40141
unfolding answer_length
answer_length-le Index = lit≤ tt
answer_length-le Text = lit≤ tt
answer_length-le TextHead = lit≤ tt
answer_length-le Big = lit≤ tt
answer_length-le Absent = lit≤ tt
answer_length-le Folder = lit≤ tt
answer_length-le Posted = lit≤ tt
answer_length-le Browser = lit≤ tt

-- ---- what all scripts have

-- a script that is one of the load brings its input
brings : (seed requests i : ℕ) (s : Script) → script_shown s ≡ load_script seed requests i
    → pieces_in s.steps.items ≡ load_input seed requests i
brings seed requests i s same =
    pieces_in-shown s.steps.items
    ∙ ap (λ (x : List (List ℕ × ℕ) × ℕ). pieces_of x.0) same
    ∙ pieces-steps_within seed i (length (load_input seed requests i)) 0
    (load_input seed requests i) (omega arith)

-- and has few steps
few_steps : (seed requests i : ℕ) (s : Script) → script_shown s ≡ load_script seed requests i
    → requests ≤ 1000 → length s.steps.items < 2 ^ 32
few_steps seed requests i s same small =
    let input = load_input seed requests i in
    let count : length (map step_shown s.steps.items) ≡ length (steps_for seed i 0 input) =
    ap (λ (x : List (List ℕ × ℕ) × ℕ). length x.0) same in
    omega (
      arith,
      length-map s.steps.items step_shown,
      count,
      length-steps_within seed i (length input) 0 input,
      length-load_input seed requests i,
      small,
    )

pub plans_are : (seed requests a n : ℕ) (scripts : List Script)
    → map script_shown scripts ≡ map (λ i. load_script seed requests i) (range_with_len a n)
    → plans_from a scripts ≡ map (λ i. (i, load_input seed requests i)) (range_with_len a n)
plans_are seed requests a zero [] same = refl
plans_are seed requests a zero (s ∷ ss) same = cc
plans_are seed requests a (suc n) [] same = cc
plans_are seed requests a (suc n) (s ∷ ss) same =
    let first : script_shown s ≡ load_script seed requests a = cc in
    let others : map script_shown ss ≡ map (λ i. load_script seed requests i) (range_with_len (a + 1) n) =
    cc in
    let later = plans_are seed requests (a + 1) n ss others in
    ap (λ (input : List ℕ). (a, input) ∷ plans_from (suc a) ss) (brings seed requests a s first)
    ∙ ap (λ (m : ℕ). (a, load_input seed requests a) ∷ plans_from m ss) (sym (add-one a))
    ∙ ap (λ (plans : List Plan). (a, load_input seed requests a) ∷ plans) later

lengths_fit : (seed requests a n : ℕ) (scripts : List Script)
    → map script_shown scripts ≡ map (λ i. load_script seed requests i) (range_with_len a n)
    → requests ≤ 1000 → All (λ (s : Script). length s.steps.items < 2 ^ 32) scripts
lengths_fit seed requests a zero [] same small = All-nil (λ (t : Script). length t.steps.items < 2 ^ 32)
lengths_fit seed requests a zero (s ∷ ss) same small = cc
lengths_fit seed requests a (suc n) [] same small = All-nil (λ (t : Script). length t.steps.items < 2 ^ 32)
lengths_fit seed requests a (suc n) (s ∷ ss) same small =
    let first : script_shown s ≡ load_script seed requests a = cc in
    let others : map script_shown ss ≡ map (λ i. load_script seed requests i) (range_with_len (a + 1) n) =
    cc in
    All-cons (λ (t : Script). length t.steps.items < 2 ^ 32) s ss (few_steps seed requests a s first small)
    (lengths_fit seed requests (a + 1) n ss others small)

pub scripts_fit : (seed requests n : ℕ) (scripts : List Script)
    → map script_shown scripts ≡ map (λ i. load_script seed requests i) (range_with_len 0 n)
    → requests ≤ 1000 → n ≤ 4000 → AreScripts scripts
scripts_fit seed requests n scripts same small few =
    let count : length (map script_shown scripts)
    ≡ length (map (λ i. load_script seed requests i) (range_with_len 0 n)) = ap length same in
    record {
      count = omega (
        arith,
        length-map scripts script_shown,
        count,
        length-map-range_with_len (λ i. load_script seed requests i) 0 n,
        few,
      );
      lengths = lengths_fit seed requests 0 n scripts same small;
    }
