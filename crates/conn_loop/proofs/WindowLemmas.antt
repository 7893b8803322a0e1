-- The bytes that lie in a room from a place on.
use Rattle.std.proofs.Common.{◌≡◌, ℕ, ◌+◌, ◌-◌, ◌≤◌, List, [], ◌++◌, length, take, drop, Option, Some, None}
use Rattle.std.proofs.Common.{IfSome, refl, sym, ap, ◌∙◌, subst, arith}
use Rattle.std.specs.Prelude.{IsSomeAnd}
use Rattle.std.proofs.lemmas.List.{drop-take, drop-drop, length-take, take-take}
use Rattle.std.proofs.Math.Seq.{take-add}
use Rattle.outside.specs.declared.link.ReadOut.{ReadOut}
use Rattle.outside.specs.declared.link.ReadOut.TheVariants.{Got, End, NotYet, Failed}
use Rattle.outside.specs.FileCauses.{PartWithin, ReadsFrom}
use Rattle.outside.specs.Folder.{Folder, file_at}
use Rattle.outside.specs.declared.files.PartOut.{PartOut}
use Rattle.outside.specs.declared.files.PartOut.TheVariants as Parts
use Rattle.outside.specs.Causes.{bytes_got, GivesWithin, LinkTold, Read}
use Rattle.conn_loop.specs.Moves.{Takes, TakesPart, HasPart, HasSome, IsPartOf, got_len, part_len}

-- a window that begins later
pub window_skip : (n s e : ℕ) (xs : List ℕ) → s + n ≤ e
    → take (e - (s + n)) (drop (s + n) xs) ≡ drop n (take (e - s) (drop s xs))
window_skip n s e xs fits =
    let m = e - (s + n) in
    let split : e - s ≡ n + m = omega arith in
    sym (ap (λ (k : ℕ). drop n (take k (drop s xs))) split ∙ drop-take n m (drop s xs)
    ∙ ap (λ (t : List ℕ). take m t) (drop-drop n s xs))

-- a window that is skipped whole
pub window_gone : (n s e : ℕ) (xs : List ℕ) → s + n ≡ e → [] ≡ drop n (take (e - s) (drop s xs))
window_gone n s e xs is =
    let none : 0 ≡ e - (s + n) = omega (arith, is) in
    ap (λ (k : ℕ). take k (drop (s + n) xs)) none ∙ window_skip n s e xs (omega (arith, is))

-- where the front of a room stays, so does a window in it
pub window_kept : (s len : ℕ) (xs ys : List ℕ) → take (s + len) xs ≡ take (s + len) ys
    → take len (drop s xs) ≡ take len (drop s ys)
window_kept s len xs ys same =
    sym (drop-take s len xs) ∙ ap (λ (t : List ℕ). drop s t) same ∙ drop-take s len ys

-- a window, and a piece of n bytes after it
pub window_more : (s len n : ℕ) (xs ys old : List ℕ) → take (s + len) ys ≡ take (s + len) xs
    → take len (drop s xs) ≡ old
    → take (len + n) (drop s ys) ≡ old ++ take n (drop (s + len) ys)
window_more s len n xs ys old same was =
    take-add len n (drop s ys)
    ∙ ap (λ (t : List ℕ). t ++ take n (drop len (drop s ys))) (window_kept s len ys xs same ∙ was)
    ∙ ap (λ (t : List ℕ). old ++ take n t) (drop-drop len s ys)

-- what a read gave
piece_len : (out : ReadOut) (buf : List ℕ) → GivesWithin out buf → length (bytes_got out buf) ≡ got_len out
piece_len (Got n) buf within = omega (arith, length-take n buf, within.0, within.1)
piece_len End buf within = refl
piece_len NotYet buf within = refl
piece_len Failed buf within = refl

piece_some : (out : ReadOut) (buf : List ℕ) → GivesWithin out buf → HasSome out (bytes_got out buf)
piece_some (Got n) buf within = omega (arith, length-take n buf, within.0, within.1)
piece_some End buf within = tt
piece_some NotYet buf within = tt
piece_some Failed buf within = tt

piece_is : (out : ReadOut) (buf : List ℕ) → take (got_len out) buf ≡ bytes_got out buf
piece_is (Got n) buf = refl
piece_is End buf = refl
piece_is NotYet buf = refl
piece_is Failed buf = refl

-- a read after a window
pub window_takes : (out : ReadOut) (s len : ℕ) (xs ys old : List ℕ) (k l : LinkTold)
    → take (s + len) ys ≡ take (s + len) xs → take len (drop s xs) ≡ old
    → GivesWithin out (drop (s + len) ys) → Read out (bytes_got out (drop (s + len) ys)) k l
    → Takes out old (take (len + got_len out) (drop s ys)) k l
window_takes out s len xs ys old k l same was within read = record {
  piece = bytes_got out (drop (s + len) ys);
  grown =
      window_more s len (got_len out) xs ys old same was
      ∙ ap (λ (t : List ℕ). old ++ t) (piece_is out (drop (s + len) ys));
  read = read;
  long = piece_len out (drop (s + len) ys) within;
  some = piece_some out (drop (s + len) ys) within;
}

-- where the front stays, so does a shorter one
pub front_kept : (n m : ℕ) (xs ys : List ℕ) → n ≤ m → take m ys ≡ xs → take n ys ≡ take n xs
front_kept n m xs ys fits same = sym (take-take n m ys fits) ∙ ap (λ (t : List ℕ). take n t) same

-- what a read of a file gave
part_piece : (out : PartOut) (n : ℕ) (buf : List ℕ) → PartWithin out (take n buf)
    → length (take (part_len out) buf) ≡ part_len out
part_piece (Parts.Got k) n buf within = omega (arith, length-take k buf, length-take n buf, within.1)
part_piece Parts.Failed n buf within = refl

part_few : (out : PartOut) (n : ℕ) (buf : List ℕ) → PartWithin out (take n buf) → part_len out ≤ n
part_few (Parts.Got k) n buf within = omega (arith, length-take n buf, within.1)
part_few Parts.Failed n buf within = omega arith

part_some : (out : PartOut) (n : ℕ) (buf : List ℕ) → PartWithin out (take n buf)
    → HasPart out (take (part_len out) buf)
part_some (Parts.Got k) n buf within = omega (arith, length-take k buf, length-take n buf, within.0, within.1)
part_some Parts.Failed n buf within = tt

part_is : (out : PartOut) (n : ℕ) (buf path : List ℕ) (at : ℕ) (folder : Option Folder)
    → PartWithin out (take n buf) → IfSome folder (λ f. ReadsFrom f path at (take n buf) out)
    → IfSome folder (λ f. IsPartOf out f path at (take (part_len out) buf))
part_is out n buf path at None within reads = tt
part_is (Parts.Got k) n buf path at (Some f) within reads =
    subst (λ (v : List ℕ). IsSomeAnd (file_at f path) (λ c. v ≡ take k (drop at c.0)))
    (take-take k n buf (omega (arith, length-take n buf, within.1))) reads
part_is Parts.Failed n buf path at (Some f) within reads = tt

-- a read of a file after a window
pub window_part : (folder : Option Folder) (path : List ℕ)
    (at n : ℕ) (out : PartOut) (s len : ℕ) (xs ys old : List ℕ)
    → take (s + len) ys ≡ take (s + len) xs → take len (drop s xs) ≡ old
    → PartWithin out (take n (drop (s + len) ys))
    → IfSome folder (λ f. ReadsFrom f path at (take n (drop (s + len) ys)) out)
    → TakesPart folder path at n out old (take (len + part_len out) (drop s ys))
window_part folder path at n out s len xs ys old same was within reads = record {
  piece = take (part_len out) (drop (s + len) ys);
  grown = window_more s len (part_len out) xs ys old same was;
  long = part_piece out n (drop (s + len) ys) within;
  few = omega (arith, part_piece out n (drop (s + len) ys) within, part_few out n (drop (s + len) ys) within);
  some = part_some out n (drop (s + len) ys) within;
  is = part_is out n (drop (s + len) ys) path at folder within reads;
}
