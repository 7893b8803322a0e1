-- No body that isn't whole has more bytes than its framing lets it have.
use Rattle.std.proofs.Common.{◌≡◌, ℕ, zero, suc, ◌+◌, ◌*◌, ◌-◌, ◌<◌, ◌≤◌, Bool, true, false, List, [], ◌∷◌}
use Rattle.std.proofs.Common.{length, take, drop, refl, sym, subst, arith, length-drop, length-take}
use Rattle.std.specs.Prelude.{◌==◌, ◌&&◌, if◌then◌else◌, nat_lt, nat_le}
use Rattle.std.proofs.lemmas.Bool.Decides.{nat_tests}
use Rattle.httparse.specs.Ascii.{line_feed, carriage_return}
use Rattle.warp_request.specs.LimitsAndWords.{body_limit}
use Rattle.warp_response.specs.Statuses.{bad_request, content_too_large, header_fields_too_large}
use Rattle.warp_request.specs.declared.verdict.Framing.{Framing}
use Rattle.warp_request.specs.declared.verdict.Framing.TheVariants as framings
use Rattle.warp_request.specs.Body.{more, whole, Part, cut, wrong, past, behind_content, behind_line, body_of}
use Rattle.warp_request.specs.Body.{capped, chunk_line, chunked, chunks, line_end, line_of, section_of}
use Rattle.warp_request.specs.Body.{trailers, verdict_of}
use Rattle.conn_loop.specs.Stages.{most_of}

-- ---- the parts of a chunked body

-- a part that is cut has fewer bytes than it may have, and one that is past leaves all but these
Caps : ℕ → List ℕ → Part → Type 0
Caps limit s cut = length s < limit
Caps limit s (wrong code) = Unit {0}
Caps limit s (past n rest) = length s ≤ length rest + limit

cut_caps : (limit code : ℕ) (s : List ℕ) (b : Bool) → nat_le limit (length s) ≡ b
    → Caps limit s (if b then wrong code else cut)
unfolding Caps
cut_caps limit code s true is = tt
cut_caps limit code s false is = grind (arith, nat_tests)

capped_caps : (limit code : ℕ) (s w : List ℕ) (p : Part) → length w ≤ limit
    → Caps limit s (capped limit code s w p)
unfolding Caps
capped_caps limit code s w cut short = cut_caps limit code s (nat_le limit (length s)) refl
capped_caps limit code s w (wrong fault) short = tt
capped_caps limit code s w (past n rest) short = omega (arith, short, length-drop (length w - length rest) s)

line_caps : (s : List ℕ) → Caps 256 s (chunk_line s)
line_caps s =
    capped_caps 256 bad_request s (take 256 s) (line_of (take 256 s)) (omega (arith, length-take 256 s))

trailers_caps : (s : List ℕ) → Caps 4096 s (trailers s)
trailers_caps s =
    capped_caps 4096 header_fields_too_large s (take 4096 s) (section_of true (take 4096 s))
    (omega (arith, length-take 4096 s))

if_caps : (limit n code : ℕ) (s rest : List ℕ) (b : Bool) → length s ≤ length rest + limit
    → Caps limit s (if b then past n rest else wrong code)
unfolding Caps
if_caps limit n code s rest true x = x
if_caps limit n code s rest false x = tt

if_cut : (limit code : ℕ) (s : List ℕ) (b : Bool) → length s < limit
    → Caps limit s (if b then cut else wrong code)
unfolding Caps
if_cut limit code s true x = x
if_cut limit code s false x = tt

end_caps : (n : ℕ) (s : List ℕ) → Caps 2 s (line_end n s)
unfolding Caps line_end
end_caps n [] = omega arith
end_caps n (b ∷ []) = if_cut 2 bad_request (b ∷ []) (b == carriage_return) (omega arith)
end_caps n (b ∷ c ∷ s) =
    if_caps 2 n bad_request (b ∷ c ∷ s) s (b == carriage_return && c == line_feed) (omega arith)

-- ---- the chunks

-- how many bytes are fewer than this
Fewer : ℕ → List ℕ → Part → Type 0
Fewer bound s cut = length s < bound
Fewer bound s (wrong code) = Unit {0}
Fewer bound s (past n rest) = Unit {0}

fewer_of : (bound limit : ℕ) (s : List ℕ) (p : Part) → limit ≤ bound → Caps limit s p → Fewer bound s p
unfolding Caps Fewer
fewer_of bound limit s cut small x = omega (arith, small, x)
fewer_of bound limit s (wrong code) small x = tt
fewer_of bound limit s (past n rest) small x = tt

-- the same of what is read after some bytes
fewer_more : (bound inner extra : ℕ) (s rest : List ℕ) (p : Part) → length s ≤ length rest + extra
    → inner + extra ≤ bound → Fewer inner rest p → Fewer bound s p
unfolding Fewer
fewer_more bound inner extra s rest cut long small x = omega (arith, long, small, x)
fewer_more bound inner extra s rest (wrong code) long small x = tt
fewer_more bound inner extra s rest (past n t) long small x = tt

if_fewer : (bound code : ℕ) (s : List ℕ) (b : Bool) (p : Part) → (b ≡ false → Fewer bound s p)
    → Fewer bound s (if b then wrong code else p)
unfolding Fewer
if_fewer bound code s true p x = tt
if_fewer bound code s false p x = x refl

either_fewer : (bound : ℕ) (s : List ℕ) (b : Bool) (p q : Part) → Fewer bound s p → Fewer bound s q
    → Fewer bound s (if b then p else q)
either_fewer bound s true p q x y = x
either_fewer bound s false p q x y = y

content_fewer : (bound size inner : ℕ) (s : List ℕ) (next : List ℕ → Part) (p : Part)
    → Caps 2 (drop size s) p → size + 2 + inner ≤ bound
    → ((t : List ℕ) → Fewer inner t (next t)) → Fewer bound s (behind_content next p)
unfolding Caps Fewer
content_fewer bound size inner s next cut x small again = omega (arith, x, small, length-drop size s)
content_fewer bound size inner s next (wrong code) x small again = tt
content_fewer bound size inner s next (past n t) x small again =
    fewer_more bound inner (size + 2) s t (next t) (omega (arith, x, length-drop size s))
    (omega (arith, small)) (again t)

behind_fewer : (k sum : ℕ) (s : List ℕ) (p : Part) → Caps 256 s p → sum ≤ 1048576
    → ((more : ℕ) (t : List ℕ) → more ≤ 1048576
    → Fewer (k * 258 + (1048576 - more) + 4096) t (chunks k more t))
    → Fewer (k * 258 + 258 + (1048576 - sum) + 4096) s (behind_line (chunks k) sum p)
unfolding Caps Fewer
behind_fewer k sum s cut x small again = omega (arith, x)
behind_fewer k sum s (wrong code) x small again = tt
behind_fewer k sum s (past size rest) x small again =
    if_fewer (k * 258 + 258 + (1048576 - sum) + 4096) content_too_large s (nat_lt body_limit (sum + size))
    (if size == 0 then trailers rest
    else behind_content (chunks k (sum + size)) (line_end 0 (drop size rest)))
    (λ fits.
    let most : sum + size ≤ 1048576 = grind (arith, nat_tests, fits) in
    fewer_more (k * 258 + 258 + (1048576 - sum) + 4096) (k * 258 + 2 + (1048576 - sum) + 4096) 256 s rest
    (if size == 0 then trailers rest
    else behind_content (chunks k (sum + size)) (line_end 0 (drop size rest))) x (omega arith)
    (either_fewer (k * 258 + 2 + (1048576 - sum) + 4096) rest (size == 0) (trailers rest)
    (behind_content (chunks k (sum + size)) (line_end 0 (drop size rest)))
    (fewer_of (k * 258 + 2 + (1048576 - sum) + 4096) 4096 rest (trailers rest) (omega arith)
    (trailers_caps rest))
    (content_fewer (k * 258 + 2 + (1048576 - sum) + 4096) size
    (k * 258 + (1048576 - (sum + size)) + 4096) rest (chunks k (sum + size)) (line_end 0 (drop size rest))
    (end_caps 0 (drop size rest)) (omega (arith, most)) (λ t. again (sum + size) t most))))

chunks_fewer : (k sum : ℕ) (s : List ℕ) → sum ≤ 1048576
    → Fewer (k * 258 + (1048576 - sum) + 4096) s (chunks k sum s)
unfolding Fewer chunks
chunks_fewer zero sum s small = tt
chunks_fewer (suc k) sum s small =
    let all : suc k * 258 ≡ k * 258 + 258 = omega arith in
    subst (λ (n : ℕ). Fewer (n + (1048576 - sum) + 4096) s (behind_line (chunks k) sum (chunk_line s)))
    (sym all)
    (behind_fewer k sum s (chunk_line s) (line_caps s) small (λ more t fits. chunks_fewer k more t fits))

-- ---- whole bodies

cut_of : (total : ℕ) (p : Part) → verdict_of total p ≡ more → p ≡ cut
cut_of total cut is = refl
cut_of total (wrong code) is = cc
cut_of total (past n rest) is = cc

chunked_fewer : (s : List ℕ) (p : Part) → Fewer 271585538 s p → p ≡ cut → length s < 271585538
unfolding Fewer
chunked_fewer s cut x is = x
chunked_fewer s (wrong code) x is = cc
chunked_fewer s (past n rest) x is = cc

length_fewer : (n : ℕ) (s : List ℕ) (b : Bool) → nat_le n (length s) ≡ b
    → (if b then whole n else more) ≡ more → length s ≤ n
length_fewer n s true test is = cc
length_fewer n s false test is = grind (arith, nat_tests, test)

pub most_more : (framing : Framing) (s : List ℕ) → body_of framing s ≡ more → length s ≤ most_of framing
most_more framings.None s is = cc
most_more (framings.Length n) s is = length_fewer n s (nat_le n (length s)) refl is
most_more framings.Chunked s is =
    let few : length s < 271585538 =
    chunked_fewer s (chunked s) (chunks_fewer 1048577 0 s (omega arith)) (cut_of (length s) (chunked s) is) in
    omega (arith, few)
