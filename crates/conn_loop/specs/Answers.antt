-- To be believed: the answers to the bytes of a connection, as recursions over the whole list: request after
-- request, at the moments of its clock.
use Rattle.std.specs.Prelude.{◌≡◌, ℕ, zero, suc, ◌+◌, Bool, true, false, not, ◌||◌, List, [], ◌∷◌, ◌++◌, drop}
use Rattle.std.specs.Prelude.{if◌then◌else◌, ◌==◌}
use Rattle.conn_loop.specs.FirstRequest.{FirstRequest, unfinished, refused, whole, first_request, interim_of}
use Rattle.warp_request.specs.Verdict.{Asked}
use Rattle.warp_response.specs.declared.response.LastWord.{LastWord}
use Rattle.warp_response.specs.declared.response.LastWord.TheVariants.{Nothing, Close, KeepAlive}
use Rattle.warp_response.specs.Reply.{Reply}
use Rattle.warp_response.specs.Text.{answer_text, refusal_text}

-- how many final answers a connection gives
abbrev pub limit : ℕ
limit = 1000

-- an answer closes the connection where the request doesn't keep it, or where no final answer may follow
unfoldable pub closes : Asked → ℕ → Bool
closes a left = not a.keeps || left == 0

-- what an answer says of the connection, where this many final answers may follow
unfoldable pub last_word : Asked → ℕ → LastWord
last_word a left = if closes a left then Close else (if a.minor == 0 then KeepAlive else Nothing)

-- what is answered after the interim answer, at the first of these moments, where this many final
-- answers may follow; then come the answers to the bytes after the request, whose length they are
-- given, at the moments that are left
unfoldable pub answers_at : (Asked → Reply) → FirstRequest → ℕ → List ℕ → (ℕ → List ℕ → List ℕ) → List ℕ
answers_at reply unfinished left moments behind = []
answers_at reply (refused code) left [] behind = []
answers_at reply (refused code) left (moment ∷ moments) behind = refusal_text code moment
answers_at reply (whole a len) left [] behind = []
answers_at reply (whole a len) left (moment ∷ moments) behind =
    answer_text (reply a) moment (last_word a left) ++ (if closes a left then [] else behind len moments)

-- The answers to s at these moments, where this many final answers may be given: the interim answer, which
-- takes no moment, and then the final one.
unfoldable pub answers_within : (Asked → Reply) → ℕ → List ℕ → List ℕ → List ℕ
answers_within reply zero s moments = []
answers_within reply (suc left) s moments =
    interim_of s ++ answers_at reply (first_request s) left moments
    (λ len later. answers_within reply left (drop len s) later)

-- the same without the interim answer at the front
unfoldable pub answers_behind : (Asked → Reply) → ℕ → List ℕ → List ℕ → List ℕ
answers_behind reply zero s moments = []
answers_behind reply (suc left) s moments =
    answers_at reply (first_request s) left moments
    (λ len later. answers_within reply left (drop len s) later)

-- the answers to all bytes of a connection at these moments
abbrev pub answers_of : (Asked → Reply) → List ℕ → List ℕ → List ℕ
answers_of reply s moments = answers_within reply limit s moments

unfoldable pub finals_at : FirstRequest → ℕ → (ℕ → ℕ) → ℕ
finals_at unfinished left behind = 0
finals_at (refused code) left behind = 1
finals_at (whole a len) left behind = 1 + (if closes a left then 0 else behind len)

unfoldable pub finals_within : ℕ → List ℕ → ℕ
finals_within zero s = 0
finals_within (suc left) s = finals_at (first_request s) left (λ len. finals_within left (drop len s))

-- how many final answers the bytes call for
abbrev pub finals_of : List ℕ → ℕ
finals_of s = finals_within limit s

unfoldable pub closed_at : FirstRequest → ℕ → (ℕ → Bool) → Bool
closed_at unfinished left behind = false
closed_at (refused code) left behind = true
closed_at (whole a len) left behind = if closes a left then true else behind len

unfoldable pub closed_within : ℕ → List ℕ → Bool
closed_within zero s = true
closed_within (suc left) s = closed_at (first_request s) left (λ len. closed_within left (drop len s))

-- the last final answer that the bytes call for closes the connection
abbrev pub IsClosed : List ℕ → Type 0
IsClosed s = closed_within limit s ≡ true

-- it does not
abbrev pub IsOpen : List ℕ → Type 0
IsOpen s = closed_within limit s ≡ false

unfoldable pub rest_at : List ℕ → FirstRequest → ℕ → (ℕ → List ℕ) → List ℕ
rest_at s unfinished left behind = s
rest_at s (refused code) left behind = s
rest_at s (whole a len) left behind = if closes a left then drop len s else behind len

unfoldable pub rest_within : ℕ → List ℕ → List ℕ
rest_within zero s = s
rest_within (suc left) s = rest_at s (first_request s) left (λ len. rest_within left (drop len s))

-- the bytes after the last whole request
abbrev pub rest_of : List ℕ → List ℕ
rest_of s = rest_within limit s

-- a list begins with another
abbrev pub BeginsWith : List ℕ → List ℕ → Type 0
BeginsWith all front = (rest : List ℕ) × (all ≡ front ++ rest)
