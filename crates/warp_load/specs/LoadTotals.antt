-- To be believed: what serving the load adds up to, by the definition of a connection's answers alone.
use Rattle.std.specs.Prelude.{ℕ, List, length, replicate, sum_by}
use Rattle.std.specs.List.{range_with_len}
use Rattle.conn_loop.specs.Answers.{answers_of, finals_of}
use Rattle.conn_loop.specs.Replying.{folder_replies}
use Rattle.warp_load.specs.LoadFolder.{load_folder, load_moment}
use Rattle.warp_load.specs.Requests.{load_input}

-- the moments of a clock that stands: as many as one connection gets final answers at most
abbrev pub load_moments : List ℕ
load_moments = replicate 1000 load_moment

-- what is answered to connection i with the folder of the load
unfoldable pub load_answers : (seed requests i : ℕ) → List ℕ
load_answers seed requests i =
    answers_of (folder_replies load_folder) (load_input seed requests i) load_moments

-- how many final answers all connections get, and how many bytes all answers have; no thread, descriptor or
-- event stands in it
abbrev pub load_total : (seed connections requests : ℕ) → ℕ × ℕ
load_total seed connections requests = (
  sum_by (λ i. finals_of (load_input seed requests i)) (range_with_len 0 connections),
  sum_by (λ i. length (load_answers seed requests i)) (range_with_len 0 connections),
)
