use Rattle.std.proofs.Common.{◌≡◌, ℕ, List, length}
use Rattle.std.specs.List.{range_with_len}
use Rattle.outside.specs.ListenCauses.{Plan}
use Rattle.conn_loop.specs.Answers.{answers_of, finals_of}
use Rattle.conn_loop.specs.Replying.{folder_replies}
use Rattle.warp_load.specs.LoadFolder.{load_folder}
use Rattle.warp_load.specs.LoadTotals.{load_answers, load_moments}
use Rattle.warp_load.specs.Requests.{load_input}
use Rattle.warp_load.proofs.LoadLists.{sum_by-map}
use Rattle.warp_load.proofs.laws.sums_are_over_the_plans.Goals as goal

pub returns-clause-requests : goal.returns-clause-requests
returns-clause-requests c seed connections requests =
    sum_by-map (λ (plan : Plan). finals_of plan.1) (λ i. (i, load_input seed requests i))
    (range_with_len 0 connections)

pub returns-clause-bytes : goal.returns-clause-bytes
unfolding load_answers
returns-clause-bytes c seed connections requests =
    sum_by-map (λ (plan : Plan). length (answers_of (folder_replies load_folder) plan.1 load_moments))
    (λ i. (i, load_input seed requests i)) (range_with_len 0 connections)
