-- To be believed: the tags of jobs, lists of lists of numbers. What contracts read of a tag is in `Readers`.
use Rattle.std.specs.Prelude.{ℕ, List, [], ◌∷◌, map, Option, Some, None}
use Rattle.outside.specs.ListenCauses.{Plan}
use Rattle.warp_jobs.specs.Held.{Held}
use Rattle.warp_jobs.specs.HeldListener.{HeldListener}
use Rattle.warp_jobs.specs.declared.job.Job.{Job}
use Rattle.warp_jobs.specs.declared.job.Job.TheVariants.{Serve, Listen}

-- a plan, its number before its input; none where it isn't told
abbrev pub plan_list : Option Plan → List ℕ
plan_list None = []
plan_list (Some p) = p.0 ∷ p.1

-- plans, one list each
abbrev pub plan_lists : Option (List Plan) → List (List ℕ)
plan_lists None = []
plan_lists (Some ps) = map (λ p. p.0 ∷ p.1) ps

-- the number of a cache's entry, if any
abbrev pub entry_list : Option ℕ → List ℕ
entry_list None = []
entry_list (Some k) = k ∷ []

-- The tag of a connection's job: its opening, the number of this registration, the watch over it, the entry
-- of the lease that it holds, the moments of its answers so far, and its link's plan
abbrev pub serve_tag : Held → List (List ℕ)
serve_tag h =
    (h.opening.number ∷ h.opening.fd ∷ [])
    ∷ (h.number ∷ [])
    ∷ (h.watch.slot ∷ h.watch.number ∷ [])
    ∷ entry_list h.conn.entry
    ∷ h.conn.moments
    ∷ plan_list h.link.plan
    ∷ []

-- The tag of the listener's job: its opening, how many links it gave, the place of its next link among the
-- plans, and the plans. Its first list has four numbers, and that of a connection two
abbrev pub listen_tag : HeldListener → List (List ℕ)
listen_tag h =
    (h.opening.number ∷ h.opening.fd ∷ h.accepted ∷ h.listener.accepted ∷ []) ∷ plan_lists h.listener.plans

-- the tag of a job
abbrev pub tag_of : {P F L M X : Type 0} → Job P F L M X → List (List ℕ)
tag_of (Serve box) = serve_tag box.value
tag_of (Listen box) = listen_tag box.value
