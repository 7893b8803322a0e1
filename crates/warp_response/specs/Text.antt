-- To be believed: the bytes of whole answers.
use Rattle.std.specs.Prelude.{ℕ, List, ◌++◌, codes}
use Rattle.warp_response.specs.declared.response.LastWord.{LastWord}
use Rattle.warp_response.specs.declared.response.LastWord.TheVariants.{Close}
use Rattle.warp_response.specs.Head.{head_text}
use Rattle.warp_response.specs.Reply.{Reply, head_of, sent_bytes, refusal_reply}

-- an answer: the head, and the content where it is sent
abbrev pub answer_text : Reply → ℕ → LastWord → List ℕ
answer_text reply moment last = head_text (head_of reply) moment last ++ sent_bytes reply.content

-- the refusal of a request, which closes the connection
abbrev pub refusal_text : ℕ → ℕ → List ℕ
refusal_text status moment = answer_text (refusal_reply status) moment Close

-- the interim answer, which has no fields
abbrev pub interim_text : List ℕ
interim_text = codes "HTTP/1.1 100 Continue\r\n\r\n"
