-- Histories of a queue, with one move more or cut in two.
use Rattle.std.proofs.Common.{◌≡◌, ℕ, ◌≤◌, List, [], ◌∷◌, ◌++◌, length, refl, sym, ap, ◌∙◌, arith}
use Rattle.std.proofs.lemmas.List.{length-append, append-nil, append_assoc}
use Rattle.reg_keys.specs.declared.event.EventName.{EventName}
use Rattle.ready_queue.specs.declared.rule.Move.{Move}
use Rattle.ready_queue.specs.declared.rule.Move.TheVariants.{Put, Taken}
use Rattle.ready_queue.specs.History.{QueueLog, after, behind, held_from, MayMove, MayMoveOn, put_in}
use Rattle.ready_queue.specs.History.{taken_in}

pub held_snoc : (held : List EventName) (l : QueueLog) (m : ℕ × Move)
    → held_from held (l ++ m ∷ []) ≡ after (held_from held l) m.1
held_snoc held [] m = refl
held_snoc held (k ∷ ks) m = held_snoc (after held k.1) ks m

pub legal_snoc : (capacity : ℕ) (held : List EventName) (l : QueueLog) (m : ℕ × Move)
    → MayMoveOn capacity held l → MayMove capacity (held_from held l) m.1
    → MayMoveOn capacity held (l ++ m ∷ [])
legal_snoc capacity held [] m legal may = (may, tt)
legal_snoc capacity held (k ∷ ks) m legal may =
    (legal.0, legal_snoc capacity (after held k.1) ks m legal.1 may)

-- what comes first in a history is one
pub legal_before : (capacity : ℕ) (held : List EventName) (l more : QueueLog)
    → MayMoveOn capacity held (l ++ more) → MayMoveOn capacity held l
legal_before capacity held [] more legal = tt
legal_before capacity held (m ∷ ms) more legal =
    (legal.0, legal_before capacity (after held m.1) ms more legal.1)

-- what was taken, and then what is held, is what was held and then what was put
pub in_order : (capacity : ℕ) (held : List EventName) (l : QueueLog) → MayMoveOn capacity held l
    → taken_in l ++ held_from held l ≡ held ++ put_in l
in_order capacity held [] legal = sym (append-nil held)
in_order capacity held ((n, Put e) ∷ ms) legal =
    in_order capacity (held ++ e ∷ []) ms legal.1 ∙ append_assoc held (e ∷ []) (put_in ms)
in_order capacity held ((n, Taken e) ∷ ms) legal =
    ap (λ (l : List EventName). e ∷ l) (in_order capacity (behind held) ms legal.1)
    ∙ ap (λ (l : List EventName). l ++ put_in ms) (sym legal.0)

pub at_most : (capacity : ℕ) (held : List EventName) (l : QueueLog) → length held ≤ capacity
    → MayMoveOn capacity held l → length (held_from held l) ≤ capacity
at_most capacity held [] most legal = most
at_most capacity held ((n, Put e) ∷ ms) most legal =
    at_most capacity (held ++ e ∷ []) ms (let a =
    legal.0 in omega (arith, length-append held (e ∷ []))) legal.1
at_most capacity held ((n, Taken e) ∷ ms) most legal =
    at_most capacity (behind held) ms (let a = ap length legal.0 in omega arith) legal.1
