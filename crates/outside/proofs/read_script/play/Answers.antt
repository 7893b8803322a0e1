use Rattle.std.proofs.Common.{◌≡◌, ◌≢◌, ℕ, ◌<◌, ◌+◌, ◌-◌, get_or, List, ◌∷◌, ◌∙◌, length, take, drop, min}
use Rattle.std.proofs.Common.{sym, ap, subst, arith}
use Rattle.std.proofs.lemmas.List.{drop_more}
use Rattle.outside.specs.declared.read_script.ReadEvent.{ReadEvent}
use Rattle.outside.specs.declared.read_script.ReadEvent.TheVariants as Events
use Rattle.outside.specs.ReadScript.{IsPlace, IsWithin}
use Rattle.outside.proofs.ReadScriptLemmas.{next_place, part_gives, part_plays}
use Rattle.outside.proofs.read_script.play.Goals as goal

-- the event at a place is the first of those that are left there
head_is : (events : List ReadEvent) (done : ℕ) (found event : ReadEvent) → done < length events
    → found ≡ get_or events done found → found ≡ event
    → drop done events ≡ event ∷ drop (done + 1) events
head_is events done found event inside at is =
    drop_more events done found inside ∙ ap (λ (e : ReadEvent). e ∷ drop (done + 1) events) (sym at ∙ is)

pub returns-then-place-len-clause-at : goal.returns-then-place-len-clause-at
returns-then-place-len-clause-at c =
    next_place c.args.events.now c.args.place.now.done
    (omega (arith, c.requires.at.inside, c.if-place-events.false)) c.requires.at.filled

pub returns-else-place-len-clause-plays : goal.returns-else-place-len-clause-plays
returns-else-place-len-clause-plays c =
    let bytes = c.in-Piece.bytes in
    let given = c.args.place.now.given in
    let inside : c.args.place.now.done < length c.args.events.now =
    omega (arith, c.requires.at.inside, c.if-place-events.false) in
    let head = head_is c.args.events.now c.args.place.now.done c.index-events-place.result
    (Events.Piece bytes) inside c.index-events-place.is c.in-Piece.is in
    let within : given < length bytes.items =
    subst (λ (t : List ReadEvent). IsWithin t given) head c.requires.at.within in
    let value = c.deref.ensures.value in
    let size : length bytes.items ≡ c.len.result =
    ap (λ (t : List ℕ). length t) (sym value) ∙ c.deref.ensures.len ∙ sym c.len.ensures in
    let some : given + c.copy_from-n.result ≢ length bytes.items = λ e. c.if-place-len.false (e ∙ size) in
    rw head (part_plays bytes.items c.copy_from-n.new.buf given c.copy_from-n.result _ within
    (c.copy_from-n.ensures.count
    ∙ ap (λ (t : List ℕ). min (length t - given) (length c.copy_from-n.new.buf)) value)
    (c.copy_from-n.ensures.is ∙ ap (λ (t : List ℕ). take c.copy_from-n.result (drop given t)) value) some)

pub returns-else-place-len-clause-gives : goal.returns-else-place-len-clause-gives
returns-else-place-len-clause-gives c =
    let bytes = c.in-Piece.bytes in
    let given = c.args.place.now.given in
    let n = c.copy_from-n.result in
    let inside : c.args.place.now.done < length c.args.events.now =
    omega (arith, c.requires.at.inside, c.if-place-events.false) in
    let head = head_is c.args.events.now c.args.place.now.done c.index-events-place.result
    (Events.Piece bytes) inside c.index-events-place.is c.in-Piece.is in
    let got : take n c.copy_from-n.new.buf ≡ take n (drop given bytes.items) =
    c.copy_from-n.ensures.is ∙ ap (λ (t : List ℕ). take n (drop given t)) c.deref.ensures.value in
    rw head (part_gives _ bytes.items c.copy_from-n.new.buf given n got)

pub returns-in-NotYet-clause-at : goal.returns-in-NotYet-clause-at
returns-in-NotYet-clause-at c =
    let inside : c.args.place.now.done < length c.args.events.now =
    omega (arith, c.requires.at.inside, c.if-place-events.false) in
    let head = head_is c.args.events.now c.args.place.now.done c.index-events-place.result
    Events.NotYet inside c.index-events-place.is c.in-NotYet.is in
    let none = subst (λ (t : List ReadEvent). IsWithin t c.args.place.now.given) head c.requires.at.within in
    subst (λ n. IsPlace c.args.events.now (c.args.place.now.done + 1) n) (sym none)
    (next_place c.args.events.now c.args.place.now.done inside c.requires.at.filled)

pub returns-in-Fail-clause-at : goal.returns-in-Fail-clause-at
returns-in-Fail-clause-at c =
    let inside : c.args.place.now.done < length c.args.events.now =
    omega (arith, c.requires.at.inside, c.if-place-events.false) in
    let head = head_is c.args.events.now c.args.place.now.done c.index-events-place.result
    Events.Fail inside c.index-events-place.is c.in-Fail.is in
    let none = subst (λ (t : List ReadEvent). IsWithin t c.args.place.now.given) head c.requires.at.within in
    subst (λ n. IsPlace c.args.events.now (c.args.place.now.done + 1) n) (sym none)
    (next_place c.args.events.now c.args.place.now.done inside c.requires.at.filled)
