-- A tally's past with one call more.
use Rattle.std.proofs.Common.{◌≡◌, ℕ, ◌+◌, ◌<◌, ◌≤◌, ◌^◌, Bool, List, [], ◌∷◌, ◌++◌, length, map, reverse}
use Rattle.std.proofs.Common.{refl, sym, ap, ◌∙◌, subst, arith}
use Rattle.std.proofs.lemmas.List.{length-map, map-append, reverse-append, length-reverse}
use Rattle.warp_tally.specs.declared.calls.TallyCall.{TallyCall}
use Rattle.warp_tally.specs.declared.calls.TallyCall.TheVariants.{Accept, TurnAway, Finish, Stop, Look}
use Rattle.warp_tally.specs.declared.calls.Counted.{Counted}
use Rattle.warp_tally.specs.declared.calls.Counted.TheVariants.{Yes, No, NoMemory}
use Rattle.warp_tally.specs.declared.calls.TallyReply.{TallyReply}
use Rattle.warp_tally.specs.declared.calls.TallyEntry.{TallyEntry}
use Rattle.warp_tally.specs.declared.tally.Tally.{Tally}
use Rattle.warp_tally.specs.Tallies.{Totals, tally_past, is_open, open_after, totals_after, totals_of}
use Rattle.warp_tally.specs.Tallies.{is_unstopped, yes_if, counts, reply_with, tally_reply}
use Rattle.warp_tally.specs.RepresentsTally.{totals_in, RepresentsTally}
use Rattle.warp_tally.specs.Moves.{counts_in, HasMoved, HasRoom}

pub past_more : (l : List (ℕ × TallyEntry)) (seat : ℕ) (e : TallyEntry)
    → tally_past (l ++ (seat, e) ∷ []) ≡ e ∷ tally_past l
past_more l seat e = ap reverse (map-append (λ (x : ℕ × TallyEntry). x.1) l ((seat, e) ∷ []))
    ∙ reverse-append (map (λ (x : ℕ × TallyEntry). x.1) l) (e ∷ [])

past_length : (l : List (ℕ × TallyEntry)) → length (tally_past l) ≡ length l
past_length l =
    length-reverse (map (λ (x : ℕ × TallyEntry). x.1) l) ∙ length-map l (λ (x : ℕ × TallyEntry). x.1)

-- what a tally holds says whether a call counts after its past
same_counts : (past : List TallyEntry) (t : Tally) → RepresentsTally past t → (room : Bool) (call : TallyCall)
    → counts_in room t call ≡ counts room past call
same_counts past t s room (Accept o) = refl
same_counts past t s room TurnAway = refl
same_counts past t s room (Finish o) = ap yes_if (s.holds_open o)
same_counts past t s room (Stop code) = ap (λ (x : Totals). yes_if (is_unstopped x.stop)) s.counts
same_counts past t s room Look = refl

pub stands_more : (past : List TallyEntry) (t u : Tally) (call : TallyCall) (counted : Counted)
    (r : TallyReply)
    → RepresentsTally past t → HasMoved call counted t u
    → r ≡ reply_with counted (totals_in u) → RepresentsTally (record { call = call; reply = r } ∷ past) u
stands_more past t u call counted r s m is = let c = m.counts ∙ same_counts past t s m.room call in
    let all : totals_in u ≡ totals_after call counted (totals_of past) = m.totals
    ∙ ap (totals_after call counted) s.counts in
    let right : r ≡ tally_reply m.room past call = is
    ∙ (ap (reply_with counted) all
    ∙ ap (λ (b : Counted). reply_with b (totals_after call b (totals_of past))) c) in
    let same : counted ≡ r.counted = sym (ap (λ (x : TallyReply). x.counted) is) in record {
      right = ((m.room, right), s.right);
      holds_open = λ o. m.opens o
          ∙ (ap (open_after call counted o) (s.holds_open o)
          ∙ ap (λ (b : Counted). open_after call b o (is_open o past)) same);
      counts = all ∙ ap (λ (b : Counted). totals_after call b (totals_of past)) same;
    }

pub stands_last : (h : List (ℕ × TallyEntry)) (seat : ℕ) (t u : Tally) (call : TallyCall) (counted : Counted)
    (r : TallyReply) → RepresentsTally (tally_past h) t → HasMoved call counted t u
    → r ≡ reply_with counted (totals_in u)
    → RepresentsTally (tally_past (h ++ (seat, record { call = call; reply = r }) ∷ [])) u
stands_last h seat t u call counted r s m is =
    subst (λ (l : List TallyEntry). RepresentsTally l u)
    (sym (past_more h seat (record { call = call; reply = r })))
    (stands_more (tally_past h) t u call counted r s m is)

-- each count is at most one for each entry
counts_one : (call : TallyCall) (counted : Counted) (t : Totals) → let u = totals_after call counted t in
    (u.accepted ≤ t.accepted + 1) × (u.turned ≤ t.turned + 1) × (u.finished ≤ t.finished + 1)
counts_one (Accept o) Yes t = (omega arith, omega arith, omega arith)
counts_one (Accept o) No t = (omega arith, omega arith, omega arith)
counts_one (Accept o) NoMemory t = (omega arith, omega arith, omega arith)
counts_one TurnAway Yes t = (omega arith, omega arith, omega arith)
counts_one TurnAway No t = (omega arith, omega arith, omega arith)
counts_one TurnAway NoMemory t = (omega arith, omega arith, omega arith)
counts_one (Finish o) Yes t = (omega arith, omega arith, omega arith)
counts_one (Finish o) No t = (omega arith, omega arith, omega arith)
counts_one (Finish o) NoMemory t = (omega arith, omega arith, omega arith)
counts_one (Stop c) Yes t = (omega arith, omega arith, omega arith)
counts_one (Stop c) No t = (omega arith, omega arith, omega arith)
counts_one (Stop c) NoMemory t = (omega arith, omega arith, omega arith)
counts_one Look b t = (omega arith, omega arith, omega arith)

counts_few : (past : List TallyEntry) → let t = totals_of past in
    (t.accepted ≤ length past) × (t.turned ≤ length past) × (t.finished ≤ length past)
counts_few [] = (omega arith, omega arith, omega arith)
counts_few (e ∷ past) = let r = counts_few past in
    let o = counts_one e.call e.reply.counted (totals_of past) in
    (omega (arith, r, o), omega (arith, r, o), omega (arith, r, o))

pub room_for : (h : List (ℕ × TallyEntry)) (t : Tally) → RepresentsTally (tally_past h) t
    → length h < 2 ^ 62 → HasRoom t
room_for h t s l =
    let f = counts_few (tally_past h) in
    let n = past_length h in
    let a = ap (λ (x : Totals). x.accepted) s.counts in
    let b = ap (λ (x : Totals). x.turned) s.counts in
    let c = ap (λ (x : Totals). x.finished) s.counts in
    (omega (arith, f, n, a, l), omega (arith, f, n, b, l), omega (arith, f, n, c, l))
