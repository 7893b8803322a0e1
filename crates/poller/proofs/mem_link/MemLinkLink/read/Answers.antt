use Rattle.std.proofs.Common.{◌≡◌, ◌+◌, ◌-◌, ◌++◌, List, length, min, take, sym, ap, ◌∙◌, subst, arith}
use Rattle.std.proofs.Math.Seq.{take-length}
use Rattle.std.proofs.lemmas.List.{length-take}
use Rattle.outside.specs.declared.link.ReadOut.TheVariants as Reads
use Rattle.poller.specs.NetLinks.{NetLink, ReadsNet, given_of, net_link_of}
use Rattle.poller.specs.Scripts.{pieces_in}
use Rattle.poller.proofs.LinkLemmas.{plays_got, takes_got}
use Rattle.poller.proofs.mem_link.MemLinkLink.read.Goals as goal

pub returns-then-self-reach-clause-takes : goal.returns-then-self-reach-clause-takes
returns-then-self-reach-clause-takes c =
    let s = c.delivered-delivered.new.self in
    let l : NetLink = net_link_of s in
    let n = c.copy_from-n.result in
    let buf = c.copy_from-n.new.buf in
    let e = c.delivered-delivered.ensures in
    let r = c.reach-reach.ensures in
    let input = c.deref.result.now in
    let whole : input ≡ pieces_in l.steps =
    c.deref.ensures.value ∙ (s.laid.whole ∙ ap pieces_in (take-length l.steps)) in
    let t = length-take c.reach-reach.result.input input in
    let w : length input ≡ length s.script.input.items = ap length c.deref.ensures.value in
    let count : n ≡ min (c.reach-reach.result.input - l.given) (length buf) =
    omega (arith, c.copy_from-n.ensures.count, t, w, r.within) in
    takes_got l (net_link_of c.args.self.now).delivered
    (net_link_of c.args.self.now).looks c.delivered-delivered.result c.reach-reach.result.input e.found
    e.looked e.later e.most r.input input buf whole n c.if-self-reach.true count c.copy_from-n.ensures.is
    ∙ ap (λ (k : List _). k ++ take n buf) (sym (ap given_of e.same))

pub returns-then-self-reach-clause-plays : goal.returns-then-self-reach-clause-plays
returns-then-self-reach-clause-plays c =
    let s = c.delivered-delivered.new.self in
    let l : NetLink = net_link_of s in
    let n = c.copy_from-n.result in
    let buf = c.copy_from-n.new.buf in
    let e = c.delivered-delivered.ensures in
    let r = c.reach-reach.ensures in
    let input = c.deref.result.now in
    let whole : input ≡ pieces_in l.steps =
    c.deref.ensures.value ∙ (s.laid.whole ∙ ap pieces_in (take-length l.steps)) in
    let t = length-take c.reach-reach.result.input input in
    let w : length input ≡ length s.script.input.items = ap length c.deref.ensures.value in
    let count : n ≡ min (c.reach-reach.result.input - l.given) (length buf) =
    omega (arith, c.copy_from-n.ensures.count, t, w, r.within) in
    subst (λ (o : NetLink). ReadsNet o (record l { given = l.given + n }) (Reads.Got n) buf) (sym e.same)
    (plays_got l (net_link_of c.args.self.now).delivered
    (net_link_of c.args.self.now).looks c.delivered-delivered.result c.reach-reach.result.input e.found
    e.looked e.later e.most r.input input buf whole n c.if-self-reach.true count c.copy_from-n.ensures.is)
