use Rattle.std.proofs.Common.{◌∙◌, ap, arith}
use Rattle.warp_response.specs.Reply.{refusal_reply}
use Rattle.conn_loop.specs.ConnState.{ConnState}
use Rattle.conn_loop.proofs.ViewLemmas.{kept_closed, refused_is}
use Rattle.conn_loop.proofs.conn.Conn.refuse.Goals as goal

pub invariant_of-self : goal.invariant_of-self
invariant_of-self g c =
    let inside = c.self.inside in (
      omega (
        arith,
        c.note.ensures.len,
        c.self.invariant.0,
        ap (λ (s : ConnState). s.left) c.self.view_is,
        c.requires.some,
      ),
      omega (arith, c.note.ensures.room, c.self.invariant.1),
      kept_closed inside.input inside.path inside.left c.args.code inside.phase
          (ap (λ (s : ConnState). s.stage) c.self.view_is ∙ c.requires.refusing) c.self.invariant.2,
      c.self.invariant.3,
    )

pub returns : goal.returns
returns g c = (
  c.now-moment.result,
  refused_is _ c.args.self.now c.add.new.self c.note.new.moments.items c.bytes.result.now
      c.args.code c.now-moment.result c.self.view_is c.add.ensures
      (c.bytes.ensures
      ∙ c.head_bytes.ensures.reply (refusal_reply c.args.code) (c.refusal-response.ensures.reply _))
      c.note.ensures.items,
  c.now-moment.ensures.gives,
)
