use Rattle.warp_core.proofs.serve.fn.turn_all.for_each_mut.Goals as goal

pub serve_row-requires : goal.serve_row-requires
serve_row-requires g c = c.requires

pub returns : goal.returns
returns g c = (c.serve_row.ensures.serves, c.serve_row.ensures.goes_on, c.serve_row.ensures.on)
