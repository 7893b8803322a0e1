use Rattle.event_mgr.proofs.LeastMissing.{drawn_is_least, all_are_out}
use Rattle.event_mgr.proofs.laws.a_draw_gives_the_least_number.Goals as goal

pub returns-clause-drawn : goal.returns-clause-drawn
returns-clause-drawn c = drawn_is_least

pub returns-clause-all_out : goal.returns-clause-all_out
returns-clause-all_out c = all_are_out
