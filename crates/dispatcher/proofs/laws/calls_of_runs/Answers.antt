use Rattle.dispatcher.proofs.Calls.{calls_none, calls_then, calls_opened, calls_registered, calls_withdrawn}
use Rattle.dispatcher.proofs.Calls.{calls_asked, calls_closed}
use Rattle.dispatcher.proofs.laws.calls_of_runs.Goals as goal

pub returns : goal.returns
returns g c = record {
  none = calls_none;
  several = calls_then;
  opened = calls_opened c.calls_weigh.ensures;
  registered = calls_registered c.calls_weigh.ensures;
  withdrawn = calls_withdrawn c.calls_weigh.ensures;
  asked = calls_asked c.calls_weigh.ensures;
  closed = calls_closed c.calls_weigh.ensures;
}
