use Rattle.relax_core.proofs.Stopping.{runs_dont_stop, stops_once}
use Rattle.relax_core.proofs.laws.stopping.Goals as goal

pub returns : goal.returns
returns c = record { run = runs_dont_stop; once = stops_once }
