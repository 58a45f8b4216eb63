use Rattle.relax_core.proofs.Running.{event_keeps_lawful, run_keeps_lawful}
use Rattle.relax_core.proofs.laws.running.Goals as goal

pub returns : goal.returns
returns c = record { event = event_keeps_lawful; run = run_keeps_lawful }
