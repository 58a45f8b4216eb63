use Rattle.dimacs_text.specs.reader.ArcRuns.{IsArcRun}
use Rattle.dimacs_text.proofs.ArcRunLemmas.{all_pushed}
use Rattle.dimacs_text.proofs.arc_runs.ArcRuns.open.Goals as goal

pub returns-else-place-len-clause-runs : goal.returns-else-place-len-clause-runs
returns-else-place-len-clause-runs c bytes before =
    all_pushed (IsArcRun bytes) c.push.result c.args.self.now.runs.items c.push.new.self.items c.new.result
    c.push.ensures.items before (c.new.ensures bytes)
