use Rattle.std.proofs.Common.{arith, subst, All}
use Rattle.std.proofs.lemmas.List.{take_all}
use Rattle.dimacs_text.specs.reader.ArcRuns.{IsArcRun}
use Rattle.dimacs_text.proofs.ArcRunLemmas.{all_set}
use Rattle.dimacs_text.proofs.arc_runs.empty_all.Goals as goal

pub loop-run-preserved : goal.loop-run-preserved
loop-run-preserved c bytes =
    all_set (IsArcRun bytes) c.loop-run.runs c.loop-run.run-index c.begin.new.self
    (omega (arith, c.loop-run-test.true, c.loop-run.auto.runs)) (c.loop-run.invariant bytes)
    (c.begin.ensures.empty bytes (omega arith))

pub returns : goal.returns
returns c bytes =
    subst (λ l. All (IsArcRun bytes) l) (take_all c.loop-run.run-index c.loop-run.runs (omega arith))
    (c.loop-run.invariant bytes)
