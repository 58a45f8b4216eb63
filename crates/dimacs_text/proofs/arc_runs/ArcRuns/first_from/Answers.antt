use Rattle.dimacs_text.specs.reader.ArcRuns.{IsArcRun}
use Rattle.dimacs_text.proofs.ArcRunLemmas.{holds_of_item}
use Rattle.dimacs_text.proofs.arc_runs.ArcRuns.first_from.Goals as goal
use Rattle.dimacs_text.proofs.arc_runs.ArcRuns.first_from.Goals.{then-from-run+then-not-is_empty, else-from-run}

pub loop-run-preserved : goal.loop-run-preserved
loop-run-preserved c bytes all other =
    let before = c.loop-run.invariant bytes all other in
    elim c.if-from-run.branch [
      | then-from-run+then-not-is_empty w ↦
          rw w.first-is
          (w.earlier-first.ensures bytes c.args.from
          (record {
            is_run =
                holds_of_item (IsArcRun bytes) c.deref-run-items.result.now c.loop-run.run-index c.run-item.result
                c.loop-run-test.true (rw c.deref-run-items.ensures.value all) c.run-item.is;
            begins = w.if-from-run.true;
          }) before)
      | else-from-run w ↦ rw w.first-is before
    ]
