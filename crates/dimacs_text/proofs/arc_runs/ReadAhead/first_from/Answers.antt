use Rattle.dimacs_text.specs.Reading.{AreRunsOf}
use Rattle.dimacs_text.proofs.ArcRunLemmas.{holds_of_item}
use Rattle.dimacs_text.proofs.arc_runs.ReadAhead.first_from.Goals as goal

pub loop-list-init : goal.loop-list-init
loop-list-init c bytes is =
    c.first_from-first.ensures bytes is.another (c.first_from.ensures bytes is.one (record {}))

pub loop-list-preserved : goal.loop-list-preserved
loop-list-preserved c bytes is =
    c.first_from-first-in-loop-list.ensures bytes
    (holds_of_item (AreRunsOf bytes) c.deref-list-items.result.now c.loop-list.list-index c.list-item.result
    c.loop-list-test.true (rw c.deref-list-items.ensures.value is.others) c.list-item.is) (c.loop-list.invariant bytes is)
