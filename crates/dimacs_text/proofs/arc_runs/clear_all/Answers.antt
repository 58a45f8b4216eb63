use Rattle.std.proofs.Common.{arith, subst, All}
use Rattle.std.proofs.lemmas.List.{take_all}
use Rattle.dimacs_text.specs.Reading.{AreRunsOf}
use Rattle.dimacs_text.proofs.ArcRunLemmas.{all_set}
use Rattle.dimacs_text.proofs.arc_runs.clear_all.Goals as goal

pub loop-list-preserved : goal.loop-list-preserved
loop-list-preserved c bytes =
    all_set (AreRunsOf bytes) c.loop-list.lists c.loop-list.list-index c.clear.new.self
    (omega (arith, c.loop-list-test.true, c.loop-list.auto.lists)) (c.loop-list.invariant bytes)
    (c.clear.ensures.runs bytes)

pub returns : goal.returns
returns c bytes =
    subst (λ l. All (AreRunsOf bytes) l) (take_all c.loop-list.list-index c.loop-list.lists (omega arith))
    (c.loop-list.invariant bytes)
