use Rattle.obim_engine.proofs.runs.push_marked.Given as goal

abbrev pub invariant-loop-v : goal.invariant-loop-v
invariant-loop-v g l = g.P.WorkPool.is_side l.shared.run.pool.now l.side
