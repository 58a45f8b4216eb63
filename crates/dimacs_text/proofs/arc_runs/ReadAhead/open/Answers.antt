use Rattle.std.proofs.lemmas.Grind.{common_steps}
use Rattle.std.proofs.Common.{arith}
use Rattle.dimacs_text.proofs.ArcRunLemmas.{one_list_more}
use Rattle.dimacs_text.proofs.arc_runs.ReadAhead.open.Goals as goal

pub returns-then-is_err-clause-ahead : goal.returns-then-is_err-clause-ahead
returns-then-is_err-clause-ahead c bytes before =
    one_list_more bytes c.loop-self.self c.push.result _ c.new.result c.push.ensures.items
    (c.loop-self.invariant.ahead bytes before) (c.new.ensures bytes)

pub loop-self-preserved : goal.loop-self-preserved
loop-self-preserved c = record {
  ahead = λ bytes before.
      one_list_more bytes c.loop-self.self c.push.result _ c.new.result c.push.ensures.items
      (c.loop-self.invariant.ahead bytes before) (c.new.ensures bytes);
  few = grind (arith, common_steps);
}
