use Rattle.std.proofs.Common.{drop}
use Rattle.job_answer.specs.LineWalks.{text_by}
use Rattle.job_answer.specs.Within.{lines_within, text_within}
use Rattle.job_answer.proofs.Sinks.{Lacks}
use Rattle.job_answer.proofs.output.lines.put_within.Given as goal

abbrev pub invariant-loop-v : goal.invariant-loop-v
invariant-loop-v g l =
    Lacks g.W.Write.contents (lines_within l.bound (text_by l.walks) l.v (drop l.v l.labels))
    (text_within l.source l.bound (text_by l.walks) l.labels) l.fn.sink l.sink
