use Rattle.std.proofs.Common.{◌++◌, drop}
use Rattle.answer_lines.specs.Lines.{label_text, source_text}
use Rattle.job_answer.specs.Within.{listed_text}
use Rattle.job_answer.proofs.Sinks.{Lacks}
use Rattle.job_answer.proofs.output.lines.put_listed.Given as goal

abbrev pub invariant-loop-entry : goal.invariant-loop-entry
invariant-loop-entry g l =
    Lacks g.W.Write.contents (listed_text label_text (drop l.entry-index l.found))
    (source_text l.source ++ listed_text label_text l.found)
    l.fn.sink l.sink
