use Rattle.std.proofs.Common.{◌++◌, ℕ, List, drop}
use Rattle.answer_lines.specs.Lines.{source_text}
use Rattle.job_answer.specs.NearBlock.{AreTextsOf}
use Rattle.job_answer.specs.Within.{listed_text}
use Rattle.job_answer.proofs.Sinks.{Lacks}
use Rattle.job_answer.proofs.output.lines.put_walked.Given as goal

abbrev pub invariant-loop-place : goal.invariant-loop-place
invariant-loop-place g l =
    (text : ℕ → ℕ → List ℕ) → AreTextsOf text l.found l.walks
    → Lacks g.W.Write.contents (listed_text text (drop l.place l.found)) (source_text l.source ++ listed_text text l.found)
    l.fn.sink l.sink
