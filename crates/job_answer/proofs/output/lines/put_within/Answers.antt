use Rattle.std.proofs.Common.{refl}
use Rattle.answer_lines.specs.Lines.{source_text}
use Rattle.job_answer.specs.LineWalks.{text_by}
use Rattle.job_answer.proofs.Sinks.{lacks-more}
use Rattle.job_answer.proofs.Told.{lines_within-next}
use Rattle.job_answer.proofs.output.lines.put_within.Goals as goal

pub loop-v-init : goal.loop-v-init
loop-v-init g c = record { text = source_text c.args.source; is = refl; put = c.put_first.ensures }

pub loop-v-preserved : goal.loop-v-preserved
loop-v-preserved g c =
    lacks-more g.W.Write.contents
    (rw (lines_within-next c.args.bound (text_by c.args.walks.now) c.loop-v.v c.args.labels.now c.loop-v-test.true) at
    c.loop-v.invariant)
    c.put_vertex.ensures
