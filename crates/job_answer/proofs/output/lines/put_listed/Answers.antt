use Rattle.std.proofs.Common.{refl}
use Rattle.answer_lines.specs.Lines.{label_text, source_text}
use Rattle.job_answer.proofs.Listed.{listed_text-next}
use Rattle.job_answer.proofs.Sinks.{lacks-more, puts-line}
use Rattle.job_answer.proofs.output.lines.put_listed.Goals as goal

pub loop-entry-init : goal.loop-entry-init
loop-entry-init g c = record { text = source_text c.args.source; is = refl; put = c.put_first.ensures }

pub loop-entry-preserved : goal.loop-entry-preserved
loop-entry-preserved g c =
    lacks-more g.W.Write.contents
    (rw (listed_text-next label_text c.args.found.now c.loop-entry.entry-index c.loop-entry-test.true) at c.loop-entry.invariant)
    (puts-line g.W.Write.contents c.loop-entry.sink _ _ c.put_label-put.result c.put_label-put.ensures.ok refl refl refl refl
    c.end.ensures)
