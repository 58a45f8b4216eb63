use Rattle.std.proofs.Common.{◌≡◌, refl}
use Rattle.answer_lines.specs.Totals.{totals_line, totals_text}
use Rattle.job_answer.proofs.Sinks.{puts-line}
use Rattle.job_answer.proofs.output.lines.put_totals_line.Goals as goal

pub returns : goal.returns
returns g c =
    let t = c.of-totals.result in
    let same : totals_line c.args.source t.reached t.sum t.greatest t.farthest ≡ totals_text c.args.source c.args.labels.now =
    rw (c.of-totals.ensures.reached, c.of-totals.ensures.sum, c.of-totals.ensures.greatest, c.of-totals.ensures.farthest) refl in
    rw (← same)
    (puts-line g.W.Write.contents c.args.sink.now _ _ c.put_totals-put.result c.put_totals-put.ensures.ok refl refl refl refl
    c.end.ensures)
