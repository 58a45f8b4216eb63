use Rattle.std.proofs.Common.{refl}
use Rattle.answer_lines.specs.Lines.{grown_text}
use Rattle.job_answer.proofs.Sinks.{puts-line, puts-then}
use Rattle.job_answer.proofs.output.blocks.put_grown_block.Goals as goal

pub returns : goal.returns
returns g c =
    puts-then g.W.Write.contents
    (λ text is. (grown_text c.args.grown.now.count, is.block, refl, is.is_block, is.written))
    (puts-line g.W.Write.contents c.args.sink.now _ _ c.put_grown-put.result c.put_grown-put.ensures.ok refl refl refl refl
    c.end.ensures)
    c.put_block.ensures
