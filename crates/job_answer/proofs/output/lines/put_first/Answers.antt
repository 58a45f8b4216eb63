use Rattle.std.proofs.Common.{refl}
use Rattle.job_answer.proofs.Sinks.{puts-line}
use Rattle.job_answer.proofs.output.lines.put_first.Goals as goal

pub returns : goal.returns
returns g c =
    puts-line g.W.Write.contents c.args.sink.now _ _ c.put_source-put.result c.put_source-put.ensures.ok refl refl refl refl
    c.end.ensures
