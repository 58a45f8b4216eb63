use Rattle.std.proofs.Common.{◌++◌, ap, refl, sym}
use Rattle.job_answer.proofs.Sinks.{puts-line, text-then}
use Rattle.job_answer.proofs.output.sink.Sink.put_all.Goals as goal

pub returns-clause-put : goal.returns-clause-put
returns-clause-put g c =
    let line = puts-line g.W.Write.contents c.send.new.self _ _ _
    (ap (λ xs. xs ++ c.args.text.items) (sym c.send.ensures.none)) refl refl refl refl c.end.ensures in
    text-then g.W.Write.contents c.send.ensures.still line.still c.send.ensures.put (line.each _ refl)
