use Rattle.job_answer.proofs.Known.{splits-more}
use Rattle.job_answer.proofs.output.sink.write_bytes.Goals as goal

pub loop-rest-preserved : goal.loop-rest-preserved
loop-rest-preserved g c =
    rw c.split_at.ensures.back (splits-more _ _ _ _ _ _ c.loop-rest.invariant c.in_ok-count.ensures.bytes)
