use Rattle.job_reader.proofs.step.step.Goals as goal
use Rattle.job_reader.proofs.step.step.Goals.{then-threads-lt2+in_ok-ended, else-threads-lt2+in_ok-ended-2}

pub returns-clause-on : goal.returns-clause-on
returns-clause-on g c =
    elim c.if-threads-lt2.branch [
      | then-threads-lt2+in_ok-ended w ↦
          rw (w.reader-is, w.job-is, w.pieces-is, w.ended-is) w.in_ok-ended.ensures.on
      | else-threads-lt2+in_ok-ended-2 w ↦
          rw (w.reader-is, w.job-is, w.pieces-is, w.ended-is) w.in_ok-ended-2.ensures.on
    ]
