use Rattle.std.proofs.Common.{[], arith}
use Rattle.dimacs_text.proofs.reader.read_job.Goals as goal

pub returns-in-Ok-clause-job : goal.returns-in-Ok-clause-job
returns-in-Ok-clause-job c =
    c.finish.ensures.job c.args.bytes.now (c.in-Ok.ensures.reads [] c.new-reader.ensures (omega (arith, c.requires)))

pub returns-in-Ok-clause-within : goal.returns-in-Ok-clause-within
returns-in-Ok-clause-within c =
    c.finish.ensures.within c.args.bytes.now (c.in-Ok.ensures.reads [] c.new-reader.ensures (omega (arith, c.requires)))

pub returns-in-Ok-clause-fault : goal.returns-in-Ok-clause-fault
returns-in-Ok-clause-fault c =
    c.finish.ensures.fault c.args.bytes.now (c.in-Ok.ensures.reads [] c.new-reader.ensures (omega (arith, c.requires)))
