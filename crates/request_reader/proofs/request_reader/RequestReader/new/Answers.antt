use Rattle.std.proofs.Common.{arith}
use Rattle.request_reader.proofs.Steps.{begins_all}
use Rattle.request_reader.proofs.request_reader.RequestReader.new.Goals as goal

pub returns-clause-requests : goal.returns-clause-requests
returns-clause-requests c =
    begins_all c.args.vertices c.new.result c.args.line c.args.line c.new.ensures.read c.new.ensures.begun
    (grind (arith, c.ranges.line.fits))
