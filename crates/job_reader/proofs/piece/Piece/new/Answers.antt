use Rattle.std.proofs.Common.{arith}
use Rattle.job_reader.proofs.piece.Piece.new.Goals as goal

pub invariant_of-result : goal.invariant_of-result
invariant_of-result c = (omega (arith, c.requires, c.in_ok-vec.ensures.len), omega arith, c.new.ensures _)
