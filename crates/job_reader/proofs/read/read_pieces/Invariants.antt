use Rattle.std.proofs.Common.{◌≡◌, ◌+◌, ◌++◌, true, cond}
use Rattle.std.specs.Io.KnownBytes.{IsAtEnd}
use Rattle.job_reader.proofs.Feeding.{IsFed}
use Rattle.job_reader.proofs.read.read_pieces.Given as goal

abbrev pub invariant-loop-ended : goal.invariant-loop-ended
invariant-loop-ended g l = record {
  fed : IsFed l.job (l.pieces.front ++ l.pieces.back) l.limit l.left (g.R.Read.remaining l.initial.reader)
      (g.R.Read.remaining l.reader);
  end : l.ended ≡ true → IsAtEnd (g.R.Read.remaining l.reader);
}

abbrev pub decreases-loop-ended : goal.decreases-loop-ended
decreases-loop-ended g l = cond l.ended 0 (l.left + 1)
