use Rattle.std.proofs.Common.{◌++◌}
use Rattle.job_reader.proofs.Feeding.{IsFedOn}
use Rattle.job_reader.proofs.arcs.read_sure.Given as goal

abbrev pub invariant-loop : goal.invariant-loop
invariant-loop g l = record {
  fed : IsFedOn l.initial.job l.job (l.pieces.front ++ l.pieces.back) l.limit l.left
      (g.R.Read.remaining l.initial.reader) (g.R.Read.remaining l.reader);
}
