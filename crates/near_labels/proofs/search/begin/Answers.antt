use Rattle.near_labels.proofs.Lowering.{pause-begin}
use Rattle.near_labels.proofs.search.begin.Goals as goal

pub returns-clause-pause : goal.returns-clause-pause
returns-clause-pause c =
    λ is.
    rw (c.lower.ensures.labels is, c.lower.ensures.marks is)
    (pause-begin c.args.csr.now _ _ c.args.source c.n-vertices.ensures.in_rows c.requires.count c.requires.blank c.requires.source)
